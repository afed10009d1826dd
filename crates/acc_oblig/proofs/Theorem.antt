-- Where all obligations of a well-formed design are true, it is sound.
use Rattle.std.proofs.Common.{◌≡◌, ℕ, List, ◌++◌, refl, ap, sym, ◌∙◌, subst, Some}
use Rattle.std.specs.Prelude.{slice_get, option_and_then}
use Rattle.std.specs.List.{AllByRecursion}
use Rattle.std.proofs.lemmas.List.Elements.{recursion_from_All}
use Rattle.acc_base.specs.declared.tables.Row.{Row}
use Rattle.acc_base.specs.declared.steps.Target.{Target}
use Rattle.acc_base.specs.declared.designs.Design.{Design}
use Rattle.acc_base.specs.declared.designs.Side.{Side}
use Rattle.acc_base.specs.declared.designs.Side.TheVariants.{Undo}
use Rattle.acc_base.specs.declared.machines.Frame.{Frame}
use Rattle.acc_base.specs.Linear.{variables}
use Rattle.acc_base.specs.Reads.{Reading}
use Rattle.acc_base.specs.Effects.{Effect, Goes, Refuses, OutOfRange, point_of, step_at, step_of, effect_of}
use Rattle.acc_base.specs.RowsAfter.{AreThere}
use Rattle.acc_formed.specs.WellFormed.{IsWellFormed}
use Rattle.acc_base.specs.Fits.{IsReady}
use Rattle.acc_base.specs.Soundness.{IsSound, WhereGoes, actions_of, actions_of_path}
use Rattle.acc_oblig.specs.PathPromises.{promise_drafts, always_drafts, there_drafts, empty_drafts}
use Rattle.acc_oblig.specs.Spares.{all_spare_drafts}
use Rattle.acc_oblig.specs.PointRules.{begin_drafts, variant_drafts, clear_drafts}
use Rattle.acc_oblig.specs.Ranges.{range_drafts}
use Rattle.acc_oblig.specs.Laws.{drafts_of, TrueGivesSound}
use Rattle.acc_oblig.proofs.Judged.{DraftTrue}
use Rattle.acc_oblig.proofs.Listed.{all_front, all_back}
use Rattle.acc_oblig.proofs.OnPath.{OnPath, on_path}
use Rattle.acc_oblig.proofs.PathRules.{paths_there, meets, always_after}
use Rattle.acc_oblig.proofs.SpareRules.{spared}
use Rattle.acc_oblig.proofs.EmptyRule.{empty_always}
use Rattle.acc_oblig.proofs.Variants.{variant_bounds, falls}
use Rattle.acc_oblig.proofs.Begun.{begun_holds}
use Rattle.acc_oblig.proofs.Clears.{clears}
use Rattle.acc_oblig.proofs.RangeRule.{undo_in_range, undo_shared}

-- what holds of each step that goes on or ends
where_goes :
    (P : List Row → Reading → ℕ → Target → Type 0) (x : Effect)
    → ((after : List Row) (last : Reading) (j : ℕ) (to : Target) → x ≡ Goes after last j to → P after last j to) → WhereGoes P x
where_goes P (Goes after last j to) h = h after last j to refl
where_goes P (Refuses last n) h = tt
where_goes P OutOfRange h = tt

module _ (d : Design) (wf : IsWellFormed d) (all : AllByRecursion (DraftTrue d) (drafts_of d)) where
  begin_all : AllByRecursion (DraftTrue d) (begin_drafts d)
  begin_all = all_front (DraftTrue d) (begin_drafts d) _ all

  rest_1 :
      AllByRecursion (DraftTrue d) (promise_drafts
      d
      ++ (always_drafts d ++ (all_spare_drafts d
      ++ (there_drafts d ++ (range_drafts d ++ (variant_drafts d ++ (clear_drafts d ++ empty_drafts d)))))))
  rest_1 = all_back (DraftTrue d) (begin_drafts d) _ all

  rest_2 :
      AllByRecursion (DraftTrue d) (always_drafts
      d ++ (all_spare_drafts d ++ (there_drafts d ++ (range_drafts d ++ (variant_drafts d ++ (clear_drafts d ++ empty_drafts d))))))
  rest_2 = all_back (DraftTrue d) (promise_drafts d) _ rest_1

  rest_3 :
      AllByRecursion (DraftTrue d) (all_spare_drafts
      d ++ (there_drafts d ++ (range_drafts d ++ (variant_drafts d ++ (clear_drafts d ++ empty_drafts d)))))
  rest_3 = all_back (DraftTrue d) (always_drafts d) _ rest_2

  rest_4 : AllByRecursion (DraftTrue d) (there_drafts d ++ (range_drafts d ++ (variant_drafts d ++ (clear_drafts d ++ empty_drafts d))))
  rest_4 = all_back (DraftTrue d) (all_spare_drafts d) _ rest_3

  rest_5 : AllByRecursion (DraftTrue d) (range_drafts d ++ (variant_drafts d ++ (clear_drafts d ++ empty_drafts d)))
  rest_5 = all_back (DraftTrue d) (there_drafts d) _ rest_4

  rest_6 : AllByRecursion (DraftTrue d) (variant_drafts d ++ (clear_drafts d ++ empty_drafts d))
  rest_6 = all_back (DraftTrue d) (range_drafts d) _ rest_5

  rest_7 : AllByRecursion (DraftTrue d) (clear_drafts d ++ empty_drafts d)
  rest_7 = all_back (DraftTrue d) (variant_drafts d) _ rest_6

  module _ (db : List Row) (f : Frame) (ready : IsReady d db f) (side : Side) (after : List Row) (last : Reading) (j : ℕ) (to : Target)
      (e : effect_of d db f side ≡ Goes after last j to) where
    path : OnPath d db f side after last j to
    path = on_path d wf db f ready side after last j to e

    there : AreThere (variables f.t last.locals) path.path.actions db
    there = paths_there d wf db f ready side after last j to path (all_front (DraftTrue d) (there_drafts d) _ rest_4)

    actions_are : actions_of (step_of d f.ty f.point side) j ≡ path.path.actions
    actions_are =
        let point_is : point_of d f.ty f.point ≡ Some path.p = ap (λ k. option_and_then (λ y. slice_get y.points f.point) k) path.is_type
        ∙ path.is_point in
        ap (λ k. actions_of (option_and_then (λ y. Some (step_at side y)) k) j) point_is ∙ ap actions_of_path path.is_path

  sound : IsSound d
  sound = record {
    begins = λ db t call rows always fits first number fresh. begun_holds d wf begin_all db t call rows always first number fresh fits;
    meets =
        λ db f side ready. where_goes _ (effect_of d db f side)
        (λ after last j to e. meets d wf db f ready side after last j to (path db f ready side after last j to e)
        (there db f ready side after last j to e) (all_front (DraftTrue d) (promise_drafts d) _ rest_1));
    keeps =
        λ db f side ready. where_goes _ (effect_of d db f side)
        (λ after last j to e. always_after d wf db f ready side after last j to (path db f ready side after last j to e)
        (there db f ready side after last j to e) (all_front (DraftTrue d) (always_drafts d) _ rest_2));
    spares =
        λ db f side g ready fits other holds. where_goes _ (effect_of d db f side)
        (λ after last j to e free. spared d wf db f ready side after last j to (path db f ready side after last j to e)
        (there db f ready side after last j to e) (all_front (DraftTrue d) (all_spare_drafts d) _ rest_3) g fits other holds free);
    there =
        λ db f side ready. where_goes _ (effect_of d db f side)
        (λ after last j to e. subst (λ acts. AreThere (variables f.t last.locals) acts db)
        (sym (actions_are db f ready side after last j to e)) (there db f ready side after last j to e));
    in_range = λ db f ready. undo_in_range d wf db f ready (all_front (DraftTrue d) (range_drafts d) _ rest_5);
    shared =
        λ db f ready. where_goes _ (effect_of d db f Undo)
        (λ after last j to e. undo_shared d wf db f ready (all_front (DraftTrue d) (range_drafts d) _ rest_5) after last j to e
        (path db f ready Undo after last j to e));
    variant = λ db f ready. variant_bounds d db f ready (all_front (DraftTrue d) (variant_drafts d) _ rest_6);
    falls =
        λ db f ready. where_goes _ (effect_of d db f Undo)
        (λ after last j to e. falls d db f ready after last j to (path db f ready Undo after last j to e)
        (all_front (DraftTrue d) (variant_drafts d) _ rest_6));
    clears =
        λ db f side ready. where_goes _ (effect_of d db f side)
        (λ after last j to e. clears d wf db f ready side after last j to (path db f ready side after last j to e)
        (there db f ready side after last j to e) (all_front (DraftTrue d) (clear_drafts d) _ rest_7));
    empty = empty_always d wf (all_back (DraftTrue d) (clear_drafts d) _ rest_7);
  }

pub true_gives_sound : TrueGivesSound
true_gives_sound d wf h = sound d wf (recursion_from_All (DraftTrue d) (drafts_of d) h)
