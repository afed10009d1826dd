-- A transaction as Begin makes it.
use Rattle.std.proofs.Common.{◌≡◌, ℕ, zero, suc, ◌-◌, ◌^◌, ◌≤◌, true, List, [], length, get_or, replicate, refl, ap, sym, ◌∙◌, subst, arith}
use Rattle.std.proofs.Common.{Option, Some, None, pos, length-append, ◌==◌}
use Rattle.std.specs.Prelude.{slice_get, IsTrue, option_and_then, nat_le, ◌&&◌}
use Rattle.std.specs.List.{list_all, AllByRecursion}
use Rattle.std.proofs.lemmas.Bool.{false≢true, and_parts, eqb-true}
use Rattle.std.proofs.lemmas.List.{get_or-append_right, length-replicate}
use Rattle.std.proofs.lemmas.List.Elements.{recursion_from_All, All-from_recursion}
use Rattle.acc_base.specs.declared.tables.Row.{Row}
use Rattle.acc_base.specs.declared.designs.TxType.{TxType}
use Rattle.acc_base.specs.declared.designs.Design.{Design}
use Rattle.acc_base.specs.declared.machines.Frame.{Frame}
use Rattle.acc_base.specs.declared.machines.Call.{Call}
use Rattle.acc_base.specs.Numbers.{is_small, IsSmall}
use Rattle.acc_base.specs.Linear.{variables}
use Rattle.acc_base.specs.Truth.{ClauseTrue}
use Rattle.acc_base.specs.Assertions.{AllTrue, Holds, Always, clauses_of}
use Rattle.acc_base.specs.Effects.{point_of}
use Rattle.acc_base.specs.Machine.{call_fits, ask_fits, begun, locals_in}
use Rattle.acc_base.proofs.Smalls.{all_small}
use Rattle.acc_preconditions.proofs.Alls.{all-append}
use Rattle.acc_formed.specs.WellFormed.{IsWellFormed}
use Rattle.acc_formed.proofs.InRange.{TypeInRange, design_range}
use Rattle.acc_base.specs.Fits.{RowsFit}
use Rattle.acc_base.specs.PrivateRows.{HasNoPrivate}
use Rattle.acc_oblig.specs.PointRules.{begin_drafts}
use Rattle.acc_oblig.proofs.Judged.{DraftTrue}
use Rattle.acc_oblig.proofs.OnPath.{all_at}
use Rattle.acc_oblig.proofs.StepPlaces.{some_point}
use Rattle.acc_oblig.proofs.Variants.{Rests}
use Rattle.acc_oblig.proofs.Begins.{bare, ZerosBehind, begins_at}

zeros_small : (n : ℕ) → AllByRecursion IsSmall (replicate n (pos 0))
zeros_small zero = tt
zeros_small (suc n) = (omega arith, zeros_small n)

zero_at : (n i : ℕ) → get_or (replicate n (pos 0)) i (pos 0) ≡ pos 0
zero_at zero i = refl
zero_at (suc n) zero = refl
zero_at (suc n) (suc i) = zero_at n i

pub record CallParts (x : TxType) (call : Call) : Type 0 where
  pub params : length call.params ≡ x.params
  pub small : list_all is_small call.params ≡ true

call_parts : (x : TxType) (call : Call) → call_fits (Some x) call ≡ true → CallParts x call
call_parts x call h =
    let a = and_parts ((length call.params == x.params) && list_all is_small call.params && list_all is_small call.tape && nat_le
    (length call.tape) 4096) (ask_fits call.ask) h in
    let b = and_parts ((length call.params == x.params) && list_all is_small call.params && list_all is_small call.tape)
    (nat_le (length call.tape) 4096) a.0 in
    let c = and_parts ((length call.params == x.params) && list_all is_small call.params) (list_all is_small call.tape) b.0 in
    let e = and_parts (length call.params == x.params) (list_all is_small call.params) c.0 in
    record { params = eqb-true (length call.params) x.params e.0; small = e.1 }

module _ (d : Design) (wf : IsWellFormed d) (all : AllByRecursion (DraftTrue d) (begin_drafts d)) (db : List Row) (t : ℕ) (call : Call)
    (rows : RowsFit d db) (always : Always d db) (first : 1 ≤ t) (number : t ≤ 2 ^ 45) (fresh : HasNoPrivate d (pos t) db) where
  abbrev f : Frame
  f = begun d t call

  of_type : (x : TxType) → slice_get d.types call.ty ≡ Some x → CallParts x call → Holds d db f
  of_type x e parts =
      let range = all_at (TypeInRange d.tables) d.types call.ty x (design_range d wf.in_range).types e in
      let y = some_point x.points 0 range.some in
      let more : locals_in (slice_get d.types call.ty) ≡ length x.locals = ap locals_in e in
      let rest = length-replicate (locals_in (slice_get d.types call.ty) - length call.params) (pos 0) in
      let both = length-append call.params (replicate (locals_in (slice_get d.types call.ty) - length call.params) (pos 0)) in
      let few = range.params in
      let same = parts.params in
      let each : length f.locals ≡ length x.locals = omega (arith, more, rest, both, few, same) in
      let rests : Rests d db f (bare y.0) = record {
        always = recursion_from_All (ClauseTrue db []) d.always always;
        holds = tt;
        small =
            all-append IsSmall call.params (replicate (locals_in (slice_get d.types call.ty) - length call.params) (pos 0))
            (recursion_from_All IsSmall call.params (all_small call.params parts.small))
            (zeros_small (locals_in (slice_get d.types call.ty) - length call.params));
        first = first;
        number = number;
      } in
      let behind : ZerosBehind x.params f = record {
        zero_at =
            λ i l g. get_or-append_right call.params (replicate (locals_in (slice_get d.types call.ty) - length call.params) (pos 0))
            x.params i (pos 0) parts.params l ∙ zero_at (locals_in (slice_get d.types call.ty) - length call.params) (i - x.params);
      } in
      let true_clauses = begins_at d wf db rows always f x y.0 e y.1 each rests behind fresh all in
      let point_is : point_of d call.ty 0 ≡ Some y.0 = ap (λ o. option_and_then (λ (v : TxType). slice_get v.points 0) o) e ∙ y.1 in
      subst (λ o. AllTrue (clauses_of o) db t f.locals) (sym point_is)
      (All-from_recursion (ClauseTrue db (variables t f.locals)) y.0.clauses true_clauses)

  pub begun_holds : IsTrue (call_fits (slice_get d.types call.ty) call) → Holds d db f
  begun_holds h = by (slice_get d.types call.ty) refl h
    where
      by : (o : Option TxType) → slice_get d.types call.ty ≡ o → call_fits o call ≡ true → Holds d db f
      by None e g = absurd (false≢true g)
      by (Some x) e g = of_type x e (call_parts x call g)
