-- Where a design's obligations on held points are true, each path keeps the assertion of another transaction that doesn't forbid it.
use Rattle.std.proofs.Common.{◌≡◌, ◌≢◌, ℕ, ◌+◌, ◌<◌, Bool, true, false, if◌then◌else◌, List, [], ◌∷◌, ◌++◌, take, length, refl, ap, sym}
use Rattle.std.proofs.Common.{◌∙◌, subst, Option, Some, None, ℤ, pos}
use Rattle.std.specs.Prelude.{slice_get, option_and_then, ◌&&◌}
use Rattle.std.specs.List.{list_all, list_any, AllByRecursion}
use Rattle.std.proofs.lemmas.Bool.{false≢true}
use Rattle.std.proofs.lemmas.List.{get_or_append_left}
use Rattle.std.proofs.lemmas.List.Elements.{recursion_from_All, All-from_recursion}
use Rattle.acc_base.specs.declared.tables.Row.{Row}
use Rattle.acc_base.specs.declared.forms.Rel.{Rel}
use Rattle.acc_base.specs.declared.forms.Clause.{Clause}
use Rattle.acc_base.specs.declared.steps.Target.{Target}
use Rattle.acc_base.specs.declared.steps.Step.{Step}
use Rattle.acc_base.specs.declared.designs.At.{At}
use Rattle.acc_base.specs.declared.designs.Entry.{Entry}
use Rattle.acc_base.specs.declared.designs.TxType.{TxType}
use Rattle.acc_base.specs.declared.designs.Design.{Design}
use Rattle.acc_base.specs.declared.designs.Side.{Side}
use Rattle.acc_base.specs.declared.machines.Frame.{Frame}
use Rattle.acc_base.specs.declared.sequents.Rule.TheVariants.{Spares}
use Rattle.acc_base.specs.Numbers.{IsSmall}
use Rattle.acc_base.specs.Linear.{var, variables}
use Rattle.acc_base.specs.Reads.{Reading}
use Rattle.acc_base.specs.Truth.{rel_true, ClauseTrue}
use Rattle.acc_base.specs.Assertions.{AllTrue, Holds, clauses_of}
use Rattle.acc_base.specs.Effects.{point_of, step_at}
use Rattle.acc_base.specs.Shapes.{RowFits}
use Rattle.acc_base.specs.RowsAfter.{rows_after, AreThere}
use Rattle.acc_formed.specs.WellFormed.{IsWellFormed}
use Rattle.acc_formed.proofs.InRange.{EntryInRange, design_range}
use Rattle.acc_base.specs.Fits.{IsFrame, IsReady}
use Rattle.acc_base.specs.Entries.{at_of, judged, IsFree}
use Rattle.acc_oblig.specs.Settings.{Setting, step_vars}
use Rattle.acc_oblig.specs.Drafts.{Place, path_origin, setting_of, each, each_path}
use Rattle.acc_oblig.specs.PathPromises.{clause_names}
use Rattle.acc_oblig.specs.Spares.{spare_drafts, entry_for, pairs_differ, by_entry, spare_at, all_spare_drafts}
use Rattle.acc_oblig.proofs.Carries.{carried}
use Rattle.acc_oblig.proofs.Judged.{DraftTrue, ClauseFits}
use Rattle.acc_preconditions.proofs.PathRows.{leaves_rows_after}
use Rattle.acc_oblig.proofs.Taken.{e, here, last_worth}
use Rattle.acc_oblig.proofs.Listed.{each_at, path_at}
use Rattle.acc_oblig.proofs.PathClauses.{ws}
use Rattle.acc_oblig.proofs.Others.{clause_same}
use Rattle.acc_oblig.proofs.OnPath.{at_some, all_at, OnPath, clauses_fit, formed_point}
use Rattle.acc_oblig.proofs.Helds.{F, held_local}
use Rattle.acc_oblig.proofs.Entries.{IsFound, found, for_these, forbids, pairs_differ_true, pairs_within}
use Rattle.acc_oblig.proofs.SpareGoals.{base_long, spare_clause}
use Rattle.acc_oblig.proofs.StepPlaces.{HeldAt, held_at, by_places}

-- ---- the assertion of another transaction

some_or_none : (pairs : List (ℕ × ℕ)) → list_any (λ p. true) pairs ≡ false → pairs ≡ []
some_or_none [] h = refl
some_or_none (p ∷ ps) h = absurd (false≢true (sym h))

module _ (d : Design) (wf : IsWellFormed d) (db : List Row) (f : Frame) (ready : IsReady d db f) (side : Side) (after : List Row)
    (last : Reading) (j : ℕ) (to : Target) (o : OnPath d db f side after last j to)
    (there : AreThere (variables f.t last.locals) o.path.actions db) (all : AllByRecursion (DraftTrue d) (all_spare_drafts d)) where
  abbrev step : Step
  step = step_at side o.p

  abbrev place : Place
  place = record { at = record { ty = f.ty; point = f.point }; side = side; path = j }

  left : rows_after (variables f.t last.locals) o.path.actions db ≡ after
  left = leaves_rows_after side (variables f.t last.locals) o.path.actions db after o.actions

  -- the setting with a number of locals
  abbrev with_locals : ℕ → Setting
  with_locals n = record {
    always = d.always;
    clauses = o.p.clauses;
    locals = n;
    reads = step.reads;
    earlier = take j step.paths;
    guard = o.path.guard;
    actions = o.path.actions;
  }

  module _ (g : Frame) (fits : IsFrame d g) (other : g.t ≢ f.t) (holds : Holds d db g) (free : IsFree d g f side last) where
    at : HeldAt d g
    at = held_at d g fits

    abbrev held : At
    held = record { ty = g.ty; point = g.point }

    point_is : point_of d g.ty g.point ≡ Some at.h
    point_is = ap (λ z. option_and_then (λ (y : TxType). slice_get y.points g.point) z) at.is_type ∙ at.is_point

    clauses_hold : AllByRecursion (ClauseTrue db (variables g.t g.locals)) at.h.clauses
    clauses_hold =
        recursion_from_All (ClauseTrue db (variables g.t g.locals)) at.h.clauses
        (subst (λ z. AllTrue (clauses_of z) db g.t g.locals) point_is holds)

    small : AllByRecursion IsSmall g.locals
    small = recursion_from_All IsSmall g.locals at.frame.locals

    -- obligations that count the types' locals count the frames'
    counts :
        (pairs : Setting → List Rel) (k : ℕ) (c : Clause)
        → AllByRecursion (DraftTrue d) (spare_drafts (path_origin Spares (Some held) k place) (with_locals (length o.x.locals)) at.h.clauses
        (length at.x.locals) (pairs (with_locals (length o.x.locals))) c)
        → AllByRecursion (DraftTrue d) (spare_drafts (path_origin Spares (Some held) k place) (with_locals (length f.locals)) at.h.clauses
        (length g.locals) (pairs (with_locals (length f.locals))) c)
    counts pairs k c h =
        subst (λ n. AllByRecursion (DraftTrue d)
        (spare_drafts (path_origin Spares (Some held) k place) (with_locals (length f.locals)) at.h.clauses n
        (pairs (with_locals (length f.locals))) c)) (sym at.frame.each)
        (subst (λ n. AllByRecursion (DraftTrue d)
        (spare_drafts (path_origin Spares (Some held) k place) (with_locals n) at.h.clauses (length at.x.locals) (pairs (with_locals n)) c))
        (sym o.each) h)

    clause_kept : (k : ℕ) (c : Clause) → slice_get at.h.clauses k ≡ Some c → ClauseTrue after (variables g.t g.locals) c
    clause_kept k c e =
        let types = each_at (DraftTrue d) (λ ty x. each
        (λ i h. each (λ n z. each_path d (spare_at d (record { ty = ty; point = i }) x h n z)) h.clauses) x.points) d.types g.ty at.x all
        at.is_type in
        let points = each_at (DraftTrue d) (λ i h. each (λ n z. each_path d (spare_at d (record { ty = g.ty; point = i }) at.x h n z))
        h.clauses) at.x.points g.point at.h types at.is_point in
        let clause = each_at (DraftTrue d) (λ n z. each_path d (spare_at d held at.x at.h n z)) at.h.clauses k c points e in
        let made = path_at (DraftTrue d) d (spare_at d held at.x at.h k c) clause f.ty f.point o.x o.p side j o.path o.is_type o.is_point
        o.is_path in
        by (clause_names o.path.actions c) refl made
      where
        shape : ClauseFits d.tables c
        shape =
            let fp = formed_point d wf g.ty g.point at.x at.h at.is_type at.is_point in
            clauses_fit d at.x.locals 64 (length at.x.locals + 1) at.h.clauses fp.formed.clauses fp.range.clauses k c e

        use_it :
            (pairs : List Rel) → ((own : List ℤ) → list_all
            (rel_true db (F f (ws d db ready.rows f o.p step last j o.path o.on) g own (step_vars (with_locals (length f.locals)))
            (base_long d db ready.rows f o.p step last j o.path o.on o.acts_fit there after left))) pairs ≡ true)
            → AllByRecursion (DraftTrue d) (spare_drafts (path_origin Spares (Some held) k place)
            (with_locals (length f.locals)) at.h.clauses
            (length g.locals) pairs c) → ClauseTrue after (variables g.t g.locals) c
        use_it pairs pairs_true drafts =
            spare_clause d db ready.rows f o.p step last j o.path o.on o.acts_fit there after left g at.h.clauses clauses_hold small
            at.frame.first at.frame.number other (Some held) k place pairs pairs_true c shape drafts

        with_pairs :
            (en : Entry) → IsFound d.entries held (at_of f) side en → (own : List ℤ)
            → list_all
            (rel_true db (F f (ws d db ready.rows f o.p step last j o.path o.on) g own (step_vars (with_locals (length f.locals)))
            (base_long d db ready.rows f o.p step last j o.path o.on o.acts_fit there after left)))
            (pairs_differ (with_locals (length f.locals)) side en.pairs ∷ []) ≡ true
        with_pairs en here_it own = λ i. differs i && true
          where
            range : EntryInRange d.types en
            range = all_at (EntryInRange d.types) d.entries here_it.n en (design_range d wf.in_range).entries here_it.there

            held_type : slice_get d.types en.held.ty ≡ Some at.x
            held_type = ap (λ (z : At). slice_get d.types z.ty) (for_these held (at_of f) side en here_it.passes).held_is ∙ at.is_type

            step_type : slice_get d.types en.step.ty ≡ Some o.x
            step_type = ap (λ (z : At). slice_get d.types z.ty) (for_these held (at_of f) side en here_it.passes).step_is ∙ o.is_type

            inside : AllByRecursion (λ (p : ℕ × ℕ). (p.0 < length g.locals) × (p.1 < length f.locals)) en.pairs
            inside =
                subst (λ n. AllByRecursion (λ (p : ℕ × ℕ). (p.0 < n) × (p.1 < length f.locals)) en.pairs) (sym at.frame.each)
                (subst (λ n. AllByRecursion (λ (p : ℕ × ℕ). (p.0 < length at.x.locals) × (p.1 < n)) en.pairs) (sym o.each)
                (pairs_within d.types en range at.x o.x held_type step_type))

            differs :
                rel_true db (F f (ws d db ready.rows f o.p step last j o.path o.on) g own (step_vars (with_locals (length f.locals)))
                (base_long d db ready.rows f o.p step last j o.path o.on o.acts_fit there after left))
                (pairs_differ (with_locals (length f.locals)) side en.pairs) ≡ true
            differs =
                pairs_differ_true db (carried f (ws d db ready.rows f o.p step last j o.path o.on) (variables g.t g.locals ++ own))
                (with_locals (length f.locals)) side g.locals f last
                (held_local f (ws d db ready.rows f o.p step last j o.path o.on) g own (step_vars (with_locals (length f.locals)))
                (base_long d db ready.rows f o.p step last j o.path o.on o.acts_fit there after left))
                (λ i l. get_or_append_left f.locals _ (pos 0) i l)
                (last_worth d db f o.p step last j o.path o.on (variables g.t g.locals ++ own) _ _
                (here d db f o.p step last j o.path o.on (variables g.t g.locals ++ own))) en.pairs inside
                (λ agree. forbids d g f side last en here_it free agree)

        by_entry_kept :
            (z : Option Entry) → entry_for d.entries held (at_of f) side ≡ z
            → AllByRecursion (DraftTrue d) (by_entry (path_origin Spares (Some held) k place)
            (with_locals (length o.x.locals)) side at.h.clauses
            (length at.x.locals) c z) → ClauseTrue after (variables g.t g.locals) c
        by_entry_kept None n m = use_it [] (λ own. refl) (counts (λ z. []) k c m)
        by_entry_kept (Some en) n m = split (list_any (λ p. true) en.pairs) refl m
          where
            here_it : IsFound d.entries held (at_of f) side en
            here_it = found d.entries held (at_of f) side en n

            split :
                (b : Bool) → list_any (λ p. true) en.pairs ≡ b
                → AllByRecursion (DraftTrue d) (if b then spare_drafts (path_origin Spares (Some held) k place)
                (with_locals (length o.x.locals))
                at.h.clauses (length at.x.locals) (pairs_differ (with_locals (length o.x.locals)) side en.pairs ∷ []) c else [])
                → ClauseTrue after (variables g.t g.locals) c
            split true q r =
                use_it (pairs_differ (with_locals (length f.locals)) side en.pairs ∷ []) (with_pairs en here_it)
                (counts (λ z. pairs_differ z side en.pairs ∷ []) k c r)
            split false q r =
                absurd (forbids d g f side last en here_it free
                (subst (AllByRecursion (λ (p : ℕ × ℕ). var g.locals p.0 ≡ var (judged side f last) p.1)) (sym (some_or_none en.pairs q))
                tt))

        by :
            (b : Bool) → clause_names o.path.actions c ≡ b
            → AllByRecursion (DraftTrue d) (if b then by_entry (path_origin Spares (Some held) k place)
            (setting_of d o.x o.p step j o.path) side
            at.h.clauses (length at.x.locals) c (entry_for d.entries held (at_of f) side) else [])
            → ClauseTrue after (variables g.t g.locals) c
        by true n m = by_entry_kept (entry_for d.entries held (at_of f) side) refl m
        by false n m =
            subst (λ rows. ClauseTrue rows (variables g.t g.locals) c) left
            (clause_same d.tables (variables f.t last.locals) o.path.actions db o.acts_fit
            (recursion_from_All (RowFits d.tables) db ready.rows.shapes) ready.rows.order there (variables g.t g.locals) c n
            (at_some (ClauseTrue db (variables g.t g.locals)) at.h.clauses k c clauses_hold e))

    pub spared : Holds d after g
    spared =
        subst (λ z. AllTrue (clauses_of z) after g.t g.locals) (sym point_is)
        (All-from_recursion (ClauseTrue after (variables g.t g.locals)) at.h.clauses
        (by_places (ClauseTrue after (variables g.t g.locals)) at.h.clauses clause_kept))
