-- Where the obligations on begins are true, a transaction that begins has its start point's assertion.
use Rattle.std.proofs.Common.{◌≡◌, ◌≢◌, ℕ, zero, suc, ◌+◌, ◌-◌, ◌≤◌, ◌<◌, List, [], ◌∷◌, ◌++◌, length, refl, ap, sym, ◌∙◌, subst, arith}
use Rattle.std.proofs.Common.{Some, None, ℤ, pos}
use Rattle.std.specs.Prelude.{slice_get}
use Rattle.std.specs.List.{AllByRecursion}
use Rattle.std.proofs.lemmas.List.{get_or_append_left}
use Rattle.acc_base.specs.declared.tables.Row.{Row}
use Rattle.acc_base.specs.declared.forms.Rel.{Rel}
use Rattle.acc_base.specs.declared.forms.Clause.{Clause}
use Rattle.acc_base.specs.declared.designs.Point.{Point}
use Rattle.acc_base.specs.declared.designs.TxType.{TxType}
use Rattle.acc_base.specs.declared.designs.Design.{Design}
use Rattle.acc_base.specs.declared.designs.Side.TheVariants.{Next}
use Rattle.acc_base.specs.declared.machines.Frame.{Frame}
use Rattle.acc_base.specs.declared.sequents.Origin.{Origin}
use Rattle.acc_base.specs.declared.sequents.Rule.TheVariants.{Begins, Empty}
use Rattle.acc_base.specs.Linear.{var, variables}
use Rattle.acc_base.specs.Reads.{unread}
use Rattle.acc_base.specs.Truth.{rel_true, ClauseTrue}
use Rattle.acc_base.specs.Assertions.{Always}
use Rattle.acc_formed.specs.WellFormed.{IsWellFormed}
use Rattle.acc_base.specs.Fits.{RowsFit}
use Rattle.acc_base.specs.PrivateRows.{HasNoPrivate}
use Rattle.acc_oblig.specs.Settings.{Setting, first_now, step_vars, step_bounds, step_hyps}
use Rattle.acc_oblig.specs.Drafts.{clause_drafts, each}
use Rattle.acc_oblig.specs.PathPromises.{point_clauses}
use Rattle.acc_base.specs.TrueSequents.{NoneOwned, NoneOwnedBy}
use Rattle.acc_base.specs.Items.{numbers_from}
use Rattle.acc_oblig.specs.PointRules.{zeros, begin_at, begin_drafts}
use Rattle.acc_oblig.proofs.Names.{agrees_by}
use Rattle.acc_oblig.proofs.FormValues.{is_nothing_true}
use Rattle.acc_oblig.proofs.Carries.{carried, carried_long}
use Rattle.acc_oblig.proofs.Judged.{DraftTrue, ClauseFits, Stands, clause_after, passes_append, passes}
use Rattle.acc_oblig.proofs.Taken.{IsOn, here, names_worth, hyps_true, rels_true}
use Rattle.acc_oblig.proofs.Walks.{TrueRel}
use Rattle.acc_oblig.proofs.Listed.{each_at, number_at, some_at}
use Rattle.acc_oblig.proofs.OnPath.{formed_point, clauses_fit, FormedPoint}
use Rattle.acc_oblig.proofs.PathClauses.{own_behind}
use Rattle.acc_oblig.proofs.PathRules.{within}
use Rattle.acc_oblig.proofs.StepPlaces.{by_places}
use Rattle.acc_oblig.proofs.SpareGoals.{both_pass}
use Rattle.acc_oblig.proofs.Variants.{Rests, rest_on, rest_step, rest_path}

-- a point without clauses
abbrev pub bare : Point → Point
bare p = record p { clauses = [] }

abbrev begin_origin : ℕ → ℕ → ℕ → Origin
begin_origin k ty case = record {
  rule = Begins;
  held = None;
  clause = k + 1;
  at = Some (record { ty = ty; point = 0 });
  side = Next;
  path = 0;
  case = case;
}

-- the locals behind so many are 0
pub record ZerosBehind (params : ℕ) (f : Frame) : Type 0 where
  pub zero_at : (i : ℕ) → params ≤ i → i < length f.locals → var f.locals i ≡ pos 0

module _ (d : Design) (wf : IsWellFormed d) (db : List Row) (fit : RowsFit d db) (always : Always d db) (f : Frame) (x : TxType) (p : Point)
    (is_type : slice_get d.types f.ty ≡ Some x) (is_point : slice_get x.points 0 ≡ Some p) (each_local : length f.locals ≡ length x.locals)
    (r : Rests d db f (bare p)) (behind : ZerosBehind x.params f) (fresh : HasNoPrivate d (pos f.t) db) where
  on : IsOn d db f (bare p) rest_step (unread f) 0 rest_path
  on = rest_on d db f (bare p) r

  -- the setting with a number of locals
  abbrev s : ℕ → Setting
  s n = record { always = d.always; clauses = []; locals = n; reads = []; earlier = []; guard = []; actions = [] }

  abbrev rels : ℕ → ℕ → List Rel
  rels n vars = step_bounds (s n) 0 ++ zeros (numbers_from x.params (n - x.params))

  zeros_true :
      (F : List ℤ) (i m : ℕ) → ((k : ℕ) → i ≤ k → k < i + m → var F k ≡ pos 0) → AllByRecursion (TrueRel db F) (zeros (numbers_from i m))
  zeros_true F i zero h = tt
  zeros_true F i (suc m) h = (
    is_nothing_true db F i (h i (omega arith) (omega arith)),
    zeros_true F (i + 1) m (λ k l g. h k (omega (arith, l)) (omega (arith, g))),
  )

  stands :
      (k : ℕ) (own : List ℤ) → Stands d db fit (begin_origin k f.ty) (step_hyps (s (length f.locals))) (rels (length f.locals)) (λ vars. [])
      (first_now (s (length f.locals)) ++ length f.locals ∷ []) (step_vars (s (length f.locals))) (variables f.t f.locals) db
      (length (carried f [] own)) own (carried f [] own)
  stands k own =
      let F = carried f [] own in
      let c = here d db f (bare p) rest_step (unread f) 0 rest_path on own in
      let names = names_worth d db f (bare p) rest_step (unread f) 0 rest_path on own in
      let bounds = (both_pass (rel_true db F) (step_bounds (s (length f.locals)) 0) []
      (rels_true d db f (bare p) rest_step (unread f) 0 rest_path on own)).0 in
      let me : NoneOwned d db F (Some (record { ty = f.ty; point = 0 })) =
      subst (NoneOwnedBy d db F) (sym is_type)
      (subst (λ n. HasNoPrivate d (var F n) db) each_local (subst (λ z. HasNoPrivate d z db) (sym c.me) fresh)) in
      record {
        long = refl;
        asks = λ q. record { empty = λ z. absurd (not_empty z); fresh = λ z. me };
        hyps_true = hyps_true d db f (bare p) rest_step (unread f) 0 rest_path on own;
        rels_true =
            passes_append (rel_true db F) (step_bounds (s (length f.locals)) 0) (zeros (numbers_from x.params (length f.locals - x.params)))
            bounds
            (passes (rel_true db F) _ (zeros_true F x.params (length f.locals - x.params)
            (λ i l g. get_or_append_left f.locals _ (pos 0) i (omega (arith, l, g)) ∙ behind.zero_at i l (omega (arith, l, g)))));
        acts_fit = tt;
        there = tt;
        leaves = refl;
        agree =
            agrees_by (first_now (s (length f.locals)) ++ length f.locals ∷ []) (step_vars (s (length f.locals))) F (variables f.t f.locals)
            own names (own_behind f [] own (step_vars (s (length f.locals))) refl);
      }
    where
      not_empty : Begins ≢ Empty
      not_empty h = cc

  begin_clause :
      (k : ℕ) (c : Clause) → ClauseFits d.tables c
      → AllByRecursion (DraftTrue d) (clause_drafts (begin_origin k f.ty) (step_hyps (s (length f.locals))) (rels (length f.locals))
      (λ vars. []) (first_now (s (length f.locals)) ++ length f.locals ∷ []) (step_vars (s (length f.locals))) c)
      → ClauseTrue db (variables f.t f.locals) c
  begin_clause k c shape drafts =
      clause_after d db fit (begin_origin k f.ty) (step_hyps (s (length f.locals))) (rels (length f.locals)) (λ vars. [])
      (first_now (s (length f.locals)) ++ length f.locals ∷ []) (step_vars (s (length f.locals))) (variables f.t f.locals) db c drafts shape
      (λ
      own
      long. (
        carried f [] own,
        subst (λ vars. Stands d db fit (begin_origin k f.ty) (step_hyps (s (length f.locals)))
            (rels (length f.locals)) (λ v. []) (first_now (s (length f.locals)) ++ length f.locals ∷ []) (step_vars (s (length f.locals)))
            (variables f.t f.locals) db vars own (carried f [] own)) (vars_are own long) (stands k own),
      ))
    where
      vars_are : (own : List ℤ) → length own ≡ length c.vars → length (carried f [] own) ≡ step_vars (s (length f.locals)) + length c.vars
      vars_are own long = let l = carried_long f [] own in omega (arith, l, long)

  pub begins_at : AllByRecursion (DraftTrue d) (begin_drafts d) → AllByRecursion (ClauseTrue db (variables f.t f.locals)) p.clauses
  begins_at h = by_places (ClauseTrue db (variables f.t f.locals)) p.clauses at
    where
      fp : FormedPoint d f.ty 0 x p
      fp = formed_point d wf f.ty 0 x p is_type is_point

      at : (k : ℕ) (c : Clause) → slice_get p.clauses k ≡ Some c → ClauseTrue db (variables f.t f.locals) c
      at k c e =
          let l = within p.clauses k c e in
          let m = fp.formed.clauses.few in
          let walk = number_at (DraftTrue d) (λ n. each (begin_at d n) d.types) 64 k (omega (arith, l, m)) h in
          let type = each_at (DraftTrue d) (begin_at d k) d.types f.ty x walk is_type in
          let mine = some_at (DraftTrue d) (clause_drafts (begin_origin k f.ty) (step_hyps (s (length x.locals))) (rels (length x.locals))
          (λ vars. []) (first_now (s (length x.locals)) ++ length x.locals ∷ []) (step_vars (s (length x.locals))))
          (slice_get (point_clauses (slice_get x.points 0)) k) c (ap (λ o. slice_get (point_clauses o) k) is_point ∙ e) type in
          begin_clause k c (clauses_fit d x.locals 64 (length x.locals + 1) p.clauses fp.formed.clauses fp.range.clauses k c e)
          (subst (λ n. AllByRecursion (DraftTrue d)
          (clause_drafts (begin_origin k f.ty) (step_hyps (s n)) (rels n) (λ vars. []) (first_now (s n) ++ n ∷ []) (step_vars (s n)) c))
          (sym each_local) mine)
