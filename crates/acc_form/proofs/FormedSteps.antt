-- The marks on a step are ends alone exactly where the step is well-formed; so with clauses.
use Rattle.std.proofs.Common.{◌≡◌, ℕ, ◌+◌, ◌<◌, ◌==◌, Bool, true, ◌&&◌, ◌||◌, not, nat_lt, List, length, get_or, refl, arith}
use Rattle.std.proofs.lemmas.Bool.{and_parts, and_from}
use Rattle.std.proofs.lemmas.Bool.Decides.{nat_tests}
use Rattle.acc_base.specs.declared.rules.FormRule.TheVariants as rules
use Rattle.acc_base.specs.declared.forms.Clause.{Clause}
use Rattle.acc_base.specs.declared.tables.Table.{Table}
use Rattle.acc_base.specs.declared.steps.Path.{Path}
use Rattle.acc_base.specs.declared.steps.Step.{Step}
use Rattle.acc_base.specs.declared.designs.Side.{Side}
use Rattle.acc_base.specs.declared.designs.TxType.{TxType}
use Rattle.acc_form.specs.Marks.{ending, numbered}
use Rattle.acc_formed.specs.Widths.{clause_fits, read_fits, action_fits, read_leaves_a_component, action_is_own}
use Rattle.acc_formed.specs.Sizes.{clause_small, read_small, action_small, guard_small, target_small}
use Rattle.acc_formed.specs.Names.{are_new}
use Rattle.acc_formed.specs.Ends.{refuses_by_number, divides, may_end, refuses_plainly, assigns_local, may_read, is_undone}
use Rattle.acc_form.specs.Statements.{clause_marks, read_marks, action_marks, target_marks, path_marks, step_marks}
use Rattle.acc_formed.specs.WellFormed.{IsClauseFormed, AreClausesFormed, IsReadFormed, IsActionFormed, IsPathFormed, IsStepFormed}
use Rattle.acc_form.proofs.Clean.{Clean, Asks, asks, keeps, clean_parts, clean_from, each_of_clean, clean_of_each}

-- ---- clauses

clause_asks : (tables : List Table) (names : List (List ℕ)) (most : ℕ) →
    Asks (clause_marks tables names most) most (λ i c. IsClauseFormed tables names c)
clause_asks tables names most = record {
  opens = λ i c h.
      let a = asks rules.Widths (clause_fits tables c) _ h in
      let b = asks rules.Limits (not (i == most) && clause_small c) _ a.1 in
      let e = asks rules.Names (are_new names c.vars) ending b.1 in
      let f = and_parts (not (i == most)) (clause_small c) b.0 in
      (f.0, record { widths = a.0; limits = f.1; new = e.0 });
  shuts = λ i c n p.
      keeps rules.Widths (clause_fits tables c) _ p.widths (
      keeps rules.Limits (not (i == most) && clause_small c) _ (and_from (not (i == most)) (clause_small c) n p.limits) (
      keeps rules.Names (are_new names c.vars) ending p.new refl));
}

pub clauses_open : (tables : List Table) (names : List (List ℕ)) (most : ℕ) (cs : List Clause) →
    Clean (numbered (clause_marks tables names most) cs) → AreClausesFormed tables names most cs
clauses_open tables names most cs h =
    let all = each_of_clean (clause_marks tables names most) most (λ i c. IsClauseFormed tables names c) (clause_asks tables names most) cs
    h in
    record { few = all.0; each = all.1 }

pub clauses_shut : (tables : List Table) (names : List (List ℕ)) (most : ℕ) (cs : List Clause) →
    AreClausesFormed tables names most cs → Clean (numbered (clause_marks tables names most) cs)
clauses_shut tables names most cs all =
    clean_of_each (clause_marks tables names most) most (λ i c. IsClauseFormed tables names c) (clause_asks tables names most) cs all.few
    all.each

-- ---- reads and actions

read_asks : (tables : List Table) (t : TxType) (side : Side) → Asks (read_marks tables t side) 32 (λ i r. IsReadFormed tables t side r)
read_asks tables t side = record {
  opens = λ i r h.
      let a = asks rules.Widths (read_fits tables r) _ h in
      let b = asks rules.ShortPrefixes (read_leaves_a_component tables r) _ a.1 in
      let e = asks rules.Limits (not (i == 32) && read_small r) _ b.1 in
      let f = asks rules.Numbers (divides r) _ e.1 in
      let g = asks rules.Assigned (assigns_local t r) _ f.1 in
      let k = asks rules.UndoReads (may_read side r) ending g.1 in
      let l = and_parts (not (i == 32)) (read_small r) e.0 in
      (l.0, record { widths = a.0; short_prefix = b.0; limits = l.1; divisor = f.0; assigns = g.0; allowed = k.0 });
  shuts = λ i r n p.
      keeps rules.Widths (read_fits tables r) _ p.widths (
      keeps rules.ShortPrefixes (read_leaves_a_component tables r) _ p.short_prefix (
      keeps rules.Limits (not (i == 32) && read_small r) _ (and_from (not (i == 32)) (read_small r) n p.limits) (
      keeps rules.Numbers (divides r) _ p.divisor (
      keeps rules.Assigned (assigns_local t r) _ p.assigns (keeps rules.UndoReads (may_read side r) ending p.allowed refl)))));
}

action_asks : (tables : List Table) (t : TxType) (is_bare : Bool) →
    Asks (action_marks tables t is_bare) 16 (λ i a. IsActionFormed tables t is_bare a)
action_asks tables t is_bare = record {
  opens = λ i x h.
      let a = asks rules.Widths (action_fits tables x) _ h in
      let b = asks rules.Limits (not (i == 16) && action_small x) _ a.1 in
      let e = asks rules.PrivateKeys (action_is_own tables (length t.locals) x) _ b.1 in
      let f = asks rules.StartUndos (not is_bare) ending e.1 in
      let l = and_parts (not (i == 16)) (action_small x) b.0 in
      (l.0, record { widths = a.0; limits = l.1; own = e.0; allowed = f.0 });
  shuts = λ i x n p.
      keeps rules.Widths (action_fits tables x) _ p.widths (
      keeps rules.Limits (not (i == 16) && action_small x) _ (and_from (not (i == 16)) (action_small x) n p.limits) (
      keeps rules.PrivateKeys (action_is_own tables (length t.locals) x) _ p.own (
      keeps rules.StartUndos (not is_bare) ending p.allowed refl)));
}

-- ---- paths: whether one is the last is asked beside

IsPathOf : List Table → TxType → Side → Bool → ℕ → ℕ → Path → Type 0
IsPathOf tables t side is_bare count i p =
    IsPathFormed tables t side is_bare p × ((nat_lt (i + 1) count || (length p.guard == 0)) ≡ true)

path_opens : (tables : List Table) (t : TxType) (side : Side) (is_bare : Bool) (count i : ℕ) (p : Path) →
    Clean (path_marks tables t side is_bare count i p) → (not (i == 16) ≡ true) × IsPathOf tables t side is_bare count i p
unfolding IsPathOf
path_opens tables t side is_bare count i p h =
    let a = asks rules.Limits (not (i == 16) && guard_small p.guard) _ h in
    let b = asks rules.LastPaths (nat_lt (i + 1) count || (length p.guard == 0)) _ a.1 in
    let e = clean_parts (numbered (action_marks tables t is_bare) p.actions) (target_marks t side is_bare p) b.1 in
    let f = asks rules.Limits (target_small t.points p.target) _ e.1 in
    let g = asks rules.Numbers (refuses_by_number p.target) _ f.1 in
    let k = asks rules.Ends (may_end side p.target) _ g.1 in
    let m = asks rules.Refusals (refuses_plainly p.actions p.target) _ k.1 in
    let n = asks rules.StartUndos (not is_bare || is_undone p.target) ending m.1 in
    let l = and_parts (not (i == 16)) (guard_small p.guard) a.0 in
    let all = each_of_clean (action_marks tables t is_bare) 16 (λ i x. IsActionFormed tables t is_bare x) (action_asks tables t is_bare)
    p.actions e.0 in
    (l.0, (record { guard = l.1; few = all.0; actions = all.1; limits = f.0; number = g.0; ends = k.0; plain = m.0; bare = n.0 }, b.0))

path_shuts : (tables : List Table) (t : TxType) (side : Side) (is_bare : Bool) (count i : ℕ) (p : Path) →
    not (i == 16) ≡ true → IsPathOf tables t side is_bare count i p → Clean (path_marks tables t side is_bare count i p)
unfolding IsPathOf
path_shuts tables t side is_bare count i p n q =
    let x = q.0 in
    keeps rules.Limits (not (i == 16) && guard_small p.guard) _ (and_from (not (i == 16)) (guard_small p.guard) n x.guard) (
    keeps rules.LastPaths (nat_lt (i + 1) count || (length p.guard == 0)) _ q.1 (
    clean_from (numbered (action_marks tables t is_bare) p.actions) (target_marks t side is_bare p)
    (clean_of_each (action_marks tables t is_bare) 16 (λ i x. IsActionFormed tables t is_bare x) (action_asks tables t is_bare) p.actions
    x.few x.actions) (
    keeps rules.Limits (target_small t.points p.target) _ x.limits (
    keeps rules.Numbers (refuses_by_number p.target) _ x.number (
    keeps rules.Ends (may_end side p.target) _ x.ends (
    keeps rules.Refusals (refuses_plainly p.actions p.target) _ x.plain (
    keeps rules.StartUndos (not is_bare || is_undone p.target) ending x.bare refl)))))))

path_asks : (tables : List Table) (t : TxType) (side : Side) (is_bare : Bool) (count : ℕ) →
    Asks (path_marks tables t side is_bare count) 16 (IsPathOf tables t side is_bare count)
path_asks tables t side is_bare count = record {
  opens = path_opens tables t side is_bare count;
  shuts = path_shuts tables t side is_bare count;
}

-- ---- steps

unguarded : (i count guard : ℕ) → (nat_lt (i + 1) count || (guard == 0)) ≡ true → i + 1 ≡ count → guard ≡ 0
unguarded i count guard h e = grind (arith, nat_tests)

asked_last : (i count guard : ℕ) → i < count → (i + 1 ≡ count → guard ≡ 0) → (nat_lt (i + 1) count || (guard == 0)) ≡ true
asked_last i count guard l h = grind (arith, nat_tests)

pub step_opens : (tables : List Table) (t : TxType) (side : Side) (is_bare : Bool) (s : Step) →
    Clean (step_marks tables t side is_bare s) → IsStepFormed tables t side is_bare s
unfolding IsPathOf
step_opens tables t side is_bare s h =
    let count = length s.paths in
    let a = clean_parts (numbered (read_marks tables t side) s.reads) (numbered (path_marks tables t side is_bare count) s.paths) h in
    let reads = each_of_clean (read_marks tables t side) 32 (λ i r. IsReadFormed tables t side r) (read_asks tables t side) s.reads a.0 in
    let paths = each_of_clean (path_marks tables t side is_bare count) 16 (IsPathOf tables t side is_bare count)
    (path_asks tables t side is_bare count) s.paths a.1 in
    record {
      few_reads = reads.0;
      reads = reads.1;
      few_paths = paths.0;
      paths = λ i d l. (paths.1 i d l).0;
      last = λ i d l. unguarded i count (length (get_or s.paths i d).guard) (paths.1 i d l).1;
    }

pub step_shuts : (tables : List Table) (t : TxType) (side : Side) (is_bare : Bool) (s : Step) →
    IsStepFormed tables t side is_bare s → Clean (step_marks tables t side is_bare s)
unfolding IsPathOf
step_shuts tables t side is_bare s f =
    let count = length s.paths in
    clean_from (numbered (read_marks tables t side) s.reads) (numbered (path_marks tables t side is_bare count) s.paths)
    (clean_of_each (read_marks tables t side) 32 (λ i r. IsReadFormed tables t side r) (read_asks tables t side) s.reads f.few_reads
    f.reads)
    (clean_of_each (path_marks tables t side is_bare count) 16 (IsPathOf tables t side is_bare count)
    (path_asks tables t side is_bare count) s.paths f.few_paths
    (λ i d l. (f.paths i d l, asked_last i count (length (get_or s.paths i d).guard) l (f.last i d l))))
