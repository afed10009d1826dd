-- The paths and steps of a tree that is a design's can be spelled.
use Rattle.std.proofs.Common.{◌≡◌, ℕ, ◌≤◌, ◌<◌, ◌^◌, Bool, true, false, List, [], ◌∷◌, ◌++◌, length, map, Option, Some, None, refl, ap, sym}
use Rattle.std.proofs.Common.{◌∙◌, subst, arith}
use Rattle.std.specs.Prelude.{nat_le, option_map, slice_get}
use Rattle.std.specs.List.{flat_map}
use Rattle.std.proofs.lemmas.Bool.Decides.{nat_tests}
use Rattle.std.proofs.lemmas.List.{length-map}
use Rattle.std.proofs.lemmas.Option.{slice_get-map}
use Rattle.acc_grammar.specs.Readers.{AllIn, joined}
use Rattle.acc_base.specs.Lines.{point_name}
use Rattle.acc_base.specs.declared.designs.Point.{Point}
use Rattle.acc_lex.specs.declared.words.Sign.TheVariants as sign
use Rattle.acc_parse_syntax.specs.declared.trees.ReadTree.{ReadTree}
use Rattle.acc_parse_syntax.specs.declared.trees.ActionTree.{ActionTree}
use Rattle.acc_parse_syntax.specs.declared.trees.TargetTree.{TargetTree}
use Rattle.acc_parse_syntax.specs.declared.trees.TargetTree.TheVariants as target
use Rattle.acc_parse_syntax.specs.declared.trees.PathTree.{PathTree}
use Rattle.acc_parse_syntax.specs.declared.trees.StepTree.{StepTree}
use Rattle.acc_parse_syntax.specs.Spelling.{just, name, guard, read_statement, action_statement, target_statement, path, step}
use Rattle.acc_parse_names.specs.Names.{stands_in}
use Rattle.acc_parse_names.specs.Faults.{read_fault, action_fault, target_fault, path_faults, step_faults}
use Rattle.acc_base.specs.declared.limits.Limit.TheVariants as limit
use Rattle.acc_parse_limits.specs.Marks.{ending, limited}
use Rattle.acc_parse_limits.specs.Words.{guard_marks}
use Rattle.acc_parse_limits.specs.Statements.{read_words_marks, read_marks, action_words_marks, action_marks, target_words_marks, target_marks}
use Rattle.acc_parse_limits.specs.Statements.{path_marks, step_marks}
use Rattle.acc_parse_clauses.specs.Scopes.{number_of}
use Rattle.acc_parse.specs.Steps.{read_of, action_of, target_of, path_of, all_paths, step_of}
use Rattle.acc_parse_clauses.specs.Sizes.{guard_sizes}
use Rattle.acc_parse.specs.Sizes.{read_words_sizes, read_sizes, action_words_sizes, action_sizes, path_sizes, step_sizes}
use Rattle.acc_parse_readback.specs.Printable.{IsName}
use Rattle.acc_parse_readback.specs.PrintableTypes.{IsCount, IsReadSaid, IsActionSaid, IsTargetSaid, IsPathSaid, IsStepSaid}
use Rattle.acc_parse_readback.proofs.OnlyEnds.{AreEnds, IsEnd}
use Rattle.acc_parse_readback.proofs.Faultless.{IsFalse}
use Rattle.acc_parse_readback.proofs.SaidParts.{not_past, all_parts, all_joined, all_flat, all_map, all_mapped, all_by_four, each_counted}
use Rattle.acc_parse_readback.proofs.SaidParts.{at_most_counted}
use Rattle.acc_parse_readback.proofs.SaidPlaces.{named_there, fitted_same}
use Rattle.acc_parse_readback.proofs.SaidNames.{AreHeard, IsHeard, Setting, variables_of, is_name, stands_true}
use Rattle.acc_parse_readback.proofs.SaidRows.{meant, known, shown, guard_said}
use Rattle.acc_parse_readback.proofs.SaidReads.{read_said, action_said}

-- ---- targets

-- the names of points
pub record AreNamed (names : List (List ℕ)) (points : List Point) : Type 0 where
  pub are : map (λ (p : Point). p.name) points ≡ names
  pub few : length names ≤ 32

point_named : (o : Option Point) (x : List ℕ) → option_map (λ (p : Point). p.name) o ≡ Some x → point_name o ≡ x
point_named None x h = absurd cc
point_named (Some p) x h = cc

-- at the number of a point's name stands a point of that name
pub point_again : (names : List (List ℕ)) (points : List Point) (x : List ℕ) → AreNamed names points → stands_in x names ≡ true →
    point_name (slice_get points (number_of x names)) ≡ x
point_again names points x n h =
    let few : length names ≤ 2 ^ 32 = let some = n.few in omega (arith, some) in
    point_named (slice_get points (number_of x names)) x
    (sym (slice_get-map (λ (p : Point). p.name) points (number_of x names)) ∙
    (ap (λ (ys : List (List ℕ)). slice_get ys (number_of x names)) n.are ∙ named_there x names h few))

pub count_said : (n : ℕ) (b : Bool) → nat_le (2 ^ 32) n ≡ b → b ≡ false → n < 2 ^ 32
count_said n b e h = let no : nat_le (2 ^ 32) n ≡ false = e ∙ h in grind (arith, nat_tests)

target_said : (own : Bool) (names : List (List ℕ)) (points : List Point) (t : TargetTree) → AreNamed names points →
    AreHeard own (target_statement t) → target_fault names t ≡ false → AreEnds (target_words_marks t) →
    IsTargetSaid points (target_of names t)
target_said own names points (target.Goto x) n heard faults marks =
    subst IsName (sym (point_again names points x n (stands_true x names faults)))
    (is_name own x (all_parts (IsHeard own) (name x) (just sign.End) heard.1).0 marks)
target_said own names points target.Commit n heard faults marks = tt
target_said own names points target.Undone n heard faults marks = tt
target_said own names points (target.Refuse k) n heard faults marks =
    let small = count_said k (nat_le (2 ^ 32) k) refl (not_past limit.NumberSize (nat_le (2 ^ 32) k) marks) in
    subst IsCount (sym (fitted_same k small)) small

-- ---- paths

module _ (a : Setting) (names : List (List ℕ)) (points : List Point) (n : AreNamed names points) where
  ended_action : (t : ActionTree) → AreHeard a.own (action_statement t) → action_fault (known a) t ≡ false → AreEnds (action_marks t) →
      AreEnds (action_sizes (meant a) t) → IsActionSaid (shown a) (action_of (meant a) t)
  ended_action t heard faults marks sizes =
      action_said a t heard faults (all_parts IsEnd (action_words_marks t) ending marks).0
      (all_parts IsEnd (action_words_sizes (meant a) t) ending sizes).0

  path_said : (p : PathTree) → AreHeard a.own (path p) → AllIn IsFalse (path_faults (known a) names p) → AreEnds (path_marks p) →
      AreEnds (path_sizes (meant a) p) → IsPathSaid (shown a) points (path_of (meant a) names p)
  path_said p heard faults marks sizes =
      let words = all_parts (IsHeard a.own) (guard p.guard)
      (just sign.End ++ (joined action_statement p.actions ++ target_statement p.target)) heard.1 in
      let behind = all_parts (IsHeard a.own) (joined action_statement p.actions) (target_statement p.target) words.1.1 in
      let none = all_parts IsFalse (map (action_fault (known a)) p.actions) (target_fault names p.target ∷ []) faults.1 in
      let ends = all_parts IsEnd (guard_marks p.guard)
      (ending ++ (limited limit.Actions 16 action_marks p.actions ++ target_marks p.target)) marks in
      let last = all_parts IsEnd (limited limit.Actions 16 action_marks p.actions) (target_marks p.target) ends.1.1 in
      let small = all_parts IsEnd (guard_sizes (variables_of a) p.guard) (ending ++ (flat_map (action_sizes (meant a)) p.actions ++ ending))
      sizes in
      let smaller = all_parts IsEnd (flat_map (action_sizes (meant a)) p.actions) ending small.1.1 in
      let guarded = guard_said a p.guard words.0 faults.0 ends.0 small.0 in
      let same = length-map p.actions (action_of (meant a)) in
      let few = at_most_counted limit.Actions 16 action_marks p.actions last.0 in
      record {
        few_relations = guarded.few;
        few_actions = omega (arith, few, same);
        guard = guarded.each;
        actions = all_map (IsActionSaid (shown a)) (action_of (meant a)) p.actions
            (all_by_four (λ t. AreHeard a.own (action_statement t)) (λ t. action_fault (known a) t ≡ false) (λ t. AreEnds (action_marks t))
            (λ t. AreEnds (action_sizes (meant a) t)) (λ t. IsActionSaid (shown a) (action_of (meant a) t)) p.actions ended_action
            (all_joined (IsHeard a.own) action_statement p.actions behind.0) (all_mapped IsFalse (action_fault (known a)) p.actions none.0)
            (each_counted limit.Actions 16 action_marks p.actions last.0)
            (all_flat IsEnd (action_sizes (meant a)) p.actions smaller.0));
        target = target_said a.own names points p.target n behind.1 none.1.0
            (all_parts IsEnd (target_words_marks p.target) ending last.1).0;
      }

  -- ---- steps

  ended_read : (r : ReadTree) → AreHeard a.own (read_statement r) → read_fault (known a) r ≡ false → AreEnds (read_marks r) →
      AreEnds (read_sizes (meant a) r) → IsReadSaid (shown a) (read_of (meant a) r)
  ended_read r heard faults marks sizes =
      read_said a r heard faults (all_parts IsEnd (read_words_marks r) ending marks).0
      (all_parts IsEnd (read_words_sizes (meant a) r) ending sizes).0

  pub step_said : (st : StepTree) → AreHeard a.own (step st) → AllIn IsFalse (step_faults (known a) names st) → AreEnds (step_marks st) →
      AreEnds (step_sizes (meant a) st) → IsStepSaid (shown a) points (step_of (meant a) names st)
  step_said st heard faults marks sizes =
      let words = all_parts (IsHeard a.own) (joined read_statement st.reads) (path st.first ++ joined path st.others) heard in
      let path_words = all_parts (IsHeard a.own) (path st.first) (joined path st.others) words.1 in
      let none = all_parts IsFalse (map (read_fault (known a)) st.reads)
      (path_faults (known a) names st.first ++ flat_map (path_faults (known a) names) st.others) faults.1 in
      let path_none = all_parts IsFalse (path_faults (known a) names st.first) (flat_map (path_faults (known a) names) st.others) none.1 in
      let ends = all_parts IsEnd (limited limit.Reads 32 read_marks st.reads)
      (path_marks st.first ++ limited limit.Paths 15 path_marks st.others) marks.1 in
      let path_ends = all_parts IsEnd (path_marks st.first) (limited limit.Paths 15 path_marks st.others) ends.1 in
      let small = all_parts IsEnd (flat_map (read_sizes (meant a)) st.reads) (flat_map (path_sizes (meant a)) (all_paths st)) sizes.1 in
      let path_small = all_flat IsEnd (path_sizes (meant a)) (all_paths st) small.1 in
      let reads_same = length-map st.reads (read_of (meant a)) in
      let paths_same = length-map st.others (path_of (meant a) names) in
      let reads_few = at_most_counted limit.Reads 32 read_marks st.reads ends.0 in
      let paths_few = at_most_counted limit.Paths 15 path_marks st.others path_ends.1 in
      record {
        few_reads = omega (arith, reads_few, reads_same);
        few_paths = omega (arith, paths_few, paths_same);
        reads = all_map (IsReadSaid (shown a)) (read_of (meant a)) st.reads
            (all_by_four (λ r. AreHeard a.own (read_statement r)) (λ r. read_fault (known a) r ≡ false) (λ r. AreEnds (read_marks r))
            (λ r. AreEnds (read_sizes (meant a) r)) (λ r. IsReadSaid (shown a) (read_of (meant a) r)) st.reads ended_read
            (all_joined (IsHeard a.own) read_statement st.reads words.0) (all_mapped IsFalse (read_fault (known a)) st.reads none.0)
            (each_counted limit.Reads 32 read_marks st.reads ends.0) (all_flat IsEnd (read_sizes (meant a)) st.reads small.0));
        paths = (
          path_said st.first path_words.0 path_none.0 path_ends.0 path_small.0,
          all_map (IsPathSaid (shown a) points) (path_of (meant a) names) st.others
              (all_by_four (λ p. AreHeard a.own (path p)) (λ p. AllIn IsFalse (path_faults (known a) names p)) (λ p. AreEnds (path_marks p))
              (λ p. AreEnds (path_sizes (meant a) p)) (λ p. IsPathSaid (shown a) points (path_of (meant a) names p)) st.others path_said
              (all_joined (IsHeard a.own) path st.others path_words.1)
              (all_flat IsFalse (path_faults (known a) names) st.others path_none.1)
              (each_counted limit.Paths 15 path_marks st.others path_ends.1) path_small.1),
        );
      }
