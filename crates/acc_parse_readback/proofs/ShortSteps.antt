-- Steps are printed at most eight times as long as they were written.
use Rattle.std.proofs.Common.{◌≡◌, ℕ, ◌*◌, ◌^◌, ◌≤◌, Bool, true, false, List, [], ◌∷◌, ◌++◌, length, map, ap, arith, length-append}
use Rattle.std.specs.Prelude.{slice_get, nat_lt, if◌then◌else◌, codes}
use Rattle.std.specs.Fmt.{decimal}
use Rattle.std.specs.List.{flat_map}
use Rattle.acc_grammar.specs.Readers.{AllIn, joined}
use Rattle.acc_base.specs.Lines.{line, point_name}
use Rattle.acc_base.specs.declared.designs.Point.{Point}
use Rattle.acc_lex.specs.declared.words.Sign.TheVariants as sign
use Rattle.acc_parse_syntax.specs.declared.trees.TargetTree.{TargetTree}
use Rattle.acc_parse_syntax.specs.declared.trees.TargetTree.TheVariants as target
use Rattle.acc_parse_syntax.specs.declared.trees.PathTree.{PathTree}
use Rattle.acc_parse_syntax.specs.declared.trees.StepTree.{StepTree}
use Rattle.acc_parse_syntax.specs.Spelling.{just, guard, read_statement, action_statement, target_statement, path, step}
use Rattle.acc_parse_names.specs.Faults.{read_fault, action_fault, target_fault, path_faults, step_faults}
use Rattle.acc_parse_clauses.specs.Scopes.{fitted, number_of}
use Rattle.acc_parse_clauses.specs.Values.{guard_of}
use Rattle.acc_parse.specs.Steps.{read_of, action_of, target_of, path_of, step_of, all_paths}
use Rattle.acc_print.specs.Lists.{listed}
use Rattle.acc_print.specs.Values.{lin_rel_text}
use Rattle.acc_print.specs.Steps.{read_line, action_line, target_text, path_lines, step_lines}
use Rattle.acc_parse_readback.proofs.Faultless.{IsFalse}
use Rattle.acc_parse_readback.proofs.SaidParts.{all_parts, all_flat, all_mapped}
use Rattle.acc_parse_readback.proofs.SaidNames.{IsHeard, AreHeard, Setting, variables_of, stands_true}
use Rattle.acc_parse_readback.proofs.SaidRows.{meant, known, shown}
use Rattle.acc_parse_readback.proofs.SaidSteps.{AreNamed, point_again}
use Rattle.acc_parse_readback.proofs.ShortNumbers.{number_size, digit_count_none, decimal_short}
use Rattle.acc_parse_readback.proofs.Weights.{weight, weight-append}
use Rattle.acc_parse_readback.proofs.ShortLists.{joined_short}
use Rattle.acc_parse_readback.proofs.ShortValues.{guard_short}
use Rattle.acc_parse_readback.proofs.ShortReads.{line_long, read_short, action_short}

pub fitted_size : (n : ℕ) → number_size (fitted n) ≤ number_size n
fitted_size n = by (nat_lt n (2 ^ 32))
  where
    by : (b : Bool) → number_size (if b then n else 0) ≤ number_size n
    by true = omega arith
    by false = omega (arith, digit_count_none)

target_short : (names : List (List ℕ)) (points : List Point) (t : TargetTree) → AreNamed names points → target_fault names t ≡ false →
    length (line (target_text points (target_of names t))) ≤ 8 * weight (target_statement t)
target_short names points (target.Goto x) n none =
    let name = point_name (slice_get points (number_of x names)) in
    omega (arith, ap length (point_again names points x n (stands_true x names none)), line_long (codes "goto " ++ name))
target_short names points target.Commit n none = omega arith
target_short names points target.Undone n none = omega arith
target_short names points (target.Refuse k) n none =
    omega (arith, decimal_short (fitted k), fitted_size k, line_long (codes "refuse " ++ decimal (fitted k)))

module _ (a : Setting) (names : List (List ℕ)) (points : List Point) (n : AreNamed names points) where
  path_short : (p : PathTree) → AreHeard a.own (path p) → AllIn IsFalse (path_faults (known a) names p) →
      length (path_lines (shown a) points (path_of (meant a) names p)) ≤ 8 * weight (path p)
  path_short p heard faults =
      let words = all_parts (IsHeard a.own) (guard p.guard)
      (just sign.End ++ (joined action_statement p.actions ++ target_statement p.target)) heard.1 in
      let behind = all_parts (IsHeard a.own) (joined action_statement p.actions) (target_statement p.target) words.1.1 in
      let none = all_parts IsFalse (map (action_fault (known a)) p.actions) (target_fault names p.target ∷ []) faults.1 in
      let guarded = codes "path" ++ listed (lin_rel_text a.names) (codes " ") (guard_of (variables_of a) p.guard) in
      let actions = flat_map (action_line (shown a)) (map (action_of (meant a)) p.actions) in
      let end = line (target_text points (target_of names p.target)) in
      let each = joined_short a.own (action_line (shown a)) (action_of (meant a)) action_statement (λ t. action_fault (known a) t ≡ false)
      (action_short a) p.actions behind.0 (all_mapped IsFalse (action_fault (known a)) p.actions none.0) in
      omega (
        arith,
        guard_short a (codes " ") p.guard words.0 faults.0,
        line_long guarded,
        each,
        target_short names points p.target n none.1.0,
        length-append (line guarded) (actions ++ end),
        length-append actions end,
        weight-append (guard p.guard) (just sign.End ++ (joined action_statement p.actions ++ target_statement p.target)),
        weight-append (joined action_statement p.actions) (target_statement p.target),
      )

  pub step_short : (st : StepTree) → AreHeard a.own (step st) → AllIn IsFalse (step_faults (known a) names st) →
      length (step_lines (shown a) points (step_of (meant a) names st)) ≤ 8 * weight (step st)
  step_short st heard faults =
      let words = all_parts (IsHeard a.own) (joined read_statement st.reads) (path st.first ++ joined path st.others) heard in
      let none = all_parts IsFalse (map (read_fault (known a)) st.reads)
      (path_faults (known a) names st.first ++ flat_map (path_faults (known a) names) st.others) faults.1 in
      let reads = flat_map (read_line (shown a)) (map (read_of (meant a)) st.reads) in
      let paths = flat_map (path_lines (shown a) points) (map (path_of (meant a) names) (all_paths st)) in
      let each_read = joined_short a.own (read_line (shown a)) (read_of (meant a)) read_statement (λ r. read_fault (known a) r ≡ false)
      (read_short a) st.reads words.0 (all_mapped IsFalse (read_fault (known a)) st.reads none.0) in
      let each_path = joined_short a.own (path_lines (shown a) points) (path_of (meant a) names) path
      (λ p. AllIn IsFalse (path_faults (known a) names p)) path_short (all_paths st) words.1
      (all_flat IsFalse (path_faults (known a) names) (all_paths st) none.1) in
      omega (
        arith,
        each_read,
        each_path,
        length-append reads paths,
        weight-append (joined read_statement st.reads) (path st.first ++ joined path st.others),
      )
