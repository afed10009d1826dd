-- The reads and actions of a tree that is a design's can be spelled.
use Rattle.std.proofs.Common.{◌≡◌, ℕ, ◌≤◌, ◌^◌, Bool, false, List, ◌++◌, Option, Some, None, refl, sym, subst, arith, ℤ, pos}
use Rattle.std.specs.Prelude.{◌||◌, nat_lt}
use Rattle.std.proofs.lemmas.Bool.{or_parts}
use Rattle.std.proofs.lemmas.Bool.Decides.{nat_tests}
use Rattle.acc_grammar.specs.Readers.{AllIn}
use Rattle.acc_base.specs.Numbers.{IsSmall}
use Rattle.acc_lex.specs.declared.words.Word.{Word}
use Rattle.acc_lex.specs.declared.words.Sign.TheVariants as sign
use Rattle.acc_parse_syntax.specs.declared.trees.Variable.{Variable}
use Rattle.acc_parse_syntax.specs.declared.trees.Sums.{Sums}
use Rattle.acc_parse_syntax.specs.declared.trees.ReadTree.{ReadTree}
use Rattle.acc_parse_syntax.specs.declared.trees.ReadTree.TheVariants as read
use Rattle.acc_parse_syntax.specs.declared.trees.ActionTree.{ActionTree}
use Rattle.acc_parse_syntax.specs.declared.trees.ActionTree.TheVariants as action
use Rattle.acc_parse_syntax.specs.Spelling.{just, number, variable, sum, place, cell, values, read_statement, action_statement}
use Rattle.acc_parse_names.specs.Faults.{variable_fault, sum_fault, place_fault, cell_fault, values_fault, read_fault, action_fault}
use Rattle.acc_base.specs.declared.limits.Limit.TheVariants as limit
use Rattle.acc_parse_limits.specs.Words.{number_marks, variable_marks, sum_marks, place_marks, cell_marks}
use Rattle.acc_parse_limits.specs.Statements.{read_words_marks, values_marks, action_words_marks}
use Rattle.acc_parse_clauses.specs.Values.{kept, values_of}
use Rattle.acc_parse.specs.Steps.{read_of, action_of}
use Rattle.acc_parse_clauses.specs.Sizes.{sum_sizes, values_sizes, place_sizes}
use Rattle.acc_parse.specs.Sizes.{read_words_sizes, action_words_sizes}
use Rattle.acc_print.specs.Sums.{is_negative}
use Rattle.acc_parse_readback.specs.Printable.{IsLinSaid}
use Rattle.acc_parse_readback.specs.PrintableTypes.{IsReadSaid, IsActionSaid}
use Rattle.acc_parse_readback.proofs.OnlyEnds.{AreEnds, IsEnd}
use Rattle.acc_parse_readback.proofs.SaidParts.{not_past, all_parts}
use Rattle.acc_parse_readback.proofs.SaidNames.{AreHeard, IsHeard, Setting, variables_of, variable_said}
use Rattle.acc_parse_readback.proofs.SaidValues.{kept_same, lin_said}
use Rattle.acc_parse_readback.proofs.SaidRows.{meant, known, shown, place_said, cell_said, sums_said}

-- ---- reads

-- the variable that is assigned, and what it is assigned
pub assigned : (own : Bool) (x : Variable) (ws : List Word) → AreHeard own (variable x ++ (just sign.Equal ++ (ws ++ just sign.End))) →
    AreHeard own (variable x) × AreHeard own ws
assigned own x ws h =
    let parts = all_parts (IsHeard own) (variable x) (just sign.Equal ++ (ws ++ just sign.End)) h in
    (parts.0, (all_parts (IsHeard own) ws (just sign.End) parts.1.1).0)

-- a divisor
divisor_said : (n : ℕ) → AreEnds (number_marks n) → (is_negative (kept (pos n)) ≡ false) × IsSmall (kept (pos n))
divisor_said n marks =
    let short : nat_lt (2 ^ 45) n ≡ false = not_past limit.NumberSize (nat_lt (2 ^ 45) n) marks in
    let small : n ≤ 2 ^ 45 = grind (arith, nat_tests) in
    let same = sym (kept_same (pos n) small) in
    (subst (λ (m : ℤ). is_negative m ≡ false) same refl, subst IsSmall same small)

pub read_said : (a : Setting) (r : ReadTree) → AreHeard a.own (read_statement r) → read_fault (known a) r ≡ false →
    AreEnds (read_words_marks r) → AreEnds (read_words_sizes (meant a) r) → IsReadSaid (shown a) (read_of (meant a) r)
read_said a (read.Let x v) heard faults marks sizes =
    let words = assigned a.own x (sum v) heard.1 in
    let none = or_parts (variable_fault a.known x) (sum_fault a.known v) faults in
    let ends = all_parts IsEnd (variable_marks x) (sum_marks v) marks in
    (variable_said a x words.0 none.0 ends.0, lin_said a v words.1 none.1 ends.1 sizes)
read_said a (read.Get x c) heard faults marks sizes =
    let words = assigned a.own x (cell c) heard.1 in
    let none = or_parts (variable_fault a.known x) (cell_fault (known a) c) faults in
    let ends = all_parts IsEnd (variable_marks x) (cell_marks c) marks in
    (variable_said a x words.0 none.0 ends.0, cell_said a c words.1 none.1 ends.1 sizes)
read_said a (read.Has x p) heard faults marks sizes =
    let words = assigned a.own x (place p) heard.1 in
    let none = or_parts (variable_fault a.known x) (place_fault (known a) p) faults in
    let ends = all_parts IsEnd (variable_marks x) (place_marks p) marks in
    (variable_said a x words.0 none.0 ends.0, place_said a p words.1 none.1 ends.1 sizes)
read_said a (read.Count x p) heard faults marks sizes =
    let words = assigned a.own x (place p) heard.1 in
    let none = or_parts (variable_fault a.known x) (place_fault (known a) p) faults in
    let ends = all_parts IsEnd (variable_marks x) (place_marks p) marks in
    (variable_said a x words.0 none.0 ends.0, place_said a p words.1 none.1 ends.1 sizes)
read_said a (read.Sum x c) heard faults marks sizes =
    let words = assigned a.own x (cell c) heard.1 in
    let none = or_parts (variable_fault a.known x) (cell_fault (known a) c) faults in
    let ends = all_parts IsEnd (variable_marks x) (cell_marks c) marks in
    (variable_said a x words.0 none.0 ends.0, cell_said a c words.1 none.1 ends.1 sizes)
read_said a (read.Least x p) heard faults marks sizes =
    let words = assigned a.own x (place p) heard.1 in
    let none = or_parts (variable_fault a.known x) (place_fault (known a) p) faults in
    let ends = all_parts IsEnd (variable_marks x) (place_marks p) marks in
    (variable_said a x words.0 none.0 ends.0, place_said a p words.1 none.1 ends.1 sizes)
read_said a (read.Greatest x p) heard faults marks sizes =
    let words = assigned a.own x (place p) heard.1 in
    let none = or_parts (variable_fault a.known x) (place_fault (known a) p) faults in
    let ends = all_parts IsEnd (variable_marks x) (place_marks p) marks in
    (variable_said a x words.0 none.0 ends.0, place_said a p words.1 none.1 ends.1 sizes)
read_said a (read.Take x) heard faults marks sizes =
    variable_said a x (all_parts (IsHeard a.own) (variable x) (just sign.End) heard.1).0 faults marks
read_said a (read.Mul x y z) heard faults marks sizes =
    let words = all_parts (IsHeard a.own) (variable x) (just sign.Equal ++ (variable y ++ (variable z ++ just sign.End))) heard.1 in
    let behind = all_parts (IsHeard a.own) (variable y) (variable z ++ just sign.End) words.1.1 in
    let last = all_parts (IsHeard a.own) (variable z) (just sign.End) behind.1 in
    let none = or_parts (variable_fault a.known x) (variable_fault a.known y || variable_fault a.known z) faults in
    let nor = or_parts (variable_fault a.known y) (variable_fault a.known z) none.1 in
    let ends = all_parts IsEnd (variable_marks x) (variable_marks y ++ variable_marks z) marks in
    let further = all_parts IsEnd (variable_marks y) (variable_marks z) ends.1 in
    (variable_said a x words.0 none.0 ends.0, variable_said a y behind.0 nor.0 further.0, variable_said a z last.0 nor.1 further.1)
read_said a (read.Div x y n) heard faults marks sizes =
    let words = all_parts (IsHeard a.own) (variable x) (just sign.Equal ++ (variable y ++ (number n ++ just sign.End))) heard.1 in
    let behind = all_parts (IsHeard a.own) (variable y) (number n ++ just sign.End) words.1.1 in
    let none = or_parts (variable_fault a.known x) (variable_fault a.known y) faults in
    let ends = all_parts IsEnd (variable_marks x) (variable_marks y ++ number_marks n) marks in
    let further = all_parts IsEnd (variable_marks y) (number_marks n) ends.1 in
    let divisor = divisor_said n further.1 in
    (variable_said a x words.0 none.0 ends.0, variable_said a y behind.0 none.1 further.0, divisor.0, divisor.1)

-- ---- actions

values_said : (a : Setting) (vs : Option Sums) → AreHeard a.own (values vs) → values_fault a.known vs ≡ false → AreEnds (values_marks vs) →
    AreEnds (values_sizes (variables_of a) vs) → AllIn (IsLinSaid a.names) (values_of (variables_of a) vs)
values_said a None heard faults marks sizes = tt
values_said a (Some ss) heard faults marks sizes = sums_said a ss heard faults marks sizes

pub action_said : (a : Setting) (t : ActionTree) → AreHeard a.own (action_statement t) → action_fault (known a) t ≡ false →
    AreEnds (action_words_marks t) → AreEnds (action_words_sizes (meant a) t) → IsActionSaid (shown a) (action_of (meant a) t)
action_said a (action.Put p vs) heard faults marks sizes =
    let words = all_parts (IsHeard a.own) (place p) (values vs ++ just sign.End) heard.1 in
    let behind = all_parts (IsHeard a.own) (values vs) (just sign.End) words.1 in
    let none = or_parts (place_fault (known a) p) (values_fault a.known vs) faults in
    let ends = all_parts IsEnd (place_marks p) (values_marks vs) marks in
    let small = all_parts IsEnd (place_sizes (meant a) p) (values_sizes (variables_of a) vs) sizes in
    (place_said a p words.0 none.0 ends.0 small.0, values_said a vs behind.0 none.1 ends.1 small.1)
action_said a (action.Del p) heard faults marks sizes =
    place_said a p (all_parts (IsHeard a.own) (place p) (just sign.End) heard.1).0 faults marks sizes
action_said a (action.Set c v) heard faults marks sizes =
    let words = all_parts (IsHeard a.own) (cell c) (sum v ++ just sign.End) heard.1 in
    let behind = all_parts (IsHeard a.own) (sum v) (just sign.End) words.1 in
    let none = or_parts (cell_fault (known a) c) (sum_fault a.known v) faults in
    let ends = all_parts IsEnd (cell_marks c) (sum_marks v) marks in
    let small = all_parts IsEnd (place_sizes (meant a) c.place) (sum_sizes (variables_of a) v) sizes in
    (cell_said a c words.0 none.0 ends.0 small.0, lin_said a v behind.0 none.1 ends.1 small.1)
action_said a (action.Add c v) heard faults marks sizes =
    let words = all_parts (IsHeard a.own) (cell c) (sum v ++ just sign.End) heard.1 in
    let behind = all_parts (IsHeard a.own) (sum v) (just sign.End) words.1 in
    let none = or_parts (cell_fault (known a) c) (sum_fault a.known v) faults in
    let ends = all_parts IsEnd (cell_marks c) (sum_marks v) marks in
    let small = all_parts IsEnd (place_sizes (meant a) c.place) (sum_sizes (variables_of a) v) sizes in
    (cell_said a c words.0 none.0 ends.0 small.0, lin_said a v behind.0 none.1 ends.1 small.1)
