-- Each statement that is judged is a line of print of its own.
use Rattle.std.proofs.Common.{◌≡◌, ◌≤◌, ◌<◌, ◌-◌, ◌+◌, ℕ, suc, List, [], ◌∷◌, ◌++◌, length, refl, sym, ap, subst, ◌∙◌, append_assoc, arith}
use Rattle.std.specs.List.{flat_map}
use Rattle.std.proofs.lemmas.List.{append-nil, length-append}
use Rattle.std.proofs.lemmas.List.Concat.{flat_map-append}
use Rattle.acc_base.specs.Lines.{line}
use Rattle.acc_base.specs.declared.rules.FormRule.{FormRule}
use Rattle.acc_base.specs.declared.designs.Design.{Design}
use Rattle.acc_form.specs.Judged.{Judged, judged, IsBroken, IsJudgedOn}
use Rattle.acc_form.proofs.StatementEnds.{ends_of}
use Rattle.acc_form.proofs.JudgedMarks.{IsOne, AreOnes, text_of}
use Rattle.acc_form.proofs.JudgedDesigns.{design_judged, judged_is_printed, judged_is_marked}
use Rattle.acc_form.proofs.JudgedRules.{ones_end}
use Rattle.acc_form.proofs.JudgedFaults.{line_of_few}
use Rattle.acc_lex.proofs.LineFronts.{IsFed, fed_line}
use Rattle.acc_parse_statements.specs.Counts.{statements_of}
use Rattle.acc_parse_statements.specs.Lines.{feeds, first_lines}
use Rattle.acc_parse_statements.proofs.FirstLines.{feeds_both, lines_of}
use Rattle.acc_parse_statements.proofs.Counted.{spelled_ends}
use Rattle.acc_parse_syntax.specs.Spelling.{spelled_design}
use Rattle.acc_print.specs.Designs.{printed}
use Rattle.acc_parse_readback.specs.TypeTrees.{tree_of}
use Rattle.acc_parse_readback.specs.PrintableTypes.{IsSaid}
use Rattle.acc_parse_readback.proofs.DesignParts.{printed_lines}
use Rattle.acc_parse_readback.proofs.StatementLines.{lines_feeds}
use Rattle.acc_parse_readback.proofs.StatementLimits.{few_statements}
use Rattle.acc_parse_readback.proofs.RuleTypes.{marks_end}

-- ---- line feeds

-- a statement has a line feed at least
one_feeds : (j : Judged) → IsOne j → 1 ≤ feeds j.text
one_feeds j h =
    let both = feeds_both h.words (10 ∷ []) in
    let last : feeds (10 ∷ []) ≡ 1 = refl in
    let same : feeds j.text ≡ feeds (line h.words) = ap feeds h.is_line in omega (arith, both, last, same)

all_feeds : (js : List Judged) → AreOnes js → length js ≤ feeds (flat_map text_of js)
all_feeds [] h = omega arith
all_feeds (j ∷ js) h =
    let both = feeds_both j.text (flat_map text_of js) in
    let one = one_feeds j h.0 in
    let others = all_feeds js h.1 in omega (arith, both, one, others)

all_fed : (f : List ℕ) (js : List Judged) → IsFed f → AreOnes js → IsFed (f ++ flat_map text_of js)
all_fed f [] h g = subst IsFed (sym (append-nil f)) h
all_fed f (j ∷ js) h g =
    let front : IsFed (f ++ j.text) = subst (λ (bs : List ℕ). IsFed (f ++ bs)) (sym g.0.is_line) (fed_line f g.0.words h) in
    subst IsFed (append_assoc f j.text (flat_map text_of js)) (all_fed (f ++ j.text) js front g.1)

-- ---- some of the statements, and those behind them

first_ones : (js ks : List Judged) → AreOnes (js ++ ks) → AreOnes js
first_ones [] ks h = tt
first_ones (j ∷ js) ks h = (h.0, first_ones js ks h.1)

last_ones : (js ks : List Judged) → AreOnes (js ++ ks) → AreOnes ks
last_ones [] ks h = h
last_ones (j ∷ js) ks h = last_ones js ks h.1

-- where there are as many line feeds as statements, the first statements are the first lines
first_are : (js ks : List Judged) → AreOnes (js ++ ks) → feeds (flat_map text_of (js ++ ks)) ≡ length (js ++ ks)
    → first_lines (length js) (flat_map text_of (js ++ ks)) ≡ flat_map text_of js
first_are js ks h e =
    let first = all_feeds js (first_ones js ks h) in
    let last = all_feeds ks (last_ones js ks h) in
    let both = feeds_both (flat_map text_of js) (flat_map text_of ks) in
    let parts : feeds (flat_map text_of (js ++ ks)) ≡ feeds (flat_map text_of js ++ flat_map text_of ks) =
    ap feeds (flat_map-append text_of js ks) in
    let count = length-append js ks in
    ap (first_lines (length js)) (flat_map-append text_of js ks)
    ∙ lines_of (length js) (flat_map text_of js) (flat_map text_of ks) (all_fed [] js tt (first_ones js ks h))
    (omega (arith, e, first, last, both, parts, count))

-- ---- the statements in print

-- there are as many statements as the tree has
judged_count : (d : Design) → IsSaid d → length (judged d) ≡ statements_of (tree_of d)
judged_count d h = sym (ones_end (judged d) (design_judged d).ones).ends ∙ ap ends_of (judged_is_marked d) ∙ marks_end d h

-- and as many line feeds in print
printed_feeds : (d : Design) → IsSaid d → feeds (flat_map text_of (judged d)) ≡ length (judged d)
printed_feeds d h =
    ap feeds (judged_is_printed d) ∙ lines_feeds (printed d) (spelled_design (tree_of d)) (printed_lines d h) ∙ spelled_ends (tree_of d)
    ∙ sym (judged_count d h)

-- the first statements are the first lines of print
lines_are : (d : Design) (ks : List Judged) → IsSaid d → (js : List Judged) → judged d ≡ js ++ ks
    → first_lines (length js) (printed d) ≡ flat_map text_of js
lines_are d ks h js e =
    ap (first_lines (length js)) (sym (judged_is_printed d) ∙ ap (flat_map text_of) e)
    ∙ first_are js ks (subst AreOnes e (design_judged d).ones)
    (subst (λ (ls : List Judged). feeds (flat_map text_of ls) ≡ length ls) e (printed_feeds d h))

-- ---- a statement that breaks a rule

-- it is one of the statements, and its line has the next number
pub judged_number : (d : Design) → IsSaid d → (rule : FormRule) (at : ℕ) (j : IsJudgedOn d rule at)
    → (j.number < statements_of (tree_of d)) × (at ≡ j.number + 1)
judged_number d h rule at j =
    let b = j.broken in
    let place : length (judged d) ≡ length (b.before ++ b.statement ∷ b.after) = ap length b.place in
    let parts = length-append b.before (b.statement ∷ b.after) in
    let last : length (b.statement ∷ b.after) ≡ suc (length b.after) = refl in
    let number = b.number in
    let count = judged_count d h in
    let few = few_statements d h in
    let less : j.number < statements_of (tree_of d) = omega (arith, place, parts, last, number, count) in
    (less, j.on_line ∙ line_of_few j.number (omega (arith, less, few)))

-- it is the line of print behind the statements before it
line_behind : (d : Design) → IsSaid d → (rule : FormRule) (n : ℕ) (b : IsBroken (judged d) rule n)
    → first_lines (suc n) (printed d) ≡ first_lines n (printed d) ++ b.statement.text
line_behind d h rule n b =
    let front = b.before ++ b.statement ∷ [] in
    let whole : judged d ≡ front ++ b.after = b.place ∙ sym (append_assoc b.before (b.statement ∷ []) b.after) in
    let number = b.number in
    let one : length (b.statement ∷ []) ≡ 1 = refl in
    let both = length-append b.before (b.statement ∷ []) in
    let count : length front ≡ suc n = omega (arith, both, number, one) in
    let first = lines_are d (b.statement ∷ b.after) h b.before b.place in
    let next = lines_are d b.after h front whole in
    let parts : flat_map text_of front ≡ flat_map text_of b.before ++ b.statement.text =
    flat_map-append text_of b.before (b.statement ∷ []) ∙ ap (λ (bs : List ℕ). flat_map text_of b.before ++ bs)
    (append-nil b.statement.text) in
    ap (λ (k : ℕ). first_lines k (printed d)) (sym count) ∙ next ∙ parts
    ∙ ap (λ (bs : List ℕ). bs ++ b.statement.text) (sym first ∙ ap (λ (k : ℕ). first_lines k (printed d)) number)

pub judged_line : (d : Design) → IsSaid d → (rule : FormRule) (at : ℕ) (j : IsJudgedOn d rule at)
    → first_lines at (printed d) ≡ first_lines (at - 1) (printed d) ++ j.broken.statement.text
judged_line d h rule at j =
    let is = (judged_number d h rule at j).1 in
    let last : suc j.number ≡ at = omega (arith, is) in
    let before : j.number ≡ at - 1 = omega (arith, is) in
    let text = j.broken.statement.text in
    subst (λ (k : ℕ). first_lines k (printed d) ≡ first_lines (at - 1) (printed d) ++ text) last
    (subst (λ (k : ℕ). first_lines (suc j.number) (printed d) ≡ first_lines k (printed d) ++ text) before
    (line_behind d h rule j.number j.broken))
