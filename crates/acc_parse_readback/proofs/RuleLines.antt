-- The line of a form rule that is broken is the line of the statement in print that breaks it.
use Rattle.std.proofs.Common.{◌≡◌, ◌<◌, ℕ, suc, ◌+◌, ◌-◌, List, sym, subst, ◌∙◌, inl, inr, arith}
use Rattle.std.proofs.lemmas.Bool.{false≢true}
use Rattle.acc_base.specs.declared.rules.FormRule.{FormRule}
use Rattle.acc_base.specs.declared.designs.Design.{Design}
use Rattle.acc_form.specs.declared.rules.FormError.TheVariants.{Bad}
use Rattle.acc_form.specs.Judged.{IsJudgedOn, IsFaultInPrint}
use Rattle.acc_parse_statements.specs.Counts.{statements_of}
use Rattle.acc_parse_statements.specs.Lines.{IsLineOf}
use Rattle.acc_parse_statements.proofs.Counted.{spelled_ends}
use Rattle.acc_parse_syntax.specs.Spelling.{spelled_design}
use Rattle.acc_parse.specs.Texts.{IsDesignText}
use Rattle.acc_print.specs.Designs.{printed}
use Rattle.acc_parse_readback.specs.TypeTrees.{tree_of}
use Rattle.acc_parse_readback.specs.PrintableTypes.{IsSaid}
use Rattle.acc_parse_readback.proofs.DesignParts.{printed_lines}
use Rattle.acc_parse_readback.proofs.StatementLines.{own_line}
use Rattle.acc_parse_readback.proofs.SaidDesigns.{parsed_is_said}
use Rattle.acc_parse_readback.proofs.SaidRanges.{said_in_range}
use Rattle.acc_parse_readback.proofs.JudgedLines.{judged_number}

-- each statement stands on a line of its own, in the order of the lines
pub statement_line : (d : Design) (n : ℕ) → IsSaid d → n < statements_of (tree_of d) → IsLineOf (printed d) n (n + 1)
statement_line d n h less =
    let count = spelled_ends (tree_of d) in
    let next : suc n ≡ n + 1 = omega arith in
    subst (IsLineOf (printed d) n) next (own_line (printed d) (spelled_design (tree_of d)) (printed_lines d h) n
    (omega (arith, less, count)))

-- the line of a broken rule is its line in print
pub fault_line : (d : Design) → IsSaid d → (rule : FormRule) (at : ℕ) → IsJudgedOn d rule at → IsLineOf (printed d) (at - 1) at
fault_line d h rule at j =
    let k = judged_number d h rule at j in
    let is = k.1 in
    let before : j.number ≡ at - 1 = omega (arith, is) in
    subst (IsLineOf (printed d) (at - 1)) (sym is)
    (subst (λ (n : ℕ). IsLineOf (printed d) n (j.number + 1)) before (statement_line d j.number h k.0))

-- in a design that a text stands for every number is in range: its faults are statements in print
pub text_fault : (source : List ℕ) (d : Design) → IsDesignText source d → (rule : FormRule) (at : ℕ) → IsFaultInPrint d (Bad rule at)
    → IsJudgedOn d rule at
text_fault source d is rule at fault = elim fault [
  | inl out ↦ absurd (false≢true (sym out.0 ∙ said_in_range d (parsed_is_said source d is)))
  | inr j ↦ j
]
