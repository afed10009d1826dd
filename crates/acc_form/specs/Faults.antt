-- The faults of a design: which rules are broken on which lines of its print; which fault comes first; what is well-formed.
use Rattle.std.specs.Prelude.{ℕ, ◌+◌, ◌-◌, ◌^◌, Bool, ◌&&◌, ◌||◌, ◌==◌, List, [], ◌∷◌, nat_lt, if◌then◌else◌}
use Rattle.acc_base.specs.declared.rules.FormRule.{FormRule}
use Rattle.acc_base.specs.declared.rules.FormRule.TheVariants as rules
use Rattle.acc_base.specs.Numbering.{form_rule_number}
use Rattle.acc_base.specs.Leasts.{IsLeast}
use Rattle.acc_base.specs.declared.designs.Design.{Design}
use Rattle.acc_form.specs.declared.rules.FormError.{FormError}
use Rattle.acc_form.specs.declared.rules.FormError.TheVariants.{Bad, Memory}
use Rattle.acc_form.specs.Marks.{Mark, Broken, End}
use Rattle.acc_formed.specs.Ranges.{design_in}
use Rattle.acc_form.specs.Statements.{design_marks}

-- the line behind a line; lines are counted up to 2^64 - 1, and that line stands for all behind it
abbrev pub next_line : ℕ → ℕ
next_line line = if nat_lt line (2 ^ 64 - 1) then line + 1 else line

-- the rules that are broken, each with its line, where the statement at hand stands on this line
abbrev pub placed : ℕ → List Mark → List (FormRule × ℕ)
placed line [] = []
placed line (Broken rule ∷ ms) = (rule, line) ∷ placed line ms
placed line (End ∷ ms) = placed (next_line line) ms

-- the faults of a design, as rules and lines, in the order of the lines from 1: where a number is out of range, that alone,
-- on no line
unfoldable pub form_faults : Design → List (FormRule × ℕ)
form_faults d = if design_in d then placed 1 (design_marks d) else ((rules.Ranges, 0) ∷ [])

-- a rule comes before another by its number
unfoldable pub is_lower : FormRule → FormRule → Bool
is_lower r s = nat_lt (form_rule_number r) (form_rule_number s)

-- a fault comes before another by its rule, and at one rule by its line
unfoldable pub is_before : FormRule × ℕ → FormRule × ℕ → Bool
is_before f g = is_lower f.0 g.0 || ((form_rule_number f.0 == form_rule_number g.0) && nat_lt f.1 g.1)

-- the lowest rule that is broken, and the first line that breaks it; want of memory is never answered
abbrev pub IsFirstFault : Design → FormError → Type 0
IsFirstFault d (Bad rule line) = IsLeast is_before (form_faults d) (rule, line)
IsFirstFault d Memory = ⊥
