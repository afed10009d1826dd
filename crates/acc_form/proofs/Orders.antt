-- The order of faults, and that a rule is known by its number.
use Rattle.std.proofs.Common.{◌≡◌, ℕ, ◌-◌, List, [], ◌∷◌, get_or, refl, sym, ap, ◌∙◌, arith}
use Rattle.std.proofs.lemmas.Bool.Decides.{nat_tests}
use Rattle.acc_base.specs.declared.rules.FormRule.{FormRule}
use Rattle.acc_base.specs.declared.rules.FormRule.TheVariants as rules
use Rattle.acc_base.specs.Numbering.{form_rule_number}
use Rattle.acc_base.proofs.Leasts.{IsOrder}
use Rattle.acc_form.specs.Faults.{is_lower, is_before}

pub before_is_order : IsOrder is_before
unfolding is_before is_lower
before_is_order = record {
  irreflexive = λ f. grind (arith, nat_tests);
  transitive = λ f g h a b. grind (arith, nat_tests);
  rising = λ f g h a b. grind (arith, nat_tests);
}

-- ---- two rules of one number are one

-- the rules in the order of their numbers, from 1
abbrev in_order : List FormRule
in_order =
    rules.Ranges ∷ rules.Widths ∷ rules.ShortPrefixes ∷ rules.Limits ∷ rules.Numbers ∷ rules.Names ∷ rules.LastPaths ∷ rules.Ends
    ∷ rules.Refusals ∷ rules.PrivateKeys ∷ rules.Assigned ∷ rules.UndoReads ∷ rules.StartUndos ∷ rules.Starts ∷ rules.Entries
    ∷ rules.Pairs ∷ []

-- the rule with this number
abbrev rule_of : ℕ → FormRule
rule_of n = get_or in_order (n - 1) rules.Ranges

of_number : (r : FormRule) → rule_of (form_rule_number r) ≡ r
of_number rules.Ranges = refl
of_number rules.Widths = refl
of_number rules.ShortPrefixes = refl
of_number rules.Limits = refl
of_number rules.Numbers = refl
of_number rules.Names = refl
of_number rules.LastPaths = refl
of_number rules.Ends = refl
of_number rules.Refusals = refl
of_number rules.PrivateKeys = refl
of_number rules.Assigned = refl
of_number rules.UndoReads = refl
of_number rules.StartUndos = refl
of_number rules.Starts = refl
of_number rules.Entries = refl
of_number rules.Pairs = refl

pub one_rule : (r s : FormRule) → form_rule_number r ≡ form_rule_number s → r ≡ s
one_rule r s e = sym (of_number r) ∙ ap rule_of e ∙ of_number s
