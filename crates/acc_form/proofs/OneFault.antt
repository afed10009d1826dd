-- A design breaks one form rule first.
use Rattle.std.proofs.Common.{◌≡◌, ℕ, ◌<◌, List, subst, arith}
use Rattle.std.specs.Prelude.{IsTrue}
use Rattle.std.proofs.lemmas.Bool.Decides.{nat_tests}
use Rattle.std.proofs.lemmas.List.Elements.{All-contains}
use Rattle.acc_base.specs.declared.rules.FormRule.{FormRule}
use Rattle.acc_base.specs.Numbering.{form_rule_number}
use Rattle.acc_base.specs.Leasts.{IsLeast}
use Rattle.acc_form.specs.Faults.{is_lower, is_before}
use Rattle.acc_form.proofs.Orders.{one_rule}

before_by_rule : (r s : FormRule) (a b : ℕ) → form_rule_number r < form_rule_number s → IsTrue (is_before (r, a) (s, b))
unfolding is_before is_lower
before_by_rule r s a b h = grind (arith, nat_tests)

before_by_line : (r : FormRule) (a b : ℕ) → a < b → IsTrue (is_before (r, a) (r, b))
unfolding is_before is_lower
before_by_line r a b h = grind (arith, nat_tests)

pub one_least :
    (faults : List (FormRule × ℕ)) (r : FormRule) (a : ℕ) (s : FormRule) (b : ℕ) →
    IsLeast is_before faults (r, a) → IsLeast is_before faults (s, b) → (r ≡ s) × (a ≡ b)
one_least faults r a s b h k =
    let not_less : ¬ IsTrue (is_before (s, b) (r, a)) = All-contains (λ y. ¬ IsTrue (is_before y (r, a))) faults (s, b) h.least k.there in
    let not_more : ¬ IsTrue (is_before (r, a) (s, b)) = All-contains (λ y. ¬ IsTrue (is_before y (s, b))) faults (r, a) k.least h.there in
    let no_lower : ¬ (form_rule_number r < form_rule_number s) = λ lt. not_more (before_by_rule r s a b lt) in
    let no_higher : ¬ (form_rule_number s < form_rule_number r) = λ lt. not_less (before_by_rule s r b a lt) in
    let rule : r ≡ s = one_rule r s (omega (arith, no_lower, no_higher)) in
    let no_earlier : ¬ (a < b) = λ lt. not_more (subst (λ z. IsTrue (is_before (r, a) (z, b))) rule (before_by_line r a b lt)) in
    let no_later : ¬ (b < a) = λ lt. not_less (subst (λ z. IsTrue (is_before (z, b) (r, a))) rule (before_by_line r b a lt)) in
    (rule, omega (arith, no_earlier, no_later))
