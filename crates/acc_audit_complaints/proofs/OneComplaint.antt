-- One thing is wrong with a clause, or nothing; and of some clauses one is the first with which something is wrong.
use Rattle.std.proofs.Common.{◌≡◌, ℕ, zero, suc, ◌+◌, List, [], ◌∷◌, length, Option, Some, None, All, refl, sym, ap, ◌∙◌, ℤ}
use Rattle.std.proofs.Common.{subst, arith, slice_get}
use Rattle.std.specs.List.{AllByRecursion}
use Rattle.std.proofs.lemmas.List.Elements.{recursion_from_All}
use Rattle.std.proofs.lemmas.Option.{same_Some}
use Rattle.acc_base.specs.declared.tables.Row.{Row}
use Rattle.acc_base.specs.declared.forms.Clause.{Clause}
use Rattle.acc_audit_ranges.proofs.OneRange.{one_range}
use Rattle.acc_audit_complaints.specs.declared.searches.Complaint.{Complaint}
use Rattle.acc_audit_complaints.specs.Complaints.{judged, Judges, IsFirst, IsFirstAt}
use Rattle.acc_audit_complaints.proofs.OneFirst.{none_of_all, one_first}

-- lists with the same items
items_same : {X : Type 0} (xs ys : List X) → length xs ≡ length ys
    → ((i : ℕ) (x y : X) → slice_get xs i ≡ Some x → slice_get ys i ≡ Some y → x ≡ y) → xs ≡ ys
items_same [] [] long each = refl
items_same [] (y ∷ ys) long each = absurd (omega (arith, long))
items_same (x ∷ xs) [] long each = absurd (omega (arith, long))
items_same (x ∷ xs) (y ∷ ys) long each =
    ap (λ z. z ∷ xs) (each zero x y refl refl)
    ∙ ap (λ zs. y ∷ zs) (items_same xs ys (omega (arith, long)) (λ i z w h k. each (suc i) z w h k))

module _ (db : List Row) (env : List ℤ) where
  pub one_judgement : (c : Clause) (a b : Option Complaint) → Judges db env c a → Judges db env c b → a ≡ b
  one_judgement c a b h k =
      let same : h.ranges ≡ k.ranges = items_same h.ranges k.ranges (h.are_ranges.each_has ∙ sym k.are_ranges.each_has)
      (λ i r s x y. one_range db env c (length env + i) r s (h.are_ranges.each i r x) (k.are_ranges.each i s y)) in
      h.tells ∙ ap (judged db env c) same ∙ sym k.tells

  -- the first clause with which something is wrong, and what that is
  pub record IsSameFirst (n m : ℕ) (a b : Complaint) : Type 0 where
    pub same_number : n ≡ m
    pub same_complaint : a ≡ b

  module _ (clauses : List Clause) where
    clear_or_wrong : (n : ℕ) (a : Complaint) → All (λ c. Judges db env c None) clauses → IsFirstAt db env clauses n a → ⊥
    clear_or_wrong n a clear f =
        none_of_all (Judges db env) one_judgement f.before f.behind f.clause a
        (subst (AllByRecursion (λ c. Judges db env c None)) f.parts (recursion_from_All (λ c. Judges db env c None) clauses clear)) f.tells

    first_same : (n m : ℕ) (a b : Complaint) → IsFirstAt db env clauses n a → IsFirstAt db env clauses m b → IsSameFirst n m a b
    first_same n m a b f g =
        let same = one_first (Judges db env) one_judgement f.before g.before f.behind g.behind f.clause g.clause a b (sym f.parts ∙ g.parts)
        (recursion_from_All (λ c. Judges db env c None) f.before f.clear)
        (recursion_from_All (λ c. Judges db env c None) g.before g.clear) f.tells g.tells in
        record {
          same_number = f.number ∙ ap (λ xs. length xs + 1) same.same_before ∙ sym g.number;
          same_complaint =
              same_Some a b (one_judgement g.clause (Some a) (Some b) (subst (λ c. Judges db env c (Some a)) same.same_first f.tells) g.tells);
        }

    pub one_first_of : (f g : Option (ℕ × Complaint)) → IsFirst db env clauses f → IsFirst db env clauses g → f ≡ g
    one_first_of None None h k = refl
    one_first_of None (Some g) h k = absurd (clear_or_wrong g.0 g.1 h k)
    one_first_of (Some f) None h k = absurd (clear_or_wrong f.0 f.1 k h)
    one_first_of (Some f) (Some g) h k =
        let same = first_same f.0 g.0 f.1 g.1 h k in
        λ i. Some (same.same_number i, same.same_complaint i)
