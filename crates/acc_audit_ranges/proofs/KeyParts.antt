-- A key's components, one after the other.
use Rattle.std.proofs.Common.{◌≡◌, ℕ, zero, suc, ◌+◌, ◌<◌, ◌≤◌, ◌&&◌, ◌||◌, List, [], ◌∷◌, ◌++◌, length, take, get_or}
use Rattle.std.proofs.Common.{refl, sym, ap, ◌∙◌, ℤ, arith}
use Rattle.std.proofs.lemmas.List.{take_more}
use Rattle.acc_base.specs.declared.tables.Row.{Row}
use Rattle.acc_base.specs.declared.forms.Lin.{Lin}
use Rattle.acc_formed.specs.Widths.{is_variable}
use Rattle.acc_audit_ranges.specs.Ranges.{parts_have, key_gives}
use Rattle.acc_audit_ranges.proofs.Adding.{or_assoc, or_false}

module _ (db : List Row) (t v : ℕ) (q : ℤ) where
  at_end : (j : ℕ) (ls : List Lin) (l : Lin) →
      key_gives db t v q j (ls ++ l ∷ []) ≡ (key_gives db t v q j ls || (is_variable v l && parts_have db t (j + length ls) q))
  at_end j [] l =
      let e : j ≡ j + 0 = omega arith in
      or_false (is_variable v l && parts_have db t j q) ∙ ap (λ n. is_variable v l && parts_have db t n q) e
  at_end j (m ∷ ls) l =
      let e : (j + 1) + length ls ≡ j + suc (length ls) = omega arith in
      ap (λ b. (is_variable v m && parts_have db t j q) || b) (at_end (j + 1) ls l)
      ∙ sym (or_assoc (is_variable v m && parts_have db t j q) (key_gives db t v q (j + 1) ls)
      (is_variable v l && parts_have db t ((j + 1) + length ls) q))
      ∙ ap (λ n. ((is_variable v m && parts_have db t j q) || key_gives db t v q (j + 1) ls) || (is_variable v l && parts_have db t n q)) e

  length_taken : (i : ℕ) (ls : List Lin) → i ≤ length ls → length (take i ls) ≡ i
  length_taken zero ls h = refl
  length_taken (suc i) [] h = absurd (omega arith)
  length_taken (suc i) (l ∷ ls) h = ap suc (length_taken i ls (omega arith))

  pub key_more : (key : List Lin) (i : ℕ) (l d : Lin) → i < length key → l ≡ get_or key i d →
      key_gives db t v q 0 (take (i + 1) key) ≡ (key_gives db t v q 0 (take i key) || (is_variable v l && parts_have db t i q))
  key_more key i l d within here =
      let taken = length_taken i key (omega arith) in
      let long : 0 + length (take i key) ≡ i = omega (arith, taken) in
      ap (key_gives db t v q 0) (take_more key i d within)
      ∙ at_end 0 (take i key) (get_or key i d)
      ∙ ap (λ n. key_gives db t v q 0 (take i key) || (is_variable v (get_or key i d) && parts_have db t n q)) long
      ∙ ap (λ m. key_gives db t v q 0 (take i key) || (is_variable v m && parts_have db t i q)) (sym here)
