-- Multipliers that an elimination makes are of the first relations, and none is 0.
use Rattle.std.proofs.Common.{◌≡◌, ℕ, zero, suc, ◌<◌, ◌*◌, Bool, true, false, List, [], ◌∷◌, Ok, refl, sym, ap, ◌∙◌, subst, arith, ℤ, pos}
use Rattle.std.proofs.Common.{negsuc, ◌+ℤ◌, ◌*ℤ◌, nat_lt, if◌then◌else◌}
use Rattle.std.specs.Prelude.{All, not, int_lt, unsigned_abs}
use Rattle.std.specs.Ordering.{int_eq}
use Rattle.std.proofs.lemmas.Int.{unsigned_abs-mul}
use Rattle.std.proofs.lemmas.List.Elements.{All-nil, All-head, All-tail, All-cons}
use Rattle.acc_rows.specs.declared.rows.Row.{Row}
use Rattle.acc_rows.specs.Numbers.{kept, opposite, size}
use Rattle.acc_rows.specs.Sparse.{Sparse, at, mixture, mixed}
use Rattle.acc_rows.specs.Divisors.{quotient, common}
use Rattle.acc_rows.specs.Rows.{numbers, quotients, divided, divisor_of, lowest, made, has, cancelling, cleared_by, cleared, crossing}
use Rattle.acc_elim_systems.specs.Systems.{is_upper, is_lower, eliminated}
use Rattle.acc_elim_systems.specs.Made.{IsProper, Proper}
use Rattle.acc_rows.proofs.Worths.{Gives, gives_chain, gives_weaker, kept_gives, mixture_gives, mixed_gives}
use Rattle.acc_rows.proofs.Entries.{mixed_all}
use Rattle.acc_elim_systems.proofs.Divisions.{Divides, common_divides, quotient_times}
use Rattle.acc_elim_systems.proofs.Kept.{Keeps, EliminatedGood, eliminated_keeps}

-- ---- numbers other than 0

abbrev pub Other : ℤ → Type 0
Other n = 0 < unsigned_abs n

other : (n : ℤ) → int_eq n (pos 0) ≡ false → Other n
other (pos zero) e = absurd (cc)
other (pos (suc n)) e = omega arith
other (negsuc n) e = omega arith

of_sizes : (a b : ℕ) → 0 < a → 0 < b → 0 < a * b
of_sizes zero b h k = absurd (omega (arith, h))
of_sizes (suc a) zero h k = absurd (omega (arith, k))
of_sizes (suc a) (suc b) h k = omega arith

product_other : (a b : ℤ) → Other a → Other b → Other (a *ℤ b)
product_other a b h k = subst (λ n. 0 < n) (sym (unsigned_abs-mul a b)) (of_sizes (unsigned_abs a) (unsigned_abs b) h k)

no_size : (g m n : ℕ) → g * m ≡ n → 0 < n → 0 < m
no_size g zero n e h = absurd (omega (arith, e, h))
no_size g (suc m) n e h = omega arith

quotient_other : (g : ℕ) (n : ℤ) → Divides g n → Other n → Other (quotient g n)
quotient_other g n d h =
    no_size g (unsigned_abs (quotient g n)) (unsigned_abs n)
    (sym (unsigned_abs-mul (pos g) (quotient g n)) ∙ ap unsigned_abs (quotient_times g n d)) h

upper_other : (n : ℤ) → int_lt (pos 0) n ≡ true → Other n
upper_other (pos zero) e = absurd (cc)
upper_other (pos (suc n)) e = omega arith
upper_other (negsuc n) e = omega arith

lower_other : (n : ℤ) → int_lt n (pos 0) ≡ true → Other n
lower_other (pos zero) e = absurd (cc)
lower_other (pos (suc n)) e = omega arith
lower_other (negsuc n) e = omega arith

not_false : (b : Bool) → not b ≡ true → b ≡ false
not_false true e = absurd (cc)
not_false false e = refl

has_other : (u : ℕ) (r : Row) → has u r ≡ true → Other (at u r.terms)
has_other u r e = other (at u r.terms) (not_false (int_eq (at u r.terms) (pos 0)) e)

opposite_other : (a : ℤ) → Other a → Gives (opposite a) Other
opposite_other a h =
    gives_weaker (kept (a *ℤ negsuc 0)) (λ m. m ≡ a *ℤ negsuc 0) Other
    (λ m e. subst Other (sym e) (product_other a (negsuc 0) h (omega arith))) (kept_gives (a *ℤ negsuc 0))

size_other : (a : ℤ) (b : Bool) → Other a → Gives (if b then opposite a else Ok a) Other
size_other a true h = opposite_other a h
size_other a false h = h

cancelling_other : (a : ℤ) (b : Bool) → Other a → Gives (if b then Ok a else opposite a) Other
cancelling_other a true h = h
cancelling_other a false h = opposite_other a h

module _ (n : ℕ) where
  quotients_proper : (g : ℕ) (xs : Sparse) → All (Divides g) (numbers xs) → All (IsProper n) xs → All (IsProper n) (quotients g xs)
  quotients_proper g [] d all = All-nil (IsProper n)
  quotients_proper g (t ∷ ts) d all =
      let h = All-head (IsProper n) t ts all in
      All-cons (IsProper n) (t.0, quotient g t.1) (quotients g ts)
      (h.0, quotient_other g t.1 (All-head (Divides g) t.1 (numbers ts) d) h.1)
      (quotients_proper g ts (All-tail (Divides g) t.1 (numbers ts) d) (All-tail (IsProper n) t ts all))

  lowest_by : (r : Row) (g : ℕ) (b : Bool) → All (Divides g) (numbers r.by) → Proper n r → Proper n (if b then divided g r else r)
  lowest_by r g false d h = h
  lowest_by r g true d h = quotients_proper g r.by d h

  lowest_proper : (r : Row) → Proper n r → Proper n (lowest r)
  lowest_proper r h =
      lowest_by r (divisor_of r) (nat_lt 1 (divisor_of r))
      ((common_divides (common (common 0 (r.constant ∷ [])) (numbers r.terms)) (numbers r.by)).1) h

  made_proper : (p : ℤ) (r : Row) (q : ℤ) (e : Row) (equal : Bool) → Other p → Other q → Proper n r → Proper n e
      → Gives (made p r q e equal) (Proper n)
  made_proper p r q e equal p_is q_is hr he =
      gives_chain (mixed p q r.terms e.terms) _ (λ _. Unit {0}) (Proper n)
      (gives_weaker (mixed p q r.terms e.terms) _ (λ _. Unit {0}) (λ zs _. tt) (mixed_gives (λ _. pos 0) p q r.terms e.terms))
      (λ terms _.
      gives_chain (mixture p r.constant q e.constant) _ (λ _. Unit {0}) (Proper n)
      (gives_weaker (mixture p r.constant q e.constant) _ (λ _. Unit {0}) (λ v _. tt) (mixture_gives p r.constant q e.constant))
      (λ constant _.
      gives_chain (mixed p q r.by e.by) _ (All (IsProper n)) (Proper n)
      (mixed_all (IsProper n) p q (IsProper n) (IsProper n) (λ u m h. (h.0, product_other p m p_is h.1))
      (λ u m h. (h.0, product_other q m q_is h.1)) (λ u m k h g e. (h.0, other (p *ℤ m +ℤ q *ℤ k) e)) r.by e.by hr he)
      (λ by b. lowest_proper (record { terms = terms; constant = constant; equal = equal; by = by }) b)))

  cleared_when : (u : ℕ) (e r : Row) (b : Bool) → has u r ≡ b → Proper n e → has u e ≡ true → Proper n r
      → Gives (if b then cleared_by (at u e.terms) e (at u r.terms) r else Ok r) (Proper n)
  cleared_when u e r false is he there hr = hr
  cleared_when u e r true is he there hr =
      gives_chain (size (at u e.terms)) _ Other (Proper n)
      (size_other (at u e.terms) (int_lt (at u e.terms) (pos 0)) (has_other u e there)) (λ p p_is.
      gives_chain (cancelling (at u e.terms) (at u r.terms)) _ Other (Proper n)
      (cancelling_other (at u r.terms) (int_lt (at u e.terms) (pos 0)) (has_other u r is))
      (λ q q_is. made_proper p r q e r.equal p_is q_is hr he))

  pub cleared_proper : (u : ℕ) (e r : Row) → Proper n e → e.equal ≡ true → has u e ≡ true → Proper n r → Gives (cleared u e r) (Proper n)
  cleared_proper u e r he equal there hr = cleared_when u e r (has u r) refl he there hr

  pub crossing_proper : (u : ℕ) (up low : Row) → Proper n up → is_upper u up ≡ true → Proper n low → is_lower u low ≡ true
      → Gives (crossing u up low) (Proper n)
  crossing_proper u up low hu upper hl lower =
      gives_chain (opposite (at u low.terms)) _ Other (Proper n) (opposite_other (at u low.terms) (lower_other (at u low.terms) lower))
      (λ q q_is. made_proper (at u up.terms) low q up false (upper_other (at u up.terms) upper) q_is hl hu)

  pub eliminated_proper : (unknowns : ℕ) (rows : List Row) → All (Proper n) rows
      → Keeps (Proper n) (eliminated unknowns rows) (EliminatedGood (Proper n) cleared_proper crossing_proper)
  eliminated_proper unknowns rows all = eliminated_keeps (Proper n) cleared_proper crossing_proper unknowns rows all
