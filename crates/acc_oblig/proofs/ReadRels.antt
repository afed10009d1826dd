-- What the reads make true of their variables.
use Rattle.std.proofs.Common.{◌≡◌, ℕ, suc, zero, ◌+◌, ◌*◌, ◌/◌, ◌≤◌, true, List, ap, sym, ◌∙◌, subst, arith, ℤ, pos, negsuc, neg_ℤ, ◌+ℤ◌}
use Rattle.std.proofs.Common.{◌*ℤ◌, ◌≤ℤ◌}
use Rattle.std.specs.List.{AllByRecursion}
use Rattle.std.specs.Int.{int_div_euclid}
use Rattle.std.proofs.lemmas.Int.{ints}
use Rattle.std.proofs.Math.Nat.{mul-div-le, div-add-mod, mod-lt, mul-suc}
use lib.IntN.{pos-*ℤ-pos, pos-*ℤ-negsuc}
use Rattle.acc_base.specs.declared.tables.Row.{Row}
use Rattle.acc_base.specs.declared.forms.Rel.{Rel}
use Rattle.acc_base.specs.declared.forms.Atom.TheVariants as atom
use Rattle.acc_base.specs.declared.steps.Read.{Read}
use Rattle.acc_base.specs.declared.steps.Read.TheVariants.{Let, Col, Has, Count, Sum, Least, Greatest, Take, Mul, Div}
use Rattle.acc_base.specs.Tables.{has_row, column_of, count_of, sum_of}
use Rattle.acc_base.specs.Linear.{var}
use Rattle.acc_base.specs.Reads.{read_value}
use Rattle.acc_base.specs.Truth.{rel_true}
use Rattle.acc_preconditions.proofs.PartValues.{one_times, minus_times}
use Rattle.acc_oblig.specs.declared.naming.Naming.{Naming}
use Rattle.acc_oblig.specs.Naming.{named, named_lin, named_lins}
use Rattle.acc_oblig.specs.Relations.{read_rels, is_quotient}
use Rattle.acc_oblig.proofs.Names.{Agrees, lin_named, lins_named}
use Rattle.acc_oblig.proofs.FormValues.{int_le_true, is_value_true, is_lin_true, neg_times}

-- a quotient that is rounded down
quotient_parts : (a b : ℕ) → (suc b * (a / suc b) ≤ a) × (a ≤ suc b * (a / suc b) + b)
quotient_parts a b =
    let l = mul-div-le a (suc b) in
    let e = div-add-mod a (suc b) in
    let m = mod-lt a {m = suc b} (omega arith) in
    (l, omega (arith, e, m))

pub divides : (y c : ℤ) → pos 1 ≤ℤ c → ((c *ℤ int_div_euclid y c) ≤ℤ y) × (y ≤ℤ ((c *ℤ int_div_euclid y c) +ℤ (c +ℤ neg_ℤ (pos 1))))
divides (pos a) (pos zero) h = absurd (omega (arith, ints))
divides (pos a) (pos (suc b)) h =
    let p = quotient_parts a b in
    let e = pos-*ℤ-pos (suc b) (a / suc b) in
    (let l = p.0 in omega (arith, ints, e, l), let g = p.1 in omega (arith, ints, e, g))
divides (negsuc a) (pos zero) h = absurd (omega (arith, ints))
divides (negsuc a) (pos (suc b)) h =
    let p = quotient_parts a b in
    let e = pos-*ℤ-negsuc (suc b) (a / suc b) in
    let m : suc b * suc (a / suc b) ≡ suc b * (a / suc b) + suc b = mul-suc (suc b) (a / suc b) in
    (let g = p.1 in omega (arith, ints, e, g, m), let l = p.0 in omega (arith, ints, e, l, m))
divides y (negsuc b) h = absurd (omega (arith, ints))

-- a divisor is at least 1
abbrev pub HasDivisor : Read → Type 0
HasDivisor (Let y l) = Unit {0}
HasDivisor (Col y t k c) = Unit {0}
HasDivisor (Has y t k) = Unit {0}
HasDivisor (Count y t p) = Unit {0}
HasDivisor (Sum y t p c) = Unit {0}
HasDivisor (Least y t p) = Unit {0}
HasDivisor (Greatest y t p) = Unit {0}
HasDivisor (Take y) = Unit {0}
HasDivisor (Mul y u v) = Unit {0}
HasDivisor (Div y u c) = pos 1 ≤ℤ c

module _ (db : List Row) (E : List ℤ) where
  quotient_below : (c q y : ℤ) → (c *ℤ q) ≤ℤ y → ((c *ℤ q +ℤ (negsuc 0 *ℤ y +ℤ pos 0)) +ℤ pos 0) ≤ℤ pos 0
  quotient_below c q y h = let e = minus_times y in omega (arith, ints, h, e)

  quotient_above :
      (c q y : ℤ) → y ≤ℤ ((c *ℤ q) +ℤ (c +ℤ neg_ℤ (pos 1))) → ((pos 1 *ℤ y +ℤ (neg_ℤ c *ℤ q +ℤ pos 0)) +ℤ (pos 1 +ℤ neg_ℤ c)) ≤ℤ pos 0
  quotient_above c q y h =
      let e = one_times y in
      let g = neg_times c q in
      omega (arith, ints, h, e, g)

  abbrev pub TrueRel : Rel → Type 0
  TrueRel r = rel_true db E r ≡ true

  pub is_quotient_true :
      (x y : ℕ) (c v w : ℤ) → var E y ≡ w → var E x ≡ int_div_euclid w c → pos 1 ≤ℤ c → AllByRecursion TrueRel (is_quotient x y c)
  is_quotient_true x y c v w h g one =
      let d = divides w c one in
      let low = subst (λ z. (c *ℤ z) ≤ℤ w) (sym g) d.0 in
      let high = subst (λ z. w ≤ℤ ((c *ℤ z) +ℤ (c +ℤ neg_ℤ (pos 1)))) (sym g) d.1 in (
        int_le_true _ _ (quotient_below c (var E x) (var E y) (subst (λ z. (c *ℤ var E x) ≤ℤ z) (sym h) low)),
        (
          int_le_true _ _ (quotient_above c (var E x) (var E y) (subst (λ z. z ≤ℤ ((c *ℤ var E x) +ℤ (c +ℤ neg_ℤ (pos 1)))) (sym h) high)),
          tt,
        ),
      )

  -- one read
  pub read_true :
      (n : Naming) (e tape : List ℤ) (at x : ℕ) → Agrees n E e → (r : Read) → HasDivisor r → var E x ≡ read_value db tape at e r
      → AllByRecursion TrueRel (read_rels n x r)
  read_true n e tape at x agree (Let y l) d h = (is_lin_true db E x (named_lin n l) (h ∙ sym (lin_named n E e agree l)), tt)
  read_true n e tape at x agree (Col y t k c) d h =
      (is_value_true db E x (atom.Col t (named_lins n k) c) (h ∙ ap (λ z. column_of db t z c) (sym (lins_named n E e agree k))), tt)
  read_true n e tape at x agree (Has y t k) d h =
      (is_value_true db E x (atom.Has t (named_lins n k)) (h ∙ ap (has_row db t) (sym (lins_named n E e agree k))), tt)
  read_true n e tape at x agree (Count y t p) d h =
      (is_value_true db E x (atom.Count t (named_lins n p)) (h ∙ ap (count_of db t) (sym (lins_named n E e agree p))), tt)
  read_true n e tape at x agree (Sum y t p c) d h =
      (is_value_true db E x (atom.Sum t (named_lins n p) c) (h ∙ ap (λ z. sum_of db t z c) (sym (lins_named n E e agree p))), tt)
  read_true n e tape at x agree (Least y t p) d h = tt
  read_true n e tape at x agree (Greatest y t p) d h = tt
  read_true n e tape at x agree (Take y) d h = tt
  read_true n e tape at x agree (Mul y u v) d h = tt
  read_true n e tape at x agree (Div y u c) d h = is_quotient_true x (named n u) c (pos 0) (var e u) (agree u) h d
