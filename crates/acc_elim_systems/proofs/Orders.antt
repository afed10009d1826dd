-- Mixed lists are in order of place, as the lists that they are mixed from.
use Rattle.std.proofs.Common.{◌≡◌, ℕ, suc, ◌≤◌, Bool, true, false, List, [], ◌∷◌, Ok, refl, subst, arith, ℤ, pos, negsuc, ◌+ℤ◌, ◌*ℤ◌}
use Rattle.std.proofs.Common.{nat_lt, if◌then◌else◌}
use Rattle.std.specs.Prelude.{All, int_lt}
use Rattle.std.specs.Ordering.{int_eq}
use Rattle.std.proofs.lemmas.Bool.Decides.{nat_tests}
use Rattle.acc_rows.specs.declared.rows.Row.{Row}
use Rattle.acc_rows.specs.Answers.{Computation}
use Rattle.acc_elim_systems.specs.Made.{Rises, Ordered}
use Rattle.acc_rows.specs.Numbers.{product, opposite, size}
use Rattle.acc_rows.specs.Sparse.{Sparse, at, put, put_left, scaled, mixture, mixed_after, mixed}
use Rattle.acc_rows.specs.Rows.{quotients, divided, divisor_of, made, has, cancelling, cleared_by, cleared, crossing}
use Rattle.acc_elim_systems.specs.Systems.{is_upper, is_lower, eliminated}
use Rattle.acc_rows.proofs.Worths.{Gives, gives_chain, gives_weaker, kept_gives, mixture_gives}
use Rattle.acc_elim_systems.proofs.Kept.{Keeps, EliminatedGood, eliminated_keeps}

lower : (j k : ℕ) (xs : Sparse) → j ≤ k → Rises k xs → Rises j xs
lower j k [] h r = tt
lower j k (t ∷ ts) h r = let a = r.0 in (omega (arith, a, h), r.1)

some_product : (p m : ℤ) → Gives (product p m) (λ _. Unit {0})
some_product p m = gives_weaker (product p m) (λ n. n ≡ p *ℤ m) (λ _. Unit {0}) (λ n e. tt) (kept_gives (p *ℤ m))

some_mixture : (p m q n : ℤ) → Gives (mixture p m q n) (λ _. Unit {0})
some_mixture p m q n = gives_weaker (mixture p m q n) (λ v. v ≡ p *ℤ m +ℤ q *ℤ n) (λ _. Unit {0}) (λ v e. tt) (mixture_gives p m q n)

put_rises : (k u : ℕ) (number : Computation ℤ) (others : Computation Sparse) → k ≤ u → Gives number (λ _. Unit {0}) →
    Gives others (Rises (suc u))
    → Gives (put u number others) (Rises k)
put_rises k u number others low h g =
    gives_chain number _ (λ _. Unit {0}) (Rises k) h (λ n _. gives_chain others _ (Rises (suc u)) (Rises k) g (λ rest r. (low, r)))

left_by : (k u : ℕ) (n : ℤ) (rest : Sparse) (b : Bool) → k ≤ u → Rises (suc u) rest → Rises k (if b then rest else ((u, n) ∷ rest))
left_by k u n rest true low r = lower k (suc u) rest (omega (arith, low)) r
left_by k u n rest false low r = (low, r)

put_left_rises : (k u : ℕ) (number : Computation ℤ) (others : Computation Sparse) → k ≤ u → Gives number (λ _. Unit {0})
    → Gives others (Rises (suc u)) → Gives (put_left u number others) (Rises k)
put_left_rises k u number others low h g =
    gives_chain number _ (λ _. Unit {0}) (Rises k) h
    (λ n _. gives_chain others _ (Rises (suc u)) (Rises k) g (λ rest r. left_by k u n rest (int_eq n (pos 0)) low r))

scaled_rises : (p : ℤ) (k : ℕ) (xs : Sparse) → Rises k xs → Gives (scaled p xs) (Rises k)
scaled_rises p k [] r = tt
scaled_rises p k (t ∷ ts) r = put_rises k t.0 (product p t.1) (scaled p ts) r.0 (some_product p t.1) (scaled_rises p (suc t.0) ts r.1)

is_before : (a b : ℕ) → nat_lt a b ≡ true → suc a ≤ b
is_before a b e = grind (arith, nat_tests)

is_same : (a b : ℕ) → nat_lt a b ≡ false → nat_lt b a ≡ false → b ≡ a
is_same a b e f = grind (arith, nat_tests)

module _ (p q : ℤ) where
  at_place : (k : ℕ) (s t : ℕ × ℤ) (ss ts : Sparse) (others : Sparse → Computation Sparse) (rest : Computation Sparse) → Rises k (s ∷ ss)
      → Rises k (t ∷ ts) → ((j : ℕ) (ys : Sparse) → Rises j ss → Rises j ys → Gives (others ys) (Rises j))
      → ((j : ℕ) → Rises j (s ∷ ss) → Rises j ts → Gives rest (Rises j)) → (b c : Bool) → nat_lt s.0 t.0 ≡ b → nat_lt t.0 s.0 ≡ c
      → Gives (if b then put s.0 (product p s.1) (others (t ∷ ts))
      else (if c then put t.0 (product q t.1) rest else put_left s.0 (mixture p s.1 q t.1) (others ts))) (Rises k)
  at_place k s t ss ts others rest xr yr h g true c e f =
      put_rises k s.0 (product p s.1) (others (t ∷ ts)) xr.0 (some_product p s.1) (h (suc s.0) (t ∷ ts) xr.1 (is_before s.0 t.0 e, yr.1))
  at_place k s t ss ts others rest xr yr h g false true e f =
      put_rises k t.0 (product q t.1) rest yr.0 (some_product q t.1) (g (suc t.0) (is_before t.0 s.0 f, xr.1) yr.1)
  at_place k s t ss ts others rest xr yr h g false false e f =
      put_left_rises k s.0 (mixture p s.1 q t.1) (others ts) xr.0 (some_mixture p s.1 q t.1)
      (h (suc s.0) ts xr.1 (subst (λ u. Rises (suc u) ts) (is_same s.0 t.0 e f) yr.1))

  after_rises : (s : ℕ × ℤ) (ss : Sparse) (others : Sparse → Computation Sparse)
      → ((j : ℕ) (ys : Sparse) → Rises j ss → Rises j ys → Gives (others ys) (Rises j)) → (ys : Sparse) (k : ℕ) → Rises k (s ∷ ss)
      → Rises k ys → Gives (mixed_after p q s others ys) (Rises k)
  after_rises s ss others h [] k xr yr = put_rises k s.0 (product p s.1) (others []) xr.0 (some_product p s.1) (h (suc s.0) [] xr.1 tt)
  after_rises s ss others h (t ∷ ts) k xr yr =
      at_place k s t ss ts others (mixed_after p q s others ts) xr yr h (λ j a b. after_rises s ss others h ts j a b) (nat_lt s.0 t.0)
      (nat_lt t.0 s.0) refl refl

  pub mixed_rises : (xs ys : Sparse) (k : ℕ) → Rises k xs → Rises k ys → Gives (mixed p q xs ys) (Rises k)
  mixed_rises [] ys k xr yr = scaled_rises q k ys yr
  mixed_rises (s ∷ ss) ys k xr yr = after_rises s ss (mixed p q ss) (λ j zs a b. mixed_rises ss zs j a b) ys k xr yr

-- ---- relations whose terms and multipliers are in order

quotients_rise : (g k : ℕ) (xs : Sparse) → Rises k xs → Rises k (quotients g xs)
quotients_rise g k [] r = tt
quotients_rise g k (t ∷ ts) r = (r.0, quotients_rise g (suc t.0) ts r.1)

lowest_by : (r : Row) (g : ℕ) (b : Bool) → Ordered r → Ordered (if b then divided g r else r)
lowest_by r g false h = h
lowest_by r g true h = record { terms = quotients_rise g 0 r.terms h.terms; by = quotients_rise g 0 r.by h.by }

made_ordered : (p : ℤ) (r : Row) (q : ℤ) (e : Row) (equal : Bool) → Ordered r → Ordered e → Gives (made p r q e equal) Ordered
made_ordered p r q e equal hr he =
    gives_chain (mixed p q r.terms e.terms) _ (Rises 0) Ordered (mixed_rises p q r.terms e.terms 0 hr.terms he.terms) (λ terms t.
    gives_chain (mixture p r.constant q e.constant) _ (λ _. Unit {0}) Ordered (some_mixture p r.constant q e.constant) (λ constant _.
    gives_chain (mixed p q r.by e.by) _ (Rises 0) Ordered (mixed_rises p q r.by e.by 0 hr.by he.by)
    (λ by b. lowest_by (record { terms = terms; constant = constant; equal = equal; by = by })
    (divisor_of (record { terms = terms; constant = constant; equal = equal; by = by }))
    (nat_lt 1 (divisor_of (record { terms = terms; constant = constant; equal = equal; by = by }))) (record { terms = t; by = b }))))

some_size : (a : ℤ) (b : Bool) → Gives (if b then opposite a else Ok a) (λ _. Unit {0})
some_size a true = some_product a (negsuc 0)
some_size a false = tt

some_cancelling : (a : ℤ) (b : Bool) → Gives (if b then Ok a else opposite a) (λ _. Unit {0})
some_cancelling a true = tt
some_cancelling a false = some_product a (negsuc 0)

cleared_when : (u : ℕ) (e r : Row) (b : Bool) → Ordered e → Ordered r
    → Gives (if b then cleared_by (at u e.terms) e (at u r.terms) r else Ok r) Ordered
cleared_when u e r false he hr = hr
cleared_when u e r true he hr =
    gives_chain (size (at u e.terms)) _ (λ _. Unit {0}) Ordered (some_size (at u e.terms) (int_lt (at u e.terms) (pos 0))) (λ p _.
    gives_chain (cancelling (at u e.terms) (at u r.terms)) _ (λ _. Unit {0}) Ordered
    (some_cancelling (at u r.terms) (int_lt (at u e.terms) (pos 0))) (λ q _. made_ordered p r q e r.equal hr he))

pub cleared_ordered : (u : ℕ) (e r : Row) → Ordered e → e.equal ≡ true → has u e ≡ true → Ordered r → Gives (cleared u e r) Ordered
cleared_ordered u e r he equal _ hr = cleared_when u e r (has u r) he hr

pub crossing_ordered : (u : ℕ) (up low : Row) → Ordered up → is_upper u up ≡ true → Ordered low → is_lower u low ≡ true
    → Gives (crossing u up low) Ordered
crossing_ordered u up low hu _ hl _ =
    gives_chain (opposite (at u low.terms)) _ (λ _. Unit {0}) Ordered (some_product (at u low.terms) (negsuc 0))
    (λ q _. made_ordered (at u up.terms) low q up false hl hu)

pub eliminated_ordered : (n : ℕ) (rows : List Row) → All Ordered rows
    → Keeps Ordered (eliminated n rows) (EliminatedGood Ordered cleared_ordered crossing_ordered)
eliminated_ordered n rows all = eliminated_keeps Ordered cleared_ordered crossing_ordered n rows all
