-- A made relation is a sum of multiples of two, divided by a number above 0.
use Rattle.std.proofs.Common.{◌≡◌, ℕ, zero, suc, ◌<◌, Bool, true, false, List, [], ◌∷◌, Ok, Err, refl, ap, sym, ◌∙◌, subst, arith, ℤ, pos}
use Rattle.std.proofs.Common.{negsuc, ◌+ℤ◌, ◌-ℤ◌, ◌*ℤ◌, ◌*◌, if◌then◌else◌, nat_lt, not}
use Rattle.std.specs.Prelude.{All, int_lt, unsigned_abs}
use Rattle.std.specs.Ordering.{int_eq}
use lib.Signed.{◌<ℤ◌}
use lib.IntN.{*ℤ_comm, *ℤ-zero, zero-*ℤ}
use Prim.Native.Nat.{◌∣◌}
use Rattle.std.proofs.lemmas.Nat.Gcd.{dvd_trans}
use Rattle.std.proofs.lemmas.Int.{ints, unsigned_abs-mul}
use Rattle.std.proofs.lemmas.Bool.Decides.{nat_tests, Decides-int_eq}
use Rattle.std.proofs.lemmas.List.Elements.{All-nil, All-head, All-tail, All-cons}
use Rattle.acc_base.proofs.Products.{times_sum, sum_times, times_times}
use Rattle.acc_rows.specs.declared.stops.Stop.TheVariants.{Refuted, Wide, Many, Memory}
use Rattle.acc_rows.specs.declared.rows.Row.{Row}
use Rattle.acc_base.specs.Computing.{chain}
use Rattle.acc_rows.specs.Answers.{Computation}
use Rattle.acc_base.specs.Collecting.{worth}
use Rattle.acc_elim_systems.specs.Made.{IsProper}
use Rattle.acc_rows.specs.Numbers.{kept, opposite}
use Rattle.acc_rows.specs.Sparse.{Sparse, at, mixture, mixed}
use Rattle.acc_rows.specs.Divisors.{common, quotient}
use Rattle.acc_rows.specs.Rows.{numbers, quotients, divided, divisor_of, lowest, made, has, cleared_by, cleared, crossing}
use Rattle.acc_elim_systems.specs.Systems.{is_upper, is_lower}
use Rattle.acc_rows.proofs.Worths.{Gives, gives_chain, gives_weaker, gives_both, kept_gives, mixture_gives, mixed_gives}
use Rattle.acc_rows.proofs.Entries.{mixed_all}
use Rattle.acc_elim_systems.proofs.Divisions.{Divides, common_divides, quotient_times}
use Rattle.acc_elim_solved.proofs.Ints.{times_less, Other, cancel_zero, above_other, product_other}
use Rattle.acc_elim_solved.proofs.Points.{only, coef, row_worth}

-- one answer for all f
gives_all : {A F : Type 0} (o : Computation A) (P : F → A → Type 0) → F → ((f : F) → Gives o (P f)) → Gives o (λ x. (f : F) → P f x)
gives_all (Ok x) P any h = h
gives_all (Err Wide) P any h = tt
gives_all (Err Many) P any h = h any
gives_all (Err Memory) P any h = h any
gives_all (Err (Refuted r)) P any h = h any

-- g times m is p times r and q times e
pub record Mix (p : ℤ) (r : Row) (q : ℤ) (e : Row) (m : Row) : Type 0 where
  pub g : ℕ
  pub above : 0 < g
  pub terms : (f : ℕ → ℤ) → pos g *ℤ worth f m.terms ≡ p *ℤ worth f r.terms +ℤ q *ℤ worth f e.terms
  pub constant : pos g *ℤ m.constant ≡ p *ℤ r.constant +ℤ q *ℤ e.constant

once : (x : ℤ) → pos 1 *ℤ x ≡ x
once x = omega (arith, ints)

worth_quotients : (f : ℕ → ℤ) (g : ℕ) (xs : Sparse) → All (Divides g) (numbers xs) → pos g *ℤ worth f (quotients g xs) ≡ worth f xs
worth_quotients f g [] all = *ℤ-zero (pos g)
worth_quotients f g (t ∷ ts) all =
    let rest = worth_quotients f g ts (All-tail (Divides g) t.1 (numbers ts) all) in
    let here = ap (λ z. z *ℤ f t.0) (quotient_times g t.1 (All-head (Divides g) t.1 (numbers ts) all)) in
    let moved = times_times (pos g) (quotient g t.1) (f t.0) in
    let parts = times_sum (pos g) (quotient g t.1 *ℤ f t.0) (worth f (quotients g ts)) in
    omega (arith, ints, rest, here, moved, parts)

all_weaker : (c g : ℕ) → c ∣ g → (ns : List ℤ) → All (Divides g) ns → All (Divides c) ns
all_weaker c g h [] all = All-nil (Divides c)
all_weaker c g h (n ∷ ns) all =
    All-cons (Divides c) n ns (dvd_trans _ h (All-head (Divides g) n ns all)) (all_weaker c g h ns (All-tail (Divides g) n ns all))

pub other : (n : ℤ) → int_eq n (pos 0) ≡ false → Other n
other (pos zero) e = absurd (cc)
other (pos (suc n)) e = omega arith
other (negsuc n) e = omega arith

not_false : (b : Bool) → not b ≡ true → b ≡ false
not_false true e = absurd (cc)
not_false false e = refl

not_true : (b : Bool) → not b ≡ false → b ≡ true
not_true true e = refl
not_true false e = absurd (cc)

pub not_has : (u : ℕ) (r : Row) → has u r ≡ false → at u r.terms ≡ pos 0
not_has u r e = (Decides-int_eq (at u r.terms) (pos 0)).0 (not_true (int_eq (at u r.terms) (pos 0)) e)

module _ (n : ℕ) where
  -- a relation's unknowns are among n, and no coefficient is 0
  abbrev pub Among : Row → Type 0
  Among r = All (IsProper n) r.terms

  no_size : (g m k : ℕ) → g * m ≡ k → 0 < k → 0 < m
  no_size g zero k e h = absurd (omega (arith, e, h))
  no_size g (suc m) k e h = omega arith

  quotient_other : (g : ℕ) (k : ℤ) → Divides g k → Other k → Other (quotient g k)
  quotient_other g k d h =
      no_size g (unsigned_abs (quotient g k)) (unsigned_abs k)
      (sym (unsigned_abs-mul (pos g) (quotient g k)) ∙ ap unsigned_abs (quotient_times g k d)) h

  quotients_proper : (g : ℕ) (xs : Sparse) → All (Divides g) (numbers xs) → All (IsProper n) xs → All (IsProper n) (quotients g xs)
  quotients_proper g [] d all = All-nil (IsProper n)
  quotients_proper g (t ∷ ts) d all =
      let h = All-head (IsProper n) t ts all in
      All-cons (IsProper n) (t.0, quotient g t.1) (quotients g ts)
      (h.0, quotient_other g t.1 (All-head (Divides g) t.1 (numbers ts) d) h.1)
      (quotients_proper g ts (All-tail (Divides g) t.1 (numbers ts) d) (All-tail (IsProper n) t ts all))

  module _ (p : ℤ) (r : Row) (q : ℤ) (e : Row) (equal : Bool) where
    abbrev pub Made : Row → Type 0
    Made m = Mix p r q e m × (m.equal ≡ equal) × Among m

    lowest_by : (m : Row) (g : ℕ) (b : Bool) → nat_lt 1 g ≡ b → All (Divides g) (m.constant ∷ []) → All (Divides g) (numbers m.terms)
        → (m.equal ≡ equal) → Among m
        → ((f : ℕ → ℤ) → worth f m.terms ≡ p *ℤ worth f r.terms +ℤ q *ℤ worth f e.terms) → m.constant ≡ p *ℤ r.constant +ℤ q *ℤ e.constant
        → Made (if b then divided g m else m)
    lowest_by m g false is c t same among terms constant = (
      record {
        g = 1;
        above = omega arith;
        terms = λ f. once (worth f m.terms) ∙ terms f;
        constant = once m.constant
            ∙ constant;
      },
      same,
      among,
    )
    lowest_by m g true is c t same among terms constant = (
      record {
        g = g;
        above = grind (arith, nat_tests);
        terms = λ f. worth_quotients f g m.terms t ∙ terms f;
        constant = quotient_times g m.constant (All-head (Divides g) m.constant [] c) ∙ constant;
      },
      same,
      quotients_proper g m.terms t among,
    )

    made_gives : Other p → Other q → Among r → Among e → Gives (made p r q e equal) Made
    made_gives po qo ra ea =
        gives_chain (mixed p q r.terms e.terms) _ (λ zs. ((f : ℕ → ℤ) → worth f zs ≡ p *ℤ worth f r.terms +ℤ q *ℤ worth f e.terms)
        × All (IsProper n) zs) Made terms_give (λ terms t.
        gives_chain (mixture p r.constant q e.constant) _ (λ v. v ≡ p *ℤ r.constant +ℤ q *ℤ e.constant) Made
        (mixture_gives p r.constant q e.constant) (λ constant k.
        gives_chain (mixed p q r.by e.by) _ (λ _. Unit {0}) Made
        (gives_weaker (mixed p q r.by e.by) _ (λ _. Unit {0}) (λ zs _. tt) (mixed_gives (λ _. pos 0) p q r.by e.by))
        (λ by _. lowest_gives (record { terms = terms; constant = constant; equal = equal; by = by }) t.1 t.0 k refl)))
      where
        terms_give : Gives (mixed p q r.terms e.terms)
            (λ zs. ((f : ℕ → ℤ) → worth f zs ≡ p *ℤ worth f r.terms +ℤ q *ℤ worth f e.terms) × All (IsProper n) zs)
        terms_give =
            gives_both (mixed p q r.terms e.terms) (λ zs. (f : ℕ → ℤ) → worth f zs ≡ p *ℤ worth f r.terms +ℤ q *ℤ worth f e.terms)
            (All (IsProper n)) (λ zs a b. (a, b))
            (gives_all (mixed p q r.terms e.terms) (λ f zs. worth f zs ≡ p *ℤ worth f r.terms +ℤ q *ℤ worth f e.terms) (λ _. pos 0)
            (λ f. mixed_gives f p q r.terms e.terms))
            (mixed_all (IsProper n) p q (IsProper n) (IsProper n) (λ u m h. (h.0, product_other p m po h.1))
            (λ u m h. (h.0, product_other q m qo h.1)) (λ u m k h g i. (h.0, other (p *ℤ m +ℤ q *ℤ k) i)) r.terms e.terms ra ea)

        lowest_gives : (m : Row) → Among m → ((f : ℕ → ℤ) → worth f m.terms ≡ p *ℤ worth f r.terms +ℤ q *ℤ worth f e.terms)
            → m.constant ≡ p *ℤ r.constant +ℤ q *ℤ e.constant → m.equal ≡ equal → Made (lowest m)
        lowest_gives m among terms constant same =
            let one = common_divides 0 (m.constant ∷ []) in
            let two = common_divides (common 0 (m.constant ∷ [])) (numbers m.terms) in
            let three = common_divides (common (common 0 (m.constant ∷ [])) (numbers m.terms)) (numbers m.by) in
            lowest_by m (divisor_of m) (nat_lt 1 (divisor_of m)) refl
            (all_weaker (divisor_of m) _ (dvd_trans _ three.0 two.0) (m.constant ∷ []) one.1)
            (all_weaker (divisor_of m) _ three.0 (numbers m.terms) two.1) same among terms constant

  -- ---- an unknown that is taken away

  -- m is p times r, p above 0, and q times e, without u
  pub record Gone (u : ℕ) (r e : Row) (m : Row) : Type 0 where
    pub p : ℤ
    pub q : ℤ
    pub above : pos 0 <ℤ p
    pub mix : Mix p r q e m
    pub none : p *ℤ at u r.terms +ℤ q *ℤ at u e.terms ≡ pos 0

  opposite_gives : (a : ℤ) → Gives (opposite a) (λ m. m ≡ pos 0 -ℤ a)
  opposite_gives a =
      gives_weaker (kept (a *ℤ negsuc 0)) (λ m. m ≡ a *ℤ negsuc 0) (λ m. m ≡ pos 0 -ℤ a) (λ m e. omega (arith, ints, e))
      (kept_gives (a *ℤ negsuc 0))

  pub has_other : (u : ℕ) (r : Row) → has u r ≡ true → Other (at u r.terms)
  has_other u r e = other (at u r.terms) (not_false (int_eq (at u r.terms) (pos 0)) e)

  less_other : (a : ℤ) → Other a → Other (pos 0 -ℤ a)
  less_other (pos zero) h = absurd (omega (arith, h))
  less_other (pos (suc n)) h =
      let e : pos 0 -ℤ pos (suc n) ≡ negsuc n = omega (arith, ints) in
      let above : Other (negsuc n) = omega arith in
      subst (λ z. Other z) (sym e) above
  less_other (negsuc n) h =
      let e : pos 0 -ℤ negsuc n ≡ pos (suc n) = omega (arith, ints) in
      let above : Other (pos (suc n)) = omega arith in
      subst (λ z. Other z) (sym e) above

  abbrev pub ClearedTo : ℕ → Row → Row → Row → Type 0
  ClearedTo u e r m = Gone u r e m × (m.equal ≡ r.equal) × Among m

  made_cleared : (u : ℕ) (e r : Row) (p q : ℤ) → pos 0 <ℤ p → Other q → p *ℤ at u r.terms +ℤ q *ℤ at u e.terms ≡ pos 0 → Among e → Among r
      → Gives (made p r q e r.equal) (ClearedTo u e r)
  made_cleared u e r p q above o none ea ra =
      gives_weaker (made p r q e r.equal) (Made p r q e r.equal) (ClearedTo u e r)
      (λ m k. (record { p = p; q = q; above = above; mix = k.0; none = none }, k.1, k.2))
      (made_gives p r q e r.equal (above_other p above) o ra ea)

  cleared_have : (u : ℕ) (e r : Row) → has u e ≡ true → has u r ≡ true → Among e → Among r
      → Gives (cleared_by (at u e.terms) e (at u r.terms) r) (ClearedTo u e r)
  cleared_have u e r he hr ea ra = by (int_lt (at u e.terms) (pos 0)) refl
    where
      by : (b : Bool) → int_lt (at u e.terms) (pos 0) ≡ b
          → Gives (chain (if b then opposite (at u e.terms) else Ok (at u e.terms))
          (λ p. chain (if b then Ok (at u r.terms) else opposite (at u r.terms)) (λ q. made p r q e r.equal))) (ClearedTo u e r)
      by true below =
          gives_chain (opposite (at u e.terms)) _ (λ m. m ≡ pos 0 -ℤ at u e.terms) (ClearedTo u e r) (opposite_gives (at u e.terms))
          (λ p p_is.
          let b = at u r.terms in
          let a = at u e.terms in
          let s = ap (λ z. z *ℤ b) p_is in
          let c = *ℤ_comm (pos 0 -ℤ a) b in
          let t = times_less b a in
          made_cleared u e r p b (grind (arith, ints)) (has_other u r hr) (omega (arith, ints, s, c, t)) ea ra)
      by false above =
          gives_chain (opposite (at u r.terms)) _ (λ m. m ≡ pos 0 -ℤ at u r.terms) (ClearedTo u e r) (opposite_gives (at u r.terms))
          (λ q q_is.
          let b = at u r.terms in
          let a = at u e.terms in
          let s = ap (λ z. z *ℤ a) q_is in
          let c = *ℤ_comm (pos 0 -ℤ b) a in
          let t = times_less a b in
          made_cleared u e r a q (is_above a above (has_other u e he)) (subst (λ z. Other z) (sym q_is) (less_other b (has_other u r hr)))
          (omega (arith, ints, s, c, t)) ea ra)
        where
          is_above : (k : ℤ) → int_lt k (pos 0) ≡ false → Other k → pos 0 <ℤ k
          is_above (pos zero) e o = absurd (omega (arith, o))
          is_above (pos (suc k)) e o = omega (arith, ints)
          is_above (negsuc k) e o = absurd (cc)

  pub cleared_gives : (u : ℕ) (e r : Row) → has u e ≡ true → Among e → Among r → Gives (cleared u e r) (ClearedTo u e r)
  cleared_gives u e r he ea ra = by (has u r) refl
    where
      by : (b : Bool) → has u r ≡ b → Gives (if b then cleared_by (at u e.terms) e (at u r.terms) r else Ok r) (ClearedTo u e r)
      by true hr = cleared_have u e r he hr ea ra
      by false hr =
          let none = not_has u r hr in
          let zero_e = zero-*ℤ (at u e.terms) in
          let one = once (at u r.terms) in (
            record {
              p = pos 1;
              q = pos 0;
              above = omega (arith, ints);
              mix = record {
                g = 1;
                above = omega arith;
                terms = λ f. let z = zero-*ℤ (worth f e.terms) in omega (arith, ints, z);
                constant = let z = zero-*ℤ e.constant in omega (arith, ints, z);
              };
              none = omega (arith, ints, none, zero_e, one);
            },
            refl,
            ra,
          )

  abbrev pub CrossedTo : ℕ → Row → Row → Row → Type 0
  CrossedTo u up low m = (p : ℤ) × (q : ℤ) × (pos 0 <ℤ p) × (pos 0 <ℤ q) × (Mix p low q up m)
      × (p *ℤ at u low.terms +ℤ q *ℤ at u up.terms ≡ pos 0) × (m.equal ≡ false) × Among m

  pub crossing_gives : (u : ℕ) (up low : Row) → is_upper u up ≡ true → is_lower u low ≡ true → Among up → Among low
      → Gives (crossing u up low) (CrossedTo u up low)
  crossing_gives u up low upper lower ua la =
      gives_chain (opposite (at u low.terms)) _ (λ m. m ≡ pos 0 -ℤ at u low.terms) (CrossedTo u up low) (opposite_gives (at u low.terms))
      (λ q q_is.
      let a = at u up.terms in
      let b = at u low.terms in
      let s = ap (λ z. z *ℤ a) q_is in
      let c = *ℤ_comm (pos 0 -ℤ b) a in
      let t = times_less a b in
      let pa : pos 0 <ℤ a = grind (arith, ints) in
      let below : b <ℤ pos 0 = grind (arith, ints) in
      let qa : pos 0 <ℤ q = omega (arith, ints, q_is, below) in
      gives_weaker (made a low q up false) (Made a low q up false) (CrossedTo u up low)
      (λ m k. (a, q, pa, qa, k.0, omega (arith, ints, s, c, t), k.1, k.2))
      (made_gives a low q up false (above_other a pa) (above_other q qa) la ua))

-- ---- what follows from a mix

-- an unknown that has coefficient 0 in the sum of the multiples is gone
pub gone_at : (u : ℕ) (p : ℤ) (r : Row) (q : ℤ) (e m : Row) → Mix p r q e m → p *ℤ coef u r.terms +ℤ q *ℤ coef u e.terms ≡ pos 0
    → coef u m.terms ≡ pos 0
gone_at u p r q e m mix none = cancel_zero (pos mix.g) (coef u m.terms) mix.above (mix.terms (only u) ∙ none)

-- and one that neither has
pub lacks_both : (u : ℕ) (p : ℤ) (r : Row) (q : ℤ) (e m : Row) → Mix p r q e m → coef u r.terms ≡ pos 0 → coef u e.terms ≡ pos 0
    → coef u m.terms ≡ pos 0
lacks_both u p r q e m mix a b =
    let x = ap (λ z. p *ℤ z) a ∙ *ℤ-zero p in
    let y = ap (λ z. q *ℤ z) b ∙ *ℤ-zero q in
    gone_at u p r q e m mix (omega (arith, ints, x, y))

-- the form is worth what the multiples are worth
pub form_mix : (f : ℕ → ℤ) (D : ℤ) (p : ℤ) (r : Row) (q : ℤ) (e m : Row) → (mix : Mix p r q e m)
    → pos mix.g *ℤ row_worth f D m ≡ p *ℤ row_worth f D r +ℤ q *ℤ row_worth f D e
form_mix f D p r q e m mix =
    let terms = mix.terms f in
    let g = pos mix.g in
    let one = times_sum g (m.constant *ℤ D) (worth f m.terms) in
    let two = times_sum p (r.constant *ℤ D) (worth f r.terms) in
    let three = times_sum q (e.constant *ℤ D) (worth f e.terms) in
    let constant = ap (λ z. z *ℤ D) mix.constant in
    let parts = sum_times (p *ℤ r.constant) (q *ℤ e.constant) D in
    let a = times_times g m.constant D in
    let b = times_times p r.constant D in
    let c = times_times q e.constant D in
    omega (arith, ints, terms, one, two, three, constant, parts, a, b, c)
