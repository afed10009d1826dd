-- Unknowns between bounds: where what the pairs of bounds imply is met, the tightest bound meets all of them.
use Rattle.std.proofs.Common.{◌≡◌, ◌==◌, ℕ, zero, suc, ◌<◌, ◌≤◌, Bool, true, false, List, [], ◌∷◌, ◌++◌, length, refl, ap, sym, ◌∙◌, subst}
use Rattle.std.proofs.Common.{arith, ℤ, pos, negsuc, ◌+ℤ◌, ◌*ℤ◌, if◌then◌else◌, append_assoc, append-nil, not, nat_lt}
use Rattle.std.specs.Prelude.{All, reverse, filter, int_lt}
use Rattle.std.specs.Ordering.{int_eq}
use lib.Signed.{◌<ℤ◌, ◌≤ℤ◌}
use lib.IntN.{*ℤ-zero}
use Rattle.std.proofs.lemmas.Int.{ints}
use Rattle.std.proofs.lemmas.Bool.Decides.{nat_tests, Decides-int_eq}
use Rattle.std.proofs.lemmas.List.{length-set, reverse-append, get_or_past, get_or-replicate, length-replicate}
use Rattle.std.proofs.lemmas.List.Elements.{All-nil, All-head, All-tail, All-cons}
use Rattle.acc_rows.specs.declared.rows.Row.{Row}
use Rattle.acc_elim_systems.specs.declared.systems.Bounded.{Bounded}
use Rattle.acc_base.specs.Computing.{steps}
use Rattle.acc_elim_systems.specs.Made.{Ordered}
use Rattle.acc_rows.specs.Sparse.{at}
use Rattle.acc_rows.specs.Rows.{crossing}
use Rattle.acc_elim_systems.specs.Systems.{is_constant, admitted, is_upper, is_lower, is_without, crossed_once, crossed_with, or_else, bounds_of}
use Rattle.acc_elim_systems.specs.Systems.{crossed}
use Rattle.acc_elim_points.specs.Fractions.{Fraction}
use Rattle.acc_elim_points.specs.Points.{Point, value, bounded_value, placed, zeros}
use Rattle.acc_rows.proofs.Worths.{gives_both}
use Rattle.acc_elim_systems.proofs.Orders.{crossing_ordered}
use Rattle.acc_elim_solved.proofs.Ints.{cancel_below, below_times, above_times}
use Rattle.acc_elim_solved.proofs.Values.{Holds, holds_chain, holds_weaker, from_gives, Worth}
use Rattle.acc_elim_solved.proofs.Points.{coef, at_is, row_worth, form_moved, rest_of, moved, Worths, worths_moved, is_same, is_other}
use Rattle.acc_elim_solved.proofs.Bounds.{worth_at, MetAt, ZeroAt, OnSide, Tight, AnyOf, pick, bounded_is}
use Rattle.acc_elim_solved.proofs.Mixes.{Among, CrossedTo, crossing_gives, gone_at, lacks_both, form_mix}
use Rattle.acc_elim_solved.proofs.Admits.{MetBy, Met, Admits, admitted_holds, Adds, adds_steps}
use Rattle.acc_elim_solved.proofs.Asides.{Out, MeetsAt, all_stay}
use Rattle.acc_rows.proofs.Chains.{steps_append}
use Rattle.acc_elim_solved.proofs.Stages.{nothing_left, Apart}

-- ---- relations that are parted by the sign of a coefficient

filtered_by : (P : Row → Type 0) (p : Row → Bool) (x : Row) (xs : List Row) (b : Bool) → p x ≡ b → P x → All (λ y. P y × (p y ≡ true)) xs
    → All (λ y. P y × (p y ≡ true)) (if b then (x ∷ xs) else xs)
filtered_by P p x xs true e h all = All-cons (λ y. P y × (p y ≡ true)) x xs (h, e) all
filtered_by P p x xs false e h all = all

all_filter : (P : Row → Type 0) (p : Row → Bool) (xs : List Row) → All P xs → All (λ y. P y × (p y ≡ true)) (filter p xs)
all_filter P p [] all = All-nil (λ y. P y × (p y ≡ true))
all_filter P p (x ∷ xs) all =
    filtered_by P p x (filter p xs) (p x) refl (All-head P x xs all) (all_filter P p xs (All-tail P x xs all))

weaker : {X : Type 0} (P Q : X → Type 0) → ((x : X) → P x → Q x) → (xs : List X) → All P xs → All Q xs
weaker P Q h [] all = All-nil Q
weaker P Q h (x ∷ xs) all = All-cons Q x xs (h x (All-head P x xs all)) (weaker P Q h xs (All-tail P x xs all))

one_side : (k : ℤ) → not (not (int_eq k (pos 0))) ≡ false → int_lt k (pos 0) ≡ false → int_lt (pos 0) k ≡ true
one_side (pos zero) e f = absurd (cc)
one_side (pos (suc n)) e f = grind (arith, ints)
one_side (negsuc n) e f = absurd (cc)

module _ (P : Row → Type 0) (u : ℕ) where
  tail_if : (b : Bool) (r : Row) (rs : List Row) → All P (if b then (r ∷ rs) else rs) → All P rs
  tail_if true r rs all = All-tail P r rs all
  tail_if false r rs all = all

  head_if : (b : Bool) (r : Row) (rs : List Row) → b ≡ true → All P (if b then (r ∷ rs) else rs) → P r
  head_if true r rs e all = All-head P r rs all
  head_if false r rs e all = absurd (cc)

  all_parts : (rows : List Row) → All P (filter (is_without u) rows) → All P (filter (is_lower u) rows) → All P (filter (is_upper u) rows)
      → All P rows
  all_parts [] a b c = All-nil P
  all_parts (r ∷ rs) a b c =
      All-cons P r rs (by (is_without u r) (is_lower u r) refl refl)
      (all_parts rs (tail_if (is_without u r) r (filter (is_without u) rs) a) (tail_if (is_lower u r) r (filter (is_lower u) rs) b)
      (tail_if (is_upper u r) r (filter (is_upper u) rs) c))
    where
      by : (w l : Bool) → is_without u r ≡ w → is_lower u r ≡ l → P r
      by true l e f = head_if (is_without u r) r (filter (is_without u) rs) e a
      by false true e f = head_if (is_lower u r) r (filter (is_lower u) rs) f b
      by false false e f = head_if (is_upper u r) r (filter (is_upper u) rs) (one_side (at u r.terms) e f) c

module _ (n : ℕ) where
  -- a relation of the system, where these unknowns are left
  pub record Between (us : List ℕ) (r : Row) : Type 0 where
    pub ordered : Ordered r
    pub among : Among n r
    pub some : is_constant r ≡ false
    pub unequal : r.equal ≡ false
    pub clear : (w : ℕ) → w < n → Out w us → coef w r.terms ≡ pos 0

  at_between : (u : ℕ) (us : List ℕ) (r : Row) → Between us r → at u r.terms ≡ coef u r.terms
  at_between u us r b = at_is u 0 r.terms b.ordered.terms

  met_below : (f : ℕ → ℤ) (D : ℤ) (r : Row) → r.equal ≡ false → row_worth f D r ≤ℤ pos 0 → Met f D r
  met_below f D r e h = subst (λ b. MetBy b (row_worth f D r)) (sym e) h

  below_met : (f : ℕ → ℤ) (D : ℤ) (r : Row) → r.equal ≡ false → Met f D r → row_worth f D r ≤ℤ pos 0
  below_met f D r e h = subst (λ b. MetBy b (row_worth f D r)) e h

  -- what a pair of bounds implies
  abbrev Implied : Row → (ℕ → ℤ) → ℤ → Row → Type 0
  Implied up f D low = (p : ℤ) × (q : ℤ) × (pos 0 <ℤ p) × (pos 0 <ℤ q) × ((p *ℤ row_worth f D low +ℤ q *ℤ row_worth f D up) ≤ℤ pos 0)

  abbrev AllImplied : List Row → (ℕ → ℤ) → ℤ → Row → Type 0
  AllImplied lows f D up = All (Implied up f D) lows

  module _ (u : ℕ) (us : List ℕ) where
    abbrev Before : Row → Type 0
    Before r = Between (u ∷ us) r

    without_clear : (r : Row) (none : coef u r.terms ≡ pos 0) → ((w : ℕ) → w < n → Out w (u ∷ us) → coef w r.terms ≡ pos 0) → (w : ℕ)
        → w < n → Out w us → coef w r.terms ≡ pos 0
    without_clear r none clear w l out = by (u == w) refl
      where
        by : (b : Bool) → (u == w) ≡ b → coef w r.terms ≡ pos 0
        by true e = ap (λ v. coef v r.terms) (sym (is_same u w e)) ∙ none
        by false e = clear w l (All-cons (λ v. v ≡ w → ⊥) u us (is_other u w e) out)

    crossed_between : (up low m : Row) → Before up → Before low → CrossedTo n u up low m → Ordered m → is_constant m ≡ false → Between us m
    crossed_between up low m bu bl (p, q, pa, qa, mix, none, unequal, among) o some =
        record {
          ordered = o;
          among = among;
          some = some;
          unequal = unequal;
          clear = without_clear m (gone_at u p low q up m mix
              ((λ j. p *ℤ sym (at_between u (u ∷ us) low bl) j +ℤ q *ℤ sym (at_between u (u ∷ us) up bu) j) ∙ none))
              (λ w l out. lacks_both w p low q up m mix (bl.clear w l out) (bu.clear w l out));
        }

    implied : (f : ℕ → ℤ) (D : ℤ) (up low m : Row) → CrossedTo n u up low m → Met f D m → Implied up f D low
    implied f D up low m (p, q, pa, qa, mix, none, unequal, among) met =
        let low_m = below_met f D m unequal met in
        let whole = below_times (pos mix.g) (row_worth f D m) (omega (arith, ints)) low_m in
        let same = form_mix f D p low q up m mix in
        (p, q, pa, qa, omega (arith, ints, whole, same))

    once_holds : (up : Row) → Before up → is_upper u up ≡ true → (rows : List Row) (low : Row) → All (Between us) rows
        → Before low × (is_lower u low ≡ true) → Holds (crossed_once u up rows low)
        (λ new. All (Between us) new × ((f : ℕ → ℤ) (D : ℤ) → pos 0 <ℤ D → All (Met f D) new → All (Met f D) rows × Implied up f D low))
    once_holds up bu upper rows low all bl =
        holds_chain (crossing u up low) (admitted rows) (λ m. CrossedTo n u up low m × Ordered m) _
        (from_gives (crossing u up low) (λ m. CrossedTo n u up low m × Ordered m)
        (gives_both (crossing u up low) (CrossedTo n u up low) Ordered (λ m a b. (a, b))
        (crossing_gives n u up low upper bl.1 bu.among bl.0.among) (crossing_ordered u up low bu.ordered upper bl.0.ordered bl.1)))
        (λ m c.
        holds_weaker (admitted rows m) (Admits (Between us) rows m) _
        (λ new a. (a.0, λ f D above met. let back = a.1 f D above met in (back.0, implied f D up low m c.0 back.1)))
        (admitted_holds (Between us) rows m all (λ some. crossed_between up low m bu bl.0 c.0 c.1 some)))

    with_holds : (lows : List Row) → All (λ r. Before r × (is_lower u r ≡ true)) lows → (rows : List Row) (up : Row)
        → All (Between us) rows → Before up × (is_upper u up ≡ true)
        → Holds (crossed_with u lows rows up) (λ new. All (Between us) new
        × ((f : ℕ → ℤ) (D : ℤ) → pos 0 <ℤ D → All (Met f D) new → All (Met f D) rows × AllImplied lows f D up))
    with_holds lows bls rows up all bu =
        adds_steps (Between us) (Implied up) (λ r. Before r × (is_lower u r ≡ true)) (crossed_once u up)
        (once_holds up bu.0 bu.1) lows rows bls all

    -- ---- the unknown's value

    module _ (rows : List Row) (before : All Before rows) (f : ℕ → ℤ) (D : ℤ) (above : pos 0 <ℤ D) (point : Point)
        (h : Worths f D point) where
      abbrev lows : List Row
      lows = filter (is_lower u) rows

      abbrev ups : List Row
      ups = filter (is_upper u) rows

      form_at : (z : Fraction) (r : Row) → Before r → row_worth (moved f D u z) (D *ℤ z.1) r ≡ worth_at D (rest_of f D u r) (at u r.terms) z
      form_at z r b =
          form_moved f D u z r ∙ ap (λ a. z.1 *ℤ rest_of f D u r +ℤ a *ℤ (z.0 *ℤ D)) (sym (at_between u (u ∷ us) r b))

      met_at : (z : Fraction) (r : Row) → Before r → MetAt f D above u point h z r → Met (moved f D u z) (D *ℤ z.1) r
      met_at z r b m = met_below (moved f D u z) (D *ℤ z.1) r b.unequal (subst (λ k. k ≤ℤ pos 0) (sym (form_at z r b)) m)

      all_met_at : (z : Fraction) (rs : List Row) → All Before rs → All (MetAt f D above u point h z) rs
          → All (Met (moved f D u z) (D *ℤ z.1)) rs
      all_met_at z [] bs all = All-nil (Met (moved f D u z) (D *ℤ z.1))
      all_met_at z (r ∷ rs) bs all =
          All-cons (Met (moved f D u z) (D *ℤ z.1)) r rs
          (met_at z r (All-head Before r rs bs) (All-head (MetAt f D above u point h z) r rs all))
          (all_met_at z rs (All-tail Before r rs bs) (All-tail (MetAt f D above u point h z) r rs all))

      -- an upper bound, by the lower one that is 0
      up_met : (z : Fraction) (up low : Row) → Before up → Before low → ZeroAt f D above u point h z low
          → Implied up (moved f D u z) (D *ℤ z.1) low → Met (moved f D u z) (D *ℤ z.1) up
      up_met z up low bu bl zero_low (p, q, pa, qa, sum) =
          let none : p *ℤ row_worth (moved f D u z) (D *ℤ z.1) low ≡ pos 0 = ap (λ k. p *ℤ k) (form_at z low bl ∙ zero_low) ∙ *ℤ-zero p in
          met_below (moved f D u z) (D *ℤ z.1) up bu.unequal
          (cancel_below q (row_worth (moved f D u z) (D *ℤ z.1) up) qa (omega (arith, ints, none, sum)))

      ups_met : (z : Fraction) (ls : List Row) → AnyOf (ZeroAt f D above u point h z) ls → All Before ls → (vs : List Row) → All Before vs
          → All (AllImplied ls (moved f D u z) (D *ℤ z.1)) vs → All (Met (moved f D u z) (D *ℤ z.1)) vs
      ups_met z ls any bl [] bs all = All-nil (Met (moved f D u z) (D *ℤ z.1))
      ups_met z ls any bl (v ∷ vs) bs all =
          let here = All-head (AllImplied ls (moved f D u z) (D *ℤ z.1)) v vs all in
          let low = pick (ZeroAt f D above u point h z) (λ r. Before r × Implied v (moved f D u z) (D *ℤ z.1) r) ls any (both ls bl here) in
          All-cons (Met (moved f D u z) (D *ℤ z.1)) v vs (up_met z v low.0 (All-head Before v vs bs) low.2.0 low.1 low.2.1)
          (ups_met z ls any bl vs (All-tail Before v vs bs) (All-tail (AllImplied ls (moved f D u z) (D *ℤ z.1)) v vs all))
        where
          both : (ls : List Row) → All Before ls → All (Implied v (moved f D u z) (D *ℤ z.1)) ls
              → All (λ r. Before r × Implied v (moved f D u z) (D *ℤ z.1) r) ls
          both [] a b = All-nil (λ r. Before r × Implied v (moved f D u z) (D *ℤ z.1) r)
          both (r ∷ rs) a b =
              All-cons (λ r. Before r × Implied v (moved f D u z) (D *ℤ z.1) r) r rs
              (All-head Before r rs a, All-head (Implied v (moved f D u z) (D *ℤ z.1)) r rs b)
              (both rs (All-tail Before r rs a) (All-tail (Implied v (moved f D u z) (D *ℤ z.1)) r rs b))

      -- a value at which the bounds are met, where what they imply is
      abbrev Good : List Row → List Row → Fraction → Type 0
      Good ls vs z =
          (pos 0 <ℤ z.1) × (All (AllImplied ls (moved f D u z) (D *ℤ z.1)) vs
          → All (Met (moved f D u z) (D *ℤ z.1)) ls × All (Met (moved f D u z) (D *ℤ z.1)) vs)

      lower_side : (rs : List Row) → All (λ r. Before r × (is_lower u r ≡ true)) rs → All (OnSide f D above u point h true) rs
      lower_side rs all = weaker (λ r. Before r × (is_lower u r ≡ true)) (OnSide f D above u point h true)
          (λ r k. side (at u r.terms) k.1) rs all
        where
          side : (a : ℤ) → int_lt a (pos 0) ≡ true → a <ℤ pos 0
          side a e = grind (arith, ints)

      upper_side : (rs : List Row) → All (λ r. Before r × (is_upper u r ≡ true)) rs → All (OnSide f D above u point h false) rs
      upper_side rs all = weaker (λ r. Before r × (is_upper u r ≡ true)) (OnSide f D above u point h false)
          (λ r k. side (at u r.terms) k.1) rs all
        where
          side : (a : ℤ) → int_lt (pos 0) a ≡ true → pos 0 <ℤ a
          side a e = grind (arith, ints)

      value_good : (ls vs : List Row) → All (λ r. Before r × (is_lower u r ≡ true)) ls → All (λ r. Before r × (is_upper u r ≡ true)) vs
          → Holds (bounded_value u point (or_else ls vs)) (Good ls vs)
      value_good [] [] bl bu = (
        omega (arith, ints),
        λ all.
            (All-nil (Met (moved f D u (pos 0, pos 1)) (D *ℤ pos 1)), All-nil (Met (moved f D u (pos 0, pos 1)) (D *ℤ pos 1))),
      )
      value_good [] (v ∷ vs) bl bu =
          holds_weaker (bounded_value u point (v ∷ vs)) (Tight f D above u point h (v ∷ vs)) (Good [] (v ∷ vs))
          (λ z t. (
            t.0,
            λ all. (
              All-nil (Met (moved f D u z) (D *ℤ z.1)),
              all_met_at z (v ∷ vs)
                  (weaker (λ r. Before r × (is_upper u r ≡ true)) Before (λ r k. k.0) (v ∷ vs) bu) t.1,
            ),
          ))
          (bounded_is f D above u point h false v vs (upper_side (v ∷ vs) bu))
      value_good (l ∷ ls) vs bl bu =
          let lows_before = weaker (λ r. Before r × (is_lower u r ≡ true)) Before (λ r k. k.0) (l ∷ ls) bl in
          holds_weaker (bounded_value u point (l ∷ ls)) (Tight f D above u point h (l ∷ ls)) (Good (l ∷ ls) vs)
          (λ z t. (
            t.0,
            λ all. (
              all_met_at z (l ∷ ls) lows_before t.1,
              ups_met z (l ∷ ls) t.2 lows_before vs
                  (weaker (λ r. Before r × (is_upper u r ≡ true)) Before (λ r k. k.0) vs bu) all,
            ),
          ))
          (bounded_is f D above u point h true l ls (lower_side (l ∷ ls) bl))

    -- ---- one unknown

    record Step (s t : Bounded) : Type 0 where
      pub rows : All (Between us) t.rows
      pub is : t.bounds ≡ s.bounds ++ (u, bounds_of u s.rows) ∷ []
      pub back : (p : Point) → MeetsAt n p t.rows → Holds (placed p (u, bounds_of u s.rows)) (λ q. MeetsAt n q s.rows)

    lacks : (rows : List Row) → u < n → Out u us → All (Between us) rows → All (λ r. coef u r.terms ≡ pos 0) rows
    lacks rows l out all = weaker (Between us) (λ r. coef u r.terms ≡ pos 0) (λ r b. b.clear u l out) rows all

    crossed_holds : (s : Bounded) → u < n → Out u us → All Before s.rows → Holds (crossed s u) (Step s)
    crossed_holds s below out before =
        let bl = all_filter Before (is_lower u) s.rows before in
        let bu = all_filter Before (is_upper u) s.rows before in
        let bw = weaker (λ r. Before r × (is_without u r ≡ true)) (Between us) (λ r k. stays r k.0 k.1) (filter (is_without u) s.rows)
        (all_filter Before (is_without u) s.rows before) in
        holds_chain (steps (crossed_with u (filter (is_lower u) s.rows)) (filter (is_without u) s.rows) (filter (is_upper u) s.rows)) _
        (Adds (Between us) (AllImplied (filter (is_lower u) s.rows)) (filter (is_without u) s.rows) (filter (is_upper u) s.rows))
        (Step s) (adds_steps (Between us) (AllImplied (filter (is_lower u) s.rows)) (λ r. Before r × (is_upper u r ≡ true))
        (crossed_with u (filter (is_lower u) s.rows)) (with_holds (filter (is_lower u) s.rows) bl) (filter (is_upper u) s.rows)
        (filter (is_without u) s.rows) bu bw) (λ new adds.
        record {
          rows = adds.0;
          is = refl;
          back = λ p m.
              holds_chain (bounded_value u p (bounds_of u s.rows)) _
              (Good s.rows before m.f m.D m.above p m.worths (filter (is_lower u) s.rows) (filter (is_upper u) s.rows))
              (λ q. MeetsAt n q s.rows) (value_good s.rows before m.f m.D m.above p m.worths (filter (is_lower u) s.rows)
              (filter (is_upper u) s.rows) bl bu) (λ z good.
              let f' = moved m.f m.D u z in
              let D' = m.D *ℤ z.1 in
              let above = above_times m.D z.1 m.above good.0 in
              let still = all_stay m.f m.D u z good.0 new (lacks new below out adds.0) m.met in
              let back = adds.1 f' D' above still in
              let sides = good.1 back.1 in
              record {
                f = f';
                D = D';
                above = above;
                worths = worths_moved m.f m.D u z p (subst (λ l. u < l) (sym m.long) below) good.0 m.worths;
                long = length-set p u z ∙ m.long;
                met = all_parts (Met f' D') u s.rows back.0 sides.0 sides.1;
              });
        })
      where
        stays : (r : Row) → Before r → is_without u r ≡ true → Between us r
        stays r b e =
            record {
              ordered = b.ordered;
              among = b.among;
              some = b.some;
              unequal = b.unequal;
              clear = without_clear r
                  (sym (at_between u (u ∷ us) r b) ∙ gone (at u r.terms) e) b.clear;
            }
          where
            gone : (k : ℤ) → not (not (int_eq k (pos 0))) ≡ true → k ≡ pos 0
            gone k e = (Decides-int_eq k (pos 0)).0 (twice (int_eq k (pos 0)) e)
              where
                twice : (b : Bool) → not (not b) ≡ true → b ≡ true
                twice true e = refl
                twice false e = absurd (cc)

  -- ---- the whole stage

  none_between : (f : ℕ → ℤ) (D : ℤ) (rows : List Row) → All (Between []) rows → All (Met f D) rows
  none_between f D [] all = All-nil (Met f D)
  none_between f D (r ∷ rs) all =
      let b = All-head (Between []) r rs all in
      absurd (nothing_left n r b.ordered b.among b.some (λ w l. b.clear w l (All-nil (λ u. u ≡ w → ⊥))))

  zeros_worth : Worths (λ _. pos 0) (pos 1) (zeros n)
  zeros_worth i = by (nat_lt i n) refl
    where
      zero_worth : Worth (pos 1) (pos 0) (pos 0, pos 1)
      zero_worth = (refl, omega (arith, ints))

      by : (b : Bool) → nat_lt i n ≡ b → Worth (pos 1) (pos 0) (value (zeros n) i)
      by true e = subst (λ x. Worth (pos 1) (pos 0) x) (sym (get_or-replicate n i (pos 0, pos 1) (pos 0, pos 1) (inside e))) zero_worth
        where
          inside : nat_lt i n ≡ true → i < n
          inside e = grind (arith, nat_tests)
      by false e = subst (λ x. Worth (pos 1) (pos 0) x) (sym (get_or_past (zeros n) i (pos 0, pos 1) (outside e))) zero_worth
        where
          outside : nat_lt i n ≡ false → length (zeros n) ≤ i
          outside e = let l : length (zeros n) ≡ n = length-replicate n (pos 0, pos 1) in subst (λ k. k ≤ i) (sym l) (past e)
            where
              past : nat_lt i n ≡ false → n ≤ i
              past e = grind (arith, nat_tests)

  pub record Found (s t : Bounded) : Type 0 where
    pub bs : List (ℕ × List Row)
    pub is : t.bounds ≡ s.bounds ++ bs
    pub back : Holds (steps placed (zeros n) (reverse bs)) (λ p. MeetsAt n p s.rows)

  pub second_stage : (us : List ℕ) (s : Bounded) → Apart n us → All (Between us) s.rows → Holds (steps crossed s us) (Found s)
  second_stage [] s apart all =
      record {
        bs = [];
        is = sym (append-nil s.bounds);
        back = record {
          f = λ _. pos 0;
          D = pos 1;
          above = omega (arith, ints);
          worths = zeros_worth;
          long = length-replicate n
              (pos 0, pos 1);
          met = none_between (λ _. pos 0) (pos 1) s.rows all;
        };
      }
  second_stage (u ∷ us) s apart all =
      holds_chain (crossed s u) _ (Step u us s) (Found s) (crossed_holds u us s apart.0 apart.1 all) (λ t st.
      holds_weaker (steps crossed t us) (Found t) (Found s) (λ l fd. whole t l st fd) (second_stage us t apart.2 st.rows))
    where
      whole : (t l : Bounded) → Step u us s t → Found t l → Found s l
      whole t l st fd =
          let b : ℕ × List Row = (u, bounds_of u s.rows) in
          record {
            bs = b ∷ fd.bs;
            is = fd.is ∙ (ap (λ zs. zs ++ fd.bs) st.is ∙ append_assoc s.bounds (b ∷ []) fd.bs);
            back = subst (λ o. Holds o (λ p. MeetsAt n p s.rows))
                (sym (ap (λ zs. steps placed (zeros n) zs) (reverse-append (b ∷ []) fd.bs)
                ∙ steps_append placed (reverse fd.bs) (b ∷ []) (zeros n))) (
                holds_chain (steps placed (zeros n) (reverse fd.bs)) _ (λ p. MeetsAt n p t.rows) (λ p. MeetsAt n p s.rows) fd.back (λ p m.
                holds_chain (placed p b) _ (λ q. MeetsAt n q s.rows) (λ q. MeetsAt n q s.rows) (st.back p m) (λ q k. k)));
          }
