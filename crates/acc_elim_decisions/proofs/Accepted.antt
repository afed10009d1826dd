-- The multipliers of the false constant that ends a search are accepted as ones that refute.
use Rattle.std.proofs.Common.{◌≡◌, ℕ, suc, ◌+◌, ◌<◌, ◌≤◌, Bool, true, false, not, List, [], ◌∷◌, length, refl, sym, ap, ◌∙◌, subst, arith}
use Rattle.std.proofs.Common.{ℤ, pos, negsuc, ◌-ℤ◌, ◌*ℤ◌, if◌then◌else◌, Option, Some, None, get_or}
use Rattle.std.specs.Prelude.{All, ◌&&◌, ◌||◌, ◌≢◌, int_le, int_lt, slice_get, unsigned_abs}
use Rattle.std.specs.List.{list_any}
use Rattle.std.specs.Option.{option_map_or}
use Rattle.std.specs.Ordering.{int_eq}
use Rattle.std.specs.Cmp.{first_so, second_so}
use Rattle.std.proofs.lemmas.Int.{ints, unsigned_abs-mul}
use Rattle.std.proofs.lemmas.Bool.Decides.{nat_tests, Decides-int_eq}
use Rattle.std.proofs.lemmas.List.Elements.{All-nil, All-cons, All-head, All-tail}
use Rattle.std.proofs.lemmas.Option.{slice_get-get_or}
use Rattle.acc_base.specs.declared.forms.Form.{Form}
use Rattle.acc_base.specs.declared.forms.Rel.{Rel}
use Rattle.acc_base.specs.declared.bounds.TheConstants.{LARGEST_SUM}
use Rattle.acc_base.specs.Collecting.{worth, multiple}
use Rattle.acc_base.specs.Sums.{Term, is_left}
use Rattle.acc_base.specs.UnknownEquality.{unknown_decides, bare_one}
use Rattle.acc_base.proofs.CollectedWorths.{worth-multiples}
use Rattle.acc_farkas.specs.Sums.{Pair, rises, may_have, signs, weighted, nothing, is_positive, refutes_all, is_refuting_wide}
use Rattle.acc_rows.specs.declared.rows.Row.{Row}
use Rattle.acc_elim_systems.specs.Made.{Rises, IsProper, IsNear, Signed, MayStand, OfEquation}
use Rattle.acc_elim_readings.specs.Readings.{place_of, unknowns_of}
use Rattle.acc_elim_points.specs.FalseConstants.{numbered, Shows}
use Rattle.acc_elim_readings.proofs.Names.{unknowns_stand}
use Rattle.acc_elim_decisions.specs.Decisions.{takes_opposites, opposites, multipliers}
use Rattle.acc_elim_decisions.specs.Evidence.{Refute}
use Rattle.acc_elim_decisions.proofs.Lefts.{Fine, nothing_left, all_nothing}
use Rattle.acc_elim_decisions.proofs.Weights.{worth_of, base, weighted_worth, weighted_neat}

-- ---- the places

below_by : (p : Pair) (ps : List Pair) (from n : ℕ) → from ≤ p.0 → p.0 < n → rises (p.0 + 1) n ps ≡ true → rises from n (p ∷ ps) ≡ true
below_by p ps from n l m rest = grind (arith, nat_tests, l, m, rest)

rising : (ps : List Pair) (from n : ℕ) → Rises from ps → All (IsProper n) ps → rises from n ps ≡ true
rising [] from n r all = refl
rising (p ∷ ps) from n r all =
    let next : suc p.0 ≡ p.0 + 1 = omega arith in
    below_by p ps from n r.0 (All-head (IsProper n) p ps all).0
    (rising ps (p.0 + 1) n (subst (λ k. Rises k ps) next r.1) (All-tail (IsProper n) p ps all))

-- ---- the signs

abbrev equal_of : Option Rel → Bool
equal_of None = false
equal_of (Some r) = r.equal

abbrev some_relation : Rel
some_relation = record { form = nothing; equal = true }

module _ (rels : List Rel) where
  abbrev is_equation : ℕ → Bool
  is_equation j = equal_of (slice_get rels j)

  tells : (j : ℕ) (d : Rel) → j < length rels → is_equation j ≡ (get_or rels j d).equal
  tells j d l = ap equal_of (slice_get-get_or rels j d l)

  is_there : (j : ℕ) → j < length rels → slice_get rels j ≡ None → ⊥
  is_there j l e = let h = slice_get-get_or rels j some_relation l in cc

  may_by : (m : Pair) (o : Option Rel) (b : Bool) → equal_of o ≡ b → (o ≡ None → ⊥) → (b ≡ false → int_le (pos 0) m.1 ≡ true)
      → may_have m.1 o ≡ true
  may_by m None b e some h = absurd (some refl)
  may_by m (Some r) true e some h = ap (λ c. c || int_le (pos 0) m.1) e
  may_by m (Some r) false e some h = ap (λ c. c || int_le (pos 0) m.1) e ∙ h refl

  signed : (ms : List Pair) → All (IsProper (length rels)) ms → All (MayStand is_equation) ms → signs rels ms ≡ true
  signed [] proper may = refl
  signed (m ∷ ms) proper may =
      let here = may_by m (slice_get rels m.0) (is_equation m.0) refl
      (is_there m.0 (All-head (IsProper (length rels)) m ms proper).0) (All-head (MayStand is_equation) m ms may) in
      ap (λ c. c && signs rels ms) here
      ∙ signed ms (All-tail (IsProper (length rels)) m ms proper) (All-tail (MayStand is_equation) m ms may)

-- ---- opposites

opposites_all : (P Q : Pair → Type 0) → ((m : Pair) → P m → Q (multiple (negsuc 0) m)) → (ms : List Pair) → All P ms → All Q (opposites ms)
opposites_all P Q h [] all = All-nil Q
opposites_all P Q h (m ∷ ms) all =
    All-cons Q (multiple (negsuc 0) m) (opposites ms) (h m (All-head P m ms all)) (opposites_all P Q h ms (All-tail P m ms all))

opposites_rise : (k : ℕ) (ms : List Pair) → Rises k ms → Rises k (opposites ms)
opposites_rise k [] r = tt
opposites_rise k (m ∷ ms) r = (r.0, opposites_rise (suc m.0) ms r.1)

size_same : (x : ℤ) → unsigned_abs (negsuc 0 *ℤ x) ≡ unsigned_abs x
size_same x = let e = unsigned_abs-mul (negsuc 0) x in omega (arith, e)

opposite_proper : (n : ℕ) (m : Pair) → IsProper n m → IsProper n (multiple (negsuc 0) m)
opposite_proper n m h = (h.0, subst (λ k. 0 < k) (sym (size_same m.1)) h.1)

opposite_near : (m : Pair) → IsNear m → IsNear (multiple (negsuc 0) m)
opposite_near m h = subst (λ k. k ≤ LARGEST_SUM) (sym (size_same m.1)) h

-- ---- multipliers of the relations whose sum is worth a constant above 0

pub record Ready (rels : List Rel) (ms : List Pair) : Type 0 where
  constant : ℤ
  places : Rises 0 ms
  proper : All (IsProper (length rels)) ms
  near : All IsNear ms
  may : All (MayStand (is_equation rels)) ms
  above : int_lt (pos 0) constant ≡ true
  sum : (f : ℕ → ℤ) → worth (base (numbered f (unknowns_of rels)) rels) ms ≡ constant

module _ (rels : List Rel) (r : Row) (s : Shows rels r) where
  sum_is : (f : ℕ → ℤ) → r.constant ≡ worth (base (numbered f (unknowns_of rels)) rels) r.by
  sum_is f =
      s.sum f (base (numbered f (unknowns_of rels)) rels)
      (λ j d l. ap (worth_of (numbered f (unknowns_of rels))) (slice_get-get_or rels j d l))

  signs_are : Signed (is_equation rels) r
  signs_are = s.signs (is_equation rels) (tells rels)

  not_zero : (x : ℤ) → not (int_eq x (pos 0)) ≡ true → x ≡ pos 0 → ⊥
  not_zero x h e = let k = (Decides-int_eq x (pos 0)).1 e in cc

  test_above : (x : ℤ) → int_lt x (pos 0) ≡ false → (x ≡ pos 0 → ⊥) → int_lt (pos 0) x ≡ true
  test_above x h n = grind (arith, ints, h, n)

  test_below : (x : ℤ) → int_lt x (pos 0) ≡ true → int_lt (pos 0) (negsuc 0 *ℤ x) ≡ true
  test_below x h = grind (arith, ints, h)

  above_by : (equal low : Bool) → r.equal ≡ equal → int_lt r.constant (pos 0) ≡ low → (equal && low) ≡ false
      → (if equal then not (int_eq r.constant (pos 0)) else int_lt (pos 0) r.constant) ≡ true → int_lt (pos 0) r.constant ≡ true
  above_by true true e l b h = absurd (cc)
  above_by true false e l b h = test_above r.constant l (not_zero r.constant h)
  above_by false low e l b h = h

  ready_by : (b : Bool) → (r.equal && int_lt r.constant (pos 0)) ≡ b → Ready rels (if b then opposites r.by else r.by)
  ready_by true e = record {
    constant = negsuc 0 *ℤ r.constant;
    places = opposites_rise 0 r.by s.places;
    proper = opposites_all (IsProper (length rels)) (IsProper (length rels)) (opposite_proper (length rels)) r.by s.proper;
    near = opposites_all IsNear IsNear opposite_near r.by s.near;
    may = opposites_all (OfEquation (is_equation rels)) (MayStand (is_equation rels))
        (λ m h g. absurd (apart (is_equation rels m.0) h g)) r.by
        (signs_are.equal (first_so r.equal (int_lt r.constant (pos 0)) e));
    above = test_below r.constant (second_so r.equal (int_lt r.constant (pos 0)) e);
    sum = λ f. worth-multiples (base (numbered f (unknowns_of rels)) rels) (negsuc 0) r.by ∙ ap (λ x. negsuc 0 *ℤ x) (sym (sum_is f));
  }
    where
      apart : (b : Bool) → b ≡ true → b ≡ false → ⊥
      apart b h g = cc
  ready_by false e = record {
    constant = r.constant;
    places = s.places;
    proper = s.proper;
    near = s.near;
    may = signs_are.may;
    above = above_by r.equal (int_lt r.constant (pos 0)) refl refl e s.wrong;
    sum = λ f. sym (sum_is f);
  }

  pub ready : Ready rels (multipliers r)
  ready = ready_by (takes_opposites r) refl

-- ---- they are accepted

module _ (rels : List Rel) (ms : List Pair) (h : Ready rels ms) where
  one_is : (f : ℕ → ℤ) → numbered f (unknowns_of rels) bare_one ≡ pos 1
  one_is f =
      ap (λ b. if b then pos 1 else option_map_or f (place_of (unknowns_of rels) bare_one) (pos 0))
      ((unknown_decides bare_one bare_one).1 refl)

  abbrev whole : Form
  whole = weighted rels ms nothing

  worth_is : (f : ℕ → ℤ) → worth (numbered f (unknowns_of rels)) whole.terms ≡ h.constant -ℤ whole.constant
  worth_is f =
      let all = weighted_worth (numbered f (unknowns_of rels)) (one_is f) rels ms nothing in
      let sum = h.sum f in
      omega (arith, ints, all, sum)

  none_left : (ts : List Term) → All (λ t. t.1 ≡ pos 0) ts → list_any is_left ts ≡ false
  none_left [] all = refl
  none_left (t ∷ ts) all =
      let gone = (Decides-int_eq t.1 (pos 0)).1 (All-head (λ t. t.1 ≡ pos 0) t ts all) in
      ap (λ b. not b || list_any is_left ts) gone ∙ none_left ts (All-tail (λ t. t.1 ≡ pos 0) t ts all)

  positive : is_positive whole ≡ true
  positive =
      let neat = weighted_neat (unknowns_of rels) rels (unknowns_stand rels) ms nothing (tt, All-nil (Fine (unknowns_of rels))) in
      let left = none_left whole.terms
      (nothing_left (unknowns_of rels) whole.terms (h.constant -ℤ whole.constant) neat.1 neat.0 worth_is) in
      let none = all_nothing (unknowns_of rels) whole.terms neat.1 in
      let at_zero = worth_is (λ _. pos 0) in
      let same : whole.constant ≡ h.constant = omega (arith, ints, none, at_zero) in
      ap (λ b. not b && int_lt (pos 0) whole.constant) left ∙ (ap (λ x. int_lt (pos 0) x) same ∙ h.above)

  others : (ns : List Pair) → All (IsProper (length rels)) ns → All (λ m. m.1 ≢ pos 0) ns
  others [] all = All-nil (λ m. m.1 ≢ pos 0)
  others (n ∷ ns) all =
      All-cons (λ m. m.1 ≢ pos 0) n ns (λ e. apart n.1 (All-head (IsProper (length rels)) n ns all).1 e)
      (others ns (All-tail (IsProper (length rels)) n ns all))
    where
      apart : (x : ℤ) → 0 < unsigned_abs x → x ≡ pos 0 → ⊥
      apart x l e = let none : unsigned_abs x ≡ 0 = ap unsigned_abs e in omega (arith, l, none)

  accepted : refutes_all rels ms ≡ true
  accepted =
      ap (λ b. b && (signs rels ms && is_positive whole)) (rising ms 0 (length rels) h.places h.proper)
      ∙ (ap (λ b. b && is_positive whole) (signed rels ms h.proper h.may) ∙ positive)

  pub evidence : is_refuting_wide rels ms ≡ false → Refute rels ms
  evidence narrow = record { accepted = accepted; narrow = narrow; others = others ms h.proper; near = h.near }
