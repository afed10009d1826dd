-- Terms that are collected one by one, under a test that decides which unknowns are the same.
use Rattle.std.proofs.Common.{◌≡◌, ℕ, ◌+◌, ◌<◌, Bool, true, false, cond, List, [], ◌∷◌, ◌++◌, length, get_or, take, map, Some, None, refl}
use Rattle.std.proofs.Common.{ap, sym, ◌∙◌, subst, arith, ℤ, pos, ◌+ℤ◌, if◌then◌else◌, not, ◌||◌}
use Rattle.std.specs.Prelude.{filter, Decides, Option, option_map}
use Rattle.std.specs.List.{list_any, filter_map, cons_option}
use Rattle.std.proofs.lemmas.Int.{ints}
use Rattle.std.proofs.lemmas.Bool.{or_parts}
use Rattle.std.proofs.lemmas.List.{map-append, map_more, take_more, append-nil}
use Rattle.std.proofs.lemmas.List.Elements.{filter-append, filter_map-append}
use Rattle.acc_base.specs.Numbers.{total}
use Rattle.acc_terms.specs.declared.parts.Part.{Part}
use Rattle.acc_terms.specs.Parts.{constant_in, constant_of}
use Rattle.acc_terms.specs.Collected.{with_unknown, firsts, coefficient, totals}
use Rattle.acc_terms.specs.Sums.{with_term, with_part}

pub total-append : (xs ys : List ℤ) → total (xs ++ ys) ≡ total xs +ℤ total ys
total-append [] ys = omega (arith, ints)
total-append (x ∷ xs) ys = let h = total-append xs ys in omega (arith, ints)

pub constant_more : {K : Type 0} (parts : List (Part K)) (i : ℕ) (d : Part K) → i < length parts
    → constant_of (take (i + 1) parts) ≡ constant_of (take i parts) +ℤ constant_in (get_or parts i d)
constant_more parts i d within =
    let e = ap total (map_more constant_in parts i d within) in
    let t = total-append (map constant_in (take i parts)) (constant_in (get_or parts i d) ∷ []) in omega (arith, ints)

module _ {K : Type 0} (E : K → K → Bool) (decides : (x y : K) → Decides (E x y) (x ≡ y)) where
  -- ---- which unknowns come first

  abbrev has : K → List K → Bool
  has x xs = list_any (λ y. E y x) xs

  abbrev others : K → List K → List K
  others k xs = filter (λ y. not (E y k)) xs

  others-append : (k : K) (xs ys : List K) → others k (xs ++ ys) ≡ others k xs ++ others k ys
  others-append k xs ys = filter-append (λ y. not (E y k)) xs ys

  others-one : (k x : K) (b : Bool) → E x k ≡ b → others k (x ∷ []) ≡ cond (not b) (x ∷ []) []
  others-one k x b e = ap (λ b. cond (not b) (x ∷ []) []) e

  itself : (x : K) → E x x ≡ true
  itself x = (decides x x).1 refl

  exchanged : (k x : K) (b d : Bool) → E k x ≡ b → E x k ≡ d → d ≡ b
  exchanged k x true true e f = refl
  exchanged k x true false e f = sym f ∙ (decides x k).1 (sym ((decides k x).0 e))
  exchanged k x false true e f = sym ((decides k x).1 (sym ((decides x k).0 f))) ∙ e
  exchanged k x false false e f = refl

  back : (k x : K) (b : Bool) → E k x ≡ b → E x k ≡ b
  back k x b e = exchanged k x b (E x k) e refl

  first_step : (k x : K) (h b : Bool) (grown fs : List K) → E k x ≡ b → grown ≡ cond h fs (fs ++ x ∷ [])
      → k ∷ others k grown ≡ cond (b || h) (k ∷ others k fs) ((k ∷ others k fs) ++ x ∷ [])
  first_step k x true true grown fs e g = ap (λ ys. k ∷ others k ys) g
  first_step k x true false grown fs e g = ap (λ ys. k ∷ others k ys) g
  first_step k x false true grown fs e g =
      ap (λ ys. k ∷ others k ys) g
      ∙ ap (λ ys. k ∷ ys) (others-append k fs (x ∷ [])
      ∙ (ap (λ ys. others k fs ++ ys) (others-one k x true (back k x true e)) ∙ append-nil (others k fs)))
  first_step k x false false grown fs e g =
      ap (λ ys. k ∷ others k ys) g
      ∙ ap (λ ys. k ∷ ys) (others-append k fs (x ∷ []) ∙ ap (λ ys. others k fs ++ ys) (others-one k x false (back k x false e)))

  -- one more unknown comes last, unless it stood already
  firsts-push : (xs : List K) (x : K) → firsts E (xs ++ x ∷ []) ≡ cond (has x xs) (firsts E xs) (firsts E xs ++ x ∷ [])
  firsts-push [] x = refl
  firsts-push (k ∷ xs) x = first_step k x (has x xs) (E k x) (firsts E (xs ++ x ∷ [])) (firsts E xs) refl (firsts-push xs x)

  -- an unknown is among the first ones where it is among all
  others_step : (k x y : K) (b d : Bool) (ys : List K) → E k x ≡ false → E y k ≡ b → E y x ≡ d → has x (others k ys) ≡ has x ys
      → has x (cond (not b) (y ∷ others k ys) (others k ys)) ≡ (d || has x ys)
  others_step k x y true true ys e f g h =
      absurd (let same = (decides k x).1 (sym ((decides y k).0 f) ∙ (decides y x).0 g) in cc)
  others_step k x y true false ys e f g h = h
  others_step k x y false d ys e f g h = ap (λ b. b || has x (others k ys)) g ∙ ap (λ b. d || b) h

  has-others : (k x : K) (xs : List K) → E k x ≡ false → has x (others k xs) ≡ has x xs
  has-others k x [] e = refl
  has-others k x (y ∷ ys) e = others_step k x y (E y k) (E y x) ys e refl refl (has-others k x ys e)

  has_step : (k x : K) (b : Bool) (fs xs : List K) → E k x ≡ b → has x fs ≡ has x xs → (b || has x (others k fs)) ≡ (b || has x xs)
  has_step k x true fs xs e h = refl
  has_step k x false fs xs e h = has-others k x fs e ∙ h

  has-firsts : (x : K) (xs : List K) → has x (firsts E xs) ≡ has x xs
  has-firsts x [] = refl
  has-firsts x (k ∷ xs) = has_step k x (E k x) (firsts E xs) xs refl (has-firsts x xs)

  -- ---- no unknown stands twice among the first ones

  abbrev Apart : List K → Type 0
  Apart [] = Unit {0}
  Apart (k ∷ ks) = (has k ks ≡ false) × Apart ks

  gone_step : (k y : K) (b : Bool) (ys : List K) → E y k ≡ b → has k (others k ys) ≡ false
      → has k (cond (not b) (y ∷ others k ys) (others k ys)) ≡ false
  gone_step k y true ys e h = h
  gone_step k y false ys e h = ap (λ b. b || has k (others k ys)) e ∙ h

  gone : (k : K) (ys : List K) → has k (others k ys) ≡ false
  gone k [] = refl
  gone k (y ∷ ys) = gone_step k y (E y k) ys refl (gone k ys)

  fewer_step : (k y x : K) (b d : Bool) (ys : List K) → E y x ≡ d → (d || has x ys) ≡ false
      → (has x ys ≡ false → has x (others k ys) ≡ false) → has x (cond b (y ∷ others k ys) (others k ys)) ≡ false
  fewer_step k y x true true ys e h f = absurd (cc)
  fewer_step k y x true false ys e h f = ap (λ b. b || has x (others k ys)) e ∙ f h
  fewer_step k y x false true ys e h f = absurd (cc)
  fewer_step k y x false false ys e h f = f h

  fewer : (k x : K) (ys : List K) → has x ys ≡ false → has x (others k ys) ≡ false
  fewer k x [] h = refl
  fewer k x (y ∷ ys) h = fewer_step k y x (not (E y k)) (E y x) ys refl h (fewer k x ys)

  apart_step : (k y : K) (b : Bool) (ys : List K) → Apart (y ∷ ys) → Apart (others k ys) → Apart (cond b (y ∷ others k ys) (others k ys))
  apart_step k y true ys a h = (fewer k y ys a.0, h)
  apart_step k y false ys a h = h

  Apart-others : (k : K) (ys : List K) → Apart ys → Apart (others k ys)
  Apart-others k [] a = tt
  Apart-others k (y ∷ ys) a = apart_step k y (not (E y k)) ys a (Apart-others k ys a.1)

  Apart-firsts : (xs : List K) → Apart (firsts E xs)
  Apart-firsts [] = tt
  Apart-firsts (k ∷ xs) = (gone k (firsts E xs), Apart-others k (firsts E xs) (Apart-firsts xs))

  -- ---- one more term

  abbrev pairs : (K → ℤ) → List K → List (K × ℤ)
  pairs c ks = map (λ x. (x, c x)) ks

  new_step : (x : K) (n : ℤ) (t : K × ℤ) (b : Bool) (ts : List (K × ℤ)) → E t.0 x ≡ b → b ≡ false → with_term E x n ts ≡ ts ++ (x, n) ∷ []
      → with_term E x n (t ∷ ts) ≡ (t ∷ ts) ++ (x, n) ∷ []
  new_step x n t b ts e f h =
      ap (λ d. if d then ((t.0, t.1 +ℤ n) ∷ ts) else (t ∷ with_term E x n ts)) (e ∙ f) ∙ ap (λ us. t ∷ us) h

  with_term-new : (x : K) (n : ℤ) (c : K → ℤ) (ks : List K) → has x ks ≡ false → with_term E x n (pairs c ks) ≡ pairs c ks ++ (x, n) ∷ []
  with_term-new x n c [] h = refl
  with_term-new x n c (k ∷ ks) h =
      let p = or_parts (E k x) (has x ks) h in new_step x n (k, c k) (E k x) (pairs c ks) refl p.0 (with_term-new x n c ks p.1)

  same_elsewhere : (x : K) (c d : K → ℤ) (ks : List K) → ((y : K) → E y x ≡ false → d y ≡ c y) → has x ks ≡ false → pairs d ks ≡ pairs c ks
  same_elsewhere x c d [] same h = refl
  same_elsewhere x c d (k ∷ ks) same h =
      let p = or_parts (E k x) (has x ks) h in
      ap (λ z. (k, z) ∷ pairs d ks) (same k p.0) ∙ ap (λ us. (k, c k) ∷ us) (same_elsewhere x c d ks same p.1)

  old_step : (x : K) (n : ℤ) (c d : K → ℤ) (k : K) (ks : List K) (b : Bool) → E k x ≡ b → ((y : K) → E y x ≡ false → d y ≡ c y)
      → d x ≡ c x +ℤ n → Apart (k ∷ ks) → (has x ks ≡ true → with_term E x n (pairs c ks) ≡ pairs d ks) → (b || has x ks) ≡ true
      → with_term E x n (pairs c (k ∷ ks)) ≡ pairs d (k ∷ ks)
  old_step x n c d k ks true e same here a h f =
      let is : k ≡ x = (decides k x).0 e in
      let sum : d k ≡ c k +ℤ n = ap d is ∙ (here ∙ ap (λ y. c y +ℤ n) (sym is)) in
      ap (λ b. if b then ((k, c k +ℤ n) ∷ pairs c ks) else ((k, c k) ∷ with_term E x n (pairs c ks))) e
      ∙ (ap (λ z. (k, z) ∷ pairs c ks) (sym sum)
      ∙ ap (λ us. (k, d k) ∷ us) (sym (same_elsewhere x c d ks same (subst (λ y. has y ks ≡ false) is a.0))))
  old_step x n c d k ks false e same here a h f =
      ap (λ b. if b then ((k, c k +ℤ n) ∷ pairs c ks) else ((k, c k) ∷ with_term E x n (pairs c ks))) e
      ∙ (ap (λ us. (k, c k) ∷ us) (h f) ∙ ap (λ z. (k, z) ∷ pairs d ks) (sym (same k e)))

  with_term-old : (x : K) (n : ℤ) (c d : K → ℤ) (ks : List K) → ((y : K) → E y x ≡ false → d y ≡ c y) → d x ≡ c x +ℤ n → Apart ks
      → has x ks ≡ true → with_term E x n (pairs c ks) ≡ pairs d ks
  with_term-old x n c d [] same here a h = absurd (cc)
  with_term-old x n c d (k ∷ ks) same here a h =
      old_step x n c d k ks (E k x) refl same here a (with_term-old x n c d ks same here a.1) h

  abbrev numbers_at : K → List (K × ℤ) → List ℤ
  numbers_at x terms = map (λ t. t.1) (filter (λ t. E t.0 x) terms)

  one_total : (x y : K) (n : ℤ) (b : Bool) → E x y ≡ b → total (numbers_at y ((x, n) ∷ [])) ≡ cond b n (pos 0)
  one_total x y n true e = ap (λ b. total (map (λ (t : K × ℤ). t.1) (cond b ((x, n) ∷ []) []))) e ∙ omega (arith, ints)
  one_total x y n false e = ap (λ b. total (map (λ (t : K × ℤ). t.1) (cond b ((x, n) ∷ []) []))) e

  coefficient-push : (terms : List (K × ℤ)) (x : K) (n : ℤ) (y : K) (b : Bool) → E x y ≡ b
      → coefficient E (terms ++ (x, n) ∷ []) y ≡ coefficient E terms y +ℤ cond b n (pos 0)
  coefficient-push terms x n y b e =
      ap (λ ts. total (map (λ t. t.1) ts)) (filter-append (λ t. E t.0 y) terms ((x, n) ∷ []))
      ∙ (ap total (map-append (λ t. t.1) (filter (λ t. E t.0 y) terms) (filter (λ t. E t.0 y) ((x, n) ∷ [])))
      ∙ (total-append (numbers_at y terms) (numbers_at y ((x, n) ∷ []))
      ∙ ap (λ z. coefficient E terms y +ℤ z) (one_total x y n b e)))

  abbrev unknowns : List (K × ℤ) → List K
  unknowns terms = map (λ t. t.0) terms

  absent_step : (x : K) (t : K × ℤ) (b : Bool) (ts : List (K × ℤ)) → E t.0 x ≡ b → (b || has x (unknowns ts)) ≡ false
      → (has x (unknowns ts) ≡ false → coefficient E ts x ≡ pos 0) → coefficient E (t ∷ ts) x ≡ pos 0
  absent_step x t true ts e h f = absurd (cc)
  absent_step x t false ts e h f =
      ap (λ b. total (map (λ t. t.1) (cond b (t ∷ filter (λ t. E t.0 x) ts) (filter (λ t. E t.0 x) ts)))) e ∙ f h

  coefficient-absent : (terms : List (K × ℤ)) (x : K) → has x (unknowns terms) ≡ false → coefficient E terms x ≡ pos 0
  coefficient-absent [] x h = refl
  coefficient-absent (t ∷ ts) x h = absent_step x t (E t.0 x) ts refl h (coefficient-absent ts x)

  elsewhere : (terms : List (K × ℤ)) (x : K) (n : ℤ) (y : K) → E y x ≡ false
      → coefficient E (terms ++ (x, n) ∷ []) y ≡ coefficient E terms y
  elsewhere terms x n y e =
      let h = coefficient-push terms x n y false (back y x false e) in omega (arith, ints)

  here : (terms : List (K × ℤ)) (x : K) (n : ℤ) → coefficient E (terms ++ (x, n) ∷ []) x ≡ coefficient E terms x +ℤ n
  here terms x n = coefficient-push terms x n x true (itself x)

  firsts-grown : (terms : List (K × ℤ)) (x : K) (n : ℤ) (b : Bool) → has x (unknowns terms) ≡ b
      → firsts E (unknowns (terms ++ (x, n) ∷ [])) ≡ cond b (firsts E (unknowns terms)) (firsts E (unknowns terms) ++ x ∷ [])
  firsts-grown terms x n b e =
      ap (firsts E) (map-append (λ t. t.0) terms ((x, n) ∷ []))
      ∙ (firsts-push (unknowns terms) x ∙ ap (λ b. cond b (firsts E (unknowns terms)) (firsts E (unknowns terms) ++ x ∷ [])) e)

  new_total : (c d : K → ℤ) (x : K) (n : ℤ) (ks more : List K) → firsts E more ≡ ks ++ x ∷ [] → ((y : K) → E y x ≡ false → d y ≡ c y)
      → has x ks ≡ false → d x ≡ n → pairs d (firsts E more) ≡ with_term E x n (pairs c ks)
  new_total c d x n ks more grown same absent at =
      ap (pairs d) grown ∙ (map-append (λ y. (y, d y)) ks (x ∷ [])
      ∙ (ap (λ ts. ts ++ (x, d x) ∷ []) (same_elsewhere x c d ks same absent)
      ∙ (ap (λ z. pairs c ks ++ (x, z) ∷ []) at ∙ sym (with_term-new x n c ks absent))))

  push_cases : (terms : List (K × ℤ)) (x : K) (n : ℤ) (b : Bool) → has x (unknowns terms) ≡ b
      → totals E (terms ++ (x, n) ∷ []) ≡ with_term E x n (totals E terms)
  push_cases terms x n true e =
      ap (pairs (coefficient E (terms ++ (x, n) ∷ []))) (firsts-grown terms x n true e)
      ∙ sym (with_term-old x n (coefficient E terms) (coefficient E (terms ++ (x, n) ∷ [])) (firsts E (unknowns terms))
      (elsewhere terms x n) (here terms x n) (Apart-firsts (unknowns terms)) (has-firsts x (unknowns terms) ∙ e))
  push_cases terms x n false e =
      new_total (coefficient E terms) (coefficient E (terms ++ (x, n) ∷ [])) x n (firsts E (unknowns terms))
      (unknowns (terms ++ (x, n) ∷ [])) (firsts-grown terms x n false e) (elsewhere terms x n) (has-firsts x (unknowns terms)
      ∙ e) (let h = here terms x n in let z = coefficient-absent terms x e in omega (arith, ints))

  -- one more term
  totals-push : (terms : List (K × ℤ)) (x : K) (n : ℤ) → totals E (terms ++ (x, n) ∷ []) ≡ with_term E x n (totals E terms)
  totals-push terms x n = push_cases terms x n (has x (unknowns terms)) refl

  one_step : (ts : List (K × ℤ)) (o : Option K) (n : ℤ)
      → totals E (ts ++ cons_option (option_map (λ x. (x, n)) o) []) ≡ with_part E (record { of = o; number = n }) (totals E ts)
  one_step ts None n = ap (totals E) (append-nil ts)
  one_step ts (Some x) n = totals-push ts x n

  -- one more term, which may be constant
  pub one_part : (parts : List (Part K)) (p : Part K)
      → totals E (filter_map with_unknown (parts ++ p ∷ [])) ≡ with_part E p (totals E (filter_map with_unknown parts))
  one_part parts p =
      ap (totals E) (filter_map-append with_unknown parts (p ∷ [])) ∙ one_step (filter_map with_unknown parts) p.of p.number

  -- a step of a loop over the terms
  pub totals_more : (parts : List (Part K)) (i : ℕ) (p : Part K) → i < length parts → p ≡ get_or parts i p
      → with_part E p (totals E (filter_map with_unknown (take i parts))) ≡ totals E (filter_map with_unknown (take (i + 1) parts))
  totals_more parts i p within this =
      sym (one_part (take i parts) p)
      ∙ ap (λ ys. totals E (filter_map with_unknown ys)) (ap (λ q. take i parts ++ q ∷ []) this ∙ sym (take_more parts i p within))
