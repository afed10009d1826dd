-- Terms that were collected are collected: each unknown stands once, and none has the number zero. What holds of each unknown that is
-- written holds of each that is left.
use Rattle.std.proofs.Common.{◌≡◌, Bool, true, false, List, [], ◌∷◌, map, Option, Some, None, refl, sym, ap, ◌∙◌, arith, not, cond, ℤ, ◌+ℤ◌}
use Rattle.std.specs.Prelude.{filter, Decides, IfSome}
use Rattle.std.specs.List.{filter_map}
use Rattle.std.proofs.lemmas.Int.{ints}
use Rattle.acc_base.specs.Numbers.{total}
use Rattle.acc_grammar.specs.Readers.{AllIn}
use Rattle.acc_terms.specs.declared.parts.Part.{Part}
use Rattle.acc_terms.specs.Collected.{with_unknown, firsts, coefficient, totals, is_left, collected}
use Rattle.acc_parse_readback.specs.Printable.{AreCollected}

-- ---- lists that are filtered

kept_step : {T : Type 0} (P : T → Type 0) (b : Bool) (t : T) (ts : List T) → P t → AllIn P ts → AllIn P (cond b (t ∷ ts) ts)
kept_step P true t ts p h = (p, h)
kept_step P false t ts p h = h

pub all_filtered : {T : Type 0} (P : T → Type 0) (test : T → Bool) (ts : List T) → AllIn P ts → AllIn P (filter test ts)
all_filtered P test [] h = tt
all_filtered P test (t ∷ ts) h = kept_step P (test t) t (filter test ts) h.0 (all_filtered P test ts h.1)

passes_step : {T : Type 0} (test : T → Bool) (b : Bool) (t : T) (ts : List T) → test t ≡ b → AllIn (λ u. test u ≡ true) ts →
    AllIn (λ u. test u ≡ true) (cond b (t ∷ ts) ts)
passes_step test true t ts e h = (e, h)
passes_step test false t ts e h = h

pub filtered_pass : {T : Type 0} (test : T → Bool) (ts : List T) → AllIn (λ t. test t ≡ true) (filter test ts)
filtered_pass test [] = tt
filtered_pass test (t ∷ ts) = passes_step test (test t) t (filter test ts) refl (filtered_pass test ts)

pub all_kept : {T : Type 0} (test : T → Bool) (ts : List T) → AllIn (λ t. test t ≡ true) ts → filter test ts ≡ ts
all_kept test [] h = refl
all_kept {T} test (t ∷ ts) h = ap (λ b. cond b (t ∷ filter test ts) (filter test ts)) h.0 ∙ ap (λ (us : List T). t ∷ us)
    (all_kept test ts h.1)

pub none_kept : {T : Type 0} (test : T → Bool) (ts : List T) → AllIn (λ t. test t ≡ false) ts → filter test ts ≡ []
none_kept test [] h = refl
none_kept {T} test (t ∷ ts) h = ap (λ b. cond b (t ∷ filter test ts) (filter test ts)) h.0 ∙ none_kept test ts h.1

not_true : (b : Bool) → not b ≡ true → b ≡ false
not_true true h = absurd cc
not_true false h = refl

false_not : (b : Bool) → b ≡ false → not b ≡ true
false_not true h = absurd cc
false_not false h = refl

module _ {K : Type 0} (E : K → K → Bool) where
  -- ---- unknowns that stand once

  -- none of these is the same
  abbrev pub IsNone : K → List K → Type 0
  IsNone k ks = AllIn (λ y. E y k ≡ false) ks

  abbrev pub Apart : List K → Type 0
  Apart [] = Unit {0}
  Apart (k ∷ ks) = IsNone k ks × Apart ks

  apart_step : (b : Bool) (k : K) (ks : List K) → IsNone k ks → Apart ks → Apart (cond b (k ∷ ks) ks)
  apart_step true k ks n h = (n, h)
  apart_step false k ks n h = h

  apart_filtered : (test : K → Bool) (ks : List K) → Apart ks → Apart (filter test ks)
  apart_filtered test [] h = tt
  apart_filtered test (k ∷ ks) h = apart_step (test k) k (filter test ks) (all_filtered (λ y. E y k ≡ false) test ks h.0)
      (apart_filtered test ks h.1)

  none_step : (k y : K) (b : Bool) (ys : List K) → E y k ≡ b → IsNone k ys → IsNone k (cond (not b) (y ∷ ys) ys)
  none_step k y true ys e h = h
  none_step k y false ys e h = (e, h)

  others_none : (k : K) (ks : List K) → IsNone k (filter (λ y. not (E y k)) ks)
  others_none k [] = tt
  others_none k (y ∷ ys) = none_step k y (E y k) (filter (λ z. not (E z k)) ys) refl (others_none k ys)

  firsts_apart : (ks : List K) → Apart (firsts E ks)
  firsts_apart [] = tt
  firsts_apart (k ∷ ks) = (others_none k (firsts E ks), apart_filtered (λ y. not (E y k)) (firsts E ks) (firsts_apart ks))

  firsts_same : (ks : List K) → Apart ks → firsts E ks ≡ ks
  firsts_same [] h = refl
  firsts_same (k ∷ ks) h =
      ap (λ (ys : List K). k ∷ filter (λ y. not (E y k)) ys) (firsts_same ks h.1)
      ∙ ap (λ (ys : List K). k ∷ ys) (all_kept (λ y. not (E y k)) ks (each ks h.0))
    where
      each : (ys : List K) → IsNone k ys → AllIn (λ y. not (E y k) ≡ true) ys
      each [] n = tt
      each (y ∷ ys) n = (false_not (E y k) n.0, each ys n.1)

  -- ---- terms of unknowns that stand once

  abbrev pub ApartTerms : List (K × ℤ) → Type 0
  ApartTerms ts = Apart (map (λ t. t.0) ts)

  none_left_step : (k y : K) (n : ℤ) (b : Bool) (ts : List (K × ℤ)) → E y k ≡ false → IsNone k (map (λ t. t.0) ts) →
      IsNone k (map (λ (t : K × ℤ). t.0) (cond b ((y, n) ∷ ts) ts))
  none_left_step k y n true ts e h = (e, h)
  none_left_step k y n false ts e h = h

  abbrev numbered : (K → ℤ) → List K → List (K × ℤ)
  numbered c ks = map (λ x. (x, c x)) ks

  none_left : (k : K) (c : K → ℤ) (test : K × ℤ → Bool) (ks : List K) → IsNone k ks →
      IsNone k (map (λ t. t.0) (filter test (numbered c ks)))
  none_left k c test [] h = tt
  none_left k c test (y ∷ ys) h = none_left_step k y (c y) (test (y, c y)) (filter test (numbered c ys)) h.0 (none_left k c test ys h.1)

  apart_left_step : (y : K) (n : ℤ) (b : Bool) (ts : List (K × ℤ)) → IsNone y (map (λ t. t.0) ts) → ApartTerms ts →
      ApartTerms (cond b ((y, n) ∷ ts) ts)
  apart_left_step y n true ts e h = (e, h)
  apart_left_step y n false ts e h = h

  apart_left : (c : K → ℤ) (test : K × ℤ → Bool) (ks : List K) → Apart ks → ApartTerms (filter test (numbered c ks))
  apart_left c test [] h = tt
  apart_left c test (y ∷ ys) h = apart_left_step y (c y) (test (y, c y)) (filter test (numbered c ys)) (none_left y c test ys h.0)
      (apart_left c test ys h.1)

  module _ (decides : (x y : K) → Decides (E x y) (x ≡ y)) where
    exchanged : (x y : K) (b : Bool) → E y x ≡ b → E x y ≡ false → b ≡ false
    exchanged x y true e h = absurd (let same = (decides x y).1 (sym ((decides y x).0 e)) in cc)
    exchanged x y false e h = refl

    -- a term of another unknown doesn't count
    passed_over : (x : K) (t : K × ℤ) (ts : List (K × ℤ)) → E t.0 x ≡ false → coefficient E (t ∷ ts) x ≡ coefficient E ts x
    passed_over x t ts h = ap (λ b. total (map (λ u. u.1) (cond b (t ∷ filter (λ u. E u.0 x) ts) (filter (λ u. E u.0 x) ts)))) h

    one_alone : (t : K × ℤ) (ts : List (K × ℤ)) → IsNone t.0 (map (λ u. u.0) ts) → coefficient E (t ∷ ts) t.0 ≡ t.1
    one_alone t ts h =
        ap (λ b. total (map (λ u. u.1) (cond b (t ∷ filter (λ u. E u.0 t.0) ts) (filter (λ u. E u.0 t.0) ts)))) ((decides t.0 t.0).1 refl)
        ∙ ap (λ (us : List (K × ℤ)). t.1 +ℤ total (map (λ u. u.1) us)) (none_kept (λ u. E u.0 t.0) ts (each ts h))
        ∙ omega (arith, ints)
      where
        each : (us : List (K × ℤ)) → IsNone t.0 (map (λ u. u.0) us) → AllIn (λ u. E u.0 t.0 ≡ false) us
        each [] n = tt
        each (u ∷ us) n = (n.0, each us n.1)

    same_for_others : (t : K × ℤ) (ts : List (K × ℤ)) (ks : List K) → IsNone t.0 ks →
        numbered (coefficient E (t ∷ ts)) ks ≡ numbered (coefficient E ts) ks
    same_for_others t ts [] h = refl
    same_for_others t ts (k ∷ ks) h =
        ap (λ z. (k, z) ∷ numbered (coefficient E (t ∷ ts)) ks) (passed_over k t ts (exchanged k t.0 (E t.0 k) refl h.0))
        ∙ ap (λ (us : List (K × ℤ)). (k, coefficient E ts k) ∷ us) (same_for_others t ts ks h.1)

    each_total : (ts : List (K × ℤ)) → ApartTerms ts → numbered (coefficient E ts) (map (λ t. t.0) ts) ≡ ts
    each_total [] h = refl
    each_total (t ∷ ts) h =
        ap (λ z. (t.0, z) ∷ numbered (coefficient E (t ∷ ts)) (map (λ u. u.0) ts)) (one_alone t ts h.0)
        ∙ ap (λ (us : List (K × ℤ)). t ∷ us) (same_for_others t ts (map (λ u. u.0) ts) h.0 ∙ each_total ts h.1)

    totals_same : (ts : List (K × ℤ)) → ApartTerms ts → totals E ts ≡ ts
    totals_same ts h = ap (λ (ks : List K). map (λ x. (x, coefficient E ts x)) ks) (firsts_same (map (λ t. t.0) ts) h) ∙ each_total ts h

    -- collecting again changes nothing
    pub collected_again : (parts : List (Part K)) → AreCollected E (collected E parts)
    collected_again parts =
        let terms = filter_map with_unknown parts in
        ap (filter is_left) (totals_same (collected E parts)
        (apart_left (coefficient E terms) is_left (firsts E (map (λ t. t.0) terms)) (firsts_apart (map (λ t. t.0) terms))))
        ∙ all_kept is_left (collected E parts) (filtered_pass is_left (totals E terms))

  -- ---- what holds of each unknown

  module _ (P : K → Type 0) where
    abbrev pub IsOf : Part K → Type 0
    IsOf p = IfSome p.of P

    with_step : (o : Option K) (n : ℤ) (parts : List (Part K)) → IfSome o P → AllIn P (map (λ t. t.0) (filter_map with_unknown parts)) →
        AllIn P (map (λ t. t.0) (filter_map with_unknown (record { of = o; number = n } ∷ parts)))
    with_step None n parts q h = h
    with_step (Some x) n parts q h = (q, h)

    with_each : (parts : List (Part K)) → AllIn IsOf parts → AllIn P (map (λ t. t.0) (filter_map with_unknown parts))
    with_each [] h = tt
    with_each (p ∷ parts) h = with_step p.of p.number parts h.0 (with_each parts h.1)

    firsts_each : (ks : List K) → AllIn P ks → AllIn P (firsts E ks)
    firsts_each [] h = tt
    firsts_each (k ∷ ks) h = (h.0, all_filtered P (λ y. not (E y k)) (firsts E ks) (firsts_each ks h.1))

    paired : (c : K → ℤ) (ks : List K) → AllIn P ks → AllIn (λ (t : K × ℤ). P t.0) (map (λ x. (x, c x)) ks)
    paired c [] h = tt
    paired c (k ∷ ks) h = (h.0, paired c ks h.1)

    pub collected_each : (parts : List (Part K)) → AllIn IsOf parts → AllIn (λ t. P t.0) (collected E parts)
    collected_each parts h =
        let terms = filter_map with_unknown parts in
        all_filtered (λ t. P t.0) is_left (totals E terms)
        (paired (coefficient E terms) (firsts E (map (λ t. t.0) terms)) (firsts_each (map (λ t. t.0) terms) (with_each parts h)))
