-- The values of own variables by the components of targets.
use Rattle.std.proofs.Common.{◌≡◌, ℕ, zero, suc, ◌+◌, ◌<◌, ◌≤◌, Bool, true, false, List, [], ◌∷◌, ◌++◌, length, map, refl, ap, sym, ◌∙◌}
use Rattle.std.proofs.Common.{arith, Option, Some, None, if◌then◌else◌, append_assoc, append-nil}
use Rattle.std.specs.Prelude.{◌||◌, slice_get, nat_le}
use Rattle.std.specs.List.{fold}
use Rattle.std.proofs.lemmas.Bool.{leb-true, leb-false}
use Rattle.std.proofs.lemmas.List.{length-append}
use Rattle.std.proofs.lemmas.Option.{slice_get_past}
use Rattle.acc_base.specs.declared.forms.Lin.{Lin}
use Rattle.acc_base.specs.Items.{numbers_from}
use Rattle.acc_instanced.specs.Instances.{zero_lin}
use Rattle.acc_prover_choices.specs.declared.targets.Target.{Target}
use Rattle.acc_prover_choices.specs.declared.patterns.Pattern.{Pattern}
use Rattle.acc_prover_choices.specs.Choices.{Pick, is_there, place_or, place_at, is_had, new_place, news_of, value_by, value_in, values_in}
use Rattle.acc_prover_choices.specs.Walks.{with_value, values_by}

-- ---- items by number

pub numbers_long : (first n : ℕ) → length (numbers_from first n) ≡ n
numbers_long first zero = refl
numbers_long first (suc n) = ap suc (numbers_long (first + 1) n)

at_number : {X : Type 0} (f : ℕ → X) (first n i : ℕ) → i < n → slice_get (map f (numbers_from first n)) i ≡ Some (f (first + i))
at_number f first zero i within = absurd (omega arith)
at_number f first (suc n) zero within = let e : first ≡ first + 0 = omega arith in ap (λ (x : ℕ). Some (f x)) e
at_number f first (suc n) (suc i) within =
    let e : (first + 1) + i ≡ first + suc i = omega arith in
    at_number f (first + 1) n i (omega arith) ∙ ap (λ (x : ℕ). Some (f x)) e

past_numbers : {X : Type 0} (f : ℕ → X) (first n i : ℕ) → n ≤ i → slice_get (map f (numbers_from first n)) i ≡ None
past_numbers f first zero i past = refl
past_numbers f first (suc n) zero past = absurd (omega arith)
past_numbers f first (suc n) (suc i) past = past_numbers f (first + 1) n i (omega arith)

-- the places of variables that none taken before has
pub at_news : (taken : List Pattern) (places : List (Option ℕ)) (i : ℕ)
    → place_at (news_of taken places) i ≡ (if is_had taken i then None else place_at places i)
at_news taken places i = by (nat_le (length places) i) refl
  where
    nowhere : Option ℕ
    nowhere = None

    none : (b : Bool) → None ≡ (if b then None else nowhere)
    none true = refl
    none false = refl

    by : (b : Bool) → nat_le (length places) i ≡ b
        → place_at (news_of taken places) i ≡ (if is_had taken i then None else place_at places i)
    by true e =
        let past : length places ≤ i = leb-true (length places) i e in
        ap place_or (past_numbers (new_place taken places) 0 (length places) i past)
        ∙ (none (is_had taken i)
        ∙ ap (λ (o : Option (Option ℕ)). if is_had taken i then None else place_or o) (sym (slice_get_past places i past)))
    by false e =
        let here : 0 + i ≡ i = omega arith in
        ap place_or (at_number (new_place taken places) 0 (length places) i (leb-false (length places) i e))
        ∙ ap (new_place taken places) here

-- ---- values so far with a target's components

module _ (key : List Lin) (news : List (Option ℕ)) (f : ℕ → Lin) where
  abbrev value : ℕ → Lin
  value i = value_by key (place_at news i) (f i)

  values_from : (n m : ℕ) (values : List Lin) → length values ≡ m
      → fold (with_value key news) values (map f (numbers_from m n)) ≡ values ++ map value (numbers_from m n)
  values_from zero m values e = sym (append-nil values)
  values_from (suc n) m values e =
      let longer : length (values ++ value_by key (place_at news (length values)) (f m) ∷ []) ≡ length values + 1 = length-append values
      (value_by key (place_at news (length values)) (f m) ∷ []) in
      values_from n (m + 1) (values ++ value_by key (place_at news (length values)) (f m) ∷ []) (omega (arith, longer, e))
      ∙ (append_assoc values (value_by key (place_at news (length values)) (f m) ∷ []) (map value (numbers_from (m + 1) n)) ∙ ap (λ (k : ℕ). values ++ value_by key (place_at news k) (f m) ∷ map value (numbers_from (m + 1) n)) e)

  pub values_by_is : (n : ℕ) → values_by key news (map f (numbers_from 0 n)) ≡ map value (numbers_from 0 n)
  values_by_is n = values_from n 0 [] refl

-- ---- the values of a choice

abbrev pub heads : List Pick → List Pattern
heads c = map (λ p. p.0) c

value_last : (c : List Pick) (p : Pattern) (t : Target) (i : ℕ)
    → value_in (c ++ (p, t) ∷ []) i ≡ (if is_had (heads c) i then value_in c i else value_by t.key (place_at p.places i) zero_lin)
value_last [] p t i = refl
value_last (x ∷ c) p t i = by (place_at x.0.places i) (value_last c p t i)
  where
    by : (o : Option ℕ)
        → value_in (c ++ (p, t) ∷ []) i ≡ (if is_had (heads c) i then value_in c i else value_by t.key (place_at p.places i) zero_lin)
        → value_by x.1.key o (value_in (c ++ (p, t) ∷ []) i)
        ≡ (if is_there o || is_had (heads c) i then value_by x.1.key o (value_in c i) else value_by t.key (place_at p.places i) zero_lin)
    by None rest = rest
    by (Some k) rest = refl

not_had : (c : List Pick) (i : ℕ) → is_had (heads c) i ≡ false → value_in c i ≡ zero_lin
not_had [] i e = refl
not_had (x ∷ c) i e = by (place_at x.0.places i) e (λ h. not_had c i h)
  where
    by : (o : Option ℕ) → (is_there o || is_had (heads c) i) ≡ false → (is_had (heads c) i ≡ false → value_in c i ≡ zero_lin)
        → value_by x.1.key o (value_in c i) ≡ zero_lin
    by None e rest = rest e
    by (Some k) e rest = absurd (cc)

module _ (n : ℕ) (c : List Pick) (p : Pattern) (t : Target) where
  -- the values so far, and one more target: only what no pattern before has is new
  pub one_more_target : values_by t.key (news_of (heads c) p.places) (values_in n c) ≡ values_in n (c ++ (p, t) ∷ [])
  one_more_target =
      values_by_is t.key (news_of (heads c) p.places) (value_in c) n
      ∙ (λ i. map (λ k. at k i) (numbers_from 0 n))
    where
      by : (k : ℕ) (b : Bool) → is_had (heads c) k ≡ b
          → value_by t.key (if b then None else place_at p.places k) (value_in c k)
          ≡ (if b then value_in c k else value_by t.key (place_at p.places k) zero_lin)
      by k true e = refl
      by k false e = ap (value_by t.key (place_at p.places k)) (not_had c k e)

      at : (k : ℕ) → value_by t.key (place_at (news_of (heads c) p.places) k) (value_in c k) ≡ value_in (c ++ (p, t) ∷ []) k
      at k =
          ap (λ o. value_by t.key o (value_in c k)) (at_news (heads c) p.places k)
          ∙ (by k (is_had (heads c) k) refl ∙ sym (value_last c p t k))

  -- one target alone
  pub one_target : values_by t.key p.places (values_in n []) ≡ values_in n ((p, t) ∷ [])
  one_target = values_by_is t.key p.places (value_in []) n

-- ---- back to the values so far

-- the values of variables that taken patterns have
abbrev pub kept_from : List Pattern → ℕ → List Lin → List Lin
kept_from taken m [] = []
kept_from taken m (l ∷ ls) = (if is_had taken m then l else zero_lin) ∷ kept_from taken (m + 1) ls

kept_is : (taken : List Pattern) (f : ℕ → Lin) (n m : ℕ)
    → kept_from taken m (map f (numbers_from m n)) ≡ map (λ i. if is_had taken i then f i else zero_lin) (numbers_from m n)
kept_is taken f zero m = refl
kept_is taken f (suc n) m =
    ap (λ ls. (if is_had taken m then f m else zero_lin) ∷ ls) (kept_is taken f n (m + 1))

pub kept_values : (n : ℕ) (c : List Pick) (p : Pattern) (t : Target)
    → kept_from (heads c) 0 (values_in n (c ++ (p, t) ∷ [])) ≡ values_in n c
kept_values n c p t =
    kept_is (heads c) (value_in (c ++ (p, t) ∷ [])) n 0 ∙ (λ i. map (λ k. at k i) (numbers_from 0 n))
  where
    by : (k : ℕ) (b : Bool) → is_had (heads c) k ≡ b
        → (if b then (if b then value_in c k else value_by t.key (place_at p.places k) zero_lin) else zero_lin) ≡ value_in c k
    by k true e = refl
    by k false e = sym (not_had c k e)

    at : (k : ℕ) → (if is_had (heads c) k then value_in (c ++ (p, t) ∷ []) k else zero_lin) ≡ value_in c k
    at k =
        ap (λ l. if is_had (heads c) k then l else zero_lin) (value_last c p t k) ∙ by k (is_had (heads c) k) refl
