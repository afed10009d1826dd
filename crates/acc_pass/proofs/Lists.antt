-- Beginnings of one list, places in `mine`, and sums over all views.
use Rattle.std.proofs.Common.{◌≡◌, ◌≢◌, ◌⊎◌, ℕ, zero, suc, ◌+◌, ◌<◌, ◌≤◌, ◌==◌, cond, ltb, List, [], ◌∷◌, ◌++◌, length, take, set, Some}
use Rattle.std.proofs.Common.{true, false, refl, sym, ap, ◌∙◌, inl, inr, ⊎_elim, arith, append_assoc, append-nil, length-append}
use Rattle.std.specs.Prelude.{slice_get}
use Rattle.std.proofs.lemmas.Bool.Decides.{nat_tests}
use Rattle.std.specs.List.{Contains, sum_by}
use Rattle.std.proofs.lemmas.List.Sums.{sum_by-cons, sum_by-append, sum_by_push}
use Rattle.std.proofs.lemmas.List.Elements.{Contains-append_right, Contains-push_cases}
use mathlib.Core.Option.{some, some-injective, some-ne-none}
use mathlib.Core.List.{IsPrefix}
use lib.ListN.{get_elem?}
use Rattle.acc_base.specs.declared.machines.Event.{Event}
use Rattle.acc_pass.specs.Histories.{longer, times}

module _ {A : Type 0} where
  pub prefix_self : (xs : List A) → IsPrefix xs xs
  prefix_self xs = ([], append-nil xs)

  pub prefix_trans : (xs ys zs : List A) → IsPrefix xs ys → IsPrefix ys zs → IsPrefix xs zs
  prefix_trans xs ys zs p q = (p.0 ++ q.0, sym (append_assoc xs p.0 q.0) ∙ (ap (λ w. w ++ q.0) p.1 ∙ q.1))

  -- of two beginnings of one list the shorter begins the longer
  pub prefix_shorter : (xs ys zs : List A) → IsPrefix xs zs → IsPrefix ys zs → length xs ≤ length ys → IsPrefix xs ys
  prefix_shorter [] ys zs p q le = (ys, refl)
  prefix_shorter (x ∷ xs) [] zs p q le = absurd (omega arith)
  prefix_shorter (x ∷ xs) (y ∷ ys) [] p q le = absurd (cc (p.1))
  prefix_shorter (x ∷ xs) (y ∷ ys) (z ∷ zs) p q le =
      let heads : x ≡ y = cc (p.1, q.1) in
      let rest = prefix_shorter xs ys zs (p.0, cc (p.1)) (q.0, cc (q.1)) (omega arith) in
      (rest.0, cc (heads, rest.1))

  -- a beginning as long as the whole is the whole
  pub prefix_whole : (xs ys : List A) → IsPrefix xs ys → length ys ≤ length xs → xs ≡ ys
  prefix_whole [] [] p le = refl
  prefix_whole [] (y ∷ ys) p le = absurd (omega arith)
  prefix_whole (x ∷ xs) [] p le = absurd (cc (p.1))
  prefix_whole (x ∷ xs) (y ∷ ys) p le = let rest = prefix_whole xs ys (p.0, cc (p.1)) (omega arith) in cc (p.1, rest)

  pub prefix_length : (xs ys : List A) → IsPrefix xs ys → length xs ≤ length ys
  prefix_length xs ys p = omega (arith, sym (ap length p.1) ∙ length-append xs p.0)

  -- what stands in a beginning stands in the whole, at the same place
  pub prefix_get : (xs ys : List A) (k : ℕ) (x : A) → IsPrefix xs ys → slice_get xs k ≡ Some x → slice_get ys k ≡ Some x
  prefix_get [] ys k x p h = absurd cc
  prefix_get (y ∷ xs) [] k x p h = absurd (cc (p.1))
  prefix_get (y ∷ xs) (z ∷ ys) zero x p h = cc (p.1, h)
  prefix_get (y ∷ xs) (z ∷ ys) (suc k) x p h = prefix_get xs ys k x (p.0, cc (p.1)) h

  -- what comes before a place of the beginning
  pub prefix_take : (xs ys : List A) (k : ℕ) (x : A) → IsPrefix xs ys → slice_get xs k ≡ Some x → take k ys ≡ take k xs
  prefix_take [] ys k x p h = absurd cc
  prefix_take (y ∷ xs) [] k x p h = absurd (cc (p.1))
  prefix_take (y ∷ xs) (z ∷ ys) zero x p h = refl
  prefix_take (y ∷ xs) (z ∷ ys) (suc k) x p h =
      let heads : z ≡ y = cc (p.1) in
      let rest = prefix_take xs ys k x (p.0, cc (p.1)) h in cc (heads, rest)

  pub prefix_snoc : (xs : List A) (x : A) → IsPrefix xs (xs ++ x ∷ [])
  prefix_snoc xs x = (x ∷ [], refl)

  pub get_behind : (xs ys : List A) (j : ℕ) → slice_get (xs ++ ys) (length xs + j) ≡ slice_get ys j
  get_behind [] ys j = let e : 0 + j ≡ j = omega arith in ap (λ (k : ℕ). slice_get ys k) e
  get_behind (x ∷ xs) ys j =
      let e : suc (length xs) + j ≡ suc (length xs + j) = omega arith in
      ap (λ (k : ℕ). slice_get (x ∷ (xs ++ ys)) k) e ∙ get_behind xs ys j

  pub get_last : (xs : List A) (x : A) → slice_get (xs ++ x ∷ []) (length xs) ≡ Some x
  get_last [] x = refl
  get_last (y ∷ xs) x = get_last xs x

  pub get_snoc : (xs : List A) (x y : A) (k : ℕ) → slice_get (xs ++ x ∷ []) k ≡ Some y
      → (slice_get xs k ≡ Some y) ⊎ ((k ≡ length xs) × (x ≡ y))
  get_snoc [] x y zero h = inr (refl, cc)
  get_snoc [] x y (suc k) h = absurd cc
  get_snoc (z ∷ xs) x y zero h = inl h
  get_snoc (z ∷ xs) x y (suc k) h = ⊎_elim (λ a. inl a) (λ b. inr (ap suc b.0, b.1)) (get_snoc xs x y k h)

  -- the longer of two beginnings of one list
  pub longer_first : (xs ys : List A) → length ys ≤ length xs → longer xs ys ≡ xs
  longer_first xs ys le = let no : ltb (length xs) (length ys) ≡ false = grind (arith, nat_tests) in rw no refl

  pub longer_second : (xs ys : List A) → length xs < length ys → longer xs ys ≡ ys
  longer_second xs ys lt = let yes : ltb (length xs) (length ys) ≡ true = grind (arith, nat_tests) in rw yes refl

  cases : (xs ys : List A) → (length ys ≤ length xs) ⊎ (length xs < length ys)
  cases xs ys = elim (native.Mathlib.Decide.dec_le (length ys) (length xs)) [ yes p ↦ inl p | no n ↦ inr (omega arith) ]

  pub longer_left : (xs ys zs : List A) → IsPrefix xs zs → IsPrefix ys zs → IsPrefix xs (longer xs ys)
  longer_left xs ys zs p q =
      ⊎_elim
      (λ (le : length ys ≤ length xs). rw (longer_first xs ys le) (prefix_self xs))
      (λ (lt : length xs < length ys). rw (longer_second xs ys lt) (prefix_shorter xs ys zs p q (omega arith)))
      (cases xs ys)

  pub longer_right : (xs ys zs : List A) → IsPrefix xs zs → IsPrefix ys zs → IsPrefix ys (longer xs ys)
  longer_right xs ys zs p q =
      ⊎_elim
      (λ (le : length ys ≤ length xs). rw (longer_first xs ys le) (prefix_shorter ys xs zs q p le))
      (λ (lt : length xs < length ys). rw (longer_second xs ys lt) (prefix_self ys))
      (cases xs ys)

  pub longer_within : (xs ys zs : List A) → IsPrefix xs zs → IsPrefix ys zs → IsPrefix (longer xs ys) zs
  longer_within xs ys zs p q =
      ⊎_elim
      (λ (le : length ys ≤ length xs). rw (longer_first xs ys le) p)
      (λ (lt : length xs < length ys). rw (longer_second xs ys lt) q)
      (cases xs ys)

  -- where one of the two is the whole, the longer is
  pub longer_whole : (xs ys zs : List A) → IsPrefix xs zs → IsPrefix ys zs → (xs ≡ zs) ⊎ (ys ≡ zs) → longer xs ys ≡ zs
  longer_whole xs ys zs p q one =
      let in_it = longer_within xs ys zs p q in
      let l = prefix_length _ _ (longer_left xs ys zs p q) in
      let r = prefix_length _ _ (longer_right xs ys zs p q) in
      prefix_whole _ _ in_it
      (⊎_elim (λ (e : xs ≡ zs). let n = ap length e in omega arith) (λ (e : ys ≡ zs). let n = ap length e in omega arith) one)

  pub in_none : (x : A) → Contains [] x → ⊥
  in_none x h = let lt = h.1 in absurd (omega (arith, lt))

  pub in_one : (y x : A) → Contains (y ∷ []) x → y ≡ x
  in_one y x h = ⊎_elim (λ n. absurd (in_none x n)) (λ e. e) (Contains-push_cases [] y x h)

  in_cons : (y x : A) (ys : List A) → Contains (y ∷ ys) x → (y ≡ x) ⊎ Contains ys x
  in_cons y x ys (zero, lt, e) = inl e
  in_cons y x ys (suc k, lt, e) = inr (k, omega (arith, lt), e)

  -- views
  pub at_snoc_here : (l : List A) (a b : A) (j : ℕ) → get_elem? (l ++ a ∷ []) j ≡ some b
      → (get_elem? l j ≡ some b) ⊎ ((j ≡ length l) × (a ≡ b))
  at_snoc_here [] a b zero e = inr (refl, some-injective a b e)
  at_snoc_here [] a b (suc j) e = absurd (some-ne-none b (sym e))
  at_snoc_here (x ∷ xs) a b zero e = inl e
  at_snoc_here (x ∷ xs) a b (suc j) e = ⊎_elim (λ t. inl t) (λ t. inr (ap suc t.0, t.1)) (at_snoc_here xs a b j e)

  pub at_within : (l : List A) (j : ℕ) (a : A) → get_elem? l j ≡ some a → j < length l
  at_within [] j a e = absurd (some-ne-none a (sym e))
  at_within (x ∷ xs) zero a e = omega arith
  at_within (x ∷ xs) (suc j) a e = let r = at_within xs j a e in omega arith

  pub sum_set : (f : A → ℕ) (l : List A) (i : ℕ) (a b : A) → get_elem? l i ≡ some a → sum_by f (set l i b) + f a ≡ sum_by f l + f b
  sum_set f [] i a b e = absurd (some-ne-none a (sym e))
  sum_set f (x ∷ xs) zero a b e =
      let s : f x ≡ f a = ap f (some-injective x a e) in
      let p = sum_by-cons f x xs in
      let q = sum_by-cons f b xs in omega arith
  sum_set f (x ∷ xs) (suc i) a b e =
      let r = sum_set f xs i a b e in
      let p = sum_by-cons f x xs in
      let q = sum_by-cons f x (set xs i b) in omega arith

  pub sum_one : (f : A → ℕ) (l : List A) (i : ℕ) (a : A) → get_elem? l i ≡ some a → f a ≤ sum_by f l
  sum_one f [] i a e = absurd (some-ne-none a (sym e))
  sum_one f (x ∷ xs) zero a e = let s : f x ≡ f a = ap f (some-injective x a e) in let p = sum_by-cons f x xs in omega arith
  sum_one f (x ∷ xs) (suc i) a e = let r = sum_one f xs i a e in let p = sum_by-cons f x xs in omega arith

  pub sum_two :
      (f : A → ℕ) (l : List A) (i j : ℕ) (a b : A) → i ≢ j → get_elem? l i ≡ some a → get_elem? l j ≡ some b → f a + f b ≤ sum_by f l
  sum_two f [] i j a b n e d = absurd (some-ne-none a (sym e))
  sum_two f (x ∷ xs) zero zero a b n e d = absurd (n refl)
  sum_two f (x ∷ xs) zero (suc j) a b n e d =
      let s : f x ≡ f a = ap f (some-injective x a e) in
      let r = sum_one f xs j b d in
      let p = sum_by-cons f x xs in omega arith
  sum_two f (x ∷ xs) (suc i) zero a b n e d =
      let s : f x ≡ f b = ap f (some-injective x b d) in
      let r = sum_one f xs i a e in
      let p = sum_by-cons f x xs in omega arith
  sum_two f (x ∷ xs) (suc i) (suc j) a b n e d =
      let r = sum_two f xs i j a b (λ h. n (ap suc h)) e d in
      let p = sum_by-cons f x xs in omega arith

  pub sum_none : (f : A → ℕ) (l : List A) → ((i : ℕ) (a : A) → get_elem? l i ≡ some a → f a ≡ 0) → sum_by f l ≡ 0
  sum_none f [] h = refl
  sum_none f (x ∷ xs) h =
      let here = h 0 x refl in
      let r = sum_none f xs (λ i a e. h (suc i) a e) in
      let p = sum_by-cons f x xs in omega arith

-- places
abbrev is_at : ℕ → ℕ × Event → ℕ
is_at k x = cond (k == x.0) 1 0

at_same : (k : ℕ) (e : Event) → is_at k (k, e) ≡ 1
at_same k e = let t : (k == k) ≡ true = grind (arith, nat_tests) in rw t refl

at_else : (k n : ℕ) (e : Event) → k ≢ n → is_at k (n, e) ≡ 0
at_else k n e h = let t : (k == n) ≡ false = grind (arith, nat_tests) in rw t refl

pub times-append : (k : ℕ) (xs ys : List (ℕ × Event)) → times k (xs ++ ys) ≡ times k xs + times k ys
times-append k xs ys = sum_by-append (is_at k) xs ys

-- an entry more
pub times_same : (k : ℕ) (xs : List (ℕ × Event)) (e : Event) → times k (xs ++ (k, e) ∷ []) ≡ times k xs + 1
times_same k xs e = sum_by_push (is_at k) xs (k, e) ∙ ap (λ (n : ℕ). times k xs + n) (at_same k e)

pub times_else : (k n : ℕ) (xs : List (ℕ × Event)) (e : Event) → k ≢ n → times k (xs ++ (n, e) ∷ []) ≡ times k xs
times_else k n xs e h = let o = at_else k n e h in sum_by_push (is_at k) xs (n, e) ∙ omega arith

pub in_times : (k : ℕ) (e : Event) (xs : List (ℕ × Event)) → Contains xs (k, e) → 1 ≤ times k xs
in_times k e [] h = absurd (in_none (k, e) h)
in_times k e (x ∷ xs) h =
    let p = sum_by-cons (is_at k) x xs in
    ⊎_elim
    (λ (a : x ≡ (k, e)). let o : is_at k x ≡ 1 = ap (is_at k) a ∙ at_same k e in omega arith)
    (λ (b : Contains xs (k, e)). let r = in_times k e xs b in omega arith)
    (in_cons x (k, e) xs h)

pub times_none : (n : ℕ) (xs : List (ℕ × Event)) → ((k : ℕ) (e : Event) → Contains xs (k, e) → k < n) → times n xs ≡ 0
times_none n [] h = refl
times_none n (x ∷ xs) h =
    let here : x.0 < n = h x.0 x.1 (0, omega arith, refl) in
    let o = at_else n x.0 x.1 (λ e. absurd (omega arith)) in
    let p = sum_by-cons (is_at n) x xs in
    let r = times_none n xs (λ k e i. h k e (Contains-append_right (x ∷ []) xs (k, e) i)) in omega arith
