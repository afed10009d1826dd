-- The components behind a prefix: how many rows have one, and the least and the greatest.
use Rattle.std.proofs.Common.{◌≡◌, ◌⊎◌, inl, inr, cond, ℕ, suc, ◌+◌, ◌≤◌, Bool, true, false, List, [], ◌∷◌, ◌++◌, length, refl, ap, sym}
use Rattle.std.proofs.Common.{◌∙◌, subst, arith, Option, Some, None, ℤ, pos, ◌<ℤ◌, ◌==◌}
use Rattle.std.specs.Prelude.{slice_get, filter, count_by, ◌&&◌, int_lt}
use Rattle.std.proofs.lemmas.List.Sums.{sum_by-cons}
use Rattle.std.specs.List.{starts_with, AllByRecursion}
use Rattle.std.specs.Int.{int_min, int_max}
use Rattle.std.specs.Ordering.{int_eq}
use Rattle.std.proofs.lemmas.Int.{ints, int_min_is, int_max_is}
use Rattle.std.proofs.lemmas.Bool.{false≢true}
use Rattle.std.proofs.lemmas.Bool.Decides.{Decides-int_eq}
use Rattle.acc_base.specs.declared.tables.Row.{Row}
use Rattle.acc_base.specs.Tables.{is_under, with_part, parts_at, best}

abbrev pub part_is : ℤ → Option ℤ → Bool
part_is c None = false
part_is c (Some y) = int_eq c y

and_true : (b : Bool) → (b && true) ≡ b
and_true true = refl
and_true false = refl

and_assoc : (a b c : Bool) → (a && (b && c)) ≡ ((a && b) && c)
and_assoc true b c = refl
and_assoc false b c = refl

-- a longer prefix
longer :
    (p key : List ℤ) (c : ℤ) → starts_with int_eq key (p ++ c ∷ []) ≡ (starts_with int_eq key p && part_is c (slice_get key (length p)))
longer [] [] c = refl
longer [] (y ∷ ys) c = and_true (int_eq c y)
longer (q ∷ p) [] c = refl
longer (q ∷ p) (y ∷ ys) c =
    ap (λ b. int_eq q y && b) (longer p ys c) ∙ and_assoc (int_eq q y) (starts_with int_eq ys p) (part_is c (slice_get ys (length p)))

under_longer :
    (t : ℕ) (p : List ℤ) (c : ℤ) (r : Row) → is_under t (p ++ c ∷ []) r ≡ (is_under t p r && part_is c (slice_get r.key.parts (length p)))
under_longer t p c r =
    ap (λ b. (r.table == t) && b) (longer p r.key.parts c)
    ∙ and_assoc (r.table == t) (starts_with int_eq r.key.parts p) (part_is c (slice_get r.key.parts (length p)))

-- how many pass, one after the other
abbrev pub passing : {X : Type 0} → (X → Bool) → List X → ℕ
passing test [] = 0
passing test (x ∷ xs) = cond (test x) (suc (passing test xs)) (passing test xs)

pub passing_is : {X : Type 0} (test : X → Bool) (xs : List X) → count_by test xs ≡ passing test xs
passing_is test [] = refl
passing_is test (x ∷ xs) = sum_by-cons (λ y. cond (test y) 1 0) x xs ∙ by (test x) (passing_is test xs)
  where
    by : (b : Bool) → count_by test xs ≡ passing test xs → cond b 1 0 + count_by test xs ≡ cond b (suc (passing test xs)) (passing test xs)
    by true ih = omega (arith, ih)
    by false ih = omega (arith, ih)

module _ (t : ℕ) (p : List ℤ) where
  abbrev pub parts : List Row → List ℤ
  parts db = parts_at (length p) (filter (is_under t p) db)

  -- so many rows have a component as it stands among the components
  pub rows_with : (c : ℤ) (db : List Row) → passing (is_under t (p ++ c ∷ [])) db ≡ passing (int_eq c) (parts db)
  rows_with c [] = refl
  rows_with c (r ∷ db) =
      ap (λ b. cond b (suc (passing (is_under t (p ++ c ∷ [])) db)) (passing (is_under t (p ++ c ∷ [])) db)) (under_longer t p c r)
      ∙ by (is_under t p r) (slice_get r.key.parts (length p)) refl (rows_with c db)
    where
      by :
          (b : Bool) (o : Option ℤ) → slice_get r.key.parts (length p) ≡ o
          → passing (is_under t (p ++ c ∷ [])) db ≡ passing (int_eq c) (parts db)
          → (cond (b && part_is c o) (suc (passing (is_under t (p ++ c ∷ [])) db)) (passing (is_under t (p ++ c ∷ [])) db)) ≡ passing
          (int_eq c) (parts_at (length p) (cond b (r ∷ filter (is_under t p) db) (filter (is_under t p) db)))
      by false o e ih = ih
      by true None e ih = ih ∙ ap (λ z. passing (int_eq c) (with_part z (parts db))) (sym e)
      by true (Some y) e ih = ap (λ n. cond (int_eq c y) (suc n) n) ih ∙ ap (λ z. passing (int_eq c) (with_part z (parts db))) (sym e)

  -- a row below the prefix has a component behind it
  abbrev pub HasPart : Row → Type 0
  HasPart r = is_under t p r ≡ true → (y : ℤ) × (slice_get r.key.parts (length p) ≡ Some y)

  pub rows_below : (db : List Row) → AllByRecursion HasPart db → passing (is_under t p) db ≡ length (parts db)
  rows_below [] h = refl
  rows_below (r ∷ db) h = by (is_under t p r) h.0 (rows_below db h.1)
    where
      by :
          (b : Bool) → (b ≡ true → (y : ℤ) × (slice_get r.key.parts (length p) ≡ Some y)) → passing (is_under t p) db ≡ length (parts db)
          → cond b (suc (passing (is_under t p) db)) (passing (is_under t p) db) ≡ length
          (parts_at (length p) (cond b (r ∷ filter (is_under t p) db) (filter (is_under t p) db)))
      by false g ih = ih
      by true g ih = let y = g refl in ap suc ih ∙ ap (λ z. length (with_part z (parts db))) (sym y.1)

-- ---- the best of a list

pub none_best : (pick : ℤ → ℤ → ℤ) (xs : List ℤ) → length xs ≡ 0 → best pick xs ≡ pos 0
none_best pick [] h = refl
none_best pick (x ∷ xs) h = absurd (omega arith)

same_counts : (x : ℤ) → int_eq x x ≡ true
same_counts x = (Decides-int_eq x x).1 refl

module _ (pick : ℤ → ℤ → ℤ) (one_of : (x y : ℤ) → (pick x y ≡ x) ⊎ (pick x y ≡ y)) where
  pub best_counts : (xs : List ℤ) → 1 ≤ length xs → 1 ≤ passing (int_eq (best pick xs)) xs
  best_counts [] h = absurd (omega arith)
  best_counts (x ∷ []) h = subst (λ b. 1 ≤ cond b 1 0) (sym (same_counts x)) (omega arith)
  best_counts (x ∷ y ∷ rest) h = by (one_of x (best pick (y ∷ rest))) (best_counts (y ∷ rest) (omega arith))
    where
      more : (b : Bool) (n : ℕ) → 1 ≤ n → 1 ≤ cond b (suc n) n
      more true n g = omega arith
      more false n g = g

      first : (b : Bool) (n : ℕ) → b ≡ true → 1 ≤ cond b (suc n) n
      first true n g = omega arith
      first false n g = absurd (false≢true g)

      by :
          (pick x (best pick (y ∷ rest)) ≡ x) ⊎ (pick x (best pick (y ∷ rest)) ≡ best pick (y ∷ rest))
          → 1 ≤ passing (int_eq (best pick (y ∷ rest))) (y ∷ rest) → 1 ≤ passing (int_eq (pick x (best pick (y ∷ rest)))) (x ∷ y ∷ rest)
      by (inl e) ih =
          subst (λ z. 1 ≤ passing (int_eq z) (x ∷ y ∷ rest)) (sym e) (first (int_eq x x) (passing (int_eq x) (y ∷ rest)) (same_counts x))
      by (inr e) ih =
          subst (λ z. 1 ≤ passing (int_eq z) (x ∷ y ∷ rest)) (sym e)
          (more (int_eq (best pick (y ∷ rest)) x) (passing (int_eq (best pick (y ∷ rest))) (y ∷ rest)) ih)

-- what is worse than none of a list isn't in it
module _ (Worse : ℤ → ℤ → Type 0) (apart : (x y : ℤ) → Worse x y → x ≡ y → ⊥) where
  none_counts : (k x : ℤ) → Worse k x → int_eq k x ≡ false
  none_counts k x w = by (int_eq k x) refl
    where
      by : (b : Bool) → int_eq k x ≡ b → b ≡ false
      by true e = absurd (apart k x w ((Decides-int_eq k x).0 e))
      by false e = refl

  module _ (pick : ℤ → ℤ → ℤ) (worst : (k x y : ℤ) → Worse k (pick x y) → (Worse k x) × (Worse k y)) where
    pub beyond_best : (k : ℤ) (xs : List ℤ) → Worse k (best pick xs) → passing (int_eq k) xs ≡ 0
    beyond_best k [] w = refl
    beyond_best k (x ∷ []) w = ap (λ b. cond b 1 0) (none_counts k x w)
    beyond_best k (x ∷ y ∷ rest) w =
        let g = worst k x (best pick (y ∷ rest)) w in
        ap (λ b. cond b (suc (passing (int_eq k) (y ∷ rest))) (passing (int_eq k) (y ∷ rest))) (none_counts k x g.0)
        ∙ beyond_best k (y ∷ rest) g.1

-- ---- the least and the greatest

pub min_one_of : (x y : ℤ) → (int_min x y ≡ x) ⊎ (int_min x y ≡ y)
min_one_of x y = by (int_lt y x)
  where
    by : (b : Bool) → (cond b y x ≡ x) ⊎ (cond b y x ≡ y)
    by true = inr refl
    by false = inl refl

pub max_one_of : (x y : ℤ) → (int_max x y ≡ x) ⊎ (int_max x y ≡ y)
max_one_of x y = by (int_lt y x)
  where
    by : (b : Bool) → (cond b x y ≡ x) ⊎ (cond b x y ≡ y)
    by true = inl refl
    by false = inr refl

pub min_worst : (k x y : ℤ) → k <ℤ int_min x y → (k <ℤ x) × (k <ℤ y)
min_worst k x y h = let m = int_min_is x y in (omega (arith, ints, m, h), omega (arith, ints, m, h))

pub max_worst : (k x y : ℤ) → int_max x y <ℤ k → (x <ℤ k) × (y <ℤ k)
max_worst k x y h = let m = int_max_is x y in (omega (arith, ints, m, h), omega (arith, ints, m, h))
