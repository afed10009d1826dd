-- What holds of each number of mixed lists.
use Rattle.std.proofs.Common.{◌≡◌, ◌≤◌, ℕ, Bool, true, false, [], ◌∷◌, Ok, Err, refl, sym, subst, arith, ℤ, pos, ◌+ℤ◌, ◌*ℤ◌, nat_lt}
use Rattle.std.proofs.Common.{if◌then◌else◌}
use Rattle.std.specs.Prelude.{All, unsigned_abs}
use Rattle.std.specs.Ordering.{int_eq}
use Rattle.std.proofs.lemmas.Bool.Decides.{nat_tests}
use Rattle.std.proofs.lemmas.List.Elements.{All-nil, All-head, All-tail, All-cons}
use Rattle.acc_base.specs.declared.bounds.TheConstants.{LARGEST_SUM}
use Rattle.acc_base.specs.Bounded.{IsBounded, is_wide}
use Rattle.acc_base.specs.Computing.{chain}
use Rattle.acc_rows.specs.declared.stops.Stop.TheVariants.{Wide}
use Rattle.acc_rows.specs.Answers.{Computation}
use Rattle.acc_rows.specs.Numbers.{kept, product, sum}
use Rattle.acc_rows.specs.Sparse.{Sparse, put, put_left, scaled, mixture, mixed_after, mixed}
use Rattle.acc_rows.proofs.Worths.{Gives, gives_chain, gives_weaker, kept_gives, mixture_gives}

abbrev pub Entry : Type 0
Entry = ℕ × ℤ

module _ (C : Entry → Type 0) where
  put_all : (u : ℕ) (number : Computation ℤ) (others : Computation Sparse) → Gives number (λ n. C (u, n)) → Gives others (All C)
      → Gives (put u number others) (All C)
  put_all u number others h g =
      gives_chain number _ (λ n. C (u, n)) (All C) h
      (λ n c. gives_chain others _ (All C) (All C) g (λ rest all. All-cons C (u, n) rest c all))

  left_by : (u : ℕ) (n : ℤ) (rest : Sparse) (b : Bool) → int_eq n (pos 0) ≡ b → (int_eq n (pos 0) ≡ false → C (u, n)) → All C rest
      → All C (if b then rest else ((u, n) ∷ rest))
  left_by u n rest true e h all = all
  left_by u n rest false e h all = All-cons C (u, n) rest (h e) all

  put_left_all : (u : ℕ) (number : Computation ℤ) (others : Computation Sparse) → Gives number (λ n. int_eq n (pos 0) ≡ false → C (u, n))
      → Gives others (All C) → Gives (put_left u number others) (All C)
  put_left_all u number others h g =
      gives_chain number _ (λ n. int_eq n (pos 0) ≡ false → C (u, n)) (All C) h
      (λ n c. gives_chain others _ (All C) (All C) g (λ rest all. left_by u n rest (int_eq n (pos 0)) refl c all))

  -- what holds of each multiple, and of each sum of two that isn't 0, holds of each number of the lists mixed
  module _ (p q : ℤ) (A B : Entry → Type 0) (one : (t : Entry) → A t → Gives (product p t.1) (λ n. C (t.0, n)))
      (other : (t : Entry) → B t → Gives (product q t.1) (λ n. C (t.0, n)))
      (summed : (s t : Entry) → A s → B (s.0, t.1) → Gives (mixture p s.1 q t.1) (λ n. int_eq n (pos 0) ≡ false → C (s.0, n))) where
    same_place : (s t : Entry) → nat_lt s.0 t.0 ≡ false → nat_lt t.0 s.0 ≡ false → t.0 ≡ s.0
    same_place s t e f = grind (arith, nat_tests)

    at_place : (s t : Entry) (ss ts : Sparse) (others : Sparse → Computation Sparse) (rest : Computation Sparse) → A s → B t
        → Gives (others (t ∷ ts)) (All C) → Gives (others ts) (All C) → Gives rest (All C) → (b c : Bool) → nat_lt s.0 t.0 ≡ b
        → nat_lt t.0 s.0 ≡ c
        → Gives (if b then put s.0 (product p s.1) (others (t ∷ ts))
        else (if c then put t.0 (product q t.1) rest else put_left s.0 (mixture p s.1 q t.1) (others ts))) (All C)
    at_place s t ss ts others rest a b f g h true c e k = put_all s.0 (product p s.1) (others (t ∷ ts)) (one s a) f
    at_place s t ss ts others rest a b f g h false true e k = put_all t.0 (product q t.1) rest (other t b) h
    at_place s t ss ts others rest a b f g h false false e k =
        put_left_all s.0 (mixture p s.1 q t.1) (others ts) (summed s t a (subst (λ u. B (u, t.1)) (same_place s t e k) b)) g

    after_all : (s : Entry) (ss : Sparse) (others : Sparse → Computation Sparse) → A s →
        ((ys : Sparse) → All B ys → Gives (others ys) (All C))
        → (ys : Sparse) → All B ys → Gives (mixed_after p q s others ys) (All C)
    after_all s ss others a h [] all = put_all s.0 (product p s.1) (others []) (one s a) (h [] all)
    after_all s ss others a h (t ∷ ts) all =
        at_place s t ss ts others (mixed_after p q s others ts) a (All-head B t ts all) (h (t ∷ ts) all) (h ts (All-tail B t ts all))
        (after_all s ss others a h ts (All-tail B t ts all)) (nat_lt s.0 t.0) (nat_lt t.0 s.0) refl refl

    scaled_each : (ys : Sparse) → All B ys → Gives (scaled q ys) (All C)
    scaled_each [] all = All-nil C
    scaled_each (t ∷ ts) all =
        put_all t.0 (product q t.1) (scaled q ts) (other t (All-head B t ts all)) (scaled_each ts (All-tail B t ts all))

    mixed_each : (xs ys : Sparse) → All A xs → All B ys → Gives (mixed p q xs ys) (All C)
    mixed_each [] ys xa ya = scaled_each ys ya
    mixed_each (s ∷ ss) ys xa ya =
        after_all s ss (mixed p q ss) (All-head A s ss xa) (λ zs za. mixed_each ss zs (All-tail A s ss xa) za) ys ya

  module _ (p q : ℤ) (A B : Entry → Type 0) (first : (u : ℕ) (m : ℤ) → A (u, m) → C (u, p *ℤ m))
      (second : (u : ℕ) (n : ℤ) → B (u, n) → C (u, q *ℤ n))
      (both : (u : ℕ) (m n : ℤ) → A (u, m) → B (u, n) → int_eq (p *ℤ m +ℤ q *ℤ n) (pos 0) ≡ false → C (u, p *ℤ m +ℤ q *ℤ n)) where
    multiple : (k : ℤ) (t : Entry) → C (t.0, k *ℤ t.1) → Gives (product k t.1) (λ n. C (t.0, n))
    multiple k t c =
        gives_weaker (product k t.1) (λ n. n ≡ k *ℤ t.1) (λ n. C (t.0, n)) (λ n e. subst (λ z. C (t.0, z)) (sym e) c)
        (kept_gives (k *ℤ t.1))

    sum_of : (s t : Entry) → A s → B (s.0, t.1) → Gives (mixture p s.1 q t.1) (λ n. int_eq n (pos 0) ≡ false → C (s.0, n))
    sum_of s t a b =
        gives_weaker (mixture p s.1 q t.1) (λ n. n ≡ p *ℤ s.1 +ℤ q *ℤ t.1) (λ n. int_eq n (pos 0) ≡ false → C (s.0, n))
        (λ n e. subst (λ z. int_eq z (pos 0) ≡ false → C (s.0, z)) (sym e) (both s.0 s.1 t.1 a b)) (mixture_gives p s.1 q t.1)

    pub mixed_all : (xs ys : Sparse) → All A xs → All B ys → Gives (mixed p q xs ys) (All C)
    mixed_all xs ys xa ya =
        mixed_each p q A B (λ t a. multiple p t (first t.0 t.1 a)) (λ t b. multiple q t (second t.0 t.1 b)) sum_of xs ys xa ya

-- ---- numbers within 2^120 of 0

within : (most n : ℕ) → nat_lt most n ≡ false → n ≤ most
within most n e = grind (arith, nat_tests)

pub kept_bounded : (n : ℤ) → Gives (kept n) IsBounded
kept_bounded n = by (is_wide n) refl
  where
    by : (b : Bool) → is_wide n ≡ b → Gives (if b then Err Wide else Ok n) IsBounded
    by true e = tt
    by false e = within LARGEST_SUM (unsigned_abs n) e

mixture_bounded : (p m q n : ℤ) → Gives (mixture p m q n) IsBounded
mixture_bounded p m q n =
    gives_chain (product p m) (λ a. chain (product q n) (λ b. sum a b)) IsBounded IsBounded (kept_bounded (p *ℤ m)) (λ a _.
    gives_chain (product q n) (λ b. sum a b) IsBounded IsBounded (kept_bounded (q *ℤ n)) (λ b _. kept_bounded (a +ℤ b)))

anything : (xs : Sparse) → All (λ _. Unit {0}) xs
anything [] = All-nil (λ _. Unit {0})
anything (x ∷ xs) = All-cons (λ _. Unit {0}) x xs tt (anything xs)

-- whatever is mixed, each number is kept
pub mixed_near : (p q : ℤ) (xs ys : Sparse) → Gives (mixed p q xs ys) (All (λ t. IsBounded t.1))
mixed_near p q xs ys =
    mixed_each (λ t. IsBounded t.1) p q (λ _. Unit {0}) (λ _. Unit {0}) (λ t _. kept_bounded (p *ℤ t.1)) (λ t _. kept_bounded (q *ℤ t.1))
    (λ s t _ _. gives_weaker (mixture p s.1 q t.1) IsBounded (λ n. int_eq n (pos 0) ≡ false → IsBounded n) (λ n b _. b)
    (mixture_bounded p s.1 q t.1)) xs ys (anything xs) (anything ys)
