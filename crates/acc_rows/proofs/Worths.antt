-- What lists of numbers are worth, where the number at each place counts f times.
use Rattle.std.proofs.Common.{◌≡◌, ℕ, Bool, true, false, [], ◌∷◌, Ok, Err, refl, ap, sym, ◌∙◌, subst, arith, ℤ, pos, ◌+ℤ◌, ◌*ℤ◌, nat_lt}
use Rattle.std.proofs.Common.{if◌then◌else◌}
use Rattle.std.specs.Ordering.{int_eq}
use Rattle.std.proofs.lemmas.Int.{ints}
use Rattle.std.proofs.lemmas.Bool.Decides.{nat_tests, Decides-int_eq}
use lib.IntN.{*ℤ-zero, zero-*ℤ}
use Rattle.acc_base.specs.Bounded.{is_wide}
use Rattle.acc_base.proofs.Products.{sum_times, times_sum, times_times}
use Rattle.acc_rows.specs.declared.stops.Stop.{Stop}
use Rattle.acc_rows.specs.declared.stops.Stop.TheVariants.{Refuted, Wide, Many, Memory}
use Rattle.acc_base.specs.Computing.{chain}
use Rattle.acc_rows.specs.Answers.{Computation}
use Rattle.acc_base.specs.Collecting.{worth}
use Rattle.acc_rows.specs.Numbers.{kept, product, sum}
use Rattle.acc_rows.specs.Sparse.{Sparse, put, put_left, scaled, mixture, mixed_after, mixed}

-- a computation's value is this, or a number is too large
abbrev pub Gives : {A : Type 0} → Computation A → (A → Type 0) → Type 0
Gives (Ok x) P = P x
Gives (Err Wide) P = Unit {0}
Gives (Err Many) P = ⊥
Gives (Err Memory) P = ⊥
Gives (Err (Refuted r)) P = ⊥

gives_err : {A B : Type 0} (e : Stop) (P : A → Type 0) (Q : B → Type 0) → Gives (Err e) P → Gives (Err e) Q
gives_err Wide P Q h = tt
gives_err Many P Q h = absurd h
gives_err Memory P Q h = absurd h
gives_err (Refuted r) P Q h = absurd h

pub given : {A : Type 0} (o : Computation A) (P : A → Type 0) (x : A) → o ≡ Ok x → Gives o P → P x
given (Ok y) P x e h = let same : y ≡ x = cc in subst P same h
given (Err d) P x e h = absurd (cc)

pub gives_chain : {A B : Type 0} (o : Computation A) (next : A → Computation B) (P : A → Type 0) (Q : B → Type 0) → Gives o P
    → ((x : A) → P x → Gives (next x) Q) → Gives (chain o next) Q
gives_chain (Ok x) next P Q h k = k x h
gives_chain (Err e) next P Q h k = gives_err e P Q h

pub gives_weaker : {A : Type 0} (o : Computation A) (P Q : A → Type 0) → ((x : A) → P x → Q x) → Gives o P → Gives o Q
gives_weaker (Ok x) P Q k h = k x h
gives_weaker (Err e) P Q k h = gives_err e P Q h

pub gives_both : {A : Type 0} (o : Computation A) (P Q : A → Type 0) {R : A → Type 0} → ((x : A) → P x → Q x → R x) → Gives o P → Gives o Q
    → Gives o R
gives_both (Ok x) P Q k p q = k x p q
gives_both (Err e) P Q k p q = gives_err e P _ p

kept_cases : (n : ℤ) (b : Bool) → Gives (if b then Err Wide else Ok n) (λ m. m ≡ n)
kept_cases n true = tt
kept_cases n false = refl

pub kept_gives : (n : ℤ) → Gives (kept n) (λ m. m ≡ n)
kept_gives n = kept_cases n (is_wide n)

pub mixture_gives : (p m q n : ℤ) → Gives (mixture p m q n) (λ v. v ≡ p *ℤ m +ℤ q *ℤ n)
mixture_gives p m q n =
    gives_chain (product p m) (λ a. chain (product q n) (λ b. sum a b)) (λ a. a ≡ p *ℤ m) (λ v. v ≡ p *ℤ m +ℤ q *ℤ n) (kept_gives (p *ℤ m))
    (λ a e.
    gives_chain (product q n) (λ b. sum a b) (λ b. b ≡ q *ℤ n) (λ v. v ≡ p *ℤ m +ℤ q *ℤ n) (kept_gives (q *ℤ n)) (λ b g.
    subst (λ z. Gives (sum a b) (λ v. v ≡ z)) (λ i. e i +ℤ g i) (kept_gives (a +ℤ b))))

module _ (f : ℕ → ℤ) where
  put_gives : (u : ℕ) (number : Computation ℤ) (others : Computation Sparse) (n w : ℤ) → Gives number (λ m. m ≡ n)
      → Gives others (λ zs. worth f zs ≡ w) → Gives (put u number others) (λ zs. worth f zs ≡ n *ℤ f u +ℤ w)
  put_gives u (Ok m) (Ok rest) n w h g = λ i. h i *ℤ f u +ℤ g i
  put_gives u (Ok m) (Err e) n w h g = gives_err e (λ zs. worth f zs ≡ w) (λ zs. worth f zs ≡ n *ℤ f u +ℤ w) g
  put_gives u (Err e) others n w h g = gives_err e (λ m. m ≡ n) (λ zs. worth f zs ≡ n *ℤ f u +ℤ w) h

  left_cases : (u : ℕ) (m w : ℤ) (rest : Sparse) (b : Bool) → int_eq m (pos 0) ≡ b → worth f rest ≡ w
      → worth f (if b then rest else ((u, m) ∷ rest)) ≡ m *ℤ f u +ℤ w
  left_cases u m w rest true e g =
      let none = ap (λ z. z *ℤ f u) ((Decides-int_eq m (pos 0)).0 e) ∙ zero-*ℤ (f u) in
      omega (arith, ints, none, g)
  left_cases u m w rest false e g = ap (λ z. m *ℤ f u +ℤ z) g

  put_left_gives : (u : ℕ) (number : Computation ℤ) (others : Computation Sparse) (n w : ℤ) → Gives number (λ m. m ≡ n)
      → Gives others (λ zs. worth f zs ≡ w) → Gives (put_left u number others) (λ zs. worth f zs ≡ n *ℤ f u +ℤ w)
  put_left_gives u (Ok m) (Ok rest) n w h g =
      left_cases u m w rest (int_eq m (pos 0)) refl g ∙ ap (λ z. z *ℤ f u +ℤ w) h
  put_left_gives u (Ok m) (Err e) n w h g = gives_err e (λ zs. worth f zs ≡ w) (λ zs. worth f zs ≡ n *ℤ f u +ℤ w) g
  put_left_gives u (Err e) others n w h g = gives_err e (λ m. m ≡ n) (λ zs. worth f zs ≡ n *ℤ f u +ℤ w) h

  gives_equal : (o : Computation Sparse) (v w : ℤ) → v ≡ w → Gives o (λ zs. worth f zs ≡ v) → Gives o (λ zs. worth f zs ≡ w)
  gives_equal o v w e h = subst (λ z. Gives o (λ zs. worth f zs ≡ z)) e h

  -- p times a list is worth p times as much
  pub scaled_gives : (p : ℤ) (xs : Sparse) → Gives (scaled p xs) (λ zs. worth f zs ≡ p *ℤ worth f xs)
  scaled_gives p [] = sym (*ℤ-zero p)
  scaled_gives p (t ∷ ts) =
      let one = times_times p t.1 (f t.0) in
      let both = times_sum p (t.1 *ℤ f t.0) (worth f ts) in
      gives_equal (put t.0 (product p t.1) (scaled p ts)) _ _ (omega (arith, ints, one, both))
      (put_gives t.0 (product p t.1) (scaled p ts) (p *ℤ t.1) (p *ℤ worth f ts) (kept_gives (p *ℤ t.1)) (scaled_gives p ts))

  module _ (p q : ℤ) where
    abbrev Mixes : Computation Sparse → Sparse → Sparse → Type 0
    Mixes o xs ys = Gives o (λ zs. worth f zs ≡ p *ℤ worth f xs +ℤ q *ℤ worth f ys)

    by_places : (s t : ℕ × ℤ) (ss ts : Sparse) (others : Sparse → Computation Sparse) (rest : Computation Sparse)
        → Mixes (others (t ∷ ts)) ss (t ∷ ts) → Mixes (others ts) ss ts → Mixes rest (s ∷ ss) ts → (b c : Bool) → nat_lt s.0 t.0 ≡ b
        → nat_lt t.0 s.0 ≡ c
        → Mixes (if b then put s.0 (product p s.1) (others (t ∷ ts))
        else (if c then put t.0 (product q t.1) rest else put_left s.0 (mixture p s.1 q t.1) (others ts))) (s ∷ ss) (t ∷ ts)
    by_places s t ss ts others rest first both second true c e g =
        let one = times_times p s.1 (f s.0) in
        let all = times_sum p (s.1 *ℤ f s.0) (worth f ss) in
        gives_equal (put s.0 (product p s.1) (others (t ∷ ts))) _ _ (omega (arith, ints, one, all))
        (put_gives s.0 (product p s.1) (others (t ∷ ts)) (p *ℤ s.1) _ (kept_gives (p *ℤ s.1)) first)
    by_places s t ss ts others rest first both second false true e g =
        let one = times_times q t.1 (f t.0) in
        let all = times_sum q (t.1 *ℤ f t.0) (worth f ts) in
        gives_equal (put t.0 (product q t.1) rest) _ _ (omega (arith, ints, one, all))
        (put_gives t.0 (product q t.1) rest (q *ℤ t.1) _ (kept_gives (q *ℤ t.1)) second)
    by_places s t ss ts others rest first both second false false e g =
        let same : s.0 ≡ t.0 = grind (arith, nat_tests) in
        let here : f t.0 ≡ f s.0 = ap f (sym same) in
        let one = times_times p s.1 (f s.0) in
        let all = times_sum p (s.1 *ℤ f s.0) (worth f ss) in
        let two = times_times q t.1 (f s.0) in
        let more = times_sum q (t.1 *ℤ f t.0) (worth f ts) in
        let moved = ap (λ z. q *ℤ (t.1 *ℤ z)) here in
        let parts = sum_times (p *ℤ s.1) (q *ℤ t.1) (f s.0) in
        gives_equal (put_left s.0 (mixture p s.1 q t.1) (others ts)) _ _ (omega (arith, ints, one, all, two, more, moved, parts))
        (put_left_gives s.0 (mixture p s.1 q t.1) (others ts) (p *ℤ s.1 +ℤ q *ℤ t.1) _ (mixture_gives p s.1 q t.1) both)

    after_gives : (s : ℕ × ℤ) (ss : Sparse) (others : Sparse → Computation Sparse) → ((ys : Sparse) → Mixes (others ys) ss ys) →
        (ys : Sparse)
        → Mixes (mixed_after p q s others ys) (s ∷ ss) ys
    after_gives s ss others h [] =
        let one = times_times p s.1 (f s.0) in
        let all = times_sum p (s.1 *ℤ f s.0) (worth f ss) in
        let none = *ℤ-zero q in
        gives_equal (put s.0 (product p s.1) (others [])) _ _ (omega (arith, ints, one, all, none))
        (put_gives s.0 (product p s.1) (others []) (p *ℤ s.1) _ (kept_gives (p *ℤ s.1)) (h []))
    after_gives s ss others h (t ∷ ts) =
        by_places s t ss ts others (mixed_after p q s others ts) (h (t ∷ ts)) (h ts) (after_gives s ss others h ts) (nat_lt s.0 t.0)
        (nat_lt t.0 s.0) refl refl

    -- p times a list and q times another are worth p times and q times as much
    pub mixed_gives : (xs ys : Sparse) → Mixes (mixed p q xs ys) xs ys
    mixed_gives [] ys =
        let none = *ℤ-zero p in
        gives_equal (scaled q ys) _ _ (omega (arith, ints, none)) (scaled_gives q ys)
    mixed_gives (s ∷ ss) ys = after_gives s ss (mixed p q ss) (mixed_gives ss) ys
