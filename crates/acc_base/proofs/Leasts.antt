-- Keeping the better one of two, item by item, keeps the least of all.
use Rattle.std.proofs.Common.{◌≡◌, ℕ, ◌<◌, zero, suc, length, get_or, ◌∙◌, Bool, true, false, List, [], ◌∷◌, Option, Some, None, IsTrue}
use Rattle.std.proofs.Common.{Contains, IfSome, IfNone, if◌then◌else◌, fold, refl, sym, arith}
use Rattle.std.proofs.lemmas.List.Elements.{All-nil, All-cons, All-head, All-tail, Contains-append_right}
use Rattle.std.proofs.lemmas.Bool.{false≢true}
use Rattle.acc_base.specs.Leasts.{IsLeast, better}

-- what a test has to meet, so that one of the items is the least
pub record IsOrder {X : Type 0} (is_less : X → X → Bool) : Type 0 where
  pub irreflexive : (x : X) → ¬ IsTrue (is_less x x)
  pub transitive : (x y z : X) → IsTrue (is_less x y) → IsTrue (is_less y z) → IsTrue (is_less x z)
  pub rising : (x y z : X) → ¬ IsTrue (is_less x y) → ¬ IsTrue (is_less y z) → ¬ IsTrue (is_less x z)

-- a lesser item before the items
with_lesser : {X : Type 0} (is_less : X → X → Bool) → IsOrder is_less → (x y : X) (ys : List X) (r : X) →
    IsTrue (is_less y x) → IsLeast is_less (y ∷ ys) r → IsLeast is_less (x ∷ y ∷ ys) r
with_lesser is_less order x y ys r below h = record {
  there = Contains-append_right (x ∷ []) (y ∷ ys) r h.there;
  least = All-cons (λ z. ¬ IsTrue (is_less z r)) x (y ∷ ys)
      (λ t. All-head (λ z. ¬ IsTrue (is_less z r)) y ys h.least (order.transitive y x r below t)) h.least;
}

there_behind : {X : Type 0} (x y : X) (ys : List X) (r : X) (k : ℕ) → k < length (x ∷ ys) → get_or (x ∷ ys) k r ≡ r →
    Contains (x ∷ y ∷ ys) r
there_behind x y ys r zero below is = (0, omega arith, is)
there_behind x y ys r (suc k) below is = (suc (suc k), omega arith, is)

-- an item that isn't less, behind the first
with_greater : {X : Type 0} (is_less : X → X → Bool) → IsOrder is_less → (x y : X) (ys : List X) (r : X) →
    ¬ IsTrue (is_less y x) → IsLeast is_less (x ∷ ys) r → IsLeast is_less (x ∷ y ∷ ys) r
with_greater is_less order x y ys r above h =
    let first : ¬ IsTrue (is_less x r) = All-head (λ z. ¬ IsTrue (is_less z r)) x ys h.least in
    record {
      there = there_behind x y ys r h.there.0 h.there.1 h.there.2;
      least = All-cons (λ z. ¬ IsTrue (is_less z r)) x (y ∷ ys) first
          (All-cons (λ z. ¬ IsTrue (is_less z r)) y ys (order.rising y x r above first)
          (All-tail (λ z. ¬ IsTrue (is_less z r)) x ys h.least));
    }

pub some_weaker : {X : Type 0} (P Q : X → Type 0) (o : Option X) → ((x : X) → P x → Q x) → IfSome o P → IfSome o Q
some_weaker P Q None f h = tt
some_weaker P Q (Some x) f h = f x h

-- what is kept of a first item and others is the least of them
least_of_more : {X : Type 0} (is_less : X → X → Bool) → IsOrder is_less → (x : X) (ys : List X) →
    IfSome (fold (better is_less) (Some x) ys) (IsLeast is_less (x ∷ ys))
least_of_more is_less order x [] = record {
  there = (0, omega arith, refl);
  least = All-cons (λ z. ¬ IsTrue (is_less z x)) x [] (order.irreflexive x) (All-nil (λ z. ¬ IsTrue (is_less z x)));
}
least_of_more is_less order x (y ∷ ys) =
    elim (is_less y x) as (λ b. is_less y x ≡ b →
    IfSome (fold (better is_less) (if b then Some y else Some x) ys) (IsLeast is_less (x ∷ y ∷ ys))) [
      | true ↦ λ e. some_weaker (IsLeast is_less (y ∷ ys)) (IsLeast is_less (x ∷ y ∷ ys)) (fold (better is_less) (Some y) ys)
          (λ r h. with_lesser is_less order x y ys r e h) (least_of_more is_less order y ys)
      | false ↦ λ e. some_weaker (IsLeast is_less (x ∷ ys)) (IsLeast is_less (x ∷ y ∷ ys)) (fold (better is_less) (Some x) ys)
          (λ r h. with_greater is_less order x y ys r (λ t. false≢true (sym e ∙ t)) h) (least_of_more is_less order x ys)
    ] refl

-- what is kept of items is the least of them
pub least_of : {X : Type 0} (is_less : X → X → Bool) → IsOrder is_less → (xs : List X) →
    IfSome (fold (better is_less) None xs) (IsLeast is_less xs)
least_of is_less order [] = tt
least_of is_less order (x ∷ xs) = least_of_more is_less order x xs

stays_some : {X : Type 0} (is_less : X → X → Bool) (x : X) (ys : List X) (Q : Type 0) → IfNone (fold (better is_less) (Some x) ys) Q
stays_some is_less x [] Q = tt
stays_some is_less x (y ∷ ys) Q =
    elim (is_less y x) as (λ b. IfNone (fold (better is_less) (if b then Some y else Some x) ys) Q) [
      | true ↦ stays_some is_less y ys Q
      | false ↦ stays_some is_less x ys Q
    ]

-- nothing is kept of no items alone
pub none_of : {X : Type 0} (is_less : X → X → Bool) (xs : List X) → IfNone (fold (better is_less) None xs) (xs ≡ [])
none_of is_less [] = refl
none_of is_less (x ∷ xs) = stays_some is_less x xs (x ∷ xs ≡ [])
