-- Parts of a search that go on: a part's value has this, and an open leaf that ends it has that.
use Rattle.std.proofs.Common.{List, [], ◌∷◌, Ok, Err}
use Rattle.acc_base.specs.declared.forms.Rel.{Rel}
use Rattle.acc_elim_points.specs.Points.{Point}
use Rattle.acc_prover_course.specs.Halt.{Halt}
use Rattle.acc_prover_course.specs.Halt.TheVariants.{Open, Crowded, Wide, Many, Memory}
use Rattle.acc_base.specs.Computing.{chain, steps}
use Rattle.acc_prover_course.specs.Courses.{Course}

abbrev pub Leaf : Type 1
Leaf = List Rel → Point → Type 0

abbrev pub Good : {A : Type 0} → Leaf → Course A → (A → Type 0) → Type 0
Good Q (Ok x) P = P x
Good Q (Err (Open rels point)) P = Q rels point
Good Q (Err Crowded) P = Unit {0}
Good Q (Err Wide) P = Unit {0}
Good Q (Err Many) P = Unit {0}
Good Q (Err Memory) P = Unit {0}

module _ (Q : Leaf) where
  good_err : {A B : Type 0} (e : Halt) (P : A → Type 0) (R : B → Type 0) → Good Q (Err e) P → Good Q (Err e) R
  good_err (Open rels point) P R h = h
  good_err Crowded P R h = tt
  good_err Wide P R h = tt
  good_err Many P R h = tt
  good_err Memory P R h = tt

  pub good_chain : {A B : Type 0} (o : Course A) (next : A → Course B) (P : A → Type 0) (R : B → Type 0) → Good Q o P
      → ((x : A) → P x → Good Q (next x) R) → Good Q (chain o next) R
  good_chain (Ok x) next P R h k = k x h
  good_chain (Err e) next P R h k = good_err e P R h

  pub good_weaker : {A : Type 0} (o : Course A) (P R : A → Type 0) → Good Q o P → ((x : A) → P x → R x) → Good Q o R
  good_weaker (Ok x) P R h k = k x h
  good_weaker (Err e) P R h k = good_err e P R h

  pub good_steps : {S X : Type 0} (step : S → X → Course S) (P : S → Type 0) → ((s : S) (x : X) → P s → Good Q (step s x) P)
      → (xs : List X) (s : S) → P s → Good Q (steps step s xs) P
  good_steps step P h [] s p = p
  good_steps step P h (x ∷ xs) s p =
      good_chain (step s x) (λ t. steps step t xs) P P (h s x p) (λ t k. good_steps step P h xs t k)
