-- What holds of all that a walk over a design makes holds of what it makes of each item.
use Rattle.std.proofs.Common.{◌≡◌, ℕ, zero, suc, ◌+◌, ◌<◌, List, [], ◌∷◌, ◌++◌, subst, arith, Option, Some}
use Rattle.std.specs.Prelude.{slice_get}
use Rattle.std.specs.List.{AllByRecursion}
use Rattle.std.proofs.lemmas.Option.{same_Some, none-some}
use Rattle.acc_base.specs.declared.steps.Path.{Path}
use Rattle.acc_base.specs.declared.steps.Step.{Step}
use Rattle.acc_base.specs.declared.designs.Side.{Side}
use Rattle.acc_base.specs.declared.designs.Side.TheVariants.{Next, Undo}
use Rattle.acc_base.specs.declared.designs.Point.{Point}
use Rattle.acc_base.specs.declared.designs.TxType.{TxType}
use Rattle.acc_base.specs.declared.designs.Design.{Design}
use Rattle.acc_base.specs.Effects.{step_at}
use Rattle.acc_oblig.specs.Drafts.{each_from, each, each_number, each_path, step_paths, point_paths, of_some, Place}

module _ {U : Type 0} (P : U → Type 0) where
  pub all_front : (xs ys : List U) → AllByRecursion P (xs ++ ys) → AllByRecursion P xs
  all_front [] ys h = tt
  all_front (x ∷ xs) ys h = (h.0, all_front xs ys h.1)

  pub all_back : (xs ys : List U) → AllByRecursion P (xs ++ ys) → AllByRecursion P ys
  all_back [] ys h = h
  all_back (x ∷ xs) ys h = all_back xs ys h.1

  each_at_from :
      {T : Type 0} (make : ℕ → T → List U) (xs : List T) (i k : ℕ) (x : T) → AllByRecursion P (each_from i make xs)
      → slice_get xs k ≡ Some x → AllByRecursion P (make (i + k) x)
  each_at_from make [] i k x h e = absurd (none-some x e)
  each_at_from make (y ∷ ys) i zero x h e =
      let n : i ≡ i + zero = omega arith in
      subst (λ m. AllByRecursion P (make m x)) n (subst (λ z. AllByRecursion P (make i z)) (same_Some y x e) (all_front (make i y) _ h))
  each_at_from make (y ∷ ys) i (suc k) x h e =
      let n : i + 1 + k ≡ i + suc k = omega arith in
      subst (λ m. AllByRecursion P (make m x)) n (each_at_from make ys (i + 1) k x (all_back (make i y) _ h) e)

  pub each_at :
      {T : Type 0} (make : ℕ → T → List U) (xs : List T) (k : ℕ) (x : T) → AllByRecursion P (each make xs) → slice_get xs k ≡ Some x
      → AllByRecursion P (make k x)
  each_at make xs k x h e =
      let n : 0 + k ≡ k = omega arith in
      subst (λ m. AllByRecursion P (make m x)) n (each_at_from make xs 0 k x h e)

  number_at_from : (make : ℕ → List U) (n i k : ℕ) → k < n → AllByRecursion P (each_number i n make) → AllByRecursion P (make (i + k))
  number_at_from make zero i k l h = absurd (omega arith)
  number_at_from make (suc n) i zero l h =
      let e : i ≡ i + zero = omega arith in subst (λ m. AllByRecursion P (make m)) e (all_front (make i) _ h)
  number_at_from make (suc n) i (suc k) l h =
      let e : i + 1 + k ≡ i + suc k = omega arith in
      subst (λ m. AllByRecursion P (make m)) e (number_at_from make n (i + 1) k (omega arith) (all_back (make i) _ h))

  pub number_at : (make : ℕ → List U) (n k : ℕ) → k < n → AllByRecursion P (each_number 0 n make) → AllByRecursion P (make k)
  number_at make n k l h = let e : 0 + k ≡ k = omega arith in subst (λ m. AllByRecursion P (make m)) e (number_at_from make n 0 k l h)

  pub some_at :
      {T : Type 0} (make : T → List U) (o : Option T) (x : T) → o ≡ Some x → AllByRecursion P (of_some make o) → AllByRecursion P (make x)
  some_at make o x e h = subst (λ z. AllByRecursion P (of_some make z)) e h

  pub path_at :
      (d : Design) (make : Place → TxType → Point → Step → Path → List U) → AllByRecursion P (each_path d make)
      → (ty point : ℕ) (x : TxType) (p : Point) (side : Side) (j : ℕ) (path : Path) → slice_get d.types ty ≡ Some x
      → slice_get x.points point ≡ Some p → slice_get (step_at side p).paths j ≡ Some path
      → AllByRecursion P (make (record { at = record { ty = ty; point = point }; side = side; path = j }) x p (step_at side p) path)
  path_at d make h ty point x p side j path a b c = by side c
    where
      whole : AllByRecursion P (point_paths make ty x point p)
      whole =
          each_at (λ i q. point_paths make ty x i q) x.points point p
          (each_at (λ n y. each (λ i q. point_paths make n y i q) y.points) d.types ty x h a) b

      by :
          (z : Side) → slice_get (step_at z p).paths j ≡ Some path
          → AllByRecursion P (make (record { at = record { ty = ty; point = point }; side = z; path = j }) x p (step_at z p) path)
      by Next g =
          each_at (λ n q. make (record { at = record { ty = ty; point = point }; side = Next; path = n }) x p (step_at Next p) q)
          p.next.paths j path (all_front (step_paths make (record { ty = ty; point = point }) Next x p (step_at Next p)) _ whole) g
      by Undo g =
          each_at (λ n q. make (record { at = record { ty = ty; point = point }; side = Undo; path = n }) x p (step_at Undo p) q)
          p.undo.paths j path (all_back (step_paths make (record { ty = ty; point = point }) Next x p (step_at Next p)) _ whole) g
