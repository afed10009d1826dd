-- The obligations on the number with place k of a point: of its reads, or behind those of each undo path.
use Rattle.std.proofs.Common.{◌≡◌, ℕ, ◌+◌, ◌-◌, Bool, true, false, List, [], ◌∷◌, ◌++◌, length, refl, ap, sym, subst, ◌∙◌, arith}
use Rattle.std.specs.Prelude.{slice_get, nat_lt, Some, Option, Result, if◌then◌else◌}
use Rattle.std.proofs.lemmas.Bool.{lt-ltb, le-ltb}
use Rattle.std.proofs.lemmas.List.{append-nil}
use Rattle.std.proofs.lemmas.Option.{slice_get_past, slice_get_within}
use Rattle.acc_base.specs.declared.steps.Path.{Path}
use Rattle.acc_base.specs.declared.designs.At.{At}
use Rattle.acc_base.specs.declared.designs.Side.TheVariants.{Undo}
use Rattle.acc_base.specs.declared.designs.Point.{Point}
use Rattle.acc_base.specs.declared.designs.TxType.{TxType}
use Rattle.acc_base.specs.declared.designs.Design.{Design}
use Rattle.acc_base.specs.declared.sequents.Sequent.{Sequent}
use Rattle.acc_oblig.specs.Settings.{Setting, step_vars}
use Rattle.acc_oblig.specs.Drafts.{Draft, Place, each_from, each, of_some, setting_of}
use Rattle.acc_oblig.specs.Ranges.{ReadNumber, reads_setting, setting_numbers, read_range_in, action_range_in, numbers_of, path_range_at}
use Rattle.acc_oblig.specs.Ranges.{range_at}
use Rattle.acc_oblig_clauses.specs.ObligError.{ObligError}
use Rattle.acc_oblig_clauses.specs.Causes.{Adds}
use Rattle.acc_oblig_ranges.specs.PathRanges.{path_range, undo_ranges}

module _ {T U : Type 0} where
  each_none : (make : ℕ → T → List U) → ((j : ℕ) (x : T) → make j x ≡ []) → (i : ℕ) (xs : List T) → each_from i make xs ≡ []
  each_none make h i [] = refl
  each_none make h i (x ∷ xs) = ap (λ (z : List U). z ++ each_from (i + 1) make xs) (h i x) ∙ each_none make h (i + 1) xs

  each_same :
      (one other : ℕ → T → List U) → ((j : ℕ) (x : T) → one j x ≡ other j x) → (i : ℕ) (xs : List T)
      → each_from i one xs ≡ each_from i other xs
  each_same one other h i [] = refl
  each_same one other h i (x ∷ xs) =
      ap (λ (z : List U). z ++ each_from (i + 1) one xs) (h i x)
      ∙ ap (λ (z : List U). other i x ++ z) (each_same one other h (i + 1) xs)

module _ (d : Design) (k : ℕ) (at : At) (x : TxType) (p : Point) where
  -- among the reads' numbers
  for_reads :
      (m : ReadNumber) → slice_get (setting_numbers (reads_setting d x p) (step_vars (reads_setting d x p))) k ≡ Some m
      → range_at d k at.ty x at.point p ≡ read_range_in k at (reads_setting d x p) (step_vars (reads_setting d x p)) m
  for_reads m e =
      let s : Setting = reads_setting d x p in
      let numbers : List ReadNumber = setting_numbers s (step_vars s) in
      let make : ReadNumber → List Draft = read_range_in k at s (step_vars s) in
      let first = length numbers in
      let within : nat_lt k first ≡ true = lt-ltb k first (slice_get_within numbers k m e) in
      let none : (j : ℕ) (path : Path) → path_range_at d k first at x p j path ≡ [] = λ j path.
      let w : Place = record { at = at; side = Undo; path = j } in
      let t : Setting = setting_of d x p p.undo j path in
      ap (λ (b : Bool). if b then [] else of_some (action_range_in k w t (step_vars t))
      (slice_get (numbers_of t.actions t.actions) (k - first))) within in
      ap (λ (o : Option ReadNumber). of_some make o ++ each (path_range_at d k first at x p) p.undo.paths) e
      ∙ (ap (λ (z : List Draft). make m ++ z) (each_none (path_range_at d k first at x p) none 0 p.undo.paths) ∙ append-nil (make m))

  -- behind them
  for_paths :
      (left : ℕ) → k ≡ length (setting_numbers (reads_setting d x p) (step_vars (reads_setting d x p))) + left
      → range_at d k at.ty x at.point p ≡ undo_ranges d k left (record { at = at; x = x; p = p })
  for_paths left e =
      let s : Setting = reads_setting d x p in
      let numbers : List ReadNumber = setting_numbers s (step_vars s) in
      let make : ReadNumber → List Draft = read_range_in k at s (step_vars s) in
      let first = length numbers in
      let past : nat_lt k first ≡ false = le-ltb k first (omega arith) in
      let rest : k - first ≡ left = omega arith in
      let other : ℕ → Path → List Draft = λ j path. path_range d k left (record { at = at; side = Undo; path = j }) x p p.undo path in
      let same : (j : ℕ) (path : Path) → path_range_at d k first at x p j path ≡ other j path = λ j path.
      let w : Place = record { at = at; side = Undo; path = j } in
      let t : Setting = setting_of d x p p.undo j path in
      ap (λ (b : Bool). if b then [] else of_some (action_range_in k w t (step_vars t))
      (slice_get (numbers_of t.actions t.actions) (k - first))) past
      ∙ ap (λ n. of_some (action_range_in k w t (step_vars t)) (slice_get (numbers_of t.actions t.actions) n)) rest in
      ap (λ (o : Option ReadNumber). of_some make o ++ each (path_range_at d k first at x p) p.undo.paths)
      (slice_get_past numbers k (omega arith))
      ∙ each_same (path_range_at d k first at x p) other same 0 p.undo.paths

  module _ (r : Result (Unit {0}) ObligError) (old new : List Sequent) (t : Setting) (e : t ≡ reads_setting d x p) where
    pub read_added :
        (m : ReadNumber) → slice_get (setting_numbers t (step_vars t)) k ≡ Some m → Adds r old new (read_range_in k at t (step_vars t) m)
        → Adds r old new (range_at d k at.ty x at.point p)
    read_added m f a =
        let g = subst (λ (z : Setting). slice_get (setting_numbers z (step_vars z)) k ≡ Some m) e f in
        subst (Adds r old new) (sym (for_reads m g)) (subst (λ (z : Setting). Adds r old new (read_range_in k at z (step_vars z) m)) e a)

    pub paths_behind_added :
        (left : ℕ) → k ≡ length (setting_numbers t (step_vars t)) + left →
        Adds r old new (undo_ranges d k left (record { at = at; x = x; p = p }))
        → Adds r old new (range_at d k at.ty x at.point p)
    paths_behind_added left f a =
        let g = subst (λ (z : Setting). k ≡ length (setting_numbers z (step_vars z)) + left) e f in
        subst (Adds r old new) (sym (for_paths left g)) a
