-- How much more the row at an action's place gives after the action, and that the parts of a change are worth that.
use Rattle.std.proofs.Common.{◌≡◌, ◌<◌, ℕ, Bool, true, false, List, [], ◌++◌, length, refl, ap, sym, ◌∙◌, arith, Option, Some, None, ℤ, pos}
use Rattle.std.proofs.Common.{◌+ℤ◌, ◌-ℤ◌, if◌then◌else◌, ◌==◌, get_or-set_same, get_or-set_other}
use Rattle.std.specs.Prelude.{slice_get}
use Rattle.std.specs.Option.{option_map}
use Rattle.std.proofs.lemmas.Int.{ints}
use Rattle.std.proofs.lemmas.Bool.Decides.{Decides-eqb}
use Rattle.acc_base.specs.declared.tables.Row.{Row}
use Rattle.acc_base.specs.declared.forms.Atom.{Atom}
use Rattle.acc_base.specs.declared.steps.Action.{Action}
use Rattle.acc_base.specs.declared.steps.Action.TheVariants.{Put, Del, Set, Add}
use Rattle.acc_base.specs.Tables.{cell, set_cell}
use Rattle.acc_base.specs.Linear.{lin_value}
use Rattle.acc_base.specs.Truth.{atom_value}
use Rattle.acc_instanced.specs.Summands.{lin_parts}
use Rattle.acc_preconditions.specs.Changes.{presence_change, column_change, value_parts, minus}
use Rattle.acc_instanced.proofs.RowSums.{given, one}
use Rattle.acc_preconditions.proofs.RowTurns.{becomes, stands, with_set, with_added}
use Rattle.acc_preconditions.proofs.PartValues.{parts_value, parts-append, minus_value, lin_parts_value, value_parts_value, one_times}

-- a `set` or an `add` finds its row, which has the column
abbrev pub HasColumn : ℕ → Option Row → Type 0
HasColumn c o = (r : Row) × (o ≡ Some r) × (c < length r.cols)

module _ (env : List ℤ) where
  abbrev pub IsReady : Action → List Row → Type 0
  IsReady (Put t k vs) db = Unit {0}
  IsReady (Del t k) db = Unit {0}
  IsReady (Set t k c v) db = HasColumn c (stands env (Set t k c v) db)
  IsReady (Add t k c v) db = HasColumn c (stands env (Add t k c v) db)

  -- how much more the row gives
  abbrev pub growth : (Row → ℤ) → Action → List Row → ℤ
  growth v a db = given v (becomes env a (stands env a db)) -ℤ given v (stands env a db)

  still_there : (g : Row → Row) (o : Option Row) → given one (option_map g o) -ℤ given one o ≡ pos 0
  still_there g None = omega (arith, ints)
  still_there g (Some r) = omega (arith, ints)

  pub presence_growth : (a : Action) (db : List Row) (A : Atom) → atom_value db env A ≡ given one (stands env a db) →
      parts_value db env (presence_change a A) ≡ growth one a db
  presence_growth (Put t k vs) db A e =
      let first = one_times (pos 1) in
      let last = minus_value db env A in
      omega (arith, ints, first, last, e)
  presence_growth (Del t k) db A e = let last = minus_value db env A in omega (arith, ints, last, e)
  presence_growth (Set t k c v) db A e = sym (still_there (with_set env c v) (stands env (Set t k c v) db))
  presence_growth (Add t k c v) db A e = sym (still_there (with_added env c v) (stands env (Add t k c v) db))

  -- ---- columns

  cell_set : (c : ℕ) (x : ℤ) (r : Row) → c < length r.cols → cell c (set_cell c x r) ≡ x
  cell_set c x r h = get_or-set_same r.cols c x (pos 0) h

  cell_other : (c d : ℕ) (x : ℤ) (r : Row) → (d == c) ≡ false → cell c (set_cell d x r) ≡ cell c r
  cell_other c d x r h =
      get_or-set_other r.cols d c x (pos 0) (λ e. let t = (Decides-eqb d c).1 (sym e) in absurd (let f : true ≡ false = sym t ∙ h in cc))

  -- a row whose column d becomes x
  module _ (d : ℕ) (c : ℕ) (o : Option Row) (r : Row) (there : o ≡ Some r) (within : d < length r.cols) (x : Row → ℤ) where
    abbrev set_to : Row → Row
    set_to y = set_cell d (x y) y

    set_same : d ≡ c → given (cell c) (option_map set_to o) ≡ x r
    set_same e =
        ap (λ z. given (cell c) (option_map set_to z)) there ∙
        (ap (λ (z : ℕ). cell z (set_cell d (x r) r)) (sym e) ∙ cell_set d (x r) r within)

    set_other : (d == c) ≡ false → given (cell c) (option_map set_to o) -ℤ given (cell c) o ≡ pos 0
    set_other e =
        ap (λ z. given (cell c) (option_map set_to z) -ℤ given (cell c) z) there ∙ (let h = cell_other c d (x r) r e in
        omega (arith, ints, h))

  pub column_growth : (a : Action) (c : ℕ) (db : List Row) (A : Atom) → IsReady a db →
      atom_value db env A ≡ given (cell c) (stands env a db) → parts_value db env (column_change a c A) ≡ growth (cell c) a db
  column_growth (Put t k vs) c db A ready e =
      let both = parts-append db env (value_parts (slice_get vs c)) (minus A) in
      let first = value_parts_value db env vs c in
      let last = minus_value db env A in
      omega (arith, ints, both, first, last, e)
  column_growth (Del t k) c db A ready e = let last = minus_value db env A in omega (arith, ints, last, e)
  column_growth (Set t k d v) c db A ready e = by (d == c) refl
    where
      by : (b : Bool) → (d == c) ≡ b → parts_value db env (if b then lin_parts v ++ minus A else []) ≡ growth (cell c) (Set t k d v) db
      by true h =
          let both = parts-append db env (lin_parts v) (minus A) in
          let first = lin_parts_value db env v in
          let last = minus_value db env A in
          let new = set_same d c (stands env (Set t k d v) db) ready.0 ready.1 ready.2 (λ r. lin_value env v) ((Decides-eqb d c).0 h) in
          omega (arith, ints, both, first, last, e, new)
      by false h = sym (set_other d c (stands env (Set t k d v) db) ready.0 ready.1 ready.2 (λ r. lin_value env v) h)
  column_growth (Add t k d v) c db A ready e = by (d == c) refl
    where
      by : (b : Bool) → (d == c) ≡ b → parts_value db env (if b then lin_parts v else []) ≡ growth (cell c) (Add t k d v) db
      by true h =
          let s = (Decides-eqb d c).0 h in
          let first = lin_parts_value db env v in
          let new = set_same d c (stands env (Add t k d v) db) ready.0 ready.1 ready.2 (λ r. cell d r +ℤ lin_value env v) s in
          let old : given (cell c) (stands env (Add t k d v) db) ≡ cell d ready.0 =
          ap (given (cell c)) ready.1 ∙ ap (λ (z : ℕ). cell z ready.0) (sym s) in
          omega (arith, ints, first, new, old)
      by false h = sym (set_other d c (stands env (Add t k d v) db) ready.0 ready.1 ready.2 (λ r. cell d r +ℤ lin_value env v) h)
