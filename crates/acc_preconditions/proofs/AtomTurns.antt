-- What an action adds to the value of an atom.
use Rattle.std.proofs.Common.{◌≡◌, ◌≤◌, ℕ, Bool, true, false, List, [], length, take, refl, ap, sym, ◌∙◌, arith, Option, Some, None, ℤ, pos}
use Rattle.std.proofs.Common.{◌+ℤ◌, if◌then◌else◌, ◌==◌}
use Rattle.std.specs.Prelude.{find, ◌&&◌}
use Rattle.std.specs.List.{starts_with, list_all}
use Rattle.std.specs.Ordering.{int_eq, is_eq}
use Rattle.std.specs.declared.cmp.Ordering.{Ordering}
use Rattle.std.specs.declared.cmp.Ordering.TheVariants.{Less, Equal, Greater}
use Rattle.std.proofs.lemmas.Int.{ints}
use Rattle.std.proofs.lemmas.List.{length-map, take_all}
use Rattle.std.proofs.lemmas.Bool.Decides.{Decides-eqb}
use Rattle.acc_base.specs.declared.tables.Row.{Row}
use Rattle.acc_base.specs.declared.forms.Lin.{Lin}
use Rattle.acc_base.specs.declared.forms.Atom.{Atom}
use Rattle.acc_base.specs.declared.forms.Atom.TheVariants.{One, Var, Has, Col, Count, Sum}
use Rattle.acc_base.specs.declared.steps.Action.{Action}
use Rattle.acc_base.specs.declared.steps.Action.TheVariants as action
use Rattle.acc_base.specs.Atoms.{key_of as atom_key}
use Rattle.acc_base.specs.Equality.{ints_decide}
use Rattle.acc_base.specs.Tables.{Place, place_of, place_cmp, IsInOrder, is_at, is_under, cell, cell_of, has_row, column_of}
use Rattle.acc_base.specs.Linear.{lin_value, lin_values}
use Rattle.acc_base.specs.Actions.{after_action, acted_table}
use Rattle.acc_base.specs.Truth.{atom_value, is_lin_zero}
use Rattle.acc_base.proofs.Places.{one_place}
use Rattle.acc_base.proofs.Lookups.{found_at, any_none, any_some}
use Rattle.acc_preconditions.specs.Unders.{differences}
use Rattle.acc_instanced.specs.Summands.{Part}
use Rattle.acc_preconditions.specs.Changes.{key_of, presence_change, column_change, change}
use Rattle.acc_instanced.proofs.RowSums.{given, row_sum, where_passes, one, count_is, total_is}
use Rattle.acc_preconditions.proofs.RowTurns.{put_row, becomes, stands, action_place, with_set, with_added, find_after, row_sum_after}
use Rattle.acc_instanced.proofs.PartValues.{parts_value}
use Rattle.acc_preconditions.proofs.Growths.{IsReady, growth, presence_growth, column_growth}
use Rattle.acc_instanced.proofs.RowPlaces.{same_place}
use Rattle.acc_preconditions.proofs.Meetings.{meets_where_zero}

-- ---- a row at a place, under a prefix

given_under : (p : Place) (o : Option Row) → ((r : Row) → o ≡ Some r → p ≡ place_of r) → (u : ℕ) (q : List ℤ) (v : Row → ℤ) →
    given (where_passes (is_under u q) v) o ≡ (if (p.0 == u) && starts_with int_eq p.1 q then given v o else pos 0)
given_under p None at u q v = by ((p.0 == u) && starts_with int_eq p.1 q)
  where
    by : (b : Bool) → pos 0 ≡ (if b then pos 0 else pos 0)
    by true = refl
    by false = refl
given_under p (Some r) at u q v = ap (λ (z : Place). if (z.0 == u) && starts_with int_eq z.1 q then v r else pos 0) (sym (at r refl))

-- ---- has and columns as what a row gives

has_is : (db : List Row) (t : ℕ) (k : List ℤ) → has_row db t k ≡ given one (find (is_at t k) db)
has_is db t k = by (find (is_at t k) db) refl
  where
    by : (o : Option Row) → find (is_at t k) db ≡ o → has_row db t k ≡ given one o
    by None e = ap (λ b. if b then pos 1 else pos 0) (any_none (is_at t k) db e)
    by (Some r) e = ap (λ b. if b then pos 1 else pos 0) (any_some (is_at t k) db r e)

column_is : (db : List Row) (t : ℕ) (k : List ℤ) (c : ℕ) → column_of db t k c ≡ given (cell c) (find (is_at t k) db)
column_is db t k c = by (find (is_at t k) db)
  where
    by : (o : Option Row) → cell_of c o ≡ given (cell c) o
    by None = refl
    by (Some r) = refl

module _ (env : List ℤ) (a : Action) (db : List Row) (order : IsInOrder db) where
  abbrev pub after : List Row
  after = after_action env a db

  abbrev pub key : List ℤ
  key = lin_values env (key_of a)

  abbrev now : Option Row
  now = stands env a db

  at_place : (r : Row) → now ≡ Some r → action_place env a ≡ place_of r
  at_place r e = found_at (action_place env a) db r e

  becomes_at : (r : Row) → becomes env a now ≡ Some r → action_place env a ≡ place_of r
  becomes_at r e = by a now at_place e
    where
      by : (x : Action) (o : Option Row) → ((y : Row) → o ≡ Some y → action_place env x ≡ place_of y) → becomes env x o ≡ Some r →
          action_place env x ≡ place_of r
      by (action.Put t k vs) o at h = let s : put_row env t k vs ≡ r = cc in ap (λ (z : Row). place_of z) s
      by (action.Del t k) o at h = absurd (cc)
      by (action.Set t k c v) None at h = absurd (cc)
      by (action.Set t k c v) (Some y) at h = let s : with_set env c v y ≡ r = cc in at y refl ∙ ap (λ (z : Row). place_of z) s
      by (action.Add t k c v) None at h = absurd (cc)
      by (action.Add t k c v) (Some y) at h = let s : with_added env c v y ≡ r = cc in at y refl ∙ ap (λ (z : Row). place_of z) s

  -- the action's key begins with q, in table u
  abbrev pub touches : ℕ → List ℤ → Bool
  touches u q = (acted_table a == u) && starts_with int_eq key q

  -- what the rows under a prefix give together
  sum_turn : (u : ℕ) (q : List ℤ) (v : Row → ℤ) →
      row_sum (where_passes (is_under u q) v) after ≡ row_sum (where_passes (is_under u q) v) db +ℤ
      (if touches u q then growth env v a db else pos 0)
  sum_turn u q v = by (touches u q) (given_under (action_place env a) now at_place u q v)
      (given_under (action_place env a) (becomes env a now) becomes_at u q v)
    where
      by : (b : Bool) → given (where_passes (is_under u q) v) now ≡ (if b then given v now else pos 0) →
          given (where_passes (is_under u q) v) (becomes env a now) ≡ (if b then given v (becomes env a now) else pos 0) →
          row_sum (where_passes (is_under u q) v) after ≡ row_sum (where_passes (is_under u q) v) db +ℤ
          (if b then growth env v a db else pos 0)
      by true e g = let h = row_sum_after env (where_passes (is_under u q) v) a db order in omega (arith, ints, h, e, g)
      by false e g = let h = row_sum_after env (where_passes (is_under u q) v) a db order in omega (arith, ints, h, e, g)

  -- what the row at a place gives
  row_turn : (u : ℕ) (q : List ℤ) (v : Row → ℤ) → (acted_table a ≡ u → length q ≡ length key) →
      given v (find (is_at u q) after) ≡ given v (find (is_at u q) db) +ℤ (if touches u q then growth env v a db else pos 0)
  row_turn u q v long =
      ap (given v) (find_after env a (u, q) db order) ∙
      (by (place_cmp (u, q) (action_place env a)) refl ∙ ap
      (λ b. given v (find (is_at u q) db) +ℤ (if b then growth env v a db else pos 0)) (same_place (acted_table a) u key q long))
    where
      by : (o : Ordering) → place_cmp (u, q) (action_place env a) ≡ o →
          given v (if is_eq o then becomes env a now else find (is_at u q) db) ≡ given v (find (is_at u q) db) +ℤ
          (if is_eq o then growth env v a db else pos 0)
      by Less e = omega (arith, ints)
      by Equal e =
          let s = one_place (u, q) (action_place env a) e in
          let h = ap (λ (z : Place). given v (find (is_at z.0 z.1) db)) s in
          omega (arith, ints, h)
      by Greater e = omega (arith, ints)

  -- ---- atoms

  -- the action's key is that of an atom, or begins with its prefix
  abbrev pub meets : Atom → Bool
  meets A = list_all (is_lin_zero env) (differences (atom_key A) (key_of a))

  abbrev pub gain : Atom → ℤ
  gain A = if meets A then parts_value db env (change a A) else pos 0

  none : (b : Bool) → (if b then pos 0 else pos 0) ≡ pos 0
  none true = refl
  none false = refl

  -- what a change by table gives: nothing in another table, and the growth in the action's
  module _ (u : ℕ) (q : List Lin) (fits : acted_table a ≡ u → length q ≤ length (key_of a)) where
    abbrev zeros : Bool
    zeros = list_all (is_lin_zero env) (differences q (key_of a))

    pub gained_by : (parts : List Part) (v : Row → ℤ) →
        (acted_table a ≡ u → starts_with int_eq key (lin_values env q) ≡ true → parts_value db env parts ≡ growth env v a db) →
        (if zeros then parts_value db env (if acted_table a == u then parts else []) else pos 0) ≡
        (if touches u (lin_values env q) then growth env v a db else pos 0)
    gained_by parts v worth = by (acted_table a == u) refl
      where
        at : (s : Bool) → starts_with int_eq key (lin_values env q) ≡ s → acted_table a ≡ u →
            (if s then parts_value db env parts else pos 0) ≡ (if s then growth env v a db else pos 0)
        at true e t = worth t e
        at false e t = refl

        by : (b : Bool) → (acted_table a == u) ≡ b →
            (if zeros then parts_value db env (if b then parts else []) else pos 0) ≡
            (if b && starts_with int_eq key (lin_values env q) then growth env v a db else pos 0)
        by true e =
            let t = (Decides-eqb (acted_table a) u).0 e in
            ap (λ b. if b then parts_value db env parts else pos 0) (meets_where_zero env q (key_of a) (fits t)) ∙ at
            (starts_with int_eq key (lin_values env q)) refl t
        by false e = none zeros

  -- keys that are as long as each other are the same where one begins with the other
  same_key : (q : List Lin) → length q ≡ length (key_of a) → starts_with int_eq key (lin_values env q) ≡ true → lin_values env q ≡ key
  same_key q long e =
      let n = length-map q (lin_value env) in
      let m = length-map (key_of a) (lin_value env) in
      (ints_decide (lin_values env q) (take (length (lin_values env q)) key)).0 e ∙ take_all (length (lin_values env q)) key
      (omega (arith, n, m, long))

  as_long : (q : List Lin) → length q ≡ length (key_of a) → length (lin_values env q) ≡ length key
  as_long q long = length-map q (lin_value env) ∙ (long ∙ sym (length-map (key_of a) (lin_value env)))

  -- an atom of the action's table has a key as long as the action's, or a prefix that is no longer
  abbrev pub IsLong : Atom → Type 0
  IsLong One = Unit {0}
  IsLong (Var x) = Unit {0}
  IsLong (Has u q) = acted_table a ≡ u → length q ≡ length (key_of a)
  IsLong (Col u q c) = acted_table a ≡ u → length q ≡ length (key_of a)
  IsLong (Count u q) = acted_table a ≡ u → length q ≤ length (key_of a)
  IsLong (Sum u q c) = acted_table a ≡ u → length q ≤ length (key_of a)

  at_most : (q : List Lin) → length q ≡ length (key_of a) → length q ≤ length (key_of a)
  at_most q e = omega arith

  own_has : (u : ℕ) (q : List Lin) → acted_table a ≡ u → lin_values env q ≡ key → has_row db u (lin_values env q) ≡ given one now
  own_has u q t k =
      has_is db u (lin_values env q) ∙ (ap (λ (z : List ℤ). given one (find (is_at u z) db)) k ∙ ap
      (λ (z : ℕ). given one (find (is_at z key) db)) (sym t))

  own_column : (u : ℕ) (q : List Lin) (c : ℕ) → acted_table a ≡ u → lin_values env q ≡ key →
      column_of db u (lin_values env q) c ≡ given (cell c) now
  own_column u q c t k =
      column_is db u (lin_values env q) c ∙ (ap (λ (z : List ℤ). given (cell c) (find (is_at u z) db)) k ∙ ap
      (λ (z : ℕ). given (cell c) (find (is_at z key) db)) (sym t))

  pub atom_turn : (A : Atom) → IsLong A → IsReady env a db → atom_value after env A ≡ atom_value db env A +ℤ gain A
  atom_turn One long ready = omega (arith, ints)
  atom_turn (Var x) long ready = omega (arith, ints)
  atom_turn (Has u q) long ready =
      let turn = row_turn u (lin_values env q) one (λ t. as_long q (long t)) in
      let first = has_is after u (lin_values env q) in
      let last = has_is db u (lin_values env q) in
      let gains = gained_by u q (λ t. at_most q (long t)) (presence_change a (Has u q)) one
      (λ t e. presence_growth env a db (Has u q) (own_has u q t (same_key q (long t) e))) in
      omega (arith, ints, turn, first, last, gains)
  atom_turn (Col u q c) long ready =
      let turn = row_turn u (lin_values env q) (cell c) (λ t. as_long q (long t)) in
      let first = column_is after u (lin_values env q) c in
      let last = column_is db u (lin_values env q) c in
      let gains = gained_by u q (λ t. at_most q (long t)) (column_change a c (Col u q c)) (cell c)
      (λ t e. column_growth env a c db (Col u q c) ready (own_column u q c t (same_key q (long t) e))) in
      omega (arith, ints, turn, first, last, gains)
  atom_turn (Count u q) long ready =
      let turn = sum_turn u (lin_values env q) one in
      let first = count_is (is_under u (lin_values env q)) after in
      let last = count_is (is_under u (lin_values env q)) db in
      let gains = gained_by u q long (presence_change a (Has u (key_of a))) one
      (λ t e. presence_growth env a db (Has u (key_of a)) (own_has u (key_of a) t refl)) in
      omega (arith, ints, turn, first, last, gains)
  atom_turn (Sum u q c) long ready =
      let turn = sum_turn u (lin_values env q) (cell c) in
      let first = total_is (is_under u (lin_values env q)) (cell c) after in
      let last = total_is (is_under u (lin_values env q)) (cell c) db in
      let gains = gained_by u q long (column_change a c (Col u (key_of a) c)) (cell c)
      (λ t e. column_growth env a c db (Col u (key_of a) c) ready (own_column u (key_of a) c t refl)) in
      omega (arith, ints, turn, first, last, gains)
