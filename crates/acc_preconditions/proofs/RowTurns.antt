-- What an action makes of the row at its place, what a look-up finds then, and what becomes of sums over rows.
use Rattle.std.proofs.Common.{◌≡◌, ℕ, Bool, true, false, cond, List, [], ◌∷◌, refl, ap, sym, ◌∙◌, arith, Option, Some, None, ℤ, ◌+ℤ◌, ◌-ℤ◌}
use Rattle.std.proofs.Common.{if◌then◌else◌}
use Rattle.std.specs.Prelude.{find}
use Rattle.std.specs.Option.{option_map}
use Rattle.std.specs.declared.cmp.Ordering.{Ordering}
use Rattle.std.specs.declared.cmp.Ordering.TheVariants.{Less, Equal, Greater}
use Rattle.std.specs.Ordering.{is_eq}
use Rattle.std.specs.Cmp.{alike_right}
use Rattle.std.proofs.lemmas.Int.{ints}
use Rattle.acc_base.specs.declared.tables.Row.{Row}
use Rattle.acc_base.specs.declared.forms.Lin.{Lin}
use Rattle.acc_base.specs.declared.steps.Action.{Action}
use Rattle.acc_base.specs.declared.steps.Action.TheVariants.{Put, Del, Set, Add}
use Rattle.acc_base.specs.Tables.{Place, place_of, place_cmp, IsInOrder, is_at, drop_row, change_row, set_cell, cell}
use Rattle.acc_base.specs.Linear.{lin_value, lin_values}
use Rattle.acc_base.specs.Actions.{after_action, acted_table}
use Rattle.acc_base.proofs.Places.{place_total, one_place, is_equal}
use Rattle.acc_base.proofs.RowOrder.{order_from}
use Rattle.acc_base.proofs.Lookups.{find_put, find_dropped, find_kept}
use Rattle.acc_preconditions.specs.Changes.{key_of}
use Rattle.acc_instanced.proofs.RowSums.{given, row_sum}
use Rattle.acc_preconditions.proofs.RowSums.{row_sum-put, row_sum-drop, row_sum-change}

-- the row that an action puts
abbrev pub put_row : List ℤ → ℕ → List Lin → List Lin → Row
put_row env t k vs = record { table = t; key = record { parts = lin_values env k }; cols = lin_values env vs }

-- what a `set` or an `add` does with the row
abbrev pub with_set : List ℤ → ℕ → Lin → Row → Row
with_set env c v = set_cell c (lin_value env v)

abbrev pub with_added : List ℤ → ℕ → Lin → Row → Row
with_added env c v r = set_cell c (cell c r +ℤ lin_value env v) r

-- what stands at the action's place afterwards
abbrev pub becomes : List ℤ → Action → Option Row → Option Row
becomes env (Put t k vs) o = Some (put_row env t k vs)
becomes env (Del t k) o = None
becomes env (Set t k c v) o = option_map (with_set env c v) o
becomes env (Add t k c v) o = option_map (with_added env c v) o

-- the action's place
abbrev pub action_place : List ℤ → Action → Place
action_place env a = (acted_table a, lin_values env (key_of a))

-- ---- a changed row

module _ (q : Place) (g : Row → Row) (same : (r : Row) → place_of (g r) ≡ place_of r) where
  pub find_changed : (p : Place) (db : List Row) →
      find (is_at p.0 p.1) (change_row q.0 q.1 g db) ≡
      (if is_eq (place_cmp p q) then option_map g (find (is_at q.0 q.1) db) else find (is_at p.0 p.1) db)
  find_changed p db = by (place_cmp p q) refl
    where
      here : p ≡ q → (rows : List Row) → find (is_at q.0 q.1) (change_row q.0 q.1 g rows) ≡ option_map g (find (is_at q.0 q.1) rows)
      here e [] = refl
      here e (r ∷ rows) = at (is_at q.0 q.1 r) refl (here e rows)
        where
          at : (b : Bool) → is_at q.0 q.1 r ≡ b → find (is_at q.0 q.1) (change_row q.0 q.1 g rows) ≡ option_map g
              (find (is_at q.0 q.1) rows) → find (is_at q.0 q.1) (if b then (g r ∷ rows) else (r ∷ change_row q.0 q.1 g rows)) ≡ option_map
              g (cond b (Some r) (find (is_at q.0 q.1) rows))
          at true h ih = ap (λ z. cond z (Some (g r)) (find (is_at q.0 q.1) rows)) (ap (λ z. is_eq (place_cmp q z)) (same r) ∙ h)
          at false h ih = ap (λ z. cond z (Some r) (find (is_at q.0 q.1) (change_row q.0 q.1 g rows))) h ∙ ih

      other : is_eq (place_cmp p q) ≡ false → (rows : List Row) →
          find (is_at p.0 p.1) (change_row q.0 q.1 g rows) ≡ find (is_at p.0 p.1) rows
      other n [] = refl
      other n (r ∷ rows) = at (is_at q.0 q.1 r) refl (is_at p.0 p.1 r) refl (other n rows)
        where
          both : is_at q.0 q.1 r ≡ true → is_at p.0 p.1 r ≡ true → ⊥
          both eq ep =
              let pq : place_cmp p q ≡ Equal = alike_right place_total q (place_of r) p (is_equal (place_cmp q (place_of r)) eq) ∙ is_equal
              (place_cmp p (place_of r)) ep in
              let t : is_eq (place_cmp p q) ≡ true = ap is_eq pq in
              let f : true ≡ false = sym t ∙ n in cc

          at : (b : Bool) → is_at q.0 q.1 r ≡ b → (c : Bool) → is_at p.0 p.1 r ≡ c →
              find (is_at p.0 p.1) (change_row q.0 q.1 g rows) ≡ find (is_at p.0 p.1) rows →
              find (is_at p.0 p.1) (if b then (g r ∷ rows) else (r ∷ change_row q.0 q.1 g rows)) ≡ cond c (Some r)
              (find (is_at p.0 p.1) rows)
          at true eq true ep ih = absurd (both eq ep)
          at true eq false ep ih = ap (λ z. cond z (Some (g r)) (find (is_at p.0 p.1) rows)) (ap (λ z. is_eq (place_cmp p z)) (same r) ∙ ep)
          at false eq c ep ih = ap (λ z. cond z (Some r) (find (is_at p.0 p.1) (change_row q.0 q.1 g rows))) ep ∙ ap
              (λ z. cond c (Some r) z) ih

      by : (o : Ordering) → place_cmp p q ≡ o → find (is_at p.0 p.1) (change_row q.0 q.1 g db) ≡
          (if is_eq o then option_map g (find (is_at q.0 q.1) db) else find (is_at p.0 p.1) db)
      by Less e = other (ap is_eq e) db
      by Equal e = let s = one_place p q e in ap (λ z. find (is_at z.0 z.1) (change_row q.0 q.1 g db)) s ∙ here s db
      by Greater e = other (ap is_eq e) db

-- ---- one action

find_after_drop : (p q : Place) (db : List Row) → IsInOrder db →
    find (is_at p.0 p.1) (drop_row q.0 q.1 db) ≡ (if is_eq (place_cmp p q) then None else find (is_at p.0 p.1) db)
find_after_drop p q db order = by (place_cmp p q) refl
  where
    by : (o : Ordering) → place_cmp p q ≡ o → find (is_at p.0 p.1) (drop_row q.0 q.1 db) ≡
        (if is_eq o then None else find (is_at p.0 p.1) db)
    by Less e = find_kept p q db (ap is_eq e)
    by Equal e = find_dropped p q db e order
    by Greater e = find_kept p q db (ap is_eq e)

module _ (env : List ℤ) where
  abbrev pub stands : Action → List Row → Option Row
  stands a db = find (is_at (acted_table a) (lin_values env (key_of a))) db

  pub find_after : (a : Action) (p : Place) (db : List Row) → IsInOrder db →
      find (is_at p.0 p.1) (after_action env a db) ≡
      (if is_eq (place_cmp p (action_place env a)) then becomes env a (stands a db) else find (is_at p.0 p.1) db)
  find_after (Put t k vs) p db order = find_put p (put_row env t k vs) db
  find_after (Del t k) p db order = find_after_drop p (t, lin_values env k) db order
  find_after (Set t k c v) p db order = find_changed (t, lin_values env k) (with_set env c v) (λ r. refl) p db
  find_after (Add t k c v) p db order = find_changed (t, lin_values env k) (with_added env c v) (λ r. refl) p db

  mapped : (f : Row → ℤ) (g : Row → Row) (o : Option Row) → given (λ r. f (g r)) o ≡ given f (option_map g o)
  mapped f g None = refl
  mapped f g (Some r) = refl

  pub row_sum_after : (f : Row → ℤ) (a : Action) (db : List Row) → IsInOrder db →
      row_sum f (after_action env a db) ≡ (row_sum f db -ℤ given f (stands a db)) +ℤ given f (becomes env a (stands a db))
  row_sum_after f (Put t k vs) db order =
      let h = row_sum-put f (put_row env t k vs) db (order_from db order) in omega (arith, ints, h)
  row_sum_after f (Del t k) db order =
      let h = row_sum-drop f t (lin_values env k) db in omega (arith, ints, h)
  row_sum_after f (Set t k c v) db order =
      row_sum-change f t (lin_values env k) (with_set env c v) db ∙ ap
      (λ z. (row_sum f db -ℤ given f (find (is_at t (lin_values env k)) db)) +ℤ z)
      (mapped f (with_set env c v) (find (is_at t (lin_values env k)) db))
  row_sum_after f (Add t k c v) db order =
      row_sum-change f t (lin_values env k) (with_added env c v) db ∙ ap
      (λ z. (row_sum f db -ℤ given f (find (is_at t (lin_values env k)) db)) +ℤ z)
      (mapped f (with_added env c v) (find (is_at t (lin_values env k)) db))
