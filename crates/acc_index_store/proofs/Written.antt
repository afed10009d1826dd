-- What writes leave as it was: the order of rows, and the rows that they don't name.
use Rattle.std.proofs.Common.{◌≡◌, Bool, true, false, not, cond, List, [], ◌∷◌, refl, sym, ap, ◌∙◌, subst, Result, Ok, Err}
use Rattle.std.specs.Prelude.{filter, OnOk, OnErr}
use Rattle.std.specs.declared.cmp.Ordering.{Ordering}
use Rattle.std.specs.declared.cmp.Ordering.TheVariants.{Less, Equal, Greater}
use Rattle.std.proofs.lemmas.Bool.{or_left, or_right}
use Rattle.acc_base.specs.declared.tables.Row.{Row}
use Rattle.acc_base.specs.Tables.{Place, place_of, compared, is_at, put, put_here, drop_row, IsInOrder}
use Rattle.acc_base.proofs.Places.{one_place}
use Rattle.acc_base.proofs.RowOrder.{put_in_order, drop_in_order}
use Rattle.acc_store.specs.declared.stores.StoreError.{StoreError}
use Rattle.acc_store.specs.declared.writes.Write.{Write}
use Rattle.acc_store.specs.declared.writes.Write.TheVariants.{Row as Puts, Gone}
use Rattle.acc_store.specs.Rows.{write, written, SumsFit}
use Rattle.acc_index_store.specs.Indexes.{place_written, names, are_naming, others}
use Rattle.acc_index_store.proofs.Naming.{place_self, place_is}

order_write : (w : Write) (rows : List Row) → IsInOrder rows → IsInOrder (write w rows)
order_write (Puts r) rows order = put_in_order r rows order
order_write (Gone t k) rows order = drop_in_order t k.parts rows order

pub order_kept : (ws : List Write) (rows : List Row) → IsInOrder rows → IsInOrder (written ws rows)
order_kept [] rows order = order
order_kept (w ∷ ws) rows order = order_kept ws (write w rows) (order_write w rows order)

-- ---- rows that a test of their place leaves

module _ (test : Place → Bool) where
  abbrev passing : List Row → List Row
  passing rows = filter (λ r. test (place_of r)) rows

  left_out : (r : Row) (rows : List Row) → test (place_of r) ≡ false → passing (r ∷ rows) ≡ passing rows
  left_out r rows h = ap (λ b. cond b (r ∷ passing rows) (passing rows)) h

  passing_put : (new : Row) (rows : List Row) → test (place_of new) ≡ false → passing (put new rows) ≡ passing rows
  passing_put new [] h = left_out new [] h
  passing_put new (r ∷ rows) h = by (compared new.table new.key.parts r) refl (passing_put new rows h)
    where
      by : (o : Ordering) → compared new.table new.key.parts r ≡ o → passing (put new rows) ≡ passing rows →
          passing (put_here o new r rows (put new rows)) ≡ passing (r ∷ rows)
      by Less e ih = left_out new (r ∷ rows) h
      by Equal e ih =
          let here : test (place_of r) ≡ false = ap test (sym (one_place (place_of new) (place_of r) e)) ∙ h in
          left_out new rows h ∙ sym (left_out r rows here)
      by Greater e ih = ap (λ xs. cond (test (place_of r)) (r ∷ xs) xs) ih

  passing_drop : (p : Place) (rows : List Row) → test p ≡ false → passing (drop_row p.0 p.1 rows) ≡ passing rows
  passing_drop p [] h = refl
  passing_drop p (r ∷ rows) h = by (is_at p.0 p.1 r) refl (passing_drop p rows h)
    where
      by : (b : Bool) → is_at p.0 p.1 r ≡ b → passing (drop_row p.0 p.1 rows) ≡ passing rows →
          passing (cond b rows (r ∷ drop_row p.0 p.1 rows)) ≡ passing (r ∷ rows)
      by true e ih =
          let here : test (place_of r) ≡ false = ap test (sym (place_is p (place_of r) e)) ∙ h in
          sym (left_out r rows here)
      by false e ih = ap (λ xs. cond (test (place_of r)) (r ∷ xs) xs) ih

  passing_write : (w : Write) (rows : List Row) → test (place_written w) ≡ false → passing (write w rows) ≡ passing rows
  passing_write (Puts r) rows h = passing_put r rows h
  passing_write (Gone t k) rows h = passing_drop (t, k.parts) rows h

others_from : (ws vs : List Write) → ((p : Place) → are_naming vs p ≡ true → are_naming ws p ≡ true) → (rows : List Row) →
    others ws (written vs rows) ≡ others ws rows
others_from ws [] covers rows = refl
others_from ws (w ∷ vs) covers rows =
    let here : not (are_naming ws (place_written w)) ≡ false =
    ap not (covers (place_written w) (or_left (names (place_written w) w) (are_naming vs (place_written w)) (place_self
    (place_written w)))) in
    others_from ws vs (λ p h. covers p (or_right (names p w) (are_naming vs p) h)) (write w rows) ∙
    passing_write (λ p. not (are_naming ws p)) w rows here

pub others_kept : (ws : List Write) (rows : List Row) → others ws (written ws rows) ≡ others ws rows
others_kept ws rows = others_from ws ws (λ p h. h) rows

-- ---- a batch that is done, or not at all

module _ (ws : List Write) (old new : List Row) (done : Result (Unit {0}) StoreError) (ok : OnOk done (new ≡ written ws old))
    (err : OnErr done (new ≡ old)) where
  either : (P : List Row → Type 0) → P (written ws old) → P old → P new
  either P after same = by done ok err
    where
      by : (r : Result (Unit {0}) StoreError) → OnOk r (new ≡ written ws old) → OnErr r (new ≡ old) → P new
      by (Ok u) f g = subst P (sym f) after
      by (Err e) f g = subst P (sym g) same

  pub order_done : IsInOrder old → IsInOrder new
  order_done order = either IsInOrder (order_kept ws old order) order

  pub sums_done : SumsFit (written ws old) → SumsFit old → SumsFit new
  sums_done after before = either SumsFit after before

  pub others_done : others ws new ≡ others ws old
  others_done = either (λ rows. others ws rows ≡ others ws old) (others_kept ws old) refl
