-- No row is found by a key or under a prefix of which a component is out of range.
use Rattle.std.proofs.Common.{◌≡◌, ℕ, zero, suc, ◌==◌, Bool, true, false, ◌&&◌, ◌||◌, List, [], ◌∷◌, All, ℤ, pos, refl, ap, sym, ◌∙◌, subst, map}
use Rattle.std.proofs.Common.{arith}
use Rattle.std.specs.Prelude.{filter, count_by, find, None, if◌then◌else◌}
use Rattle.std.specs.List.{list_all, list_any, starts_with}
use Rattle.std.specs.Ordering.{int_eq, is_eq}
use Rattle.std.proofs.lemmas.Bool.{false≢true, and_parts}
use Rattle.std.proofs.lemmas.Bool.Decides.{Decides-int_eq}
use Rattle.std.proofs.lemmas.List.Elements.{All-head, All-tail}
use Rattle.acc_base.specs.declared.tables.Row.{Row}
use Rattle.acc_base.specs.Numbers.{total, is_small, IsSmall}
use Rattle.acc_base.specs.Tables.{is_at, is_under, compared, cell, cell_of, has_row, column_of, count_of, sum_of}
use Rattle.acc_base.proofs.Places.{same_place, is_equal}
use Rattle.acc_audit_trial.specs.Trials.{AreKeyed}

small_test : (x : ℤ) → IsSmall x → is_small x ≡ true
small_test x h = grind (arith)

all_small : (xs : List ℤ) → All IsSmall xs → list_all is_small xs ≡ true
all_small [] h = refl
all_small (x ∷ xs) h =
    ap (λ b. b && list_all is_small xs) (small_test x (All-head IsSmall x xs h)) ∙ all_small xs (All-tail IsSmall x xs h)

-- a prefix of what is small is small
prefix_small : (xs p : List ℤ) → All IsSmall xs → starts_with int_eq xs p ≡ true → list_all is_small p ≡ true
prefix_small xs [] h s = refl
prefix_small [] (y ∷ p) h s = absurd (false≢true s)
prefix_small (x ∷ xs) (y ∷ p) h s =
    let a = and_parts (int_eq y x) (starts_with int_eq xs p) s in
    let same : y ≡ x = (Decides-int_eq y x).0 a.0 in
    ap (λ b. b && list_all is_small p) (small_test y (subst IsSmall (sym same) (All-head IsSmall x xs h)))
    ∙ prefix_small xs p (All-tail IsSmall x xs h) a.1

module _ (t : ℕ) (k : List ℤ) (far : list_all is_small k ≡ false) where
  not_under : (r : Row) → All IsSmall r.key.parts → is_under t k r ≡ false
  not_under r small = by (is_under t k r) refl
    where
      by : (b : Bool) → is_under t k r ≡ b → is_under t k r ≡ false
      by false e = e
      by true e =
          let a = and_parts (r.table == t) (starts_with int_eq r.key.parts k) e in
          absurd (false≢true (sym far ∙ prefix_small r.key.parts k small a.1))

  not_at : (r : Row) → All IsSmall r.key.parts → is_at t k r ≡ false
  not_at r small = by (is_at t k r) refl
    where
      by : (b : Bool) → is_at t k r ≡ b → is_at t k r ≡ false
      by false e = e
      by true e =
          let same = (same_place t k r (is_equal (compared t k r) e)).1 in
          absurd (false≢true (sym far ∙ all_small k (subst (All IsSmall) (sym same) small)))

  none_at : (db : List Row) → AreKeyed db → list_any (is_at t k) db ≡ false
  none_at [] h = refl
  none_at (r ∷ db) h =
      (λ i. not_at r (All-head (λ (r : Row). All IsSmall r.key.parts) r db h) i || list_any (is_at t k) db)
      ∙ none_at db (All-tail (λ (r : Row). All IsSmall r.key.parts) r db h)

  not_found : (db : List Row) → AreKeyed db → find (is_at t k) db ≡ None
  not_found [] h = refl
  not_found (r ∷ db) h =
      let e = not_at r (All-head (λ (r : Row). All IsSmall r.key.parts) r db h) in
      let rest = not_found db (All-tail (λ (r : Row). All IsSmall r.key.parts) r db h) in
      rw e rest

  none_under : (db : List Row) → AreKeyed db → filter (is_under t k) db ≡ []
  none_under [] h = refl
  none_under (r ∷ db) h =
      let e = not_under r (All-head (λ (r : Row). All IsSmall r.key.parts) r db h) in
      let rest = none_under db (All-tail (λ (r : Row). All IsSmall r.key.parts) r db h) in
      rw e rest

  none_counted : (db : List Row) → AreKeyed db → count_by (is_under t k) db ≡ 0
  none_counted [] h = refl
  none_counted (r ∷ db) h =
      let e = not_under r (All-head (λ (r : Row). All IsSmall r.key.parts) r db h) in
      let rest = none_counted db (All-tail (λ (r : Row). All IsSmall r.key.parts) r db h) in
      rw e rest

  pub far_row : (db : List Row) → AreKeyed db → pos 0 ≡ has_row db t k
  far_row db h = ap (λ b. if b then pos 1 else pos 0) (sym (none_at db h))

  pub far_column : (db : List Row) (c : ℕ) → AreKeyed db → pos 0 ≡ column_of db t k c
  far_column db c h = ap (cell_of c) (sym (not_found db h))

  pub far_count : (db : List Row) → AreKeyed db → pos 0 ≡ count_of db t k
  far_count db h = ap pos (sym (none_counted db h))

  pub far_sum : (db : List Row) (c : ℕ) → AreKeyed db → pos 0 ≡ sum_of db t k c
  far_sum db c h = ap (λ (rs : List Row). total (map (cell c) rs)) (sym (none_under db h))
