-- The rows whose keys begin with a prefix are rows of their table.
use Rattle.std.proofs.Common.{◌≡◌, ℕ, ◌≤◌, ◌==◌, Bool, true, false, cond, not, ◌&&◌, List, [], ◌∷◌, ap, ◌∙◌, refl, arith, ℤ}
use Rattle.std.specs.Prelude.{filter}
use Rattle.std.specs.List.{sum_by, starts_with}
use Rattle.std.specs.Ordering.{int_eq}
use Rattle.std.proofs.lemmas.List.Filters.{sum_by-filter_both}
use Rattle.acc_base.specs.declared.tables.Row.{Row}
use Rattle.acc_base.specs.Tables.{is_under}
use Rattle.acc_store.specs.Rows.{in_table}

module _ (t : ℕ) (p : List ℤ) where
  abbrev under : Row → Bool
  under = is_under t p

  under_table : (rows : List Row) → filter under (in_table t rows) ≡ filter under rows
  under_table [] = refl
  under_table (r ∷ rows) = by (r.table == t) refl (under_table rows)
    where
      by : (b : Bool) → (r.table == t) ≡ b → filter under (in_table t rows) ≡ filter under rows →
          filter under (cond b (r ∷ in_table t rows) (in_table t rows)) ≡
          cond (b && starts_with int_eq r.key.parts p) (r ∷ filter under rows) (filter under rows)
      by true e ih =
          ap (λ b. cond (b && starts_with int_eq r.key.parts p) (r ∷ filter under (in_table t rows)) (filter under (in_table t rows))) e ∙
          ap (λ xs. cond (starts_with int_eq r.key.parts p) (r ∷ xs) xs) ih
      by false e ih = ih

  pub under_sum : (size : Row → ℕ) (rows : List Row) → sum_by size (filter under rows) ≤ sum_by size (in_table t rows)
  under_sum size rows =
      let parts = sum_by-filter_both under (λ r. not (under r)) (λ r. refl) size (in_table t rows) in
      let same = ap (sum_by size) (under_table rows) in
      omega (arith, parts, same)
