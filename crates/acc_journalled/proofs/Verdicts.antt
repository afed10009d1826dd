-- Which conditions are true, one after the other.
use Rattle.std.proofs.Common.{◌≡◌, ℕ, zero, suc, ◌+◌, ◌-◌, ◌<◌, List, [], ◌∷◌, ◌++◌, length, Bool, true, false, refl, sym, ap, ◌∙◌}
use Rattle.std.proofs.Common.{Option, Some, None, All, find, get_or, arith, subst, inl, inr, ⊎_elim, add-one, Result, Ok, Err}
use Rattle.std.proofs.Common.{◌≤◌, ◌*◌, ◌^◌, ℤ, pos}
use Rattle.std.specs.Prelude.{◌≢◌, ◌⊎◌, IfOk, ◌&&◌, is_none, option_map, unsigned_abs, slice_index_or}
use Rattle.std.specs.List.{flat_map, range_with_len}
use Rattle.std.proofs.lemmas.List.{length-map, get_or_default}
use Rattle.std.proofs.lemmas.List.Elements.{All-nil, All-cons, All-weaker}
use Rattle.std.proofs.lemmas.Option.{none-some}
use Rattle.acc_base.specs.declared.designs.Design.{Design}
use Rattle.acc_base.specs.declared.tables.Row.{Row}
use Rattle.acc_base.specs.Invariant.{IsSteady, IsWithin as Spread}
use Rattle.acc_base.specs.Machine.{World}
use Rattle.acc_store.specs.Bounds.{IsWithin, AreWithin}
use Rattle.acc_store.specs.Rows.{SumsFit}
use Rattle.acc_store.proofs.Withins.{sums_fit}
use Rattle.tpcc_tables.proofs.RowFacts.{none_passes, one_passes}
use Rattle.tpcc_tables.specs.Conditions.{is_wrong, IsTrueOf}
use Rattle.tpcc_tables.specs.Schema.{IsSchemaOf, number_in}
use Rattle.tpcc_tables.specs.declared.kinds.Condition.TheVariants.{WarehouseDistricts}
use Rattle.tpcc_tables.specs.declared.kinds.TheConstants.{CONDITIONS}
use Rattle.tpcc_tables.specs.declared.tables.TableSet.{TableSet}
use Rattle.tpcc_tables.specs.declared.tables.TheConstants.{SCHEMA}
use Rattle.acc_page.specs.Written.{Written, Adds}
use Rattle.acc_base.specs.declared.tables.Key.{Key}
use Rattle.acc_journalled.proofs.Numbered.{flat_more}
use Rattle.acc_journalled.specs.Conditions.{false_key, condition_line, AreConsistent, EndsByRows, ending_by}

-- ---- a row that shows it

-- a key is found where a row is
no_key : (o : Option Row) → option_map (λ r. r.key) o ≡ None → o ≡ None
no_key None e = refl
no_key (Some r) e = absurd (none-some r.key (sym e))

module _ (s : TableSet) (db : List Row) where
  true_at : (n : ℕ) → false_key s db n ≡ None → IsTrueOf s db (get_or CONDITIONS (n - 1) WarehouseDistricts)
  true_at n e =
      none_passes (is_wrong (get_or CONDITIONS (n - 1) WarehouseDistricts) s db) db
      (no_key (find (is_wrong (get_or CONDITIONS (n - 1) WarehouseDistricts) s db) db) e)

  false_at : (n : ℕ) → false_key s db n ≢ None → ¬ IsTrueOf s db (get_or CONDITIONS (n - 1) WarehouseDistricts)
  false_at n some all =
      one_passes (is_wrong (get_or CONDITIONS (n - 1) WarehouseDistricts) s db) db
      (λ none. some (ap (option_map (λ r. r.key)) none)) all

  -- ---- all of them, or one that is false

  pub all_true : ((n : ℕ) → n < 9 → false_key s db (n + 1) ≡ None) → AreConsistent s db
  all_true h n d few =
      let place : n + 1 - 1 ≡ n = omega arith in
      subst (IsTrueOf s db) (ap (λ k. get_or CONDITIONS k WarehouseDistricts) place ∙ get_or_default CONDITIONS n WarehouseDistricts d few)
      (true_at (n + 1) (h n few))

  one_false : (n : ℕ) → n < 9 → false_key s db (n + 1) ≢ None → ¬ AreConsistent s db
  one_false n few some all =
      let place : n ≡ n + 1 - 1 = omega arith in
      false_at (n + 1) some (subst (λ k. IsTrueOf s db (get_or CONDITIONS k WarehouseDistricts)) place (all n WarehouseDistricts few))

  -- so many of them are true, or one of those is false
  abbrev pub AreTried : ℕ → Bool → Type 0
  AreTried many true = (n : ℕ) → n < many → false_key s db (n + 1) ≡ None
  AreTried many false = (n : ℕ) × (n < many) × (false_key s db (n + 1) ≢ None)

  pub none_tried : AreTried 0 true
  none_tried n few = absurd (omega (arith, few))

  below_or : (m n : ℕ) → m < n + 1 → (m < n) ⊎ (m ≡ n)
  below_or zero zero few = inr refl
  below_or zero (suc n) few = inl (omega arith)
  below_or (suc m) zero few = absurd (omega (arith, few))
  below_or (suc m) (suc n) few =
      ⊎_elim (λ less. inl (omega (arith, less))) (λ same. inr (ap suc same)) (below_or m n (omega (arith, few)))

  one_more_true : (n : ℕ) → AreTried n true → false_key s db (n + 1) ≡ None → AreTried (n + 1) true
  one_more_true n so here m few =
      ⊎_elim (λ less. so m less) (λ same. subst (λ (k : ℕ). false_key s db (k + 1) ≡ None) (sym same) here) (below_or m n few)

  -- one condition more is tried
  pub tried_next : (n : ℕ) (all next : Bool) (found : Option Key) → AreTried n all → found ≡ false_key s db (n + 1)
      → next ≡ (all && is_none found) → AreTried (n + 1) next
  tried_next n true next None so is e = subst (AreTried (n + 1)) (sym e) (one_more_true n so (sym is))
  tried_next n true next (Some key) so is e =
      subst (AreTried (n + 1)) (sym e) (n, omega arith, λ none. none-some key (sym (is ∙ none)))
  tried_next n false next found so is e = let few = so.1 in subst (AreTried (n + 1)) (sym e) (so.0, omega (arith, few), so.2)

  -- and told
  pub line_next : (n : ℕ) (old new : Written) (found : Option Key)
      → (old.cut ≡ false → old.text ≡ flat_map (λ k. condition_line k (false_key s db k)) (range_with_len 1 n))
      → Adds old new (condition_line (n + 1) found) → found ≡ false_key s db (n + 1) → new.cut ≡ false
      → new.text ≡ flat_map (λ k. condition_line k (false_key s db k)) (range_with_len 1 (n + 1))
  line_next n old new found so adds is whole =
      let F : ℕ → List ℕ = λ k. condition_line k (false_key s db k) in
      let added = adds whole in
      let place : n + 1 ≡ 1 + n = omega arith in
      added.1 ∙ ap (λ (t : List ℕ). t ++ condition_line (n + 1) found) (so added.0)
      ∙ ap (λ (o : Option Key). flat_map F (range_with_len 1 n) ++ condition_line (n + 1) o) is
      ∙ ap (λ (k : ℕ). flat_map F (range_with_len 1 n) ++ F k) place ∙ sym (flat_more F 1 n)
      ∙ ap (λ (k : ℕ). flat_map F (range_with_len 1 k)) (sym (add-one n))

  pub ends_by_rows : (all : Bool) → AreTried 9 all → EndsByRows s db (ending_by all)
  ends_by_rows true h = inl (refl, all_true h)
  ends_by_rows false h = inr (refl, one_false h.0 h.1 h.2)

-- ---- what trying them asks for

-- a set of the schema's tables has eleven
pub eleven_tables : (s : TableSet) (d : Design) → IsSchemaOf s d → length s.tables ≡ 11
eleven_tables s d h = sym (length-map s.tables Some) ∙ ap length h ∙ length-map SCHEMA (number_in d.tables)

cols_within : (n : ℕ) (cols : List ℤ) → ((c : ℕ) → unsigned_abs (slice_index_or cols c (pos 0)) ≤ n)
    → All (λ v. unsigned_abs v ≤ n) cols
cols_within n [] h = All-nil (λ v. unsigned_abs v ≤ n)
cols_within n (x ∷ cols) h = All-cons (λ v. unsigned_abs v ≤ n) x cols (h 0) (cols_within n cols (λ c. h (suc c)))

-- the columns of a steady state add up
pub steady_sums : (d : Design) (w : World) → IsSteady d w → SumsFit w.rows
steady_sums d w s =
    let few = s.few in
    let ends = s.ends in
    let short : length w.events ≤ 2 ^ 24 = omega (arith, ends) in
    let within : AreWithin (2 ^ 70) w.rows =
    All-weaker (Spread (2 ^ 45 * (1 + length w.events))) (IsWithin (2 ^ 70))
    (λ r h. cols_within (2 ^ 70) r.cols (λ c. let near = h c in omega (arith, near, short))) w.rows s.bounded in
    sums_fit (2 ^ 28) (2 ^ 70) w.rows (omega (arith, few, short)) within (omega arith)

-- ---- answers

pub both_ok : {X E : Type 0} (r : Result X E) (P Q : X → Type 0) → IfOk r P → IfOk r Q → IfOk r (λ x. P x × Q x)
both_ok (Ok x) P Q p q = (p, q)
both_ok (Err e) P Q p q = tt
