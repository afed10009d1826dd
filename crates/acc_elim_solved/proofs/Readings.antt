-- Relations that are read are met where their rows are.
use Rattle.std.proofs.Common.{◌≡◌, ℕ, suc, ◌<◌, Bool, true, false, List, [], ◌∷◌, length, Ok, Err, refl, ap, sym, ◌∙◌, subst, arith, ℤ, pos}
use Rattle.std.proofs.Common.{◌+ℤ◌, ◌*ℤ◌, if◌then◌else◌}
use Rattle.std.specs.Prelude.{All, IsTrue, Option, Some, None, map, int_lt, int_le, ◌||◌}
use Rattle.std.specs.Option.{option_map_or}
use Rattle.std.specs.Ordering.{int_eq}
use lib.Signed.{◌<ℤ◌, ◌≤ℤ◌}
use lib.IntN.{*ℤ_comm, *ℤ-zero, zero-*ℤ}
use Rattle.std.proofs.lemmas.Int.{ints}
use Rattle.std.proofs.lemmas.Bool.Decides.{Decides-int_eq}
use Rattle.std.proofs.lemmas.List.Elements.{All-nil, All-head, All-tail, All-cons}
use Rattle.acc_base.specs.declared.forms.Unknown.{Unknown}
use Rattle.acc_base.specs.declared.forms.Rel.{Rel}
use Rattle.acc_base.specs.Numbers.{total}
use Rattle.acc_base.proofs.Products.{sum_times}
use Rattle.acc_rows.specs.declared.rows.Row.{Row}
use Rattle.acc_base.specs.Computing.{chain, steps}
use Rattle.acc_rows.specs.Answers.{Computation}
use Rattle.acc_base.specs.Collecting.{worth}
use Rattle.acc_base.specs.UnknownEquality.{is_bare_one}
use Rattle.acc_elim_systems.specs.Made.{Ordered, IsProper}
use Rattle.acc_rows.specs.Numbers.{kept}
use Rattle.acc_rows.specs.Sparse.{Sparse, mixed}
use Rattle.acc_elim_systems.specs.Systems.{eliminated}
use Rattle.acc_elim_points.specs.Fractions.{Fraction}
use Rattle.acc_elim_points.specs.Points.{Point, value, point_of}
use Rattle.acc_elim_readings.specs.Readings.{place_of, unknowns_of, read_number, with_number, read_term, row_of, rows_from}
use Rattle.acc_elim_points.specs.Searches.{searched}
use Rattle.acc_elim_solved.specs.Meetings.{value_at, plus_exactly, sum_at, form_at, is_met, is_above, Meets, SearchedIsMet}
use Rattle.acc_rows.proofs.Worths.{Gives, gives_chain}
use Rattle.acc_rows.proofs.Entries.{mixed_all}
use Rattle.acc_elim_readings.proofs.Names.{place_below}
use Rattle.acc_elim_points.proofs.Refuting.{part, unit, read_worth, constant_some, row_ordered}
use Rattle.acc_elim_solved.proofs.Ints.{above_times, below_times, cancel_below, cancel_zero, above_other, Other}
use Rattle.acc_elim_solved.proofs.Values.{Holds, holds_chain, holds_weaker, held, from_gives, Worth, sum_worth}
use Rattle.acc_elim_solved.proofs.Points.{Worths, row_worth}
use Rattle.acc_elim_solved.proofs.Mixes.{other}
use Rattle.acc_elim_solved.proofs.Admits.{MetBy, Met}
use Rattle.acc_elim_solved.proofs.Asides.{MeetsAt}
use Rattle.acc_elim_solved.proofs.Wholes.{Readable, point_meets}
use Rattle.acc_elim_solved.proofs.LowestTerms.{Lowest, anything, point_lowest, all_lowest}

module _ (names : List Unknown) where
  -- ---- the unknowns of a row are among the names, and no coefficient is 0

  one_of : (m : ℤ) → pos 1 *ℤ m ≡ m
  one_of m = omega (arith, ints)

  abbrev Fine : ℕ × ℤ → Type 0
  Fine m = IsProper (length names) m

  mixed_fine : (terms : Sparse) (n : ℤ) (k : ℕ) → int_eq n (pos 0) ≡ false → k < length names → All Fine terms
      → Gives (mixed (pos 1) (pos 1) terms ((k, n) ∷ [])) (All Fine)
  mixed_fine terms n k e l all =
      mixed_all Fine (pos 1) (pos 1) Fine Fine (λ u m h. (h.0, subst (λ z. Other z) (sym (one_of m)) h.1))
      (λ u m h. (h.0, subst (λ z. Other z) (sym (one_of m)) h.1)) (λ u m k h g i. (h.0, other (pos 1 *ℤ m +ℤ pos 1 *ℤ k) i)) terms
      ((k, n) ∷ []) all (All-cons Fine (k, n) [] (l, other n e) (All-nil Fine))

  term_fine : (terms : Sparse) (n : ℤ) → All Fine terms → (one b : Bool) (place : Option ℕ) → int_eq n (pos 0) ≡ b
      → ((k : ℕ) → place ≡ Some k → k < length names)
      → Gives (if one || b then Ok terms else option_map_or (with_number terms n) place (Ok terms)) (All Fine)
  term_fine terms n all true b place e below = all
  term_fine terms n all false true place e below = all
  term_fine terms n all false false None e below = all
  term_fine terms n all false false (Some k) e below = mixed_fine terms n k e (below k refl) all

  terms_fine : (ts : List (Unknown × ℤ)) (terms : Sparse) → All Fine terms → Gives (steps (read_term names) terms ts) (All Fine)
  terms_fine [] terms all = all
  terms_fine (t ∷ ts) terms all =
      gives_chain (read_term names terms t) _ (All Fine) (All Fine)
      (term_fine terms t.1 all (is_bare_one t.0) (int_eq t.1 (pos 0)) (place_of names t.0) refl (place_below names t.0))
      (λ more fine. terms_fine ts more fine)

  -- ---- what a relation is worth over D

  module _ (f : ℕ → ℤ) (D : ℤ) where
    abbrev scaled : Bool → Unknown → ℤ
    scaled one u = if one then D else option_map_or f (place_of names u) (pos 0)

    abbrev rel_worth : Rel → ℤ
    rel_worth r = r.form.constant *ℤ D +ℤ total (map (λ t. t.1 *ℤ scaled (is_bare_one t.0) t.0) r.form.terms)

    scaled_parts : (u : Unknown) (n : ℤ) (one : Bool) → n *ℤ scaled one u ≡ n *ℤ part names f one u +ℤ (n *ℤ unit names f one) *ℤ D
    scaled_parts u n true =
        let none = *ℤ-zero n in
        let one : n *ℤ pos 1 ≡ n = omega (arith, ints) in
        let along = ap (λ z. z *ℤ D) one in
        omega (arith, ints, none, along)
    scaled_parts u n false = let none = ap (λ z. z *ℤ D) (*ℤ-zero n) ∙ zero-*ℤ D in omega (arith, ints, none)

    all_scaled : (ts : List (Unknown × ℤ)) → total (map (λ t. t.1 *ℤ scaled (is_bare_one t.0) t.0) ts)
        ≡ total (map (λ t. t.1 *ℤ part names f (is_bare_one t.0) t.0) ts) +ℤ total (map (λ t. t.1 *ℤ unit names f (is_bare_one t.0)) ts) *ℤ
        D
    all_scaled [] = let none = zero-*ℤ D in omega (arith, ints, none)
    all_scaled (t ∷ ts) =
        let here = scaled_parts t.0 t.1 (is_bare_one t.0) in
        let rest = all_scaled ts in
        let parts = sum_times (t.1 *ℤ unit names f (is_bare_one t.0)) (total (map (λ t. t.1 *ℤ unit names f (is_bare_one t.0)) ts)) D in
        omega (arith, ints, here, rest, parts)

    abbrev RelMet : Rel → Type 0
    RelMet r = MetBy r.equal (rel_worth r)

  -- a row reads a relation
  abbrev Reads : Rel → Row → Type 0
  Reads r row = ((f : ℕ → ℤ) (D : ℤ) → row_worth f D row ≡ rel_worth f D r) × (row.equal ≡ r.equal) × All Fine row.terms

  row_reads : (place : ℕ) (r : Rel) → Holds (row_of names place r) (Reads r)
  row_reads place r =
      holds_chain (chain (kept r.form.constant) (λ first. steps read_number first r.form.terms)) _
      (λ m. m ≡ r.form.constant +ℤ total (map (λ t. t.1 *ℤ unit names (λ _. pos 0) (is_bare_one t.0)) r.form.terms)) (Reads r)
      (from_gives (chain (kept r.form.constant) (λ first. steps read_number first r.form.terms)) _ (constant_some names r))
      (λ constant c.
      holds_chain (steps (read_term names) [] r.form.terms) _
      (λ zs. ((f : ℕ → ℤ) → worth f zs ≡ pos 0 +ℤ total (map (λ t. t.1 *ℤ part names f (is_bare_one t.0) t.0) r.form.terms))
      × All Fine zs) (Reads r) (terms_hold (steps (read_term names) [] r.form.terms)
      (λ f. read_worth names f r.form.terms [] (pos 0) refl) (terms_fine r.form.terms [] (All-nil Fine))) (λ terms h.
      ((λ f D. same constant c terms f (h.0 f) D), refl, h.1)))
    where
      terms_hold : (o : Computation Sparse) → ((f : ℕ → ℤ)
          → Gives o (λ zs. worth f zs ≡ pos 0 +ℤ total (map (λ t. t.1 *ℤ part names f (is_bare_one t.0) t.0) r.form.terms)))
          → Gives o (All Fine) → Holds o (λ zs. ((f : ℕ → ℤ)
          → worth f zs ≡ pos 0 +ℤ total (map (λ t. t.1 *ℤ part names f (is_bare_one t.0) t.0) r.form.terms)) × All Fine zs)
      terms_hold (Ok zs) a b = (a, b)
      terms_hold (Err e) a b = tt

      same : (constant : ℤ) → constant ≡ r.form.constant +ℤ total (map (λ t. t.1 *ℤ unit names (λ _. pos 0) (is_bare_one t.0)) r.form.terms)
          → (terms : Sparse) (f : ℕ → ℤ) → worth f terms ≡ pos 0 +ℤ total
          (map (λ t. t.1 *ℤ part names f (is_bare_one t.0) t.0) r.form.terms)
          → (D : ℤ) → constant *ℤ D +ℤ worth f terms ≡ rel_worth f D r
      same constant c terms f w D =
          let along = ap (λ z. z *ℤ D) c in
          let parts = sum_times r.form.constant (total (map (λ t. t.1 *ℤ unit names (λ _. pos 0) (is_bare_one t.0)) r.form.terms)) D in
          let all = all_scaled f D r.form.terms in
          omega (arith, ints, along, parts, all, w)

  -- where the rows are met, so are the relations
  abbrev AllRead : List Rel → List Row → Type 0
  AllRead rels rows = All (Readable (length names)) rows × ((f : ℕ → ℤ) (D : ℤ) → All (Met f D) rows → All (RelMet f D) rels)

  all_read : (rels : List Rel) (place : ℕ) → Holds (rows_from names place rels) (AllRead rels)
  all_read [] place = (All-nil (Readable (length names)), λ f D met. All-nil (RelMet f D))
  all_read (r ∷ rs) place =
      holds_chain (row_of names place r) _ (λ row. Reads r row × Ordered row) (AllRead (r ∷ rs))
      (both (row_of names place r) (row_reads place r) (row_ordered names place r)) (λ row reads.
      holds_chain (rows_from names (suc place) rs) _ (AllRead rs) (AllRead (r ∷ rs)) (all_read rs (suc place)) (λ rows all. (
        All-cons (Readable (length names)) row rows (reads.1, reads.0.2) all.0,
        λ f D met. All-cons (RelMet f D) r rs (one_met f D row reads.0 (All-head (Met f D) row rows met))
            (all.1 f D (All-tail (Met f D) row rows met)),
      )))
    where
      both : (o : Computation Row) → Holds o (Reads r) → Gives o Ordered → Holds o (λ row. Reads r row × Ordered row)
      both (Ok row) a b = (a, b)
      both (Err e) a b = tt

      one_met : (f : ℕ → ℤ) (D : ℤ) (row : Row) → Reads r row → Met f D row → RelMet f D r
      one_met f D row reads met = subst (λ z. z) (λ i. MetBy (reads.1 i) (reads.0 f D i)) met

  -- ---- the values of relations at a point

  module _ (f : ℕ → ℤ) (D : ℤ) (above : pos 0 <ℤ D) (point : Point) (h : Worths f D point) where
    value_worth : (one : Bool) (place : Option ℕ) → Worth D (if one then D else option_map_or f place (pos 0))
        (if one then (pos 1, pos 1) else option_map_or (value point) place (pos 0, pos 1))
    value_worth true place = (omega (arith, ints), omega (arith, ints))
    value_worth false None = let none = zero-*ℤ D in (omega (arith, ints, none), omega (arith, ints))
    value_worth false (Some k) = h k

    sum_is : (ts : List (Unknown × ℤ)) (X : ℤ) (x : Fraction) → Worth D X x
        → Worth D (X +ℤ total (map (λ t. t.1 *ℤ scaled f D (is_bare_one t.0) t.0) ts)) (sum_at names point x ts)
    sum_is [] X x w = let same : X ≡ X +ℤ pos 0 = omega (arith, ints) in subst (λ y. Worth D y x) same w
    sum_is (t ∷ ts) X x w =
        let v = value_worth (is_bare_one t.0) (place_of names t.0) in
        let next = sum_worth D X (scaled f D (is_bare_one t.0) t.0) t.1 x (value_at names point t.0) w v in
        let over = above_times x.1 (value_at names point t.0).1 w.1 v.1 in
        let same : (X +ℤ t.1 *ℤ scaled f D (is_bare_one t.0) t.0) +ℤ total (map (λ t. t.1 *ℤ scaled f D (is_bare_one t.0) t.0) ts)
        ≡ X +ℤ total (map (λ t. t.1 *ℤ scaled f D (is_bare_one t.0) t.0) (t ∷ ts)) = omega (arith, ints) in
        subst (λ y. Worth D y (sum_at names point x (t ∷ ts))) same
        (sum_is ts (X +ℤ t.1 *ℤ scaled f D (is_bare_one t.0) t.0) (plus_exactly x t.1 (value_at names point t.0)) (next, over))

    form_is : (r : Rel) → Worth D (rel_worth f D r) (form_at names point r)
    form_is r =
        let one : r.form.constant *ℤ D ≡ (r.form.constant *ℤ D) *ℤ pos 1 = omega (arith, ints) in
        sum_is r.form.terms (r.form.constant *ℤ D) (r.form.constant, pos 1) (one, omega (arith, ints))

    met_is : (r : Rel) → RelMet f D r → IsTrue (is_met names point r)
    met_is r met = by r.equal met
      where
        by : (b : Bool) → MetBy b (rel_worth f D r)
            → IsTrue (if b then int_eq (form_at names point r).0 (pos 0) else int_le (form_at names point r).0 (pos 0))
        by true e =
            let w = (form_is r).0 in
            let none = ap (λ z. z *ℤ (form_at names point r).1) e ∙ zero-*ℤ (form_at names point r).1 in
            let turned = *ℤ_comm (form_at names point r).0 D in
            (Decides-int_eq (form_at names point r).0 (pos 0)).1
            (cancel_zero D (form_at names point r).0 (above_other D above) (sym turned ∙ (w ∙ none)))
        by false e =
            let w = (form_is r).0 in
            let den = (form_is r).1 in
            let turned = *ℤ_comm (form_at names point r).0 D in
            let swapped = *ℤ_comm (rel_worth f D r) (form_at names point r).1 in
            let low = below_times (form_at names point r).1 (rel_worth f D r) (omega (arith, ints, den)) e in
            let at_most = cancel_below D (form_at names point r).0 above (omega (arith, ints, w, turned, swapped, low)) in
            le_test (form_at names point r).0 at_most
          where
            le_test : (k : ℤ) → k ≤ℤ pos 0 → IsTrue (int_le k (pos 0))
            le_test k h = grind (arith, ints)

    all_met : (rels : List Rel) → All (RelMet f D) rels → All (λ r. IsTrue (is_met names point r)) rels
    all_met [] all = All-nil (λ r. IsTrue (is_met names point r))
    all_met (r ∷ rs) all =
        All-cons (λ r. IsTrue (is_met names point r)) r rs (met_is r (All-head (RelMet f D) r rs all))
        (all_met rs (All-tail (RelMet f D) r rs all))

-- ---- the law

-- what holds of each place of a point holds of each of its values
all_places : (P : Fraction → Type 0) (xs : Point) → ((i : ℕ) → i < length xs → P (value xs i)) → All P xs
all_places P [] h = All-nil P
all_places P (x ∷ xs) h = All-cons P x xs (h 0 (omega arith)) (all_places P xs (λ i l. h (suc i) (omega (arith, l))))

both_hold : {A : Type 0} (o : Computation A) (P Q : A → Type 0) → Holds o P → Holds o Q → Holds o (λ x. P x × Q x)
both_hold (Ok x) P Q p q = (p, q)
both_hold (Err e) P Q p q = tt

module _ (rels : List Rel) where
  abbrev count : ℕ
  count = length (unknowns_of rels)

  above_test : (k : ℤ) → pos 0 <ℤ k → IsTrue (int_lt (pos 0) k)
  above_test k h = grind (arith, ints)

  meets : (rows : List Row) → AllRead (unknowns_of rels) rels rows → (p : Point) → MeetsAt count p rows → All Lowest p → Meets rels p
  meets rows read p m low =
      let above = all_places (λ x. IsTrue (is_above x)) p (λ i l. above_test (value p i).1 (m.worths i).1) in
      record {
        long = m.long;
        above = above;
        lowest = all_lowest p above low;
        met = all_met (unknowns_of rels) m.f m.D m.above p m.worths rels (read.1 m.f m.D m.met);
      }

  searched_meets : Holds (searched rels) (Meets rels)
  searched_meets =
      holds_chain (rows_from (unknowns_of rels) 0 rels) _ (AllRead (unknowns_of rels) rels) _
      (all_read (unknowns_of rels) rels 0) (λ rows read.
      holds_weaker (chain (eliminated count rows) (point_of count)) (λ p. MeetsAt count p rows × All Lowest p) _
      (λ p m. meets rows read p m.0 m.1)
      (both_hold (chain (eliminated count rows) (point_of count)) (λ p. MeetsAt count p rows) (All Lowest) (point_meets count rows read.0)
      (holds_chain (eliminated count rows) (point_of count) (λ _. Unit {0}) (All Lowest) (anything (eliminated count rows))
      (λ s _. point_lowest count s))))

pub searched_is_met : SearchedIsMet
searched_is_met rels point e = held (searched rels) _ point e (searched_meets rels)
