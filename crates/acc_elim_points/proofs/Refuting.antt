-- The relations that an elimination begins with, and that neither reading them nor giving values ends it with a false constant.
use Rattle.std.proofs.Common.{◌≡◌, ◌==◌, ℕ, suc, ◌+◌, ◌<◌, Bool, true, false, List, [], ◌∷◌, length, get_or, Ok, Err, refl, sym, ap, ◌∙◌}
use Rattle.std.proofs.Common.{subst, arith, ℤ, pos, negsuc, ◌+ℤ◌, ◌*ℤ◌, if◌then◌else◌, add-zero}
use Rattle.std.specs.Prelude.{◌≤◌, All, Option, int_lt, map, reverse, unsigned_abs, ◌||◌}
use Rattle.std.specs.Prelude.{Some, None}
use Rattle.std.specs.Option.{option_map_or}
use Rattle.std.specs.Ordering.{int_eq}
use Rattle.std.proofs.lemmas.Int.{ints}
use Rattle.std.proofs.lemmas.Bool.Decides.{Decides-int_eq}
use Rattle.std.proofs.lemmas.List.Elements.{All-nil, All-cons}
use lib.IntN.{*ℤ-zero, zero-*ℤ}
use Rattle.acc_base.specs.declared.forms.Unknown.{Unknown}
use Rattle.acc_base.specs.declared.forms.Rel.{Rel}
use Rattle.acc_base.specs.Numbers.{total}
use Rattle.acc_rows.specs.declared.stops.Stop.TheVariants.{Refuted, Wide, Many, Memory}
use Rattle.acc_rows.specs.declared.rows.Row.{Row}
use Rattle.acc_elim_systems.specs.declared.systems.Eliminated.{Eliminated}
use Rattle.acc_base.specs.Computing.{chain, steps}
use Rattle.acc_rows.specs.Answers.{Computation}
use Rattle.acc_rows.specs.Numbers.{kept, product, opposite, sum as plus}
use Rattle.acc_rows.specs.Sparse.{Sparse, at, mixed}
use Rattle.acc_elim_systems.specs.Systems.{is_false, is_lower, eliminated}
use Rattle.acc_elim_points.specs.Fractions.{Fraction, reduced, fraction, numerator, plus_times, is_less}
use Rattle.acc_elim_points.specs.Points.{Point, value, summed, root, tightest, bounded_value, placed, placed_by, zeros, point_of}
use Rattle.acc_elim_readings.specs.Readings.{place_of, unknowns_of, read_number, with_number, read_term, row_of, rows_from}
use Rattle.acc_base.specs.declared.bounds.TheConstants.{LARGEST_SUM}
use Rattle.acc_base.specs.Collecting.{worth}
use Rattle.acc_elim_systems.specs.Made.{Proper, IsProper, Near, IsNear, Sums, Signed, MayStand, OfEquation, Ordered, Rises}
use Rattle.acc_base.specs.Worths.{form_worth}
use Rattle.acc_base.specs.UnknownEquality.{is_bare_one}
use Rattle.acc_elim_points.specs.FalseConstants.{numbered, FalseConstantRefutes}
use Rattle.acc_rows.proofs.Worths.{Gives, gives_chain, gives_weaker, gives_both, kept_gives, mixed_gives}
use Rattle.acc_elim_systems.proofs.Orders.{mixed_rises, eliminated_ordered}
use Rattle.acc_elim_systems.proofs.Propers.{eliminated_proper}
use Rattle.acc_elim_systems.proofs.Nears.{eliminated_near}
use Rattle.acc_elim_systems.proofs.FalseConstants.{a_sum, signed, rising, at_end}

-- ---- computations that end with a value or a number that is too large

abbrev pub Ending : {A : Type 0} → Computation A → Type 0
Ending o = Gives o (λ _. Unit {0})

some_chain : {A B : Type 0} (o : Computation A) (next : A → Computation B) → Ending o → ((x : A) → Ending (next x)) → Ending (chain o next)
some_chain o next h k = gives_chain o next (λ _. Unit {0}) (λ _. Unit {0}) h (λ x _. k x)

some_steps : {S X : Type 0} (step : S → X → Computation S) → ((s : S) (x : X) → Ending (step s x)) → (xs : List X) (s : S)
    → Ending (steps step s xs)
some_steps step h [] s = tt
some_steps step h (x ∷ xs) s = some_chain (step s x) (λ t. steps step t xs) (h s x) (λ t. some_steps step h xs t)

some_kept : (n : ℤ) → Ending (kept n)
some_kept n = gives_weaker (kept n) (λ m. m ≡ n) (λ _. Unit {0}) (λ m e. tt) (kept_gives n)

some_upright : (x : Fraction) (b : Bool) → Ending (if b then chain (opposite x.0) (λ n. chain (opposite x.1) (λ d. Ok (n, d))) else Ok x)
some_upright x true = some_chain (opposite x.0) _ (some_kept (x.0 *ℤ negsuc 0))
    (λ n. some_chain (opposite x.1) _ (some_kept (x.1 *ℤ negsuc 0)) (λ d. tt))
some_upright x false = tt

some_fraction : (n d : ℤ) → Ending (fraction n d)
some_fraction n d = some_upright (reduced n d) (int_lt (reduced n d).1 (pos 0))

some_numerator : (x : Fraction) (m : ℤ) (y : Fraction) → Ending (numerator x m y)
some_numerator x m y =
    some_chain (product x.0 y.1) _ (some_kept (x.0 *ℤ y.1))
    (λ a. some_chain (product m x.1) _ (some_kept (m *ℤ x.1)) (λ b. some_kept (a +ℤ b)))

some_plus : (x : Fraction) (c : ℤ) (y : Fraction) → Ending (plus_times x c y)
some_plus x c y =
    some_chain (product c y.0) _ (some_kept (c *ℤ y.0))
    (λ m. some_chain (numerator x m y) _ (some_numerator x m y)
    (λ n. some_chain (product x.1 y.1) _ (some_kept (x.1 *ℤ y.1)) (λ d. some_fraction n d)))

some_summed : (u : ℕ) (point : Point) (x : Fraction) (t : ℕ × ℤ) (b : Bool)
    → Ending (if b then Ok x else plus_times x t.1 (value point t.0))
some_summed u point x t true = tt
some_summed u point x t false = some_plus x t.1 (value point t.0)

some_root : (u : ℕ) (point : Point) (r : Row) → Ending (root u point r)
some_root u point r =
    some_chain (steps (summed u point) (r.constant, pos 1) r.terms) _
    (some_steps (summed u point) (λ x t. some_summed u point x t (t.0 == u)) r.terms (r.constant, pos 1)) (λ x.
    some_chain (opposite x.0) _ (some_kept (x.0 *ℤ negsuc 0))
    (λ n. some_chain (product (at u r.terms) x.1) _ (some_kept (at u r.terms *ℤ x.1)) (λ d. some_fraction n d)))

some_less : (x y : Fraction) → Ending (is_less x y)
some_less x y = some_chain (product x.0 y.1) _ (some_kept (x.0 *ℤ y.1))
    (λ a. some_chain (product y.0 x.1) _ (some_kept (y.0 *ℤ x.1)) (λ b. tt))

some_either : (b : Bool) (x y : Fraction) → Ending (if b then is_less x y else is_less y x)
some_either true x y = some_less x y
some_either false x y = some_less y x

some_tightest : (u : ℕ) (point : Point) (x : Fraction) (r : Row) → Ending (tightest u point x r)
some_tightest u point x r =
    some_chain (root u point r) _ (some_root u point r)
    (λ y. some_chain (if is_lower u r then is_less x y else is_less y x) _ (some_either (is_lower u r) x y) (λ b. tt))

some_bounded : (u : ℕ) (point : Point) (rows : List Row) → Ending (bounded_value u point rows)
some_bounded u point [] = tt
some_bounded u point (r ∷ rs) =
    some_chain (root u point r) _ (some_root u point r) (λ x. some_steps (tightest u point) (some_tightest u point) rs x)

some_point : (n : ℕ) (s : Eliminated) → Ending (point_of n s)
some_point n s =
    some_chain (steps placed (zeros n) (reverse s.bounds)) _
    (some_steps placed (λ point b. some_chain (bounded_value b.0 point b.1) _ (some_bounded b.0 point b.1) (λ x. tt))
    (reverse s.bounds) (zeros n)) (λ point.
    some_steps placed_by (λ point e. some_chain (root e.0 point e.1) _ (some_root e.0 point e.1) (λ x. tt)) (reverse s.aside) point)

-- ---- the relations that are read

module _ (names : List Unknown) where
  read_rises_by : (terms : Sparse) (n : ℤ) (b : Bool) (place : Option ℕ) → Rises 0 terms
      → Gives (if b then Ok terms else option_map_or (with_number terms n) place (Ok terms)) (Rises 0)
  read_rises_by terms n true place r = r
  read_rises_by terms n false None r = r
  read_rises_by terms n false (Some k) r = mixed_rises (pos 1) (pos 1) terms ((k, n) ∷ []) 0 r (omega arith, tt)

  pub read_rises : (ts : List (Unknown × ℤ)) (terms : Sparse) → Rises 0 terms → Gives (steps (read_term names) terms ts) (Rises 0)
  read_rises [] terms r = r
  read_rises (t ∷ ts) terms r =
      gives_chain (read_term names terms t) _ (Rises 0) (Rises 0)
      (read_rises_by terms t.1 (is_bare_one t.0 || int_eq t.1 (pos 0)) (place_of names t.0) r)
      (λ us h. read_rises ts us h)

  module _ (f : ℕ → ℤ) where
    -- what an unknown is worth by its place, and the number 1
    abbrev pub by_place : Option ℕ → ℤ
    by_place place = option_map_or f place (pos 0)

    abbrev pub part : Bool → Unknown → ℤ
    part one u = if one then pos 0 else by_place (place_of names u)

    abbrev pub unit : Bool → ℤ
    unit one = if one then pos 1 else pos 0

    one_times : (x : ℤ) → pos 1 *ℤ x ≡ x
    one_times x = omega (arith, ints)

    read_worth_by : (terms : Sparse) (n : ℤ) (one b : Bool) (place : Option ℕ) → int_eq n (pos 0) ≡ b
        → Gives (if one || b then Ok terms else option_map_or (with_number terms n) place (Ok terms))
        (λ zs. worth f zs ≡ worth f terms +ℤ n *ℤ (if one then pos 0 else by_place place))
    read_worth_by terms n true b place e = let none = *ℤ-zero n in omega (arith, ints, none)
    read_worth_by terms n false true place e =
        let none = ap (λ z. z *ℤ by_place place) ((Decides-int_eq n (pos 0)).0 e) ∙ zero-*ℤ (by_place place) in
        omega (arith, ints, none)
    read_worth_by terms n false false None e = let none = *ℤ-zero n in omega (arith, ints, none)
    read_worth_by terms n false false (Some k) e =
        gives_weaker (mixed (pos 1) (pos 1) terms ((k, n) ∷ [])) _ (λ zs. worth f zs ≡ worth f terms +ℤ n *ℤ f k) (λ zs h.
        let a = one_times (worth f terms) in
        let b = one_times (n *ℤ f k +ℤ pos 0) in
        omega (arith, ints, h, a, b)) (mixed_gives f (pos 1) (pos 1) terms ((k, n) ∷ []))

    pub read_worth : (ts : List (Unknown × ℤ)) (terms : Sparse) (w : ℤ) → worth f terms ≡ w
        → Gives (steps (read_term names) terms ts) (λ zs. worth f zs ≡ w +ℤ total (map (λ t. t.1 *ℤ part (is_bare_one t.0) t.0) ts))
    read_worth [] terms w e = omega (arith, ints, e)
    read_worth (t ∷ ts) terms w e =
        gives_chain (read_term names terms t) _ (λ zs. worth f zs ≡ worth f terms +ℤ t.1 *ℤ part (is_bare_one t.0) t.0)
        (λ zs. worth f zs ≡ w +ℤ total (map (λ t. t.1 *ℤ part (is_bare_one t.0) t.0) (t ∷ ts)))
        (read_worth_by terms t.1 (is_bare_one t.0) (int_eq t.1 (pos 0)) (place_of names t.0) refl) (λ us h.
        gives_weaker (steps (read_term names) us ts) _
        (λ zs. worth f zs ≡ w +ℤ total (map (λ t. t.1 *ℤ part (is_bare_one t.0) t.0) (t ∷ ts))) (λ zs k. omega (arith, ints, k, e))
        (read_worth ts us (worth f terms +ℤ t.1 *ℤ part (is_bare_one t.0) t.0) h))

    number_by : (c : ℤ) (t : Unknown × ℤ) (one : Bool) → Gives (if one then plus c t.1 else Ok c) (λ m. m ≡ c +ℤ t.1 *ℤ unit one)
    number_by c t true =
        gives_weaker (kept (c +ℤ t.1)) (λ m. m ≡ c +ℤ t.1) (λ m. m ≡ c +ℤ t.1 *ℤ pos 1) (λ m e. omega (arith, ints, e))
        (kept_gives (c +ℤ t.1))
    number_by c t false = let none = *ℤ-zero t.1 in omega (arith, ints, none)

    pub read_constant : (ts : List (Unknown × ℤ)) (c w : ℤ) → c ≡ w
        → Gives (steps read_number c ts) (λ m. m ≡ w +ℤ total (map (λ t. t.1 *ℤ unit (is_bare_one t.0)) ts))
    read_constant [] c w e = omega (arith, ints, e)
    read_constant (t ∷ ts) c w e =
        gives_chain (read_number c t) _ (λ m. m ≡ c +ℤ t.1 *ℤ unit (is_bare_one t.0))
        (λ m. m ≡ w +ℤ total (map (λ t. t.1 *ℤ unit (is_bare_one t.0)) (t ∷ ts))) (number_by c t (is_bare_one t.0)) (λ k h.
        gives_weaker (steps read_number k ts) _ (λ m. m ≡ w +ℤ total (map (λ t. t.1 *ℤ unit (is_bare_one t.0)) (t ∷ ts)))
        (λ m g. omega (arith, ints, g, e)) (read_constant ts k (c +ℤ t.1 *ℤ unit (is_bare_one t.0)) h))

    one_part : (u : Unknown) (n : ℤ) (one : Bool)
        → n *ℤ (if one then pos 1 else by_place (place_of names u)) ≡ n *ℤ part one u +ℤ n *ℤ unit one
    one_part u n true = let none = *ℤ-zero n in omega (arith, ints, none)
    one_part u n false = let none = *ℤ-zero n in omega (arith, ints, none)

    both_parts : (ts : List (Unknown × ℤ)) → total (map (λ t. t.1 *ℤ numbered f names t.0) ts)
        ≡ total (map (λ t. t.1 *ℤ part (is_bare_one t.0) t.0) ts) +ℤ total (map (λ t. t.1 *ℤ unit (is_bare_one t.0)) ts)
    both_parts [] = refl
    both_parts (t ∷ ts) =
        let here = one_part t.0 t.1 (is_bare_one t.0) in
        let rest = both_parts ts in
        omega (arith, ints, here, rest)

  -- the constant that is read
  pub constant_some : (r : Rel) → Gives (chain (kept r.form.constant) (λ first. steps read_number first r.form.terms))
      (λ m. m ≡ r.form.constant +ℤ total (map (λ t. t.1 *ℤ unit (λ _. pos 0) (is_bare_one t.0)) r.form.terms))
  constant_some r =
      gives_chain (kept r.form.constant) _ (λ n. n ≡ r.form.constant) _ (kept_gives r.form.constant)
      (λ first e. read_constant (λ _. pos 0) r.form.terms first r.form.constant e)

  any_constant : (r : Rel) → Gives (chain (kept r.form.constant) (λ first. steps read_number first r.form.terms)) (λ _. Unit {0})
  any_constant r = gives_weaker (chain (kept r.form.constant) (λ first. steps read_number first r.form.terms)) _ (λ _. Unit {0})
      (λ m _. tt) (constant_some r)

  -- what holds of each row that is read
  pub each_row : (Good : Row → Type 0) (R : ℕ → Rel → Type 0) → ((place : ℕ) (r : Rel) → R place r → Gives (row_of names place r) Good)
      → (rels : List Rel) (place : ℕ) → ((j : ℕ) (d : Rel) → j < length rels → R (place + j) (get_or rels j d))
      → Gives (rows_from names place rels) (All Good)
  each_row Good R h [] place k = All-nil Good
  each_row Good R h (r ∷ rs) place k =
      gives_chain (row_of names place r) _ Good (All Good) (h place r (subst (λ n. R n r) (add-zero place) (k 0 r (omega arith)))) (λ row g.
      gives_chain (rows_from names (suc place) rs) _ (All Good) (All Good) (each_row Good R h rs (suc place) (λ j d l.
      let e : place + suc j ≡ suc place + j = omega arith in
      subst (λ n. R n (get_or rs j d)) e (k (suc j) d (omega (arith, l))))) (λ rows all. All-cons Good row rows g all))

  pub row_ordered : (place : ℕ) (r : Rel) → Gives (row_of names place r) Ordered
  row_ordered place r =
      gives_chain (chain (kept r.form.constant) (λ first. steps read_number first r.form.terms)) _ (λ _. Unit {0}) Ordered (any_constant r)
      (λ constant _.
      gives_chain (steps (read_term names) [] r.form.terms) _ (Rises 0) Ordered (read_rises r.form.terms [] tt)
      (λ terms h. record { terms = h; by = (omega arith, tt) }))

  pub row_proper : (n place : ℕ) (r : Rel) → place < n → Gives (row_of names place r) (Proper n)
  row_proper n place r below =
      gives_chain (chain (kept r.form.constant) (λ first. steps read_number first r.form.terms)) _ (λ _. Unit {0}) (Proper n)
      (any_constant r) (λ constant _.
      gives_chain (steps (read_term names) [] r.form.terms) _ (Rises 0) (Proper n) (read_rises r.form.terms [] tt)
      (λ terms _. All-cons (IsProper n) (place, pos 1) [] (below, omega arith) (All-nil (IsProper n))))

  row_near : (place : ℕ) (r : Rel) → Gives (row_of names place r) Near
  row_near place r =
      gives_chain (chain (kept r.form.constant) (λ first. steps read_number first r.form.terms)) _ (λ _. Unit {0}) Near (any_constant r)
      (λ constant _.
      gives_chain (steps (read_term names) [] r.form.terms) _ (Rises 0) Near (read_rises r.form.terms [] tt)
      (λ terms _. All-cons IsNear (place, pos 1) [] (one_near LARGEST_SUM (omega arith)) (All-nil IsNear)))
    where
      one_near : (most : ℕ) → 1 ≤ most → unsigned_abs (pos 1) ≤ most
      one_near most h = omega (arith, h)

  row_signed : (is_equation : ℕ → Bool) (place : ℕ) (r : Rel) → is_equation place ≡ r.equal
      → Gives (row_of names place r) (Signed is_equation)
  row_signed is_equation place r same =
      gives_chain (chain (kept r.form.constant) (λ first. steps read_number first r.form.terms)) _ (λ _. Unit {0}) (Signed is_equation)
      (any_constant r) (λ constant _.
      gives_chain (steps (read_term names) [] r.form.terms) _ (Rises 0) (Signed is_equation) (read_rises r.form.terms [] tt) (λ terms _.
      record {
        may = All-cons (MayStand is_equation) (place, pos 1) [] (λ e. refl) (All-nil (MayStand is_equation));
        equal = λ e. All-cons (OfEquation is_equation) (place, pos 1) [] (same ∙ e) (All-nil (OfEquation is_equation));
      }))

  -- what a row's form is worth is what the relation's is worth
  pub row_worth : (f : ℕ → ℤ) (place : ℕ) (r : Rel)
      → Gives (row_of names place r) (λ row. worth f row.terms +ℤ row.constant ≡ form_worth (numbered f names) r.form)
  row_worth f place r =
      gives_chain (chain (kept r.form.constant) (λ first. steps read_number first r.form.terms)) _
      (λ m. m ≡ r.form.constant +ℤ total (map (λ t. t.1 *ℤ unit (λ _. pos 0) (is_bare_one t.0)) r.form.terms))
      (λ row. worth f row.terms +ℤ row.constant ≡ form_worth (numbered f names) r.form) (constant_some r) (λ constant c.
      gives_chain (steps (read_term names) [] r.form.terms) _
      (λ zs. worth f zs ≡ pos 0 +ℤ total (map (λ t. t.1 *ℤ part f (is_bare_one t.0) t.0) r.form.terms))
      (λ row. worth f row.terms +ℤ row.constant ≡ form_worth (numbered f names) r.form) (read_worth f r.form.terms [] (pos 0) refl)
      (λ terms h.
      let parts = both_parts f r.form.terms in
      omega (arith, ints, c, h, parts)))

  row_alone_by : (place : ℕ) (r : Rel) → Gives (row_of names place r) (λ row. row.by ≡ (place, pos 1) ∷ [])
  row_alone_by place r =
      gives_chain (chain (kept r.form.constant) (λ first. steps read_number first r.form.terms)) _ (λ _. Unit {0})
      (λ row. row.by ≡ (place, pos 1) ∷ []) (any_constant r) (λ constant _.
      gives_chain (steps (read_term names) [] r.form.terms) _ (Rises 0) (λ row. row.by ≡ (place, pos 1) ∷ [])
      (read_rises r.form.terms [] tt) (λ terms _. refl))

  row_sums : (f base : ℕ → ℤ) (place : ℕ) (r : Rel) → base place ≡ form_worth (numbered f names) r.form
      → Gives (row_of names place r) (Sums f base)
  row_sums f base place r same =
      gives_both (row_of names place r) (λ row. worth f row.terms +ℤ row.constant ≡ form_worth (numbered f names) r.form)
      (λ row. row.by ≡ (place, pos 1) ∷ []) (λ row w b.
      let one = one_times f (base place) in
      let by = ap (worth base) b in
      omega (arith, ints, w, one, same, by)) (row_worth f place r) (row_alone_by place r)

-- ---- the false constant that ends a search for a point

ended_by : {A B : Type 0} (o : Computation A) (next : A → Computation B) (r : Row) → Ending o → chain o next ≡ Err (Refuted r)
    → (x : A) × (o ≡ Ok x) × (next x ≡ Err (Refuted r))
ended_by (Ok x) next r h e = (x, refl, e)
ended_by (Err Wide) next r h e = absurd (cc)
ended_by (Err Many) next r h e = absurd h
ended_by (Err Memory) next r h e = absurd h
ended_by (Err (Refuted q)) next r h e = absurd h

not_ended : {A : Type 0} (o : Computation A) (r : Row) → Ending o → o ≡ Err (Refuted r) → ⊥
not_ended (Ok x) r h e = cc
not_ended (Err Wide) r h e = cc
not_ended (Err Many) r h e = h
not_ended (Err Memory) r h e = h
not_ended (Err (Refuted q)) r h e = h

before_it : {A B : Type 0} (o : Computation A) (next : A → Computation B) (r : Row) → ((x : A) → Ending (next x)) →
    chain o next ≡ Err (Refuted r)
    → o ≡ Err (Refuted r)
before_it (Ok x) next r h e = absurd (not_ended (next x) r (h x) e)
before_it (Err d) next r h e = let same : d ≡ Refuted r = cc in ap Err same

read_as : {A : Type 0} (o : Computation A) (P : A → Type 0) (x : A) → o ≡ Ok x → Gives o P → P x
read_as o P x e h = subst (λ z. Gives z P) e h

pub refutes : FalseConstantRefutes
refutes rels r e =
    let names = unknowns_of rels in
    let some_rows = gives_weaker (rows_from names 0 rels) (All Ordered) (λ _. Unit {0}) (λ rows a. tt)
    (each_row names Ordered (λ place q. Unit {0}) (λ place q _. row_ordered names place q) rels 0 (λ j d l. tt)) in
    let begun = ended_by (rows_from names 0 rels) (λ rows. chain (eliminated (length names) rows)
    (point_of (length names))) r some_rows e in
    let rows = begun.0 in
    let ended = before_it (eliminated (length names) rows) (point_of (length names)) r (some_point (length names)) begun.2 in
    let ordered = read_as (rows_from names 0 rels) (All Ordered) rows begun.1
    (each_row names Ordered (λ place q. Unit {0}) (λ place q _. row_ordered names place q) rels 0 (λ j d l. tt)) in
    record {
      wrong = false_is names rows ended ordered;
      places = rising (length names) rows r ordered ended;
      proper = proper names rows begun.1 ended;
      near = near names rows begun.1 ended;
      signs = λ is_equation tells.
          signed is_equation (length names) rows r
          (read_as (rows_from names 0 rels) (All (Signed is_equation)) rows begun.1
          (each_row names (Signed is_equation) (λ place q. is_equation place ≡ q.equal)
          (λ place q h. row_signed names is_equation place q h) rels 0 (λ j d l. along is_equation j (tells j d l)))) ended;
      sum = λ f base is_base.
          (a_sum f base (length names) rows r
          (read_as (rows_from names 0 rels) (All (Sums f base)) rows begun.1
          (each_row names (Sums f base) (λ place q. base place ≡ form_worth (numbered f names) q.form)
          (λ place q h. row_sums names f base place q h) rels 0 (λ j d l. along_base base j (is_base j d l)))) ended).0;
    }
  where
    zero_first : (j : ℕ) → 0 + j ≡ j
    zero_first j = omega arith

    proper : (names : List Unknown) (rows : List Row) → rows_from names 0 rels ≡ Ok rows → eliminated (length names) rows ≡ Err (Refuted r)
        → Proper (length rels) r
    proper names rows read ended =
        let all = read_as (rows_from names 0 rels) (All (Proper (length rels))) rows read
        (each_row names (Proper (length rels)) (λ place q. place < length rels)
        (λ place q h. row_proper names (length rels) place q h) rels 0
        (λ j d l. subst (λ k. k < length rels) (sym (zero_first j)) l)) in
        (at_end (Proper (length rels)) (eliminated (length names) rows) _ r ended
        (eliminated_proper (length rels) (length names) rows all)).0

    near : (names : List Unknown) (rows : List Row) → rows_from names 0 rels ≡ Ok rows → eliminated (length names) rows ≡ Err (Refuted r)
        → Near r
    near names rows read ended =
        let all = read_as (rows_from names 0 rels) (All Near) rows read
        (each_row names Near (λ place q. Unit {0}) (λ place q _. row_near names place q) rels 0 (λ j d l. tt)) in
        (at_end Near (eliminated (length names) rows) _ r ended (eliminated_near (length names) rows all)).0

    along : (g : ℕ → Bool) (j : ℕ) {b : Bool} → g j ≡ b → g (0 + j) ≡ b
    along g j h = ap g (zero_first j) ∙ h

    along_base : (g : ℕ → ℤ) (j : ℕ) {z : ℤ} → g j ≡ z → g (0 + j) ≡ z
    along_base g j h = ap g (zero_first j) ∙ h

    false_is : (names : List Unknown) (rows : List Row) → eliminated (length names) rows ≡ Err (Refuted r) → All Ordered rows
        → is_false r ≡ true
    false_is names rows ended ordered = (at_end Ordered (eliminated (length names) rows) _ r ended
        (eliminated_ordered (length names) rows ordered)).2
