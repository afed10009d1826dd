-- Actions leave what is said of other tables than theirs.
use Rattle.std.proofs.Common.{◌≡◌, ℕ, Bool, true, false, if◌then◌else◌, List, [], ◌∷◌, ◌++◌, map, refl, ap, sym, ◌∙◌, subst, arith, ℤ, pos}
use Rattle.std.proofs.Common.{◌+ℤ◌, ◌*ℤ◌, ◌==◌}
use Rattle.std.specs.Prelude.{◌&&◌, ◌||◌}
use Rattle.std.specs.List.{list_all, list_any, AllByRecursion}
use Rattle.std.proofs.lemmas.Int.{ints}
use Rattle.std.proofs.lemmas.Bool.{false≢true}
use Rattle.std.proofs.lemmas.Bool.Decides.{Decides-eqb}
use Rattle.acc_base.specs.declared.tables.Table.{Table}
use Rattle.acc_base.specs.declared.tables.Row.{Row}
use Rattle.acc_base.specs.declared.forms.Lin.{Lin}
use Rattle.acc_base.specs.declared.forms.Atom.{Atom}
use Rattle.acc_base.specs.declared.forms.Atom.TheVariants as atom
use Rattle.acc_base.specs.declared.forms.Rel.{Rel}
use Rattle.acc_base.specs.declared.forms.Clause.{Clause}
use Rattle.acc_base.specs.declared.steps.Action.{Action}
use Rattle.acc_base.specs.Numbers.{total}
use Rattle.acc_base.specs.Sums.{Term}
use Rattle.acc_base.specs.Tables.{IsInOrder, has_row, column_of, count_of, sum_of}
use Rattle.acc_base.specs.Linear.{lin_value, lin_values, meets}
use Rattle.acc_base.specs.Actions.{after_action, acted_table}
use Rattle.acc_base.specs.Truth.{atom_value, is_lin_zero, product_value, rel_true, ClauseTrue}
use Rattle.acc_preconditions.specs.Changes.{change, presence_change, column_change, key_of}
use Rattle.acc_base.specs.Shapes.{ActionFits, RowFits}
use Rattle.acc_base.specs.RowsAfter.{rows_after, AreThere}
use Rattle.acc_preconditions.proofs.PartValues.{parts_value}
use Rattle.acc_preconditions.proofs.Growths.{IsReady}
use Rattle.acc_preconditions.proofs.AtomTurns.{gain, meets as place_meets, atom_turn}
use Rattle.acc_preconditions.proofs.RowShapes.{rows_fit, stays_in_order, is_ready}
use Rattle.acc_oblig.specs.PathPromises.{atom_names, rel_names, clause_names}

-- a number as a linear value
abbrev constant : ℤ → Lin
constant z = record { coeffs = []; constant = z }

constant_value : (env : List ℤ) (z : ℤ) → lin_value env (constant z) ≡ z
constant_value env z = omega (arith, ints)

constant_values : (env : List ℤ) (zs : List ℤ) → lin_values env (map constant zs) ≡ zs
constant_values env [] = refl
constant_values env (z ∷ zs) = λ i. constant_value env z i ∷ constant_values env zs i

module _ (env : List ℤ) (a : Action) (db : List Row) (order : IsInOrder db) (ready : IsReady env a db) (u : ℕ)
    (other : (acted_table a == u) ≡ false) where
  apart : acted_table a ≡ u → ⊥
  apart e = false≢true (sym other ∙ (Decides-eqb (acted_table a) u).1 e)

  no_gain : (A : Atom) → change a A ≡ [] → gain env a db order A ≡ pos 0
  no_gain A e = ap (λ ps. if place_meets env a db order A then parts_value db env ps else pos 0) e ∙ by (place_meets env a db order A)
    where
      by : (b : Bool) → (if b then pos 0 else pos 0) ≡ pos 0
      by true = refl
      by false = refl

  kept : (x y g : ℤ) → x ≡ y +ℤ g → g ≡ pos 0 → x ≡ y
  kept x y g e h = omega (arith, ints, e, h)

  pub has_same : (k : List ℤ) → has_row (after_action env a db) u k ≡ has_row db u k
  has_same k =
      let A = atom.Has u (map constant k) in
      subst (λ z. has_row (after_action env a db) u z ≡ has_row db u z) (constant_values env k)
      (kept _ _ (gain env a db order A) (atom_turn env a db order A (λ t. absurd (apart t)) ready)
      (no_gain A (ap (λ b. if b then presence_change a A else []) other)))

  pub column_same : (k : List ℤ) (c : ℕ) → column_of (after_action env a db) u k c ≡ column_of db u k c
  column_same k c =
      let A = atom.Col u (map constant k) c in
      subst (λ z. column_of (after_action env a db) u z c ≡ column_of db u z c) (constant_values env k)
      (kept _ _ (gain env a db order A) (atom_turn env a db order A (λ t. absurd (apart t)) ready)
      (no_gain A (ap (λ b. if b then column_change a c A else []) other)))

  pub count_same : (p : List ℤ) → count_of (after_action env a db) u p ≡ count_of db u p
  count_same p =
      let A = atom.Count u (map constant p) in
      subst (λ z. count_of (after_action env a db) u z ≡ count_of db u z) (constant_values env p)
      (kept _ _ (gain env a db order A) (atom_turn env a db order A (λ t. absurd (apart t)) ready)
      (no_gain A (ap (λ b. if b then presence_change a (atom.Has u (key_of a)) else []) other)))

  pub sum_same : (p : List ℤ) (c : ℕ) → sum_of (after_action env a db) u p c ≡ sum_of db u p c
  sum_same p c =
      let A = atom.Sum u (map constant p) c in
      subst (λ z. sum_of (after_action env a db) u z c ≡ sum_of db u z c) (constant_values env p)
      (kept _ _ (gain env a db order A) (atom_turn env a db order A (λ t. absurd (apart t)) ready)
      (no_gain A (ap (λ b. if b then column_change a c (atom.Col u (key_of a) c) else []) other)))

neither : (a b : Bool) → (a || b) ≡ false → (a ≡ false) × (b ≡ false)
neither true b h = absurd (false≢true (sym h))
neither false b h = (refl, h)

module _ (tables : List Table) (env : List ℤ) where
  -- a fact of the rows that each action on another table leaves is left by all
  module _ (u : ℕ) (Same : List Row → List Row → Type 0) (none : (db : List Row) → Same db db)
      (one : (a : Action) (db after : List Row) → IsInOrder db → IsReady env a db → (acted_table a == u) ≡ false
      → Same after (after_action env a db) → Same after db) where
    along :
        (acts : List Action) (db : List Row) → AllByRecursion (ActionFits tables) acts → AllByRecursion (RowFits tables) db → IsInOrder db
        → AreThere env acts db → list_any (λ a. acted_table a == u) acts ≡ false → Same (rows_after env acts db) db
    along [] db fits rows order there h = none db
    along (a ∷ rest) db fits rows order there h =
        let g = neither (acted_table a == u) (list_any (λ b. acted_table b == u) rest) h in
        one a db (rows_after env rest (after_action env a db)) order (is_ready tables env a db fits.0 rows there.0) g.0
        (along rest (after_action env a db) fits.1 (rows_fit tables env a db fits.0 rows) (stays_in_order tables env a db order) there.1
        g.1)

  module _ (acts : List Action) (db : List Row) (fits : AllByRecursion (ActionFits tables) acts) (rows : AllByRecursion (RowFits tables) db)
      (order : IsInOrder db) (there : AreThere env acts db) where
    abbrev after : List Row
    after = rows_after env acts db

    atom_same : (e : List ℤ) (A : Atom) → atom_names acts A ≡ false → atom_value after e A ≡ atom_value db e A
    atom_same e atom.One h = refl
    atom_same e (atom.Var x) h = refl
    atom_same e (atom.Has u k) h =
        along u (λ x y. has_row x u (lin_values e k) ≡ has_row y u (lin_values e k)) (λ y. refl)
        (λ a y x o r t g. g ∙ has_same env a y o r u t (lin_values e k)) acts db fits rows order there h
    atom_same e (atom.Col u k c) h =
        along u (λ x y. column_of x u (lin_values e k) c ≡ column_of y u (lin_values e k) c) (λ y. refl)
        (λ a y x o r t g. g ∙ column_same env a y o r u t (lin_values e k) c) acts db fits rows order there h
    atom_same e (atom.Count u p) h =
        along u (λ x y. count_of x u (lin_values e p) ≡ count_of y u (lin_values e p)) (λ y. refl)
        (λ a y x o r t g. g ∙ count_same env a y o r u t (lin_values e p)) acts db fits rows order there h
    atom_same e (atom.Sum u p c) h =
        along u (λ x y. sum_of x u (lin_values e p) c ≡ sum_of y u (lin_values e p) c) (λ y. refl)
        (λ a y x o r t g. g ∙ sum_same env a y o r u t (lin_values e p) c) acts db fits rows order there h

    terms_same :
        (e : List ℤ) (ts : List Term) → list_any (λ (t : Term). atom_names acts t.0.atom) ts ≡ false
        → total (map (product_value after e) ts) ≡ total (map (product_value db e) ts)
    terms_same e [] h = refl
    terms_same e (t ∷ ts) h =
        let g = neither (atom_names acts t.0.atom) (list_any (λ (s : Term). atom_names acts s.0.atom) ts) h in
        λ i. (t.1 *ℤ (if list_all (is_lin_zero e) t.0.under then atom_same e t.0.atom g.0 i else pos 0)) +ℤ terms_same e ts g.1 i

    rel_same : (e : List ℤ) (r : Rel) → rel_names acts r ≡ false → rel_true after e r ≡ rel_true db e r
    rel_same e r h = ap (λ z. meets r.equal (z +ℤ r.form.constant)) (terms_same e r.form.terms h)

    rels_same :
        (e : List ℤ) (rs : List Rel) → list_any (rel_names acts) rs ≡ false → list_all (rel_true after e) rs ≡ list_all (rel_true db e) rs
    rels_same e [] h = refl
    rels_same e (r ∷ rs) h =
        let g = neither (rel_names acts r) (list_any (rel_names acts) rs) h in
        λ i. rel_same e r g.0 i && rels_same e rs g.1 i

    -- a clause that names none of their tables stays true
    pub clause_same : (e : List ℤ) (c : Clause) → clause_names acts c ≡ false → ClauseTrue db e c → ClauseTrue after e c
    clause_same e c h holds own long guards =
        let g = neither (list_any (rel_names acts) c.guards) (rel_names acts c.rel) h in
        rel_same (e ++ own) c.rel g.1 ∙ holds own long (sym (rels_same (e ++ own) c.guards g.0) ∙ guards)
