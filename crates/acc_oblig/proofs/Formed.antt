-- What the form rules give for obligations: the shapes of clauses, actions and reads.
use Rattle.std.proofs.Common.{◌≡◌, ℕ, zero, suc, ◌+◌, ◌<◌, true, List, [], ◌∷◌, length, refl, subst, arith, Option, Some, None, ℤ, pos}
use Rattle.std.proofs.Common.{◌==◌}
use Rattle.std.specs.Prelude.{slice_get, nat_le}
use Rattle.std.specs.List.{list_all, AllByRecursion, starts_with}
use Rattle.std.specs.Ordering.{int_eq}
use Rattle.std.specs.Cmp.{first_so, second_so}
use Rattle.std.proofs.lemmas.Bool.{false≢true, and_parts, leb-true, ltb-true, eqb-true}
use Rattle.acc_base.specs.declared.tables.Table.{Table}
use Rattle.acc_base.specs.declared.tables.Row.{Row}
use Rattle.acc_base.specs.declared.forms.Lin.{Lin}
use Rattle.acc_base.specs.declared.forms.Atom.{Atom}
use Rattle.acc_base.specs.declared.forms.Atom.TheVariants as atom
use Rattle.acc_base.specs.declared.forms.Rel.{Rel}
use Rattle.acc_base.specs.declared.forms.Clause.{Clause}
use Rattle.acc_base.specs.declared.steps.Read.{Read}
use Rattle.acc_base.specs.declared.steps.Read.TheVariants as read
use Rattle.acc_base.specs.declared.steps.Action.{Action}
use Rattle.acc_base.specs.declared.steps.Action.TheVariants as action
use Rattle.acc_base.specs.Sums.{Term}
use Rattle.acc_base.specs.Shapes.{IsFullKey, IsPrefix, IsColumn, AreColumns, AtomFits, ActionFits, RowFits}
use Rattle.acc_formed.specs.Ranges.{has_column, cell_in, row_in, lin_in, atom_in, product_in, rel_in, clause_in, action_in}
use Rattle.acc_formed.specs.Widths.{is_key, is_prefix, fills, atom_fits, product_fits, rel_fits, clause_fits, action_fits, is_short_prefix}
use Rattle.acc_formed.specs.Widths.{read_leaves_a_component}
use Rattle.acc_formed.specs.Ends.{divides}
use Rattle.acc_oblig.proofs.FormValues.{int_le_holds}
use Rattle.acc_oblig.proofs.Judged.{RelFits, ClauseFits}
use Rattle.acc_oblig.proofs.Parts.{HasPart}
use Rattle.acc_oblig.proofs.ReadRels.{HasDivisor}
use Rattle.acc_oblig.proofs.Walks.{LooksBelow}

-- ---- shapes

key : (o : Option Table) (k : List Lin) → is_key o k ≡ true → IsFullKey o (length k)
key None k h = absurd (false≢true h)
key (Some t) k h = eqb-true (length k) t.width h

prefix : (o : Option Table) (p : List Lin) → is_prefix o p ≡ true → IsPrefix o (length p)
prefix None p h = absurd (false≢true h)
prefix (Some t) p h =
    let a = and_parts (nat_le 1 (length p)) (nat_le (length p) t.width) h in
    (leb-true 1 (length p) a.0, leb-true (length p) t.width a.1)

column : (o : Option Table) (c : ℕ) → has_column o c ≡ true → IsColumn o c
column None c h = absurd (false≢true h)
column (Some t) c h = ltb-true c (length t.cols) h

columns : (o : Option Table) (vs : List Lin) → fills o vs ≡ true → AreColumns o (length vs)
columns None vs h = absurd (false≢true h)
columns (Some t) vs h = eqb-true (length vs) (length t.cols) h

module _ (tables : List Table) (vars : ℕ) where
  cell : (t : ℕ) (k : List Lin) (c : ℕ) → cell_in tables vars t k c ≡ true → IsColumn (slice_get tables t) c
  cell t k c h = column (slice_get tables t) c (and_parts (row_in tables vars t k) (has_column (slice_get tables t) c) h).1

  atom_fit : (a : Atom) → atom_in tables vars a ≡ true → atom_fits tables a ≡ true → AtomFits tables a
  atom_fit atom.One h g = tt
  atom_fit (atom.Var x) h g = tt
  atom_fit (atom.Has t k) h g = key (slice_get tables t) k g
  atom_fit (atom.Col t k c) h g = (key (slice_get tables t) k g, cell t k c h)
  atom_fit (atom.Count t p) h g = prefix (slice_get tables t) p g
  atom_fit (atom.Sum t p c) h g = (prefix (slice_get tables t) p g, cell t p c h)

  pub terms_fit :
      (ts : List Term) → list_all (product_in tables vars) ts ≡ true → list_all (product_fits tables) ts ≡ true
      → AllByRecursion (λ (t : Term). AtomFits tables t.0.atom) ts
  terms_fit [] h g = tt
  terms_fit (t ∷ ts) h g = (
    atom_fit t.0.atom (and_parts (length t.0.under == 0) (atom_in tables vars t.0.atom)
        (first_so (product_in tables vars t) (list_all (product_in tables vars) ts) h)).1
        (first_so (product_fits tables t) (list_all (product_fits tables) ts) g),
    terms_fit ts (second_so (product_in tables vars t) (list_all (product_in tables vars) ts) h)
        (second_so (product_fits tables t) (list_all (product_fits tables) ts) g),
  )

  rels_fit :
      (rs : List Rel) → list_all (rel_in tables vars) rs ≡ true → list_all (rel_fits tables) rs ≡ true → AllByRecursion (RelFits tables) rs
  rels_fit [] h g = tt
  rels_fit (r ∷ rs) h g = (
    terms_fit r.form.terms (first_so (rel_in tables vars r) (list_all (rel_in tables vars) rs) h)
        (first_so (rel_fits tables r) (list_all (rel_fits tables) rs) g),
    rels_fit rs (second_so (rel_in tables vars r) (list_all (rel_in tables vars) rs) h)
        (second_so (rel_fits tables r) (list_all (rel_fits tables) rs) g),
  )

  pub action_fit : (a : Action) → action_in tables vars a ≡ true → action_fits tables a ≡ true → ActionFits tables a
  action_fit (action.Put t k vs) h g =
      let p = and_parts (is_key (slice_get tables t) k) (fills (slice_get tables t) vs) g in
      (key (slice_get tables t) k p.0, columns (slice_get tables t) vs p.1)
  action_fit (action.Del t k) h g = key (slice_get tables t) k g
  action_fit (action.Set t k c v) h g =
      (key (slice_get tables t) k g, cell t k c (and_parts (cell_in tables vars t k c) (lin_in vars v) h).0)
  action_fit (action.Add t k c v) h g =
      (key (slice_get tables t) k g, cell t k c (and_parts (cell_in tables vars t k c) (lin_in vars v) h).0)

pub clause_fit :
    (tables : List Table) (vars : ℕ) (c : Clause) → clause_in tables vars c ≡ true → clause_fits tables c ≡ true → ClauseFits tables c
clause_fit tables vars c h g =
    let a = and_parts (list_all (rel_in tables (vars + length c.vars)) c.guards) (rel_in tables (vars + length c.vars) c.rel) h in
    let b = and_parts (list_all (rel_fits tables) c.guards) (rel_fits tables c.rel) g in
    record {
      guards = rels_fit tables (vars + length c.vars) c.guards a.0 b.0;
      rel = terms_fit tables (vars + length c.vars) c.rel.form.terms a.1 b.1;
    }

-- ---- reads

pub divisor : (r : Read) → divides r ≡ true → HasDivisor r
divisor (read.Let x l) h = tt
divisor (read.Col x t k c) h = tt
divisor (read.Has x t k) h = tt
divisor (read.Count x t p) h = tt
divisor (read.Sum x t p c) h = tt
divisor (read.Least x t p) h = tt
divisor (read.Greatest x t p) h = tt
divisor (read.Take x) h = tt
divisor (read.Mul x y z) h = tt
divisor (read.Div x y c) h = int_le_holds (pos 1) c h

some_part : (xs : List ℤ) (k : ℕ) → k < length xs → (y : ℤ) × (slice_get xs k ≡ Some y)
some_part [] k h = absurd (omega arith)
some_part (x ∷ xs) zero h = (x, refl)
some_part (x ∷ xs) (suc k) h = some_part xs k (omega arith)

-- a row of a table has longer keys than a short prefix
has_part :
    (tables : List Table) (t : ℕ) (p : List Lin) (q : List ℤ) → length q ≡ length p → is_short_prefix (slice_get tables t) p ≡ true
    → (r : Row) → RowFits tables r → HasPart t q r
has_part tables t p q same short r fits under =
    let at : r.table ≡ t = eqb-true r.table t (first_so (r.table == t) (starts_with int_eq r.key.parts q) under) in
    some_part r.key.parts (length q) (by (slice_get tables t) short
    (subst (λ n. IsFullKey (slice_get tables n) (length r.key.parts)) at fits.0))
  where
    by : (o : Option Table) → is_short_prefix o p ≡ true → IsFullKey o (length r.key.parts) → length q < length r.key.parts
    by None s k = absurd (false≢true s)
    by (Some x) s k = let l = ltb-true (length p) x.width s in omega (arith, l, k, same)

module _ (tables : List Table) (db : List Row) (shapes : AllByRecursion (RowFits tables) db) where
  all_part :
      (t : ℕ) (p : List Lin) (q : List ℤ) → length q ≡ length p → is_short_prefix (slice_get tables t) p ≡ true → (rows : List Row)
      → AllByRecursion (RowFits tables) rows → AllByRecursion (HasPart t q) rows
  all_part t p q same short [] h = tt
  all_part t p q same short (r ∷ rows) h = (has_part tables t p q same short r h.0, all_part t p q same short rows h.1)

  pub looks : (r : Read) → read_leaves_a_component tables r ≡ true → LooksBelow db r
  looks (read.Let x l) h = tt
  looks (read.Col x t k c) h = tt
  looks (read.Has x t k) h = tt
  looks (read.Count x t p) h = tt
  looks (read.Sum x t p c) h = tt
  looks (read.Least x t p) h = λ q same. all_part t p q same h db shapes
  looks (read.Greatest x t p) h = λ q same. all_part t p q same h db shapes
  looks (read.Take x) h = tt
  looks (read.Mul x y z) h = tt
  looks (read.Div x y c) h = tt
