-- What a text stands for names nothing that is out of range: values, rows and clauses.
use Rattle.std.proofs.Common.{◌≡◌, ◌<◌, ℕ, zero, suc, Bool, true, List, [], ◌∷◌, length, Option, Some, None, refl, subst, arith}
use Rattle.std.proofs.Common.{length-append}
use Rattle.std.specs.Prelude.{nat_lt, slice_get, ℤ, ◌&&◌}
use Rattle.std.specs.List.{list_all}
use Rattle.std.specs.Cmp.Derive.{both_true}
use Rattle.std.proofs.lemmas.Bool.{lt-ltb}
use Rattle.acc_grammar.specs.Readers.{AllIn}
use Rattle.acc_base.specs.declared.forms.Lin.{Lin}
use Rattle.acc_base.specs.declared.forms.Atom.{Atom}
use Rattle.acc_base.specs.declared.forms.Atom.TheVariants as atom
use Rattle.acc_base.specs.declared.forms.Unknown.{Unknown}
use Rattle.acc_base.specs.declared.forms.Rel.{Rel}
use Rattle.acc_base.specs.declared.forms.Clause.{Clause}
use Rattle.acc_base.specs.declared.tables.Table.{Table}
use Rattle.acc_formed.specs.Ranges.{term_in, lin_in, row_in, has_column, cell_in, atom_in, product_in, rel_in, clause_in}
use Rattle.acc_print.specs.Names.{Scope, name_at, table_name, column_name, with_own}
use Rattle.acc_parse_readback.specs.Printable.{IsName, IsVariable, IsTermSaid, IsLinSaid, IsKeySaid, IsRowSaid, IsCellSaid, IsAtomSaid}
use Rattle.acc_parse_readback.specs.Printable.{IsUnknownSaid, IsRelSaid, IsClauseSaid}
use Rattle.acc_parse_readback.proofs.NamePlaces.{there}
use Rattle.acc_parse_readback.proofs.VariableNumbers.{variable_there}

-- a test that each item passes that has a property
pub all_pass : {X : Type 0} (P : X → Type 0) (test : X → Bool) → ((x : X) → P x → test x ≡ true) → (xs : List X) → AllIn P xs →
    list_all test xs ≡ true
all_pass P test each [] h = refl
all_pass P test each (x ∷ xs) h = both_true (each x h.0) (all_pass P test each xs h.1)

-- an item that has what nothing has that is missing is there
pub item_there : {X : Type 0} (P : Option X → Type 0) → ¬ P None → (xs : List X) (i : ℕ) → P (slice_get xs i) → nat_lt i (length xs) ≡ true
item_there {X = X} P none xs i h = lt-ltb i (length xs) (within xs i h)
  where
    within : (ys : List X) (k : ℕ) → P (slice_get ys k) → k < length ys
    within [] k g = absurd (none g)
    within (y ∷ ys) zero g = omega arith
    within (y ∷ ys) (suc k) g = let e = within ys k g in omega arith

-- ---- values

pub variable_in : (names : List (List ℕ)) (n : ℕ) → IsVariable (name_at names n) → nat_lt n (length names) ≡ true
variable_in names n h = lt-ltb n (length names) (variable_there names n h)

pub value_in : (names : List (List ℕ)) (l : Lin) → IsLinSaid names l → lin_in (length names) l ≡ true
value_in names l h = all_pass (IsTermSaid names) (term_in (length names)) (λ t g. variable_in names t.0 g.0) l.coeffs h.terms

pub values_in : (names : List (List ℕ)) (ls : List Lin) → AllIn (IsLinSaid names) ls → list_all (lin_in (length names)) ls ≡ true
values_in names ls h = all_pass (IsLinSaid names) (lin_in (length names)) (value_in names) ls h

-- ---- rows

key_in : (names : List (List ℕ)) (k : List Lin) → IsKeySaid names k → list_all (lin_in (length names)) k ≡ true
key_in names [] h = absurd h
key_in names (l ∷ ls) h = values_in names (l ∷ ls) h

pub place_in : (s : Scope) (t : ℕ) (k : List Lin) → IsRowSaid s t k → row_in s.tables (length s.names) t k ≡ true
place_in s t k h = both_true (item_there (λ o. IsName (table_name o)) (λ g. absurd g.0) s.tables t h.table) (key_in s.names k h.key)

column_in : (o : Option Table) (c : ℕ) → IsName (column_name o c) → has_column o c ≡ true
column_in None c h = absurd h.0
column_in (Some t) c h = lt-ltb c (length t.cols) (there t.cols c h)

pub column_of_row_in : (s : Scope) (t : ℕ) (k : List Lin) (c : ℕ) → IsCellSaid s t k c → cell_in s.tables (length s.names) t k c ≡ true
column_of_row_in s t k c h = both_true (place_in s t k h.row) (column_in (slice_get s.tables t) c h.column)

-- ---- clauses

operand_in : (s : Scope) (a : Atom) → IsAtomSaid s a → atom_in s.tables (length s.names) a ≡ true
operand_in s atom.One h = absurd h
operand_in s (atom.Var x) h = variable_in s.names x h
operand_in s (atom.Has t k) h = place_in s t k h
operand_in s (atom.Col t k c) h = column_of_row_in s t k c h
operand_in s (atom.Count t k) h = place_in s t k h
operand_in s (atom.Sum t k c) h = column_of_row_in s t k c h

unknown_in : (s : Scope) (t : Unknown × ℤ) → IsUnknownSaid s t → product_in s.tables (length s.names) t ≡ true
unknown_in s t h = both_true (rw h.2 refl) (operand_in s t.0.atom h.0)

relation_in : (s : Scope) (r : Rel) → IsRelSaid s r → rel_in s.tables (length s.names) r ≡ true
relation_in s r h = all_pass (IsUnknownSaid s) (product_in s.tables (length s.names)) (unknown_in s) r.form.terms h.terms

pub clause_range : (s : Scope) (c : Clause) → IsClauseSaid s c → clause_in s.tables (length s.names) c ≡ true
clause_range s c h =
    let own = with_own s c.vars in
    subst (λ (n : ℕ). (list_all (rel_in s.tables n) c.guards && rel_in s.tables n c.rel) ≡ true) (length-append s.names c.vars)
    (both_true (all_pass (IsRelSaid own) (rel_in s.tables (length own.names)) (relation_in own) c.guards h.guards)
    (relation_in own c.rel h.relation))
