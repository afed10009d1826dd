-- What writes can have changed of clauses with which nothing was wrong before.
use Rattle.std.specs.Prelude.{◌≡◌, ℕ, ◌==◌, Bool, false, ◌||◌, List, Option, Some, None, ℤ}
use Rattle.std.specs.List.{list_any}
use Rattle.std.specs.Ordering.{is_eq}
use Rattle.acc_base.specs.declared.tables.Row.{Row}
use Rattle.acc_base.specs.declared.forms.Atom.{Atom}
use Rattle.acc_base.specs.declared.forms.Atom.TheVariants.{One, Var, Has, Col, Count, Sum}
use Rattle.acc_base.specs.declared.forms.Rel.{Rel}
use Rattle.acc_base.specs.declared.forms.Clause.{Clause}
use Rattle.acc_base.specs.Atoms.{table_of}
use Rattle.acc_base.specs.Linear.{lin_values}
use Rattle.acc_base.specs.Sums.{Term}
use Rattle.acc_base.specs.Tables.{Place, place_cmp}
use Rattle.acc_store.specs.declared.writes.Write.{Write}
use Rattle.acc_store.specs.Rows.{written, is_below}
use Rattle.acc_index_store.specs.Indexes.{place_written}
use Rattle.acc_audit_complaints.specs.Complaints.{Judges}

-- ---- the tables that a clause reads

-- whether one of some writes changes a table, if there is one
abbrev pub is_written : List Write → Option ℕ → Bool
is_written ws None = false
is_written ws (Some t) = list_any (λ w. (place_written w).0 == t) ws

abbrev pub term_reads : List Write → Term → Bool
term_reads ws t = is_written ws (table_of t.0.atom)

abbrev pub rel_reads : List Write → Rel → Bool
rel_reads ws r = list_any (term_reads ws) r.form.terms

-- whether an atom of a clause speaks of a table that one of some writes changes
abbrev pub clause_reads : List Write → Clause → Bool
clause_reads ws c = list_any (rel_reads ws) c.guards || rel_reads ws c.rel

-- ---- the rows that an atom reads

-- whether the value of an atom, with these values for the variables, is of the row at a place, or of rows among which that one is
abbrev pub reads_at : List ℤ → Atom → Place → Bool
reads_at env One p = false
reads_at env (Var x) p = false
reads_at env (Has t k) p = is_eq (place_cmp (t, lin_values env k) p)
reads_at env (Col t k c) p = is_eq (place_cmp (t, lin_values env k) p)
reads_at env (Count t k) p = is_below t (lin_values env k) p
reads_at env (Sum t k c) p = is_below t (lin_values env k) p

-- ---- before the writes

-- the writes led to these rows, and before them nothing was wrong with the clause
pub record WasClear (ws : List Write) (db : List Row) (env : List ℤ) (c : Clause) : Type 0 where
  pub before : List Row
  pub led : db ≡ written ws before
  pub clear : Judges before env c None
