-- The totals that the clauses of a design read, as far as an audit tries them.
use Rattle.std.specs.Prelude.{Bool, ◌||◌, length, Option, Some, None}
use Rattle.std.specs.List.{list_any}
use Rattle.acc_base.specs.declared.forms.Atom.{Atom}
use Rattle.acc_base.specs.declared.forms.Atom.TheVariants.{One, Var, Has, Col, Count, Sum}
use Rattle.acc_base.specs.declared.forms.Rel.{Rel}
use Rattle.acc_base.specs.declared.forms.Clause.{Clause}
use Rattle.acc_base.specs.declared.designs.Point.{Point}
use Rattle.acc_base.specs.declared.designs.TxType.{TxType}
use Rattle.acc_base.specs.declared.designs.Design.{Design}
use Rattle.acc_base.specs.Sums.{Term}
use Rattle.acc_index_store.specs.declared.prefixes.Prefixes.{Prefixes}
use Rattle.acc_index_store.specs.Asked.{is_it}

-- the totals that are the value of an atom, if it is a number of rows or a sum
abbrev pub total_of : Atom → Option Prefixes
total_of One = None
total_of (Var x) = None
total_of (Has t k) = None
total_of (Col t k c) = None
total_of (Count t p) = Some (record { table = t; parts = length p; col = 0 })
total_of (Sum t p c) = Some (record { table = t; parts = length p; col = c })

-- whether a term reads these totals, a relation, a clause, the assertion of a point, that of one of a type's points
abbrev pub total_in_term : Prefixes → Term → Bool
total_in_term k t = is_it k (total_of t.0.atom)

abbrev pub total_in_rel : Prefixes → Rel → Bool
total_in_rel k r = list_any (total_in_term k) r.form.terms

abbrev pub total_in_clause : Prefixes → Clause → Bool
total_in_clause k c = list_any (total_in_rel k) c.guards || total_in_rel k c.rel

abbrev pub total_in_point : Prefixes → Point → Bool
total_in_point k p = list_any (total_in_clause k) p.clauses

abbrev pub total_in_type : Prefixes → TxType → Bool
total_in_type k t = list_any (total_in_point k) t.points

-- whether what a design asserts at all times reads them, or what it asserts at a point
abbrev pub total_in_design : Prefixes → Design → Bool
total_in_design k d = list_any (total_in_clause k) d.always || list_any (total_in_type k) d.types
