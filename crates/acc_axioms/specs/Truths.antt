-- What an axiom adds is true wherever what must be shown for it is.
use Rattle.std.specs.Prelude.{Bool, IsTrue, List, ℤ}
use Rattle.std.specs.List.{list_all}
use Rattle.acc_base.specs.declared.tables.Row.{Row}
use Rattle.acc_base.specs.declared.forms.Rel.{Rel}
use Rattle.acc_base.specs.declared.designs.Design.{Design}
use Rattle.acc_base.specs.declared.sequents.Sequent.{Sequent}
use Rattle.acc_base.specs.Truth.{rel_true}
use Rattle.acc_base.specs.TrueSequents.{IsAskedOf}
use Rattle.acc_axioms.specs.declared.axioms.Need.{Need}

abbrev pub all_true : List Row → List ℤ → List Rel → Bool
all_true db env rels = list_all (rel_true db env) rels

-- in all rows and for all numbers of which a sequent speaks
abbrev pub AddsTrue : Design → Sequent → Need → Type 0
AddsTrue d q n =
    (db : List Row) (env : List ℤ) → IsAskedOf d q db env → IsTrue (all_true db env n.facts) → IsTrue (all_true db env n.added)
