-- The obligations of a clause for both orders, from what they have in common.
use Rattle.std.specs.Prelude.{◌++◌, List, map}
use Rattle.acc_base.specs.declared.forms.Clause.{Clause}
use Rattle.acc_base.specs.declared.steps.Action.{Action}
use Rattle.acc_preconditions.specs.Preconditions.{wp_of}
use Rattle.acc_oblig.specs.declared.naming.Naming.{Naming}
use Rattle.acc_oblig.specs.Naming.{named_rel}
use Rattle.acc_oblig.specs.Drafts.{Draft, goals_of, is_clause_wide}
use Rattle.acc_oblig.specs.Spares.{ordered_drafts}
use Rattle.acc_oblig_goals.specs.Causes.{at_case}
use Rattle.acc_oblig_paths.specs.declared.orders.Ordered.{Ordered}

-- of a clause after actions, under its names
abbrev pub after_ordered : Ordered → List Action → Naming → Clause → List Draft
after_ordered o actions n c =
    let guards = map (named_rel n) c.guards in
    let r = named_rel n c.rel in
    ordered_drafts (at_case o.origin) o.vars o.hyps o.first o.lower o.higher (o.rest ++ map (wp_of actions) guards)
    (is_clause_wide actions guards r) 1 (goals_of (wp_of actions r))
