-- The obligations of a clause from what they share.
use Rattle.std.specs.Prelude.{◌++◌, List, map}
use Rattle.acc_base.specs.declared.forms.Clause.{Clause}
use Rattle.acc_base.specs.declared.steps.Action.{Action}
use Rattle.acc_oblig.specs.Preconditions.{wp_of}
use Rattle.acc_oblig.specs.declared.naming.Naming.{Naming}
use Rattle.acc_oblig.specs.Naming.{named_rel}
use Rattle.acc_oblig.specs.Drafts.{Draft, goal_drafts, goals_of, is_clause_wide}
use Rattle.acc_oblig_goals.specs.declared.sequents.Shared.{Shared}
use Rattle.acc_oblig_goals.specs.Causes.{at_case}

-- of a clause after actions, under its names
abbrev pub after_drafts : Shared → List Action → Naming → Clause → List Draft
after_drafts s actions n c =
    let guards = map (named_rel n) c.guards in
    let r = named_rel n c.rel in
    goal_drafts (at_case s.origin) s.vars s.hyps (s.rels ++ map (wp_of actions) guards) (is_clause_wide actions guards r) 1
    (goals_of (wp_of actions r))
