use Rattle.std.proofs.Common.{◌≡◌, ◌++◌, take, map}
use Rattle.acc_oblig.specs.Naming.{named_action}
use Rattle.acc_oblig_assumptions.proofs.settings.add_actions.Given as goal

abbrev pub invariant-loop-a : goal.invariant-loop-a
invariant-loop-a l = l.out.items ≡ l.fn.out.items ++ map (named_action l.n) (take l.a-index l.actions)
