use Rattle.acc_elim_systems.specs.Systems.{IsParted}
use Rattle.acc_elim_systems.proofs.systems.part.Given as goal

abbrev pub invariant-loop-row : goal.invariant-loop-row
invariant-loop-row l = IsParted l.fn.unknown l.yielded l.parted
