use Rattle.std.proofs.Common.{◌≡◌, take}
use Rattle.acc_base.specs.declared.limits.Limit.TheVariants as limit
use Rattle.acc_parse_limits.specs.Marks.{limited}
use Rattle.acc_parse_limits.specs.Statements.{read_marks}
use Rattle.acc_parse_limits.specs.Walks.{after}
use Rattle.acc_parse_limits.proofs.steps.meet_reads.Given as goal

abbrev pub invariant-loop-i : goal.invariant-loop-i
invariant-loop-i l = l.walk ≡ after l.initial.walk (limited limit.Reads 32 read_marks (take l.i l.reads))
