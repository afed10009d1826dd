-- What is written so far, and then the numbers that are left, is all of it.
use Rattle.acc_page.specs.Written.{Owes}
use Rattle.std.proofs.Common.{drop}
use Rattle.std.specs.List.{flat_map}
use Rattle.acc_oblig_origins.specs.Origins.{dotted}
use Rattle.acc_oblig_origins.proofs.origins.push_dotted.Given as goal

abbrev pub invariant-loop-number : goal.invariant-loop-number
invariant-loop-number l = Owes l.fn.out l.out (flat_map dotted (drop l.number-index l.numbers)) (flat_map dotted l.numbers)
