use Rattle.std.proofs.Common.{◌≡◌, map}
use Rattle.acc_base.specs.Items.{numbers_from}
use Rattle.acc_prover_choices.specs.Choices.{new_place}
use Rattle.acc_prover_choices.specs.Walks.{patterns_in}
use Rattle.acc_prover_choices.proofs.patterns.news_of.Given as goal

abbrev pub invariant-loop-i : goal.invariant-loop-i
invariant-loop-i l = l.news ≡ map (new_place (patterns_in l.taken) l.places) (numbers_from 0 l.i)
