-- None of the places before has the name.
use Rattle.std.proofs.Common.{◌≡◌, drop}
use Rattle.acc_commands_files.specs.Advising.{named}
use Rattle.acc_commands_files.proofs.Named.{found_in}
use Rattle.acc_commands_files.proofs.points.named.Given as goal

abbrev pub invariant-loop-q : goal.invariant-loop-q
invariant-loop-q l = found_in l.d l.word (drop l.q-index l.q-items) ≡ named l.d l.word
