-- A part that stops by a fault stops the whole.
use Rattle.std.proofs.Common.{List, Err, refl}
use Rattle.acc_grammar.specs.declared.faults.Fault.{Fault}
use Rattle.acc_grammar.specs.declared.faults.Fault.TheVariants.{Memory, Syntax}
use Rattle.acc_grammar.specs.Readers.{OutcomeOf, ◌>>=◌}
use Rattle.acc_grammar.specs.Answers.{Gives}

-- what comes behind the part isn't read
pub stops_whole : {S A B : Type 0} (fault : Fault) (rest : List S) (read : OutcomeOf S A) (f : A × List S → OutcomeOf S B) →
    Gives {T = A} (Err fault) rest read → Gives {T = B} (Err fault) rest (read >>= f)
stops_whole Memory rest read f g = tt
stops_whole Syntax rest read f g = rw g refl
