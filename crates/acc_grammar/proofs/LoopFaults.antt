-- A loop that stops by an item's fault.
use Rattle.std.proofs.Common.{◌≡◌, Bool, false, true, List, [], Err}
use Rattle.acc_grammar.specs.declared.faults.Fault.{Fault}
use Rattle.acc_grammar.specs.declared.faults.Fault.TheVariants.{Memory, Syntax}
use Rattle.acc_grammar.specs.Readers.{OutcomeOf, many}
use Rattle.acc_grammar.specs.Answers.{Gives}
use Rattle.acc_grammar.proofs.Many.{with_front, ends}

-- where the item stopped, and memory doesn't count
pub ends_so : {S T : Type 0} (starts : List S → Bool) (item : List S → OutcomeOf S T) (nothing : starts [] ≡ false) (fault : Fault)
    (front : List T) (ws rest : List S) (total : OutcomeOf S (List T)) → starts ws ≡ true → Gives {T = T} (Err fault) rest (item ws) →
    with_front front (many starts item ws) ≡ total → Gives {T = List T} (Err fault) rest total
ends_so starts item nothing Memory front ws rest total s e so_far = tt
ends_so starts item nothing Syntax front ws rest total s e so_far = ends starts item nothing front ws rest total s e so_far
