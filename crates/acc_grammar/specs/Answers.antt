-- A parser's answer.
-- The parsers' contracts speak of this.
use Rattle.std.specs.Prelude.{◌≡◌, List, ◌++◌, Result, Ok, Err}
use Rattle.acc_grammar.specs.Readers.{OutcomeOf}
use Rattle.acc_grammar.specs.declared.faults.Fault.{Fault}
use Rattle.acc_grammar.specs.declared.faults.Fault.TheVariants.{Memory, Syntax}

-- a parser's answer, and the words that are left, are those of reading, unless memory ran out
abbrev pub Gives : {S T : Type 0} → Result T Fault → List S → OutcomeOf S T → Type 0
Gives (Ok x) rest read = read ≡ Ok (x, rest)
Gives (Err Syntax) rest read = read ≡ Err rest
Gives (Err Memory) rest read = Unit {0}

-- the same of a parser that answers with what `value` makes of the tree that was read
abbrev pub GivesAs : {S T X : Type 0} → (T → X) → Result X Fault → List S → OutcomeOf S T → Type 0
GivesAs value (Ok x) rest read = (t : _) × (read ≡ Ok (t, rest)) × (x ≡ value t)
GivesAs value (Err Syntax) rest read = read ≡ Err rest
GivesAs value (Err Memory) rest read = Unit {0}

-- the same of a parser that adds to what it holds the items that `items` makes of the tree that was read
abbrev pub Adds : {S T X U : Type 0} → (T → List X) → Result U Fault → List X → List X → List S → OutcomeOf S T → Type 0
Adds items (Ok u) before after rest read = (t : _) × (read ≡ Ok (t, rest)) × (after ≡ before ++ items t)
Adds items (Err Syntax) before after rest read = read ≡ Err rest
Adds items (Err Memory) before after rest read = Unit {0}
