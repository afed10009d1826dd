use Rattle.std.proofs.Common.{◌≡◌, length}
use Rattle.acc_grammar.specs.Readers.{many}
use Rattle.acc_grammar.proofs.Many.{with_front}
use Rattle.acc_parse_steps.specs.ActionReaders.{starts_action, action_at}
use Rattle.acc_parse_steps.proofs.actions.actions.Given as goal

abbrev pub invariant-loop-parser : goal.invariant-loop-parser
invariant-loop-parser l = with_front l.actions (many starts_action action_at l.parser.words.now) ≡ many starts_action action_at
    l.fn.parser.words.now

abbrev pub decreases-loop-parser : goal.decreases-loop-parser
decreases-loop-parser l = length l.parser.words.now
