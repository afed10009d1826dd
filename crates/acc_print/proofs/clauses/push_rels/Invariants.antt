-- What is written so far, and then the relations that are left, is all of it.
use Rattle.acc_page.specs.Written.{Owes}
use Rattle.std.proofs.Common.{[], drop}
use Rattle.acc_print.specs.Lists.{listed}
use Rattle.acc_print.specs.Clauses.{rel_text}
use Rattle.acc_print.proofs.clauses.push_rels.Given as goal

abbrev pub invariant-loop-rel : goal.invariant-loop-rel
invariant-loop-rel l =
    Owes l.fn.out l.out (listed (rel_text l.scope) l.before (drop l.rel-index l.rels)) (listed (rel_text l.scope) [] l.rels)
