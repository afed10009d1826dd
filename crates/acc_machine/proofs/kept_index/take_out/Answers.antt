use Rattle.acc_machine.proofs.Following.{without_none, not_so}
use Rattle.acc_machine.proofs.kept_index.take_out.Goals as goal

pub returns-else-has : goal.returns-else-has
returns-else-has c = λ d old frames stand without.
    without_none d old frames c.args.index.now.standings stand c.args.t (not_so c.has.result c.if-has.false c.has.ensures) without
