use Rattle.acc_terms.proofs.Worths.{keeps_worth}
use Rattle.acc_terms.proofs.laws.collecting_keeps_worth.Goals as goal

pub returns : goal.returns
returns g c = keeps_worth g.K.PartialEq.eq g.met.K.Exact.eq_is
