use Rattle.acc_advise.proofs.Trying.{beyond_not_enough, beyond_once}
use Rattle.acc_advise.proofs.laws.known_stays.Goals as goal

pub returns : goal.returns
returns c d q set pair b h = (beyond_not_enough d q set pair b h, beyond_once d q set pair b h)
