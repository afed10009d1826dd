use Rattle.acc_elim_solved.proofs.Readings.{searched_is_met}
use Rattle.acc_elim_solved.proofs.laws.a_point_meets_the_relations.Goals as goal

pub returns : goal.returns
returns c = searched_is_met
