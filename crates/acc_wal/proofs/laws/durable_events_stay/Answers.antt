use Rattle.acc_wal.proofs.FrontLemmas.{front_of_either}
use Rattle.acc_wal.proofs.laws.durable_events_stay.Goals as goal

pub returns : goal.returns
returns c base image durable tail left = front_of_either base image durable tail left
