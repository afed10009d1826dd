use Rattle.std.proofs.Common.{subst}
use Rattle.std.specs.Prelude.{Result}
use Rattle.std.proofs.lemmas.Result.{IfOk-weaker}
use Rattle.acc_replica.specs.Replicas.{TellsEnd, told_last}
use Rattle.acc_replica.specs.declared.errors.ReplicaError.{ReplicaError}
use Rattle.acc_commands_files.proofs.Following.{all_refused}
use Rattle.acc_commands_files.proofs.follows.do_whole.Goals as goal

pub returns-in-Err-clause-ends : goal.returns-in-Err-clause-ends
returns-in-Err-clause-ends g c =
    let d = c.args.replica.now.design in
    let here = c.advance_all.new.self.world in
    IfOk-weaker c.refusal_of.result _ _ (λ refused is fed f. rw is.0 (all_refused d fed here c.in-Err.error is.1
    (subst (λ (r : Result (Unit {0}) ReplicaError). TellsEnd d fed (told_last r) here) c.in-Err.is (c.advance_all.ensures.ends fed f))))
    c.refusal_of.ensures
