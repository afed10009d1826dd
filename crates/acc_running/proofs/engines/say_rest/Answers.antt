use Rattle.std.proofs.Common.{[]}
use Rattle.std.proofs.lemmas.Result.{IfOk-weaker, IfErr-weaker}
use Rattle.acc_running.proofs.Saying.{says_one}
use Rattle.acc_running.proofs.engines.say_rest.Goals as goal

pub returns-clause-says : goal.returns-clause-says
returns-clause-says g c =
    let told = c.finish-told in
    IfOk-weaker c.answer_of.result _ _
    (λ s says p is.
    says_one c.args.d.now c.args.player.now.calls [] p c.args.grew told.new.player told.result
    (IfOk-weaker told.result _ _ (λ x tells. tells p is) told.ensures.tells)
    told.ensures.settled told.ensures.sealed told.ensures.stops (IfErr-weaker told.result _ _ (λ x parts. parts p is)
    told.ensures.unsettled) s says)
    c.answer_of.ensures
