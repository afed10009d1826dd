use Rattle.std.proofs.lemmas.Result.{IfOk-weaker, IfErr-weaker}
use Rattle.acc_settling.specs.Openings.{opening_at}
use Rattle.acc_running.proofs.Saying.{says_one}
use Rattle.acc_running.proofs.engines.say.Goals as goal

pub returns-clause-says : goal.returns-clause-says
returns-clause-says g c =
    let old = c.args.player.now in
    let told = c.schedule-told in
    IfOk-weaker c.answer_of.result _ _
    (says_one c.args.d.now old.calls c.args.order.now (opening_at old.state old.calls) c.args.grew told.new.player told.result
    told.ensures.tells told.ensures.settled told.ensures.sealed (IfErr-weaker told.result _ _ (λ stop tells. tells.0) told.ensures.stops)
    told.ensures.unsettled)
    c.answer_of.ensures
