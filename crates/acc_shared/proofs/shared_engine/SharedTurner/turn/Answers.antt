use Rattle.std.proofs.Common.{subst}
use Rattle.std.specs.Prelude.{Option, MatchOption}
use Rattle.acc_workers.specs.declared.turners.Went.{Went}
use Rattle.acc_workers.specs.declared.turners.Why.{Why}
use Rattle.acc_workers.specs.Turns.{Same, Goes}
use Rattle.acc_beside.specs.Calls.{May, Shows, ShowsBlocked}
use Rattle.acc_shared.proofs.Turning.{loses_before}
use Rattle.acc_shared.proofs.shared_engine.SharedTurner.turn.Goals as goal

pub returns-in-None-clause-went : goal.returns-in-None-clause-went
returns-in-None-clause-went g c =
    let d = g.B.Run.script.design in
    let turned = c.went-pass.result.0 in
    let settled = c.settle_end-pass.result.0 in
    loses_before g.B.Run.script g.B.Room.start c.args.token turned settled c.args.t
    (subst (λ (x : Went). Goes (May d) (ShowsBlocked d) (Shows d) c.args.t c.args.token turned x) c.in-Ended.is c.went-pass.ensures.went)
    (subst (λ (o : Option Why). MatchOption o (Same (May d) turned settled) (λ why. Shows d settled why)) c.in-None.is
    c.settle_end-pass.ensures.settled)
