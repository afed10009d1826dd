use Rattle.std.proofs.Common.{sym, subst}
use Rattle.acc_base.specs.declared.machines.Call.{Call}
use Rattle.acc_base.specs.declared.machines.Event.TheVariants.{Begin}
use Rattle.acc_base.proofs.Items.{at_item, got}
use Rattle.acc_wal.specs.Spellings.{Fits}
use Rattle.acc_engine.proofs.places.prepare.Goals as goal

pub event_len-requires : goal.event_len-requires
event_len-requires g c =
    subst Fits (sym c.in-Ok.ensures)
    (at_item (λ (call : Call). Fits (Begin call)) c.args.calls.now c.args.index c.index-calls-index.result c.requires.fits c.requires.within
    c.index-calls-index.is)

pub returns-in-Ok-widen-clause-event : goal.returns-in-Ok-widen-clause-event
returns-in-Ok-widen-clause-event g c = record {
  call = c.index-calls-index.result;
  is_call = got c.args.calls.now c.args.index c.index-calls-index.result c.requires.within c.index-calls-index.is;
  event_is = c.in-Ok.ensures;
}

pub returns-in-Ok-widen-clause-fits : goal.returns-in-Ok-widen-clause-fits
returns-in-Ok-widen-clause-fits g c =
    subst Fits (sym c.in-Ok.ensures)
    (at_item (λ (call : Call). Fits (Begin call)) c.args.calls.now c.args.index c.index-calls-index.result c.requires.fits c.requires.within
    c.index-calls-index.is)
