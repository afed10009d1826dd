use Rattle.std.proofs.Common.{◌≤◌, length, sym, ◌∙◌, subst, arith}
use Rattle.acc_base.specs.declared.machines.Event.{Event}
use Rattle.acc_wal.specs.Spellings.{event_bytes, Fits}
use Rattle.acc_engine.specs.Lags.{HasSmallCause}
use Rattle.acc_engine.proofs.InSteps.{lags_turns, turn_brief, turn_fits, caught_up}
use Rattle.acc_engine.proofs.noting.note.Goals as goal

pub returns-in-Blocked-clause-kept : goal.returns-in-Blocked-clause-kept
returns-in-Blocked-clause-kept g c = record { accepted = c.events-events.ensures.accepted; good = c.events-events.ensures.good }

pub put-requires : goal.put-requires
put-requires g c =
    let turns = lags_turns c.args.t c.args.turn c.args.state.now.world.events c.args.wal.now c.in-Stepped.is c.requires.lags in
    let same = c.last_turn.ensures.same (_) turns.event (c.as_slice.ensures ∙ c.events-events.ensures.events ∙ turns.added) in
    let brief = subst (λ (e : Event). length (event_bytes e) ≤ 14) (sym same) (turn_brief c.args.t turns.event turns.of_turn) in
    record {
      unspent = c.requires.unspent;
      fits =
          subst Fits (sym same)
          (turn_fits c.args.t turns.event turns.of_turn c.requires.number (subst HasSmallCause same c.last_turn.ensures.small));
      room = omega (arith, brief, c.requires.room);
      short = omega (arith, brief, c.requires.short);
    }

pub returns-in-Stepped : goal.returns-in-Stepped
returns-in-Stepped g c =
    let events = c.args.state.now.world.events in
    let turns = lags_turns c.args.t c.args.turn events c.args.wal.now c.in-Stepped.is c.requires.lags in
    let same = c.last_turn.ensures.same (_) turns.event (c.as_slice.ensures ∙ c.events-events.ensures.events ∙ turns.added) in
    record {
      up = caught_up c.args.t events c.args.wal.now c.put.new.wal c.last_turn.result turns same c.put.ensures c.requires.unspent;
      kept = record { accepted = c.events-events.ensures.accepted; good = c.events-events.ensures.good };
    }
