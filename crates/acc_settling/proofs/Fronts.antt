-- The lines of places where a schedule stops are those of the whole schedule.
use Rattle.std.proofs.Common.{◌≡◌, ◌≤◌, ◌<◌, ℕ, List, ◌++◌, length, take, drop, Bool, true, false, Option, Some, None}
use Rattle.std.proofs.Common.{refl, sym, ap, ◌∙◌, arith}
use Rattle.std.specs.Prelude.{option_and_then}
use Rattle.std.specs.List.{list_any, flat_map, range_with_len}
use Rattle.std.specs.Fmt.{decimal}
use Rattle.std.proofs.lemmas.List.{take-append-drop}
use Rattle.std.proofs.lemmas.Option.{same_Some, none-some}
use Rattle.acc_base.specs.declared.machines.Reply.{Reply}
use Rattle.acc_base.specs.declared.machines.Transaction.{Transaction}
use Rattle.acc_base.specs.Lines.{line, settled_text, settled_line}
use Rattle.acc_base.specs.Machine.{World, start, world, transaction_at, reply_in, reply_at, after_events}
use Rattle.acc_base.specs.Plays.{Play, number_of}
use Rattle.acc_lift.proofs.Theorem.{lead_runs}
use Rattle.acc_lift.proofs.Transactions.{at_within}
use Rattle.acc_machine.specs.Kept.{IsKept}
use Rattle.acc_engine.specs.Acks.{is_turn_of}
use Rattle.acc_engine.specs.Keeping.{Journalled}
use Rattle.acc_engine.proofs.Tails.{between, events_keep, events_open}
use Rattle.acc_player.specs.Ways.{KeepsNumber, PlayPrecedes}
use Rattle.acc_settling.specs.Stops.{TellsSettled}
use Rattle.acc_settling.specs.Wholes.{TellsDurablePart}
use Rattle.acc_settling.proofs.Counts.{events_more}

-- nobody above the last number has a reply
beyond : (t : ℕ) (w : World) → length w.transactions < t → reply_at t w ≡ None
beyond t w above = by (transaction_at t w.transactions) refl
  where
    by : (o : Option Transaction) → transaction_at t w.transactions ≡ o → option_and_then reply_in o ≡ None
    by None at = refl
    by (Some x) at = let within = at_within t w.transactions x at in absurd (omega (arith, above, within.1))

-- a number that comes later has no reply in the durable state
same_settled : (most : ℕ) (durable : World) (a b : Option ℕ) → length durable.transactions ≤ most → KeepsNumber most a b
    → option_and_then (λ t. reply_at t durable) a ≡ option_and_then (λ t. reply_at t durable) b
same_settled most durable (Some t) b le h = ap (option_and_then (λ n. reply_at n durable)) (sym h)
same_settled most durable None None le h = refl
same_settled most durable None (Some t) le h = sym (beyond t durable (omega (arith, le, h)))

module _ {D : Type 0} (e : Journalled D) (kept : IsKept e.design e.state) where
  -- the state after the durable events, and the others
  record Halves : Type 0 where
    durable : World
    run : world e.design (take e.settled e.state.events) ≡ Some durable
    rest : after_events e.design durable (drop e.settled e.state.events) ≡ Some e.state

  halves : Halves
  halves =
      let front = take e.settled e.state.events in
      let rest = drop e.settled e.state.events in
      let run = lead_runs e.design e.state.events start e.state kept.good.lawful in
      let h =
      between e.design start e.state front rest
      (ap (after_events e.design start) (take-append-drop e.settled e.state.events) ∙ run) in
      record { durable = h.0; run = h.1; rest = h.2 }

  -- a reply that is durable is there now
  reply_now : (t : ℕ) (reply : Reply) → reply_at t halves.durable ≡ Some reply → reply_at t e.state ≡ Some reply
  reply_now t reply there = by (list_any (is_turn_of t) (drop e.settled e.state.events)) refl
    where
      by : (b : Bool) → list_any (is_turn_of t) (drop e.settled e.state.events) ≡ b → reply_at t e.state ≡ Some reply
      by false none =
          events_keep e.design halves.durable e.state (drop e.settled e.state.events) t halves.rest none ∙ there
      by true some =
          let unreplied = events_open e.design halves.durable e.state (drop e.settled e.state.events) t halves.rest some in
          absurd (none-some reply (sym unreplied ∙ there))

  pub tells_part : (p later : Play) (text : List ℕ) → p.world ≡ e.state → TellsSettled e p text → PlayPrecedes p later
      → TellsDurablePart e.design e.calls e.state.events e.settled later text
  tells_part p later text at told on =
      let same : told.durable ≡ halves.durable = same_Some told.durable halves.durable (sym told.run ∙ halves.run) in
      let more = events_more e.design halves.durable e.state (drop e.settled e.state.events) halves.rest in
      let few = ap (λ (w : World). length w.transactions) same in
      let now = ap (λ (w : World). length w.transactions) at in
      let within : length told.durable.transactions ≤ length p.world.transactions = omega (arith, more, few, now) in
      let lines : settled_line (record p { world = told.durable }) ≡ settled_line (record later { world = told.durable }) =
      λ i place. line (decimal place ++ settled_text (same_settled (length p.world.transactions) told.durable (number_of p place)
      (number_of later place) within (on.numbers place) i)) in
      record {
        durable = told.durable;
        run = told.run;
        lines = told.text_is ∙ ap (λ (f : ℕ → List ℕ). flat_map f (range_with_len 1 (length e.calls))) lines;
        replies = λ t reply is. on.world.replies t reply (ap (reply_at t) at ∙ reply_now t reply (ap (reply_at t) (sym same) ∙ is));
      }
