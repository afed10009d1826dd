use Rattle.std.proofs.Common.{◌≡◌, ◌∙◌, List, Option, Some, None, refl, sym, ap, subst}
use Rattle.std.specs.Prelude.{IfSome, IsNone, option_map}
use Rattle.acc_base.specs.declared.machines.Turn.{Turn}
use Rattle.acc_base.specs.Machine.{World, frame_in, transaction_at}
use Rattle.acc_base.specs.Runnable.{IsSmallFrame}
use Rattle.acc_base.specs.Turns.{said, next_event}
use Rattle.acc_store.specs.declared.writes.Write.{Write}
use Rattle.acc_store.specs.Rows.{written}
use Rattle.acc_plain.specs.Running.{Running}
use Rattle.acc_plain.specs.Change.{IsNextChange, left_by}
use Rattle.acc_plain.specs.Kept.{transaction_of}
use Rattle.acc_plain.specs.Turned.{IsTurned, IsOutOfRange}
use Rattle.acc_plain.proofs.Turning.{at_set, goes, stops}
use Rattle.acc_plain.proofs.Ready.{ready, read_is, sums_after, reached_after, turned_so}
use Rattle.acc_plain.proofs.machines.Machine.turn.Goals as goal

pub next_change-requires-clause-fits : goal.next_change-requires-clause-fits
next_change-requires-clause-fits g c =
    let w : World = record {
      rows = g.S.Store.rows c.self.inside.store;
      transactions = c.self.inside.transactions;
      events =
          c.self.inside.events;
    } in
    let d = c.self.inside.design.now in
    let room = rw (← c.self.view_is) at c.requires.room in
    let r = ready d w c.args.t c.self.invariant room (rw (← c.self.view_is) at c.requires.unfinished) in
    let same = read_is c.args.t w r (transaction_of c.in-Some.x) (sym c.in-Some.ensures) in
    subst (λ z. IfSome (frame_in z) IsSmallFrame) same r.fits

pub next_change-requires-clause-order : goal.next_change-requires-clause-order
next_change-requires-clause-order g c =
    let w : World = record {
      rows = g.S.Store.rows c.self.inside.store;
      transactions = c.self.inside.transactions;
      events =
          c.self.inside.events;
    } in
    let d = c.self.inside.design.now in
    let room = rw (← c.self.view_is) at c.requires.room in
    let r = ready d w c.args.t c.self.invariant room (rw (← c.self.view_is) at c.requires.unfinished) in
    r.order

pub next_change-requires-clause-within : goal.next_change-requires-clause-within
next_change-requires-clause-within g c =
    let w : World = record {
      rows = g.S.Store.rows c.self.inside.store;
      transactions = c.self.inside.transactions;
      events =
          c.self.inside.events;
    } in
    let d = c.self.inside.design.now in
    let room = rw (← c.self.view_is) at c.requires.room in
    let r = ready d w c.args.t c.self.invariant room (rw (← c.self.view_is) at c.requires.unfinished) in
    r.within

pub log_writes-requires-clause-sums : goal.log_writes-requires-clause-sums
log_writes-requires-clause-sums g c =
    let w : World = record {
      rows = g.S.Store.rows c.self.inside.store;
      transactions = c.self.inside.transactions;
      events =
          c.self.inside.events;
    } in
    let d = c.self.inside.design.now in
    let room = rw (← c.self.view_is) at c.requires.room in
    let r = ready d w c.args.t c.self.invariant room (rw (← c.self.view_is) at c.requires.unfinished) in
    let same = read_is c.args.t w r (transaction_of c.in-Some.x) (sym c.in-Some.ensures) in
    let made = c.in-Some-2.change in
    let change : IsNextChange d w.rows r.x made =
    subst (λ z. IsNextChange d w.rows z made) (sym same) (rw c.in-Some-2.is at c.in_ok-change.ensures) in
    rw c.as_slice.ensures (sums_after d w c.args.t r made change c.self.invariant room)

pub invariant_of-self-2 : goal.invariant_of-self-2
invariant_of-self-2 g c =
    let w : World = record {
      rows = g.S.Store.rows c.self.inside.store;
      transactions = c.self.inside.transactions;
      events =
          c.self.inside.events;
    } in
    let d = c.self.inside.design.now in
    let room = rw (← c.self.view_is) at c.requires.room in
    let r = ready d w c.args.t c.self.invariant room (rw (← c.self.view_is) at c.requires.unfinished) in
    let same = read_is c.args.t w r (transaction_of c.in-Some.x) (sym c.in-Some.ensures) in
    let made = c.in-Some-2.change in
    let change : IsNextChange d w.rows r.x made =
    subst (λ z. IsNextChange d w.rows z made) (sym same) (rw c.in-Some-2.is at c.in_ok-change.ensures) in
    let rows_left : g.S.Store.rows c.log_writes.new.store ≡ written made.writes w.rows =
    c.in_ok-log_writes.ensures.rows ∙ ap (λ (ws : List Write). written ws w.rows) c.as_slice.ensures in
    let set_to = c.change.ensures r.x r.at in
    reached_after d w c.args.t r made change (g.S.Store.rows c.log_writes.new.store) c.change.new.self c.log_writes.new.events rows_left
    set_to c.in_ok-log_writes.ensures.events c.self.invariant

pub returns-clause-turn : goal.returns-clause-turn
returns-clause-turn g c =
    let w : World = record {
      rows = g.S.Store.rows c.self.inside.store;
      transactions = c.self.inside.transactions;
      events =
          c.self.inside.events;
    } in
    let d = c.self.inside.design.now in
    let room = rw (← c.self.view_is) at c.requires.room in
    let r = ready d w c.args.t c.self.invariant room (rw (← c.self.view_is) at c.requires.unfinished) in
    let same = read_is c.args.t w r (transaction_of c.in-Some.x) (sym c.in-Some.ensures) in
    let made = c.in-Some-2.change in
    let change : IsNextChange d w.rows r.x made =
    subst (λ z. IsNextChange d w.rows z made) (sym same) (rw c.in-Some-2.is at c.in_ok-change.ensures) in
    let rows_left : g.S.Store.rows c.log_writes.new.store ≡ written made.writes w.rows =
    c.in_ok-log_writes.ensures.rows ∙ ap (λ (ws : List Write). written ws w.rows) c.as_slice.ensures in
    let set_to = c.change.ensures r.x r.at in
    let after = left_by made.becomes r.x in
    let read : transaction_at c.args.t c.change.new.self ≡ Some after =
    ap (transaction_at c.args.t) set_to ∙ at_set c.args.t w.transactions r.x after r.at in
    let told : c.said.result ≡ Some (said made.event after) =
    c.said.ensures made.event c.cause_in-cause.ensures ∙ ap (option_map (said made.event)) (c.get-2.ensures ∙ read) in
    let new : World = record {
      rows = g.S.Store.rows c.log_writes.new.store;
      transactions = c.change.new.self;
      events =
          c.log_writes.new.events;
    } in
    let turned = turned_so d w c.args.t r made change new.rows new.transactions new.events rows_left set_to
    c.in_ok-log_writes.ensures.events (said made.event after) refl in
    subst (λ (z : Running). IsTurned z.design z.world new c.args.t c.said.result) c.self.view_is
    (subst (IsTurned d w new c.args.t) (sym told) turned)

is_some_turn : (o : Option Turn) (turn : Turn) → o ≡ Some turn → IsNone o → ⊥
is_some_turn None turn e none = absurd cc
is_some_turn (Some other) turn e none = absurd cc

pub returns-clause-none : goal.returns-clause-none
returns-clause-none g c =
    let w : World = record {
      rows = g.S.Store.rows c.self.inside.store;
      transactions = c.self.inside.transactions;
      events =
          c.self.inside.events;
    } in
    let d = c.self.inside.design.now in
    let room = rw (← c.self.view_is) at c.requires.room in
    let r = ready d w c.args.t c.self.invariant room (rw (← c.self.view_is) at c.requires.unfinished) in
    let same = read_is c.args.t w r (transaction_of c.in-Some.x) (sym c.in-Some.ensures) in
    let made = c.in-Some-2.change in
    let change : IsNextChange d w.rows r.x made =
    subst (λ z. IsNextChange d w.rows z made) (sym same) (rw c.in-Some-2.is at c.in_ok-change.ensures) in
    let set_to = c.change.ensures r.x r.at in
    let after = left_by made.becomes r.x in
    let read : transaction_at c.args.t c.change.new.self ≡ Some after =
    ap (transaction_at c.args.t) set_to ∙ at_set c.args.t w.transactions r.x after r.at in
    let told : c.said.result ≡ Some (said made.event after) =
    c.said.ensures made.event c.cause_in-cause.ensures ∙ ap (option_map (said made.event)) (c.get-2.ensures ∙ read) in
    subst (λ (z : Running). (IsNone c.said.result → IsOutOfRange z.design z.world c.args.t) ×
    (IsOutOfRange z.design z.world c.args.t → IsNone c.said.result)) c.self.view_is (
      λ none. absurd (is_some_turn c.said.result (said made.event after) told none),
      λ out. absurd (goes d w c.args.t r.x made.event r.at change.event out),
    )

pub returns-in_default-2-clause-none : goal.returns-in_default-2-clause-none
returns-in_default-2-clause-none g c =
    let w : World = record {
      rows = g.S.Store.rows c.self.inside.store;
      transactions = c.self.inside.transactions;
      events =
          c.self.inside.events;
    } in
    let d = c.self.inside.design.now in
    let at : transaction_at c.args.t w.transactions ≡ Some (transaction_of c.in-Some.x) = sym c.in-Some.ensures in
    let none : next_event d w.rows (Some (transaction_of c.in-Some.x)) ≡ None = rw c.in_default-2.is at c.in_ok-change.ensures in
    let out : IsOutOfRange d w c.args.t = stops d w c.args.t (transaction_of c.in-Some.x) c.self.invariant.runnable
    (rw (← c.self.view_is) at c.requires.unfinished) at none in
    (λ said. subst (λ (z : Running). IsOutOfRange z.design z.world c.args.t) c.self.view_is out, λ out. refl)
