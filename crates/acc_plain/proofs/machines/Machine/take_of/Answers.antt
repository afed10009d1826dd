use Rattle.std.proofs.Common.{◌≡◌, ◌∙◌, List, Some, sym, ap}
use Rattle.acc_base.specs.Machine.{World, transaction_at}
use Rattle.acc_store.specs.declared.writes.Write.{Write}
use Rattle.acc_store.specs.Rows.{written}
use Rattle.acc_plain.specs.Kept.{transaction_of}
use Rattle.acc_plain.specs.Taken.{IsChangeBy}
use Rattle.acc_plain.proofs.Given.{begun_so, sums_given, given_reached}
use Rattle.acc_plain.proofs.machines.Machine.take_of.Goals as goal

pub change_by-requires-clause-of : goal.change_by-requires-clause-of
change_by-requires-clause-of g c =
    let w : World = record {
      rows = g.S.Store.rows c.self.inside.store;
      transactions = c.self.inside.transactions;
      events =
          c.self.inside.events;
    } in
    let d = c.self.inside.design.now in
    let x = transaction_of c.in-Some.x in
    let at : transaction_at c.args.t w.transactions ≡ Some x = sym c.in-Some.ensures in
    let b = begun_so d w c.args.t x c.args.event.now c.self.invariant (rw (← c.self.view_is) at c.requires.room) at c.requires.of in
    b.of

pub change_by-requires-clause-fits : goal.change_by-requires-clause-fits
change_by-requires-clause-fits g c =
    let w : World = record {
      rows = g.S.Store.rows c.self.inside.store;
      transactions = c.self.inside.transactions;
      events =
          c.self.inside.events;
    } in
    let d = c.self.inside.design.now in
    let x = transaction_of c.in-Some.x in
    let at : transaction_at c.args.t w.transactions ≡ Some x = sym c.in-Some.ensures in
    let b = begun_so d w c.args.t x c.args.event.now c.self.invariant (rw (← c.self.view_is) at c.requires.room) at c.requires.of in
    b.fits

pub change_by-requires-clause-order : goal.change_by-requires-clause-order
change_by-requires-clause-order g c =
    let w : World = record {
      rows = g.S.Store.rows c.self.inside.store;
      transactions = c.self.inside.transactions;
      events =
          c.self.inside.events;
    } in
    let d = c.self.inside.design.now in
    let x = transaction_of c.in-Some.x in
    let at : transaction_at c.args.t w.transactions ≡ Some x = sym c.in-Some.ensures in
    let b = begun_so d w c.args.t x c.args.event.now c.self.invariant (rw (← c.self.view_is) at c.requires.room) at c.requires.of in
    b.order

pub change_by-requires-clause-within : goal.change_by-requires-clause-within
change_by-requires-clause-within g c =
    let w : World = record {
      rows = g.S.Store.rows c.self.inside.store;
      transactions = c.self.inside.transactions;
      events =
          c.self.inside.events;
    } in
    let d = c.self.inside.design.now in
    let x = transaction_of c.in-Some.x in
    let at : transaction_at c.args.t w.transactions ≡ Some x = sym c.in-Some.ensures in
    let b = begun_so d w c.args.t x c.args.event.now c.self.invariant (rw (← c.self.view_is) at c.requires.room) at c.requires.of in
    b.within

pub log_writes-requires-clause-sums : goal.log_writes-requires-clause-sums
log_writes-requires-clause-sums g c =
    let w : World = record {
      rows = g.S.Store.rows c.self.inside.store;
      transactions = c.self.inside.transactions;
      events =
          c.self.inside.events;
    } in
    let d = c.self.inside.design.now in
    let x = transaction_of c.in-Some.x in
    let at : transaction_at c.args.t w.transactions ≡ Some x = sym c.in-Some.ensures in
    let made = c.in-Some-2.change in
    let change : IsChangeBy d w.rows x c.args.event.now made = rw c.in-Some-2.is at c.in_ok-change.ensures in
    rw c.as_slice.ensures (sums_given d w c.args.t x c.args.event.now made c.requires.of at change c.self.invariant
    (rw (← c.self.view_is) at c.requires.room))

pub invariant_of-self-2 : goal.invariant_of-self-2
invariant_of-self-2 g c =
    let w : World = record {
      rows = g.S.Store.rows c.self.inside.store;
      transactions = c.self.inside.transactions;
      events =
          c.self.inside.events;
    } in
    let d = c.self.inside.design.now in
    let x = transaction_of c.in-Some.x in
    let at : transaction_at c.args.t w.transactions ≡ Some x = sym c.in-Some.ensures in
    let made = c.in-Some-2.change in
    let change : IsChangeBy d w.rows x c.args.event.now made = rw c.in-Some-2.is at c.in_ok-change.ensures in
    let rows_left : g.S.Store.rows c.log_writes.new.store ≡ written made.writes w.rows =
    c.in_ok-log_writes.ensures.rows ∙ ap (λ (ws : List Write). written ws w.rows) c.as_slice.ensures in
    given_reached d w c.args.t x c.args.event.now made c.requires.of at change (g.S.Store.rows c.log_writes.new.store) c.change.new.self
    c.log_writes.new.events rows_left (c.change.ensures x at) c.in_ok-log_writes.ensures.events c.self.invariant
