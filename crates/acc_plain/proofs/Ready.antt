-- An unfinished transaction of a state that is reached can take its turn.
use Rattle.std.proofs.Common.{◌≡◌, ℕ, ◌-◌, ◌<◌, ◌≤◌, ◌^◌, List, [], ◌∷◌, ◌++◌, length, Option, Some, None, sym, ap, ◌∙◌, arith, set}
use Rattle.std.proofs.Common.{length-append}
use Rattle.std.specs.Prelude.{slice_get, IfSome}
use Rattle.acc_base.specs.declared.tables.Row.{Row}
use Rattle.acc_base.specs.declared.designs.Design.{Design}
use Rattle.acc_base.specs.declared.machines.Event.{Event}
use Rattle.acc_base.specs.declared.machines.Frame.{Frame}
use Rattle.acc_base.specs.declared.machines.Transaction.{Transaction}
use Rattle.acc_base.specs.declared.machines.Turn.{Turn}
use Rattle.acc_base.specs.Tables.{IsInOrder}
use Rattle.acc_base.specs.Machine.{World, transaction_at, frame_in, became, after_event}
use Rattle.acc_base.specs.Turns.{said, turn_of}
use Rattle.acc_base.specs.Runnable.{IsSmallFrame}
use Rattle.acc_store.specs.Bounds.{AreWithin}
use Rattle.acc_store.specs.Rows.{written, SumsFit}
use Rattle.acc_step.proofs.Bounds.{within_weaker}
use Rattle.acc_plain.specs.declared.changes.Change.{Change}
use Rattle.acc_plain.specs.Change.{left_by, IsNextChange}
use Rattle.acc_plain.specs.Reached.{IsReached}
use Rattle.acc_plain.specs.Turned.{IsUnfinished}
use Rattle.acc_plain.proofs.Fitting.{IsOwn, fits_frame}
use Rattle.acc_plain.proofs.Runs.{reached_next}
use Rattle.acc_plain.proofs.Steady.{reach, fits_at, steady_reached, sums_stay}
use Rattle.acc_plain.specs.Kept.{IsNumbered}
use Rattle.acc_plain.proofs.Turning.{found, turn_happens, turn_is}

pub record IsReady (t : ℕ) (w : World) : Type 0 where
  pub x : Transaction
  pub at : transaction_at t w.transactions ≡ Some x
  pub from_one : 0 < t
  pub got : slice_get w.transactions (t - 1) ≡ Some x
  pub numbered : IsNumbered t x
  pub fits : IfSome (frame_in x) IsSmallFrame
  pub order : IsInOrder w.rows
  pub within : AreWithin (2 ^ 120) w.rows

-- its frame, if it has one, fits
pub frame_fits : (t : ℕ) (o : Option Frame) → IfSome o (IsOwn t) → t ≤ 2 ^ 45 → IfSome o IsSmallFrame
frame_fits t None h le = tt
frame_fits t (Some f) h le = fits_frame t f h le

frame_number : (t : ℕ) (o : Option Frame) → IfSome o (IsOwn t) → IfSome o (λ f. f.t ≡ t)
frame_number t None h = tt
frame_number t (Some f) h = h.number

pub ready : (d : Design) (w : World) (t : ℕ) → IsReached d w → length w.events < 2 ^ 30 → IsUnfinished t w → IsReady t w
ready d w t r few open_t =
    let s = steady_reached d w r (omega arith) in
    let k = found t w open_t in
    let own = fits_at w t k.x s k.at in
    let small = own.1 in
    record {
      x = k.x;
      at = k.at;
      from_one = k.from_one;
      got = k.got;
      numbered = frame_number t (frame_in k.x) own.0;
      fits = frame_fits t (frame_in k.x) own.0 (omega arith);
      order = s.order;
      within = within_weaker (reach (length w.events)) (2 ^ 120) (omega arith) w.rows s.within;
    }

-- what is read of the transaction
pub read_is : (t : ℕ) (w : World) (r : IsReady t w) (y : Transaction) → transaction_at t w.transactions ≡ Some y → r.x ≡ y
read_is t w r y at = let e : Some r.x ≡ Some y = sym r.at ∙ at in cc

-- ---- a turn by a change of the transaction that was read

module _ (d : Design) (w : World) (t : ℕ) (r : IsReady t w) (c : Change) (change : IsNextChange d w.rows r.x c) where
  pub after_turn : after_event d w c.event ≡ Some (became w c.event t (written c.writes w.rows, left_by c.becomes r.x))
  after_turn = turn_happens d w t r.x c r.at r.numbered change

  pub sums_after : IsReached d w → length w.events < 2 ^ 30 → SumsFit (written c.writes w.rows)
  sums_after reached few =
      let next = reached_next d w c.event (became w c.event t (written c.writes w.rows, left_by c.becomes r.x)) reached after_turn in
      let count = length-append w.events (c.event ∷ []) in
      let long : length (w.events ++ c.event ∷ []) ≤ 2 ^ 31 = omega arith in
      sums_stay (became w c.event t (written c.writes w.rows, left_by c.becomes r.x))
      (steady_reached d (became w c.event t (written c.writes w.rows, left_by c.becomes r.x)) next (omega arith)) long

  -- the machine's fields after the turn
  module _ (rows : List Row) (transactions : List Transaction) (events : List Event) (left : rows ≡ written c.writes w.rows)
      (set_to : transactions ≡ set w.transactions (t - 1) (left_by c.becomes r.x)) (logged : events ≡ w.events ++ c.event ∷ []) where
    fields_are : became w c.event t (written c.writes w.rows, left_by c.becomes r.x) ≡ record {
      rows = rows;
      transactions = transactions;
      events = events;
    }
    fields_are = λ i. record { rows = sym left i; transactions = sym set_to i; events = sym logged i }

    pub reached_after : IsReached d w → IsReached d (record { rows = rows; transactions = transactions; events = events })
    reached_after reached = reached_next d w c.event (record { rows = rows; transactions = transactions; events = events }) reached
        (after_turn ∙ ap (λ (z : World). Some z) fields_are)

    pub turned_so : (turn : Turn) → turn ≡ said c.event (left_by c.becomes r.x) →
        turn_of d w t ≡ Some (turn, record { rows = rows; transactions = transactions; events = events })
    turned_so turn is = turn_is d w t r.x c r.at r.numbered change ∙ (λ i. Some (sym is i, fields_are i))
