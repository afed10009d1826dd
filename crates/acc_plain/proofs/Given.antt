-- An event that the machine is given, in its state: what the state after it is.
use Rattle.std.proofs.Common.{◌≡◌, ℕ, ◌-◌, ◌<◌, ◌≤◌, ◌^◌, List, [], ◌∷◌, ◌++◌, length, Option, Some, None, refl, sym, ap, subst, ◌∙◌, arith}
use Rattle.std.proofs.Common.{set, length-append}
use Rattle.std.specs.Prelude.{slice_get, IfSome}
use Rattle.acc_base.specs.declared.tables.Row.{Row}
use Rattle.acc_base.specs.declared.designs.Design.{Design}
use Rattle.acc_base.specs.declared.machines.Event.{Event}
use Rattle.acc_base.specs.declared.machines.Event.TheVariants.{Begin, Step, Abort, Undo}
use Rattle.acc_base.specs.declared.machines.Frame.{Frame}
use Rattle.acc_base.specs.declared.machines.Transaction.{Transaction}
use Rattle.acc_base.specs.Tables.{IsInOrder}
use Rattle.acc_base.specs.Machine.{World, transaction_at, frame_in, became, becomes, changed, after_event}
use Rattle.acc_base.specs.Runnable.{IsSmallFrame}
use Rattle.acc_store.specs.Bounds.{AreWithin}
use Rattle.acc_store.specs.Rows.{written, SumsFit}
use Rattle.acc_step.proofs.Bounds.{within_weaker}
use Rattle.acc_plain.specs.declared.changes.Change.{Change}
use Rattle.acc_plain.specs.Change.{left_by}
use Rattle.acc_plain.specs.Taken.{number_in, IsOf, IsChangeBy}
use Rattle.acc_plain.specs.Reached.{IsReached}
use Rattle.acc_plain.proofs.Fitting.{IsOwn}
use Rattle.acc_plain.proofs.Ready.{frame_fits}
use Rattle.acc_plain.proofs.Runs.{reached_next}
use Rattle.acc_plain.proofs.Steady.{reach, fits_at, steady_reached, sums_stay}
use Rattle.acc_plain.proofs.Turning.{at_place}

-- a transaction that has begun, in a state that is reached
pub record IsBegun (t : ℕ) (w : World) (x : Transaction) (e : Event) : Type 0 where
  pub from_one : 0 < t
  pub got : slice_get w.transactions (t - 1) ≡ Some x
  pub of : IsOf x e
  pub fits : IfSome (frame_in x) IsSmallFrame
  pub order : IsInOrder w.rows
  pub within : AreWithin (2 ^ 120) w.rows

own_number : (t : ℕ) (n : Option ℕ) (o : Option Frame) → n ≡ Some t → IfSome o (IsOwn t) → IfSome o (λ f. n ≡ Some f.t)
own_number t n None at h = tt
own_number t n (Some f) at h = at ∙ ap (λ (k : ℕ). Some k) (sym h.number)

pub begun_so : (d : Design) (w : World) (t : ℕ) (x : Transaction) (e : Event) → IsReached d w → length w.events < 2 ^ 30 →
    transaction_at t w.transactions ≡ Some x → number_in e ≡ Some t → IsBegun t w x e
begun_so d w t x e r few at number =
    let s = steady_reached d w r (omega arith) in
    let own = fits_at w t x s at in
    let small = own.1 in
    let place = at_place t w.transactions x at in
    record {
      from_one = place.0;
      got = place.1;
      of = own_number t (number_in e) (frame_in x) number own.0;
      fits = frame_fits t (frame_in x) own.0 (omega arith);
      order = s.order;
      within = within_weaker (reach (length w.events)) (2 ^ 120) (omega arith) w.rows s.within;
    }

-- what an event of a transaction does
pub event_of : (d : Design) (w : World) (t : ℕ) (e : Event) → number_in e ≡ Some t →
    after_event d w e ≡ becomes w e t (changed d w.rows e (transaction_at t w.transactions))
event_of d w t (Begin call) h = absurd cc
event_of d w t (Step u) h =
    let k : u ≡ t = cc in
    subst (λ (n : ℕ). after_event d w (Step u) ≡ becomes w (Step u) n (changed d w.rows (Step u) (transaction_at n w.transactions))) k refl
event_of d w t (Abort u c) h =
    let k : u ≡ t = cc in
    subst (λ (n : ℕ). after_event d w (Abort u c) ≡ becomes w (Abort u c) n
    (changed d w.rows (Abort u c) (transaction_at n w.transactions))) k refl
event_of d w t (Undo u) h =
    let k : u ≡ t = cc in
    subst (λ (n : ℕ). after_event d w (Undo u) ≡ becomes w (Undo u) n (changed d w.rows (Undo u) (transaction_at n w.transactions))) k refl

-- what the definition doesn't allow of the transaction, it doesn't allow
pub not_allowed : (d : Design) (w : World) (t : ℕ) (o : Option Transaction) (e : Event) → number_in e ≡ Some t →
    transaction_at t w.transactions ≡ o → changed d w.rows e o ≡ None → after_event d w e ≡ None
not_allowed d w t o e number at none =
    event_of d w t e number ∙ ap (λ (x : Option Transaction). becomes w e t (changed d w.rows e x)) at ∙ ap (becomes w e t) none

no_transaction : (d : Design) (db : List Row) (e : Event) → changed d db e None ≡ None
no_transaction d db (Begin call) = refl
no_transaction d db (Step t) = refl
no_transaction d db (Abort t c) = refl
no_transaction d db (Undo t) = refl

-- no event of a transaction that hasn't begun is allowed
pub not_begun : (d : Design) (w : World) (t : ℕ) (e : Event) → number_in e ≡ Some t → transaction_at t w.transactions ≡ None →
    after_event d w e ≡ None
not_begun d w t e number at = not_allowed d w t None e number at (no_transaction d w.rows e)

-- ---- the state after it, by the change of the transaction

module _ (d : Design) (w : World) (t : ℕ) (x : Transaction) (e : Event) (c : Change) (number : number_in e ≡ Some t)
    (at : transaction_at t w.transactions ≡ Some x) (change : IsChangeBy d w.rows x e c) where
  pub after_given : after_event d w e ≡ Some (became w e t (written c.writes w.rows, left_by c.becomes x))
  after_given =
      event_of d w t e number ∙ ap (λ (o : Option Transaction). becomes w e t (changed d w.rows e o)) at ∙ ap (becomes w e t) change.changed

  pub sums_given : IsReached d w → length w.events < 2 ^ 30 → SumsFit (written c.writes w.rows)
  sums_given reached few =
      let next = reached_next d w e (became w e t (written c.writes w.rows, left_by c.becomes x)) reached after_given in
      let count = length-append w.events (e ∷ []) in
      let long : length (w.events ++ e ∷ []) ≤ 2 ^ 31 = omega arith in
      sums_stay (became w e t (written c.writes w.rows, left_by c.becomes x))
      (steady_reached d (became w e t (written c.writes w.rows, left_by c.becomes x)) next (omega arith)) long

  -- the machine's fields after it
  module _ (rows : List Row) (transactions : List Transaction) (events : List Event) (left : rows ≡ written c.writes w.rows)
      (set_to : transactions ≡ set w.transactions (t - 1) (left_by c.becomes x)) (logged : events ≡ w.events ++ c.event ∷ []) where
    logs : events ≡ w.events ++ e ∷ []
    logs = logged ∙ ap (λ (z : Event). w.events ++ z ∷ []) change.event

    pub given_is : after_event d w e ≡ Some (record { rows = rows; transactions = transactions; events = events })
    given_is = after_given ∙ (λ i. Some (record { rows = sym left i; transactions = sym set_to i; events = sym logs i }))

    pub given_reached : IsReached d w → IsReached d (record { rows = rows; transactions = transactions; events = events })
    given_reached reached = reached_next d w e (record { rows = rows; transactions = transactions; events = events }) reached given_is
