use Rattle.std.proofs.Common.{◌≡◌, List, ◌∷◌, inl, ap, refl, Some, [], arith, ℕ}
use Rattle.std.specs.Prelude.{pos, ℤ}
use Rattle.std.proofs.lemmas.List.Elements.{All-from_recursion}
use Rattle.acc_base.specs.declared.designs.Side.TheVariants.{Next}
use Rattle.acc_base.specs.declared.machines.Event.{Event}
use Rattle.acc_base.specs.declared.machines.Event.TheVariants.{Begin, Step}
use Rattle.acc_base.specs.declared.machines.Frame.{Frame}
use Rattle.acc_base.specs.Linear.{var}
use Rattle.acc_base.specs.Machine.{World, start, begun, moved, after_event}
use Rattle.acc_base.specs.Cells.{call_of}
use Rattle.acc_base.specs.Guarded.{guarded, one_at_a_time}
use Rattle.acc_base.specs.Locks.{frame_at, IsBlockedBy, IsUnblocked}
use Rattle.acc_base.specs.Lawful.{LeadLawfully}
use Rattle.acc_base.proofs.LawfulRuns.{left, peeled, free_elsewhere, free_read, ended_has_not_read, start_has_not_read}
use Rattle.acc_base.proofs.laws.an_entry_bars_a_lost_update.Goals as goal

-- the states that both runs go through, up to where the third transaction would read

abbrev w1 : World
w1 = left (after_event guarded start (Begin (call_of 0 (pos 1))))

abbrev w2 : World
w2 = left (after_event guarded w1 (Step 1))

abbrev w3 : World
w3 = left (after_event guarded w2 (Begin (call_of 1 (pos 1))))

abbrev w4 : World
w4 = left (after_event guarded w3 (Step 2))

abbrev w5 : World
w5 = left (after_event guarded w4 (Begin (call_of 1 (pos 1))))

-- the events from each of these states on
abbrev rest1 : List Event
rest1 = Step 1 ∷ Begin (call_of 1 (pos 1)) ∷ Step 2 ∷ Begin (call_of 1 (pos 1)) ∷ Step 3 ∷ Step 2 ∷ Step 3 ∷ []

abbrev rest2 : List Event
rest2 = Begin (call_of 1 (pos 1)) ∷ Step 2 ∷ Begin (call_of 1 (pos 1)) ∷ Step 3 ∷ Step 2 ∷ Step 3 ∷ []

abbrev rest3 : List Event
rest3 = Step 2 ∷ Begin (call_of 1 (pos 1)) ∷ Step 3 ∷ Step 2 ∷ Step 3 ∷ []

abbrev rest4 : List Event
rest4 = Begin (call_of 1 (pos 1)) ∷ Step 3 ∷ Step 2 ∷ Step 3 ∷ []

abbrev rest5 : List Event
rest5 = Step 3 ∷ Step 2 ∷ Step 3 ∷ []

counter : ℕ → Frame
counter t = begun guarded t (call_of 1 (pos 1))

-- the locals of a counter that has read
abbrev read : List ℤ
read = pos 1 ∷ pos 1 ∷ pos 0 ∷ []

-- the second transaction, which has read, blocks the third
is_blocked : IsBlockedBy guarded w5 (counter 3) 2 1
unfolding counter
is_blocked = record {
  holder = moved Next (counter 2) (record { locals = read; at = 0 }) 1;
  is_holder = refl;
  other = λ e. omega arith;
  blocks = inl (record {
    entry = one_at_a_time;
    first = omega arith;
    is_entry = refl;
    held_is = refl;
    step_is = refl;
    side_is = refl;
    pairs = All-from_recursion (λ p. var read p.0 ≡ var read p.1) ((0, 0) ∷ []) (refl, tt);
  });
}

no_third_read : (last : World) → LeadLawfully guarded w5 rest5 last → ⊥
unfolding counter is_blocked
no_third_read last run = run.1.leave (counter 3) refl 2 1 is_blocked

pub returns-clause-barred : goal.returns-clause-barred
returns-clause-barred c run =
    let after1 = peeled guarded start (Begin (call_of 0 (pos 1))) rest1 run.0 w1 refl run.1 in
    let after2 = peeled guarded w1 (Step 1) rest2 run.0 w2 refl after1.1 in
    let after3 = peeled guarded w2 (Begin (call_of 1 (pos 1))) rest3 run.0 w3 refl after2.1 in
    let after4 = peeled guarded w3 (Step 2) rest4 run.0 w4 refl after3.1 in
    let after5 = peeled guarded w4 (Begin (call_of 1 (pos 1))) rest5 run.0 w5 refl after4.1 in
    no_third_read run.0 after5.1

-- the states of the run that takes them one after the other

abbrev w6 : World
w6 = left (after_event guarded w5 (Step 2))

abbrev w7 : World
w7 = left (after_event guarded w6 (Step 3))

abbrev w8 : World
w8 = left (after_event guarded w7 (Step 3))

-- each of their steps is free

makes : (f : Frame) → frame_at 1 w1 ≡ Some f → IsUnblocked guarded w1 f
unfolding counter
makes f is =
    free_elsewhere w1 1 f (record { ty = 0; point = 0 }) is refl (λ e. let same : 0 ≡ 1 = ap (λ a. a.ty) e in omega arith)

reads_second : (f : Frame) → frame_at 2 w3 ≡ Some f → IsUnblocked guarded w3 f
unfolding counter
reads_second f is =
    free_read w3 f (ended_has_not_read, (start_has_not_read (counter 2) refl, tt))

writes_second : (f : Frame) → frame_at 2 w5 ≡ Some f → IsUnblocked guarded w5 f
unfolding counter
writes_second f is =
    free_elsewhere w5 2 f (record { ty = 1; point = 1 }) is refl (λ e. let same : 1 ≡ 0 = ap (λ a. a.point) e in omega arith)

reads_third : (f : Frame) → frame_at 3 w6 ≡ Some f → IsUnblocked guarded w6 f
unfolding counter
reads_third f is =
    free_read w6 f (ended_has_not_read, (ended_has_not_read, (start_has_not_read (counter 3) refl, tt)))

writes_third : (f : Frame) → frame_at 3 w7 ≡ Some f → IsUnblocked guarded w7 f
unfolding counter
writes_third f is =
    free_elsewhere w7 3 f (record { ty = 1; point = 1 }) is refl (λ e. let same : 1 ≡ 0 = ap (λ a. a.point) e in omega arith)

pub returns-clause-others : goal.returns-clause-others
unfolding counter
returns-clause-others c = (
  w8,
  (
    w1,
    record { leave = (omega arith, omega arith); event = refl },
    (
      w2,
      record { leave = makes; event = refl },
      (
        w3,
        record { leave = (omega arith, omega arith); event = refl },
        (
          w4,
          record { leave = reads_second; event = refl },
          (
            w5,
            record { leave = (omega arith, omega arith); event = refl },
            (
              w6,
              record { leave = writes_second; event = refl },
              (
                w7,
                record { leave = reads_third; event = refl },
                (w8, record { leave = writes_third; event = refl }, refl),
              ),
            ),
          ),
        ),
      ),
    ),
  ),
)
