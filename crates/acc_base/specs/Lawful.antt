-- Which events may come: those of the plain machine by the rules of locks, limits and victims.
-- The machine with locks does these and no others, and a journal that is read again has no others.
use Rattle.std.specs.Prelude.{◌≡◌, ⊤, ◌<◌, List, [], ◌∷◌, length, Some}
use Rattle.acc_base.specs.declared.bounds.TheConstants.{MOST_EVENTS, MOST_UNFINISHED}
use Rattle.acc_base.specs.declared.designs.Design.{Design}
use Rattle.acc_base.specs.declared.machines.Frame.{Frame}
use Rattle.acc_base.specs.declared.machines.Cause.{Cause}
use Rattle.acc_base.specs.declared.machines.Cause.TheVariants.{Refused, Range, Limit, Asked, Victim, Crash}
use Rattle.acc_base.specs.declared.machines.Event.{Event}
use Rattle.acc_base.specs.declared.machines.Event.TheVariants.{Begin, Step, Abort, Undo}
use Rattle.acc_base.specs.Machine.{World, start, unfinished, after_event}
use Rattle.acc_base.specs.Locks.{frame_at, IsUnblocked, IsStuck}

-- there is a victim only where all are stuck
abbrev pub HasGround : Design → World → Cause → Type 0
HasGround d w (Refused n) = ⊤
HasGround d w Range = ⊤
HasGround d w Limit = ⊤
HasGround d w Asked = ⊤
HasGround d w Victim = IsStuck d w
HasGround d w Crash = ⊤

-- a transaction begins where there is room, and steps where nobody blocks it; an undo step needs no leave
abbrev pub HasLeave : Design → World → Event → Type 0
HasLeave d w (Begin call) = (length w.events < MOST_EVENTS) × (length (unfinished w) < MOST_UNFINISHED)
HasLeave d w (Step t) = (f : Frame) → frame_at t w ≡ Some f → IsUnblocked d w f
HasLeave d w (Abort t c) = HasGround d w c
HasLeave d w (Undo t) = ⊤

-- the event is lawful, and this is the state after it
pub record IsLawful (d : Design) (w : World) (e : Event) (after : World) : Type 0 where
  pub leave : HasLeave d w e
  pub event : after_event d w e ≡ Some after

-- each of the events is lawful, and they lead from the one state to the other
abbrev pub LeadLawfully : Design → World → List Event → World → Type 0
LeadLawfully d w [] after = w ≡ after
LeadLawfully d w (e ∷ rest) after = (next : World) × IsLawful d w e next × LeadLawfully d next rest after

-- a list of events is lawful
abbrev pub AreLawful : Design → List Event → Type 0
AreLawful d events = (w : World) × LeadLawfully d start events w
