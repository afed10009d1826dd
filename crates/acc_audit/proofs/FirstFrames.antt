-- The first frame of whose assertion something is wrong, and what is told of it.
use Rattle.std.proofs.Common.{◌≡◌, ℕ, ◌+◌, ◌<◌, List, length, take, drop, get_or, Some, None, Option, refl}
use Rattle.std.specs.List.{AllByRecursion}
use Rattle.std.proofs.lemmas.List.Elements.{All-from_recursion}
use Rattle.acc_base.specs.declared.tables.Row.{Row}
use Rattle.acc_base.specs.declared.designs.Design.{Design}
use Rattle.acc_base.specs.declared.machines.Event.{Event}
use Rattle.acc_base.specs.declared.machines.Frame.{Frame}
use Rattle.acc_base.specs.Machine.{World, unfinished, after_event}
use Rattle.acc_audit_complaints.specs.declared.searches.Complaint.{Complaint}
use Rattle.acc_audit_complaints.specs.declared.searches.Complaint.TheVariants.{False, Large}
use Rattle.acc_audit_complaints.proofs.Firsts.{around}
use Rattle.acc_audit.specs.Audits.{Found, IsFirstOf, IsFirstFrame, IsFirstIn}
use Rattle.acc_audit.specs.Events.{told, TellsEvent}

pub first_frame : (d : Design) (db : List Row) (frames : List Frame) (i : ℕ) (f : Frame) (n : ℕ) (k : Complaint) → i < length frames →
    f ≡ get_or frames i f → AllByRecursion (λ g. IsFirstOf d db g None) (take i frames) → IsFirstOf d db f (Some (n, k)) →
    IsFirstFrame d db frames (f.t, n, k)
first_frame d db frames i f n k within here clear tells = record {
  before = take i frames;
  frame = f;
  behind = drop (i + 1) frames;
  parts = around frames i f f within here;
  clear = All-from_recursion (λ g. IsFirstOf d db g None) (take i frames) clear;
  number = refl;
  tells = tells;
}

-- what is told after an event
pub event_told : (d : Design) (w : World) (e : Event) (place : ℕ) (after : World) (found : Option Found) → after_event d w e ≡ Some after →
    IsFirstIn d after.rows (unfinished after) found → TellsEvent d w e place after (told (place + 1) found)
event_told d w e place after None leads h = record { leads = leads; clear = h }
event_told d w e place after (Some (t, n, False own)) leads h = (refl, record { leads = leads; complains = h })
event_told d w e place after (Some (t, n, Large)) leads h = (refl, record { leads = leads; complains = h })
