-- Where there is no room for one more call.
use Rattle.std.proofs.Common.{◌≡◌, ◌<◌, ◌≤◌, List, [], length, sym, subst, arith}
use Rattle.acc_base.specs.declared.bounds.TheConstants.{MOST_EVENTS, MOST_UNFINISHED}
use Rattle.acc_base.specs.Machine.{World, unfinished}
use Rattle.acc_machine.specs.Begun.{HasRoom}

pub no_room_when_full : (w : World) → MOST_EVENTS ≤ length w.events → ¬ HasRoom w
no_room_when_full w h r = let a = r.0 in omega arith

pub no_room_in_a_crowd : (w : World) → MOST_UNFINISHED ≤ length (unfinished w) → ¬ HasRoom w
no_room_in_a_crowd w h r = let a = r.1 in omega arith

-- where nothing is unfinished and yet none can begin, the history is full
pub full_when_over : (w : World) → ¬ HasRoom w → unfinished w ≡ [] → MOST_EVENTS ≤ length w.events
full_when_over w full over =
    let few : length (unfinished w) < MOST_UNFINISHED = subst (λ (fs : List _). length fs < MOST_UNFINISHED) (sym over) (omega arith) in
    let no : ¬ (length w.events < MOST_EVENTS) = λ h. full (h, few) in
    omega (arith, no)
