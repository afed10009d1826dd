-- Who blocks a forward transaction.
use Rattle.std.specs.Prelude.{◌≡◌, ℕ, Option, None, Some, MatchOption, slice_get}
use Rattle.acc_base.specs.declared.designs.Design.{Design}
use Rattle.acc_base.specs.declared.machines.Frame.{Frame}
use Rattle.acc_base.specs.declared.machines.Transaction.TheVariants.{Forward}
use Rattle.acc_base.specs.Machine.{World, transaction_at, unfinished, stop_of}
use Rattle.acc_base.specs.Locks.{IsBlockedBy, IsUnblocked}
use Rattle.acc_machine.specs.Lowest.{IsLowestBlocker}

-- f is the frame of a forward transaction
abbrev pub IsForward : World → Frame → Type 0
IsForward w f = transaction_at f.t w.transactions ≡ Some (Forward f)

-- nothing stops f's step, and this is the lowest holder that blocks it, with its lowest entry; or something stops it, or nobody blocks it
abbrev pub TellsHolder : Design → World → Frame → Option (ℕ × ℕ) → Type 0
TellsHolder d w f result =
    MatchOption result (stop_of d w.rows f ≡ None → IsUnblocked d w f)
    (λ found. (stop_of d w.rows f ≡ None) × IsLowestBlocker d w f found.0 found.1)

-- f is the frame of a forward transaction whose step nothing stops, and some transaction blocks it
abbrev pub IsHeldBack : Design → World → Frame → Type 0
IsHeldBack d w f = IsForward w f × (stop_of d w.rows f ≡ None) × ((h : ℕ) × (n : ℕ) × IsBlockedBy d w f h n)

-- f is the frame of an unfinished transaction
abbrev pub IsListed : World → Frame → Type 0
IsListed w f = (j : ℕ) × (slice_get (unfinished w) j ≡ Some f)
