-- How many transactions a recovery compensates.
use Rattle.std.specs.Prelude.{ℕ, Bool, true, false, ◌&&◌, is_some, List, count_by, zip}
use Rattle.acc_base.specs.declared.machines.Outcome.{Outcome}
use Rattle.acc_base.specs.declared.machines.Outcome.TheVariants.{Committed, Compensated}
use Rattle.acc_base.specs.declared.machines.Transaction.{Transaction}
use Rattle.acc_base.specs.declared.machines.Transaction.TheVariants.{Forward, Undoing, Ended}
use Rattle.acc_base.specs.Machine.{frame_in}

abbrev pub is_compensation : Outcome → Bool
is_compensation (Committed values) = false
is_compensation (Compensated cause) = true

-- a transaction that has ended, compensated
abbrev pub is_compensated : Transaction → Bool
is_compensated (Forward f) = false
is_compensated (Undoing f c) = false
is_compensated (Ended reply) = is_compensation reply.outcome

-- how many transactions are unfinished in the one list, and compensated in the other, each at its number
abbrev pub compensated_between : List Transaction → List Transaction → ℕ
compensated_between first last = count_by (λ p. is_some (frame_in p.0) && is_compensated p.1) (zip first last)
