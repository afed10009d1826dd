use Rattle.std.proofs.Common.{◌≡◌, drop}
use Rattle.acc_lock_holders.specs.Numbers.{least_but}
use Rattle.acc_lock_holders.proofs.numbers.lowest_but.Given as goal

-- the lowest of those that are left, and of the best so far, is the lowest of all
abbrev pub invariant-loop-u : goal.invariant-loop-u
invariant-loop-u l = least_but l.t l.best (drop l.u-index l.numbers) ≡ least_but l.t l.initial.best l.numbers
