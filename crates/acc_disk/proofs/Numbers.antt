-- The numbers of the calls that a history notes.
use Rattle.std.proofs.Common.{◌≤◌, ℕ, List, [], ◌∷◌, arith, IsTrue, nat_le}
use Rattle.std.proofs.lemmas.Bool.Decides.{nat_tests}
use Rattle.std.specs.List.{list_all}
use Rattle.acc_disk.specs.declared.history.Recorded.{Recorded}

-- numbers up to a count are numbers up to a later one
pub numbered_by_later : (past : List Recorded) (calls later : ℕ) → calls ≤ later →
    IsTrue (list_all (λ recorded. nat_le recorded.number calls) past) → IsTrue (list_all (λ recorded. nat_le recorded.number later) past)
numbered_by_later [] calls later le all = all
numbered_by_later (recorded ∷ past) calls later le all = grind (arith, nat_tests, numbered_by_later past calls later le)
