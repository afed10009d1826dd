-- What each call leaves of the numbers and of the moments before it.
use Rattle.std.proofs.Common.{◌≡◌, ℕ, ◌<◌, ◌≤◌, List, [], ◌∷◌, ◌++◌, length, take, ◌∙◌, ap, subst, arith, IsTrue, nat_le}
use Rattle.std.proofs.lemmas.Bool.Decides.{nat_tests}
use Rattle.std.specs.List.{list_all, prefix_len}
use Rattle.std.proofs.lemmas.List.Sums.{prefix_len-le-length}
use Rattle.acc_disk.specs.Standings.{Standing, settled}
use Rattle.acc_disk.specs.Changes.{after_all}
use Rattle.acc_disk.specs.Histories.{past_standing, IsUnchanged, Advances}
use Rattle.acc_disk.specs.Laws.{past_standing-all}
use Rattle.acc_disk.specs.MemDisks.{Begins, MadeCall, call_count, next_call, standing, standing_after}
use Rattle.acc_disk.specs.declared.history.Recorded.{Recorded}
use Rattle.acc_disk.specs.declared.mem_disk.MemDisk.{MemDisk}
use Rattle.acc_disk.proofs.Times.{past_standing-advanced}

-- the calls up to a number are as many as there are, where all are up to it
prefix_len-numbered : (past : List Recorded) (calls : ℕ) → IsTrue (list_all (λ recorded. nat_le recorded.number calls) past) →
    length past ≤ prefix_len (λ recorded. nat_le recorded.number calls) past
prefix_len-numbered [] calls all = omega arith
prefix_len-numbered (recorded ∷ past) calls all = grind (arith, nat_tests, prefix_len-numbered past calls)

-- a later call is none of those up to a number
prefix_len-later : (past : List Recorded) (last : Recorded) (calls : ℕ) → calls < last.number →
    prefix_len (λ recorded. nat_le recorded.number calls) (past ++ last ∷ []) ≡ prefix_len (λ recorded. nat_le recorded.number calls) past
prefix_len-later [] last calls lt = grind (arith, nat_tests)
prefix_len-later (recorded ∷ past) last calls lt = grind (arith, nat_tests, prefix_len-later past last calls lt)

latest : (disk : MemDisk) → standing_after disk (call_count disk) ≡ standing disk
latest disk = past_standing-all disk.history _ (prefix_len-numbered disk.history.past.items disk.calls disk.numbered)

-- a call that changes nothing
looked : (old new : MemDisk) → call_count new ≡ next_call old → new.fails.items ≡ old.fails.items → new.from ≡ old.from →
    IsUnchanged old.history new.history → MadeCall old new
looked old new number fails from same = record {
  number = number;
  fails = fails;
  from = from;
  earlier = λ calls lt.
      ap (λ changes. after_all (take (prefix_len (λ recorded. nat_le recorded.number calls) changes) changes)
      (settled new.history.start.items)) same.past
      ∙ ap (λ start. after_all (take (prefix_len (λ recorded. nat_le recorded.number calls) old.history.past.items) old.history.past.items)
      (settled start)) same.start;
  latest = latest new;
}

-- a call that changes something, noted under its number
changed : (old new : MemDisk) (step : Standing → Standing) → call_count new ≡ next_call old → new.fails.items ≡ old.fails.items →
    new.from ≡ old.from → Advances (next_call old) step old.history new.history → MadeCall old new
changed old new step number fails from advances = record {
  number = number;
  fails = fails;
  from = from;
  earlier = λ calls lt.
      let before = prefix_len (λ recorded. nat_le recorded.number calls) old.history.past.items in
      ap (λ count. past_standing new.history count)
      (ap (λ changes. prefix_len (λ recorded. nat_le recorded.number calls) changes) advances.past
      ∙ prefix_len-later old.history.past.items advances.last calls (omega (arith, advances.number_is, lt)))
      ∙ past_standing-advanced (next_call old) step old.history new.history advances before
      (prefix_len-le-length (λ recorded. nat_le recorded.number calls) old.history.past.items);
  latest = latest new;
}

-- the call was counted, and then nothing was done to the history
pub made_nothing : (listed : ℕ) (old begun new : MemDisk) → Begins listed old begun → new.calls ≡ begun.calls → new.fails ≡ begun.fails →
    new.from ≡ begun.from → IsUnchanged begun.history new.history → MadeCall old new
made_nothing listed old begun new begins calls fails from same =
    looked old new (calls ∙ begins.calls) (ap (λ list. list.items) (fails ∙ begins.fails)) (from ∙ begins.from)
    (subst (λ history. IsUnchanged history new.history) begins.history same)

-- the call was counted, and then it changed the history
pub made_change : (listed : ℕ) (old begun new : MemDisk) (step : Standing → Standing) → Begins listed old begun → new.calls ≡ begun.calls →
    new.fails ≡ begun.fails → new.from ≡ begun.from → Advances begun.calls step begun.history new.history → MadeCall old new
made_change listed old begun new step begins calls fails from advances =
    changed old new step (calls ∙ begins.calls) (ap (λ list. list.items) (fails ∙ begins.fails)) (from ∙ begins.from)
    (subst (λ number. Advances number step old.history new.history) begins.calls
    (subst (λ history. Advances begun.calls step history new.history) begins.history advances))
