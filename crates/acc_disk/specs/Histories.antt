-- What a history of calls shows.
-- Only the disk in memory speaks of this.
use Rattle.std.specs.Prelude.{◌≡◌, ◌≤◌, ℕ, nat_le, List, [], ◌∷◌, ◌++◌, length, take}
use Rattle.std.specs.List.{prefix_len}
use Rattle.acc_disk.specs.Standings.{Standing, settled, IsImage}
use Rattle.acc_disk.specs.Changes.{after_all}
use Rattle.acc_disk.specs.declared.history.Recorded.{Recorded}
use Rattle.acc_disk.specs.declared.history.History.{History}

-- what stands now
abbrev pub present : History → Standing
present history = after_all history.past.items (settled history.start.items)

-- what stood when so many of the changes were done
abbrev pub past_standing : History → ℕ → Standing
past_standing history count = after_all (take count history.past.items) (settled history.start.items)

-- what stood when so many calls were done, of which those that changed something are noted in order
abbrev pub standing_by : History → ℕ → Standing
standing_by history calls = past_standing history (prefix_len (λ recorded. nat_le recorded.number calls) history.past.items)

-- how many changes there were
abbrev pub change_count : History → ℕ
change_count history = length history.past.items

-- a crash may have left these bytes when so many changes were done, or later
pub record LeftSince (history : History) (time : ℕ) (image : List ℕ) : Type 0 where
  pub count : ℕ
  pub since : time ≤ count
  pub within : count ≤ change_count history
  pub left : IsImage (past_standing history count) image

-- nothing was done
pub record IsUnchanged (old new : History) : Type 0 where
  pub start : new.start.items ≡ old.start.items
  pub past : new.past.items ≡ old.past.items
  pub bytes : new.bytes.items ≡ old.bytes.items

-- one more change was done by the call of that number, and it is this step
pub record Advances (number : ℕ) (step : Standing → Standing) (old new : History) : Type 0 where
  pub start : new.start.items ≡ old.start.items
  pub last : Recorded
  pub number_is : last.number ≡ number
  pub past : new.past.items ≡ old.past.items ++ last ∷ []
  pub steps : present new ≡ step (present old)
