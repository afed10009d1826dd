-- What holds of the moments of a history, for the laws of a disk.
-- Proofs of the disk in memory speak of this.
use Rattle.std.specs.Prelude.{◌≡◌, ◌≤◌, ℕ, List}
use Rattle.std.proofs.Common.{sym, subst, ap, arith}
use Rattle.std.proofs.lemmas.List.{take_all}
use Rattle.acc_disk.specs.Standings.{settled, IsImage}
use Rattle.acc_disk.specs.Changes.{after_all}
use Rattle.acc_disk.specs.Histories.{present, past_standing, change_count, LeftSince}
use Rattle.acc_disk.specs.declared.history.History.{History}

-- with all changes done there stands what stands now
pub past_standing-all : (history : History) (count : ℕ) → change_count history ≤ count → past_standing history count ≡ present history
past_standing-all history count all = ap (λ changes. after_all changes (settled history.start.items))
    (take_all count history.past.items all)

-- the present moment is one of those since an earlier one
pub left_now : (history : History) (time : ℕ) (image : List ℕ) → time ≤ change_count history → IsImage (present history) image
    → LeftSince history time image
left_now history time image le now = record {
  count = change_count history;
  since = le;
  within = omega arith;
  left = subst (λ standing. IsImage standing image) (sym (past_standing-all history (change_count history) (omega arith))) now;
}

-- since the present moment there is no other
pub left_only_now : (history : History) (image : List ℕ) → LeftSince history (change_count history) image → IsImage (present history) image
left_only_now history image left = subst (λ standing. IsImage standing image) (past_standing-all history left.count left.since) left.left

-- the moments since a time are among those since an earlier one
pub left_earlier : (history : History) (sooner time : ℕ) (image : List ℕ) → sooner ≤ time → LeftSince history time image
    → LeftSince history sooner image
left_earlier history sooner time image le left = record {
  count = left.count;
  since = omega (arith, le, left.since);
  within = left.within;
  left = left.left;
}
