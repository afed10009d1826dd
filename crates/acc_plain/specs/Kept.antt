-- How transactions are kept: how far each has come, and the frames of the unfinished ones.
use Rattle.std.specs.Prelude.{◌≡◌, ◌<◌, ◌+◌, ℕ, List, [], ◌∷◌, length, map, slice_index_or, IfSome}
use Rattle.std.specs.List.{filter_map}
use Rattle.acc_base.specs.declared.machines.Frame.{Frame}
use Rattle.acc_base.specs.declared.machines.Transaction.{Transaction}
use Rattle.acc_base.specs.declared.machines.Transaction.TheVariants.{Forward, Undoing, Ended}
use Rattle.acc_base.specs.Machine.{frame_in}
use Rattle.acc_plain.specs.declared.transactions.Progress.{Progress}
use Rattle.acc_plain.specs.declared.transactions.Progress.TheVariants as progress
use Rattle.acc_plain.specs.declared.transactions.TransactionRef.{TransactionRef}
use Rattle.acc_plain.specs.declared.transactions.TransactionRef.TheVariants as by

-- ---- frames

-- the numbers rise
abbrev pub IsRising : List Frame → Type 0
IsRising frames = (i j : ℕ) (d : Frame) → i < j → j < length frames → (slice_index_or frames i d).t < (slice_index_or frames j d).t

-- the frame at place i has number t
pub record IsAt (frames : List Frame) (t i : ℕ) : Type 0 where
  pub within : i < length frames
  pub number : (d : Frame) → (slice_index_or frames i d).t ≡ t

-- some frame has number t
pub record Holds (frames : List Frame) (t : ℕ) : Type 0 where
  pub place : ℕ
  pub at : IsAt frames t place

-- ---- transactions

-- how far a transaction has come
abbrev pub progress_of : Transaction → Progress
progress_of (Forward f) = progress.Forward
progress_of (Undoing f c) = progress.Undoing c
progress_of (Ended reply) = progress.Ended reply

-- the transactions that have come so far, whose unfinished ones have these frames
abbrev pub joined : List Progress → List Frame → List Transaction
joined [] frames = []
joined (progress.Ended reply ∷ rest) frames = Ended reply ∷ joined rest frames
joined (progress.Forward ∷ rest) [] = []
joined (progress.Forward ∷ rest) (f ∷ frames) = Forward f ∷ joined rest frames
joined (progress.Undoing c ∷ rest) [] = []
joined (progress.Undoing c ∷ rest) (f ∷ frames) = Undoing f c ∷ joined rest frames

-- its frame, if it has one, has number t
abbrev pub IsNumbered : ℕ → Transaction → Type 0
IsNumbered t x = IfSome (frame_in x) (λ f. f.t ≡ t)

-- the frames among transactions from number n on have their numbers
abbrev pub AreNumbered : ℕ → List Transaction → Type 0
AreNumbered n [] = Unit {0}
AreNumbered n (x ∷ xs) = IsNumbered n x × AreNumbered (n + 1) xs

-- each unfinished one has its frame, and there are no others
pub record AreKept (ps : List Progress) (fs : List Frame) : Type 0 where
  pub progresses : map progress_of (joined ps fs) ≡ ps
  pub frames : filter_map frame_in (joined ps fs) ≡ fs
  pub numbered : AreNumbered 1 (joined ps fs)

-- a transaction behind a reference
abbrev pub transaction_of : TransactionRef → Transaction
transaction_of (by.Forward f) = Forward f.now
transaction_of (by.Undoing f c) = Undoing f.now c
transaction_of (by.Ended reply) = Ended reply.now
