-- When a call that makes the history durable is safe against crashes.
use Rattle.std.specs.Prelude.{◌≡◌, ℕ, List, false, Option, Some}
use Rattle.acc_disk.specs.Crashes.{IsCalm}
use Rattle.acc_engine.specs.Keeping.{Journalled}
use Rattle.acc_engine.specs.Sealing.{SealedFront}

-- it hasn't failed, its disk is calm, and the disk's bytes are a journal of a front of the history, of all that is durable at
-- least, each of whose states is the text of the rows at its place
pub record IsReady {D : Type 0} (told : D → Option (List ℕ)) (may_leave : D → List ℕ → Type 0) (e : Journalled D) : Type 0 where
  pub unfailed : e.failed ≡ false
  pub calm : IsCalm (told e.disk) (may_leave e.disk)
  pub counts : (file : List ℕ) → told e.disk ≡ Some file → SealedFront e.design e.base e.state.events e.settled file
