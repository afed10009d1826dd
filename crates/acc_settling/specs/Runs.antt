-- Runs of an engine's calls: what is kept through them, and which replies are durable then.
use Rattle.std.specs.Prelude.{◌≡◌, ◌≢◌, ℕ, List, false, Option}
use Rattle.acc_base.specs.Machine.{reply_at}
use Rattle.acc_engine.specs.Keeping.{Journalled}
use Rattle.acc_engine.specs.Acks.{durable_reply}
use Rattle.acc_engine.specs.Ready.{IsReady}
use Rattle.acc_engine.specs.Surviving.{Survives}

-- each reply is durable
abbrev pub IsAcked : {D : Type 0} → Journalled D → Type 0
IsAcked e = (t : ℕ) → durable_reply e t ≡ reply_at t e.state

-- each reply is durable, but for one transaction's
pub record IsAckedButOne {D : Type 0} (e : Journalled D) : Type 0 where
  pub last : ℕ
  pub others : (t : ℕ) → t ≢ last → durable_reply e t ≡ reply_at t e.state

-- Its history goes on, and a crash leaves a front of it. Where each reply was durable at first, each is but one's.
pub record RunsOn {D : Type 0} (clock : D → ℕ) (left_since : D → ℕ → List ℕ → Type 0) (told : D → Option (List ℕ))
    (may_leave : D → List ℕ → Type 0) (count : D → ℕ) (old new : Journalled D) : Type 0 where
  pub survives : Survives clock left_since told may_leave count old new
  pub ends : IsAcked old → IsAckedButOne new

-- the next call may come: the engine hasn't failed; the disk is calm and each reply durable, if they were
pub record IsReadyAgain {D : Type 0} (told : D → Option (List ℕ)) (may_leave : D → List ℕ → Type 0) (old new : Journalled D) : Type 0
  where
    pub unfailed : new.failed ≡ false
    pub ready : IsReady told may_leave old → IsReady told may_leave new
    pub acked : IsAcked old → IsAcked new
