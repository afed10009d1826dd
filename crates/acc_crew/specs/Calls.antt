-- What has to be so of a call that lets workers work.

-- at an engine that hasn't begun, the call may be made, and what it gives keeps what an engine keeps, as work leaves it
pub record WorksSo {A N E : Type 0} (IsFresh IsSound : E → Type 0) (Works : E → E → Type 0) (pre : A → E → N → Type 0)
    (post : A → E → N → E → Type 0) : Type 0 where
  pub may : (alloc : A) (engine : E) (workers : N) → IsFresh engine → pre alloc engine workers
  pub sound : (alloc : A) (engine : E) (workers : N) (new : E) → IsFresh engine → post alloc engine workers new → IsSound new
  pub works : (alloc : A) (engine : E) (workers : N) (new : E) → IsFresh engine → post alloc engine workers new → Works engine new
