-- Lists of frames that are the same but for one transaction's.
use Rattle.std.specs.Prelude.{◌≡◌, ◌≢◌, ◌↔◌, ℕ, List, Option, MatchOption}
use Rattle.acc_base.specs.declared.machines.Frame.{Frame}
use Rattle.acc_lock_index.specs.Indexed.{IsIn}

-- no two of the frames have one number
abbrev pub AreApart : List Frame → Type 0
AreApart frames = (f g : Frame) → IsIn frames f → IsIn frames g → f.t ≡ g.t → f ≡ g

-- the same frames but for those with this number, in whatever order
abbrev pub AgreeBut : ℕ → List Frame → List Frame → Type 0
AgreeBut t old new = (g : Frame) → g.t ≢ t → IsIn old g ↔ IsIn new g

-- the frame with a number, none where no frame has it
abbrev pub TellsFrame : List Frame → ℕ → Option Frame → Type 0
TellsFrame frames t result = MatchOption result ((g : Frame) → IsIn frames g → g.t ≢ t) (λ f. IsIn frames f × (f.t ≡ t))
