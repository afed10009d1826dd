-- By which entry a holder blocks a forward step, told by what the step would do.
use Rattle.std.specs.Prelude.{◌≡◌, ◌<◌, ◌⊎◌, ℕ, nat_lt, if◌then◌else◌, List, Option, None, Some, MatchOption, ⊤, ◌≢◌, All, slice_get, ℤ}
use Rattle.acc_base.specs.declared.designs.Design.{Design}
use Rattle.acc_base.specs.declared.designs.Side.TheVariants.{Next}
use Rattle.acc_base.specs.declared.machines.Frame.{Frame}
use Rattle.acc_base.specs.declared.steps.Target.{Target}
use Rattle.acc_base.specs.declared.steps.Target.TheVariants.{Point as ToPoint, Commit, Undone, Refuse}
use Rattle.acc_base.specs.Entries.{Forbids}
use Rattle.acc_base.specs.Locks.{point_at, ClashesEither}
use Rattle.acc_table.specs.Entries.{IsPointOf}
use Rattle.acc_plain.specs.Outlook.{Outlook}
use Rattle.acc_plain.specs.Outlook.TheVariants.{Range, Refused, Goes as Leads}

-- the lower of two numbers, where there are any
abbrev pub lower : Option ℕ → Option ℕ → Option ℕ
lower None b = b
lower (Some m) None = Some m
lower (Some m) (Some n) = if nat_lt n m then Some n else Some m

abbrev pub ClashesAt : Design → Frame → List ℤ → Frame → ℕ → Target → Type 0
ClashesAt d f locals h n (ToPoint p) = ClashesEither d (point_at f.ty p) locals (point_at h.ty h.point) h.locals n
ClashesAt d f locals h n Commit = ⊥
ClashesAt d f locals h n Undone = ⊥
ClashesAt d f locals h n (Refuse m) = ⊥

-- the entry blocks a step of f that looks so and has these locals after its reads, where h stands
abbrev pub Blocks : Design → Frame → List ℤ → Frame → Outlook → ℕ → Type 0
Blocks d f locals h Range n = ⊥
Blocks d f locals h (Refused m) n = Forbids d (point_at h.ty h.point) h.locals (point_at f.ty f.point) Next locals n
Blocks d f locals h (Leads to) n =
    Forbids d (point_at h.ty h.point) h.locals (point_at f.ty f.point) Next locals n ⊎ ClashesAt d f locals h n to

-- a target of a step of the type is one of its points, or an end
abbrev pub LeadsTo : Design → ℕ → Target → Type 0
LeadsTo d ty (ToPoint p) = IsPointOf d ty p
LeadsTo d ty Commit = ⊤
LeadsTo d ty Undone = ⊤
LeadsTo d ty (Refuse m) = ⊤

abbrev pub LooksTo : Design → ℕ → Outlook → Type 0
LooksTo d ty Range = ⊤
LooksTo d ty (Refused m) = ⊤
LooksTo d ty (Leads to) = LeadsTo d ty to

-- ---- holders in a list

-- another frame that blocks it in no way
abbrev pub LetsPass : Design → Frame → List ℤ → Outlook → Frame → Type 0
LetsPass d f locals outlook h = h.t ≢ f.t → (n : ℕ) → ¬ Blocks d f locals h outlook n

-- the first of the frames that blocks it, and its lowest entry
pub record IsFirstBlocker (d : Design) (frames : List Frame) (f : Frame) (locals : List ℤ) (outlook : Outlook) (found : ℕ × ℕ)
    : Type 0 where
  pub place : ℕ
  pub holder : Frame
  pub is_holder : slice_get frames place ≡ Some holder
  pub number : holder.t ≡ found.0
  pub other : holder.t ≢ f.t
  pub blocks : Blocks d f locals holder outlook found.1
  pub lowest : (m : ℕ) → m < found.1 → ¬ Blocks d f locals holder outlook m
  pub before : (j : ℕ) (g : Frame) → j < place → slice_get frames j ≡ Some g → LetsPass d f locals outlook g

abbrev pub TellsBlocker : Design → List Frame → Frame → List ℤ → Outlook → Option (ℕ × ℕ) → Type 0
TellsBlocker d frames f locals outlook result =
    MatchOption result ((j : ℕ) (g : Frame) → slice_get frames j ≡ Some g → LetsPass d f locals outlook g)
    (IsFirstBlocker d frames f locals outlook)

-- each frame stands at a point of the design
abbrev pub AreAtPoints : Design → List Frame → Type 0
AreAtPoints d frames = All (λ (h : Frame). IsPointOf d h.ty h.point) frames
