-- What the calls of a turner hand back.
use Rattle.std.specs.Prelude.{◌≡◌, ◌≢◌, ◌⊎◌, ℕ}
use Rattle.acc_workers.specs.declared.turners.Why.{Why}
use Rattle.acc_workers.specs.declared.turners.Given.{Given}
use Rattle.acc_workers.specs.declared.turners.Given.TheVariants.{Begun, NoMore, Halt}
use Rattle.acc_workers.specs.declared.turners.Went.{Went}
use Rattle.acc_workers.specs.declared.turners.Went.TheVariants.{On, Wait, Ended, Halt as Stop}
use Rattle.acc_workers.specs.declared.turners.Over.{Over}
use Rattle.acc_workers.specs.declared.turners.Over.TheVariants.{Done, Halt as Halted}

-- the same numbers may be turned
abbrev pub Same : {A : Type 0} → (A → ℕ → Type 0) → A → A → Type 0
Same may v w = (t : ℕ) → (may w t → may v t) × (may v t → may w t)

-- t is one more
abbrev pub Gains : {A : Type 0} → (A → ℕ → Type 0) → ℕ → A → A → Type 0
Gains may t v w = may w t × ((u : ℕ) → may w u → may v u ⊎ (u ≡ t)) × ((u : ℕ) → may v u → may w u)

-- t is gone
abbrev pub Loses : {A : Type 0} → (A → ℕ → Type 0) → ℕ → A → A → Type 0
Loses may t v w = (may w t → ⊥) × ((u : ℕ) → may w u → may v u) × ((u : ℕ) → u ≢ t → may v u → may w u)

abbrev pub NoneLeft : {A : Type 0} → (A → ℕ → Type 0) → A → Type 0
NoneLeft may v = (t : ℕ) → may v t → ⊥

-- what is shown of places and halts stays
abbrev pub Keeps : {A : Type 0} → (A → Type 0) → (A → Why → Type 0) → A → A → Type 0
Keeps done shows v w = (done v → done w) × ((why : Why) → shows v why → shows w why)

abbrev pub Gives : {A : Type 0} → (A → ℕ → Type 0) → (A → Type 0) → (A → Why → Type 0) → A → A → Given → Type 0
Gives may done shows v w (Begun t) = Gains may t v w
Gives may done shows v w NoMore = Same may v w × done w
Gives may done shows v w (Halt why) = shows w why

abbrev pub Goes : {A : Type 0} → (A → ℕ → Type 0) → (A → ℕ → Type 0) → (A → Why → Type 0) → ℕ → A → A → Went → Type 0
Goes may waits shows t v w On = Same may v w
Goes may waits shows t v w (Wait n) = Same may v w × waits w t
Goes may waits shows t v w Ended = Loses may t v w
Goes may waits shows t v w (Stop why) = shows w why

abbrev pub Ends : {A : Type 0} → (A → ℕ → Type 0) → (A → Type 0) → (A → Why → Type 0) → A → Over → Type 0
Ends may done shows w Done = NoneLeft may w × done w
Ends may done shows w (Halted why) = shows w why
