-- When a schedule puts a state of the rows behind all events.
use Rattle.std.specs.Prelude.{◌≡◌, ◌⊎◌, ◌<◌, Bool, true, length}
use Rattle.acc_engine.specs.Keeping.{Journalled}

-- the history grew: before the engine was made, which is told, or since
abbrev pub HasGrown : {D : Type 0} → Bool → Journalled D → Type 0
HasGrown before e = (before ≡ true) ⊎ (e.found < length e.state.events)
