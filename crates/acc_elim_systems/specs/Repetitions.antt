-- Relations of which none repeats an earlier one, and what tells whether one more repeats one of them.
use Rattle.std.specs.Prelude.{◌≡◌, ℕ, Bool, false, ◌&&◌, ◌||◌, All, List, [], ◌∷◌}
use Rattle.std.specs.List.{list_any}
use Rattle.acc_rows.specs.declared.rows.Row.{Row}
use Rattle.acc_elim_systems.specs.declared.systems.Replaced.{Replaced}
use Rattle.acc_elim_systems.specs.Systems.{repeats, is_constant, is_without}

-- a relation doesn't repeat this one
abbrev pub Differs : Row → Row → Type 0
Differs k r = repeats r k ≡ false

-- none repeats an earlier one
abbrev pub AreApart : List Row → Type 0
AreApart [] = Unit {0}
AreApart (k ∷ rows) = All (Differs k) rows × AreApart rows

-- a relation repeats one of these exactly where it repeats one of those
abbrev pub TellsOf : List Row → List Row → Row → Type 0
TellsOf some rows r = list_any (repeats r) some ≡ list_any (repeats r) rows

-- where that was so of a relation that doesn't repeat this one, it is so again
abbrev pub StillTellsOf : List Row → List Row → List Row → List Row → Row → Type 0
StillTellsOf some rows some' rows' r = (other : Row) → repeats other r ≡ false → TellsOf some rows other → TellsOf some' rows' other

-- a relation repeats one more of these exactly where it repeats one more of those
abbrev pub GrowTogether : List Row → List Row → List Row → List Row → Type 0
GrowTogether some rows some' rows' =
    (other : Row) → (more : Bool) × (list_any (repeats other) some' ≡ (list_any (repeats other) some || more))
    × (list_any (repeats other) rows' ≡ (list_any (repeats other) rows || more))

-- ---- a system behind an equation

-- whether a relation repeats one of those that were made, or lacks the unknown and repeats one of those before
abbrev pub told_behind : ℕ → List Row → List Row → Row → Bool
told_behind u made before r = list_any (repeats r) made || (is_without u r && list_any (repeats r) before)

-- a relation repeats one of the system behind the equation exactly where that is told by those that were made and those before
abbrev pub TellBehind : ℕ → List Row → Replaced → Type 0
TellBehind u before s = (r : Row) → is_constant r ≡ false → told_behind u s.made before r ≡ list_any (repeats r) s.rows

-- where it was told by this relation and the rest, it is still told by the rest
abbrev pub StillBehind : ℕ → Row → List Row → List Row → List Row → List Row → Type 0
StillBehind u row made kept made' kept' =
    (r : Row) (before rest : List Row) → is_constant r ≡ false → told_behind u kept (row ∷ rest) r ≡ told_behind u made before r
    → told_behind u kept' rest r ≡ told_behind u made' before r
