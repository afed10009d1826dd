-- Whether a forward step would take place but for the locks, and who blocks it then.
use Rattle.std.specs.Prelude.{◌≡◌, ◌≢◌, ℕ, Bool, true, false, not, ◌&&◌, nat_lt, List, [], length, take, Option, None, Some, MatchOption, slice_get, ℤ}
use Rattle.acc_base.specs.declared.tables.Row.{Row}
use Rattle.acc_base.specs.declared.designs.Design.{Design}
use Rattle.acc_base.specs.declared.designs.Side.TheVariants.{Next}
use Rattle.acc_base.specs.declared.machines.Frame.{Frame}
use Rattle.acc_base.specs.Effects.{Effect, Goes, Refuses, OutOfRange, effect_of}
use Rattle.acc_base.specs.Machine.{is_asked, stop_of}
use Rattle.acc_plain.specs.Outlook.{Outlook}
use Rattle.acc_plain.specs.Outlook.TheVariants.{Range, Refused, Goes as Leads}
use Rattle.acc_plain.specs.Outlooks.{outlook_of}
use Rattle.acc_machine.specs.Blocked.{LetsPass, IsFirstBlocker}

abbrev pub leads_on : Outlook → Bool
leads_on Range = false
leads_on (Refused n) = false
leads_on (Leads to) = true

-- nothing stops a step that looks so, where the type has this limit
abbrev pub goes_ahead : ℕ → Frame → Outlook → Bool
goes_ahead limit f outlook = not (is_asked f.ask f.steps) && nat_lt f.steps limit && leads_on outlook

-- the locals after a step's reads
abbrev pub locals_of : Effect → List ℤ
locals_of (Goes db s i to) = s.locals
locals_of (Refuses s n) = s.locals
locals_of OutOfRange = []

-- nothing stops f's step, this is what it looks like, and the first places have the locals after its reads
pub record IsAhead (d : Design) (db : List Row) (f : Frame) (places : List ℤ) (outlook : Outlook) : Type 0 where
  pub free : stop_of d db f ≡ None
  pub looks : outlook ≡ outlook_of (effect_of d db f Next)
  pub locals : take (length f.locals) places ≡ locals_of (effect_of d db f Next)

abbrev pub TellsAhead : Design → List Row → Frame → List ℤ → Option Outlook → Type 0
TellsAhead d db f places result = MatchOption result (stop_of d db f ≢ None) (IsAhead d db f places)

-- all of the frames let f's step pass
abbrev pub PassesAll : Design → List Row → List Frame → Frame → Type 0
PassesAll d db frames f =
    (j : ℕ) (g : Frame) → slice_get frames j ≡ Some g
    → LetsPass d f (locals_of (effect_of d db f Next)) (outlook_of (effect_of d db f Next)) g

-- nothing stops f's step, and the first of the frames that blocks it does so
abbrev pub IsHeldUpBy : Design → List Row → List Frame → Frame → ℕ × ℕ → Type 0
IsHeldUpBy d db frames f found =
    (stop_of d db f ≡ None)
    × IsFirstBlocker d frames f (locals_of (effect_of d db f Next)) (outlook_of (effect_of d db f Next)) found

-- who blocks f's step, where nothing stops it; else, or where all let it pass, nobody
abbrev pub TellsHeldUp : Design → List Row → List Frame → Frame → Option (ℕ × ℕ) → Type 0
TellsHeldUp d db frames f result =
    MatchOption result (stop_of d db f ≡ None → PassesAll d db frames f) (IsHeldUpBy d db frames f)
