-- A machine with the calls of a script, as contracts see it.
use Rattle.std.specs.Prelude.{◌≡◌, true, List, All, slice_get}
use Rattle.acc_base.specs.declared.designs.Design.{Design}
use Rattle.acc_base.specs.declared.machines.Call.{Call}
use Rattle.acc_base.specs.Machine.{World, call_fits}
use Rattle.acc_plain.specs.Running.{Running}

-- each call fits its type
abbrev pub AllFit : Design → List Call → Type 0
AllFit d calls = All (λ (call : Call). call_fits (slice_get d.types call.ty) call ≡ true) calls

pub record Playing : Type 0 where
  pub design : Design
  pub world : World
  pub calls : List Call

-- a machine beside which these calls stand
abbrev pub playing : Running → List Call → Playing
playing m calls = record { design = m.design; world = m.world; calls = calls }

-- each of its calls fits its type
abbrev pub HasFit : Playing → Type 0
HasFit p = AllFit p.design p.calls
