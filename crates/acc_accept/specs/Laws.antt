-- What is accepted isn't refused, and what is refused is so for one reason.
use Rattle.std.specs.Prelude.{◌≡◌, ◌≢◌}
use Rattle.acc_base.specs.declared.designs.Design.{Design}
use Rattle.acc_axioms.specs.declared.nodes.Cert.{Cert}
use Rattle.acc_accept.specs.declared.refusals.Refusal.{Refusal}
use Rattle.acc_accept.specs.declared.refusals.Refusal.TheVariants.{Memory}
use Rattle.acc_accept.specs.Accepting.{Accepts, Refuses}

-- accepted and refused exclude each other, but for want of memory
abbrev pub NoneIsBoth : Type 0
NoneIsBoth = (d : Design) (c : Cert) (r : Refusal) → r ≢ Memory → Accepts d c → ¬ Refuses d c r

-- there is one reason, beside want of memory
abbrev pub RefusedForOneReason : Type 0
RefusedForOneReason =
    (d : Design) (c : Cert) (r s : Refusal) → r ≢ Memory → s ≢ Memory → Refuses d c r → Refuses d c s → r ≡ s
