-- A frame that is forward is that of a transaction that goes forward.
use Rattle.std.proofs.Common.{◌≡◌, ℕ, List, subst, sym, ap, ◌∙◌, Some}
use Rattle.std.specs.Prelude.{slice_get}
use Rattle.acc_base.specs.declared.designs.Design.{Design}
use Rattle.acc_base.specs.declared.designs.Side.TheVariants.{Next}
use Rattle.acc_base.specs.declared.machines.Frame.{Frame}
use Rattle.acc_base.specs.declared.machines.Transaction.TheVariants.{Forward}
use Rattle.acc_base.specs.Machine.{World, transaction_at, unfinished}
use Rattle.acc_base.specs.Invariant.{IsGood}
use Rattle.acc_machine.specs.Turns.{IsGoing}
use Rattle.acc_machine.proofs.Stucks.{forward_by}

pub going : (d : Design) (w : World) (frames : List Frame) (i t : ℕ) (f : Frame) → IsGood d w → frames ≡ unfinished w
    → slice_get frames i ≡ Some f → f.t ≡ t → f.side ≡ Next → IsGoing t w
going d w frames i t f good q at number side =
    let forward = forward_by d w good.steady f (i, ap (λ xs. slice_get xs i) (sym q) ∙ at) side in
    record { frame = f; forward = subst (λ n. transaction_at n w.transactions ≡ Some (Forward f)) number forward }
