use Rattle.std.proofs.Common.{◌≡◌, ℕ, List, length, refl, sym, subst, arith}
use Rattle.std.specs.Prelude.{◌<◌, ◌^◌, All}
use Rattle.std.proofs.lemmas.List.Elements.{All-nil}
use Rattle.acc_base.specs.declared.machines.Event.{Event}
use Rattle.acc_wal.specs.Spellings.{body, Fits}
use Rattle.acc_cases_wal.proofs.listing.ListedEvents.new.Goals as goal

pub invariant_of-result : goal.invariant_of-result
unfolding body
invariant_of-result c =
    subst (λ (es : List Event). All Fits es × (0 ≡ length (body es)) × (0 < 2 ^ 20)) (sym c.new.ensures.items) (All-nil Fits, refl, omega arith)
