-- The answer to the question for the obligations of a design.
use Rattle.std.specs.Prelude.{◌≡◌, List, Some, None, Result, Ok, Err, ⊤}
use Rattle.acc_base.specs.declared.designs.Design.{Design}
use Rattle.acc_base.specs.declared.sequents.Sequent.{Sequent}
use Rattle.acc_oblig.specs.Laws.{drafts_of, sequents_of}
use Rattle.acc_oblig_paths.specs.Causes.{first_wide}
use Rattle.acc_oblig_paths.specs.ObligError.{ObligError}
use Rattle.acc_oblig_paths.specs.ObligError.TheVariants.{Wide, Memory}

-- these are all, and no number of one is too large; or the first with such a number comes from there; want of memory says nothing
abbrev pub AreObligations : Design → Result (List Sequent) ObligError → Type 0
AreObligations d (Ok qs) = (qs ≡ sequents_of d) × (first_wide (drafts_of d) ≡ None)
AreObligations d (Err (Wide origin)) = first_wide (drafts_of d) ≡ Some origin
AreObligations d (Err Memory) = ⊤
