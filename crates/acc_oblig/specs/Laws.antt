-- The obligations of a design, and what they are worth: where all are true, the design is sound.
use Rattle.std.specs.Prelude.{Bool, List, ◌++◌, All, map}
use Rattle.std.specs.List.{list_any}
use Rattle.acc_base.specs.declared.designs.Design.{Design}
use Rattle.acc_base.specs.declared.sequents.Sequent.{Sequent}
use Rattle.acc_formed.specs.WellFormed.{IsWellFormed}
use Rattle.acc_base.specs.Soundness.{IsSound}
use Rattle.acc_oblig.specs.Drafts.{Draft}
use Rattle.acc_oblig.specs.PathPromises.{promise_drafts, always_drafts, there_drafts, empty_drafts}
use Rattle.acc_oblig.specs.Spares.{all_spare_drafts}
use Rattle.acc_oblig.specs.PointRules.{begin_drafts, variant_drafts, clear_drafts}
use Rattle.acc_oblig.specs.Ranges.{range_drafts}
use Rattle.acc_base.specs.TrueSequents.{SequentTrue}

-- rule by rule, in the order of their numbers
abbrev pub drafts_of : Design → List Draft
drafts_of d =
    begin_drafts
    d
    ++ (promise_drafts
    d
    ++ (always_drafts d ++ (all_spare_drafts d
    ++ (there_drafts d ++ (range_drafts d ++ (variant_drafts d ++ (clear_drafts d ++ empty_drafts d)))))))

abbrev pub sequents_of : Design → List Sequent
sequents_of d = map (λ (x : Draft). x.sequent) (drafts_of d)

abbrev pub are_obligations_wide : Design → Bool
are_obligations_wide d = list_any (λ (x : Draft). x.wide) (drafts_of d)

-- where all obligations of a well-formed design are true, it is sound
abbrev pub TrueGivesSound : Type 0
TrueGivesSound =
    (d : Design) → IsWellFormed d → All (λ (x : Draft). SequentTrue d x.sequent) (drafts_of d) → IsSound d
