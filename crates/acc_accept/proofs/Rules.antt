-- The obligations of a design, rule by rule.
use Rattle.std.proofs.Common.{◌≡◌, List, ◌++◌, refl, sym, ◌∙◌}
use Rattle.std.specs.Prelude.{Result, Ok, Err, IsErrAnd}
use Rattle.acc_base.specs.declared.designs.Design.{Design}
use Rattle.acc_base.specs.declared.sequents.Sequent.{Sequent}
use Rattle.acc_oblig.specs.Drafts.{Draft}
use Rattle.acc_oblig.specs.Laws.{drafts_of}
use Rattle.acc_oblig.specs.PathPromises.{promise_drafts, always_drafts, there_drafts, empty_drafts}
use Rattle.acc_oblig.specs.Spares.{all_spare_drafts}
use Rattle.acc_oblig.specs.PointRules.{begin_drafts, variant_drafts, clear_drafts}
use Rattle.acc_oblig.specs.Ranges.{range_drafts}
use Rattle.acc_oblig_paths.specs.ObligError.{ObligError}
use Rattle.acc_oblig_paths.specs.ObligError.TheVariants.{Wide, Memory}
use Rattle.acc_oblig_paths.specs.Causes.{Adds}
use Rattle.acc_oblig_paths.proofs.Going.{Going, going_all, going_on, going_off}

-- the obligations of the rules from one on
abbrev pub from_clears : Design → List Draft
from_clears d = clear_drafts d ++ empty_drafts d

abbrev pub from_variants : Design → List Draft
from_variants d = variant_drafts d ++ from_clears d

abbrev pub from_ranges : Design → List Draft
from_ranges d = range_drafts d ++ from_variants d

abbrev pub from_there : Design → List Draft
from_there d = there_drafts d ++ from_ranges d

abbrev pub from_spares : Design → List Draft
from_spares d = all_spare_drafts d ++ from_there d

abbrev pub from_always : Design → List Draft
from_always d = always_drafts d ++ from_spares d

abbrev pub from_promises : Design → List Draft
from_promises d = promise_drafts d ++ from_always d

-- the last part is added, or can't be
going_last :
    (r : Result (Unit {0}) ObligError) (old now new : List Sequent) (left all : List Draft) → Going old now left all
    → Adds r now new left → Adds r old new all
going_last (Ok x) old now new left all g a = (a.0 ∙ g.out, sym g.wide ∙ a.1)
going_last (Err (Wide o)) old now new left all g a = sym g.wide ∙ a
going_last (Err Memory) old now new left all g a = tt

module _ (d : Design) (old : List Sequent) where
  -- what is left behind each rule, where the rules before it are added
  pub begun : (new : List Sequent) → Adds (Ok tt) old new (begin_drafts d) → Going old new (from_promises d) (drafts_of d)
  begun new a = going_on old old new (begin_drafts d) (from_promises d) (drafts_of d) (drafts_of d) refl (going_all old (drafts_of d)) a

  pub promised :
      (now new : List Sequent) → Going old now (from_promises d) (drafts_of d) → Adds (Ok tt) now new (promise_drafts d)
      → Going old new (from_always d) (drafts_of d)
  promised now new g a = going_on old now new (promise_drafts d) (from_always d) (from_promises d) (drafts_of d) refl g a

  pub held :
      (now new : List Sequent) → Going old now (from_always d) (drafts_of d) → Adds (Ok tt) now new (always_drafts d)
      → Going old new (from_spares d) (drafts_of d)
  held now new g a = going_on old now new (always_drafts d) (from_spares d) (from_always d) (drafts_of d) refl g a

  pub spared :
      (now new : List Sequent) → Going old now (from_spares d) (drafts_of d) → Adds (Ok tt) now new (all_spare_drafts d)
      → Going old new (from_there d) (drafts_of d)
  spared now new g a = going_on old now new (all_spare_drafts d) (from_there d) (from_spares d) (drafts_of d) refl g a

  pub found :
      (now new : List Sequent) → Going old now (from_there d) (drafts_of d) → Adds (Ok tt) now new (there_drafts d)
      → Going old new (from_ranges d) (drafts_of d)
  found now new g a = going_on old now new (there_drafts d) (from_ranges d) (from_there d) (drafts_of d) refl g a

  pub ranged :
      (now new : List Sequent) → Going old now (from_ranges d) (drafts_of d) → Adds (Ok tt) now new (range_drafts d)
      → Going old new (from_variants d) (drafts_of d)
  ranged now new g a = going_on old now new (range_drafts d) (from_variants d) (from_ranges d) (drafts_of d) refl g a

  pub fallen :
      (now new : List Sequent) → Going old now (from_variants d) (drafts_of d) → Adds (Ok tt) now new (variant_drafts d)
      → Going old new (from_clears d) (drafts_of d)
  fallen now new g a = going_on old now new (variant_drafts d) (from_clears d) (from_variants d) (drafts_of d) refl g a

  pub cleared :
      (now new : List Sequent) → Going old now (from_clears d) (drafts_of d) → Adds (Ok tt) now new (clear_drafts d)
      → Going old new (empty_drafts d) (drafts_of d)
  cleared now new g a = going_on old now new (clear_drafts d) (empty_drafts d) (from_clears d) (drafts_of d) refl g a

  pub whole :
      (r : Result (Unit {0}) ObligError) (now new : List Sequent) → Going old now (empty_drafts d) (drafts_of d)
      → Adds r now new (empty_drafts d) → Adds r old new (drafts_of d)
  whole r now new g a = going_last r old now new (empty_drafts d) (drafts_of d) g a

  -- a rule can't be added
  pub stopped :
      (now new last : List Sequent) (part rest : List Draft) (r : Result (Unit {0}) ObligError) (e : ObligError) → IsErrAnd r (λ y. y ≡ e)
      → Going old now (part ++ rest) (drafts_of d) → Adds (Err e) now new part → Adds r old last (drafts_of d)
  stopped now new last part rest r e h g a = going_off old now new part rest (part ++ rest) (drafts_of d) r e last h refl g a
