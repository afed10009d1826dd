-- What an entry leaves as it is, that the obligations that are tried are the design's own, and that a try is told by the set alone.
use Rattle.std.specs.Prelude.{◌≡◌, ◌≢◌, ◌⊎◌, ℕ, List, [], ◌∷◌, ◌++◌, Some}
use Rattle.std.specs.List.{AllByRecursion, Contains}
use Rattle.acc_base.specs.declared.designs.Design.{Design}
use Rattle.acc_base.specs.declared.sequents.Origin.{Origin}
use Rattle.acc_base.specs.declared.sequents.Rule.TheVariants.{Spares}
use Rattle.acc_oblig.specs.Laws.{drafts_of}
use Rattle.acc_oblig_goals.specs.Causes.{first_wide}
use Rattle.acc_advise.specs.declared.advice.Beyond.{Beyond}
use Rattle.acc_advise.specs.declared.advice.Question.{Question}
use Rattle.acc_advise.specs.Advices.{IsBeyond, IsEnough}
use Rattle.acc_advise.specs.TriedDesigns.{with_entry, without_entry, keyed, spares_in, free_drafts, keyed_drafts}

-- where a number of an obligation is too large with an entry that has pairs, it is so without one, and the same is the first
abbrev pub EntriesLeaveWidths : Type 0
EntriesLeaveWidths =
    (d : Design) (q : Question) (pairs : List (ℕ × ℕ)) → pairs ≢ [] → first_wide (keyed_drafts d q pairs) ≡ first_wide (free_drafts d q)

-- an obligation comes from the step that a question names, as one that spares its held point
abbrev pub IsAsked : Question → Origin → Type 0
IsAsked q o = (o.rule ≡ Spares) × (o.held ≡ Some q.held) × (o.at ≡ Some q.step) × (o.side ≡ q.side)

-- what is tried of a design comes from there and is among its obligations, and all of its obligations that come from there are tried
pub record TriesOwn (d : Design) (q : Question) : Type 0 where
  pub asked : AllByRecursion (λ x. IsAsked q x.sequent.origin) (spares_in d q)
  pub own : AllByRecursion (Contains (drafts_of d)) (spares_in d q)
  pub each : AllByRecursion (λ x. IsAsked q x.sequent.origin → Contains (spares_in d q) x) (drafts_of d)

-- each obligation of a design that comes from elsewhere is one of another design
abbrev pub LeavesOthers : Design → Design → Question → Type 0
LeavesOthers d e q = AllByRecursion (λ x. IsAsked q x.sequent.origin ⊎ Contains (drafts_of e) x) (drafts_of d)

-- an entry for what is asked, put in or taken out, changes no obligation that comes from elsewhere
pub record LeavesElsewhere (d : Design) (q : Question) (pairs : List (ℕ × ℕ)) : Type 0 where
  pub none_new : LeavesOthers (with_entry d (keyed q pairs)) d q
  pub none_gone : LeavesOthers d (with_entry d (keyed q pairs)) q
  pub none_new_without : LeavesOthers (without_entry d q) d q
  pub none_gone_without : LeavesOthers d (without_entry d q) q

abbrev pub EntriesLeaveOthers : Type 0
EntriesLeaveOthers = (d : Design) (q : Question) (pairs : List (ℕ × ℕ)) → LeavesElsewhere d q pairs

-- a pair that can't be added to a set can't be added to it when it is tried again, and what is first open is the same
abbrev pub KnownStays : Type 0
KnownStays =
    (d : Design) (q : Question) (set : List (ℕ × ℕ)) (pair : ℕ × ℕ) (b : Beyond) → IsBeyond d q set pair b
    → (¬ IsEnough d q (set ++ pair ∷ [])) × ((other : Beyond) → IsBeyond d q set pair other → other ≡ b)
