-- What one try does to a set of pairs, and what the passes lead to.
use Rattle.std.specs.Prelude.{◌≡◌, ◌⊎◌, ◌≤◌, ℕ, List, [], ◌∷◌, ◌++◌, length, map, take}
use Rattle.std.specs.List.{AllByRecursion}
use Rattle.acc_oblig_goals.specs.Causes.{sequents}
use Rattle.acc_advise.specs.declared.advice.Beyond.{Beyond}
use Rattle.acc_advise.specs.declared.passes.Grown.{Grown}
use Rattle.acc_advise.specs.declared.passes.Tried.{Tried}
use Rattle.acc_advise.specs.declared.spares.Inquiry.{Inquiry}
use Rattle.acc_advise.specs.declared.trials.SpareTrial.{SpareTrial}
use Rattle.acc_advise.specs.TriedDesigns.{keyed_drafts}
use Rattle.acc_advise.specs.Stops.{AreProofs, Tries}
use Rattle.acc_advise.specs.Advices.{IsEnough, IsBeyond, Passes, Settles, pairs_of}

-- what comes of an entry with these pairs
abbrev pub Tells : Inquiry → List (ℕ × ℕ) → SpareTrial → Type 0
Tells c pairs t = Tries c.d.now (sequents (keyed_drafts c.d.now c.question pairs)) t

-- the proofs are those of an entry with the pairs
abbrev pub IsBacked : Inquiry → Grown → Type 0
IsBacked c g = AreProofs c.d.now (sequents (keyed_drafts c.d.now c.question g.pairs)) g.proofs

-- what stopped the pairs that were tried, and these pairs
abbrev pub reasons : List Tried → List Beyond
reasons ts = map (λ (t : Tried). t.beyond) ts

abbrev pub tried_pairs : List Tried → List (ℕ × ℕ)
tried_pairs ts = pairs_of (reasons ts)

-- what stopped a pair is known of the set as it was, before pairs were added at its end
abbrev pub IsKnown : Inquiry → List (ℕ × ℕ) → Tried → Type 0
IsKnown c pairs t = (t.among ≤ length pairs) × IsBeyond c.d.now c.question (take t.among pairs) t.beyond.pair t.beyond

-- a pair is added with which all is proved, or it is beyond, and that is kept with how many pairs the set has
abbrev pub Steps : Inquiry → ℕ × ℕ → Grown → Grown → List Tried → List Tried → Type 0
Steps c pair old new ts all =
    (IsEnough c.d.now c.question (old.pairs ++ pair ∷ []) × (new.pairs ≡ old.pairs ++ pair ∷ []) × IsBacked c new × (all ≡ ts))
    ⊎ ((t : Tried) × (t.among ≡ length old.pairs) × IsBeyond c.d.now c.question old.pairs pair t.beyond × (new ≡ old)
    × (all ≡ ts ++ t ∷ []))

-- a pass over pairs was made, and left these; what is known of each is known of the set
pub record HasPassed (c : Inquiry) (old : Grown) (outside : List (ℕ × ℕ)) (new : Grown) (left : List Tried) : Type 0 where
  pub passes : Passes c.d.now c.question old.pairs outside new.pairs (reasons left)
  pub backed : IsBacked c old → IsBacked c new
  pub known : AllByRecursion (IsKnown c new.pairs) left

-- passes from nothing lead there, with the proofs
abbrev pub IsSettled : Inquiry → List (ℕ × ℕ) → Grown × List Beyond → Type 0
IsSettled c candidates r =
    ((n : ℕ) × Settles c.d.now c.question n [] candidates r.0.pairs r.1) × IsBacked c r.0
