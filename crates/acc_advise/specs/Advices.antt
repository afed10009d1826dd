-- Which entry is advised: its pairs are a set that grows by passes over the candidates, until a pass adds none.
use Rattle.std.specs.Prelude.{◌≡◌, ◌⊎◌, ◌<◌, ℕ, zero, suc, List, [], ◌∷◌, ◌++◌, length, map, Result, Ok, Err, None}
use Rattle.acc_base.specs.declared.designs.At.{At}
use Rattle.acc_base.specs.declared.designs.Side.{Side}
use Rattle.acc_base.specs.declared.designs.Design.{Design}
use Rattle.acc_oblig_goals.specs.Causes.{sequents, first_wide}
use Rattle.acc_advise.specs.declared.advice.Advice.{Advice}
use Rattle.acc_advise.specs.declared.advice.Advice.TheVariants.{Free, Keyed}
use Rattle.acc_advise.specs.declared.advice.AdviseError.{AdviseError}
use Rattle.acc_advise.specs.declared.advice.Beyond.{Beyond}
use Rattle.acc_advise.specs.declared.advice.Question.{Question}
use Rattle.acc_advise.specs.TriedDesigns.{free_drafts, keyed_drafts}
use Rattle.acc_advise.specs.Candidates.{candidates}
use Rattle.acc_advise.specs.Cases.{TellsWide}
use Rattle.acc_advise.specs.Stops.{AllProved, IsFirstOpen, AreProofs}

-- what is asked of a held point and a step
abbrev pub asked : At → At → Side → Question
asked held step side = record { held = held; step = step; side = side }

-- with these pairs all that the step has to spare is proved
abbrev pub IsEnough : Design → Question → List (ℕ × ℕ) → Type 0
IsEnough d q pairs = AllProved d (sequents (keyed_drafts d q pairs))

-- a pair that can't be added to a set: the first obligation that isn't proved with it
pub record IsBeyond (d : Design) (q : Question) (set : List (ℕ × ℕ)) (pair : ℕ × ℕ) (b : Beyond) : Type 0 where
  pub is : b.pair ≡ pair
  pub first : IsFirstOpen d (sequents (keyed_drafts d q (set ++ pair ∷ []))) b.origin b.why

-- A pass over pairs that aren't in a set adds each with which all is proved: what the set is then, and what stopped each other pair.
abbrev pub Passes : Design → Question → List (ℕ × ℕ) → List (ℕ × ℕ) → List (ℕ × ℕ) → List Beyond → Type 0
Passes d q set [] grown bs = (grown ≡ set) × (bs ≡ [])
Passes d q set (pair ∷ pairs) grown bs =
    (IsEnough d q (set ++ pair ∷ []) × Passes d q (set ++ pair ∷ []) pairs grown bs)
    ⊎ ((b : Beyond) × (rest : List Beyond) × (bs ≡ b ∷ rest) × IsBeyond d q set pair b × Passes d q set pairs grown rest)

abbrev pub pairs_of : List Beyond → List (ℕ × ℕ)
pairs_of bs = map (λ (b : Beyond). b.pair) bs

-- so many passes that add a pair, and then one that adds none
abbrev pub Settles : Design → Question → ℕ → List (ℕ × ℕ) → List (ℕ × ℕ) → List (ℕ × ℕ) → List Beyond → Type 0
Settles d q zero set pairs grown bs = Passes d q set pairs grown bs × (length bs ≡ length pairs)
Settles d q (suc n) set pairs grown bs =
    (more : List (ℕ × ℕ)) × (left : List Beyond) × Passes d q set pairs more left × (length left < length pairs)
    × Settles d q n more (pairs_of left) grown bs

-- the step needs no entry, and here are its proofs; or it does, and here are the pairs, the proofs and what is beyond
abbrev pub IsAdvice : Design → Question → Advice → Type 0
IsAdvice d q (Free ps) =
    let qs = sequents (free_drafts d q) in AllProved d qs × AreProofs d qs ps
IsAdvice d q (Keyed pairs ps bs) =
    (¬ AllProved d (sequents (free_drafts d q))) × ((n : ℕ) × Settles d q n [] (candidates d q) pairs bs)
    × AreProofs d (sequents (keyed_drafts d q pairs)) ps

-- no number of an obligation is too large, and this is advised; or the first such obligation is told; want of memory says nothing
abbrev pub Advises : Design → Question → Result Advice AdviseError → Type 0
Advises d q (Ok a) = (first_wide (free_drafts d q) ≡ None) × IsAdvice d q a
Advises d q (Err e) = TellsWide (free_drafts d q) e
