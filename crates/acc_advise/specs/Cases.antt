-- What is asked of a design, with the points that it names.
use Rattle.std.specs.Prelude.{◌≡◌, ⊤, List, Result, Ok, Err, Some, None}
use Rattle.acc_base.specs.declared.sequents.Sequent.{Sequent}
use Rattle.acc_base.specs.Effects.{step_at}
use Rattle.acc_formed.specs.WellFormed.{IsWellFormed}
use Rattle.acc_oblig.specs.Drafts.{Draft}
use Rattle.acc_oblig_goals.specs.Causes.{sequents, first_wide}
use Rattle.acc_oblig_places.specs.SeenPlaces.{point_place}
use Rattle.acc_advise.specs.declared.advice.AdviseError.{AdviseError}
use Rattle.acc_advise.specs.declared.advice.AdviseError.TheVariants.{Wide, Memory}
use Rattle.acc_advise.specs.declared.spares.Inquiry.{Inquiry}
use Rattle.acc_advise.specs.declared.trials.SpareTrial.{SpareTrial}
use Rattle.acc_advise.specs.TriedDesigns.{point_place_at}
use Rattle.acc_advise.specs.Stops.{Tries}

-- the design is well-formed, and the points are those of the question
pub record IsCase (c : Inquiry) : Type 0 where
  pub formed : IsWellFormed c.d.now
  pub held : point_place_at c.d.now c.question.held ≡ Some (point_place c.held)
  pub place : point_place_at c.d.now c.question.step ≡ Some (point_place c.taken.place)
  pub side : c.taken.side ≡ c.question.side
  pub step : c.taken.step.now ≡ step_at c.question.side c.taken.place.point.now

-- the first obligation with a number that is too large is told; want of memory says nothing
abbrev pub TellsWide : List Draft → AdviseError → Type 0
TellsWide ds (Wide o) = first_wide ds ≡ Some o
TellsWide ds Memory = ⊤

abbrev pub IsMemory : AdviseError → Type 0
IsMemory e = e ≡ Memory

-- these obligations are made, if no number of one is too large
abbrev pub Makes : Result (List Sequent) AdviseError → List Draft → Type 0
Makes (Ok qs) ds = (qs ≡ sequents ds) × (first_wide ds ≡ None)
Makes (Err e) ds = TellsWide ds e

-- and they are tried
abbrev pub TriesAll : Inquiry → List Draft → Result SpareTrial AdviseError → Type 0
TriesAll c ds (Ok t) = Tries c.d.now (sequents ds) t × (first_wide ds ≡ None)
TriesAll c ds (Err e) = TellsWide ds e
