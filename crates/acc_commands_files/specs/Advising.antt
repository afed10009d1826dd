-- The command advise: the entry that lets a step go where a point is held, and forbids as little as the search can show.
use Rattle.std.specs.Prelude.{◌≡◌, ◌⊎◌, ◌++◌, ◌==◌, ◌&&◌, ℕ, Bool, true, false, if◌then◌else◌, List, [], ◌∷◌, find, codes}
use Rattle.std.specs.Prelude.{Option, Some, None, option_map, option_and_then}
use Rattle.std.specs.List.{flat_map}
use Rattle.std.specs.Str.{bytes_eq}
use Rattle.acc_base.specs.declared.designs.At.{At}
use Rattle.acc_base.specs.declared.designs.Side.{Side}
use Rattle.acc_base.specs.declared.designs.Side.TheVariants.{Next, Undo}
use Rattle.acc_base.specs.declared.designs.Design.{Design}
use Rattle.acc_base.specs.declared.sequents.Origin.{Origin}
use Rattle.acc_base.specs.Lines.{line, at_text}
use Rattle.acc_oblig_goals.specs.Causes.{first_wide}
use Rattle.acc_formed.specs.WellFormed.{IsWellFormed}
use Rattle.acc_oblig_origins.specs.Origins.{origin_text}
use Rattle.acc_oblig_places.specs.DesignPlaces.{PointPlace, point_places}
use Rattle.acc_print.specs.Designs.{side_text, scope_at, pair_text, entry_line}
use Rattle.acc_cert_prove.specs.Lines.{point_text, line_of}
use Rattle.acc_advise.specs.declared.advice.Advice.{Advice}
use Rattle.acc_advise.specs.declared.advice.Advice.TheVariants.{Free, Keyed}
use Rattle.acc_advise.specs.declared.advice.Beyond.{Beyond}
use Rattle.acc_advise.specs.declared.advice.Question.{Question}
use Rattle.acc_advise.specs.declared.advice.Obstacle.{Obstacle}
use Rattle.acc_advise.specs.declared.advice.Obstacle.TheVariants.{Open, Crowded, Wide, Many}
use Rattle.acc_advise.specs.Advices.{asked, IsAdvice}
use Rattle.acc_advise.specs.TriedDesigns.{keyed, free_drafts}
use Rattle.acc_commands_inputs.specs.Refusals.{RefusesDesign}
use Rattle.acc_commands_inputs.specs.Text.{Said, Says}
use Rattle.acc_commands_inputs.specs.Texts.{IsDesignText}
use Rattle.acc_journalled.specs.declared.answers.Ending.TheVariants.{Done, DesignRefused, ScriptRefused}

-- ---- points

-- the point that a word names, as TYPE.POINT, if there is one
abbrev pub named : Design → List ℕ → Option At
named d word = option_map (λ (q : PointPlace). q.at) (find (λ (q : PointPlace). bytes_eq (at_text d q.at) word) (point_places d))

-- no entry may hold a start point, or forbid the undo step of one
abbrev pub not_start : At → Option At
not_start at = if at.point == 0 then None else Some at

abbrev pub may_forbid : Side → At → Option At
may_forbid Next at = Some at
may_forbid Undo at = not_start at

-- the point that a word names as held, and the one of which a step is forbidden
abbrev pub held_at : Design → List ℕ → Option At
held_at d word = option_and_then not_start (named d word)

abbrev pub step_at : Design → Side → List ℕ → Option At
step_at d side word = option_and_then (may_forbid side) (named d word)

-- ---- lines

-- why a search ended, as `prove` says it
abbrev pub why_text : Obstacle → List ℕ
why_text (Open leaf point) = point_text point
why_text Crowded = codes "crowded"
why_text Wide = codes "wide"
why_text Many = codes "many"

-- beyond X = Y open O END: what is first open where this pair is added
abbrev pub beyond_line : Design → Question → Beyond → List ℕ
beyond_line d q b =
    codes "beyond " ++ (pair_text (scope_at d q.held).names (scope_at d q.step).names b.pair
    ++ (codes " " ++ line_of d b.origin (why_text b.why)))

-- free HELD by STEP SIDE; or the entry's statement, and a line for each other pair
abbrev pub advice_text : Design → Question → Advice → List ℕ
advice_text d q (Free proofs) = line (codes "free " ++ (at_text d q.held ++ (codes " by " ++ (at_text d q.step ++ side_text q.side))))
advice_text d q (Keyed pairs proofs beyond) = entry_line d (keyed q pairs) ++ flat_map (beyond_line d q) beyond

-- ---- answers

-- no number of an obligation is too large, and this is advised
pub record Advised (d : Design) (q : Question) (said : Said) : Type 0 where
  pub narrow : first_wide (free_drafts d q) ≡ None
  pub advice : Advice
  pub is_advice : IsAdvice d q advice
  pub says : Says Done (advice_text d q advice) said

-- or a number of one is too large, and the first such is said
pub record TooWide (d : Design) (q : Question) (said : Said) : Type 0 where
  pub origin : Origin
  pub wide : first_wide (free_drafts d q) ≡ Some origin
  pub says : Says DesignRefused (line (codes "refused wide " ++ origin_text d origin)) said

abbrev pub RefusesPoint : List ℕ → Said → Type 0
RefusesPoint word said = Says ScriptRefused (line (codes "refused point " ++ word)) said

-- the first of two words that names no point, or one that no entry may have there; or the advice for the points
abbrev pub SaysOfPoints : Design → List ℕ → List ℕ → Side → Option At → Option At → Said → Type 0
SaysOfPoints d held step side None s said = RefusesPoint held said
SaysOfPoints d held step side (Some h) None said = RefusesPoint step said
SaysOfPoints d held step side (Some h) (Some s) said = let q = asked h s side in Advised d q said ⊎ TooWide d q said

abbrev pub SaysAdvice : Design → List ℕ → List ℕ → Side → Said → Type 0
SaysAdvice d held step side said = SaysOfPoints d held step side (held_at d held) (step_at d side step) said

-- the text is that of this design, which is well-formed, and then the points decide
pub record AdvisesDesign (design held step : List ℕ) (side : Side) (said : Said) : Type 0 where
  pub d : Design
  pub is_text : IsDesignText design d
  pub formed : IsWellFormed d
  pub says : SaysAdvice d held step side said

-- the order of the refusals: the design, the held point, the point of the step, its obligations
abbrev pub AdvisesFile : List ℕ → List ℕ → List ℕ → Side → Said → Type 0
AdvisesFile design held step side said = RefusesDesign design said ⊎ AdvisesDesign design held step side said
