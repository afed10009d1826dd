-- What is said of an obligation that isn't proved.
use Rattle.std.specs.Prelude.{ℕ, ◌++◌, List, [], codes, Ok, Err}
use Rattle.std.specs.List.{flat_map}
use Rattle.std.specs.Fmt.{signed_decimal}
use Rattle.acc_base.specs.declared.designs.Design.{Design}
use Rattle.acc_base.specs.declared.sequents.Origin.{Origin}
use Rattle.acc_base.specs.declared.sequents.Sequent.{Sequent}
use Rattle.acc_base.specs.Lines.{line}
use Rattle.acc_elim_points.specs.Fractions.{Fraction}
use Rattle.acc_elim_points.specs.Points.{Point}
use Rattle.acc_axioms.specs.declared.nodes.Node.{Node}
use Rattle.acc_prover.specs.Halt.{Halt}
use Rattle.acc_prover.specs.Halt.TheVariants.{Open, Crowded, Wide, Many, Memory}
use Rattle.acc_prover.specs.BranchCourses.{Course}
use Rattle.acc_prover.specs.Searches.{course}
use Rattle.acc_oblig_origins.specs.Origins.{origin_text}
use Rattle.acc_oblig_hints.specs.Hints.{hints_of}

-- the search for the proof of an obligation, with its hints
abbrev pub searched : Design → Sequent → Course (List Node)
searched d q = course d q (hints_of d q)

-- a space and a fraction
abbrev pub fraction_text : Fraction → List ℕ
fraction_text x = codes " " ++ (signed_decimal x.0 ++ (codes "/" ++ signed_decimal x.1))

abbrev pub point_text : Point → List ℕ
point_text point = codes "point" ++ flat_map fraction_text point

-- what ended a search, with the point of an open leaf; want of memory isn't said
abbrev pub end_text : Halt → List ℕ
end_text (Open leaf point) = point_text point
end_text Crowded = codes "crowded"
end_text Wide = codes "wide"
end_text Many = codes "many"
end_text Memory = []

-- open O END: the line of an obligation from this place
abbrev pub line_of : Design → Origin → List ℕ → List ℕ
line_of d o end = line (codes "open " ++ (origin_text d o ++ (codes " " ++ end)))

-- none where all branches of its search are closed
abbrev pub open_line : Design → Origin → Course (List Node) → List ℕ
open_line d o (Ok nodes) = []
open_line d o (Err end) = line_of d o (end_text end)

-- those of obligations, in their order
abbrev pub open_lines : Design → List Sequent → List ℕ
open_lines d qs = flat_map (λ q. open_line d q.origin (searched d q)) qs
