-- How the place that an obligation comes from is spelled, and the path to a part of a certificate.
use Rattle.std.specs.Prelude.{ℕ, ◌++◌, List, [], ◌∷◌, Option, Some, None, codes}
use Rattle.std.specs.List.{flat_map}
use Rattle.std.specs.Fmt.{decimal}
use Rattle.acc_base.specs.declared.designs.At.{At}
use Rattle.acc_base.specs.declared.designs.Design.{Design}
use Rattle.acc_base.specs.declared.sequents.Origin.{Origin}
use Rattle.acc_base.specs.Lines.{at_text}
use Rattle.acc_base.specs.Numbering.{rule_number}
use Rattle.acc_print.specs.Designs.{side_text}

-- a space and a number
abbrev pub spaced_number : ℕ → List ℕ
spaced_number n = codes " " ++ decimal n

-- a space and a point, or - where there is none
abbrev pub place_text : Design → Option At → List ℕ
place_text d None = codes " -"
place_text d (Some at) = codes " " ++ at_text d at

-- RULE HELD CLAUSE: which clause of which rule, and of which held point
abbrev pub clause_text : Design → Origin → List ℕ
clause_text d o = codes "S" ++ (decimal (rule_number o.rule) ++ (place_text d o.held ++ spaced_number o.clause))

-- AT SIDE PATH CASE: which path of which step, and which of its cases
abbrev pub step_text : Design → Origin → List ℕ
step_text d o = place_text d o.at ++ (side_text o.side ++ (spaced_number o.path ++ spaced_number o.case))

abbrev pub origin_text : Design → Origin → List ℕ
origin_text d o = clause_text d o ++ step_text d o

-- a dot and a number
abbrev pub dotted : ℕ → List ℕ
dotted n = codes "." ++ decimal n

-- the numbers with dots between them, or - where there are none
abbrev pub path_text : List ℕ → List ℕ
path_text [] = codes "-"
path_text (n ∷ ns) = decimal n ++ flat_map dotted ns
