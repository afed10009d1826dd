use Rattle.std.proofs.Common.{◌≡◌, ◌++◌, map, All, take}
use Rattle.acc_terms.specs.Parts.{IsTermSized}
use Rattle.acc_parse_clauses.specs.Values.{signed_part}
use Rattle.acc_parse_clauses.specs.Views.{variables_in}
use Rattle.acc_parse_clauses.proofs.values.parts.Given as goal

-- what has come so far
abbrev pub invariant-loop-other : goal.invariant-loop-other
invariant-loop-other l = record {
  value : l.parts ≡ l.initial.parts ++ map (signed_part (variables_in l.variables)) (take l.other-index l.sum.others);
  sized : All IsTermSized l.parts;
}
