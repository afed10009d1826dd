use Rattle.std.specs.Prelude.{All}
use Rattle.acc_terms.specs.Parts.{IsTermSized}
use Rattle.acc_cases_relations.proofs.parts.unknowns.Given as goal

abbrev pub invariant-loop-word : goal.invariant-loop-word
invariant-loop-word l = All IsTermSized l.parts
