use Rattle.std.proofs.Common.{◌≡◌, take}
use Rattle.std.specs.List.{flat_map}
use Rattle.acc_parse_limits.specs.Walks.{after}
use Rattle.acc_parse_limits.specs.Words.{signed_term_marks}
use Rattle.acc_parse_limits.proofs.values.meet_other_terms.Given as goal

abbrev pub invariant-loop-signed : goal.invariant-loop-signed
invariant-loop-signed l = l.walk ≡ after l.initial.walk (flat_map signed_term_marks (take l.signed-index l.terms))
