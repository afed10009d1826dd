use Rattle.std.proofs.Common.{◌≡◌, ◌++◌, map, All, take}
use Rattle.std.specs.List.{flat_map}
use Rattle.acc_parse_limits.specs.Walks.{after}
use Rattle.acc_terms.specs.Parts.{IsTermSized}
use Rattle.acc_parse_clauses.specs.Forms.{signed_form_part}
use Rattle.acc_parse_clauses.specs.Sizes.{signed_form_term_sizes}
use Rattle.acc_parse_clauses.specs.Views.{scope_in}
use Rattle.acc_parse_clauses.proofs.forms.form_parts.Given as goal

-- what has come so far
abbrev pub invariant-loop-other : goal.invariant-loop-other
invariant-loop-other l = record {
  value : l.parts ≡ l.initial.parts ++ map (signed_form_part (scope_in l.scope)) (take l.other-index l.form.others);
  sized : All IsTermSized l.parts;
  walk : l.walk ≡ after l.initial.walk (flat_map (signed_form_term_sizes (scope_in l.scope)) (take l.other-index l.form.others));
}
