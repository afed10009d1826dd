use Rattle.std.proofs.Common.{All, sym, subst, arith}
use Rattle.std.proofs.lemmas.Grind.{common_steps}
use Rattle.std.proofs.lemmas.List.Elements.{All-push}
use Rattle.acc_terms.specs.Parts.{IsTermSized}
use Rattle.acc_parse_clauses.proofs.forms.form_parts.Goals as goal

pub loop-other-preserved : goal.loop-other-preserved
loop-other-preserved c = record {
  value = grind (arith, common_steps);
  sized = subst (All IsTermSized) (sym c.in_ok-push-2.ensures.ok)
      (All-push IsTermSized c.loop-other.parts c.signed-in-loop-other.result c.loop-other.invariant.sized
      c.signed-in-loop-other.ensures.sized);
  walk = grind (arith, common_steps);
}
