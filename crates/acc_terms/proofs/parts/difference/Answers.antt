use Rattle.std.proofs.Common.{◌++◌, ◌∷◌, [], ◌∙◌, List, ap, sym, subst, map, append_assoc}
use Rattle.std.specs.Prelude.{All}
use Rattle.std.proofs.lemmas.List.{map_push}
use Rattle.std.proofs.lemmas.List.Elements.{All-push}
use Rattle.acc_terms.specs.declared.parts.Part.{Part}
use Rattle.acc_terms.specs.Parts.{IsTermSized, negated}
use Rattle.acc_terms.proofs.parts.difference.Goals as goal

pub loop-part-preserved : goal.loop-part-preserved
loop-part-preserved g c =
    let before = c.loop-part.invariant in
    let pushed = c.in_ok-push.ensures.ok in
    let one = c.negated.ensures in
    let next = negated c.in-Some.part in
    record {
      so_far = pushed ∙ (ap (λ p. c.loop-part.left ++ p ∷ []) one.value
          ∙ (ap (λ ps. ps ++ next ∷ []) before.so_far
          ∙ (append_assoc c.args.left (map negated c.loop-part.yielded) (next ∷ [])
          ∙ ap (λ ps. c.args.left ++ ps) (sym (map_push negated c.loop-part.yielded c.in-Some.part)))));
      small = subst (λ (ps : List (Part g.row.K.Denot)). All IsTermSized ps) (sym pushed)
          (All-push IsTermSized c.loop-part.left c.negated.result before.small one.small);
    }
