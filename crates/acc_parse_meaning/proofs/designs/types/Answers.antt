use Rattle.std.proofs.Common.{◌∙◌, ◌++◌, ◌∷◌, [], ap}
use Rattle.acc_parse_meaning.specs.Types.{type_of}
use Rattle.acc_parse_meaning.specs.Sizes.{type_sizes}
use Rattle.acc_parse_clauses.proofs.Walked.{made_next, walked_next}
use Rattle.acc_parse_meaning.proofs.designs.types.Goals as goal

pub loop-i-preserved : goal.loop-i-preserved
loop-i-preserved c =
    let tables = c.args.tables.now.trees.now in
    let trees = c.args.types.now.trees.now in
    record {
      value = made_next (type_of tables) trees c.loop-i.i c.tree-item.result c.loop-i.made _ c.loop-i.invariant.value
          (c.in_ok-push.ensures.ok ∙ ap (λ x. c.loop-i.made ++ x ∷ []) c.in_ok-type_of.ensures.value) c.loop-i-test.true c.tree-item.is;
      walk = walked_next (type_sizes tables) trees c.loop-i.i c.tree-item.result _ _ _ c.loop-i.invariant.walk c.in_ok-type_of.ensures.walk
          c.loop-i-test.true c.tree-item.is;
    }
