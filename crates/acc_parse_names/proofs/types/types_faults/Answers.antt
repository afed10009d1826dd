use Rattle.acc_parse_syntax.specs.declared.trees.TypeTree.{TypeTree}
use Rattle.acc_parse_names.specs.Members.{members_of}
use Rattle.std.proofs.Common.{[], ◌∷◌, ◌++◌, ◌∙◌, ap}
use Rattle.acc_parse_names.proofs.Turns.{mapped_at}
use Rattle.acc_parse_names.proofs.TypeParts.{types_turn}
use Rattle.acc_parse_names.proofs.types.types_faults.Goals as goal

pub loop-tree-preserved : goal.loop-tree-preserved
loop-tree-preserved c =
    let trees = c.args.trees.now in
    let i = c.loop-tree.tree-index in
    let t = c.tree-item.result in
    let lt = c.loop-tree-test.true in
    let is = c.tree-item.is in
    let e = c.in_ok-again.ensures in
    let now = c.loop-tree.faults.items in
    record {
      named = mapped_at (λ (z : TypeTree). z.name) trees i t c.loop-tree.names c.add.new.self lt is c.loop-tree.invariant.named e.names;
      lined = mapped_at members_of trees i t c.loop-tree.members.items c.push.new.self.items lt is c.loop-tree.invariant.lined
          (c.in_ok-push.ensures.items ∙ ap (λ z. c.loop-tree.members.items ++ z ∷ []) c.in_ok-type_faults.ensures.members);
      told = types_turn c.args.tables.now.trees.now c.loop-tree.names c.add.new.self trees i t c.in_ok-again.again now
          c.type_faults.new.faults.items _ lt is e.again e.names c.in_ok-type_faults.ensures.faults c.loop-tree.invariant.told;
    }
