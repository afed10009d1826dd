use Rattle.std.proofs.Common.{rules, arith, ap, sym, ◌∙◌, ◌≤◌, ◌++◌, List, length, reverse, vec_len, ◌≡◌, ◌==◌}
use Rattle.std.proofs.lemmas.List.{drop_all}
use Rattle.acc_base.specs.declared.forms.Rel.{Rel}
use Rattle.acc_proof.specs.Proofs.{node_of, walked}
use Rattle.acc_proof.specs.Opened.{opened}
use Rattle.acc_proof.proofs.Openings.{nested_after, walked_on, ended}
use Rattle.acc_proof.proofs.checks.walk.Goals as goal

pub loop-node-preserved : goal.loop-node-preserved
loop-node-preserved c =
    let d = c.args.design.now in
    let q = c.args.sequent.now in
    let nodes = c.args.nodes.now in
    let i = c.loop-node.node-index in
    let node = c.node-item.result in
    let more = c.loop-node.more.items in
    let new = c.node_of.new.more.items in
    let same = c.in-Ok-Some.ensures.same in
    let given = rw c.in-Ok-Some.field-0-is at c.in-Ok-Some.ensures.value in
    let value = ap (λ (l : List Rel). node_of d q (q.rels ++ l) node) same ∙ given in
    let resumed = same ∙ c.in_ok-resume.ensures in
    let long : vec_len c.node_of.new.more ≡ length new = search rules in
    let after = c.open_all.new.stack.items in
    let nested =
    nested_after d q nodes i node c.loop-node-test.true c.node-item.is more c.loop-node.open.items c.pop.new.self.items
    c.in-Some.branch c.in-Some.ensures.items c.loop-node.invariant.nested new resumed c.in-Ok-Some.branches value after
    c.len.result (c.len.ensures ∙ long) c.in_ok-open_all-in-Ok-Some.ensures in
    let step =
    walked_on d q nodes i node c.loop-node-test.true c.node-item.is more c.loop-node.open.items c.pop.new.self.items
    c.in-Some.branch c.in-Some.ensures.items c.loop-node.invariant.nested new resumed c.in-Ok-Some.branches value after
    c.len.result (c.len.ensures ∙ long) c.in_ok-open_all-in-Ok-Some.ensures in
    record {
      number = omega arith;
      nested = nested;
      same = step ∙ c.loop-node.invariant.same;
    }

pub returns-clause-value : goal.returns-clause-value
returns-clause-value c =
    let past : length c.args.nodes.now ≤ c.loop-node.node-index = omega arith in
    let long : vec_len c.loop-node.open ≡ length c.loop-node.open.items = search rules in
    sym c.loop-node.invariant.same ∙ (ap (λ ns. walked c.args.design.now c.args.sequent.now c.loop-node.node-index ns
    (opened c.args.sequent.now.rels c.loop-node.more.items (reverse c.loop-node.open.items)))
    (drop_all c.loop-node.node-index c.args.nodes.now past)
    ∙ ended c.args.design.now c.args.sequent.now c.loop-node.node-index c.loop-node.more.items c.loop-node.open.items c.is_empty.result
    (c.is_empty.ensures ∙ ap (λ n. n == 0) long))
