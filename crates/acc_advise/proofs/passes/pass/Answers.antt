use Rattle.std.proofs.Common.{rules, length}
use Rattle.std.proofs.lemmas.Iterator.Adapters.{YieldsList-from_vec}
use Rattle.std.proofs.lemmas.Iterator.Consumers.{YieldsList-turn}
use Rattle.acc_oblig_places.specs.Rooms.{HasFewLocals}
use Rattle.acc_advise.specs.declared.passes.Tried.{Tried}
use Rattle.acc_advise.specs.Steps.{IsKnown, tried_pairs}
use Rattle.acc_advise.proofs.Growing.{few_tried, item_has, known_within, stepped_small, tries_on}
use Rattle.acc_advise.proofs.passes.pass.Goals as goal

pub try_again-requires-clause-one : goal.try_again-requires-clause-one
try_again-requires-clause-one g c =
    let outside = c.args.outside in
    let turn = YieldsList-turn (YieldsList-from_vec outside (search rules) (search rules)) c.loop-known.yielded c.loop-known.known-iterator
    c.loop-known.yielded_by c.next.result c.next.new.self c.in-Some.known c.in-Some.is c.next.ensures.steps in
    item_has (λ (t : Tried). HasFewLocals t.beyond.pair) outside (length c.loop-known.yielded) c.in-Some.known turn
    (few_tried outside c.requires.others)

pub try_again-requires-clause-known : goal.try_again-requires-clause-known
try_again-requires-clause-known g c =
    let case = c.args.case.now in
    let first = c.args.grown.now in
    let outside = c.args.outside in
    let turn = YieldsList-turn (YieldsList-from_vec outside (search rules) (search rules)) c.loop-known.yielded c.loop-known.known-iterator
    c.loop-known.yielded_by c.next.result c.next.new.self c.in-Some.known c.in-Some.is c.next.ensures.steps in
    known_within case first (tried_pairs c.loop-known.yielded) c.loop-known.grown c.loop-known.left c.in-Some.known
    c.loop-known.invariant.passed
    (item_has (IsKnown case first.pairs) outside (length c.loop-known.yielded) c.in-Some.known turn c.requires.known)

pub loop-known-preserved : goal.loop-known-preserved
loop-known-preserved g c =
    let case = c.args.case.now in
    let outside = c.args.outside in
    let now = c.loop-known.grown in
    let new = c.try_again.new.grown in
    let known = c.in-Some.known in
    let before = c.loop-known.invariant in
    let step = c.in_ok-try_again.ensures in
    let turn = YieldsList-turn (YieldsList-from_vec outside (search rules) (search rules)) c.loop-known.yielded c.loop-known.known-iterator
    c.loop-known.yielded_by c.next.result c.next.new.self known c.in-Some.is c.next.ensures.steps in
    let few = item_has (λ (t : Tried). HasFewLocals t.beyond.pair) outside (length c.loop-known.yielded) known turn
    (few_tried outside c.requires.others) in
    record {
      can = tt;
      finite = tt;
      few = stepped_small case now new c.loop-known.left c.try_again.new.left known.beyond.pair step before.few few;
      passed = tries_on case c.args.grown.now c.loop-known.yielded known now new c.loop-known.left c.try_again.new.left step before.passed;
    }
