use Rattle.std.proofs.Common.{◌≡◌, ◌<◌, List, length, sym, subst, arith, rules}
use Rattle.acc_wal.specs.declared.items.Item.{Item}
use Rattle.acc_stream.proofs.BodyReads.{ReadsTo, reads_none, reads_more, reads_all, reads_no_more, empty_body}
use Rattle.acc_stream.proofs.bodies.body_of.Goals as goal

pub returns-then-is_empty : goal.returns-then-is_empty
returns-then-is_empty c = λ others o.
    let none : length c.args.body.now ≡ 0 = search rules in
    empty_body c.args.version c.args.body.now others none o

pub loop-at-init : goal.loop-at-init
loop-at-init c =
    subst (λ (l : List Item). ReadsTo c.args.version c.args.body.now 0 l) (sym c.new-items.ensures)
    (reads_none c.args.version c.args.body.now)

pub loop-at-smaller : goal.loop-at-smaller
loop-at-smaller c =
    let found = rw c.in-Ok-Some.field-0-is at c.in-Ok-Some.ensures.ok in
    let more = reads_more c.args.version c.args.body.now c.loop-at.at c.loop-at.items c.loop-at.invariant c.in-Ok-Some.item
    c.in-Ok-Some.next found in
    omega (arith, more.0.within, more.1, c.loop-at-test.true)

pub loop-at-preserved : goal.loop-at-preserved
loop-at-preserved c =
    let found = rw c.in-Ok-Some.field-0-is at c.in-Ok-Some.ensures.ok in
    let more = reads_more c.args.version c.args.body.now c.loop-at.at c.loop-at.items c.loop-at.invariant c.in-Ok-Some.item
    c.in-Ok-Some.next found in
    subst (λ (l : List Item). ReadsTo c.args.version c.args.body.now c.in-Ok-Some.next l)
    (sym c.in_ok-push-in-Ok-Some.ensures.ok) more.0

pub returns-in-Ok-None : goal.returns-in-Ok-None
returns-in-Ok-None c =
    let never = rw c.in-Ok-None.field-0-is at c.in-Ok-None.ensures.ok in
    reads_no_more c.args.version c.args.body.now c.loop-at.at c.loop-at.items c.loop-at.invariant
    (λ i. omega (arith, c.type_inv.body i)) c.loop-at-test.true never

pub returns : goal.returns
returns c =
    let some : 0 < length c.args.body.now = search rules in
    reads_all c.args.version c.args.body.now c.loop-at.at c.loop-at.items c.loop-at.invariant c.loop-at-test.false some
