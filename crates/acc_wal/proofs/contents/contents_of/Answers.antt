use Rattle.std.proofs.Common.{◌≡◌, ◌+◌, List, ℕ, [], length, None, true, inr, arith, sym, subst}
use Rattle.std.proofs.lemmas.List.{take_rest}
use Rattle.acc_base.specs.declared.machines.Event.{Event}
use Rattle.acc_wal.specs.declared.items.Seal.{Seal}
use Rattle.acc_wal.specs.Bodies.{ReadsBatch, SpellsBatch}
use Rattle.acc_wal.specs.Attaching.{ReadsTo, GateIs}
use Rattle.acc_wal.proofs.Headers.{read_first, read_on, goes_up, read_end, read_broken}
use Rattle.acc_wal.proofs.contents.contents_of.Goals as goal

pub loop-alloc-init : goal.loop-alloc-init
loop-alloc-init c =
    let base = c.in-Ok.found.1.items in
    let version = c.in-Ok.found.0 in
    let first = read_first c.args.bytes.now base version c.in-Ok.ensures.ok in
    let long : length base ≡ c.len-place.result = omega (arith, c.len-place.ensures) in
    let at_place = subst (λ n. ReadsTo c.args.bytes.now base version [] [] (6 + n)) long first in
    subst (λ (ss : List Seal). ReadsTo c.args.bytes.now base version c.new-events.result.items ss (6 + c.len-place.result))
    (sym c.new-seals.ensures.items)
    (subst (λ (es : List Event). ReadsTo c.args.bytes.now base version es [] (6 + c.len-place.result)) (sym c.new-events.ensures.items)
    at_place)

pub loop-alloc-smaller : goal.loop-alloc-smaller
loop-alloc-smaller c =
    let read = rw c.in-Ok-Some.field-0-is at c.in-Ok-Some.ensures in
    let spelled = subst (λ (l : List ℕ). SpellsBatch l c.in-Ok.found.0 c.in-Ok-Some.long c.loop-alloc.events.items
    c.batch_from.new.events.items c.loop-alloc.seals.items c.batch_from.new.seals.items)
    (take_rest c.args.bytes.now c.loop-alloc.place) read in
    let up = goes_up c.args.bytes.now c.in-Ok.found.1.items c.in-Ok.found.0 c.loop-alloc.events.items c.loop-alloc.seals.items c.loop-alloc.place c.loop-alloc.invariant
    c.in-Ok-Some.long c.batch_from.new.events.items c.batch_from.new.seals.items spelled in
    omega (arith, up.0, up.1)

pub loop-alloc-preserved : goal.loop-alloc-preserved
loop-alloc-preserved c =
    let read = rw c.in-Ok-Some.field-0-is at c.in-Ok-Some.ensures in
    let spelled = subst (λ (l : List ℕ). SpellsBatch l c.in-Ok.found.0 c.in-Ok-Some.long c.loop-alloc.events.items
    c.batch_from.new.events.items c.loop-alloc.seals.items c.batch_from.new.seals.items)
    (take_rest c.args.bytes.now c.loop-alloc.place) read in
    read_on c.args.bytes.now c.in-Ok.found.1.items c.in-Ok.found.0 c.loop-alloc.events.items c.loop-alloc.seals.items c.loop-alloc.place c.loop-alloc.invariant c.in-Ok-Some.long
    c.batch_from.new.events.items c.batch_from.new.seals.items spelled

pub returns-in-Ok-None-clause-why : goal.returns-in-Ok-None-clause-why
returns-in-Ok-None-clause-why c =
    let read = rw c.in-Ok-None.field-0-is at c.in-Ok-None.ensures in
    let none = subst (λ (l : List ℕ). ReadsBatch None l c.in-Ok.found.0 c.loop-alloc.events.items c.batch_from.new.events.items
    c.loop-alloc.seals.items c.batch_from.new.seals.items)
    (take_rest c.args.bytes.now c.loop-alloc.place) read in
    let counts : GateIs true c.args.bytes.now c.loop-alloc.place =
    subst (λ b. GateIs b c.args.bytes.now c.loop-alloc.place) c.loop-alloc-test.true c.gate_counts.ensures in
    inr (read_broken c.args.bytes.now c.in-Ok.found.1.items c.in-Ok.found.0 c.loop-alloc.events.items c.loop-alloc.seals.items c.loop-alloc.place c.loop-alloc.invariant counts none)

pub returns-clause-ok : goal.returns-clause-ok
returns-clause-ok c =
    read_end c.args.bytes.now c.in-Ok.found.1.items c.in-Ok.found.0 c.loop-alloc.events.items c.loop-alloc.seals.items c.loop-alloc.place c.loop-alloc.invariant
    c.loop-alloc-test.ensures
