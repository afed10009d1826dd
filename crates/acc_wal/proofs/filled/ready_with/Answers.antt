use Rattle.std.proofs.Common.{◌≡◌, ◌+◌, ◌∙◌, length, ap, arith, rules}
use Rattle.std.proofs.lemmas.Grind.{common_steps}
use Rattle.acc_wal.proofs.Begun.{ready}
use Rattle.acc_wal.proofs.filled.ready_with.Goals as goal

pub returns-clause-is : goal.returns-clause-is
returns-clause-is c =
    let copied : c.in_ok-to_vec.field-0.items ≡ c.args.base.now = first_of (search rules, grind (arith, common_steps)) in
    ready c.args.base.now c.in_ok-to_vec.field-0.items c.deref.result.now c.in_ok-staged.staged.items c.in_ok-rest.rest.items
    c.in_ok-staged.events.items c.in_ok-staged.seals.items (6 + length c.args.base.now + c.len.result) copied
    (omega (arith, c.requires.some, ap length c.in_ok-staged.ensures.events, ap length c.in_ok-staged.ensures.seals))
    c.in_ok-staged.ensures.record (c.deref.ensures.value ∙ c.close.ensures.items) c.in_ok-rest.ensures
    (omega (arith, c.len.ensures, ap length c.deref.ensures.value))
