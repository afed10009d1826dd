use Rattle.acc_lock_holders.proofs.Finding.{same_gone, blank_under, no_blank_there, no_blank_more, true_not_false}
use Rattle.acc_lock_holders.proofs.maps.forget.Goals as goal

pub returns-then-is_blank-clause-same : goal.returns-then-is_blank-clause-same
returns-then-is_blank-clause-same c =
    let old = c.args.holders.now.entries in
    let key = c.args.key.now in
    same_gone old c.swap_remove.new.self.entries key (blank_under old key (c.is_blank.ensures.0 c.if-is_blank.true))
    c.swap_remove.ensures.updates.0

pub returns-then-is_blank-clause-gone : goal.returns-then-is_blank-clause-gone
returns-then-is_blank-clause-gone c =
    no_blank_there c.args.holders.now.entries c.swap_remove.new.self.entries c.args.key.now c.swap_remove.ensures.updates.0

pub returns-then-is_blank-clause-others : goal.returns-then-is_blank-clause-others
returns-then-is_blank-clause-others c =
    no_blank_more c.args.holders.now.entries c.swap_remove.new.self.entries c.args.key.now c.swap_remove.ensures.updates.0

pub returns-else-is_blank-clause-gone : goal.returns-else-is_blank-clause-gone
returns-else-is_blank-clause-gone c = λ b. true_not_false c.is_blank.result (c.is_blank.ensures.1 b) c.if-is_blank.false
