use Rattle.acc_lock_index.proofs.Keepers.{same_under, kept_none}
use Rattle.acc_lock_index.proofs.indexes.LockIndex.forget_prepared.Goals as goal

pub invariant_of-self : goal.invariant_of-self
invariant_of-self c =
    let ss = c.self.inside.standings.items in
    let es = c.self.inside.holders.entries in
    let fs = c.forget_all.new.holders.entries in
    kept_none fs ss c.take.new.self c.take.ensures.after (same_under ss es fs c.self.invariant.under_keys c.forget_all.ensures.same)
    c.self.invariant.apart
