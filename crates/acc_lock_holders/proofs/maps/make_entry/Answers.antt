use Rattle.acc_lock_holders.proofs.Finding.{same_made}
use Rattle.acc_lock_holders.proofs.maps.make_entry.Goals as goal

pub returns-clause-same : goal.returns-clause-same
returns-clause-same c =
    same_made c.args.holders.now.entries c.insert.new.self.entries c.args.key c.in_ok-numbers.numbers c.requires.absent
    c.in_ok-numbers.ensures.items c.in_ok-insert.ensures.updates.0
