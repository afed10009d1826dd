use Rattle.std.proofs.Common.{ℕ, List, refl}
use Rattle.std.specs.Result.{is_ok}
use Rattle.acc_disk.specs.declared.history.Recorded.{Recorded}
use Rattle.acc_disk.specs.declared.history.FileChange.TheVariants.{Synced}
use Rattle.acc_disk.proofs.Replays.{stands_after, kept_by_sync, in_order_by_sync}
use Rattle.acc_disk.proofs.history.History.sync.Goals as goal

pub invariant_of-self : goal.invariant_of-self
invariant_of-self c =
    let old = c.args.self.now in record {
      short = old.short;
      kept = kept_by_sync old.start.items old.bytes.items old.past.items c.push.new.self.items c.args.number (is_ok c.push.result)
          c.push.ensures.items old.kept;
      in_order = in_order_by_sync old.start.items old.bytes.items old.past.items c.push.new.self.items c.args.number (is_ok c.push.result)
          c.push.ensures.items old.in_order;
    }

pub returns-clause-ok : goal.returns-clause-ok
returns-clause-ok c =
    let old = c.args.self.now in
    let last : Recorded = record { number = c.args.number; change = Synced } in
    record {
      start = refl {A = List ℕ};
      last = last;
      number_is = refl {A = ℕ};
      past = c.in_ok-push.ensures.items;
      steps = stands_after old.start.items old.past.items c.push.new.self.items last c.in_ok-push.ensures.items;
    }
