use Rattle.std.proofs.lemmas.List.{length-take}
use Rattle.std.proofs.Common.{◌≤◌, length, take, sym, ap, ◌∙◌, subst, refl, arith}
use Rattle.acc_disk.specs.Standings.{settled, IsInOrder}
use Rattle.acc_disk.specs.Changes.{after_all}
use Rattle.acc_disk.specs.declared.history.Recorded.{Recorded}
use Rattle.acc_disk.specs.declared.history.FileChange.TheVariants.{Cut}
use Rattle.acc_disk.proofs.Orders.{cut_in_order}
use Rattle.acc_disk.proofs.Replays.{stands_after}
use Rattle.acc_disk.proofs.history.History.cut.Goals as goal

pub invariant_of-self-2 : goal.invariant_of-self-2
invariant_of-self-2 c =
    let old = c.args.self.now in
    let last : Recorded = record { number = c.args.number; change = Cut c.args.to } in
    let stands = stands_after old.start.items old.past.items c.push.new.self.items last c.in_ok-push.ensures.items in
    let fits : c.args.to ≤ length (after_all old.past.items (settled old.start.items)).bytes =
    omega (arith, c.requires, ap length old.kept) in
    record {
      short = omega (arith, old.short, ap length c.truncate.ensures.items, length-take c.args.to old.bytes.items);
      kept = ap (λ standing. standing.bytes) stands ∙ ap (take c.args.to) old.kept ∙ sym c.truncate.ensures.items;
      in_order = subst IsInOrder (sym stands) (cut_in_order (after_all old.past.items (settled old.start.items)) c.args.to old.in_order
          fits);
    }

pub returns-clause-ok : goal.returns-clause-ok
returns-clause-ok c =
    let old = c.args.self.now in
    let last : Recorded = record { number = c.args.number; change = Cut c.args.to } in
    record {
      start = refl;
      last = last;
      number_is = refl;
      past = c.in_ok-push.ensures.items;
      steps = stands_after old.start.items old.past.items c.push.new.self.items last c.in_ok-push.ensures.items;
    }
