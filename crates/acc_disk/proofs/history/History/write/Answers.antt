use Rattle.std.proofs.Common.{◌≤◌, length, sym, ap, ◌∙◌, subst, refl, arith}
use Rattle.acc_disk.specs.Crashes.{overwritten}
use Rattle.acc_disk.specs.Standings.{settled, IsInOrder, after_write}
use Rattle.acc_disk.specs.Changes.{after_all}
use Rattle.acc_disk.specs.declared.history.Recorded.{Recorded}
use Rattle.acc_disk.specs.declared.history.FileChange.TheVariants.{Wrote}
use Rattle.acc_disk.proofs.Orders.{write_in_order}
use Rattle.acc_disk.proofs.Replays.{stands_after}
use Rattle.acc_disk.proofs.history.History.write.Goals as goal

pub invariant_of-self-2 : goal.invariant_of-self-2
invariant_of-self-2 c =
    let old = c.args.self.now in
    let before = after_all old.past.items (settled old.start.items) in
    let last : Recorded = record { number = c.args.number; change = Wrote c.args.at c.in_ok-bytes.bytes } in
    let copy = c.in_ok-bytes.ensures.items_if_clones_equal (λ x y same. same) in
    let stands = stands_after old.start.items old.past.items c.push.new.self.items last c.in_ok-push.ensures.items
    ∙ ap (λ bytes. after_write c.args.at bytes before) copy in
    let fits : c.args.at ≤ length before.bytes = omega (arith, c.requires, ap length old.kept) in
    record {
      short = c.put.ensures.short;
      kept = ap (λ standing. standing.bytes) stands ∙ ap (overwritten c.args.at c.args.piece.now)
          (old.kept ∙ sym c.in_ok-reserve.ensures.items) ∙ sym c.put.ensures.whole;
      in_order = subst IsInOrder (sym stands) (write_in_order before c.args.at c.args.piece.now old.in_order fits);
    }

pub returns-clause-ok : goal.returns-clause-ok
returns-clause-ok c =
    let old = c.args.self.now in
    let last : Recorded = record { number = c.args.number; change = Wrote c.args.at c.in_ok-bytes.bytes } in
    let copy = c.in_ok-bytes.ensures.items_if_clones_equal (λ x y same. same) in
    record {
      start = refl;
      last = last;
      number_is = refl;
      past = c.in_ok-push.ensures.items;
      steps = stands_after old.start.items old.past.items c.push.new.self.items last c.in_ok-push.ensures.items
          ∙ ap (λ bytes. after_write c.args.at bytes (after_all old.past.items (settled old.start.items))) copy;
    }
