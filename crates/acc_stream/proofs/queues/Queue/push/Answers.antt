use Rattle.std.proofs.Common.{◌≡◌, ◌++◌, [], ◌∷◌, List, length, ap, arith, rules}
use Rattle.acc_wal.specs.Items.{events_of}
use Rattle.acc_wal.specs.declared.items.Item.{Item}
use Rattle.acc_stream.proofs.EventCounts.{events_few, events_both}
use Rattle.acc_stream.proofs.queues.Queue.push.Goals as goal

pub overflow_add-self : goal.overflow_add-self
overflow_add-self c =
    let now = c.push_back.new.self in
    let items : now.items ≡ c.self.inside.items.items ++ c.args.item ∷ [] = search rules in
    omega (
      arith,
      now.ok.0,
      now.small,
      events_few now.items,
      ap (λ (l : List Item). length (events_of l)) items,
      events_both c.self.inside.items.items (c.args.item ∷ []),
      c.events_in-more.ensures,
      c.self.invariant,
    )

pub invariant_of-self-2 : goal.invariant_of-self-2
invariant_of-self-2 c =
    let now = c.push_back.new.self in
    let items : now.items ≡ c.self.inside.items.items ++ c.args.item ∷ [] = search rules in
    omega (
      arith,
      ap (λ (l : List Item). length (events_of l)) items,
      events_both c.self.inside.items.items (c.args.item ∷ []),
      c.events_in-more.ensures,
      c.self.invariant,
    )
