use Rattle.std.proofs.Common.{◌∙◌, take, subst}
use Rattle.std.proofs.lemmas.List.Elements.{All-more, All-weaker}
use Rattle.acc_lock_holders.specs.Entries.{HasRoom}
use Rattle.acc_lock_holders.proofs.maps.make_room_each.Goals as goal

pub loop-key-preserved : goal.loop-key-preserved
loop-key-preserved c =
    let keys = c.args.keys.now in
    let i = c.loop-key.key-index in
    let key = c.key-item.result in
    let before = c.loop-key.holders.entries in
    let es = c.make_room.new.holders.entries in
    let e = c.in_ok-make_room.ensures in
    record {
      same = λ k. e.same k ∙ c.loop-key.invariant.same k;
      room = All-more (HasRoom es) keys i key c.loop-key-test.true
          (All-weaker (HasRoom before) (HasRoom es) (λ k h. e.kept k h) (take i keys) c.loop-key.invariant.room)
          (subst (HasRoom es) c.key-item.is e.room);
      kept = λ k h. e.kept k (c.loop-key.invariant.kept k h);
    }
