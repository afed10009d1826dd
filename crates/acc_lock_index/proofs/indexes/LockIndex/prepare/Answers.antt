use Rattle.std.proofs.Common.{◌≡◌, ◌∙◌, ap, sym, subst, None}
use Rattle.acc_lock_holders.specs.Entries.{HaveRoom}
use Rattle.acc_lock_index.specs.Indexed.{Indexed, HasNumber}
use Rattle.acc_lock_index.proofs.Keepers.{same_under, kept_none, kept_some}
use Rattle.acc_lock_index.proofs.indexes.LockIndex.prepare.Goals as goal

pub invariant_of-self : goal.invariant_of-self
invariant_of-self c =
    let ss = c.self.inside.standings.items in
    let es = c.self.inside.holders.entries in
    let fs = c.make_room_for.new.holders.entries in
    let none : c.self.inside.prepared ≡ None = ap (λ (v : Indexed). v.prepared) c.self.view_is ∙ c.forget_prepared.ensures.none in
    kept_none fs ss c.self.inside.prepared none (same_under ss es fs c.self.invariant.under_keys c.make_room_for.ensures.same)
    c.self.invariant.apart

pub invariant_of-self-2 : goal.invariant_of-self-2
invariant_of-self-2 c =
    let ss = c.self.inside.standings.items in
    let es = c.self.inside.holders.entries in
    let fs = c.make_room_for.new.holders.entries in
    let standings : ss ≡ c.args.self.now.standings = ap (λ (v : Indexed). v.standings) c.self.view_is ∙ c.forget_prepared.ensures.same in
    kept_some fs ss _ (same_under ss es fs c.self.invariant.under_keys c.make_room_for.ensures.same) c.self.invariant.apart
    (subst (HaveRoom fs) c.as_slice.ensures.value c.in_ok-make_room_for.ensures.room)
    (subst (λ l. HasNumber l c.args.t) (sym standings) c.requires.there)
