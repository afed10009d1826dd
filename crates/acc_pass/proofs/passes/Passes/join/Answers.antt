use Rattle.std.proofs.Common.{◌≡◌, sym, ap, ◌∙◌, subst, refl, arith}
use Rattle.acc_pass.specs.declared.views.View.{View}
use Rattle.acc_pass.specs.Rules.{calm, joined}
use Rattle.acc_pass.proofs.Moves.{joins, notes, knows_joined}
use Rattle.atomic_table.specs.Table.{Me}
use Rattle.acc_pass.proofs.passes.Passes.join.Goals as goal

pub join_seat-requires : goal.join_seat-requires
join_seat-requires g c =
    let one = c.args.self.now.one_word in
    let i = c.first.invariant in
    let j = c.second.invariant in (
      i.0 ∙ sym c.args.self.now.named,
      j.0 ∙ sym c.args.self.now.named,
      j.1,
      omega arith,
      joins c.args.self.now.table.shared.key _ c.first.inside.seat.me.0 _ c.second.inside.seat.me.0,
    )

pub load-requires : goal.load-requires
load-requires g c =
    let one = c.args.self.now.one_word in
    let i = c.first.invariant in
    let e = c.join_seat.ensures in (
      e.0 ∙ (i.0 ∙ sym c.args.self.now.named),
      omega arith,
      notes c.args.self.now.table.shared.key _ _ c.join_seat.new.seat.me,
    )

pub invariant_of-result : goal.invariant_of-result
invariant_of-result g c =
    let e = c.join_seat.ensures in
    let l = c.load.ensures in
    let i = c.first.invariant in
    let j = c.second.invariant in
    let first = c.first.inside.seat.me.0.now in
    let second = c.second.inside.seat.me.0.now in
    let seat = c.join_seat.new.seat.me.0 in
    let both : seat ≡ joined (calm first) (calm second) = ap (λ (m : Me (Unit {0}) View). m.0) e.2 in (
      l.0 ∙ (e.0 ∙ i.0),
      l.2.0 ∙ (ap (λ (m : Me (Unit {0}) View). m.1) e.2 ∙ i.1),
      subst (λ (x : View). x ≡ calm x.now) (sym l.2.1.0) refl,
      knows_joined g.B.Room.start first second seat c.load.result i.3 j.3 both c.load.new.seat.me.0 l.2.1,
    )
