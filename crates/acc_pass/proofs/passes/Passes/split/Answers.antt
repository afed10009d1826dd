use Rattle.std.proofs.Common.{◌≡◌, sym, ap, ◌∙◌, subst, refl, arith, false}
use Rattle.acc_pass.specs.declared.views.View.{View}
use Rattle.acc_pass.specs.Rules.{calm, Knows}
use Rattle.acc_pass.proofs.Moves.{splits, knows_as}
use Rattle.atomic_table.specs.Table.{Me}
use Rattle.acc_pass.proofs.passes.Passes.split.Goals as goal

pub split_seat-other-requires : goal.split_seat-other-requires
split_seat-other-requires g c =
    let one = c.args.self.now.one_word in
    let i = c.pass.invariant in (
      i.0 ∙ sym c.args.self.now.named,
      omega arith,
      splits c.args.self.now.table.shared.key _ c.pass.inside.seat.me.0,
    )

pub invariant_of-result : goal.invariant_of-result
invariant_of-result g c =
    let e = c.split_seat-other.ensures in
    let i = c.pass.invariant in (
      e.0 ∙ i.0,
      ap (λ (m : Me (Unit {0}) View). m.1) e.2 ∙ i.1,
      subst (λ (m : Me (Unit {0}) View). m.0 ≡ calm m.0.now) (sym e.2) refl,
      subst (λ (m : Me (Unit {0}) View). Knows g.B.Room.start m.0.now) (sym e.2)
          (knows_as g.B.Room.start c.pass.inside.seat.me.0.now false _ i.3),
    )
