use Rattle.std.proofs.Common.{◌≡◌, sym, ◌∙◌, subst, refl, arith}
use Rattle.acc_pass.specs.declared.views.View.{View}
use Rattle.acc_pass.specs.Rules.{calm, Knows}
use Rattle.acc_pass.proofs.Moves.{notes, knows_as}
use Rattle.acc_pass.proofs.passes.Passes.note.Goals as goal

pub load-requires : goal.load-requires
load-requires g c =
    let one = c.args.self.now.one_word in
    let i = c.pass.invariant in (
      i.0 ∙ sym c.args.self.now.named,
      omega arith,
      notes c.args.self.now.table.shared.key _ _ c.pass.inside.seat.me,
    )

pub invariant_of-result : goal.invariant_of-result
invariant_of-result g c =
    let e = c.load.ensures in
    let i = c.pass.invariant in (
      e.0 ∙ i.0,
      e.2.0 ∙ i.1,
      subst (λ (x : View). x ≡ calm x.now) (sym e.2.1.0) refl,
      subst (λ (x : View). Knows g.B.Room.start x.now) (sym e.2.1.0) (knows_as g.B.Room.start c.pass.inside.seat.me.0.now _ _ i.3),
    )
