use Rattle.std.proofs.Common.{◌≡◌, sym, ap, ◌∙◌, subst, refl, arith, true}
use Rattle.acc_pass.specs.declared.views.Known.{Known}
use Rattle.acc_pass.specs.declared.views.View.{View}
use Rattle.acc_pass.specs.Rules.{calm, Knows}
use Rattle.acc_pass.proofs.Moves.{breaks, knows_as}
use Rattle.acc_pass.proofs.passes.Passes.mark.Goals as goal

pub fetch_or-requires : goal.fetch_or-requires
fetch_or-requires g c =
    let one = c.args.self.now.one_word in
    let i = c.pass.invariant in (
      i.0 ∙ sym c.args.self.now.named,
      omega arith,
      breaks c.args.self.now.table.shared.key _ _ c.pass.inside.seat.me (ap (λ (k : Known). k.keeps) c.pass.view_is ∙ c.requires),
    )

pub invariant_of-result : goal.invariant_of-result
invariant_of-result g c =
    let e = c.fetch_or.ensures in
    let i = c.pass.invariant in (
      e.0 ∙ i.0,
      e.2.0 ∙ i.1,
      subst (λ (x : View). x ≡ calm x.now) (sym e.2.1) refl,
      subst (λ (x : View). Knows g.B.Room.start x.now) (sym e.2.1) (knows_as g.B.Room.start c.pass.inside.seat.me.0.now _ true i.3),
    )
