use Rattle.std.proofs.Common.{◌≡◌, sym, ap, ◌∙◌, subst, refl, [], ◌∷◌, ◌++◌, length, Bool}
use Rattle.acc_pass.specs.declared.views.Known.{Known}
use Rattle.acc_pass.specs.declared.views.View.{View}
use Rattle.acc_pass.specs.Histories.{MayAppend}
use Rattle.acc_pass.specs.Rules.{known, calm, Knows}
use Rattle.acc_pass.proofs.Moves.{knows_append}
use Rattle.acc_pass.proofs.passes.Passes.append.Goals as goal

pub append_as-requires-clause-may : goal.append_as-requires-clause-may
append_as-requires-clause-may g c = subst (λ (k : Known). MayAppend k.seen k.mine c.args.event.now) (sym c.pass.view_is) c.requires.may

pub invariant_of-result : goal.invariant_of-result
invariant_of-result g c =
    let e = c.append_as.ensures in
    let i = c.pass.invariant in
    let was = c.pass.inside.seat.me.0.now in
    let may = subst (λ (k : Known). MayAppend k.seen k.mine c.args.event.now) (sym c.pass.view_is) c.requires.may in (
      e.table ∙ i.0,
      e.tokens ∙ i.1,
      subst (λ (x : View). x ≡ calm x.now) (sym e.view) refl,
      subst (λ (x : View). Knows g.B.Room.start x.now) (sym e.view)
          (knows_append g.B.Room.start c.args.event.now was i.3 may),
    )

pub returns : goal.returns
returns g c =
    let e = c.args.event.now in
    let old = c.args.pass in
    ap (λ (x : View). x.now) c.append_as.ensures.view
    ∙ ap (λ (k : Known). known k.keeps k.broken (k.seen ++ e ∷ []) (k.mine ++ (length k.seen, e) ∷ [])) c.pass.view_is
    ∙ ap (λ (b : Bool). known b old.broken (old.seen ++ e ∷ []) (old.mine ++ (length old.seen, e) ∷ [])) c.requires.mark
