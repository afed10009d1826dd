use Rattle.std.proofs.Common.{◌-◌, ◌+◌, ◌++◌, ◌∷◌, [], sym, ◌∙◌, ap, append_assoc}
use Rattle.acc_base.specs.Items.{numbers_from}
use Rattle.acc_elim_systems.proofs.SystemSteps.{numbers_more}
use Rattle.acc_elim_known.proofs.ending.left_with.Goals as goal

pub loop-unknown-preserved : goal.loop-unknown-preserved
loop-unknown-preserved c =
    let i = c.loop-unknown.unknown in
    let n = c.args.unknowns in
    let all = c.loop-unknown.all.items in
    ap (λ us. us ++ numbers_from (i + 1) (n - (i + 1))) c.in_ok-push.ensures.items
    ∙ (append_assoc all (i ∷ []) (numbers_from (i + 1) (n - (i + 1)))
    ∙ (ap (λ us. all ++ us) (sym (numbers_more i n c.loop-unknown-test.true)) ∙ c.loop-unknown.invariant))
