use Rattle.std.proofs.Common.{◌+◌, ◌++◌, [], ◌∷◌, ap, sym, ◌∙◌, append_assoc}
use Rattle.acc_oblig.proofs.Counting.{numbers_more}
use Rattle.acc_oblig_named.proofs.naming.add_numbers_from.Goals as goal
use Rattle.acc_base.specs.Items.{numbers_from}

pub loop-i-preserved : goal.loop-i-preserved
loop-i-preserved c =
    c.in_ok-push.ensures.ok ∙ (ap (λ z. z ++ (c.args.own + c.loop-i.i) ∷ []) c.loop-i.invariant
    ∙ (append_assoc c.args.out.now (numbers_from c.args.own c.loop-i.i) ((c.args.own + c.loop-i.i) ∷ [])
    ∙ ap (λ z. c.args.out.now ++ z) (sym (numbers_more c.args.own c.loop-i.i))))
