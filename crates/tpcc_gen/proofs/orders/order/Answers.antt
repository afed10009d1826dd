use Rattle.std.proofs.Common.{◌≡◌, ℕ, List, ◌++◌, ap, sym, subst, ◌∙◌}
use Rattle.std.specs.Prelude.{All}
use Rattle.acc_script.specs.OrderLines.{IsPlace}
use Rattle.tpcc_gen.specs.Orders.{mentions}
use Rattle.tpcc_gen.proofs.Mentions.{mentions_places}
use Rattle.tpcc_gen.proofs.orders.order.Goals as goal

pub returns-clause-places : goal.returns-clause-places
returns-clause-places c =
    let whole : c.add_mentions.new.out ≡ (mentions c.args.count c.pass_mix.new.words).0 =
    c.in_ok-add_mentions.ensures ∙ ap (λ (z : List ℕ). z ++ (mentions c.args.count c.pass_mix.new.words).0) c.new-numbers.ensures in
    subst (λ (z : List ℕ). All (IsPlace c.args.count) z) (sym whole) (mentions_places c.args.count c.pass_mix.new.words)
