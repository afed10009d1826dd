use Rattle.std.proofs.Common.{ℕ, List, [], ◌∷◌, codes, subst}
use Rattle.acc_page.specs.Written.{Adds}
use Rattle.tpcc_gen.specs.Draws.{each}
use Rattle.tpcc_gen.specs.Mixes.{new_order_line, new_order_part}
use Rattle.tpcc_gen.proofs.Lines.{adds_taped}
use Rattle.tpcc_gen.proofs.new_orders.push_new_order.Goals as goal

pub returns : goal.returns
unfolding new_order_line
returns c =
    let lines = c.draw_lines-lines.result in
    let done = adds_taped c.args.out.now c.push_head.new.out c.push_parts.new.out c.push.new.self (codes "neworder")
    (c.args.w ∷ c.draw_district-d.result ∷ c.draw_customer-c.result ∷ lines.count ∷ c.args.place ∷ [])
    (each (new_order_part c.args.scale.warehouses c.args.scale.items c.args.w lines) lines.count 1 c.draw_lines-lines.new.words).0
    c.push_head.ensures c.push_parts.ensures.0 c.push.ensures in
    (subst (λ (z : List ℕ). Adds c.args.out.now c.push.new.self z) (cc) done, cc)
