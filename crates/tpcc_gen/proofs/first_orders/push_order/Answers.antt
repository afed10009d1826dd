use Rattle.std.proofs.Common.{ℕ, ◌+◌, ◌-◌, List, [], ◌∷◌, codes, subst, ap, ◌∙◌}
use Rattle.acc_page.specs.Written.{Adds}
use Rattle.rand_pcg.specs.Lcg.{Lcg}
use Rattle.tpcc_gen.specs.Draws.{random}
use Rattle.tpcc_gen.specs.Loads.{is_delivered, carrier, order_line, order_tape}
use Rattle.tpcc_gen.specs.Writing.{taped_line}
use Rattle.tpcc_gen.proofs.Lines.{adds_taped, order_drawn}
use Rattle.tpcc_gen.proofs.first_orders.push_order.Goals as goal

pub returns : goal.returns
unfolding order_line
returns c =
    let w = c.args.w in
    let d = c.args.d in
    let customer = c.args.scale.customers + 1 - c.args.o in
    let old = c.args.out.now in
    let new = c.push.new.self in
    let drawn = c.random-count.result ∷ 1 ∷ c.draw_carrier-carrier.result ∷ c.dated-flag.result ∷ [] in
    let written = order_tape c.args.scale.items w c.is_delivered-delivered.result c.random-count.result c.draw_carrier-carrier.new.words in
    let done = adds_taped old c.push_head.new.out c.push_parts.new.out new (codes "ldorder") (w ∷ d ∷ customer ∷ drawn) written.0
    c.push_head.ensures c.push_parts.ensures.0 c.push.ensures in
    let delivered = is_delivered c.args.scale.customers c.args.o in
    let count = random 5 15 c.args.words.now in
    let tape = order_tape c.args.scale.items w delivered count.0 (carrier delivered count.1).1 in
    let equal = order_drawn c.args.scale.items w c.is_delivered-delivered.result delivered c.args.words.now c.random-count.new.self
    c.draw_carrier-carrier.new.words c.random-count.result c.draw_carrier-carrier.result c.dated-flag.result
    c.is_delivered-delivered.ensures c.random-count.ensures.value c.random-count.ensures.moved c.draw_carrier-carrier.ensures.value
    c.draw_carrier-carrier.ensures.moved c.dated-flag.ensures in
    let params = equal.0 in
    let same = equal.1 in (
      subst (λ (z : List ℕ). Adds old new (taped_line (codes "ldorder") (w ∷ d ∷ customer ∷ z) tape.0)) params
          (subst (λ (z : List ℕ × Lcg). Adds old new (taped_line (codes "ldorder") (w ∷ d ∷ customer ∷ drawn) z.0)) same done),
      c.push_parts.ensures.1 ∙ ap (λ (z : List ℕ × Lcg). z.1) same,
    )
