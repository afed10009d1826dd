use Rattle.std.proofs.Common.{◌≡◌, ℕ, ◌+◌, ◌-◌, ◌*◌, List, ◌++◌, ap, sym, subst, arith}
use Rattle.tpcc_gen.specs.Draws.{each}
use Rattle.tpcc_gen.specs.Orders.{mention, mentions}
use Rattle.tpcc_gen.proofs.Mentions.{mentions_on, mentions_past}
use Rattle.tpcc_gen.proofs.orders.add_mentions.Goals as goal

pub loop-j-init : goal.loop-j-init
unfolding mentions
loop-j-init c =
    let all : 32 * c.args.count - 0 ≡ 32 * c.args.count = omega arith in
    ap (λ (z : ℕ). c.args.out.now ++ (each (mention c.args.count) z 0 c.args.words.now).0) all

pub loop-j-preserved : goal.loop-j-preserved
loop-j-preserved c =
    let count = c.args.count in
    subst (λ (z : List ℕ).
    z ++ (each (mention count) (32 * count - (c.loop-j.j + 1)) (c.loop-j.j + 1) c.draw_mention-place.new.words).0
    ≡ c.args.out.now ++ (mentions count c.args.words.now).0)
    (sym c.in_ok-push.ensures.ok)
    (mentions_on c.loop-j.out c.loop-j.words c.draw_mention-place.new.words (mention count) c.draw_mention-place.result (32 * count)
    c.loop-j.j _ (omega arith) c.loop-j.invariant c.draw_mention-place.ensures.value c.draw_mention-place.ensures.moved)

pub returns : goal.returns
returns c = mentions_past c.loop-j.out c.loop-j.words (mention c.args.count) (32 * c.args.count) c.loop-j.j _ (omega arith) c.loop-j.invariant
