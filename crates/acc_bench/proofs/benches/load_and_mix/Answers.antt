use Rattle.std.proofs.Common.{subst}
use Rattle.acc_base.specs.declared.designs.Design.{Design}
use Rattle.acc_player.specs.Boards.{play_of}
use Rattle.acc_bench.specs.Runs.{IsMix}
use Rattle.acc_bench.proofs.Benching.{comes_to}
use Rattle.acc_bench.proofs.benches.load_and_mix.Goals as goal

pub returns-clause-comes : goal.returns-clause-comes
returns-clause-comes g c =
    let loaded = c.in_ok-played.played in
    let mixed = subst (λ (x : Design). IsMix x c.args.mix.now c.args.order.now (play_of loaded.player.world loaded.board)
    c.in_ok-player.field-0) c.design.ensures.design c.in_ok-player.ensures in
    comes_to c.args.accepted.now c.args.load.now c.args.mix.now c.args.order.now loaded c.in_ok-player.field-0
    c.tell_load-loaded.result c.close.result c.in_ok-played.ensures c.tell_load-loaded.ensures mixed c.close.ensures
