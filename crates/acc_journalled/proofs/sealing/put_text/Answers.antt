use Rattle.std.proofs.Common.{List, ap, arith, length, sym, ◌∙◌}
use Rattle.std.specs.Prelude.{map}
use Rattle.acc_base.specs.declared.machines.Call.{Call}
use Rattle.acc_engine.specs.Keeping.{begin_of}
use Rattle.acc_wal.specs.Spellings.{body}
use Rattle.acc_wal.specs.Journals.{Counts}
use Rattle.acc_wal.proofs.Moments.{started}
use Rattle.acc_journalled.proofs.Putting.{calm_counts, survived, left_behind, calm_behind}
use Rattle.acc_journalled.proofs.sealing.put_text.Goals as goal

-- ---- nothing was compensated

pub returns-then-compensated-eq0-clause-behind : goal.returns-then-compensated-eq0-clause-behind
returns-then-compensated-eq0-clause-behind g c calm each image left =
    let wal = c.args.wal in
    let opened = c.requires.opened in
    calm_counts wal (g.D.Disk.told wal.disk) (g.D.Disk.may_leave wal.disk) c.args.state.world.events opened.0
    (c.seals-seals.ensures.counts opened.3) calm image left

pub returns-then-compensated-eq0-clause-moments : goal.returns-then-compensated-eq0-clause-moments
returns-then-compensated-eq0-clause-moments g c calm each =
    let wal = c.args.wal in
    let events = c.args.state.world.events in
    started g.D.Disk.clock g.D.Disk.left_since wal.disk (λ image. Counts image wal.base events)
    (λ image left. returns-then-compensated-eq0-clause-behind g c calm each image (g.met.D.Disk.only_now wal.disk image left))

-- ---- the text is put

pub new-engine-requires-clause-few : goal.new-engine-requires-clause-few
unfolding body
new-engine-requires-clause-few g c = omega (arith, ap (λ (calls : List Call). length (body (map begin_of calls))) c.new.ensures)

pub returns-clause-moments : goal.returns-clause-moments
returns-clause-moments g c calm each =
    let made = c.new-engine.ensures in
    let put = c.seal_and_settle-outcome in
    survived g.D.Disk.clock g.D.Disk.left_since g.D.Disk.told g.D.Disk.may_leave g.D.Disk.faults c.args.state.design c.args.state.world
    c.args.wal c.new-engine.result put.new.self c.give_back-state.result.1.disk made.state made.journal made.all.0 put.ensures.kept.0
    put.ensures.survives c.give_back-state.ensures.disk.0 c.requires.opened.0 (c.seals-seals.ensures.counts c.requires.opened.3) calm each

pub returns-clause-behind : goal.returns-clause-behind
returns-clause-behind g c calm each =
    let made = c.new-engine.ensures in
    let put = c.seal_and_settle-outcome in
    left_behind g.D.Disk.clock g.D.Disk.left_since g.D.Disk.told g.D.Disk.may_leave g.D.Disk.faults c.args.state.design c.args.state.world
    c.args.wal c.new-engine.result put.new.self c.give_back-state.result.1.disk made.state made.journal made.all.0 put.ensures.kept.0
    put.ensures.survives c.give_back-state.ensures.disk.0 c.requires.opened.0 (c.seals-seals.ensures.counts c.requires.opened.3) calm each

pub returns-clause-calm : goal.returns-clause-calm
returns-clause-calm g c calm each unspent =
    let made = c.new-engine.ensures in
    let put = c.seal_and_settle-outcome in
    let back = c.give_back-state.ensures.disk in
    calm_behind g.D.Disk.clock g.D.Disk.left_since g.D.Disk.told g.D.Disk.may_leave g.D.Disk.faults c.args.state.design c.args.state.world
    c.args.wal c.new-engine.result put.new.self c.give_back-state.result.1.disk made.state made.journal made.all.0 put.ensures.kept.0
    put.ensures.survives back.0 c.requires.opened.0 (c.seals-seals.ensures.counts c.requires.opened.3) calm each (sym back.2 ∙ unspent)
