use Rattle.std.proofs.Common.{◌++◌, List, ◌∙◌, sym, ap, subst}
use Rattle.std.proofs.lemmas.List.{append-nil}
use Rattle.acc_wal.specs.declared.items.Seal.{Seal}
use Rattle.acc_disk.specs.Crashes.{Only}
use Rattle.acc_recover.proofs.Ways.{recovered}
use Rattle.acc_recover.proofs.Attached.{one_settling, one_settling_all}
use Rattle.acc_recover.proofs.recovered.end_and_settle.Goals as goal

pub returns-in-Ok-settle-clause-ok : goal.returns-in-Ok-settle-clause-ok
returns-in-Ok-settle-clause-ok g c =
    let was = c.args.state.now in
    recovered was.design was.world c.end_all.new.state.world c.requires.kept.good.lawful c.end_all.ensures.goes c.in-Ok.ensures.ok

pub returns-in-Ok-settle-clause-moments : goal.returns-in-Ok-settle-clause-moments
returns-in-Ok-settle-clause-moments g c file told only counts =
    let was = c.args.state.now in
    let old = c.args.wal.now in
    let mid = c.end_all.new.wal in
    let now = c.end_all.new.state.world in
    let tail = c.end_all.ensures.tail in
    let same = ap g.D.Disk.told tail.disk in
    let alone = subst (λ x. Only file (g.D.Disk.may_leave x)) (sym tail.disk) only in
    one_settling g.D.Disk.clock g.D.Disk.left_since was.design was.world.events now old mid c.requires.in_step c.requires.settled tail
    c.end_all.ensures.in_step
    (recovered was.design was.world now c.requires.kept.good.lawful c.end_all.ensures.goes c.in-Ok.ensures.ok)
    c.settle.new.self.disk (c.settle.ensures.moments c.end_all.ensures.in_step.unspent file (same ∙ told) alone)

pub returns-in-Err-clause-moments : goal.returns-in-Err-clause-moments
returns-in-Err-clause-moments g c file told only counts =
    let was = c.args.state.now in
    let old = c.args.wal.now in
    let mid = c.end_all.new.wal in
    let now = c.end_all.new.state.world in
    let tail = c.end_all.ensures.tail in
    let same = ap g.D.Disk.told tail.disk in
    let alone = subst (λ x. Only file (g.D.Disk.may_leave x)) (sym tail.disk) only in
    one_settling g.D.Disk.clock g.D.Disk.left_since was.design was.world.events now old mid c.requires.in_step c.requires.settled tail
    c.end_all.ensures.in_step
    (recovered was.design was.world now c.requires.kept.good.lawful c.end_all.ensures.goes c.in-Ok.ensures.ok)
    c.settle.new.self.disk (c.settle.ensures.moments c.end_all.ensures.in_step.unspent file (same ∙ told) alone)

pub returns-in-Ok-settle-clause-moments_all : goal.returns-in-Ok-settle-clause-moments_all
returns-in-Ok-settle-clause-moments_all g c file told only counts =
    let was = c.args.state.now in
    let old = c.args.wal.now in
    let mid = c.end_all.new.wal in
    let now = c.end_all.new.state.world in
    let tail = c.end_all.ensures.tail in
    let same = ap g.D.Disk.told tail.disk in
    let alone = subst (λ x. Only file (g.D.Disk.may_leave x)) (sym tail.disk) only in
    one_settling_all g.D.Disk.clock g.D.Disk.left_since was.design was.world.events now old mid c.requires.in_step c.requires.settled tail
    c.end_all.ensures.in_step
    (recovered was.design was.world now c.requires.kept.good.lawful c.end_all.ensures.goes c.in-Ok.ensures.ok)
    c.settle.new.self.disk (c.settle.ensures.moments_all c.end_all.ensures.in_step.unspent file (same ∙ told) alone)

pub returns-in-Err-clause-moments_all : goal.returns-in-Err-clause-moments_all
returns-in-Err-clause-moments_all g c file told only counts =
    let was = c.args.state.now in
    let old = c.args.wal.now in
    let mid = c.end_all.new.wal in
    let now = c.end_all.new.state.world in
    let tail = c.end_all.ensures.tail in
    let same = ap g.D.Disk.told tail.disk in
    let alone = subst (λ x. Only file (g.D.Disk.may_leave x)) (sym tail.disk) only in
    one_settling_all g.D.Disk.clock g.D.Disk.left_since was.design was.world.events now old mid c.requires.in_step c.requires.settled tail
    c.end_all.ensures.in_step
    (recovered was.design was.world now c.requires.kept.good.lawful c.end_all.ensures.goes c.in-Ok.ensures.ok)
    c.settle.new.self.disk (c.settle.ensures.moments_all c.end_all.ensures.in_step.unspent file (same ∙ told) alone)

-- no state is added
pub returns-in-Ok-settle-clause-states : goal.returns-in-Ok-settle-clause-states
returns-in-Ok-settle-clause-states g c =
    let mid = c.end_all.new.wal in
    let tail = c.end_all.ensures.tail in
    let settled = c.in-Ok-settle.ensures.ok in (
      settled.version ∙ tail.version,
      settled.seals ∙ ap (λ (l : List Seal). mid.seals ++ l) c.end_all.ensures.in_step.quiet ∙ append-nil mid.seals ∙ tail.seals,
    )
