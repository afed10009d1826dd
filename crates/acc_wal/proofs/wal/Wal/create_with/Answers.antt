use Rattle.std.proofs.Common.{◌≤◌, ◌<◌, ◌^◌, List, length, take, refl, sym, ap, subst, arith}
use Rattle.std.specs.Prelude.{IfSome}
use Rattle.std.specs.Option.{option_map}
use Rattle.std.proofs.lemmas.List.{take_all, drop_all}
use Rattle.acc_base.specs.declared.machines.Event.{Event}
use Rattle.acc_wal.specs.Creating.{seals_behind, IsReady, LeavesWhole, LeavesFull}
use Rattle.acc_wal.specs.Lists.{RestsWith}
use Rattle.acc_wal.specs.declared.items.Seal.{Seal}
use Rattle.acc_wal.proofs.Keeping.{record_empty}
use Rattle.acc_wal.proofs.Begun.{ready_same, told_rests, told_counts, whole_is_full}
use Rattle.acc_wal.proofs.Moments.{read_left, weaker}
use Rattle.acc_wal.proofs.wal.Wal.create_with.Goals as goal

pub invariant_of-result : goal.invariant_of-result
invariant_of-result g c =
    let base = c.in-Ok.ready.base.items in
    let events = c.in-Ok.ready.events.items in
    let seals = c.in-Ok.ready.seals.items in
    let long : length events ≤ c.len-count.result = omega (arith, c.len-count.ensures) in
    let wide : length seals ≤ c.len-sealed.result = omega (arith, c.len-sealed.ensures) in
    let fits : length base < 2 ^ 32 = omega (arith, c.requires.base, ap length c.in-Ok.ensures.kept.0) in
    let told = g.D.Disk.told c.begin.new.disk in
    let is : IsReady base events seals c.deref.result.now c.in-Ok.ready.place =
    ready_same base base c.in-Ok.ready.rest.items c.deref.result.now events events seals seals c.in-Ok.ready.place refl refl refl
    c.deref.ensures.value c.in-Ok.ensures.is in (
      omega (arith, c.len-count.ensures),
      omega (arith, c.len-sealed.ensures),
      c.in-Ok.ensures.staged.1,
      record_empty c.in-Ok.ready.staged.items c.len-count.result 2 _ _ c.in-Ok.ensures.staged.0 (drop_all c.len-count.result events long)
          (drop_all c.len-sealed.result seals wide),
      subst (λ (ss : List Seal). IfSome told (λ file. RestsWith file base 2 (take c.len-count.result events) ss c.in-Ok.ready.place))
          (sym (take_all c.len-sealed.result seals wide))
          (subst (λ (es : List Event). IfSome told (λ file. RestsWith file base 2 es seals c.in-Ok.ready.place))
          (sym (take_all c.len-count.result events long))
          (told_rests base events seals c.deref.result.now c.in-Ok.ready.place fits is told c.in-Ok-begin.ensures.made)),
    )

pub returns-in-Ok-begin-clause-made : goal.returns-in-Ok-begin-clause-made
returns-in-Ok-begin-clause-made g c =
    let is = ready_same c.args.base.now c.in-Ok.ready.base.items c.in-Ok.ready.rest.items c.deref.result.now c.args.events.now
    c.in-Ok.ready.events.items (seals_behind (length c.args.events.now) (option_map (λ text. text.now) c.args.seal)) c.in-Ok.ready.seals.items
    c.in-Ok.ready.place c.in-Ok.ensures.kept.0 c.in-Ok.ensures.kept.1 c.in-Ok.ensures.kept.2 c.deref.ensures.value c.in-Ok.ensures.is in
    told_counts c.args.base.now c.args.events.now (seals_behind (length c.args.events.now) (option_map (λ text. text.now) c.args.seal)) c.deref.result.now
    c.in-Ok.ready.place c.requires.base is (g.D.Disk.told c.begin.new.disk) c.in-Ok-begin.ensures.made

pub returns-in-Ok-begin-clause-moments : goal.returns-in-Ok-begin-clause-moments
returns-in-Ok-begin-clause-moments g c file told only =
    let seals = (seals_behind (length c.args.events.now) (option_map (λ text. text.now) c.args.seal)) in
    let is = ready_same c.args.base.now c.in-Ok.ready.base.items c.in-Ok.ready.rest.items c.deref.result.now c.args.events.now
    c.in-Ok.ready.events.items (seals_behind (length c.args.events.now) (option_map (λ text. text.now) c.args.seal)) c.in-Ok.ready.seals.items
    c.in-Ok.ready.place c.in-Ok.ensures.kept.0 c.in-Ok.ensures.kept.1 c.in-Ok.ensures.kept.2 c.deref.ensures.value c.in-Ok.ensures.is in
    weaker g.D.Disk.clock g.D.Disk.left_since _ _ (LeavesWhole file c.deref.result.now)
    (LeavesFull file c.args.base.now c.args.events.now seals)
    (λ image left. whole_is_full c.args.base.now c.args.events.now seals c.deref.result.now c.in-Ok.ready.place c.requires.base is file image
    left) (c.begin.ensures.moments file told only)

pub returns-in-Ok-begin-clause-left : goal.returns-in-Ok-begin-clause-left
returns-in-Ok-begin-clause-left g c file told only =
    read_left g.D.Disk.clock g.D.Disk.left_since c.args.disk c.begin.new.disk (g.D.Disk.told c.begin.new.disk)
    (g.D.Disk.may_leave c.begin.new.disk) (LeavesFull file c.args.base.now c.args.events.now (seals_behind (length c.args.events.now) (option_map (λ text. text.now) c.args.seal)))
    (g.met.D.Disk.nothing_lost c.begin.new.disk) (λ time image le left. g.met.D.Disk.counts_now c.begin.new.disk time image le left)
    (returns-in-Ok-begin-clause-moments g c file told only)

pub returns-in-Err-begin-clause-moments : goal.returns-in-Err-begin-clause-moments
returns-in-Err-begin-clause-moments g c file told only =
    let seals = (seals_behind (length c.args.events.now) (option_map (λ text. text.now) c.args.seal)) in
    let is = ready_same c.args.base.now c.in-Ok.ready.base.items c.in-Ok.ready.rest.items c.deref.result.now c.args.events.now
    c.in-Ok.ready.events.items (seals_behind (length c.args.events.now) (option_map (λ text. text.now) c.args.seal)) c.in-Ok.ready.seals.items
    c.in-Ok.ready.place c.in-Ok.ensures.kept.0 c.in-Ok.ensures.kept.1 c.in-Ok.ensures.kept.2 c.deref.ensures.value c.in-Ok.ensures.is in
    weaker g.D.Disk.clock g.D.Disk.left_since _ _ (LeavesWhole file c.deref.result.now)
    (LeavesFull file c.args.base.now c.args.events.now seals)
    (λ image left. whole_is_full c.args.base.now c.args.events.now seals c.deref.result.now c.in-Ok.ready.place c.requires.base is file image
    left) (c.begin.ensures.moments file told only)

pub returns-in-Err-begin-clause-left : goal.returns-in-Err-begin-clause-left
returns-in-Err-begin-clause-left g c file told only =
    read_left g.D.Disk.clock g.D.Disk.left_since c.args.disk c.begin.new.disk (g.D.Disk.told c.begin.new.disk)
    (g.D.Disk.may_leave c.begin.new.disk) (LeavesFull file c.args.base.now c.args.events.now (seals_behind (length c.args.events.now) (option_map (λ text. text.now) c.args.seal)))
    (g.met.D.Disk.nothing_lost c.begin.new.disk) (λ time image le left. g.met.D.Disk.counts_now c.begin.new.disk time image le left)
    (returns-in-Err-begin-clause-moments g c file told only)
