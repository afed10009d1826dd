use Rattle.std.proofs.Common.{◌≡◌, ◌<◌, ◌-◌, ℕ, Some, None, length, ap, subst, arith, refl, rules}
use Rattle.std.specs.Prelude.{slice_get}
use Rattle.std.proofs.lemmas.Option.{slice_get_read}
use Rattle.acc_lock_rules.specs.Begun.{HasRoom}
use Rattle.acc_lock_rules.specs.LockRules.{with_locks}
use Rattle.acc_player.specs.Players.{BeginsAt}
use Rattle.acc_schedule.proofs.Beginning.{begins_so, full_so, crowd_so}
use Rattle.acc_player.specs.Playing.{Playing}
use Rattle.acc_schedule.proofs.locked.LockedPlayer.begin_at.Goals as goal

pub returns-clause-begins : goal.returns-clause-begins
returns-clause-begins c =
    let p : Playing = record { design = c.self.inside.state.design; world = c.self.inside.state.world; calls = c.self.inside.calls.now } in
    let place = c.args.place in
    let above : 0 < place = omega (arith, c.requires.place.0) in
    let many = ap (λ (q : Playing). length q.calls) c.self.view_is in
    let within : place - 1 < length p.calls = omega (arith, many, c.requires.place.0, c.requires.place.1) in
    let at : slice_get p.calls (place - 1) ≡ Some c.index-calls-place.result =
    slice_get_read p.calls (length p.calls) (place - 1) c.index-calls-place.result refl within (search rules) in
    subst (λ (q : Playing). BeginsAt (with_locks q.design) q.calls place q.world (Some c.in-Ok.t) c.begin.new.self.world) c.self.view_is
    (begins_so p place c.index-calls-place.result c.begin.new.self.world above at c.in-Ok.t c.in-Ok.ensures.answer)

pub returns-in-Err-Full-clause-begins : goal.returns-in-Err-Full-clause-begins
returns-in-Err-Full-clause-begins c =
    let p : Playing = record { design = c.self.inside.state.design; world = c.self.inside.state.world; calls = c.self.inside.calls.now } in
    let place = c.args.place in
    let above : 0 < place = omega (arith, c.requires.place.0) in
    let many = ap (λ (q : Playing). length q.calls) c.self.view_is in
    let within : place - 1 < length p.calls = omega (arith, many, c.requires.place.0, c.requires.place.1) in
    let at : slice_get p.calls (place - 1) ≡ Some c.index-calls-place.result =
    slice_get_read p.calls (length p.calls) (place - 1) c.index-calls-place.result refl within (search rules) in
    subst (λ (q : Playing). BeginsAt (with_locks q.design) q.calls place q.world None c.begin.new.self.world) c.self.view_is
    (full_so p place c.index-calls-place.result c.begin.new.self.world above at
    (rw c.in-Err-Full.field-0-is at c.in-Err-Full.ensures.answer))

pub returns-in-Err-Crowd-clause-begins : goal.returns-in-Err-Crowd-clause-begins
returns-in-Err-Crowd-clause-begins c =
    let p : Playing = record { design = c.self.inside.state.design; world = c.self.inside.state.world; calls = c.self.inside.calls.now } in
    let place = c.args.place in
    let above : 0 < place = omega (arith, c.requires.place.0) in
    let many = ap (λ (q : Playing). length q.calls) c.self.view_is in
    let within : place - 1 < length p.calls = omega (arith, many, c.requires.place.0, c.requires.place.1) in
    let at : slice_get p.calls (place - 1) ≡ Some c.index-calls-place.result =
    slice_get_read p.calls (length p.calls) (place - 1) c.index-calls-place.result refl within (search rules) in
    subst (λ (q : Playing). BeginsAt (with_locks q.design) q.calls place q.world None c.begin.new.self.world) c.self.view_is
    (crowd_so p place c.index-calls-place.result c.begin.new.self.world above at
    (rw c.in-Err-Crowd.field-0-is at c.in-Err-Crowd.ensures.answer))

pub returns-in-Err-Memory-clause-room : goal.returns-in-Err-Memory-clause-room
returns-in-Err-Memory-clause-room c = λ memory call is full.
    let room = (rw c.in-Err-Memory.field-0-is at c.in-Err-Memory.ensures.answer).1 in
    full (subst (λ (q : Playing). HasRoom q.world) c.self.view_is room)
