use Rattle.std.proofs.Common.{◌≡◌, length, refl, subst}
use Rattle.std.specs.List.{flat_map, range_with_len}
use Rattle.acc_machine.specs.Kept.{IsKept}
use Rattle.acc_engine.specs.Keeping.{Journalled}
use Rattle.acc_player.specs.Boards.{play_of}
use Rattle.acc_settling.specs.Replies.{durable_line}
use Rattle.acc_settling.proofs.Fronts.{tells_part}
use Rattle.acc_settling.proofs.Telling.{tells_settled}
use Rattle.acc_settling.proofs.schedules.told_of.Goals as goal

pub returns-in-Ok-clause-so : goal.returns-in-Ok-clause-so
returns-in-Ok-clause-so g c =
    let e = c.args.player.now in
    let numbers = c.args.board.now.numbers.items in
    let kept = subst (λ (j : Journalled g.row.D.Denot). IsKept j.design j.state) c.player.view_is c.player.invariant.kept in
    let lines =
    subst
    (λ (j : Journalled g.row.D.Denot). c.in-Ok.text.items ≡ flat_map (durable_line j numbers) (range_with_len 1 (length numbers)))
    c.player.view_is (rw c.as_slice.ensures.value at c.in-Ok.ensures) in (
      c.in-Disk.is,
      record { count = c.requires.board.numbers; unbegun = c.requires.board.unbegun },
      tells_settled e (play_of e.state c.args.board.now) c.in-Ok.text.items kept c.requires.board.numbers lines,
    )

pub returns-in-Ok-clause-part : goal.returns-in-Ok-clause-part
returns-in-Ok-clause-part g c = λ later on.
    let e = c.args.player.now in
    let p = play_of e.state c.args.board.now in
    let numbers = c.args.board.now.numbers.items in
    let kept = subst (λ (j : Journalled g.row.D.Denot). IsKept j.design j.state) c.player.view_is c.player.invariant.kept in
    let lines =
    subst
    (λ (j : Journalled g.row.D.Denot). c.in-Ok.text.items ≡ flat_map (durable_line j numbers) (range_with_len 1 (length numbers)))
    c.player.view_is (rw c.as_slice.ensures.value at c.in-Ok.ensures) in
    let told = tells_settled e p c.in-Ok.text.items kept c.requires.board.numbers lines in
    tells_part e kept p later c.in-Ok.text.items refl told on
