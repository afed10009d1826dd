use Rattle.std.proofs.Common.{◌≡◌, ◌∙◌, ap, length}
use Rattle.acc_base.specs.Tables.{place_of, put}
use Rattle.acc_store.specs.Rows.{live, row_of, has_room_at}
use Rattle.acc_store.proofs.Laid.{on_ok}
use Rattle.acc_store.proofs.Landed.{come_rows, refused_rows, put_enough, put_kept, put_blanks, put_up, put_fit, on_err_so}
use Rattle.acc_store.proofs.changes.write_row.Goals as goal

pub returns-clause-ok : goal.returns-clause-ok
returns-clause-ok c =
    let row = c.args.row.now in
    let p = c.new-place.result in
    let old = c.args.entries.now.entries in
    let new = c.write.new.self.entries in
    let same_place : p ≡ place_of row = c.new-place.ensures.place ∙ ap (λ k. (row.table, k)) c.as_slice.ensures in
    on_ok c.write.result (λ h. come_rows p c.as_slice-2.result.now old new c.requires.up h ∙
    ap (λ l. put (row_of p l) (live old)) c.as_slice-2.ensures ∙ ap (λ q. put (row_of q row.cols) (live old)) same_place) c.write.ensures.ok

pub returns-clause-err : goal.returns-clause-err
returns-clause-err c =
    on_err_so c.write.result (refused_rows c.new-place.result c.as_slice-2.result.now c.args.entries.now.entries c.write.new.self.entries)
    c.write.ensures.err

pub returns-clause-enough : goal.returns-clause-enough
returns-clause-enough c = λ room.
    let row = c.args.row.now in
    let p = c.new-place.result in
    let old = c.args.entries.now.entries in
    let same_place : p ≡ place_of row = c.new-place.ensures.place ∙ ap (λ k. (row.table, k)) c.as_slice.ensures in
    put_enough p c.as_slice-2.result.now old c.write.new.self.entries c.write.result c.write.ensures.err
    (ap (λ l. has_room_at old p (length l)) c.as_slice-2.ensures ∙ ap (λ q. has_room_at old q (length row.cols)) same_place ∙ room)

pub returns-clause-kept : goal.returns-clause-kept
returns-clause-kept c =
    put_kept c.new-place.result c.as_slice-2.result.now c.args.entries.now.entries c.write.new.self.entries c.write.result
    c.write.ensures.ok c.write.ensures.err

pub returns-clause-blanks : goal.returns-clause-blanks
returns-clause-blanks c =
    put_blanks c.new-place.result c.as_slice-2.result.now c.args.entries.now.entries c.write.new.self.entries c.write.result
    c.write.ensures.ok c.write.ensures.err

pub returns-clause-up : goal.returns-clause-up
returns-clause-up c =
    put_up c.new-place.result c.as_slice-2.result.now c.args.entries.now.entries c.write.new.self.entries c.write.result
    c.write.ensures.ok c.write.ensures.err c.requires.up

pub returns-clause-fit : goal.returns-clause-fit
returns-clause-fit c =
    put_fit c.new-place.result c.as_slice-2.result.now c.args.entries.now.entries c.write.new.self.entries c.write.result
    c.write.ensures.ok c.write.ensures.err c.new-place.ensures.fit c.requires.are_fit
