use Rattle.std.proofs.Common.{◌≡◌, ◌∙◌, sym, ap, subst, Some, true, length}
use Rattle.std.specs.Prelude.{is_none}
use Rattle.std.specs.BTreeMap.{is_at as at}
use Rattle.acc_base.specs.Tables.{place_of, place_cmp, put}
use Rattle.acc_store.specs.Rows.{live, row_of, has_room_at, KeepsRoom, ClearsBlanks}
use Rattle.acc_store.specs.Changes.{HasChanged}
use Rattle.acc_store.proofs.Room.{kept_by, wide_there}
use Rattle.acc_store.proofs.Blanks.{change_clears}
use Rattle.acc_store.proofs.Live.{put_there}
use Rattle.acc_store.proofs.Changed.{alters_by, alters_keys, alters_up}
use Rattle.acc_store.specs.declared.slots.Change.TheVariants.{Put}
use Rattle.acc_store.proofs.Room.{none_absent}
use Rattle.std.specs.Prelude.{is_some}
use Rattle.acc_store.proofs.changes.put_row.Goals as goal

pub returns-clause-rows : goal.returns-clause-rows
returns-clause-rows c =
    let row = c.args.row.now in
    let p = c.new-place.result in
    let old = c.args.entries.now.entries in
    let new = c.change.new.self.entries in
    let same_place : p ≡ place_of row = c.new-place.ensures.place ∙ ap (λ k. (row.table, k)) c.as_slice.ensures in
    let room : has_room_at old p (length row.cols) ≡ true = ap (λ q. has_room_at old q (length row.cols)) same_place ∙ c.requires.room in
    alters_by p (HasChanged (Put c.as_slice-2.result) c.change.result) old new (live new ≡ put row (live old)) c.change.ensures.altered
    (λ none same. absurd (none_absent old p (length row.cols) (ap is_some none) room))
    (λ s t there changed same all. ap live same ∙ put_there p row.cols s t old c.requires.up there
    (changed.0 ∙ ap Some c.as_slice-2.ensures) ∙
    ap (λ q. put (row_of q row.cols) (live old)) same_place)

pub returns-clause-keys : goal.returns-clause-keys
returns-clause-keys c = alters_keys c.new-place.result (HasChanged (Put c.as_slice-2.result) c.change.result) c.args.entries.now.entries
    c.change.new.self.entries c.change.ensures.altered

pub returns-clause-up : goal.returns-clause-up
returns-clause-up c = alters_up c.new-place.result (HasChanged (Put c.as_slice-2.result) c.change.result) c.args.entries.now.entries
    c.change.new.self.entries c.change.ensures.altered c.requires.up

pub returns-clause-kept : goal.returns-clause-kept
returns-clause-kept c =
    let p = c.new-place.result in
    let old = c.args.entries.now.entries in
    let new = c.change.new.self.entries in
    alters_by p (HasChanged (Put c.as_slice-2.result) c.change.result) old new (KeepsRoom old new) c.change.ensures.altered
    (λ none same. subst (KeepsRoom old) (sym same) (λ q n h. h))
    (λ s t there changed same all. kept_by old new p t (wide_there old p s t there changed.1) all)

pub returns-clause-blanks : goal.returns-clause-blanks
returns-clause-blanks c =
    let row = c.args.row.now in
    let p = c.new-place.result in
    let old = c.args.entries.now.entries in
    let new = c.change.new.self.entries in
    let same_place : p ≡ place_of row = c.new-place.ensures.place ∙ ap (λ k. (row.table, k)) c.as_slice.ensures in
    let room : has_room_at old p (length row.cols) ≡ true = ap (λ q. has_room_at old q (length row.cols)) same_place ∙ c.requires.room in
    subst (λ q. ClearsBlanks (at (place_cmp q)) old new) same_place
    (alters_by p (HasChanged (Put c.as_slice-2.result) c.change.result) old new (ClearsBlanks (at (place_cmp p)) old new)
    c.change.ensures.altered
    (λ none same. absurd (none_absent old p (length row.cols) (ap is_some none) room))
    (λ s t there changed same all. change_clears old new p (Some t) all (ap is_none changed.0)))
