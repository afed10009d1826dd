use Rattle.std.proofs.Common.{◌≡◌, ◌∙◌, sym, ap, subst, Some, true, false, is_some, cond}
use Rattle.std.specs.Prelude.{OnOk, IsOk}
use Rattle.std.specs.BTreeMap.{is_at as at}
use Rattle.acc_base.specs.Tables.{place_cmp}
use Rattle.acc_store.specs.Rows.{live, entry_at, has_room_at, can_hold, KeepsRoom, AddsBlanks}
use Rattle.acc_store.specs.Changes.{HasChanged}
use Rattle.acc_store.proofs.Room.{kept_by, wide_there, room_there}
use Rattle.acc_store.proofs.Blanks.{change_adds, same_adds}
use Rattle.std.proofs.lemmas.Bool.{le-leb}
use Rattle.acc_store.proofs.Live.{same_there}
use Rattle.std.specs.Ordering.{is_eq}
use Rattle.std.specs.Cmp.{tied_itself}
use Rattle.acc_base.proofs.Places.{place_total}
use Rattle.acc_store.proofs.Laid.{on_ok}
use Rattle.acc_store.proofs.Changed.{alters_by, alters_up, alters_fit}
use Rattle.acc_store.specs.declared.slots.Change.TheVariants.{Room}
use Rattle.acc_store.proofs.changes.widen.Goals as goal

pub returns-clause-rows : goal.returns-clause-rows
returns-clause-rows c =
    let p = c.args.place.now in
    let old = c.args.entries.now.entries in
    let new = c.change.new.self.entries in
    alters_by p (HasChanged (Room c.args.room) c.change.result) old new (live new ≡ live old) c.change.ensures.altered
    (λ none same. ap live same)
    (λ s t there changed same all. ap live same ∙ same_there p s t old there changed.0)

pub returns-clause-room : goal.returns-clause-room
returns-clause-room c = λ has.
    let p = c.args.place.now in
    let old = c.args.entries.now.entries in
    let new = c.change.new.self.entries in
    alters_by p (HasChanged (Room c.args.room) c.change.result) old new (OnOk c.change.result (has_room_at new p c.args.room ≡ true))
    c.change.ensures.altered
    (λ none same. let e : false ≡ true = sym (ap is_some none) ∙ has in cc)
    (λ s t there changed same all. on_ok c.change.result (λ fits. ap (can_hold c.args.room) (all p ∙
    ap (λ o. cond (is_eq o) (Some t) (entry_at p old)) (tied_itself place_total p)) ∙ le-leb c.args.room t.room fits) changed.2)

pub returns-clause-enough : goal.returns-clause-enough
returns-clause-enough c = λ room.
    let p = c.args.place.now in
    let old = c.args.entries.now.entries in
    let new = c.change.new.self.entries in
    alters_by p (HasChanged (Room c.args.room) c.change.result) old new (IsOk c.change.result) c.change.ensures.altered
    (λ none same. let e : false ≡ true = sym (ap (can_hold c.args.room) none) ∙ room in cc)
    (λ s t there changed same all. changed.3 (room_there old p s c.args.room there room))

pub returns-clause-up : goal.returns-clause-up
returns-clause-up c = alters_up c.args.place.now (HasChanged (Room c.args.room) c.change.result) c.args.entries.now.entries
    c.change.new.self.entries c.change.ensures.altered c.requires.up

pub returns-clause-fit : goal.returns-clause-fit
returns-clause-fit c = alters_fit c.args.place.now (HasChanged (Room c.args.room) c.change.result) c.args.entries.now.entries
    c.change.new.self.entries c.change.ensures.altered c.requires.are_fit

pub returns-clause-kept : goal.returns-clause-kept
returns-clause-kept c =
    let p = c.args.place.now in
    let old = c.args.entries.now.entries in
    let new = c.change.new.self.entries in
    alters_by p (HasChanged (Room c.args.room) c.change.result) old new (KeepsRoom old new) c.change.ensures.altered
    (λ none same. subst (KeepsRoom old) (sym same) (λ q n h. h))
    (λ s t there changed same all. kept_by old new p t (wide_there old p s t there changed.1) all)

pub returns-clause-blanks : goal.returns-clause-blanks
returns-clause-blanks c =
    let p = c.args.place.now in
    let old = c.args.entries.now.entries in
    let new = c.change.new.self.entries in
    alters_by p (HasChanged (Room c.args.room) c.change.result) old new (AddsBlanks (at (place_cmp p)) old new) c.change.ensures.altered
    (λ none same. same_adds (at (place_cmp p)) old new same)
    (λ s t there changed same all. change_adds old new p (Some t) all)
