use Rattle.std.proofs.Common.{◌≡◌, ◌∙◌, sym, ap, subst, Some}
use Rattle.std.specs.BTreeMap.{is_at as at}
use Rattle.acc_base.specs.Tables.{place_cmp, drop_row}
use Rattle.acc_store.specs.Rows.{live, KeepsRoom, AddsBlanks}
use Rattle.acc_store.specs.Changes.{HasChanged}
use Rattle.acc_store.proofs.Room.{kept_by, wide_there}
use Rattle.acc_store.proofs.Blanks.{change_adds, same_adds}
use Rattle.acc_store.proofs.Live.{drop_there, live_absent}
use Rattle.acc_store.proofs.Changed.{alters_by, alters_keys, alters_up}
use Rattle.acc_store.specs.declared.slots.Change.TheVariants.{Clear}
use Rattle.acc_store.proofs.changes.drop_at.Goals as goal

pub returns-clause-rows : goal.returns-clause-rows
returns-clause-rows c =
    let p = c.args.place.now in
    let old = c.args.entries.now.entries in
    let new = c.change.new.self.entries in
    alters_by p (HasChanged Clear c.change.result) old new (live new ≡ drop_row p.0 p.1 (live old)) c.change.ensures.altered
    (λ none same. ap live same ∙ live_absent p old c.requires.up none)
    (λ s t there changed same all. ap live same ∙ drop_there p s t old c.requires.up there changed.0)

pub returns-clause-keys : goal.returns-clause-keys
returns-clause-keys c = alters_keys c.args.place.now (HasChanged Clear c.change.result) c.args.entries.now.entries c.change.new.self.entries
    c.change.ensures.altered

pub returns-clause-up : goal.returns-clause-up
returns-clause-up c = alters_up c.args.place.now (HasChanged Clear c.change.result) c.args.entries.now.entries c.change.new.self.entries
    c.change.ensures.altered c.requires.up

pub returns-clause-kept : goal.returns-clause-kept
returns-clause-kept c =
    let p = c.args.place.now in
    let old = c.args.entries.now.entries in
    let new = c.change.new.self.entries in
    alters_by p (HasChanged Clear c.change.result) old new (KeepsRoom old new) c.change.ensures.altered
    (λ none same. subst (KeepsRoom old) (sym same) (λ q n h. h))
    (λ s t there changed same all. kept_by old new p t (wide_there old p s t there changed.1) all)

pub returns-clause-blanks : goal.returns-clause-blanks
returns-clause-blanks c =
    let p = c.args.place.now in
    let old = c.args.entries.now.entries in
    let new = c.change.new.self.entries in
    alters_by p (HasChanged Clear c.change.result) old new (AddsBlanks (at (place_cmp p)) old new) c.change.ensures.altered
    (λ none same. same_adds (at (place_cmp p)) old new same)
    (λ s t there changed same all. change_adds old new p (Some t) all)
