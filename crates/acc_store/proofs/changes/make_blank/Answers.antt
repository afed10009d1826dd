use Rattle.std.proofs.Common.{◌∙◌, sym, ap, subst, Some, cond}
use Rattle.std.specs.Ordering.{is_eq}
use Rattle.std.specs.Cmp.{tied_itself}
use Rattle.std.proofs.lemmas.Bool.{le-leb}
use Rattle.acc_base.proofs.Places.{place_total}
use Rattle.acc_store.specs.Rows.{live, AreFit, entry_at, IsUp, can_hold}
use Rattle.acc_store.proofs.Changed.{at_inserted, up_inserted}
use Rattle.acc_store.proofs.Live.{live_blank}
use Rattle.acc_store.proofs.Blanks.{change_adds}
use Rattle.acc_store.proofs.Room.{fit_insert, kept_by, wide_absent}
use Rattle.acc_store.proofs.changes.make_blank.Goals as goal

pub returns-clause-rows : goal.returns-clause-rows
returns-clause-rows c =
    ap live c.in_ok-insert.ensures.entries ∙ live_blank c.args.place c.in_ok-slot.slot c.args.entries.now.entries c.in_ok-slot.ensures.blank
    c.requires.absent

pub returns-clause-kept : goal.returns-clause-kept
returns-clause-kept c =
    kept_by c.args.entries.now.entries c.insert.new.self.entries c.args.place c.in_ok-slot.slot
    (wide_absent c.args.entries.now.entries c.args.place c.in_ok-slot.slot c.requires.absent)
    (λ q. ap (entry_at q) c.in_ok-insert.ensures.entries ∙ at_inserted c.args.place c.in_ok-slot.slot c.args.entries.now.entries q)

pub returns-clause-fit : goal.returns-clause-fit
returns-clause-fit c =
    subst AreFit (sym c.in_ok-insert.ensures.entries)
    (fit_insert c.args.place c.in_ok-slot.slot c.args.entries.now.entries c.requires.fit c.requires.are_fit)

pub returns-clause-blanks : goal.returns-clause-blanks
returns-clause-blanks c =
    change_adds c.args.entries.now.entries c.insert.new.self.entries c.args.place (Some c.in_ok-slot.slot)
    (λ q. ap (entry_at q) c.in_ok-insert.ensures.entries ∙ at_inserted c.args.place c.in_ok-slot.slot c.args.entries.now.entries q)

pub returns-clause-up : goal.returns-clause-up
returns-clause-up c =
    subst IsUp (sym c.in_ok-insert.ensures.entries) (up_inserted c.args.place c.in_ok-slot.slot c.args.entries.now.entries c.requires.up)

pub returns-clause-room : goal.returns-clause-room
returns-clause-room c =
    ap (can_hold c.args.room) (ap (entry_at c.args.place) c.in_ok-insert.ensures.entries ∙ at_inserted c.args.place c.in_ok-slot.slot
    c.args.entries.now.entries c.args.place ∙
    ap (λ o. cond (is_eq o) (Some c.in_ok-slot.slot) (entry_at c.args.place c.args.entries.now.entries))
    (tied_itself place_total c.args.place)) ∙
    le-leb c.args.room c.in_ok-slot.slot.room c.in_ok-slot.ensures.room
