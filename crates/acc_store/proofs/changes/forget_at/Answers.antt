use Rattle.std.proofs.Common.{◌∙◌, sym, ap, subst, refl, None}
use Rattle.acc_store.proofs.Live.{live_forget}
use Rattle.acc_store.proofs.Room.{fit_remove}
use Rattle.acc_store.proofs.Blanks.{change_clears, none_clears}
use Rattle.std.specs.BTreeMap.{is_at as at}
use Rattle.acc_base.specs.Tables.{place_cmp}
use Rattle.acc_store.specs.Rows.{live, AreFit, entry_at, IsUp}
use Rattle.acc_store.proofs.Changed.{at_removed, up_removed}
use Rattle.acc_store.proofs.changes.forget_at.Goals as goal

pub returns-then-is_blank_at-clause-rows : goal.returns-then-is_blank_at-clause-rows
returns-then-is_blank_at-clause-rows c =
    ap live c.remove.ensures.entries ∙ live_forget c.args.place.now c.args.entries.now.entries
    (sym c.is_blank_at.ensures ∙ c.if-is_blank_at.true)

pub returns-then-is_blank_at-clause-fit : goal.returns-then-is_blank_at-clause-fit
returns-then-is_blank_at-clause-fit c =
    subst AreFit (sym c.remove.ensures.entries) (fit_remove (at (place_cmp c.args.place.now)) c.args.entries.now.entries c.requires.are_fit)

pub returns-then-is_blank_at-clause-blanks : goal.returns-then-is_blank_at-clause-blanks
returns-then-is_blank_at-clause-blanks c =
    let old = c.args.entries.now.entries in
    change_clears old c.remove.new.self.entries c.args.place.now None (λ q. ap (entry_at q) c.remove.ensures.entries ∙ at_removed
    c.args.place.now old c.requires.up q) refl

pub returns-then-is_blank_at-clause-up : goal.returns-then-is_blank_at-clause-up
returns-then-is_blank_at-clause-up c = subst IsUp (sym c.remove.ensures.entries)
    (up_removed c.args.place.now c.args.entries.now.entries c.requires.up)

pub returns-else-is_blank_at-clause-blanks : goal.returns-else-is_blank_at-clause-blanks
returns-else-is_blank_at-clause-blanks c =
    none_clears c.args.entries.now.entries c.args.place.now (sym c.is_blank_at.ensures ∙ c.if-is_blank_at.false)
