use Rattle.std.proofs.Common.{ap, sym, subst, ◌∙◌, ◌≤◌, length}
use Rattle.acc_base.specs.Effects.{first_from}
use Rattle.acc_base.specs.Entries.{at_of, Forbids}
use Rattle.acc_table.specs.Entries.{entry_forbids}
use Rattle.acc_table.proofs.Telling.{tells, forbids_to, forbids_from}
use Rattle.acc_table.proofs.Formed.{few_entries}
use Rattle.acc_table.proofs.entries.forbids.Goals as goal

pub returns : goal.returns
returns c =
    let d = c.args.d.now in
    let held = at_of c.args.held.now in
    let locals = c.args.held.now.locals in
    tells (Forbids d held locals c.args.at c.args.side c.args.locals.now) d.entries
    (entry_forbids held locals c.args.at c.args.side c.args.locals.now)
    (forbids_to d held locals c.args.at c.args.side c.args.locals.now)
    (forbids_from d held locals c.args.at c.args.side c.args.locals.now) c.first_forbidding.result
    (sym (c.first_forbidding.ensures
    ∙ (ap
    (λ a. first_from (entry_forbids a c.as_slice-2.result.now c.args.at c.args.side c.args.locals.now) 1 c.as_slice.result.now) c.at.ensures
    ∙ ap (λ h. first_from (entry_forbids held h c.args.at c.args.side c.args.locals.now) 1 c.as_slice.result.now) c.as_slice-2.ensures
    ∙ ap (first_from (entry_forbids held locals c.args.at c.args.side c.args.locals.now) 1) c.as_slice.ensures)))

pub first_forbidding-requires : goal.first_forbidding-requires
first_forbidding-requires c =
    record { few = subst (λ es. length es ≤ 1024) (sym c.as_slice.ensures) (few_entries c.args.d.now c.requires.formed) }
