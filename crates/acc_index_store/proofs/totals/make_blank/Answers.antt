use Rattle.std.proofs.Common.{◌∙◌, ap, Some, pos}
use Rattle.acc_index_store.specs.declared.totals.Total.{Total}
use Rattle.acc_index_store.specs.Totals.{has_total}
use Rattle.acc_index_store.proofs.Finding.{rewrites, same_made, keeps_room}
use Rattle.acc_index_store.proofs.totals.make_blank.Goals as goal

pub returns-clause-same : goal.returns-clause-same
returns-clause-same c =
    let old = c.args.totals.now.entries in
    let new = c.insert.new.self.entries in
    let q = c.in_ok-key.key.items in
    let blank : Total = record { rows = 0; sum = pos 0 } in
    let updates = c.in_ok-insert.ensures.updates in
    same_made old new q (ap (has_total old) c.in_ok-key.ensures.items ∙ c.requires.absent) (rewrites old new q (Some blank) updates.1
    updates.3)

pub returns-clause-kept : goal.returns-clause-kept
returns-clause-kept c =
    let old = c.args.totals.now.entries in
    let new = c.insert.new.self.entries in
    let q = c.in_ok-key.key.items in
    let blank : Total = record { rows = 0; sum = pos 0 } in
    let updates = c.in_ok-insert.ensures.updates in
    keeps_room old new q blank (rewrites old new q (Some blank) updates.1 updates.3)
