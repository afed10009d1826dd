use Rattle.std.proofs.Common.{◌≡◌, ◌∙◌, sym, ap, Some}
use Rattle.std.specs.Int.{w128}
use Rattle.std.proofs.lemmas.Int.{to_z-of_z}
use Rattle.std.specs.Prelude.{is_some}
use Rattle.std.specs.Option.{option_copied_mut}
use Rattle.acc_index_store.specs.Totals.{counted, entry}
use Rattle.acc_index_store.proofs.Finding.{rewrites, changes_there, keeps_room}
use Rattle.acc_index_store.proofs.totals.count_at.Goals as goal

pub returns-in-Some-clause-counted : goal.returns-in-Some-clause-counted
returns-in-Some-clause-counted c =
    let old = c.args.totals.now.entries in
    let q = c.args.prefix.now in
    let there : entry q old ≡ Some c.in-Some.total.now = sym c.get_mut.ensures.value ∙ ap option_copied_mut c.in-Some.is in
    let new = (c.get_mut.follows.lender c.count.result).entries in
    let updates = (c.get_mut.follows.holds c.count.result).3 (ap is_some there) in
    changes_there old new q c.in-Some.total.now c.count.result (counted c.args.way (Some c.args.value)) there
    (c.count.ensures ∙ ap (λ x. counted c.args.way (Some x) c.in-Some.total.now) (to_z-of_z w128 c.args.value c.ranges.value))
    (rewrites old new q (Some c.count.result) updates.1 updates.3)

pub returns-in-Some-clause-kept : goal.returns-in-Some-clause-kept
returns-in-Some-clause-kept c =
    let old = c.args.totals.now.entries in
    let q = c.args.prefix.now in
    let there : entry q old ≡ Some c.in-Some.total.now = sym c.get_mut.ensures.value ∙ ap option_copied_mut c.in-Some.is in
    let new = (c.get_mut.follows.lender c.count.result).entries in
    let updates = (c.get_mut.follows.holds c.count.result).3 (ap is_some there) in
    keeps_room old new q c.count.result (rewrites old new q (Some c.count.result) updates.1 updates.3)
