use Rattle.std.proofs.Common.{◌≡◌, ◌∙◌, sym, ap, Some}
use Rattle.std.specs.Prelude.{is_some}
use Rattle.std.specs.Option.{option_copied_mut}
use Rattle.acc_lock_holders.specs.Entries.{found}
use Rattle.acc_lock_holders.proofs.Finding.{same_items, keeps_there}
use Rattle.acc_lock_holders.proofs.maps.widen.Goals as goal

pub returns-in-Some-clause-same : goal.returns-in-Some-clause-same
returns-in-Some-clause-same c =
    let old = c.args.holders.now.entries in
    let key = c.args.key.now in
    let there : found key old ≡ Some c.in-Some.numbers.now = sym c.get_mut.ensures.value ∙ ap option_copied_mut c.in-Some.is in
    let new = c.make_room.new.self in
    same_items old (c.get_mut.follows.lender new).entries key c.in-Some.numbers.now new there c.make_room.ensures.items
    ((c.get_mut.follows.holds new).3 (ap is_some there)).0

pub returns-in-Some-clause-kept : goal.returns-in-Some-clause-kept
returns-in-Some-clause-kept c =
    let old = c.args.holders.now.entries in
    let key = c.args.key.now in
    let there : found key old ≡ Some c.in-Some.numbers.now = sym c.get_mut.ensures.value ∙ ap option_copied_mut c.in-Some.is in
    let new = c.make_room.new.self in
    keeps_there old (c.get_mut.follows.lender new).entries key c.in-Some.numbers.now new there c.make_room.ensures.kept
    ((c.get_mut.follows.holds new).3 (ap is_some there)).0
