use Rattle.std.proofs.Common.{◌≡◌, ◌∙◌, sym, ap, Some}
use Rattle.std.specs.Prelude.{is_some}
use Rattle.std.specs.Option.{option_copied_mut}
use Rattle.acc_lock_holders.specs.Numbers.{with_number}
use Rattle.acc_lock_holders.specs.Entries.{found}
use Rattle.acc_lock_holders.proofs.Finding.{changes_there, takes_there, with_is_among}
use Rattle.acc_lock_holders.proofs.maps.add.Goals as goal

pub returns-in-Some-clause-added : goal.returns-in-Some-clause-added
returns-in-Some-clause-added c =
    let old = c.args.holders.now.entries in
    let key = c.args.key.now in
    let there : found key old ≡ Some c.in-Some.numbers.now = sym c.get_mut.ensures.value ∙ ap option_copied_mut c.in-Some.is in
    let new = c.add.new.self in
    changes_there old (c.get_mut.follows.lender new).entries key c.in-Some.numbers.now new (with_number c.args.t) there c.add.ensures.items
    ((c.get_mut.follows.holds new).3 (ap is_some there)).0

pub returns-in-Some-clause-others : goal.returns-in-Some-clause-others
returns-in-Some-clause-others c =
    let old = c.args.holders.now.entries in
    let key = c.args.key.now in
    let there : found key old ≡ Some c.in-Some.numbers.now = sym c.get_mut.ensures.value ∙ ap option_copied_mut c.in-Some.is in
    let new = c.add.new.self in
    takes_there old (c.get_mut.follows.lender new).entries key c.in-Some.numbers.now new c.args.t there
    (with_is_among c.args.t c.in-Some.numbers.now.items new c.add.ensures.items) ((c.get_mut.follows.holds new).3 (ap is_some there)).0
