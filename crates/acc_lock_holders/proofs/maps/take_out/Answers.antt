use Rattle.std.proofs.Common.{◌≡◌, ◌∙◌, sym, ap, subst, refl, Some, None}
use Rattle.std.specs.Prelude.{is_some}
use Rattle.std.specs.Option.{option_copied_mut}
use Rattle.acc_lock_holders.specs.Numbers.{without_number}
use Rattle.acc_lock_holders.specs.Entries.{found, Changes}
use Rattle.acc_lock_holders.proofs.Finding.{changes_there, keeps_there, unchanged}
use Rattle.acc_lock_holders.proofs.maps.take_out.Goals as goal

pub returns-in-Some-clause-taken : goal.returns-in-Some-clause-taken
returns-in-Some-clause-taken c =
    let old = c.args.holders.now.entries in
    let key = c.args.key.now in
    let there : found key old ≡ Some c.in-Some.numbers.now = sym c.get_mut.ensures.value ∙ ap option_copied_mut c.in-Some.is in
    let new = c.take_out.new.self in
    changes_there old (c.get_mut.follows.lender new).entries key c.in-Some.numbers.now new (without_number c.args.t) there
    c.take_out.ensures.items ((c.get_mut.follows.holds new).3 (ap is_some there)).0

pub returns-in-Some-clause-kept : goal.returns-in-Some-clause-kept
returns-in-Some-clause-kept c =
    let old = c.args.holders.now.entries in
    let key = c.args.key.now in
    let there : found key old ≡ Some c.in-Some.numbers.now = sym c.get_mut.ensures.value ∙ ap option_copied_mut c.in-Some.is in
    let new = c.take_out.new.self in
    keeps_there old (c.get_mut.follows.lender new).entries key c.in-Some.numbers.now new there c.take_out.ensures.kept
    ((c.get_mut.follows.holds new).3 (ap is_some there)).0

pub returns-in_default-clause-taken : goal.returns-in_default-clause-taken
returns-in_default-clause-taken c =
    let old = c.args.holders.now.entries in
    let key = c.args.key.now in
    let none : found key old ≡ None = sym c.get_mut.ensures.value ∙ ap option_copied_mut c.in_default.is in
    subst (λ m. Changes (without_number c.args.t) key old m.entries) (sym c.get_mut.follows.holds-at-none)
    (unchanged old key (without_number c.args.t) none refl)
