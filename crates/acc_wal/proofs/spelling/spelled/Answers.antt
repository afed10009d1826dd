use Rattle.std.proofs.Common.{◌≡◌, List, ℕ, Some, None, length, drop, sym, ap, refl, subst, arith, length-append, length-drop}
use Rattle.std.proofs.lemmas.List.{take_rest}
use Rattle.acc_wal.specs.Items.{item_bytes}
use Rattle.acc_wal.specs.Spelled.{item_at}
use Rattle.acc_wal.proofs.Taken.{IsBytes-drop}
use Rattle.acc_wal.proofs.SpelledItems.{item_takes, stands_at, none_stands, none_past}
use Rattle.acc_wal.proofs.spelling.spelled.Goals as goal

pub returns-then-at-body-clause-ok : goal.returns-then-at-body-clause-ok
returns-then-at-body-clause-ok c =
    none_past c.args.version c.args.body.now c.args.at (omega (arith, c.if-at-body.true))

pub overflow_sub-result : goal.overflow_sub-result
overflow_sub-result c =
    let h = rw c.in-Some.is at c.in_ok-item.ensures in
    let found = subst (λ (l : List ℕ). item_at c.args.version l ≡ Some (c.in-Some.item, c.in-Some.rest.now))
    (take_rest c.args.body.now c.args.at) (sym h) in
    let taken = item_takes c.args.version (drop c.args.at c.args.body.now) (c.in-Some.item, c.in-Some.rest.now)
    (IsBytes-drop c.args.at c.args.body.now (λ i. omega (arith, c.type_inv.body i))) found in
    omega (
      arith,
      ap length taken.parts,
      length-append (item_bytes c.in-Some.item) c.in-Some.rest.now,
      length-drop c.args.at c.args.body.now,
    )

pub returns-in-Some-clause-ok : goal.returns-in-Some-clause-ok
returns-in-Some-clause-ok c =
    let h = rw c.in-Some.is at c.in_ok-item.ensures in
    let found = subst (λ (l : List ℕ). item_at c.args.version l ≡ Some (c.in-Some.item, c.in-Some.rest.now))
    (take_rest c.args.body.now c.args.at) (sym h) in
    stands_at c.args.version c.args.body.now c.args.at _ c.in-Some.item c.in-Some.rest.now (λ i. omega (arith, c.type_inv.body i))
    (omega (arith, c.if-at-body.false)) found refl

pub returns-in-None-clause-ok : goal.returns-in-None-clause-ok
returns-in-None-clause-ok c =
    let h = rw c.in-None.is at c.in_ok-item.ensures in
    let found = subst (λ (l : List ℕ). item_at c.args.version l ≡ None) (take_rest c.args.body.now c.args.at) (sym h) in
    none_stands c.args.version c.args.body.now c.args.at found
