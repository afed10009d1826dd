use Rattle.std.proofs.Common.{◌≡◌, true, false, rules}
use Rattle.acc_rows.specs.Rows.{has}
use Rattle.acc_elim_systems.proofs.Apart.{kept_told, together_told, on_ok}
use Rattle.acc_elim_systems.proofs.Behind.{kept_behind, made_behind}
use Rattle.acc_elim_systems.proofs.systems.replace.Goals as goal

pub returns-then-not-has-clause-told : goal.returns-then-not-has-clause-told
returns-then-not-has-clause-told c =
    kept_told c.keep.result c.args.made.now.items c.args.kept.now.items c.keep.new.rows.items c.args.row c.keep.ensures

pub returns-then-not-has-clause-behind : goal.returns-then-not-has-clause-behind
returns-then-not-has-clause-behind c =
    let none : has c.args.unknown c.args.row ≡ false = search rules in
    kept_behind c.keep.result c.args.unknown c.args.made.now.items c.args.kept.now.items c.keep.new.rows.items c.args.row none
    c.keep.ensures

pub returns-clause-told : goal.returns-clause-told
returns-clause-told c =
    on_ok c.admit_made.result _ _ c.admit_made.ensures.told
    (together_told c.args.made.now.items c.args.kept.now.items c.admit_made.new.made.items c.admit_made.new.kept.items c.args.row)

pub returns-clause-behind : goal.returns-clause-behind
returns-clause-behind c =
    let there : has c.args.unknown c.args.row ≡ true = search rules in
    on_ok c.admit_made.result _ _ c.admit_made.ensures.told
    (made_behind c.args.unknown c.args.made.now.items c.args.kept.now.items c.admit_made.new.made.items c.admit_made.new.kept.items
    c.args.row there)
