use Rattle.std.proofs.Common.{◌≡◌, refl, sym, ap, ◌∙◌, ℕ, List, [], Bool, false, Some, rules}
use Rattle.std.specs.Prelude.{nat_lt}
use Rattle.std.proofs.lemmas.Bool.Decides.{nat_tests}
use Rattle.acc_engine.specs.Keeping.{is_begun}
use Rattle.acc_beside.proofs.Beside.{serves_first}
use Rattle.acc_threads.specs.Crews.{script_of}
use Rattle.acc_threads.proofs.crew.table_for.Goals as goal

none_begun : (marks : List Bool) → marks ≡ [] → (p : ℕ) → is_begun marks p ≡ nat_lt p 0
none_begun marks is p =
    let none : nat_lt p 0 ≡ false = search (rules, nat_tests) in
    ap (λ (m : List Bool). is_begun m p) is ∙ sym none

pub returns-clause-serves : goal.returns-clause-serves
returns-clause-serves g c =
    let e = c.args.engine.now in
    serves_first g.D.Disk.clock g.D.Disk.left_since g.D.Disk.told g.D.Disk.may_leave g.D.Disk.faults g.met.D.Disk.only_now
    (script_of e) e.state.events (Some e) e refl refl (refl, refl) (none_begun e.begun c.requires.fresh) c.state.ensures.kept
