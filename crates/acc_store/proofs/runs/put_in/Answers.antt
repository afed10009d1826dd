use Rattle.std.proofs.Common.{◌∙◌, sym, ap, subst, []}
use Rattle.std.specs.Option.{option_copied_mut}
use Rattle.std.specs.Map.{set_value}
use Rattle.std.specs.BTreeMap.{is_at as at, insert_entry}
use Rattle.acc_base.specs.Tables.{place_cmp}
use Rattle.acc_base.proofs.Places.{place_total}
use Rattle.acc_store.specs.Runs.{seen, joined, IsLaid}
use Rattle.acc_store.proofs.Laid.{run_found, same_run, seen_same, seen_written, on_err, inserted_in_run, inserted_laid, no_run}
use Rattle.acc_store.proofs.runs.put_in.Goals as goal

pub returns-in_err-insert-in-Some-clause-err : goal.returns-in_err-insert-in-Some-clause-err
returns-in_err-insert-in-Some-clause-err c =
    let new = c.insert.new.self in
    on_err c.from_residual.result (ap joined (seen_same (at (place_cmp c.args.key.now)) c.args.runs.now.entries
    (c.get_mut.follows.lender new).entries c.in-Some.run'.now new
    (c.get_mut.follows.holds new).0 (sym c.get_mut.ensures.value ∙ ap option_copied_mut c.in-Some.is)
    c.in_err-insert-in-Some.ensures.err))

pub returns-in_err-insert-in-Some-clause-laid : goal.returns-in_err-insert-in-Some-clause-laid
returns-in_err-insert-in-Some-clause-laid c =
    let new = c.insert.new.self in
    subst (IsLaid place_cmp []) (sym (seen_same (at (place_cmp c.args.key.now)) c.args.runs.now.entries
    (c.get_mut.follows.lender new).entries c.in-Some.run'.now new
    (c.get_mut.follows.holds new).0 (sym c.get_mut.ensures.value ∙ ap option_copied_mut c.in-Some.is)
    c.in_err-insert-in-Some.ensures.err)) c.requires.laid

pub returns-clause-ok : goal.returns-clause-ok
returns-clause-ok c =
    let rs = c.args.runs.now.entries in
    let new = c.insert.new.self in
    let run = c.requires.run in
    let test = at (place_cmp c.args.key.now) in
    let same = same_run test rs run.0 c.in-Some.run'.now (run_found place_total c.args.place (seen rs) c.args.key.now run.0
    c.requires.laid run.1)
    (sym c.get_mut.ensures.value ∙ ap option_copied_mut c.in-Some.is) in
    ap joined (seen_written test rs (c.get_mut.follows.lender new).entries new (c.get_mut.follows.holds new).0 ∙
    ap (set_value test (seen rs)) (c.in_ok-insert-in-Some.ensures.entries ∙ ap
    (λ l. insert_entry place_cmp l c.args.place c.args.slot) (sym same))) ∙
    sym (inserted_in_run place_total c.args.place (seen rs) c.args.key.now run.0 c.requires.laid run.1 c.args.slot)

pub returns-clause-laid : goal.returns-clause-laid
returns-clause-laid c =
    let rs = c.args.runs.now.entries in
    let new = c.insert.new.self in
    let run = c.requires.run in
    let test = at (place_cmp c.args.key.now) in
    let same = same_run test rs run.0 c.in-Some.run'.now (run_found place_total c.args.place (seen rs) c.args.key.now run.0
    c.requires.laid run.1)
    (sym c.get_mut.ensures.value ∙ ap option_copied_mut c.in-Some.is) in
    subst (IsLaid place_cmp []) (sym (seen_written test rs (c.get_mut.follows.lender new).entries new (c.get_mut.follows.holds new).0 ∙
    ap (set_value test (seen rs)) (c.in_ok-insert-in-Some.ensures.entries ∙ ap
    (λ l. insert_entry place_cmp l c.args.place c.args.slot) (sym same))))
    (inserted_laid place_total c.args.place (seen rs) c.args.key.now run.0 c.requires.laid run.1 c.args.slot)

pub unreachable-requires : goal.unreachable-requires
unreachable-requires c =
    let rs = c.args.runs.now.entries in
    let run = c.requires.run in
    no_run (at (place_cmp c.args.key.now)) rs run.0 (run_found place_total c.args.place (seen rs) c.args.key.now run.0 c.requires.laid run.1)
    (sym c.get_mut.ensures.value ∙ ap option_copied_mut c.in-None.is)
