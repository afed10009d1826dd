use Rattle.std.proofs.Common.{◌∙◌, sym, ap, subst, []}
use Rattle.std.specs.Prelude.{is_some}
use Rattle.std.specs.Option.{option_copied_mut}
use Rattle.std.specs.Map.{lookup, set_value, remove_entry}
use Rattle.std.specs.BTreeMap.{is_at as at}
use Rattle.acc_base.specs.Tables.{place_cmp}
use Rattle.acc_base.proofs.Places.{place_total}
use Rattle.acc_store.specs.Runs.{seen, joined, IsLaid}
use Rattle.acc_store.proofs.Laid.{run_found, same_run, no_run, seen_written, found_in_run, removed_in_run, removed_laid}
use Rattle.acc_store.proofs.runs.take_from.Goals as goal

pub returns-in-Some-clause-there : goal.returns-in-Some-clause-there
returns-in-Some-clause-there c =
    let rs = c.args.runs.now.entries in
    let run = c.requires.run in
    let test = at (place_cmp c.args.key.now) in
    let same = same_run test rs run.0 c.in-Some.run'.now (run_found place_total c.args.place.now (seen rs) c.args.key.now run.0
    c.requires.laid run.1)
    (sym c.get_mut.ensures.value ∙ ap option_copied_mut c.in-Some.is) in
    c.is_some.ensures ∙ ap is_some (c.remove.ensures.value ∙ ap (lookup (at (place_cmp c.args.place.now))) (sym same) ∙
    sym (found_in_run place_total c.args.place.now (seen rs) c.args.key.now run.0 c.requires.laid run.1))

pub returns-in-Some-clause-entries : goal.returns-in-Some-clause-entries
returns-in-Some-clause-entries c =
    let rs = c.args.runs.now.entries in
    let run = c.requires.run in
    let new = c.remove.new.self in
    let test = at (place_cmp c.args.key.now) in
    let same = same_run test rs run.0 c.in-Some.run'.now (run_found place_total c.args.place.now (seen rs) c.args.key.now run.0
    c.requires.laid run.1)
    (sym c.get_mut.ensures.value ∙ ap option_copied_mut c.in-Some.is) in
    ap joined (seen_written test rs (c.get_mut.follows.lender new).entries new (c.get_mut.follows.holds new).0 ∙
    ap (set_value test (seen rs)) (c.remove.ensures.entries ∙ ap (remove_entry (at (place_cmp c.args.place.now))) (sym same))) ∙
    sym (removed_in_run place_total c.args.place.now (seen rs) c.args.key.now run.0 c.requires.laid run.1)

pub returns-in-Some-clause-laid : goal.returns-in-Some-clause-laid
returns-in-Some-clause-laid c =
    let rs = c.args.runs.now.entries in
    let run = c.requires.run in
    let new = c.remove.new.self in
    let test = at (place_cmp c.args.key.now) in
    let same = same_run test rs run.0 c.in-Some.run'.now (run_found place_total c.args.place.now (seen rs) c.args.key.now run.0
    c.requires.laid run.1)
    (sym c.get_mut.ensures.value ∙ ap option_copied_mut c.in-Some.is) in
    subst (IsLaid place_cmp []) (sym (seen_written test rs (c.get_mut.follows.lender new).entries new (c.get_mut.follows.holds new).0 ∙
    ap (set_value test (seen rs)) (c.remove.ensures.entries ∙ ap (remove_entry (at (place_cmp c.args.place.now))) (sym same))))
    (removed_laid place_total c.args.place.now (seen rs) c.args.key.now run.0 c.requires.laid run.1)

pub returns-in-None-clause-there : goal.returns-in-None-clause-there
returns-in-None-clause-there c =
    let rs = c.args.runs.now.entries in
    let run = c.requires.run in
    absurd (no_run (at (place_cmp c.args.key.now)) rs run.0 (run_found place_total c.args.place.now (seen rs) c.args.key.now run.0
    c.requires.laid run.1)
    (sym c.get_mut.ensures.value ∙ ap option_copied_mut c.in-None.is))

pub returns-in-None-clause-entries : goal.returns-in-None-clause-entries
returns-in-None-clause-entries c =
    let rs = c.args.runs.now.entries in
    let run = c.requires.run in
    absurd (no_run (at (place_cmp c.args.key.now)) rs run.0 (run_found place_total c.args.place.now (seen rs) c.args.key.now run.0
    c.requires.laid run.1)
    (sym c.get_mut.ensures.value ∙ ap option_copied_mut c.in-None.is))
