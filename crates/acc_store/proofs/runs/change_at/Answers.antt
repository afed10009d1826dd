use Rattle.std.proofs.Common.{◌∙◌, sym, ap, subst, [], refl}
use Rattle.std.specs.Prelude.{IfSome}
use Rattle.std.specs.Option.{option_copied_mut}
use Rattle.std.specs.Map.{lookup}
use Rattle.std.specs.BTreeMap.{is_at as at}
use Rattle.acc_base.specs.Tables.{place_cmp}
use Rattle.acc_base.proofs.Places.{place_total}
use Rattle.acc_store.specs.Runs.{seen, joined, IsLaid, Alters}
use Rattle.acc_store.specs.Rows.{entry_at}
use Rattle.acc_store.specs.Changes.{CanChange, HasChanged}
use Rattle.acc_store.proofs.Laid.{run_found, same_run, no_run, seen_written, found_nowhere, found_in_run, changed_in_run, match_none}
use Rattle.acc_store.proofs.runs.change_at.Goals as goal

pub returns-in_default-clause-altered : goal.returns-in_default-clause-altered
returns-in_default-clause-altered c =
    let rs = seen c.args.runs.now.entries in
    match_none _ (entry_at c.args.place.now (joined rs)) (found_nowhere place_total c.args.place.now rs c.requires.laid
    c.in_default.ensures) refl

pub change_in-requires : goal.change_in-requires
change_in-requires c =
    let rs = c.args.runs.now.entries in
    let run = c.in-Some.ensures in
    let same = same_run (at (place_cmp c.in-Some.key)) rs run.0 c.in-Some-get_mut.run'.now
    (run_found place_total c.args.place.now (seen rs) c.in-Some.key run.0 c.requires.laid run.1)
    (sym c.get_mut.ensures.value ∙ ap option_copied_mut c.in-Some-get_mut.is) in
    record {
      can = subst (λ f. IfSome f (CanChange c.args.change.now)) (found_in_run place_total c.args.place.now (seen rs) c.in-Some.key run.0
          c.requires.laid run.1 ∙
          ap (lookup (at (place_cmp c.args.place.now))) same) c.requires.can;
    }

pub returns-in-Some-get_mut-clause-altered : goal.returns-in-Some-get_mut-clause-altered
returns-in-Some-get_mut-clause-altered c =
    let rs = c.args.runs.now.entries in
    let run = c.in-Some.ensures in
    let new = c.change_in.new.run in
    let test = at (place_cmp c.in-Some.key) in
    let same = same_run test rs run.0 c.in-Some-get_mut.run'.now (run_found place_total c.args.place.now (seen rs) c.in-Some.key run.0
    c.requires.laid run.1)
    (sym c.get_mut.ensures.value ∙ ap option_copied_mut c.in-Some-get_mut.is) in
    let P = HasChanged c.args.change.now c.change_in.result in
    subst (λ l. Alters c.args.place.now P (joined (seen rs)) (joined l))
    (sym (seen_written test rs (c.get_mut.follows.lender new).entries new (c.get_mut.follows.holds new).0))
    (changed_in_run place_total c.args.place.now (seen rs) c.in-Some.key run.0 c.requires.laid run.1 P new.entries
    (subst (λ l. Alters c.args.place.now P l new.entries) (sym same) c.change_in.ensures)).0

pub returns-in-Some-get_mut-clause-laid : goal.returns-in-Some-get_mut-clause-laid
returns-in-Some-get_mut-clause-laid c =
    let rs = c.args.runs.now.entries in
    let run = c.in-Some.ensures in
    let new = c.change_in.new.run in
    let test = at (place_cmp c.in-Some.key) in
    let same = same_run test rs run.0 c.in-Some-get_mut.run'.now (run_found place_total c.args.place.now (seen rs) c.in-Some.key run.0
    c.requires.laid run.1)
    (sym c.get_mut.ensures.value ∙ ap option_copied_mut c.in-Some-get_mut.is) in
    let P = HasChanged c.args.change.now c.change_in.result in
    subst (IsLaid place_cmp []) (sym (seen_written test rs (c.get_mut.follows.lender new).entries new (c.get_mut.follows.holds new).0))
    (changed_in_run place_total c.args.place.now (seen rs) c.in-Some.key run.0 c.requires.laid run.1 P new.entries
    (subst (λ l. Alters c.args.place.now P l new.entries) (sym same) c.change_in.ensures)).1

pub returns-in-None-clause-altered : goal.returns-in-None-clause-altered
returns-in-None-clause-altered c =
    let rs = c.args.runs.now.entries in
    let run = c.in-Some.ensures in
    absurd (no_run (at (place_cmp c.in-Some.key)) rs run.0 (run_found place_total c.args.place.now (seen rs) c.in-Some.key run.0
    c.requires.laid run.1)
    (sym c.get_mut.ensures.value ∙ ap option_copied_mut c.in-None.is))
