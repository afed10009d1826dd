use Rattle.std.proofs.Common.{◌∙◌, sym, ap, subst, []}
use Rattle.std.specs.Prelude.{IfOk, OnErr}
use Rattle.std.specs.Option.{option_copied_mut}
use Rattle.std.specs.BTreeMap.{is_at as at}
use Rattle.acc_base.specs.Tables.{place_cmp}
use Rattle.acc_base.proofs.Places.{place_total}
use Rattle.acc_store.specs.Changes.{HasRefused}
use Rattle.acc_store.specs.Landings.{Lands}
use Rattle.acc_store.specs.Runs.{seen, joined, IsLaid, Alters}
use Rattle.acc_store.proofs.Laid.{run_found, same_run, no_run, seen_written}
use Rattle.acc_store.proofs.Landed.{lands_in_run, refused_in_run, landed_laid}
use Rattle.acc_store.proofs.runs.land_at.Goals as goal

pub returns-clause-ok : goal.returns-clause-ok
returns-clause-ok c =
    let rs = c.args.runs.now.entries in
    let p = c.args.place in
    let cells = c.args.cells.now in
    let run = c.requires.run in
    let new = c.land_in.new.run in
    let test = at (place_cmp c.args.key.now) in
    let same = same_run test rs run.0 c.in-Some.run'.now (run_found place_total p (seen rs) c.args.key.now run.0 c.requires.laid run.1)
    (sym c.get_mut.ensures.value ∙ ap option_copied_mut c.in-Some.is) in
    let written = sym (seen_written test rs (c.get_mut.follows.lender new).entries new (c.get_mut.follows.holds new).0) in
    subst (λ l. IfOk c.land_in.result (λ landing. Lands p cells landing (joined (seen rs)) (joined l))) written
    (lands_in_run p (seen rs) c.args.key.now run.0 c.requires.laid run.1 cells new.entries c.land_in.result
    (subst (λ l. IfOk c.land_in.result (λ landing. Lands p cells landing l new.entries)) (sym same) c.land_in.ensures.ok))

pub returns-clause-err : goal.returns-clause-err
returns-clause-err c =
    let rs = c.args.runs.now.entries in
    let p = c.args.place in
    let cells = c.args.cells.now in
    let run = c.requires.run in
    let new = c.land_in.new.run in
    let test = at (place_cmp c.args.key.now) in
    let same = same_run test rs run.0 c.in-Some.run'.now (run_found place_total p (seen rs) c.args.key.now run.0 c.requires.laid run.1)
    (sym c.get_mut.ensures.value ∙ ap option_copied_mut c.in-Some.is) in
    let written = sym (seen_written test rs (c.get_mut.follows.lender new).entries new (c.get_mut.follows.holds new).0) in
    subst (λ l. OnErr c.land_in.result (Alters p (HasRefused cells) (joined (seen rs)) (joined l))) written
    (refused_in_run p (seen rs) c.args.key.now run.0 c.requires.laid run.1 cells new.entries c.land_in.result
    (subst (λ l. OnErr c.land_in.result (Alters p (HasRefused cells) l new.entries)) (sym same) c.land_in.ensures.err))

pub returns-clause-laid : goal.returns-clause-laid
returns-clause-laid c =
    let rs = c.args.runs.now.entries in
    let p = c.args.place in
    let cells = c.args.cells.now in
    let run = c.requires.run in
    let new = c.land_in.new.run in
    let test = at (place_cmp c.args.key.now) in
    let same = same_run test rs run.0 c.in-Some.run'.now (run_found place_total p (seen rs) c.args.key.now run.0 c.requires.laid run.1)
    (sym c.get_mut.ensures.value ∙ ap option_copied_mut c.in-Some.is) in
    let written = sym (seen_written test rs (c.get_mut.follows.lender new).entries new (c.get_mut.follows.holds new).0) in
    subst (IsLaid place_cmp []) written
    (landed_laid p (seen rs) c.args.key.now run.0 c.requires.laid run.1 cells new.entries c.land_in.result
    (subst (λ l. IfOk c.land_in.result (λ landing. Lands p cells landing l new.entries)) (sym same) c.land_in.ensures.ok)
    (subst (λ l. OnErr c.land_in.result (Alters p (HasRefused cells) l new.entries)) (sym same) c.land_in.ensures.err))

pub unreachable-requires : goal.unreachable-requires
unreachable-requires c =
    let rs = c.args.runs.now.entries in
    let run = c.requires.run in
    no_run (at (place_cmp c.args.key.now)) rs run.0 (run_found place_total c.args.place (seen rs) c.args.key.now run.0 c.requires.laid run.1)
    (sym c.get_mut.ensures.value ∙ ap option_copied_mut c.in-None.is)
