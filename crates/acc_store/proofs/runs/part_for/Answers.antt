use Rattle.std.proofs.Common.{◌∙◌, sym, ap, subst}
use Rattle.std.specs.Option.{option_copied}
use Rattle.std.specs.BTreeMap.{is_at as at}
use Rattle.acc_base.specs.Tables.{place_cmp}
use Rattle.acc_base.proofs.Places.{place_total}
use Rattle.acc_store.specs.Runs.{seen, AreBelow}
use Rattle.acc_store.proofs.Laid.{parted_for, run_found, same_run}
use Rattle.acc_store.proofs.runs.part_for.Goals as goal

pub part-requires-clause-run : goal.part-requires-clause-run
part-requires-clause-run c =
    let rs = c.args.runs.now.entries in
    let run = c.requires.run in
    let same = same_run (at (place_cmp c.args.key.now)) rs run.0 c.in-Some.run'.now
    (run_found place_total c.args.place.now (seen rs) c.args.key.now run.0 c.requires.laid run.1)
    (sym c.get.ensures.value ∙ ap option_copied c.in-Some.is) in (
      run.0,
      parted_for place_total c.args.place.now c.parting-at.result c.args.key.now (seen rs) run.0 c.requires.laid run.1
          c.parting-at.ensures.least
          (λ q b g. c.parting-at.ensures.most q (subst (AreBelow place_cmp q) same b) g),
    )
