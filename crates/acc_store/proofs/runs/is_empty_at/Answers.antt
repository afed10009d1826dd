use Rattle.std.proofs.Common.{◌∙◌, sym, ap, Some}
use Rattle.std.specs.Option.{option_copied}
use Rattle.std.specs.BTreeMap.{is_at as at}
use Rattle.acc_base.specs.Tables.{place_cmp}
use Rattle.std.proofs.lemmas.List.{nil_from_length}
use Rattle.acc_store.proofs.Laid.{seen_found}
use Rattle.acc_store.proofs.runs.is_empty_at.Goals as goal

pub returns-in-Some : goal.returns-in-Some
returns-in-Some c = λ empty.
    let run = c.in-Some.run'.now in
    seen_found (at (place_cmp c.args.key.now)) c.args.runs.now.entries run (sym c.get.ensures.value ∙ ap option_copied c.in-Some.is) ∙
    ap Some (nil_from_length run.entries (c.is_empty.ensures.0 empty))
