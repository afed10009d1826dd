use Rattle.std.proofs.Common.{◌≡◌, List, ap, ◌∙◌}
use Rattle.std.specs.Prelude.{Some, Option}
use Rattle.std.proofs.lemmas.Result.{IfOk-weaker}
use Rattle.acc_base.specs.declared.forms.Rel.{Rel}
use Rattle.acc_oblig.specs.Spares.{entry_for}
use Rattle.acc_oblig_clauses.specs.Seen.{seen}
use Rattle.acc_oblig_paths.specs.Openings.{open_by}
use Rattle.acc_oblig_paths.proofs.entries.open_by.Goals as goal

pub returns-in-Some : goal.returns-in-Some
returns-in-Some c =
    let s = seen c.args.s.now in
    let side = c.args.q.now.side in
    let entry = entry_for c.args.entries.now c.args.held c.args.q.now.at side in
    IfOk-weaker c.open_by_entry.result (λ (o : Option (List Rel)). o ≡ open_by s side (Some c.in-Some.e.now))
    (λ (o : Option (List Rel)). o ≡ open_by s side entry)
    (λ o h. h ∙ ap (open_by s side) c.in-Some.ensures.value) c.open_by_entry.ensures
