use Rattle.std.proofs.Common.{◌∙◌, sym, ap, subst, []}
use Rattle.std.specs.BTreeMap.{is_at as at}
use Rattle.acc_base.specs.Tables.{place_cmp}
use Rattle.acc_store.specs.Runs.{seen, joined, IsLaid}
use Rattle.acc_store.proofs.Laid.{seen_remove, empty_joined, empty_laid}
use Rattle.acc_store.proofs.runs.forget_empty.Goals as goal

pub returns-then-is_empty_at-clause-entries : goal.returns-then-is_empty_at-clause-entries
returns-then-is_empty_at-clause-entries c =
    let rs = c.args.runs.now.entries in
    let test = at (place_cmp c.args.key.now) in
    ap (λ l. joined (seen l)) c.remove.ensures.entries ∙ ap joined (seen_remove test rs) ∙ empty_joined place_cmp test (seen rs)
    (c.is_empty_at.ensures c.if-is_empty_at.true)

pub returns-then-is_empty_at-clause-laid : goal.returns-then-is_empty_at-clause-laid
returns-then-is_empty_at-clause-laid c =
    let rs = c.args.runs.now.entries in
    let test = at (place_cmp c.args.key.now) in
    subst (IsLaid place_cmp []) (sym (ap seen c.remove.ensures.entries ∙ seen_remove test rs))
    (empty_laid place_cmp test [] (seen rs) (c.is_empty_at.ensures c.if-is_empty_at.true) c.requires.laid)
