use Rattle.std.proofs.Common.{◌∙◌, sym, ap, arith}
use Rattle.std.specs.Prelude.{option_copied}
use Rattle.std.proofs.lemmas.List.{drop_all}
use Rattle.acc_base.specs.Tables.{Place}
use Rattle.acc_step.specs.Overlay.{columns_after}
use Rattle.acc_step.proofs.Overlays.{columns_are}
use Rattle.acc_step.proofs.lookups.columns_now.Goals as goal

pub returns-clause-value : goal.returns-clause-value
returns-clause-value g c =
    let p : Place = (c.args.table, c.args.key.now) in
    let ws = c.args.writes.now in
    ap (λ vs. columns_after p vs (option_copied c.loop-write.cols)) (sym (drop_all c.loop-write.write-index ws (omega arith))) ∙
    c.loop-write.invariant.rest ∙ columns_are p ws (g.S.Store.rows c.args.s.now) c.requires.order
