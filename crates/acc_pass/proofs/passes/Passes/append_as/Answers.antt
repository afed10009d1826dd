use Rattle.std.proofs.Common.{arith, sym, ◌∙◌}
use Rattle.acc_pass.proofs.Moves.{appends}
use Rattle.acc_pass.proofs.passes.Passes.append_as.Goals as goal

pub fetch_add-requires : goal.fetch_add-requires
fetch_add-requires g c =
    let one = c.args.self.now.one_word in (
      c.requires.table ∙ sym c.args.self.now.named,
      omega arith,
      appends c.args.self.now.table.shared.key g.E.Chosen.event _ _ c.args.seat.now.me c.requires.mark (omega arith) c.requires.may,
    )
