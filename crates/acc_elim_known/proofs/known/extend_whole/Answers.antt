use Rattle.std.proofs.Common.{◌∙◌}
use Rattle.acc_elim_known.proofs.Knowns.{extended_whole_by, none_left}
use Rattle.acc_elim_known.proofs.known.extend_whole.Goals as goal

pub returns : goal.returns
returns c = λ rows n within is.
    let whole = c.args.whole.now in
    extended_whole_by rows n c.args.unknowns whole c.from_vec.result within
    (none_left whole.unknowns c.args.unknowns _ c.requires c.if-whole-unknowns.false)
    (c.from_vec.ensures ∙ c.in_ok-left.ensures) is
