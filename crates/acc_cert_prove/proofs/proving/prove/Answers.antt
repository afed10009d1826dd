use Rattle.std.proofs.Common.{◌∙◌}
use Rattle.acc_cert_prove.proofs.Judging.{all_told_if}
use Rattle.acc_cert_prove.proofs.proving.prove.Goals as goal

pub returns-in-Ok : goal.returns-in-Ok
returns-in-Ok g c =
    all_told_if c.args.d.now c.as_slice.result.now c.prove_all.result c.requires.formed (c.as_slice.ensures ∙ c.in-Ok.ensures.0)
    c.in-Ok.ensures.1 c.prove_all.ensures
