use Rattle.std.proofs.Common.{◌∙◌}
use Rattle.acc_accept.proofs.Judging.{judged_by}
use Rattle.acc_accept.proofs.acceptance.judge_proofs.Goals as goal

pub returns : goal.returns
returns c =
    judged_by c.args.d.now c.args.certificate.now c.as_slice.result.now c.as_slice-2.result.now c.prove_all.result c.requires
    c.in_ok-sequents.ensures.1 (c.as_slice.ensures ∙ c.in_ok-sequents.ensures.0) c.as_slice-2.ensures c.prove_all.ensures
