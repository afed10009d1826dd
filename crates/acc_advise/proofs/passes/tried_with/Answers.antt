use Rattle.std.proofs.Common.{◌∙◌, ◌∷◌, [], ◌++◌}
use Rattle.acc_advise.proofs.Growing.{keyed_small, told_keyed, never_wide}
use Rattle.acc_advise.proofs.passes.tried_with.Goals as goal

pub tried-requires-clause-entries : goal.tried-requires-clause-entries
tried-requires-clause-entries g c =
    keyed_small c.args.case.now.question c.args.pairs.now c.args.pair c.as_slice.result.now c.requires.set c.requires.one
    (c.as_slice.ensures ∙ c.in_ok-entries.ensures)

pub returns-in-Ok : goal.returns-in-Ok
returns-in-Ok g c =
    told_keyed c.args.case.now (c.args.pairs.now ++ c.args.pair ∷ []) c.as_slice.result.now c.in-Ok.trial
    (c.as_slice.ensures ∙ c.in_ok-entries.ensures) c.in-Ok.ensures.0

pub unreachable-requires : goal.unreachable-requires
unreachable-requires g c =
    never_wide c.args.case.now c.args.pairs.now c.args.pair c.as_slice.result.now c.in-Err-Wide.field-0
    c.in-Err-Wide.field-0-0 c.requires.narrow (c.as_slice.ensures ∙ c.in_ok-entries.ensures) c.in-Err-Wide.field-0-is c.in-Err-Wide.ensures
