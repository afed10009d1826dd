use Rattle.std.proofs.Common.{sym, ◌∙◌}
use Rattle.std.proofs.lemmas.Result.{err_from_is_err_and}
use Rattle.acc_script.proofs.CallSteps.{no_parameters, no_tape, no_ask}
use Rattle.acc_script.proofs.Refusals.{handed_on}
use Rattle.acc_script.proofs.scripts.read_call.Goals as goal

pub returns-in_err-params-clause-refused : goal.returns-in_err-params-clause-refused
returns-in_err-params-clause-refused c =
    let p = err_from_is_err_and c.from_residual.result c.from_residual.ensures.1 in
    λ h call. no_parameters c.args.d.now c.args.line.now c.in-Some.name.now c.next.new.self c.in-Some-called_type.ty
    c.in-Some-called_type.count call (sym c.new-words.ensures ∙ c.in-Some.ensures) c.in-Some-called_type.ensures.some
    (c.in_err-params.ensures.refused (handed_on c.from_residual.result p.0 c.in_err-params.field-0.0 p.1 p.2 h))

pub returns-in_err-tape-clause-refused : goal.returns-in_err-tape-clause-refused
returns-in_err-tape-clause-refused c =
    let p = err_from_is_err_and c.from_residual-in_err-tape.result c.from_residual-in_err-tape.ensures.1 in
    λ h call. no_tape c.args.d.now c.args.line.now c.in-Some.name.now c.in-Some-called_type.ty c.in-Some-called_type.count
    c.in_ok-params.params c.parameters.new.words call
    (record {
      behind = c.next.new.self;
      words = sym c.new-words.ensures ∙ c.in-Some.ensures;
      called = c.in-Some-called_type.ensures.some;
      read = c.in_ok-params.ensures.read;
      fits = c.in_ok-params.ensures.ok;
    })
    (c.in_err-tape.ensures.refused (handed_on c.from_residual-in_err-tape.result p.0 c.in_err-tape.field-0.0 p.1 p.2 h))

pub returns-in_err-ask-clause-refused : goal.returns-in_err-ask-clause-refused
returns-in_err-ask-clause-refused c =
    let p = err_from_is_err_and c.from_residual-in_err-ask.result c.from_residual-in_err-ask.ensures.1 in
    λ h call. no_ask c.args.d.now c.args.line.now c.in-Some.name.now c.in-Some-called_type.ty c.in-Some-called_type.count
    c.in_ok-params.params c.parameters.new.words c.in_ok-tape.tape c.tape.new.words call
    (record {
      behind = c.next.new.self;
      words = sym c.new-words.ensures ∙ c.in-Some.ensures;
      called = c.in-Some-called_type.ensures.some;
      read = c.in_ok-params.ensures.read;
      fits = c.in_ok-params.ensures.ok;
    })
    c.in_ok-tape.ensures.only
    (c.in_err-ask.ensures.refused (handed_on c.from_residual-in_err-ask.result p.0 c.in_err-ask.field-0.0 p.1 p.2 h))
