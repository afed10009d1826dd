use Rattle.std.proofs.Common.{◌≡◌, ◌+◌, Err, ap, ◌∙◌, sym, arith}
use Rattle.acc_script.specs.Pieces.{lines_of}
use Rattle.acc_script.specs.CallLines.{FitsType, SaysCall, most_calls}
use Rattle.acc_script.specs.declared.errors.ScriptError.TheVariants as script_error
use Rattle.acc_script.proofs.LineSteps.{next_number, one_skipped, one_said, one_refused, refused_none, all_read, one_said_by, holds_of_all}
use Rattle.acc_script.proofs.CallSteps.{says_one, says_fitting}
use Rattle.acc_script.proofs.Refusals.{named_line}
use Rattle.acc_script.proofs.Sizes.{script_short}
use Rattle.acc_script.proofs.scripts.calls.Goals as goal

pub overflow_add-count : goal.overflow_add-count
overflow_add-count c =
    let n = next_number (SaysCall c.args.d.now) most_calls c.args.text.now c.next.new.self c.in-Some.line.now c.loop-line.count
    c.loop-line.calls (rw c.in-Some.ensures at c.loop-line.invariant) in
    omega (arith, n)

pub returns-in-Err-clause-none : goal.returns-in-Err-clause-none
returns-in-Err-clause-none c = λ n is asked.
    let named = named_line c.in-Err.e c.at.result (c.loop-line.count + 1) n c.at.ensures.refused c.at.ensures.memory
    (let same : c.at.result ≡ script_error.Line n = cc in same) in
    refused_none (SaysCall c.args.d.now) (says_one c.args.d.now) most_calls c.args.text.now (c.loop-line.count + 1)
    (one_refused (SaysCall c.args.d.now) most_calls c.args.text.now c.next.new.self c.in-Some.line.now c.loop-line.count
    c.loop-line.calls (rw c.in-Some.ensures at c.loop-line.invariant) (sym c.is_skipped.ensures ∙ c.if-not-is_skipped.true)
    (c.push_call.ensures.refused (c.in-Err.is ∙ ap (λ e. Err e) named.0))) asked

pub loop-line-preserved-in_default-push_call : goal.loop-line-preserved-in_default-push_call
loop-line-preserved-in_default-push_call c =
    one_said (SaysCall c.args.d.now) most_calls (lines_of c.args.text.now) c.next.new.self c.in-Some.line.now c.loop-line.count
    c.loop-line.calls c.push_call.new.calls (rw c.in-Some.ensures at c.loop-line.invariant)
    (sym c.is_skipped.ensures ∙ c.if-not-is_skipped.true) c.in_default-push_call.ensures.ok

pub loop-line-preserved : goal.loop-line-preserved
loop-line-preserved c =
    one_skipped (SaysCall c.args.d.now) most_calls (lines_of c.args.text.now) c.next.new.self c.in-Some.line.now c.loop-line.count
    c.loop-line.calls (rw c.in-Some.ensures at c.loop-line.invariant) (sym c.is_skipped.ensures ∙ c.if-not-is_skipped.false)

pub returns-clause-only : goal.returns-clause-only
returns-clause-only c = λ asked whole.
    one_said_by (SaysCall c.args.d.now) (says_one c.args.d.now) most_calls c.args.text.now c.loop-line.calls asked
    (all_read (SaysCall c.args.d.now) most_calls c.args.text.now c.loop-line.count c.loop-line.calls
    (rw c.in_default.ensures.0 at c.loop-line.invariant)) whole

pub returns-clause-fits : goal.returns-clause-fits
returns-clause-fits c =
    holds_of_all (SaysCall c.args.d.now) (FitsType c.args.d.now) (says_fitting c.args.d.now) most_calls c.args.text.now c.loop-line.calls
    (all_read (SaysCall c.args.d.now) most_calls c.args.text.now c.loop-line.count c.loop-line.calls
    (rw c.in_default.ensures.0 at c.loop-line.invariant))

pub returns-clause-short : goal.returns-clause-short
returns-clause-short c =
    script_short c.args.d.now c.args.text.now c.loop-line.calls
    (all_read (SaysCall c.args.d.now) most_calls c.args.text.now c.loop-line.count c.loop-line.calls
    (rw c.in_default.ensures.0 at c.loop-line.invariant))
