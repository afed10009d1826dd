use Rattle.std.proofs.Common.{◌≡◌, ◌+◌, Err, ap, ◌∙◌, sym, arith}
use Rattle.acc_script.specs.Pieces.{lines_of}
use Rattle.acc_script.specs.OrderLines.{IsPlace, SaysPlaces, most_numbers}
use Rattle.acc_script.specs.declared.errors.ScriptError.TheVariants as script_error
use Rattle.acc_script.proofs.LineSteps.{next_number, one_skipped, one_said, one_refused, refused_none, all_read, one_said_by, holds_of_all}
use Rattle.acc_script.proofs.OrderSteps.{says_one}
use Rattle.acc_script.proofs.Refusals.{named_line}
use Rattle.acc_script.proofs.orders.order.Goals as goal

pub overflow_add-count : goal.overflow_add-count
overflow_add-count c =
    let n = next_number (SaysPlaces c.args.places) most_numbers c.args.text.now c.next.new.self c.in-Some.line.now c.loop-line.count
    c.loop-line.numbers (rw c.in-Some.ensures at c.loop-line.invariant) in
    omega (arith, n)

pub returns-in-Err-clause-none : goal.returns-in-Err-clause-none
returns-in-Err-clause-none c = λ n is numbers.
    let named = named_line c.in-Err.e c.at.result (c.loop-line.count + 1) n c.at.ensures.refused c.at.ensures.memory
    (let same : c.at.result ≡ script_error.Line n = cc in same) in
    refused_none (SaysPlaces c.args.places) (says_one c.args.places c.ranges.places.fits) most_numbers c.args.text.now
    (c.loop-line.count + 1) (one_refused (SaysPlaces c.args.places) most_numbers c.args.text.now c.next.new.self c.in-Some.line.now
    c.loop-line.count c.loop-line.numbers (rw c.in-Some.ensures at c.loop-line.invariant)
    (sym c.is_skipped.ensures ∙ c.if-not-is_skipped.true) (c.push_places.ensures.refused (c.in-Err.is ∙ ap (λ e. Err e) named.0)))
    numbers

pub loop-line-preserved-in_default-push_places : goal.loop-line-preserved-in_default-push_places
loop-line-preserved-in_default-push_places c =
    one_said (SaysPlaces c.args.places) most_numbers (lines_of c.args.text.now) c.next.new.self c.in-Some.line.now c.loop-line.count
    c.loop-line.numbers c.push_places.new.numbers (rw c.in-Some.ensures at c.loop-line.invariant)
    (sym c.is_skipped.ensures ∙ c.if-not-is_skipped.true) c.in_default-push_places.ensures.ok

pub loop-line-preserved : goal.loop-line-preserved
loop-line-preserved c =
    one_skipped (SaysPlaces c.args.places) most_numbers (lines_of c.args.text.now) c.next.new.self c.in-Some.line.now c.loop-line.count
    c.loop-line.numbers (rw c.in-Some.ensures at c.loop-line.invariant) (sym c.is_skipped.ensures ∙ c.if-not-is_skipped.false)

pub returns-clause-only : goal.returns-clause-only
returns-clause-only c = λ numbers whole.
    one_said_by (SaysPlaces c.args.places) (says_one c.args.places c.ranges.places.fits) most_numbers c.args.text.now c.loop-line.numbers
    numbers (all_read (SaysPlaces c.args.places) most_numbers c.args.text.now c.loop-line.count c.loop-line.numbers
    (rw c.in_default.ensures.0 at c.loop-line.invariant)) whole

pub returns-clause-within : goal.returns-clause-within
returns-clause-within c =
    holds_of_all (SaysPlaces c.args.places) (IsPlace c.args.places) (λ line xs says. says.within) most_numbers c.args.text.now
    c.loop-line.numbers (all_read (SaysPlaces c.args.places) most_numbers c.args.text.now c.loop-line.count c.loop-line.numbers
    (rw c.in_default.ensures.0 at c.loop-line.invariant))
