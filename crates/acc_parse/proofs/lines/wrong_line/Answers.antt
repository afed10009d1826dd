use Rattle.std.proofs.Common.{◌≡◌, ◌+◌, ◌-◌, rules, length, arith, sym, ap, subst}
use Rattle.acc_lex.proofs.WholeTexts.{one_reading}
use Rattle.acc_parse_statements.specs.Lines.{feeds}
use Rattle.acc_parse.proofs.WrongLines.{IsAt, at_start, at_next, wrong_here, wrong_at_end}
use Rattle.acc_parse.proofs.lines.wrong_line.Goals as goal

pub loop-first-init : goal.loop-first-init
loop-first-init c = at_start c.args.text.now c.args.good

-- a line with a word behind the good ones
pub returns-in_default-2 : goal.returns-in_default-2
returns-in_default-2 c =
    let counted = rw c.in-Some-2.is at c.in_ok-len.ensures in
    wrong_here c.args.text.now c.loop-first.rest.now c.in-Some.first.now c.in-Some.behind.now c.loop-first.line c.loop-first.left
    c.args.good c.requires.wrong c.requires.judged c.loop-first.invariant c.in-Some.ensures
    (λ w k. omega (arith, c.if-len-left.false, counted.2, ap length (one_reading c.in-Some.first.now w counted.0 k counted.1)))

-- a line that is no words
pub returns-in_default-2-2 : goal.returns-in_default-2-2
returns-in_default-2-2 c =
    let none = rw c.in_default-2.is at c.in_ok-len.ensures in
    wrong_here c.args.text.now c.loop-first.rest.now c.in-Some.first.now c.in-Some.behind.now c.loop-first.line c.loop-first.left
    c.args.good c.requires.wrong c.requires.judged c.loop-first.invariant c.in-Some.ensures
    (λ w k. absurd (none w k))

pub loop-first-preserved : goal.loop-first-preserved
loop-first-preserved c =
    let counted = rw c.in-Some-2.is at c.in_ok-len.ensures in
    let is = at_next c.args.text.now c.loop-first.rest.now c.in-Some.first.now c.in-Some.behind.now counted.0 c.loop-first.line
    c.loop-first.left c.args.good c.loop-first.invariant c.in-Some.ensures counted.1 (omega (arith, c.if-len-left.true, counted.2)) in
    subst (λ z. IsAt c.args.text.now c.in-Some.behind.now (c.loop-first.line + 1) (c.loop-first.left - z) c.args.good) (sym counted.2) is

-- no line feed is left
pub returns : goal.returns
returns c =
    let none : feeds c.loop-first.rest.now ≡ 0 = search rules in
    wrong_at_end c.args.text.now c.loop-first.rest.now c.loop-first.line c.loop-first.left c.args.good c.requires.wrong c.requires.judged
    c.loop-first.invariant none
