use Rattle.std.proofs.Common.{None, Some, inl, inr, sym, ◌∙◌, arith, rules}
use Rattle.acc_commands_inputs.proofs.Workers.{number_found, numeral_read, other_numeral}
use Rattle.acc_commands_inputs.proofs.numbers.number_of.Goals as goal
use Rattle.acc_commands_inputs.proofs.numbers.number_of.Goals.{else-is_within-via-then-is_within+else-is_numeral_of, else-is_within-via-else-is_within}

pub returns-in_default-clause-meaning : goal.returns-in_default-clause-meaning
returns-in_default-clause-meaning c n few is =
    c.in_default.not-Ok n (numeral_read c.args.least c.args.most c.args.word.now n c.parse.result (omega arith) c.parse.ensures.value.0 few is)

pub returns-in_default-clause-value : goal.returns-in_default-clause-value
returns-in_default-clause-value c =
    number_found c.args.least c.args.most c.args.word.now None (omega arith) (returns-in_default-clause-meaning c)

pub returns-else-is_within-clause-meaning : goal.returns-else-is_within-clause-meaning
returns-else-is_within-clause-meaning c =
    other_numeral c.args.least c.args.most c.args.word.now c.in-Ok.number c.parse.result (omega arith) c.parse.ensures.value.0 c.in-Ok.is
    (elim c.else-is_within.branch [
      | else-is_within-via-then-is_within+else-is_numeral_of w ↦ inr (sym w.is_numeral_of.ensures ∙ w.if-is_numeral_of.false)
      | else-is_within-via-else-is_within w ↦ inl (sym c.is_within.ensures ∙ w.if-is_within.false)
    ])

pub returns-else-is_within-clause-value : goal.returns-else-is_within-clause-value
returns-else-is_within-clause-value c =
    number_found c.args.least c.args.most c.args.word.now None (omega arith) (returns-else-is_within-clause-meaning c)

pub returns-then-is_numeral_of-clause-meaning : goal.returns-then-is_numeral_of-clause-meaning
returns-then-is_numeral_of-clause-meaning c = search rules

pub returns-then-is_numeral_of-clause-value : goal.returns-then-is_numeral_of-clause-value
returns-then-is_numeral_of-clause-value c =
    number_found c.args.least c.args.most c.args.word.now (Some c.in-Ok.number) (omega arith)
    (returns-then-is_numeral_of-clause-meaning c)
