use Rattle.std.proofs.Common.{◌∙◌, sym}
use Rattle.acc_script.proofs.Decimals.{natural_answers, no_numeral}
use Rattle.acc_script.proofs.numbers.natural.Goals as goal

pub returns-then-is_numeral : goal.returns-then-is_numeral
returns-then-is_numeral c = natural_answers _ _ (sym c.is_numeral.ensures ∙ c.if-is_numeral.true) c.value_of.ensures

pub returns-else-is_numeral : goal.returns-else-is_numeral
returns-else-is_numeral c = no_numeral _ (sym c.is_numeral.ensures ∙ c.if-is_numeral.false)
