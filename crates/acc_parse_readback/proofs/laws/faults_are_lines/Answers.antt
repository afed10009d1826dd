use Rattle.acc_parse_readback.proofs.RuleLines.{fault_line}
use Rattle.acc_parse_readback.proofs.JudgedLines.{judged_line}
use Rattle.acc_parse_readback.proofs.laws.faults_are_lines.Goals as goal

pub returns-clause-statement : goal.returns-clause-statement
returns-clause-statement c = λ d rule at h j. fault_line d h rule at j

pub returns-clause-text : goal.returns-clause-text
returns-clause-text c = λ d rule at h j. judged_line d h rule at j
