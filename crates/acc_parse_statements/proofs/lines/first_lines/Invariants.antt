use Rattle.std.proofs.Common.{◌≡◌, ◌++◌, take, drop}
use Rattle.acc_parse_statements.specs.Lines.{first_lines}
use Rattle.acc_parse_statements.proofs.lines.first_lines.Given as goal

-- what was gone over, and as many lines as are left
abbrev pub invariant-loop-i : goal.invariant-loop-i
invariant-loop-i l = first_lines l.lines l.text ≡ take l.i l.text ++ first_lines l.left (drop l.i l.text)
