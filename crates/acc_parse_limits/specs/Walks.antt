-- What a walk over a design keeps of the marks that it met. Only the code that meets limits speaks of this, here, in acc_parse_clauses and
-- in acc_parse_meaning; Statements and Faults say what they are.
use Rattle.std.specs.Prelude.{◌+◌, ◌-◌, ◌^◌, Bool, ◌&&◌, List, if◌then◌else◌, nat_lt, nat_le, fold}
use Rattle.acc_base.specs.Leasts.{better}
use Rattle.acc_parse_limits.specs.declared.walks.Walk.{Walk}
use Rattle.acc_parse_limits.specs.Numbers.{is_lower, is_before}
use Rattle.acc_parse_limits.specs.Marks.{Mark, Past, End}

-- the walk that has met the mark too; the last number of a statement is 2^64 - 1
unfoldable pub noted : Walk → Mark → Walk
noted w (Past l) = record w {
  first = better is_before w.first (w.statement, l);
  lowest = if nat_le w.from w.statement && nat_lt w.statement w.to then better is_lower w.lowest l else w.lowest;
}
noted w End = record w { statement = if nat_lt w.statement (2 ^ 64 - 1) then w.statement + 1 else w.statement }

-- the walk that has met the marks too
abbrev pub after : Walk → List Mark → Walk
after w ms = fold noted w ms
