-- What a walk over a design keeps of the marks that it met.
-- Only the code speaks of this; Statements and Faults say what is broken where.
use Rattle.std.specs.Prelude.{List, fold}
use Rattle.acc_base.specs.Leasts.{better}
use Rattle.acc_form.specs.declared.walks.Walk.{Walk}
use Rattle.acc_form.specs.Marks.{Mark, Broken, End}
use Rattle.acc_form.specs.Faults.{next_line, is_before}

-- the walk that has met the mark too
unfoldable pub noted : Walk → Mark → Walk
noted w (Broken rule) = record w { first = better is_before w.first (rule, w.line) }
noted w End = record w { line = next_line w.line }

-- the walk that has met the marks too
abbrev pub after : Walk → List Mark → Walk
after w ms = fold noted w ms
