use Rattle.std.proofs.Common.{◌≡◌, ◌+◌, drop}
use Rattle.acc_oblig.specs.Settings.{step_vars}
use Rattle.acc_oblig.specs.Ranges.{read_numbers, setting_numbers}
use Rattle.acc_oblig_clauses.specs.Seen.{seen}
use Rattle.acc_oblig_ranges.specs.declared.found.Found.{Found}
use Rattle.acc_oblig_ranges.specs.declared.read_numbers.ReadNumber.{ReadNumber}
use Rattle.acc_oblig_ranges.specs.Numbers.{StandsAt, seen_read}
use Rattle.acc_oblig_ranges.proofs.read_numbers.among_reads.Given as goal

abbrev pub invariant-loop-i : goal.invariant-loop-i
invariant-loop-i l =
    record {
      x : l.x ≡ l.s.locals + 1 + l.i;
      on :
          (f : Found ReadNumber) → StandsAt seen_read (read_numbers l.s.locals l.vars l.now l.x l.i (drop l.i l.s.reads.now)) l.left f
          → StandsAt seen_read (setting_numbers (seen l.s) (step_vars (seen l.s))) l.place f;
    }
