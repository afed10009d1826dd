use Rattle.std.proofs.Common.{◌≡◌, ◌+◌, ◌++◌, drop}
use Rattle.acc_oblig.specs.Settings.{all_read_hyps, first_now}
use Rattle.acc_oblig_assumptions.specs.Seen.{seen}
use Rattle.acc_oblig_assumptions.proofs.settings.add_all_read_hyps.Given as goal

abbrev pub invariant-loop-r : goal.invariant-loop-r
invariant-loop-r l =
    record {
      x : l.x ≡ l.s.locals + 1 + l.r-index;
      out :
          l.out ++ all_read_hyps l.s.locals l.vars l.now l.x (drop l.r-index l.s.reads.now)
          ≡ l.fn.out ++ all_read_hyps l.s.locals l.vars (first_now (seen l.s)) (l.s.locals + 1) l.s.reads.now;
    }
