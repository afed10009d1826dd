use Rattle.std.proofs.Common.{◌≡◌, [], false, vec_len}
use Rattle.std.specs.Prelude.{All, reverse}
use Rattle.acc_base.specs.Computing.{steps}
use Rattle.acc_rows.specs.declared.rows.Row.{Row}
use Rattle.acc_elim_systems.specs.Systems.{is_constant, replaced}
use Rattle.acc_elim_systems.specs.Repetitions.{AreApart, TellsOf, told_behind}
use Rattle.acc_elim_systems.proofs.systems.replace_all.Given as goal

abbrev pub invariant-loop-row : goal.invariant-loop-row
invariant-loop-row l = record {
  so_far : steps (replaced l.fn.unknown l.equation) l.kept.items (reverse l.rest.items)
      ≡ steps (replaced l.fn.unknown l.equation) [] l.fn.rows.items;
  apart : AreApart (reverse l.rest.items);
  told : All (TellsOf l.made.items l.kept.items) (reverse l.rest.items);
  behind : (r : Row) → is_constant r ≡ false
      → told_behind l.fn.unknown l.kept.items (reverse l.rest.items) r ≡ told_behind l.fn.unknown l.made.items l.fn.rows.items r;
}

abbrev pub decreases-loop-row : goal.decreases-loop-row
decreases-loop-row l = vec_len l.rest
