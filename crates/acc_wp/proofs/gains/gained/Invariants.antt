use Rattle.std.proofs.Common.{◌≡◌, ◌||◌, drop}
use Rattle.std.specs.List.{list_any}
use Rattle.acc_instanced.specs.Summands.{with_summands, are_summands_wide}
use Rattle.acc_preconditions.specs.Gains.{summands, gained, is_term_long, is_gained_wide}
use Rattle.acc_wp.proofs.gains.gained.Given as goal

abbrev pub invariant-loop-term : goal.invariant-loop-term
invariant-loop-term l =
    record {
      items : l.term-items ≡ l.form.terms;
      value : with_summands (summands l.action (drop l.term-index l.term-items)) l.gained ≡ gained l.action l.form;
      wide : (list_any (is_term_long l.action) (drop l.term-index l.term-items) || are_summands_wide
          (summands l.action (drop l.term-index l.term-items)) l.gained) ≡ is_gained_wide l.action l.form;
    }
