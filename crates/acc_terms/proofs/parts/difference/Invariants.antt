use Rattle.std.proofs.Common.{◌≡◌}
use Rattle.std.specs.Prelude.{All}
use Rattle.acc_terms.specs.Parts.{IsTermSized, difference}
use Rattle.acc_terms.proofs.parts.difference.Given as goal

-- the terms so far
abbrev pub invariant-loop-part : goal.invariant-loop-part
invariant-loop-part g l =
    record {
      so_far : l.left ≡ difference l.fn.left l.yielded;
      small : All IsTermSized l.left;
    }
