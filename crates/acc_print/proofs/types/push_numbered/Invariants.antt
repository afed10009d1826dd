-- What is written so far, and then the names that are left, is all of it.
use Rattle.acc_page.specs.Written.{Owes}
use Rattle.std.proofs.Common.{drop, map}
use Rattle.std.specs.List.{flat_map}
use Rattle.acc_print.specs.Lists.{spaced}
use Rattle.acc_print.specs.Names.{name_at}
use Rattle.acc_print.proofs.types.push_numbered.Given as goal

abbrev pub invariant-loop-place : goal.invariant-loop-place
invariant-loop-place l =
    Owes l.fn.out l.out (flat_map spaced (map (name_at l.names) (drop l.place-index l.places)))
    (flat_map spaced (map (name_at l.names) l.places))
