-- What is written so far, and then the entries that are left, is all of it.
use Rattle.acc_page.specs.Written.{Owes}
use Rattle.std.proofs.Common.{drop}
use Rattle.std.specs.List.{flat_map}
use Rattle.acc_draw.specs.Pictures.{entry_arrow}
use Rattle.acc_draw.proofs.pictures.push_entries.Given as goal

abbrev pub invariant-loop-entry : goal.invariant-loop-entry
invariant-loop-entry l =
    Owes l.fn.out l.out (flat_map (entry_arrow l.d) (drop l.entry-index l.entries)) (flat_map (entry_arrow l.d) l.entries)
