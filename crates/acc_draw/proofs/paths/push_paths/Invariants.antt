-- What is written so far, and then the paths that are left, is all of it.
use Rattle.acc_page.specs.Written.{Owes}
use Rattle.std.proofs.Common.{suc, drop}
use Rattle.acc_draw.specs.Pictures.{path_lines_from}
use Rattle.acc_draw.proofs.paths.push_paths.Given as goal

abbrev pub invariant-loop-i : goal.invariant-loop-i
invariant-loop-i l =
    Owes l.fn.out l.out (path_lines_from l.ty l.point l.side (suc l.i) (drop l.i l.paths))
    (path_lines_from l.ty l.point l.side 1 l.paths)
