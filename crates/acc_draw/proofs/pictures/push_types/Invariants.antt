-- What is written so far, and then the types that are left, is all of it.
use Rattle.acc_page.specs.Written.{Owes}
use Rattle.std.proofs.Common.{drop}
use Rattle.std.specs.List.{flat_map}
use Rattle.acc_draw.specs.Pictures.{type_picture}
use Rattle.acc_draw.proofs.pictures.push_types.Given as goal

abbrev pub invariant-loop-ty : goal.invariant-loop-ty
invariant-loop-ty l = Owes l.fn.out l.out (flat_map type_picture (drop l.ty-index l.types)) (flat_map type_picture l.types)
