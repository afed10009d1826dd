-- Each kind of axioms is tried.
use Rattle.std.proofs.Common.{refl}
use Rattle.acc_axioms.specs.declared.kinds.AxiomKind.TheVariants.{Has, Count, Front, Same, NoCol, NoSum, OneCount, OneSum, Opened, Shut}
use Rattle.acc_axioms.specs.declared.kinds.AxiomKind.TheVariants.{Empty, Fresh}
use Rattle.acc_prover_candidates.specs.Kinds.{kinds, NamesEachKind}

pub each_named : NamesEachKind kinds
each_named Has = refl
each_named Count = refl
each_named Front = refl
each_named Same = refl
each_named NoCol = refl
each_named NoSum = refl
each_named OneCount = refl
each_named OneSum = refl
each_named Opened = refl
each_named Shut = refl
each_named Empty = refl
each_named Fresh = refl
