-- Kinds of axioms and their numbers.
use Rattle.std.proofs.Common.{◌≡◌, Some, refl}
use Rattle.acc_axioms.specs.declared.kinds.AxiomKind.{AxiomKind}
use Rattle.acc_axioms.specs.declared.kinds.AxiomKind.TheVariants.{Has, Count, Front, Same, NoCol, NoSum, OneCount, OneSum, Opened, Shut}
use Rattle.acc_axioms.specs.declared.kinds.AxiomKind.TheVariants.{Empty, Fresh}
use Rattle.acc_axioms.specs.Kinds.{axiom_number, kind_numbered}

-- the kind with the number of a kind is that kind
pub number_known : (k : AxiomKind) → kind_numbered (axiom_number k) ≡ Some k
unfolding kind_numbered
number_known Has = refl
number_known Count = refl
number_known Front = refl
number_known Same = refl
number_known NoCol = refl
number_known NoSum = refl
number_known OneCount = refl
number_known OneSum = refl
number_known Opened = refl
number_known Shut = refl
number_known Empty = refl
number_known Fresh = refl
