-- The first place, which no place is before.
use Rattle.std.proofs.Common.{◌≡◌, ◌<◌, false, List, [], ◌∷◌, ℤ, refl, arith}
use Rattle.std.specs.declared.cmp.Ordering.{Ordering}
use Rattle.std.specs.declared.cmp.Ordering.TheVariants.{Less, Equal, Greater}
use Rattle.std.specs.Ordering.{nat_cmp, int_cmp, is_gt, ordering_then, MatchOrdering}
use Rattle.std.specs.Cmp.{ranked}
use Rattle.std.specs.Cmp.Lexicographic.{slice_cmp}
use Rattle.acc_base.specs.Tables.{Place, place_cmp}

empty_least : (xs : List ℤ) → is_gt (slice_cmp int_cmp [] xs) ≡ false
empty_least [] = refl
empty_least (x ∷ xs) = refl

pub first_least : (p : Place) → is_gt (place_cmp (0, []) p) ≡ false
first_least p = by (nat_cmp 0 p.0) (ranked 0 p.0 (nat_cmp 0 p.0) refl)
  where
    by : (o : Ordering) → MatchOrdering o (0 < p.0) (0 ≡ p.0) (p.0 < 0) → is_gt (ordering_then o (slice_cmp int_cmp [] p.1)) ≡ false
    by Less h = refl
    by Equal h = empty_least p.1
    by Greater h = absurd (omega arith)
