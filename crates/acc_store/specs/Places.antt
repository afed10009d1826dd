-- The order of places.
use Rattle.std.specs.Prelude.{ℤ, pos, Some}
use Rattle.std.specs.Ordering.{eq_by_cmp}
use Rattle.std.specs.Cmp.{IsPartialOrder, po}
use Rattle.std.proofs.Common.{refl}
use Rattle.acc_base.specs.Tables.{place_cmp}
use Rattle.acc_base.proofs.Places.{place_total}

pub place_po : IsPartialOrder (eq_by_cmp place_cmp) (λ x y. Some (place_cmp x y))
place_po = po place_total (λ x y. refl)

-- above each part of a key
abbrev pub top : ℤ
top = pos 9223372036854775807
