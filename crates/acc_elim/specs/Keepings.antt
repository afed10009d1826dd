-- What is kept of relations that were read.
use Rattle.std.specs.Prelude.{◌≤◌, ℕ, length, take, List, IfSome}
use Rattle.acc_base.specs.declared.forms.Rel.{Rel}
use Rattle.acc_elim_known.specs.declared.known.Known.{Known}
use Rattle.acc_elim_known.specs.Ends.{IsKnown}
use Rattle.acc_elim_decisions.specs.declared.reading.Reading.{Reading}
use Rattle.acc_elim.specs.declared.keeping.Kept.{Kept}
use Rattle.acc_elim_decisions.specs.Readings.{AreRead}

-- this is kept of the elimination of what was read
abbrev pub IsKept : Reading → Known → Type 0
IsKept r k = IsKnown r.rows.items (length r.names.items) k

-- this is kept of what was read, where the other is kept of so many first rows
abbrev pub IsCarriedTo : Reading → ℕ → Known → Known → Type 0
IsCarriedTo r before k l =
    (n : ℕ) → n ≤ length r.names.items → IsKnown (take before r.rows.items) n k → IsKept r l

-- the first relations were read, and this is kept of them
pub record AreKept (rels : List Rel) (k : Kept) : Type 0 where
  pub read : AreRead rels k.reading
  pub known : IfSome k.known (IsKept k.reading)
