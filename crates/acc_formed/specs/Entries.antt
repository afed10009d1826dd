-- Rules 14, 15 and 16: what entries may name.
use Rattle.std.specs.Prelude.{ℕ, Bool, true, false, not, ◌&&◌, ◌==◌, List, Option, Some, None, slice_get}
use Rattle.std.specs.List.{list_all}
use Rattle.acc_base.specs.declared.steps.Read.{Read}
use Rattle.acc_base.specs.declared.designs.Point.{Point}
use Rattle.acc_base.specs.declared.designs.TxType.{TxType}
use Rattle.acc_base.specs.declared.designs.At.{At}
use Rattle.acc_base.specs.declared.designs.Side.{Side}
use Rattle.acc_base.specs.declared.designs.Side.TheVariants.{Next, Undo}
use Rattle.acc_base.specs.declared.designs.Entry.{Entry}
use Rattle.acc_base.specs.Reads.{assigned}

-- ---- rule 14: the held point is no start point, and the step no start point's undo

-- the undo side
abbrev pub is_undo : Side → Bool
is_undo Next = false
is_undo Undo = true

-- points are numbered from 0, which is a type's start
abbrev pub leaves_starts : Entry → Bool
leaves_starts e = not (e.held.point == 0) && not ((e.step.point == 0) && is_undo e.side)

-- ---- rule 15: no two entries have the same held point, step and side

-- two points are the same one
abbrev pub same_point : At → At → Bool
same_point a b = (a.ty == b.ty) && (a.point == b.point)

-- two sides are the same one
abbrev pub same_side : Side → Side → Bool
same_side Next Next = true
same_side Undo Undo = true
same_side Next Undo = false
same_side Undo Next = false

-- two entries agree in point, step and side, whatever their pairs
abbrev pub same_entry : Entry → Entry → Bool
same_entry e f = same_point e.held f.held && same_point e.step f.step && same_side e.side f.side

-- ---- rule 16: no undo step of its type assigns a local that stands in a pair

-- a read assigns another local
abbrev pub read_keeps : ℕ → Read → Bool
read_keeps x r = not (assigned r == x)

-- each read of a point's undo step does
abbrev pub undo_keeps : ℕ → Point → Bool
undo_keeps x p = list_all (read_keeps x) p.undo.reads

-- each undo step of a type does
abbrev pub undos_keep : Option TxType → ℕ → Bool
undos_keep None x = false
undos_keep (Some t) x = list_all (undo_keeps x) t.points

-- the two locals of a pair
abbrev pub pair_stays : List TxType → Entry → ℕ × ℕ → Bool
pair_stays types e p = undos_keep (slice_get types e.held.ty) p.0 && undos_keep (slice_get types e.step.ty) p.1

-- all pairs of an entry
abbrev pub pairs_stay : List TxType → Entry → Bool
pairs_stay types e = list_all (pair_stays types e) e.pairs
