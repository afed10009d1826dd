-- The totals that a design's steps read.
use Rattle.std.specs.Prelude.{◌≡◌, Bool, false, ◌&&◌, ◌||◌, ◌==◌, List, length, Option, Some, None}
use Rattle.std.specs.List.{list_any}
use Rattle.acc_base.specs.declared.designs.Design.{Design}
use Rattle.acc_base.specs.declared.designs.Point.{Point}
use Rattle.acc_base.specs.declared.designs.TxType.{TxType}
use Rattle.acc_base.specs.declared.steps.Read.{Read}
use Rattle.acc_base.specs.declared.steps.Read.TheVariants.{Let, Col, Has, Count, Sum, Least, Greatest, Take, Mul, Div}
use Rattle.acc_index_store.specs.declared.prefixes.Prefixes.{Prefixes}

-- the totals that answer a read
abbrev pub asked_by : Read → Option Prefixes
asked_by (Let x l) = None
asked_by (Col x t k c) = None
asked_by (Has x t k) = None
asked_by (Count x t p) = Some (record { table = t; parts = length p; col = 0 })
asked_by (Sum x t p c) = Some (record { table = t; parts = length p; col = c })
asked_by (Least x t p) = None
asked_by (Greatest x t p) = None
asked_by (Take x) = None
asked_by (Mul x y z) = None
asked_by (Div x y c) = None

abbrev pub is_alike : Prefixes → Prefixes → Bool
is_alike a b = (a.table == b.table) && (a.parts == b.parts) && (a.col == b.col)

abbrev pub is_it : Prefixes → Option Prefixes → Bool
is_it k None = false
is_it k (Some l) = is_alike k l

-- whether a read asks for these totals, a step of a point, a type, a design
abbrev pub asks : Prefixes → Read → Bool
asks k r = is_it k (asked_by r)

abbrev pub point_asks : Prefixes → Point → Bool
point_asks k p = list_any (asks k) p.next.reads || list_any (asks k) p.undo.reads

abbrev pub type_asks : Prefixes → TxType → Bool
type_asks k t = list_any (point_asks k) t.points

abbrev pub design_asks : Prefixes → Design → Bool
design_asks k d = list_any (type_asks k) d.types

-- what passes the test was added, and nothing else
abbrev pub Adds : (Prefixes → Bool) → List Prefixes → List Prefixes → Type 0
Adds test ks ls = (k : Prefixes) → list_any (is_alike k) ls ≡ (list_any (is_alike k) ks || test k)
