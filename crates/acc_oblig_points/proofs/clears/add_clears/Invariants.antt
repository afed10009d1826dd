use Rattle.std.proofs.Common.{ℕ, drop}
use Rattle.acc_base.specs.declared.tables.Table.{Table}
use Rattle.acc_oblig.specs.Drafts.{each, each_from, each_path}
use Rattle.acc_oblig.specs.PointRules.{clear_at}
use Rattle.acc_oblig_clauses.proofs.Going.{Going}
use Rattle.acc_oblig_points.proofs.clears.add_clears.Given as goal

abbrev pub invariant-loop-t : goal.invariant-loop-t
invariant-loop-t l =
    let make = λ (t : ℕ) (table : Table). each_path l.d (clear_at l.d t table) in
    Going l.fn.out l.out (each_from l.t make (drop l.t l.tables)) (each make l.d.tables)
