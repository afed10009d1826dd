use Rattle.std.proofs.Common.{ℕ, map, ap, sym, subst, ◌∙◌}
use Rattle.std.specs.Prelude.{List, Ok, Err}
use Rattle.acc_base.specs.declared.tables.Table.{Table}
use Rattle.acc_oblig.specs.Drafts.{each, each_from, each_path}
use Rattle.acc_oblig.specs.PointRules.{clear_at}
use Rattle.acc_oblig_places.specs.SeenPlaces.{path_place}
use Rattle.acc_oblig_clauses.proofs.Going.{Going, going_all, going_on, going_off, going_past, each_next, each_past}
use Rattle.acc_oblig_clauses.proofs.PathAdded.{paths_added}
use Rattle.acc_oblig_places.proofs.Small.{design_small}
use Rattle.acc_oblig_points.proofs.clears.add_clears.Goals as goal

pub add_table_clears-requires-clause-design : goal.add_table_clears-requires-clause-design
add_table_clears-requires-clause-design c = design_small c.args.d.now c.requires

pub loop-t-init : goal.loop-t-init
loop-t-init c =
    let d = c.args.d.now in
    let make = λ (t : ℕ) (table : Table). each_path d (clear_at d t table) in
    subst (λ (ts : List Table). Going c.args.out.now c.args.out.now (each_from 0 make ts) (each make d.tables))
    (sym c.as_slice-tables.ensures)
    (going_all _ _)

pub loop-t-preserved : goal.loop-t-preserved
loop-t-preserved c =
    let d = c.args.d.now in
    let all = ap (map path_place) c.as_slice.ensures.value ∙ c.in_ok-paths.ensures.value in
    going_on _ _ _ _ _ _ _
    (each_next (λ (t : ℕ) (table : Table). each_path d (clear_at d t table)) c.as_slice-tables.result.now c.loop-t.t c.index-tables-t.result
    c.loop-t-test.true c.index-tables-t.is) c.loop-t.invariant
    (paths_added (Ok tt) c.loop-t.out c.add_table_clears.new.out d (clear_at d c.loop-t.t c.index-tables-t.result) c.as_slice.result.now all
    c.in_ok-add_table_clears.ensures)

pub returns-in_err-add_table_clears : goal.returns-in_err-add_table_clears
returns-in_err-add_table_clears c =
    let d = c.args.d.now in
    let all = ap (map path_place) c.as_slice.ensures.value ∙ c.in_ok-paths.ensures.value in
    going_off _ _ _ _ _ _ _ _ _ _ c.from_residual-in_err-add_table_clears.ensures.1
    (each_next (λ (t : ℕ) (table : Table). each_path d (clear_at d t table)) c.as_slice-tables.result.now c.loop-t.t c.index-tables-t.result
    c.loop-t-test.true c.index-tables-t.is) c.loop-t.invariant
    (paths_added (Err c.in_err-add_table_clears.field-0.0) c.loop-t.out c.add_table_clears.new.out d
    (clear_at d c.loop-t.t c.index-tables-t.result) c.as_slice.result.now all c.in_err-add_table_clears.ensures)

pub returns : goal.returns
returns c =
    let d = c.args.d.now in
    going_past _ _ _ _
    (each_past (λ (t : ℕ) (table : Table). each_path d (clear_at d t table)) c.as_slice-tables.result.now c.loop-t.t c.loop-t-test.false)
    c.loop-t.invariant
