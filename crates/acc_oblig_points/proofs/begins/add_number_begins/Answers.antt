use Rattle.std.proofs.Common.{subst, sym}
use Rattle.std.specs.Prelude.{List}
use Rattle.acc_base.specs.declared.designs.TxType.{TxType}
use Rattle.acc_oblig.specs.Drafts.{each, each_from}
use Rattle.acc_oblig.specs.PointRules.{begin_at}
use Rattle.acc_oblig_clauses.proofs.Going.{Going, going_all, going_on, going_off, going_past, each_next, each_past}
use Rattle.acc_oblig_points.proofs.begins.add_number_begins.Goals as goal

pub loop-i-init : goal.loop-i-init
loop-i-init c =
    subst (λ (zs : List TxType). Going c.args.out.now c.args.out.now (each_from 0 (begin_at c.args.d.now c.args.k) zs)
    (each (begin_at c.args.d.now c.args.k) c.args.d.now.types)) (sym c.as_slice-types.ensures) (going_all _ _)

pub loop-i-preserved : goal.loop-i-preserved
loop-i-preserved c =
    going_on _ _ _ _ _ _ _
    (each_next (begin_at c.args.d.now c.args.k) c.as_slice-types.result.now c.loop-i.i c.index-types-i.result c.loop-i-test.true
    c.index-types-i.is)
    c.loop-i.invariant c.in_ok-add_type_begin.ensures

pub returns-in_err-add_type_begin : goal.returns-in_err-add_type_begin
returns-in_err-add_type_begin c =
    going_off _ _ _ _ _ _ _ _ _ _ c.from_residual.ensures.1
    (each_next (begin_at c.args.d.now c.args.k) c.as_slice-types.result.now c.loop-i.i c.index-types-i.result c.loop-i-test.true
    c.index-types-i.is)
    c.loop-i.invariant c.in_err-add_type_begin.ensures

pub returns : goal.returns
returns c =
    going_past _ _ _ _ (each_past (begin_at c.args.d.now c.args.k) c.as_slice-types.result.now c.loop-i.i c.loop-i-test.false)
    c.loop-i.invariant
