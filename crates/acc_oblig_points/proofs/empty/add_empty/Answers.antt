use Rattle.std.proofs.Common.{subst, sym}
use Rattle.std.specs.Prelude.{List}
use Rattle.acc_base.specs.declared.forms.Clause.{Clause}
use Rattle.acc_oblig.specs.Drafts.{each, each_from}
use Rattle.acc_oblig_points.specs.OneClause.{empty_clause_drafts}
use Rattle.acc_oblig_clauses.proofs.Going.{Going, going_all, going_on, going_off, going_past, each_next, each_past}
use Rattle.acc_oblig_points.proofs.empty.add_empty.Goals as goal

pub loop-k-init : goal.loop-k-init
loop-k-init c =
    subst (λ (zs : List Clause). Going c.args.out.now c.args.out.now (each_from 0 empty_clause_drafts zs)
    (each empty_clause_drafts c.args.d.now.always)) (sym c.as_slice-clauses.ensures) (going_all _ _)

pub loop-k-preserved : goal.loop-k-preserved
loop-k-preserved c =
    going_on _ _ _ _ _ _ _
    (each_next empty_clause_drafts c.as_slice-clauses.result.now c.loop-k.k c.index-clauses-k.result c.loop-k-test.true
    c.index-clauses-k.is)
    c.loop-k.invariant c.in_ok-add_empty_clause.ensures

pub returns-in_err-add_empty_clause : goal.returns-in_err-add_empty_clause
returns-in_err-add_empty_clause c =
    going_off _ _ _ _ _ _ _ _ _ _ c.from_residual.ensures.1
    (each_next empty_clause_drafts c.as_slice-clauses.result.now c.loop-k.k c.index-clauses-k.result c.loop-k-test.true
    c.index-clauses-k.is)
    c.loop-k.invariant c.in_err-add_empty_clause.ensures

pub returns : goal.returns
returns c =
    going_past _ _ _ _ (each_past empty_clause_drafts c.as_slice-clauses.result.now c.loop-k.k c.loop-k-test.false) c.loop-k.invariant
