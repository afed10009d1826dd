use Rattle.std.proofs.Common.{ℕ, subst}
use Rattle.std.specs.Prelude.{List}
use Rattle.acc_oblig.specs.Drafts.{each, each_number}
use Rattle.acc_oblig.specs.PointRules.{begin_at}
use Rattle.acc_oblig.specs.Drafts.{Draft}
use Rattle.acc_oblig_clauses.proofs.Going.{Going, going_all, going_on, going_off, going_past, number_next, number_past}
use Rattle.acc_oblig_clauses.proofs.Items.{number_all}
use Rattle.acc_oblig_points.proofs.begins.add_first_begins.Goals as goal

pub loop-k-init : goal.loop-k-init
loop-k-init c =
    let make = λ (k : ℕ). each (begin_at c.args.d.now k) c.args.d.now.types in
    subst (λ (z : List Draft). Going c.args.out.now c.args.out.now z (each_number 0 c.args.count make)) (number_all make c.args.count)
    (going_all _ _)

pub loop-k-preserved : goal.loop-k-preserved
loop-k-preserved c =
    going_on _ _ _ _ _ _ _ (number_next (λ k. each (begin_at c.args.d.now k) c.args.d.now.types) c.args.count c.loop-k.k c.loop-k-test.true)
    c.loop-k.invariant
    c.in_ok-add_number_begins.ensures

pub returns-in_err-add_number_begins : goal.returns-in_err-add_number_begins
returns-in_err-add_number_begins c =
    going_off _ _ _ _ _ _ _ _ _ _ c.from_residual.ensures.1
    (number_next (λ k. each (begin_at c.args.d.now k) c.args.d.now.types) c.args.count c.loop-k.k c.loop-k-test.true) c.loop-k.invariant
    c.in_err-add_number_begins.ensures

pub returns : goal.returns
returns c = going_past _ _ _ _ (number_past (λ k. each (begin_at c.args.d.now k) c.args.d.now.types) c.args.count c.loop-k.k
    c.loop-k-test.false) c.loop-k.invariant
