use Rattle.std.proofs.Common.{◌≡◌, ℕ, ◌<◌, [], IfSome, IfNone, sym, subst}
use Rattle.std.proofs.lemmas.List.Elements.{All-contains}
use Rattle.acc_base.specs.declared.limits.Limit.{Limit}
use Rattle.acc_parse_limits.specs.Numbers.{is_before}
use Rattle.acc_parse_statements.specs.Counts.{statements_of}
use Rattle.acc_parse_limits.specs.Faults.{limit_faults}
use Rattle.acc_base.specs.Leasts.{IsLeast}
use Rattle.acc_base.proofs.Leasts.{least_of, none_of, some_weaker}
use Rattle.acc_parse_limits.proofs.Orders.{before_is_order}
use Rattle.acc_parse_limits.proofs.Ended.{faults_within}
use Rattle.acc_parse_limits.proofs.Placed.{first_of_design}
use Rattle.acc_parse_limits.proofs.designs.first_fault.Goals as goal

pub returns-clause-none : goal.returns-clause-none
returns-clause-none c h =
    let faults = limit_faults c.args.tree.now in
    let is = first_of_design 0 0 c.args.tree.now c.new-walk.result c.meet_design.new.walk h c.new-walk.ensures c.meet_design.ensures in
    subst (λ found. IfNone found (faults ≡ [])) (sym is) (none_of is_before faults)

pub returns-clause-first : goal.returns-clause-first
returns-clause-first c h =
    let faults = limit_faults c.args.tree.now in
    let is = first_of_design 0 0 c.args.tree.now c.new-walk.result c.meet_design.new.walk h c.new-walk.ensures c.meet_design.ensures in
    subst (λ found. IfSome found (IsLeast is_before faults)) (sym is) (least_of is_before before_is_order faults)

-- the least of the faults is one of them
pub returns-clause-within : goal.returns-clause-within
returns-clause-within c h =
    let tree = c.args.tree.now in
    let faults = limit_faults tree in
    let is = first_of_design 0 0 tree c.new-walk.result c.meet_design.new.walk h c.new-walk.ensures c.meet_design.ensures in
    let stands : (f : ℕ × Limit) → IsLeast is_before faults f → f.0 < statements_of tree =
    λ f least. All-contains (λ (g : ℕ × Limit). g.0 < statements_of tree) faults f (faults_within tree) least.there in
    subst (λ found. IfSome found (λ f. f.0 < statements_of tree)) (sym is)
    (some_weaker (IsLeast is_before faults) (λ f. f.0 < statements_of tree) _ stands (least_of is_before before_is_order faults))
