use Rattle.std.proofs.Common.{◌≡◌, ◌∙◌, ℕ, ◌<◌, ◌^◌, [], fold, None, IfSome, IfNone, sym, ap, subst, arith}
use Rattle.std.proofs.lemmas.List.Elements.{All-contains}
use Rattle.acc_parse_syntax.specs.declared.trees.DesignTree.{DesignTree}
use Rattle.acc_parse_statements.specs.Counts.{statements_of}
use Rattle.acc_base.specs.declared.limits.Limit.{Limit}
use Rattle.acc_parse_limits.specs.declared.walks.Walk.{Walk}
use Rattle.acc_parse_limits.specs.Numbers.{is_before}
use Rattle.acc_base.specs.Leasts.{IsLeast, better}
use Rattle.acc_parse_limits.specs.Walks.{after}
use Rattle.acc_base.proofs.Leasts.{least_of, none_of, some_weaker}
use Rattle.acc_parse_limits.proofs.Orders.{before_is_order}
use Rattle.acc_parse_limits.proofs.Placed.{start, first_after}
use Rattle.acc_parse_meaning.specs.Sizes.{design_sizes, size_faults}
use Rattle.acc_parse_meaning.proofs.Endings.{design_endings}
use Rattle.acc_parse_meaning.proofs.Ended.{faults_within}
use Rattle.acc_parse_meaning.proofs.designs.meaning_of.Goals as goal

-- what the walk over a design keeps is the first of its faults
first_of : (d : DesignTree) (w v : Walk) → statements_of d < 2 ^ 64 → w ≡ start 0 0 → v ≡ after w (design_sizes d) →
    v.first ≡ fold (better is_before) None (size_faults d)
unfolding size_faults
first_of d w v few begun ended =
    ap (λ (u : Walk). u.first) (ended ∙ ap (λ (u : Walk). after u (design_sizes d)) begun) ∙ first_after (start 0 0) (design_sizes d)
    (omega (arith, design_endings d))

pub returns-clause-none : goal.returns-clause-none
returns-clause-none c h =
    let tree = c.args.tree.now in
    let is = first_of tree c.new-walk.result c.design.new.walk h c.new-walk.ensures c.in_ok-design.ensures.walk in
    subst (λ found. IfNone found (size_faults tree ≡ [])) (sym is) (none_of is_before (size_faults tree))

pub returns-clause-first : goal.returns-clause-first
returns-clause-first c h =
    let tree = c.args.tree.now in
    let is = first_of tree c.new-walk.result c.design.new.walk h c.new-walk.ensures c.in_ok-design.ensures.walk in
    subst (λ found. IfSome found (IsLeast is_before (size_faults tree))) (sym is) (least_of is_before before_is_order (size_faults tree))

-- the least of the faults is one of them
pub returns-clause-within : goal.returns-clause-within
returns-clause-within c h =
    let tree = c.args.tree.now in
    let faults = size_faults tree in
    let is = first_of tree c.new-walk.result c.design.new.walk h c.new-walk.ensures c.in_ok-design.ensures.walk in
    let stands : (f : ℕ × Limit) → IsLeast is_before faults f → f.0 < statements_of tree =
    λ f least. All-contains (λ (g : ℕ × Limit). g.0 < statements_of tree) faults f (faults_within tree) least.there in
    subst (λ found. IfSome found (λ f. f.0 < statements_of tree)) (sym is)
    (some_weaker (IsLeast is_before faults) (λ f. f.0 < statements_of tree) _ stands (least_of is_before before_is_order faults))
