use Rattle.std.proofs.Common.{◌≡◌, [], IfSome, IfNone, sym, subst}
use Rattle.acc_parse_limits.specs.Numbers.{is_lower}
use Rattle.acc_parse_limits.specs.Faults.{limit_faults, limits_on}
use Rattle.acc_base.specs.Leasts.{IsLeast}
use Rattle.acc_base.proofs.Leasts.{least_of, none_of}
use Rattle.acc_parse_limits.proofs.Orders.{lower_is_order}
use Rattle.acc_parse_limits.proofs.Placed.{lowest_of_design}
use Rattle.acc_parse_limits.proofs.designs.lowest_on.Goals as goal

pub returns-clause-none : goal.returns-clause-none
returns-clause-none c h =
    let limits = limits_on c.args.from c.args.to (limit_faults c.args.tree.now) in
    let is = lowest_of_design c.args.from c.args.to c.args.tree.now c.new-walk.result c.meet_design.new.walk h c.new-walk.ensures
    c.meet_design.ensures in
    subst (λ found. IfNone found (limits ≡ [])) (sym is) (none_of is_lower limits)

pub returns-clause-lowest : goal.returns-clause-lowest
returns-clause-lowest c h =
    let limits = limits_on c.args.from c.args.to (limit_faults c.args.tree.now) in
    let is = lowest_of_design c.args.from c.args.to c.args.tree.now c.new-walk.result c.meet_design.new.walk h c.new-walk.ensures
    c.meet_design.ensures in
    subst (λ found. IfSome found (IsLeast is_lower limits)) (sym is) (least_of is_lower lower_is_order limits)
