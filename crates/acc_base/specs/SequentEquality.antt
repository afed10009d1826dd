-- The tests of equality of rules and origins decide it.
use Rattle.std.specs.Prelude.{◌≡◌, ◌==◌, Bool, ◌&&◌, refl, Decides}
use Rattle.std.specs.Option.{option_eq}
use Rattle.std.proofs.Common.{ap}
use Rattle.std.proofs.lemmas.Bool.Decides.{Decides-like, Decides-eqb}
use Rattle.acc_base.specs.declared.sequents.Origin.{Origin}
use Rattle.acc_base.specs.declared.sequents.Rule.{Rule}
use Rattle.acc_base.specs.declared.sequents.Rule.TheVariants.{Begins, Promises, Always, Spares, There, Ranges, Variants, Clears, Empty}
use Rattle.acc_base.specs.contracts.sequents.RulePartialEq.TheImpl as derived
use Rattle.acc_base.specs.Pairs.{both, option_decides}
use Rattle.acc_base.specs.PointEquality.{at_eq, at_decides, side_eq, side_decides}

-- the derived test of rules
abbrev pub rule_eq : Rule → Rule → Bool
rule_eq x y = derived.ghosts.eq x y

pub rule_decides : (x y : Rule) → Decides (rule_eq x y) (x ≡ y)
rule_decides Begins Begins = (λ h. refl, λ e. refl)
rule_decides Promises Promises = (λ h. refl, λ e. refl)
rule_decides Always Always = (λ h. refl, λ e. refl)
rule_decides Spares Spares = (λ h. refl, λ e. refl)
rule_decides There There = (λ h. refl, λ e. refl)
rule_decides Ranges Ranges = (λ h. refl, λ e. refl)
rule_decides Variants Variants = (λ h. refl, λ e. refl)
rule_decides Clears Clears = (λ h. refl, λ e. refl)
rule_decides Empty Empty = (λ h. refl, λ e. refl)
rule_decides x y = (λ h. cc, λ e. cc)

abbrev pub origin_eq : Origin → Origin → Bool
origin_eq x y =
    rule_eq x.rule y.rule && (option_eq at_eq x.held y.held && ((x.clause == y.clause) && (
    option_eq at_eq x.at y.at && (side_eq x.side y.side && ((x.path == y.path) && (x.case == y.case))))))

pub origin_decides : (x y : Origin) → Decides (origin_eq x y) (x ≡ y)
origin_decides x y =
    Decides-like (origin_eq x y)
    (λ h. λ i. record {
      rule = h.0 i;
      held = h.1.0 i;
      clause = h.1.1.0 i;
      at = h.1.1.1.0 i;
      side = h.1.1.1.1.0 i;
      path = h.1.1.1.1.1.0 i;
      case = h.1.1.1.1.1.1 i;
    })
    (λ e. (
      ap (λ o. o.rule) e,
      (
        ap (λ o. o.held) e,
        (
          ap (λ o. o.clause) e,
          (
            ap (λ o. o.at) e,
            (
              ap (λ o. o.side) e,
              (ap (λ o. o.path) e, ap (λ o. o.case) e),
            ),
          ),
        ),
      ),
    ))
    (both (rule_decides x.rule y.rule) (both (option_decides at_eq at_decides x.held y.held) (
    both (Decides-eqb x.clause y.clause) (both (option_decides at_eq at_decides x.at y.at) (
    both (side_decides x.side y.side) (both (Decides-eqb x.path y.path) (Decides-eqb x.case y.case)))))))
