use Rattle.std.proofs.Common.{sym, ap, ◌∙◌}
use Rattle.std.specs.Prelude.{option_copied}
use Rattle.std.specs.Ordering.{int_cmp}
use Rattle.std.specs.BTreeMap.{get}
use Rattle.std.specs.Int.{w64}
use Rattle.std.proofs.lemmas.Int.{to_z-of_z}
use Rattle.acc_audit_ranges.specs.Parts.{counted}
use Rattle.acc_audit_ranges.proofs.parts.number.Goals as goal

pub returns-in-Some : goal.returns-in-Some
returns-in-Some c =
    ap counted (ap option_copied (sym c.in-Some.is) ∙ c.get.ensures.value ∙ ap (get int_cmp c.args.values.now) (to_z-of_z w64 c.args.x c.ranges.x))

pub returns-in-None : goal.returns-in-None
returns-in-None c =
    ap counted (ap option_copied (sym c.in-None.is) ∙ c.get.ensures.value ∙ ap (get int_cmp c.args.values.now) (to_z-of_z w64 c.args.x c.ranges.x))
