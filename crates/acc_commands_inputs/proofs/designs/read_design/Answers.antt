use Rattle.std.proofs.Common.{inr, refl, subst}
use Rattle.acc_form.specs.declared.rules.FormError.TheVariants.{Bad}
use Rattle.acc_form.specs.Faults.{IsFirstFault}
use Rattle.acc_form.specs.Judged.{IsFaultInPrint}
use Rattle.acc_parse_readback.proofs.SaidDesigns.{parsed_is_said}
use Rattle.acc_parse_readback.proofs.JudgedLines.{judged_line}
use Rattle.acc_parse_readback.proofs.RuleLines.{fault_line, text_fault}
use Rattle.acc_commands_inputs.proofs.designs.read_design.Goals as goal

pub returns-in-Ok-well_formed : goal.returns-in-Ok-well_formed
returns-in-Ok-well_formed c = record { is_text = c.in-Ok.ensures.ok; formed = c.in-Ok-well_formed.ensures.ok.0 refl }

-- the first fault is that of a statement in print, on its line
pub returns-in-Err-Bad : goal.returns-in-Err-Bad
returns-in-Err-Bad c =
    let d = c.in-Ok.d in
    let is_text = c.in-Ok.ensures.ok in
    let rule = c.in-Err-Bad.rule in
    let at = c.in-Err-Bad.line in
    let first : IsFirstFault d (Bad rule at) = subst (IsFirstFault d) c.in-Err-Bad.field-0-is c.in-Err-Bad.ensures.bad in
    let fault : IsFaultInPrint d (Bad rule at) = subst (IsFaultInPrint d) c.in-Err-Bad.field-0-is c.in-Err-Bad.ensures.printed in
    let breaks = text_fault c.args.file.now d is_text rule at fault in
    let said = parsed_is_said c.args.file.now d is_text in
    inr (record {
      d = d;
      is_text = is_text;
      rule = rule;
      at = at;
      first = first;
      on_line = fault_line d said rule at breaks;
      breaks = breaks;
      own_line = judged_line d said rule at breaks;
      says = c.in_ok-form_refusal-in-Err-Bad.ensures;
    })
