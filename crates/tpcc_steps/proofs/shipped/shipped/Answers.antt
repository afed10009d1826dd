use Rattle.std.proofs.Common.{List, ℕ, sym, ap, ◌∙◌, subst}
use Rattle.acc_parse.specs.Texts.{IsDesignText}
use Rattle.acc_shipped.specs.Texts.{design_in}
use Rattle.tpcc_steps.proofs.Reading.{is_text}
use Rattle.tpcc_steps.proofs.shipped.shipped.Goals as goal

pub spelled-requires : goal.spelled-requires
spelled-requires c =
    subst (λ (bytes : List ℕ). IsDesignText bytes (design_in bytes)) (sym (c.as_slice.ensures.value ∙ c.in_ok-text.ensures)) is_text

pub returns : goal.returns
returns c = c.in_ok-spelled.ensures ∙ ap design_in (c.as_slice.ensures.value ∙ c.in_ok-text.ensures)
