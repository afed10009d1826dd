-- The law of weakest preconditions.
use Rattle.std.proofs.Common.{◌≡◌, List, [], ◌∷◌, refl, ap, ◌∙◌, ℤ}
use Rattle.std.specs.List.{AllByRecursion}
use Rattle.std.proofs.lemmas.List.Elements.{recursion_from_All}
use Rattle.acc_base.specs.declared.tables.Table.{Table}
use Rattle.acc_base.specs.declared.tables.Row.{Row}
use Rattle.acc_base.specs.declared.forms.Form.{Form}
use Rattle.acc_base.specs.declared.forms.Rel.{Rel}
use Rattle.acc_base.specs.declared.steps.Action.{Action}
use Rattle.acc_base.specs.Tables.{IsInOrder}
use Rattle.acc_base.specs.Linear.{meets}
use Rattle.acc_base.specs.Actions.{after_action}
use Rattle.acc_base.specs.Truth.{form_value}
use Rattle.acc_preconditions.specs.Preconditions.{before_actions, wp_of}
use Rattle.acc_base.specs.Shapes.{ActionFits, RowFits}
use Rattle.acc_base.specs.RowsAfter.{rows_after, AreThere}
use Rattle.acc_preconditions.specs.Laws.{IsWeakest}
use Rattle.acc_preconditions.proofs.FormTurns.{form_turn}
use Rattle.acc_preconditions.proofs.FormShapes.{TermFits, all_long, form_fits}
use Rattle.acc_preconditions.proofs.RowShapes.{rows_fit, stays_in_order, is_ready}

module _ (tables : List Table) (env : List ℤ) where
  forms_fit : (actions : List Action) (f : Form) → AllByRecursion (ActionFits tables) actions → AllByRecursion (TermFits tables) f.terms →
      AllByRecursion (TermFits tables) (before_actions actions f).terms
  forms_fit [] f fits h = h
  forms_fit (a ∷ rest) f fits h =
      form_fits tables a fits.0 (before_actions rest f) (forms_fit rest f fits.1 h)

  forms_turn : (actions : List Action) (f : Form) (db : List Row) → AllByRecursion (ActionFits tables) actions →
      AllByRecursion (TermFits tables) f.terms → AllByRecursion (RowFits tables) db → IsInOrder db → AreThere env actions db →
      form_value db env (before_actions actions f) ≡ form_value (rows_after env actions db) env f
  forms_turn [] f db fits h rows order there = refl
  forms_turn (a ∷ rest) f db fits h rows order there =
      form_turn env a db order (is_ready tables env a db fits.0 rows there.0) (before_actions rest f)
      (all_long tables env a db order fits.0 (before_actions rest f).terms (forms_fit rest f fits.1 h)) ∙ forms_turn rest f
      (after_action env a db) fits.1 h (rows_fit tables env a db fits.0 rows) (stays_in_order tables env a db order) there.1

pub wp_is_weakest : (actions : List Action) (r : Rel) → IsWeakest actions r (wp_of actions r)
wp_is_weakest actions r tables fits form db rows order env there =
    ap (meets r.equal) (forms_turn tables env actions r.form db (recursion_from_All (ActionFits tables) actions fits)
    (recursion_from_All (TermFits tables) r.form.terms form) (recursion_from_All (RowFits tables) db rows) order there)
