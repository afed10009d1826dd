-- Values keep the shapes of tables under other names.
use Rattle.std.proofs.Common.{List, [], ◌∷◌, map, sym, subst}
use Rattle.std.specs.Prelude.{slice_get}
use Rattle.std.specs.List.{AllByRecursion}
use Rattle.std.proofs.lemmas.List.{length-map}
use Rattle.acc_base.specs.declared.tables.Table.{Table}
use Rattle.acc_base.specs.declared.forms.Atom.{Atom}
use Rattle.acc_base.specs.declared.forms.Atom.TheVariants.{One, Var, Has, Col, Count, Sum}
use Rattle.acc_base.specs.declared.steps.Action.{Action}
use Rattle.acc_base.specs.declared.steps.Action.TheVariants as action
use Rattle.acc_base.specs.Sums.{Term}
use Rattle.acc_base.specs.Shapes.{IsFullKey, IsPrefix, AreColumns, AtomFits, ActionFits}
use Rattle.acc_oblig.specs.declared.naming.Naming.{Naming}
use Rattle.acc_oblig.specs.Naming.{named_lin, named_atom, named_unknown, named_action}

module _ (tables : List Table) (n : Naming) where
  pub atom_fits : (a : Atom) → AtomFits tables a → AtomFits tables (named_atom n a)
  atom_fits One h = tt
  atom_fits (Var x) h = tt
  atom_fits (Has t k) h = subst (IsFullKey (slice_get tables t)) (sym (length-map k (named_lin n))) h
  atom_fits (Col t k c) h = (subst (IsFullKey (slice_get tables t)) (sym (length-map k (named_lin n))) h.0, h.1)
  atom_fits (Count t p) h = subst (IsPrefix (slice_get tables t)) (sym (length-map p (named_lin n))) h
  atom_fits (Sum t p c) h = (subst (IsPrefix (slice_get tables t)) (sym (length-map p (named_lin n))) h.0, h.1)

  pub terms_fit :
      (ts : List Term) → AllByRecursion (λ (t : Term). AtomFits tables t.0.atom) ts
      → AllByRecursion (λ (t : Term). AtomFits tables t.0.atom) (map (λ (t : Term). (named_unknown n t.0, t.1)) ts)
  terms_fit [] h = tt
  terms_fit (t ∷ ts) h = (atom_fits t.0.atom h.0, terms_fit ts h.1)

  pub action_fits : (a : Action) → ActionFits tables a → ActionFits tables (named_action n a)
  action_fits (action.Put t k vs) h = (
    subst (IsFullKey (slice_get tables t)) (sym (length-map k (named_lin n))) h.0,
    subst (AreColumns (slice_get tables t)) (sym (length-map vs (named_lin n))) h.1,
  )
  action_fits (action.Del t k) h = subst (IsFullKey (slice_get tables t)) (sym (length-map k (named_lin n))) h
  action_fits (action.Set t k c v) h = (subst (IsFullKey (slice_get tables t)) (sym (length-map k (named_lin n))) h.0, h.1)
  action_fits (action.Add t k c v) h = (subst (IsFullKey (slice_get tables t)) (sym (length-map k (named_lin n))) h.0, h.1)

  pub actions_fit :
      (acts : List Action) → AllByRecursion (ActionFits tables) acts → AllByRecursion (ActionFits tables) (map (named_action n) acts)
  actions_fit [] h = tt
  actions_fit (a ∷ acts) h = (action_fits a h.0, actions_fit acts h.1)
