-- Actions as changes, and one action before the rest.
use Rattle.std.proofs.Common.{◌≡◌, ℕ, ◌+◌, ◌<◌, ◌||◌, not, Bool, true, false, List, ◌∷◌, length, get_or, drop, ap, sym, ◌∙◌, refl, ℤ, None}
use Rattle.std.proofs.Common.{if◌then◌else◌}
use Rattle.std.specs.List.{list_any}
use Rattle.std.proofs.lemmas.List.{drop_more}
use Rattle.acc_base.specs.declared.tables.Row.{Row}
use Rattle.acc_base.specs.declared.designs.Side.{Side}
use Rattle.acc_base.specs.declared.designs.Side.TheVariants.{Next, Undo}
use Rattle.acc_base.specs.declared.steps.Action.{Action}
use Rattle.acc_base.specs.declared.steps.Action.TheVariants.{Put, Del, Set, Add}
use Rattle.acc_base.specs.Tables.{is_at}
use Rattle.acc_base.specs.Linear.{lin_values}
use Rattle.acc_base.specs.Actions.{stores_small, after_action, after_actions}
use Rattle.acc_step.specs.Changing.{change_of, changed, may_change, may_act}

pub changed_is : (env : List ℤ) (a : Action) (db : List Row) → changed (change_of env a) db ≡ after_action env a db
changed_is env (Put t k vs) db = refl
changed_is env (Del t k) db = refl
changed_is env (Set t k c v) db = refl
changed_is env (Add t k c v) db = refl

pub may_change_is : (side : Side) (env : List ℤ) (a : Action) (db : List Row) →
    may_change side (change_of env a) db ≡ stores_small side env a db
may_change_is Next env (Put t k vs) db = refl
may_change_is Next env (Del t k) db = refl
may_change_is Next env (Set t k c v) db = refl
may_change_is Next env (Add t k c v) db = refl
may_change_is Undo env (Put t k vs) db = refl
may_change_is Undo env (Del t k) db = refl
may_change_is Undo env (Set t k c v) db = refl
may_change_is Undo env (Add t k c v) db = always (not (list_any (is_at t (lin_values env k)) db))
  where
    always : (b : Bool) → (b || true) ≡ true
    always true = refl
    always false = refl

module _ (side : Side) (env : List ℤ) (actions : List Action) (i : ℕ) (a : Action) (db : List Row) (within : i < length actions)
    (here : a ≡ get_or actions i a) where
  next_is : after_actions side env (drop i actions) db ≡
      (if may_act side env a db then after_actions side env (drop (i + 1) actions) (after_action env a db) else None)
  next_is = ap (λ xs. after_actions side env xs db) (drop_more actions i a within ∙ ap (λ x. x ∷ drop (i + 1) actions) (sym here))

  pub next_goes : may_act side env a db ≡ true →
      after_actions side env (drop i actions) db ≡ after_actions side env (drop (i + 1) actions) (after_action env a db)
  next_goes h = next_is ∙ ap (λ b. if b then after_actions side env (drop (i + 1) actions) (after_action env a db) else None) h

  pub next_fails : may_act side env a db ≡ false → after_actions side env (drop i actions) db ≡ None
  next_fails h = next_is ∙ ap (λ b. if b then after_actions side env (drop (i + 1) actions) (after_action env a db) else None) h
