-- The obligation on an action, from the row that it needs.
use Rattle.std.proofs.Common.{◌≡◌, ℕ, ◌++◌, List, [], ◌∷◌, refl, ap, sym, subst, ◌∙◌}
use Rattle.std.specs.Prelude.{Result, Option, Some, None, option_map, slice_get, take}
use Rattle.acc_base.specs.declared.forms.Lin.{Lin}
use Rattle.acc_base.specs.declared.forms.Clause.{Clause}
use Rattle.acc_base.specs.declared.steps.Action.{Action}
use Rattle.acc_base.specs.declared.designs.Design.{Design}
use Rattle.acc_base.specs.declared.sequents.Sequent.{Sequent}
use Rattle.acc_base.specs.declared.sequents.Rule.TheVariants.{There}
use Rattle.acc_oblig.specs.Settings.{Setting, last_now}
use Rattle.acc_oblig.specs.Drafts.{Draft, of_some, path_drafts, setting_of}
use Rattle.acc_oblig.specs.PathPromises.{changed_row, row_there, there_at}
use Rattle.acc_oblig_goals.specs.declared.errors.ObligError.{ObligError}
use Rattle.acc_oblig_goals.specs.Causes.{Adds}
use Rattle.acc_oblig_places.specs.DesignPlaces.{PathPlace, at_path_place}
use Rattle.acc_oblig_paths.specs.Rows.{needed_of, needed_at}

needed_is :
    (make : Clause → List Draft) (o : Option Action)
    → of_some (λ a. of_some (λ (r : ℕ × List Lin). make (row_there r)) (changed_row a)) o ≡ of_some make (needed_of o)
needed_is make None = refl
needed_is make (Some a) = by (changed_row a)
  where
    by :
        (r : Option (ℕ × List Lin)) → of_some (λ (r : ℕ × List Lin). make (row_there r)) r ≡ of_some make (option_map row_there r)
    by None = refl
    by (Some r) = refl

-- the setting of a path before its action with number k
abbrev pub before : Design → ℕ → PathPlace → Setting
before d k q = record (setting_of d q.x q.p q.step q.w.path q.path) { actions = take k q.path.actions }

pub row_added :
    (r : Result (Unit {0}) ObligError) (old new : List Sequent) (d : Design) (k : ℕ) (q : PathPlace) (o : Option Clause)
    → o ≡ needed_at q.path.actions k
    → Adds r old new (of_some (path_drafts There (before d k q) k q.w (last_now (before d k q) ++ (before d k q).locals ∷ [])) o)
    → Adds r old new (at_path_place (there_at d k) q)
row_added r old new d k q o e a =
    let make = path_drafts There (before d k q) k q.w (last_now (before d k q) ++ (before d k q).locals ∷ []) in
    subst (Adds r old new) (ap (of_some make) e ∙ sym (needed_is make (slice_get q.path.actions k))) a
