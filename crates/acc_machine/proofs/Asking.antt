-- What is told of a step that goes ahead, by a walk over frames and by an index.
use Rattle.std.proofs.Common.{◌≡◌, ℕ, List, subst, ◌∙◌, Option, take, length, ℤ}
use Rattle.std.specs.Prelude.{Result, Ok, Err, IfOk}
use Rattle.acc_base.specs.declared.tables.Row.{Row}
use Rattle.acc_base.specs.declared.steps.Target.{Target}
use Rattle.acc_base.specs.declared.steps.Target.TheVariants.{Point as ToPoint, Commit, Undone, Refuse}
use Rattle.acc_base.specs.declared.designs.At.{At}
use Rattle.acc_base.specs.declared.designs.Design.{Design}
use Rattle.acc_base.specs.declared.designs.Side.TheVariants.{Next}
use Rattle.acc_base.specs.declared.machines.Frame.{Frame}
use Rattle.acc_base.specs.Effects.{Effect, effect_of}
use Rattle.acc_base.specs.Entries.{at_of}
use Rattle.acc_plain.specs.Outlook.{Outlook}
use Rattle.acc_plain.specs.Outlook.TheVariants.{Range, Refused, Goes as Leads}
use Rattle.acc_plain.specs.Outlooks.{outlook_of}
use Rattle.acc_lock_index.specs.Asks.{TellsFirst}
use Rattle.acc_lock_index.specs.Indexed.{Bars, LeadsToPoint}
use Rattle.acc_machine.specs.Blocked.{LeadsTo, LooksTo}
use Rattle.acc_machine.specs.HeldUp.{IsAhead}
use Rattle.acc_machine.specs.Barred.{led_to, led_by, TellsBarred}

leads_there : (d : Design) (ty : ℕ) (to : Target) → LeadsTo d ty to → LeadsToPoint d (led_to ty to)
leads_there d ty (ToPoint p) h = h
leads_there d ty Commit h = tt
leads_there d ty Undone h = tt
leads_there d ty (Refuse m) h = tt

pub leads_point : (d : Design) (ty : ℕ) (outlook : Outlook) → LooksTo d ty outlook → LeadsToPoint d (led_by ty outlook)
leads_point d ty Range h = tt
leads_point d ty (Refused m) h = tt
leads_point d ty (Leads to) h = leads_there d ty to h

module _ (d : Design) (db : List Row) (frames : List Frame) (f : Frame) (outlook : Outlook) (places locals : List ℤ)
    (ahead : IsAhead d db f places outlook) (are : locals ≡ take (length f.locals) places) where
  abbrev effect : Effect
  effect = effect_of d db f Next

  pub barred_told : {X : Type 0} (r : Result (Option (ℕ × ℕ)) X) (at : At) (to : Option At) → at ≡ at_of f → to ≡ led_by f.ty outlook
      → IfOk r (TellsFirst (Bars d frames f.t at locals to locals)) → IfOk r (TellsBarred d db frames f)
  barred_told (Err x) at to e q told = tt
  barred_told (Ok r) at to e q told =
      let to_is : to ≡ led_by f.ty (outlook_of effect) = subst (λ o. to ≡ led_by f.ty o) ahead.looks q in
      let first = subst (λ l. TellsFirst (Bars d frames f.t (at_of f) l (led_by f.ty (outlook_of effect)) l) r) (are ∙ ahead.locals)
      (subst (λ t. TellsFirst (Bars d frames f.t (at_of f) locals t locals) r) to_is
      (subst (λ a. TellsFirst (Bars d frames f.t a locals to locals) r) e told)) in
      record { free = λ s. ahead.free; first = λ free. first }
