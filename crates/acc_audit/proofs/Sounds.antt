-- An audit of lawful events of a sound design tells of no false clause, and of no event that is none.
use Rattle.std.proofs.Common.{◌≡◌, ℕ, ◌+◌, ◌-◌, ◌==◌, false, if◌then◌else◌, List, take, drop, Some, None, sym, ◌∙◌, subst, slice_get, arith, ℤ, []}
use Rattle.std.specs.Prelude.{Result, Ok, Err}
use Rattle.std.proofs.lemmas.Bool.Decides.{nat_tests}
use Rattle.std.proofs.lemmas.Option.{none-some, same_Some}
use Rattle.acc_base.specs.declared.forms.Clause.{Clause}
use Rattle.acc_base.specs.declared.tables.Row.{Row}
use Rattle.acc_base.specs.declared.designs.Design.{Design}
use Rattle.acc_base.specs.declared.machines.Event.{Event}
use Rattle.acc_base.specs.declared.machines.Frame.{Frame}
use Rattle.acc_base.specs.declared.machines.Transaction.{Transaction}
use Rattle.acc_base.specs.declared.machines.Transaction.TheVariants.{Forward, Undoing, Ended}
use Rattle.acc_base.specs.Assertions.{clauses_of, Holds}
use Rattle.acc_base.specs.Effects.{point_of}
use Rattle.acc_base.specs.Invariant.{IsSteady, IsKept}
use Rattle.acc_base.specs.Lawful.{AreLawful}
use Rattle.acc_base.specs.Linear.{variables}
use Rattle.acc_base.specs.Machine.{World, start, world, frame_in, transaction_at}
use Rattle.acc_base.specs.Soundness.{IsSound}
use Rattle.acc_base.specs.Truth.{ClauseTrue}
use Rattle.acc_base.proofs.Items.{at_slice_get}
use Rattle.acc_formed.specs.WellFormed.{IsWellFormed}
use Rattle.acc_lift.proofs.FormRules.{run_rules}
use Rattle.acc_lift.proofs.Theorem.{front_steady, lead_runs}
use Rattle.acc_audit.specs.declared.steps.AuditFinding.{AuditFinding}
use Rattle.acc_audit.specs.declared.steps.AuditFinding.TheVariants as finding
use Rattle.acc_audit.specs.declared.steps.AuditError.{AuditError}
use Rattle.acc_audit.specs.declared.steps.AuditError.TheVariants as error
use Rattle.acc_audit.specs.Audits.{IsAsserted, ShowsFalse, TellsMeaning, IsKindToSound}
use Rattle.acc_audit.specs.Audits.IsAsserted.{always, of_frame}
use Rattle.acc_audit.proofs.SmallFrames.{unfinished_at}
use Rattle.acc_audit.proofs.Meaning.{parted}

-- an unfinished transaction's assertion holds in a steady state
kept_holds : (d : Design) (db : List Row) (t : ℕ) (x : Transaction) (f : Frame) → frame_in x ≡ Some f → IsKept d db t x → Holds d db f
kept_holds d db t (Forward g) f e k = subst (Holds d db) (same_Some g f e) k.holds
kept_holds d db t (Undoing g c) f e k = subst (Holds d db) (same_Some g f e) k.holds
kept_holds d db t (Ended r) f e k = absurd (none-some f e)

-- the transaction at a place has the number behind it
numbered : (ts : List Transaction) (i : ℕ) (x : Transaction) → slice_get ts i ≡ Some x → transaction_at (i + 1) ts ≡ Some x
numbered ts i x h =
    let first : (i + 1 == 0) ≡ false = grind (arith, nat_tests) in
    let place : (i + 1) - 1 ≡ i = omega arith in
    (λ j. if first j then None else slice_get ts (place j)) ∙ h

asserted_true : (d : Design) (w : World) → IsSteady d w → (t n : ℕ) (env : List ℤ) (c : Clause) → IsAsserted d w t n env c →
    ClauseTrue w.rows env c
asserted_true d w steady t n env c (always i b at) = at_slice_get (ClauseTrue w.rows []) d.always i c steady.always at
asserted_true d w steady t n env c (of_frame j i f b is at) =
    let u = unfinished_at w.transactions j f is in
    let holds = kept_holds d w.rows (u.place + 1) u.x f u.frame
    (steady.each (u.place + 1) u.x (numbered w.transactions u.place u.x u.at)) in
    at_slice_get (ClauseTrue w.rows (variables f.t f.locals)) (clauses_of (point_of d f.ty f.point)) i c holds at

module _ (d : Design) (formed : IsWellFormed d) (events : List Event) (sound : IsSound d) (lawful : AreLawful d events) where
  never_false : (place t n : ℕ) (own : List ℤ) → ShowsFalse d events place t n own → ⊥
  never_false place t n own s =
      let steady = front_steady d sound (run_rules d formed) events (take place events) (drop place events) lawful.0 lawful.1
      (parted place events) s.state s.is_state in
      s.false (asserted_true d s.state steady t n s.env s.clause s.is_asserted)

  is_run : world d events ≡ None → ⊥
  is_run h = none-some lawful.0 (sym h ∙ lead_runs d events start lawful.0 lawful.1)

pub kind_to_sound : (d : Design) → IsWellFormed d → (events : List Event) (told : Result AuditFinding AuditError) → TellsMeaning d events told →
    IsKindToSound d events told
kind_to_sound d formed events (Ok finding.Clean) m sound lawful = tt
kind_to_sound d formed events (Ok (finding.False place t n own)) m sound lawful =
    never_false d formed events sound lawful place t n own m
kind_to_sound d formed events (Err (error.NotRun at)) m sound lawful = is_run d formed events sound lawful m
kind_to_sound d formed events (Err (error.Large place t n)) m sound lawful = tt
kind_to_sound d formed events (Err error.Memory) m sound lawful = tt
