-- What the workers' caller knows of an engine that served them.
use Rattle.std.proofs.Common.{◌≡◌, ℕ, ◌+◌, List, [], ◌∷◌, length, drop, take, Option, Some, refl, sym, ◌∙◌, ap, subst, arith}
use Rattle.std.specs.Prelude.{nat_lt}
use Rattle.std.specs.List.{filter_map}
use Rattle.std.proofs.lemmas.List.{length-take}
use Rattle.std.proofs.Math.Seq.{drop-append_seam}
use Rattle.acc_base.specs.declared.machines.Call.{Call}
use Rattle.acc_base.specs.declared.machines.Event.{Event}
use Rattle.acc_base.specs.declared.machines.Event.TheVariants.{Begin, Step, Abort, Undo}
use Rattle.acc_engine.specs.Keeping.{Journalled, call_of}
use Rattle.acc_pass.specs.Histories.{begins}
use Rattle.acc_beside.specs.Serving.{since, Serves}
use Rattle.acc_crew.specs.Works.{Works}
use Rattle.acc_threads.specs.Crews.{script_of}

-- as many calls begin as there are begins
calls_begin : (events : List Event) → length (filter_map call_of events) ≡ begins events
calls_begin [] = refl
calls_begin (Begin call ∷ events) = let rest = calls_begin events in omega arith
calls_begin (Step t ∷ events) = let rest = calls_begin events in omega arith
calls_begin (Abort t c ∷ events) = let rest = calls_begin events in omega arith
calls_begin (Undo t ∷ events) = let rest = calls_begin events in omega arith

-- whatever its workers did, and in whichever order
pub works_from : {D : Type 0} (clock : D → ℕ) (left_since : D → ℕ → List ℕ → Type 0) (told : D → Option (List ℕ))
    (may_leave : D → List ℕ → Type 0) (count : D → ℕ) (old new : Journalled D)
    → Serves clock left_since told may_leave count (script_of old) old.state.events (Some old) new
    → Works clock left_since told may_leave count old new
works_from clock left_since told may_leave count old new serves =
    let survives = serves.survives old refl in
    let later = since old.state.events new.state.events in
    let more : later ≡ survives.goes_on.more =
    ap (drop (length old.state.events)) survives.goes_on.history ∙ drop-append_seam old.state.events survives.goes_on.more in
    let begun : filter_map call_of survives.goes_on.more ≡ take (begins survives.goes_on.more) new.calls =
    subst (λ (events : List Event). filter_map call_of events ≡ take (begins events) new.calls) more
    (subst (λ (calls : List Call). filter_map call_of later ≡ take (begins later) calls) (sym serves.calls) serves.next.calls_are) in
    record {
      survives = survives;
      begins = record {
        count = begins survives.goes_on.more;
        within =
            let made = calls_begin survives.goes_on.more in
            let same = ap length begun in
            let within = length-take (begins survives.goes_on.more) new.calls in
            omega arith;
        begun = begun;
        marked = λ p.
            let none : 0 + begins survives.goes_on.more ≡ begins survives.goes_on.more = omega arith in
            serves.next.marks_are p ∙ ap (λ (events : List Event). nat_lt p (0 + begins events)) more ∙ ap (nat_lt p) none;
      };
    }
