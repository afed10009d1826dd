-- What a settling under the lock leaves.
use Rattle.std.proofs.Common.{◌≡◌, ◌≤◌, ℕ, List, [], length, Bool, true, false, Option, Some, refl, sym, ap, ◌∙◌, subst, arith}
use Rattle.std.proofs.lemmas.List.{append-nil, take_all, take-append-drop}
use Rattle.std.specs.List.{list_any}
use Rattle.std.specs.Prelude.{take, drop, option_and_then, Result, Ok, Err, MatchResult, OnOk, IfOk, IfErr}
use Rattle.std.proofs.lemmas.Option.{same_Some, none-some}
use mathlib.Core.List.{IsPrefix}
use Rattle.acc_base.specs.declared.designs.Design.{Design}
use Rattle.acc_base.specs.declared.machines.Event.{Event}
use Rattle.acc_base.specs.declared.machines.Reply.{Reply}
use Rattle.acc_base.specs.Machine.{World, start, world, after_events, reply_at}
use Rattle.acc_io.specs.Causes.{Rose}
use Rattle.acc_disk.specs.Moments.{AtAnyMoment}
use Rattle.acc_machine.specs.Kept.{IsKept}
use Rattle.acc_engine.specs.Acks.{durable_reply, is_turn_of}
use Rattle.acc_engine.specs.Calls.{RefusesSettling}
use Rattle.acc_engine.specs.Keeping.{Journalled}
use Rattle.acc_engine.specs.Ready.{IsReady}
use Rattle.acc_engine.specs.Sealing.{SealedDurableOrAll}
use Rattle.acc_engine.specs.declared.errors.EngineError.{EngineError}
use Rattle.acc_engine.specs.declared.errors.EngineError.TheVariants.{Disk, Failed, Memory}
use Rattle.acc_pass.specs.declared.views.Known.{Known}
use Rattle.acc_pass.specs.Rules.{known}
use Rattle.acc_pass.proofs.Lists.{prefix_self}
use Rattle.acc_pass.proofs.Worlds.{between}
use Rattle.acc_engine.specs.Surviving.{Survives}
use Rattle.acc_beside.specs.Serving.{Script, BeginsNext, Serves, CausesStay}
use Rattle.acc_beside.specs.Calls.{Tied, Called, Settles, Acks, Fails, ShowsFault}
use Rattle.acc_engine.proofs.Tails.{events_keep, events_open}
use Rattle.acc_engine.proofs.Surviving.{Kept, survives_more, survives_settled, survives_fault}
use Rattle.acc_beside.proofs.Calling.{cause_on}
use Rattle.acc_beside.proofs.Beside.{run_of}

module _ {D : Type 0} (clock : D → ℕ) (left_since : D → ℕ → List ℕ → Type 0) (told : D → Option (List ℕ)) (may_leave : D → List ℕ → Type 0)
    (count : D → ℕ) (only_now : (disk : D) (image : List ℕ) → left_since disk (clock disk) image → may_leave disk image)
    (counts_now : (disk : D) (time : ℕ) (image : List ℕ) → time ≤ clock disk → may_leave disk image → left_since disk time image)
    (script : Script) (first : List Event) (engine : Option (Journalled D)) (old new : Journalled D) (k : Kept old new)
    (serves : Serves clock left_since told may_leave count script first engine old)
    (stuck : old.failed ≡ true → new ≡ old)
    (moments : IsReady told may_leave old
    → AtAnyMoment clock left_since old.disk new.disk (SealedDurableOrAll old.design old.base old.state.events old.settled))
    (within : old.settled ≤ length old.state.events) (faults : count old.disk ≤ count new.disk) where
  events : new.state.events ≡ old.state.events
  events = ap (λ (w : World). w.events) k.kept.0

  serves_settled : Survives clock left_since told may_leave count old new
      → Serves clock left_since told may_leave count script first engine new
  serves_settled s = record {
    kept = subst (IsKept script.design) (sym k.kept.0) serves.kept;
    design = k.kept.2 ∙ serves.design;
    calls = k.calls.0 ∙ serves.calls;
    next = subst (λ (l : List Event). BeginsNext script first new.begun l) (sym events)
        (subst (λ (m : List Bool). BeginsNext script first m old.state.events) (sym k.calls.1) serves.next);
    survives = λ f is. survives_more clock left_since told may_leave count only_now f old new (serves.survives f is) s stuck;
  }

  causes_settled : (old.failed ≡ true → new.failed ≡ true) → CausesStay script.design old new
  causes_settled failed cause h =
      cause_on script.design old.state.events new.state.events old.failed new.failed cause
      (subst (λ (l : List Event). IsPrefix old.state.events l) (sym events) (prefix_self old.state.events)) failed h

  stuck_fails : old.failed ≡ true → new.failed ≡ true
  stuck_fails f = ap (λ (e : Journalled D). e.failed) (stuck f) ∙ f

  called : (j l : Known) → Tied j old → l.seen ≡ j.seen → l.mine ≡ j.mine → (j.broken ≡ true → l.broken ≡ true)
      → Called j l old.state.events []
  called j l tied seen mine broken = record {
    begun = subst (λ (x : List Event). IsPrefix j.seen x) tied.1 (prefix_self j.seen);
    seen = seen ∙ tied.1 ∙ sym (append-nil old.state.events);
    mine = mine ∙ sym (append-nil j.mine);
    broken = broken;
  }

  pub record Well (j : Known) (n : ℕ) : Type 0 where
    pub tied : Tied j new
    pub serves' : Serves clock left_since told may_leave count script first engine new
    pub causes : CausesStay script.design old new
    pub settles : Settles script.design j j n

  pub well : (j : Known) (n : ℕ) → Tied j old → old.failed ≡ false → new.failed ≡ false → new.settled ≡ length new.state.events
      → new.waiting ≡ [] → (IsReady told may_leave old → IsReady told may_leave new) → n ≡ length new.state.events → Well j n
  well j n tied was now all none ready is = record {
    tied = (tied.0, tied.1 ∙ sym events, tied.2 ∙ was ∙ sym now);
    serves' =
        serves_settled
        (survives_settled clock left_since told may_leave count only_now old new k was within moments faults all now none ready);
    causes = causes_settled (λ f. let no : false ≡ true = sym was ∙ f in absurd cc);
    settles = record { old = old.state; kept = serves.kept; count_is = is ∙ ap length events; called = called j j tied refl refl (λ b. b) };
  }

  pub record Badly (j l : Known) (error : EngineError) : Type 0 where
    pub tied : Tied l new
    pub serves' : Serves clock left_since told may_leave count script first engine new
    pub causes : CausesStay script.design old new
    pub fails : Fails script.design j l error

  pub badly : (j l : Known) → Tied j old → RefusesSettling Disk old.failed new.failed (Rose (count old.disk) (count new.disk))
      → new.settled ≡ old.settled → l ≡ known true true j.seen j.mine → Badly j l Disk
  badly j l tied why same is = record {
    tied = (ap (λ (x : Known). x.keeps) is, ap (λ (x : Known). x.seen) is ∙ tied.1 ∙ sym events, broken ∙ sym why.1);
    serves' =
        serves_settled
        (survives_fault clock left_since told may_leave count only_now old new k why.0 within moments faults counts_now same why.1 why.2);
    causes = causes_settled (λ _. why.1);
    fails = record {
      looks = record {
        old = old.state;
        kept = serves.kept;
        called = called j l tied (ap (λ (x : Known). x.seen) is) (ap (λ (x : Known). x.mine) is) (λ _. broken);
      };
      shown = broken;
    };
  }
    where
      broken : l.broken ≡ true
      broken = ap (λ (x : Known). x.broken) is

  pub again : (j : Known) → Tied j old → old.failed ≡ true → Badly j j Failed
  again j tied failed =
      let same = stuck failed in record {
        tied = (tied.0, tied.1 ∙ sym events, tied.2 ∙ sym (ap (λ (e : Journalled D). e.failed) same));
        serves' = subst (λ (e : Journalled D). Serves clock left_since told may_leave count script first engine e) (sym same) serves;
        causes = causes_settled stuck_fails;
        fails = record {
          looks = record { old = old.state; kept = serves.kept; called = called j j tied refl refl (λ b. b) };
          shown = tied.2 ∙ failed;
        };
      }

-- ---- replies

-- where all is durable, the durable reply is that of the state
pub reply_now : {D : Type 0} (d : Design) (e : Journalled D) (t : ℕ) → IsKept d e.state → e.design ≡ d → e.settled ≡ length e.state.events
    → durable_reply e t ≡ reply_at t e.state
reply_now d e t kept is all =
    let whole : take e.settled e.state.events ≡ e.state.events = take_all e.settled e.state.events (omega (arith, all)) in
    ap (λ (x : Design). option_and_then (reply_at t) (world x (take e.settled e.state.events))) is
    ∙ ap (λ (es : List Event). option_and_then (reply_at t) (world d es)) whole ∙ ap (option_and_then (reply_at t)) (run_of d e.state kept)

unfailed_by : (b : Bool) → (b ≡ true → ⊥) → b ≡ false
unfailed_by true h = absurd (h refl)
unfailed_by false h = refl

-- an engine that had failed doesn't settle
pub was_well : {X : Type 0} (r : Result ℕ EngineError) (failed : Bool) (n : ℕ) → r ≡ Ok n → (failed ≡ true → (r ≡ Err Failed) × X)
    → failed ≡ false
was_well r failed n is h = unfailed_by failed (λ f. let e : Ok n ≡ Err Failed = sym is ∙ (h f).0 in cc)

-- the reply behind a settling is that of the history then
pub acks_as : {D : Type 0} (d : Design) (t : ℕ) (j k : Known) (e : Journalled D) (settled : Result ℕ EngineError) (n : ℕ)
    (r : Result (Option Reply) EngineError) → settled ≡ Ok n → MatchResult settled (Settles d j k) (Fails d j k)
    → OnOk settled (e.settled ≡ length e.state.events) → Tied k e → IsKept d e.state → e.design ≡ d
    → IfOk r (λ x. x ≡ durable_reply e t) → IfErr r (λ error. error ≡ Memory) → MatchResult r (Acks d t j k) (Fails d j k)
acks_as d t j k e settled n r is settles all tied kept design ok err = by r ok err
  where
    s : Settles d j k n
    s = subst (λ (x : Result ℕ EngineError). MatchResult x (Settles d j k) (Fails d j k)) is settles

    whole : e.settled ≡ length e.state.events
    whole = subst (λ (x : Result ℕ EngineError). OnOk x (e.settled ≡ length e.state.events)) is all

    same : e.state ≡ s.old
    same =
        let events : e.state.events ≡ s.old.events = sym tied.1 ∙ s.called.seen ∙ append-nil s.old.events in
        same_Some e.state s.old (sym (run_of d e.state kept) ∙ ap (world d) events ∙ run_of d s.old s.kept)

    by : (r : Result (Option Reply) EngineError) → IfOk r (λ x. x ≡ durable_reply e t) → IfErr r (λ error. error ≡ Memory)
        → MatchResult r (Acks d t j k) (Fails d j k)
    by (Ok x) o q = record {
      old = s.old;
      kept = s.kept;
      reply_is = o ∙ reply_now d e t kept design whole ∙ ap (reply_at t) same;
      called = s.called;
    }
    by (Err error) o q = record {
      looks = record { old = s.old; kept = s.kept; called = s.called };
      shown = subst (λ (x : EngineError). ShowsFault x k.broken) (sym q) tt;
    }

-- a reply that is durable is that of the history
pub reply_durable : {D : Type 0} (d : Design) (e : Journalled D) (t : ℕ) (reply : Reply) → IsKept d e.state → e.design ≡ d
    → durable_reply e t ≡ Some reply → reply_at t e.state ≡ Some reply
reply_durable d e t reply kept is has = by (list_any (is_turn_of t) rest) refl
  where
    front : List Event
    front = take e.settled e.state.events

    rest : List Event
    rest = drop e.settled e.state.events

    halves : (v : World) × (world d front ≡ Some v) × (after_events d v rest ≡ Some e.state)
    halves = between d start e.state front rest (ap (world d) (take-append-drop e.settled e.state.events) ∙ run_of d e.state kept)

    there : reply_at t halves.0 ≡ Some reply
    there =
        sym (ap (λ (x : Design). option_and_then (reply_at t) (world x front)) is ∙ ap (option_and_then (reply_at t)) halves.1) ∙ has

    by : (b : Bool) → list_any (is_turn_of t) rest ≡ b → reply_at t e.state ≡ Some reply
    by true some = absurd (none-some reply (sym (events_open d halves.0 e.state rest t halves.2 some) ∙ there))
    by false none = events_keep d halves.0 e.state rest t halves.2 none ∙ there

-- so it is acknowledged as it is
pub acks_durable : {D : Type 0} (d : Design) (t : ℕ) (j : Known) (e : Journalled D) (reply : Reply) → Tied j e → IsKept d e.state
    → e.design ≡ d → durable_reply e t ≡ Some reply → Acks d t j j (Some reply)
acks_durable d t j e reply tied kept is has = record {
  old = e.state;
  kept = kept;
  reply_is = sym (reply_durable d e t reply kept is has);
  called = record {
    begun = subst (λ (x : List Event). IsPrefix j.seen x) tied.1 (prefix_self j.seen);
    seen = tied.1 ∙ sym (append-nil e.state.events);
    mine = sym (append-nil j.mine);
    broken = λ b. b;
  };
}
