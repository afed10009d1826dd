-- What is told of a list of events, event by event.
use Rattle.std.proofs.Common.{◌≡◌, ℕ, zero, suc, ◌+◌, ◌-◌, ◌<◌, ◌≤◌, List, [], ◌∷◌, ◌++◌, length, take, get_or, Some, refl, sym, ap, ◌∙◌}
use Rattle.std.proofs.Common.{subst, arith, ◌⊎◌, inl, inr}
use Rattle.std.specs.Prelude.{Result, Ok, Err, IsErrAnd, option_and_then}
use Rattle.std.proofs.lemmas.Result.{err_from_is_err_and}
use Rattle.std.proofs.lemmas.List.{take_more}
use Rattle.std.proofs.lemmas.Option.{same_Some}
use Rattle.acc_base.specs.declared.designs.Design.{Design}
use Rattle.acc_base.specs.declared.machines.Event.{Event}
use Rattle.acc_base.specs.Machine.{World, unfinished, start, world, after_event}
use Rattle.acc_plain.proofs.Runs.{after_events-one}
use Rattle.acc_audit_complaints.specs.declared.searches.Complaint.TheVariants as complaint
use Rattle.acc_audit.specs.declared.steps.AuditFinding.{AuditFinding}
use Rattle.acc_audit.specs.declared.steps.AuditFinding.TheVariants as finding
use Rattle.acc_audit.specs.declared.steps.AuditError.{AuditError}
use Rattle.acc_audit.specs.declared.steps.AuditError.TheVariants as error
use Rattle.acc_audit.specs.Audits.{Found, IsClear, IsClearAt, IsClearTo, IsFoundAt, IsNoRunAt, Tells, TellsMeaning}
use Rattle.acc_audit.specs.Events.{IsToldAfter, IsClearAfter, TellsEvent}
use Rattle.acc_audit.proofs.Meaning.{found_shows, clear_never, no_run}

-- after so many events: a run after none of which something is wrong
pub record IsWalked (d : Design) (events : List Event) (n : ℕ) (w : World) : Type 0 where
  pub run : world d (take n events) ≡ Some w
  pub clear : IsClearTo d events n

pub nothing_walked : (d : Design) (events : List Event) (w : World) → w ≡ start → IsWalked d events 0 w
nothing_walked d events w is = record {
  run = ap (λ (x : World). Some x) (sym is);
  clear = λ k from to. absurd (omega (arith, from, to));
}

-- before the first event nothing is known, and behind each nothing is wrong
pub clear_now : (d : Design) (events : List Event) (n : ℕ) (w : World) → IsWalked d events n w → (n ≡ 0) ⊎ IsClear d w.rows (unfinished w)
clear_now d events zero w walked = inl refl
clear_now d events (suc n) w walked =
    let at : IsClearAt d events (suc n) = walked.clear (suc n) (omega arith) (omega arith) in
    let same : at.state ≡ w = same_Some at.state w (sym at.is_state ∙ walked.run) in
    inr (subst (λ (x : World). IsClear d x.rows (unfinished x)) same at.clear)

up : (k i : ℕ) → (k ≤ i) ⊎ (k ≡ i + 1) → (suc k ≤ suc i) ⊎ (suc k ≡ suc i + 1)
up k i (inl h) = inl (omega (arith, h))
up k i (inr h) = inr (omega (arith, h))

cases : (k i : ℕ) → k ≤ i + 1 → (k ≤ i) ⊎ (k ≡ i + 1)
cases zero i h = inl (omega arith)
cases (suc zero) zero h = inr (omega arith)
cases (suc (suc k)) zero h = absurd (omega (arith, h))
cases (suc k) (suc i) h = up k i (cases k i (omega (arith, h)))

module _ (d : Design) (events : List Event) (i : ℕ) (e x : Event) (within : i < length events) (here : e ≡ get_or events i x) (w : World)
    (walked : IsWalked d events i w) where
  taken : take (i + 1) events ≡ take i events ++ e ∷ []
  taken = take_more events i x within ∙ ap (λ y. take i events ++ y ∷ []) (sym here)

  then : world d (take (i + 1) events) ≡ after_event d w e
  then =
      ap (world d) taken
      ∙ after_events-one d start (take i events) e
      ∙ ap (option_and_then (λ y. after_event d y e)) walked.run

  pub walked_on : (after : World) → IsClearAfter d w e after → IsWalked d events (i + 1) after
  walked_on after a = record {
    run = then ∙ a.leads;
    clear = λ k from to. by k from (cases k i to);
  }
    where
      by : (k : ℕ) → 1 ≤ k → (k ≤ i) ⊎ (k ≡ i + 1) → IsClearAt d events k
      by k from (inl h) = walked.clear k from h
      by k from (inr h) =
          subst (IsClearAt d events) (sym h) (record { state = after; is_state = then ∙ a.leads; clear = a.clear })

  found_at : (after : World) (found : Found) → IsToldAfter d w e after i found → IsFoundAt d events (i + 1) found
  found_at after found t = record {
    from_one = omega arith;
    within = omega (arith, within);
    clear = let same : i ≡ (i + 1) - 1 = omega arith in subst (IsClearTo d events) same walked.clear;
    state = after;
    is_state = then ∙ t.leads;
    complains = t.complains;
  }

  pub some_tells : (after : World) (f : AuditFinding) → TellsEvent d w e i after (Ok (Some f)) → Tells d events (Ok f)
  some_tells after finding.Clean h = absurd h
  some_tells after (finding.False p t n own) h =
      subst (λ (k : ℕ). IsFoundAt d events k (t, n, complaint.False own)) (sym h.0) (found_at after (t, n, complaint.False own) h.1)

  pub error_tells : (after : World) (a : AuditError) → TellsEvent d w e i after (Err a) → Tells d events (Err a)
  error_tells after (error.NotRun at) h =
      subst (IsNoRunAt d events) (sym h.0) (record { within = within; clear = walked.clear; stops = then ∙ h.1 })
  error_tells after (error.Large p t n) h =
      subst (λ (k : ℕ). IsFoundAt d events k (t, n, complaint.Large)) (sym h.0) (found_at after (t, n, complaint.Large) h.1)
  error_tells after error.Memory h = tt

pub all_walked : (d : Design) (events : List Event) (n : ℕ) (w : World) → n ≡ length events → IsWalked d events n w →
    IsClearTo d events (length events)
all_walked d events n w all walked = subst (IsClearTo d events) all walked.clear

-- what it means
pub tells_meaning : (d : Design) (events : List Event) (told : Result AuditFinding AuditError) → Tells d events told → TellsMeaning d events told
tells_meaning d events (Ok finding.Clean) h = clear_never d events h
tells_meaning d events (Ok (finding.False place t n own)) h = found_shows d events place t n own h
tells_meaning d events (Err (error.NotRun at)) h = no_run d events (at + 1) h.stops
tells_meaning d events (Err (error.Large place t n)) h = tt
tells_meaning d events (Err error.Memory) h = tt

-- a refusal that is handed on
pub handed_on : (d : Design) (events : List Event) (r : Result AuditFinding AuditError) (a : AuditError) → IsErrAnd r (λ y. y ≡ a) →
    Tells d events (Err a) → Tells d events r
handed_on d events r a h tells =
    let p = err_from_is_err_and r h in
    subst (Tells d events) (sym (p.1 ∙ ap Err p.2)) tells
