-- One thing is told of a journal's bytes by a design.
use Rattle.std.proofs.Common.{◌≡◌, ◌⊎◌, inl, inr, ℕ, List, [], length, refl, sym, ap, ◌∙◌, subst, ⊎_elim, arith}
use Rattle.std.specs.Prelude.{Result, Ok, Err}
use Rattle.acc_base.specs.declared.designs.Design.{Design}
use Rattle.acc_base.specs.declared.machines.Event.{Event}
use Rattle.acc_print.specs.Designs.{printed}
use Rattle.acc_wal.specs.Attaching.{CountedAs}
use Rattle.acc_wal.specs.Journals.{Counts}
use Rattle.acc_wal.specs.declared.errors.WalError.{WalError}
use Rattle.acc_wal.specs.declared.errors.WalError.TheVariants.{Memory as NoMemory}
use Rattle.acc_wal.proofs.Apart.{one_answer}
use Rattle.acc_audit.specs.declared.steps.AuditFinding.{AuditFinding}
use Rattle.acc_audit.specs.declared.steps.AuditFinding.TheVariants as finding
use Rattle.acc_audit.specs.declared.steps.AuditError.{AuditError}
use Rattle.acc_audit.specs.declared.steps.AuditError.TheVariants as error
use Rattle.acc_audit.specs.Audits.{Tells}
use Rattle.acc_audit.proofs.OneTelling.{one_telling}
use Rattle.acc_audit_journal.specs.declared.journals.Judgement.{Judgement}
use Rattle.acc_audit_journal.specs.declared.journals.Judgement.TheVariants.{Clean, False, Large}
use Rattle.acc_audit_journal.specs.declared.journals.JudgeError.{JudgeError}
use Rattle.acc_audit_journal.specs.declared.journals.JudgeError.TheVariants.{Journal, OtherDesign, NotRun, Memory}
use Rattle.acc_audit_journal.specs.Judging.{IsOfOther, judged_by, Judges}

-- what the bytes count: a base text and events, or why none
abbrev Contents : Type 0
Contents = Result (List ℕ × List Event) WalError

abbrev counting : List ℕ → List Event → Contents
counting base events = Ok (base, events)

abbrev refusing : WalError → Contents
refusing why = Err why

base_of : Contents → List ℕ
base_of (Ok found) = found.0
base_of (Err why) = []

events_in : Contents → List Event
events_in (Ok found) = found.1
events_in (Err why) = []

why_of : Contents → WalError
why_of (Ok found) = NoMemory
why_of (Err why) = why

-- how many base texts there are
bases : Contents → ℕ
bases (Ok found) = 1
bases (Err why) = 0

module _ (d : Design) (bytes : List ℕ) where
  -- an audit of the journal's events told so
  record IsAudited (a : Result Judgement JudgeError) : Type 0 where
    events : List Event
    counts : Counts bytes (printed d) events
    told : Result AuditFinding AuditError
    tells : Tells d events told
    lasts : told ≡ Err error.Memory → ⊥
    is : a ≡ judged_by (length events) told

  -- they are no journal
  record IsNone (a : Result Judgement JudgeError) : Type 0 where
    why : WalError
    counted : CountedAs bytes (refusing why)
    is : a ≡ Err (Journal why)

  abbrev Sees : Result Judgement JudgeError → Type 0
  Sees a = IsAudited a ⊎ ((a ≡ Err OtherDesign) × IsOfOther d bytes) ⊎ IsNone a

  audited : (events : List Event) (told : Result AuditFinding AuditError) → Counts bytes (printed d) events → Tells d events told
      → (told ≡ Err error.Memory → ⊥) → Sees (judged_by (length events) told)
  audited events told counts tells lasts =
      inl (record { events = events; counts = counts; told = told; tells = tells; lasts = lasts; is = refl })

  sees : (a : Result Judgement JudgeError) → Judges d bytes a → (a ≡ Err Memory) ⊎ Sees a
  sees (Ok (Clean n)) h =
      inr (subst (λ (k : ℕ). Sees (Ok (Clean k))) (sym h.so.0) (audited h.events (Ok finding.Clean) h.counts h.so.1 (λ e. cc)))
  sees (Ok (False place t clause own)) h =
      inr (audited h.events (Ok (finding.False place t clause own)) h.counts h.so (λ e. cc))
  sees (Ok (Large place t clause)) h = inr (audited h.events (Err (error.Large place t clause)) h.counts h.so (λ e. cc))
  sees (Err (NotRun at)) h = inr (audited h.events (Err (error.NotRun at)) h.counts h.so (λ e. cc))
  sees (Err OtherDesign) h = inr (inr (inl (refl, h)))
  sees (Err (Journal why)) h = inr (inr (inr (record { why = why; counted = h; is = refl })))
  sees (Err Memory) h = inl refl

  same_events : (a b : Result Judgement JudgeError) (h : IsAudited a) (k : IsAudited b) → h.events ≡ k.events
  unfolding events_in
  same_events a b h k = ap events_in (one_answer bytes (counting (printed d) h.events) (counting (printed d) k.events) h.counts k.counts)

  no_other : (base : List ℕ) (events : List Event) → Counts bytes base events → base ≡ printed d → IsOfOther d bytes → ⊥
  unfolding base_of
  no_other base events counts is o =
      o.other (sym (ap base_of (one_answer bytes (counting base events) (counting o.base o.events) counts o.counts)) ∙ is)

  not_none : (base : List ℕ) (events : List Event) (why : WalError) → Counts bytes base events → CountedAs bytes (refusing why) → ⊥
  unfolding bases
  not_none base events why counts none =
      let same : 1 ≡ 0 = ap bases (one_answer bytes (counting base events) (refusing why) counts none) in omega (arith, same)

  same_why : (why other : WalError) → CountedAs bytes (refusing why) → CountedAs bytes (refusing other) → why ≡ other
  unfolding why_of
  same_why why other h k = ap why_of (one_answer bytes (refusing why) (refusing other) h k)

  same_audits : (a b : Result Judgement JudgeError) → IsAudited a → IsAudited b → a ≡ b
  same_audits a b h k =
      let events = same_events a b h k in
      ⊎_elim
      (λ same. h.is ∙ ap (λ (es : List Event). judged_by (length es) h.told) events ∙ ap (judged_by (length k.events)) same ∙ sym k.is)
      (λ lacks. absurd (⊎_elim h.lasts k.lasts lacks))
      (one_telling d k.events h.told k.told (subst (λ (es : List Event). Tells d es h.told) events h.tells) k.tells)

  one_seen : (a b : Result Judgement JudgeError) → Sees a → Sees b → a ≡ b
  one_seen a b (inl h) (inl k) = same_audits a b h k
  one_seen a b (inl h) (inr (inl k)) = absurd (no_other (printed d) h.events h.counts refl k.1)
  one_seen a b (inl h) (inr (inr k)) = absurd (not_none (printed d) h.events k.why h.counts k.counted)
  one_seen a b (inr (inl h)) (inl k) = absurd (no_other (printed d) k.events k.counts refl h.1)
  one_seen a b (inr (inl h)) (inr (inl k)) = h.0 ∙ sym k.0
  one_seen a b (inr (inl h)) (inr (inr k)) = absurd (not_none h.1.base h.1.events k.why h.1.counts k.counted)
  one_seen a b (inr (inr h)) (inl k) = absurd (not_none (printed d) k.events h.why k.counts h.counted)
  one_seen a b (inr (inr h)) (inr (inl k)) = absurd (not_none k.1.base k.1.events h.why k.1.counts h.counted)
  one_seen a b (inr (inr h)) (inr (inr k)) =
      h.is ∙ ap (λ (w : WalError). Err (Journal w)) (same_why h.why k.why h.counted k.counted) ∙ sym k.is

  -- memory ran out in one of them
  abbrev Lacks : Result Judgement JudgeError → Result Judgement JudgeError → Type 0
  Lacks a b = (a ≡ Err Memory) ⊎ (b ≡ Err Memory)

  pub one_judgement : (a b : Result Judgement JudgeError) → Judges d bytes a → Judges d bytes b → (a ≡ b) ⊎ Lacks a b
  one_judgement a b h k = by (sees a h) (sees b k)
    where
      by : (a ≡ Err Memory) ⊎ Sees a → (b ≡ Err Memory) ⊎ Sees b → (a ≡ b) ⊎ Lacks a b
      by (inl e) y = inr (inl e)
      by (inr x) (inl e) = inr (inr e)
      by (inr x) (inr y) = inl (one_seen a b x y)
