-- An audit tells one thing of a list of events.
use Rattle.std.proofs.Common.{◌≡◌, ℕ, ◌+◌, ◌<◌, ◌⊎◌, inl, inr, List, [], length, take, Option, Some, None, All}
use Rattle.std.proofs.Common.{refl, sym, ap, ◌∙◌, subst, arith}
use Rattle.std.specs.Prelude.{Result, Ok, Err}
use Rattle.std.specs.List.{AllByRecursion}
use Rattle.std.proofs.lemmas.Bool.{cases_order}
use Rattle.std.proofs.lemmas.List.Elements.{recursion_from_All}
use Rattle.std.proofs.lemmas.Option.{none-some, same_Some}
use Rattle.acc_base.specs.declared.tables.Row.{Row}
use Rattle.acc_base.specs.declared.designs.Design.{Design}
use Rattle.acc_base.specs.declared.machines.Event.{Event}
use Rattle.acc_base.specs.declared.machines.Frame.{Frame}
use Rattle.acc_base.specs.Assertions.{clauses_of}
use Rattle.acc_base.specs.Effects.{point_of}
use Rattle.acc_base.specs.Linear.{variables}
use Rattle.acc_base.specs.Machine.{World, unfinished, world}
use Rattle.acc_audit_complaints.specs.declared.searches.Complaint.{Complaint}
use Rattle.acc_audit_complaints.specs.declared.searches.Complaint.TheVariants as complaint
use Rattle.acc_audit_complaints.specs.Complaints.{IsFirst}
use Rattle.acc_audit_complaints.proofs.OneFirst.{none_of_all, one_first}
use Rattle.acc_audit_complaints.proofs.OneComplaint.{one_first_of}
use Rattle.acc_audit.specs.declared.steps.AuditFinding.{AuditFinding}
use Rattle.acc_audit.specs.declared.steps.AuditFinding.TheVariants as finding
use Rattle.acc_audit.specs.declared.steps.AuditError.{AuditError}
use Rattle.acc_audit.specs.declared.steps.AuditError.TheVariants as error
use Rattle.acc_audit.specs.Audits.{Found, IsFirstOf, IsFirstFrame, IsClear, Complains}
use Rattle.acc_audit.specs.Audits.{IsClearAt, IsClearTo, IsFoundAt, IsNoRunAt, Tells}

-- what is found of a clause: its number, and what is wrong with it
abbrev Wrong : Type 0
Wrong = ℕ × Complaint

abbrev wrong : ℕ → Complaint → Option Wrong
wrong n a = Some (n, a)

abbrev as_found : ℕ → ℕ → Complaint → Found
as_found t n a = (t, n, a)

number_of : Option Wrong → ℕ
number_of None = 0
number_of (Some f) = f.0

complaint_of : Option Wrong → Complaint
complaint_of None = complaint.Large
complaint_of (Some f) = f.1

found_same : (t u n m : ℕ) (a b : Complaint) → t ≡ u → wrong n a ≡ wrong m b → as_found t n a ≡ as_found u m b
unfolding number_of complaint_of
found_same t u n m a b same e = λ i. (same i, ap number_of e i, ap complaint_of e i)

-- ---- in one state

module _ (d : Design) (db : List Row) (frames : List Frame) where
  once : (f : Frame) (a b : Option Wrong) → IsFirstOf d db f a → IsFirstOf d db f b → a ≡ b
  once f a b h k = one_first_of db (variables f.t f.locals) (clauses_of (point_of d f.ty f.point)) a b h k

  clear_frames : List Frame → Type 0
  clear_frames fs = AllByRecursion (λ f. IsFirstOf d db f None) fs

  clear_or_frame : (at : Found) → All (λ f. IsFirstOf d db f None) frames → IsFirstFrame d db frames at → ⊥
  clear_or_frame at clear f =
      none_of_all (IsFirstOf d db) once f.before f.behind f.frame (at.1, at.2)
      (subst (AllByRecursion (λ g. IsFirstOf d db g None)) f.parts (recursion_from_All (λ g. IsFirstOf d db g None) frames clear)) f.tells

  one_frame : (a b : Found) → IsFirstFrame d db frames a → IsFirstFrame d db frames b → a ≡ b
  one_frame a b f g =
      let same = one_first (IsFirstOf d db) once f.before g.before f.behind g.behind f.frame g.frame (a.1, a.2) (b.1, b.2)
      (sym f.parts ∙ g.parts) (recursion_from_All (λ h. IsFirstOf d db h None) f.before f.clear)
      (recursion_from_All (λ h. IsFirstOf d db h None) g.before g.clear) f.tells g.tells in
      found_same a.0 b.0 a.1 b.1 a.2 b.2 (f.number ∙ ap (λ (h : Frame). h.t) same.same_first ∙ sym g.number)
      (once g.frame (Some (a.1, a.2)) (Some (b.1, b.2)) (subst (λ (h : Frame). IsFirstOf d db h (Some (a.1, a.2))) same.same_first f.tells)
      g.tells)

  always_once : (a b : Option Wrong) → IsFirst db [] d.always a → IsFirst db [] d.always b → a ≡ b
  always_once a b h k = one_first_of db [] d.always a b h k

  pub clear_or_wrong : (at : Found) → IsClear d db frames → Complains d db frames at → ⊥
  clear_or_wrong at clear (inl a) = none-some (at.1, at.2) (always_once None (Some (at.1, at.2)) clear.always a.tells)
  clear_or_wrong at clear (inr b) = clear_or_frame at clear.each b.frame

  pub one_complaint : (a b : Found) → Complains d db frames a → Complains d db frames b → a ≡ b
  one_complaint a b (inl h) (inl k) =
      found_same a.0 b.0 a.1 b.1 a.2 b.2 (h.number ∙ sym k.number) (always_once (Some (a.1, a.2)) (Some (b.1, b.2)) h.tells k.tells)
  one_complaint a b (inl h) (inr k) = absurd (none-some (a.1, a.2) (always_once None (Some (a.1, a.2)) k.always h.tells))
  one_complaint a b (inr h) (inl k) = absurd (none-some (b.1, b.2) (always_once None (Some (b.1, b.2)) h.always k.tells))
  one_complaint a b (inr h) (inr k) = one_frame a b h.frame k.frame

-- ---- at one place

module _ (d : Design) (events : List Event) where
  state_same : (k : ℕ) (w v : World) → world d (take k events) ≡ Some w → world d (take k events) ≡ Some v → w ≡ v
  state_same k w v h g = same_Some w v (sym h ∙ g)

  clear_or_found : (k : ℕ) (at : Found) → IsClearAt d events k → IsFoundAt d events k at → ⊥
  clear_or_found k at a f =
      let same = state_same k a.state f.state a.is_state f.is_state in
      clear_or_wrong d f.state.rows (unfinished f.state) at
      (subst (λ (w : World). IsClear d w.rows (unfinished w)) same a.clear) f.complains

  clear_or_none : (k : ℕ) → IsClearAt d events k → world d (take k events) ≡ None → ⊥
  clear_or_none k a stops = none-some a.state (sym stops ∙ a.is_state)

  -- what is found is found first, and no run goes further
  after_found : (p q : ℕ) (a b : Found) → p < q → IsFoundAt d events p a → IsFoundAt d events q b → ⊥
  after_found p q a b before f g = clear_or_found p a (g.clear p f.from_one (omega (arith, before))) f

  found_here : (p q : ℕ) (a b : Found) → p ≡ q → IsFoundAt d events p a → IsFoundAt d events q b → a ≡ b
  found_here p q a b here f g =
      let same = state_same q f.state g.state (subst (λ k. world d (take k events) ≡ Some f.state) here f.is_state) g.is_state in
      one_complaint d g.state.rows (unfinished g.state) a b
      (subst (λ (w : World). Complains d w.rows (unfinished w) a) same f.complains) g.complains

  pub record IsSameFound (p q : ℕ) (a b : Found) : Type 0 where
    pub same_place : p ≡ q
    pub same_found : a ≡ b

  found_once : (p q : ℕ) (a b : Found) → IsFoundAt d events p a → IsFoundAt d events q b → IsSameFound p q a b
  found_once p q a b f g = by (cases_order p q)
    where
      by : (p ≡ q) ⊎ ((p < q) ⊎ (q < p)) → IsSameFound p q a b
      by (inl e) = record { same_place = e; same_found = found_here p q a b e f g }
      by (inr (inl h)) = absurd (after_found p q a b h f g)
      by (inr (inr h)) = absurd (after_found q p b a h g f)

  found_or_no_run : (p at : ℕ) (a : Found) → IsFoundAt d events p a → IsNoRunAt d events at → ⊥
  found_or_no_run p at a f n = by (cases_order p (at + 1))
    where
      by : (p ≡ at + 1) ⊎ ((p < at + 1) ⊎ (at + 1 < p)) → ⊥
      by (inl e) = none-some f.state (sym n.stops ∙ subst (λ k. world d (take k events) ≡ Some f.state) e f.is_state)
      by (inr (inl h)) = clear_or_found p a (n.clear p f.from_one (omega (arith, h))) f
      by (inr (inr h)) = clear_or_none (at + 1) (f.clear (at + 1) (omega arith) (omega (arith, h))) n.stops

  after_no_run : (at there : ℕ) → at < there → IsNoRunAt d events at → IsNoRunAt d events there → ⊥
  after_no_run at there before n m = clear_or_none (at + 1) (m.clear (at + 1) (omega arith) (omega (arith, before))) n.stops

  no_run_once : (at there : ℕ) → IsNoRunAt d events at → IsNoRunAt d events there → at ≡ there
  no_run_once at there n m = by (cases_order at there)
    where
      by : (at ≡ there) ⊎ ((at < there) ⊎ (there < at)) → at ≡ there
      by (inl e) = e
      by (inr (inl h)) = absurd (after_no_run at there h n m)
      by (inr (inr h)) = absurd (after_no_run there at h m n)

  all_clear_or_found : (p : ℕ) (a : Found) → IsClearTo d events (length events) → IsFoundAt d events p a → ⊥
  all_clear_or_found p a clear f = clear_or_found p a (clear p f.from_one f.within) f

  all_clear_or_no_run : (at : ℕ) → IsClearTo d events (length events) → IsNoRunAt d events at → ⊥
  all_clear_or_no_run at clear n = clear_or_none (at + 1) (clear (at + 1) (omega arith) (let h = n.within in omega (arith, h))) n.stops

-- ---- what is told

-- what is told of what is found
told_at : ℕ → Found → Result AuditFinding AuditError
told_at place (t, n, complaint.False own) = Ok (finding.False place t n own)
told_at place (t, n, complaint.Large) = Err (error.Large place t n)

module _ (d : Design) (events : List Event) where
  -- memory ran out in one of them
  abbrev Lacks : Result AuditFinding AuditError → Result AuditFinding AuditError → Type 0
  Lacks a b = (a ≡ Err error.Memory) ⊎ (b ≡ Err error.Memory)

  same_told : (p q : ℕ) (a b : Found) → IsFoundAt d events p a → IsFoundAt d events q b → told_at p a ≡ told_at q b
  same_told p q a b f g =
      let same = found_once d events p q a b f g in
      λ i. told_at (same.same_place i) (same.same_found i)

  pub one_telling : (a b : Result AuditFinding AuditError) → Tells d events a → Tells d events b → (a ≡ b) ⊎ Lacks a b
  unfolding told_at
  one_telling (Err error.Memory) b h k = inr (inl refl)
  one_telling a (Err error.Memory) h k = inr (inr refl)
  one_telling (Ok finding.Clean) (Ok finding.Clean) h k = inl refl
  one_telling (Ok finding.Clean) (Ok (finding.False q u m other)) h k =
      absurd (all_clear_or_found d events q (u, m, complaint.False other) h k)
  one_telling (Ok finding.Clean) (Err (error.Large q u m)) h k = absurd (all_clear_or_found d events q (u, m, complaint.Large) h k)
  one_telling (Ok finding.Clean) (Err (error.NotRun there)) h k = absurd (all_clear_or_no_run d events there h k)
  one_telling (Ok (finding.False p t n own)) (Ok finding.Clean) h k =
      absurd (all_clear_or_found d events p (t, n, complaint.False own) k h)
  one_telling (Ok (finding.False p t n own)) (Ok (finding.False q u m other)) h k =
      inl (same_told p q (t, n, complaint.False own) (u, m, complaint.False other) h k)
  one_telling (Ok (finding.False p t n own)) (Err (error.Large q u m)) h k =
      inl (same_told p q (t, n, complaint.False own) (u, m, complaint.Large) h k)
  one_telling (Ok (finding.False p t n own)) (Err (error.NotRun there)) h k =
      absurd (found_or_no_run d events p there (t, n, complaint.False own) h k)
  one_telling (Err (error.Large p t n)) (Ok finding.Clean) h k = absurd (all_clear_or_found d events p (t, n, complaint.Large) k h)
  one_telling (Err (error.Large p t n)) (Ok (finding.False q u m other)) h k =
      inl (same_told p q (t, n, complaint.Large) (u, m, complaint.False other) h k)
  one_telling (Err (error.Large p t n)) (Err (error.Large q u m)) h k =
      inl (same_told p q (t, n, complaint.Large) (u, m, complaint.Large) h k)
  one_telling (Err (error.Large p t n)) (Err (error.NotRun there)) h k =
      absurd (found_or_no_run d events p there (t, n, complaint.Large) h k)
  one_telling (Err (error.NotRun at)) (Ok finding.Clean) h k = absurd (all_clear_or_no_run d events at k h)
  one_telling (Err (error.NotRun at)) (Ok (finding.False q u m other)) h k =
      absurd (found_or_no_run d events q at (u, m, complaint.False other) k h)
  one_telling (Err (error.NotRun at)) (Err (error.Large q u m)) h k =
      absurd (found_or_no_run d events q at (u, m, complaint.Large) k h)
  one_telling (Err (error.NotRun at)) (Err (error.NotRun there)) h k =
      inl (ap (λ x. Err (error.NotRun x)) (no_run_once d events at there h k))
