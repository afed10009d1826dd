-- What the searches for the proofs of obligations come to.
use Rattle.std.proofs.Common.{◌≡◌, ℕ, List, [], ◌∷◌, ◌++◌, Ok, Err, Option, Some, None, refl, sym, ap, subst, ◌∙◌, inl, inr}
use Rattle.std.specs.Prelude.{◌≢◌, ◌⊎◌, Result, IfOk, IfErr}
use Rattle.std.specs.List.{AllByRecursion}
use Rattle.std.proofs.lemmas.Option.{none-some, same_Some}
use Rattle.acc_base.specs.declared.designs.Design.{Design}
use Rattle.acc_base.specs.declared.sequents.Origin.{Origin}
use Rattle.acc_base.specs.declared.sequents.Sequent.{Sequent}
use Rattle.acc_axioms.specs.declared.nodes.Node.{Node}
use Rattle.acc_axioms.specs.declared.nodes.Proof.{Proof}
use Rattle.acc_prover.specs.BranchCourses.{Course}
use Rattle.acc_prover.specs.Courses.{IsProof}
use Rattle.acc_prover.specs.Tellings.{Closes, Tells, IfProved}
use Rattle.acc_prover.specs.declared.found.Found.{Found}
use Rattle.acc_prover.specs.declared.found.Found.TheVariants.{Proved, Unproved}
use Rattle.acc_prover.specs.declared.found.SearchError.{SearchError}
use Rattle.acc_prover.specs.declared.found.SearchError.TheVariants.{Crowded, Wide, Many, Memory}
use Rattle.acc_cert_prove.specs.declared.findings.Finding.{Finding}
use Rattle.acc_cert_prove.specs.Lines.{searched}
use Rattle.acc_cert_prove.specs.Founds.{found_proofs}
use Rattle.acc_cert_prove.specs.Findings.{AreFindings, HasEnded, finding_proofs}
use Rattle.acc_oblig.specs.Drafts.{Draft}
use Rattle.acc_oblig_goals.specs.Causes.{sequents, first_wide}
use Rattle.acc_advise.specs.declared.advice.Beyond.{Beyond}
use Rattle.acc_advise.specs.declared.advice.Question.{Question}
use Rattle.acc_advise.specs.declared.advice.Obstacle.{Obstacle}
use Rattle.acc_advise.specs.declared.advice.AdviseError.{AdviseError}
use Rattle.acc_advise.specs.declared.trials.SpareTrial.{SpareTrial}
use Rattle.acc_advise.specs.declared.trials.SpareTrial.TheVariants as trial
use Rattle.acc_advise.specs.declared.spares.Inquiry.{Inquiry}
use Rattle.acc_advise.specs.Stops.{stop_in, AllProved, IsFirstOpen, AreProofs, Tries, why_of, stop_by, stop_of, stop_or, first_stop, Ends}
use Rattle.acc_advise.specs.Cases.{TellsWide, IsMemory, TriesAll}
use Rattle.acc_advise.specs.Advices.{IsBeyond, IsEnough}
use Rattle.acc_advise.specs.TriedDesigns.{keyed_drafts}

-- ---- findings, one after the other

behind_some : (s : Origin × Obstacle) (o : Origin) (w : Option Obstacle) → stop_by (Some s) o w ≡ Some s
behind_some s o None = refl
behind_some s o (Some w) = refl

behind_none : (o : Origin) (w : Option Obstacle) → stop_or o w None ≡ stop_by None o w
behind_none o None = refl
behind_none o (Some w) = refl

behind_or : (o p : Origin) (v w : Option Obstacle) (rest : Option (Origin × Obstacle)) → stop_or o v (stop_by rest p w) ≡ stop_by (stop_or o v rest) p w
behind_or o p None w rest = refl
behind_or o p (Some v) w rest = sym (behind_some (o, v) p w)

pub stop_behind : (fs : List Finding) (f : Finding) → first_stop (fs ++ f ∷ []) ≡ stop_of (first_stop fs) f
stop_behind [] f = behind_none f.origin (why_of f.found)
stop_behind (x ∷ fs) f =
    ap (stop_or x.origin (why_of x.found)) (stop_behind fs f)
    ∙ behind_or x.origin f.origin (why_of x.found) (why_of f.found) (first_stop fs)

pub next_stop :
    (fs : List Finding) (f : Finding) (stop new : Option (Origin × Obstacle)) → stop ≡ first_stop fs → new ≡ stop_of stop f
    → new ≡ first_stop (fs ++ f ∷ [])
next_stop fs f stop new before now = now ∙ ap (λ (s : Option (Origin × Obstacle)). stop_of s f) before ∙ sym (stop_behind fs f)

-- ---- by the definition of the search

module _ (d : Design) (q : Sequent) (o : Origin) (rest : Option (Origin × Obstacle)) where
  proved_one :
      (r : Result Found SearchError) → r ≢ Err Memory → Tells r (searched d q) → IfProved r (IsProof d q)
      → stop_or o (why_of r) rest ≡ None
      → (p : Proof) × (found_proofs r ≡ p ∷ []) × Closes (searched d q) × IsProof d q p.nodes × (rest ≡ None)
  proved_one (Ok (Proved p)) other kind proof none = (p, refl, kind, proof, none)
  proved_one (Ok (Unproved leaf point)) other kind proof none = absurd (none-some _ (sym none))
  proved_one (Err Crowded) other kind proof none = absurd (none-some _ (sym none))
  proved_one (Err Wide) other kind proof none = absurd (none-some _ (sym none))
  proved_one (Err Many) other kind proof none = absurd (none-some _ (sym none))
  proved_one (Err Memory) other kind proof none = absurd (other refl)

  stopped_one :
      (r : Result Found SearchError) (s : Origin × Obstacle) → r ≢ Err Memory → Tells r (searched d q) → o ≡ q.origin
      → stop_or o (why_of r) rest ≡ Some s
      → ((q.origin ≡ s.0) × (stop_in (searched d q) ≡ Some s.1)) ⊎ (Closes (searched d q) × (rest ≡ Some s))
  stopped_one (Ok (Proved p)) s other kind from is = inr (kind, is)
  stopped_one (Ok (Unproved leaf point)) s other kind from is =
      let e = same_Some _ s is in inl (sym from ∙ ap (λ x. x.0) e, ap stop_in kind ∙ ap (λ x. Some x.1) e)
  stopped_one (Err Crowded) s other kind from is =
      let e = same_Some _ s is in inl (sym from ∙ ap (λ x. x.0) e, ap stop_in kind ∙ ap (λ x. Some x.1) e)
  stopped_one (Err Wide) s other kind from is =
      let e = same_Some _ s is in inl (sym from ∙ ap (λ x. x.0) e, ap stop_in kind ∙ ap (λ x. Some x.1) e)
  stopped_one (Err Many) s other kind from is =
      let e = same_Some _ s is in inl (sym from ∙ ap (λ x. x.0) e, ap stop_in kind ∙ ap (λ x. Some x.1) e)
  stopped_one (Err Memory) s other kind from is = absurd (other refl)

module _ (d : Design) where
  proved_all :
      (qs : List Sequent) (fs : List Finding) → AreFindings d qs fs → AllByRecursion HasEnded fs → first_stop fs ≡ None
      → AllProved d qs × AreProofs d qs (finding_proofs fs)
  proved_all [] [] h ended none = (tt, tt)
  proved_all [] (f ∷ fs) h ended none = absurd h
  proved_all (q ∷ qs) [] h ended none = absurd h
  proved_all (q ∷ qs) (f ∷ fs) h ended none =
      let (p, is, closes, proof, more) = proved_one d q f.origin (first_stop fs) f.found ended.0 h.0.kind h.0.proof none in
      let rest = proved_all qs fs h.1 ended.1 more in (
        (closes, rest.0),
        subst (λ (ps : List Proof). AreProofs d (q ∷ qs) (ps ++ finding_proofs fs)) (sym is) (proof, rest.1),
      )

  stopped_all :
      (qs : List Sequent) (fs : List Finding) (s : Origin × Obstacle) → AreFindings d qs fs → AllByRecursion HasEnded fs
      → first_stop fs ≡ Some s → IsFirstOpen d qs s.0 s.1
  stopped_all [] [] s h ended is = none-some s is
  stopped_all [] (f ∷ fs) s h ended is = absurd h
  stopped_all (q ∷ qs) [] s h ended is = absurd h
  stopped_all (q ∷ qs) (f ∷ fs) s h ended is =
      by (stopped_one d q f.origin (first_stop fs) f.found s ended.0 h.0.kind h.0.origin is)
      (λ more. stopped_all qs fs s h.1 ended.1 more)
    where
      by :
          ((q.origin ≡ s.0) × (stop_in (searched d q) ≡ Some s.1)) ⊎ (Closes (searched d q) × (first_stop fs ≡ Some s))
          → (first_stop fs ≡ Some s → IsFirstOpen d qs s.0 s.1)
          → ((q.origin ≡ s.0) × (stop_in (searched d q) ≡ Some s.1)) ⊎ (Closes (searched d q) × IsFirstOpen d qs s.0 s.1)
      by (inl here) rest = inl here
      by (inr later) rest = inr (later.0, rest later.1)

  tries : (qs : List Sequent) (fs : List Finding) (t : SpareTrial) → AreFindings d qs fs → Ends fs t → Tries d qs t
  tries qs fs (trial.Proved ps) h ends =
      let all = proved_all qs fs h ends.0 ends.1 in
      (all.0, subst (AreProofs d qs) (sym ends.2) all.1)
  tries qs fs (trial.Stopped o w) h ends = stopped_all qs fs (o, w) h ends.0 ends.1

  pub tries_if : {E : Type 0} (qs : List Sequent) (fs : List Finding) (r : Result SpareTrial E) → AreFindings d qs fs → IfOk r (Ends fs)
      → IfOk r (Tries d qs)
  tries_if qs fs (Ok t) h ends = tries qs fs t h ends
  tries_if qs fs (Err e) h ends = tt

pub tries_all :
    (c : Inquiry) (ds : List Draft) (qs : List Sequent) (r : Result SpareTrial AdviseError) → qs ≡ sequents ds → first_wide ds ≡ None
    → IfOk r (Tries c.d.now qs) → IfErr r IsMemory → TriesAll c ds r
tries_all c ds qs (Ok t) e none h memory = (subst (λ (xs : List Sequent). Tries c.d.now xs t) e h, none)
tries_all c ds qs (Err e) f none h memory = subst (TellsWide ds) (sym memory) tt

closed_stop : (c : Course (List Node)) (w : Obstacle) → Closes c → stop_in c ≡ Some w → ⊥
closed_stop (Ok nodes) w h e = none-some w e
closed_stop (Err e) w h g = h

-- what stops a search isn't closed
pub open_not_proved : (d : Design) (qs : List Sequent) (o : Origin) (w : Obstacle) → IsFirstOpen d qs o w → ¬ AllProved d qs
open_not_proved d [] o w h all = h
open_not_proved d (q ∷ qs) o w (inl here) all = closed_stop (searched d q) w all.0 here.1
open_not_proved d (q ∷ qs) o w (inr later) all = open_not_proved d qs o w later.1 all.1

-- the first that is open is one, and so is what stops it
one_open : (d : Design) (qs : List Sequent) (o p : Origin) (v w : Obstacle) → IsFirstOpen d qs o v → IsFirstOpen d qs p w → (o ≡ p) × (v ≡ w)
one_open d [] o p v w h g = absurd h
one_open d (q ∷ qs) o p v w (inl h) (inl g) = (sym h.0 ∙ g.0, same_Some v w (sym h.1 ∙ g.1))
one_open d (q ∷ qs) o p v w (inl h) (inr g) = absurd (closed_stop (searched d q) v g.0 h.1)
one_open d (q ∷ qs) o p v w (inr h) (inl g) = absurd (closed_stop (searched d q) w h.0 g.1)
one_open d (q ∷ qs) o p v w (inr h) (inr g) = one_open d qs o p v w h.1 g.1

module _ (d : Design) (q : Question) (set : List (ℕ × ℕ)) (pair : ℕ × ℕ) (b : Beyond) (h : IsBeyond d q set pair b) where
  pub beyond_not_enough : ¬ IsEnough d q (set ++ pair ∷ [])
  beyond_not_enough = open_not_proved d (sequents (keyed_drafts d q (set ++ pair ∷ []))) b.origin b.why h.first

  pub beyond_once : (other : Beyond) → IsBeyond d q set pair other → other ≡ b
  beyond_once other g =
      let (o, w) = one_open d (sequents (keyed_drafts d q (set ++ pair ∷ []))) other.origin b.origin other.why b.why g.first h.first in
      ap (λ (x : ℕ × ℕ). record { pair = x; origin = other.origin; why = other.why }) (g.is ∙ sym h.is)
      ∙ ap (λ (x : Origin). record { pair = b.pair; origin = x; why = other.why }) o
      ∙ ap (λ (x : Obstacle). record { pair = b.pair; origin = b.origin; why = x }) w
