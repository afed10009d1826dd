-- What is refused of obligations, in other words.
use Rattle.std.proofs.Common.{◌≡◌, ℕ, ◌<◌, ◌≤◌, ◌+◌, List, length, get_or, None, Some, refl, sym, ap, subst, ◌∙◌, inl, inr, arith}
use Rattle.std.specs.Prelude.{Option, slice_get, ◌⊎◌}
use Rattle.std.proofs.lemmas.Option.{slice_get_within}
use Rattle.std.proofs.Math.Nat.{eq-or-lt_of_le}
use Rattle.acc_base.specs.declared.designs.Design.{Design}
use Rattle.acc_base.specs.declared.sequents.Origin.{Origin}
use Rattle.acc_base.specs.declared.sequents.Sequent.{Sequent}
use Rattle.acc_axioms.specs.declared.nodes.Proof.{Proof}
use Rattle.acc_proof.specs.Proofs.{Verdict, Proved, NotProved as IsNoProof, WideAt, verdict}
use Rattle.acc_accept.specs.declared.refusals.Refusal.{Refusal}
use Rattle.acc_accept.specs.Accepting.{IsProved, lack_by, lack_of, AreProved, IsFirstLack}

none_some : {X : Type 0} (x : X) → None ≡ Some x → ⊥
none_some x e = cc

some_same : {X : Type 0} (x y : X) → Some x ≡ Some y → x ≡ y
some_same x y e = cc

-- nothing is refused of what is proved
pub proved_lacks : (d : Design) (q : Sequent) (p : Option Proof) → IsProved d q p → lack_of d q p ≡ None
proved_lacks d q None h = absurd h
proved_lacks d q (Some p) h = ap (lack_by q.origin) h

by_verdict : (origin : Origin) (v : Verdict) → lack_by origin v ≡ None → v ≡ Proved
by_verdict origin Proved h = refl
by_verdict origin IsNoProof h = cc
by_verdict origin (WideAt node) h = cc

pub lacks_proved : (d : Design) (q : Sequent) (p : Option Proof) → lack_of d q p ≡ None → IsProved d q p
lacks_proved d q None h = cc
lacks_proved d q (Some p) h = by_verdict q.origin (verdict d q p.nodes) h

-- what is proved lacks nothing
pub none_lacks : (d : Design) (q : Sequent) (p : Option Proof) (r : Refusal) → IsProved d q p → lack_of d q p ≡ Some r → ⊥
none_lacks d q p r h k = none_some r (sym (proved_lacks d q p h) ∙ k)

pub no_first_lack : (d : Design) (qs : List Sequent) (ps : List Proof) (r : Refusal) → AreProved d qs ps → IsFirstLack d qs ps r → ⊥
no_first_lack d qs ps r h k = none_lacks d k.sequent (slice_get ps k.place) r (h k.place k.sequent k.there) k.lacks

one_sequent : (qs : List Sequent) (m n : ℕ) (q r : Sequent) → m ≡ n → slice_get qs m ≡ Some q → slice_get qs n ≡ Some r → q ≡ r
one_sequent qs m n q r e h k = some_same q r (sym h ∙ ap (slice_get qs) e ∙ k)

not_earlier : (d : Design) (qs : List Sequent) (ps : List Proof) (r s : Refusal) (h : IsFirstLack d qs ps r) (k : IsFirstLack d qs ps s)
    → h.place < k.place → ⊥
not_earlier d qs ps r s h k lt =
    none_lacks d h.sequent (slice_get ps h.place) r (k.before h.place h.sequent lt h.there) h.lacks

-- there is one first lack
pub one_lack : (d : Design) (qs : List Sequent) (ps : List Proof) (r s : Refusal) → IsFirstLack d qs ps r → IsFirstLack d qs ps s → r ≡ s
one_lack d qs ps r s h k =
    let not_less : ¬ (h.place < k.place) = not_earlier d qs ps r s h k in
    let not_more : ¬ (k.place < h.place) = not_earlier d qs ps s r k h in
    let place : h.place ≡ k.place = omega (arith, not_less, not_more) in
    let sequent : h.sequent ≡ k.sequent = one_sequent qs h.place k.place h.sequent k.sequent place h.there k.there in
    some_same r s (sym h.lacks ∙ (λ i. lack_of d (sequent i) (slice_get ps (place i))) ∙ k.lacks)

-- ---- one obligation after the other

-- one more of them is proved
pub one_more :
    (d : Design) (qs : List Sequent) (ps : List Proof) (i : ℕ) (q : Sequent)
    → ((n : ℕ) (r : Sequent) → n < i → slice_get qs n ≡ Some r → IsProved d r (slice_get ps n))
    → slice_get qs i ≡ Some q → lack_of d q (slice_get ps i) ≡ None
    → (n : ℕ) (r : Sequent) → n < i + 1 → slice_get qs n ≡ Some r → IsProved d r (slice_get ps n)
one_more d qs ps i q before there none n r lt is =
    let below : n ≤ i = omega (arith, lt) in
    elim (eq-or-lt_of_le below) [
      | inl same ↦ subst (λ (s : Sequent). IsProved d s (slice_get ps n)) (one_sequent qs i n q r (sym same) there is)
          (subst (λ (m : ℕ). IsProved d q (slice_get ps m)) (sym same) (lacks_proved d q (slice_get ps i) none))
      | inr less ↦ before n r less is
    ]

-- all are
pub all_of_them :
    (d : Design) (qs : List Sequent) (ps : List Proof) (i : ℕ)
    → ((n : ℕ) (r : Sequent) → n < i → slice_get qs n ≡ Some r → IsProved d r (slice_get ps n))
    → length qs ≤ i → AreProved d qs ps
all_of_them d qs ps i before done n q is = let lt = slice_get_within qs n q is in before n q (omega (arith, lt, done)) is
