-- One reader or the other, by the sign that leads what they read.
use Rattle.std.proofs.Common.{◌≡◌, Bool, true, false, List, ◌∷◌, ◌++◌, refl, ap, subst, ◌∙◌, inl, inr}
use Rattle.std.specs.Prelude.{◌||◌}
use Rattle.acc_grammar.specs.Readers.{OutcomeOf}
use Rattle.acc_grammar.specs.Runs.{next_is}
use Rattle.acc_grammar.proofs.Exact.{Exact, Made, Or, either, either_exact}
use Rattle.acc_grammar.proofs.RunReaders.{next_head}

-- what is spelled begins with a sign that passes
abbrev pub Leads : {S T : Type 0} → (S → Bool) → (T → List S) → T → Type 0
Leads first spell t = (s : _) × (ss : List _) × (spell t ≡ s ∷ ss) × (first s ≡ true)

pub leads_yes : {S T : Type 0} (first : S → Bool) (spell : T → List S) (t : T) (rest : List S) → Leads first spell t →
    next_is first (spell t ++ rest) ≡ true
leads_yes {S} first spell t rest h = ap (λ (z : List S). next_is first (z ++ rest)) h.2 ∙ h.3

pub leads_no : {S T : Type 0} (first other : S → Bool) (spell : T → List S) (t : T) (rest : List S) →
    ((s : S) → first s ≡ true → other s ≡ false) → Leads first spell t → next_is other (spell t ++ rest) ≡ false
leads_no {S} first other spell t rest apart h = ap (λ (z : List S). next_is other (z ++ rest)) h.2 ∙ apart h.0 h.3

pub made_leads : {S A T : Type 0} (first : S → Bool) (spell : T → List S) (f : A → T) (P : A → Type 0) →
    ((a : A) → P a → Leads first spell (f a)) → (t : T) → Made f P t → Leads first spell t
made_leads first spell f P h t m = subst (Leads first spell) m.2 (h m.0 m.1)

-- one of two signs
abbrev pub one_of : {S : Type 0} → (S → Bool) → (S → Bool) → S → Bool
one_of a b s = a s || b s

or_true : (x y : Bool) → y ≡ true → (x || y) ≡ true
or_true true y h = refl
or_true false y h = h

pub or_leads : {S T : Type 0} (a b : S → Bool) (spell : T → List S) (P R : T → Type 0) → ((t : T) → P t → Leads a spell t) →
    ((t : T) → R t → Leads b spell t) → (t : T) → Or P R t → Leads (one_of a b) spell t
or_leads a b spell P R ha hb t (inl p) = let h = ha t p in (h.0, h.1, h.2, ap (λ (x : Bool). x || b h.0) h.3)
or_leads a b spell P R ha hb t (inr q) = let h = hb t q in (h.0, h.1, h.2, or_true (a h.0) (b h.0) h.3)

-- the first where a sign comes that leads its trees
pub first_exact : {S T : Type 0} {Q : S → Type 0} {spell : T → List S} {P R : T → Type 0} {goes : T → List S → Type 0} {ra rb : List S →
    OutcomeOf S T} (ea : Exact Q spell P goes ra) (eb : Exact Q spell R goes rb) (a b : S → Bool) (ha : (t : T) → P t → Leads a spell t)
    (hb : (t : T) → R t → Leads b spell t) (apart : (s : S) → b s ≡ true → a s ≡ false) →
    Exact Q spell (Or P R) goes (either (next_is a) ra rb)
first_exact {spell = spell} ea eb a b ha hb apart =
    either_exact ea eb (next_is a) (next_head a) (λ t rest p g. leads_yes a spell t rest (ha t p))
    (λ t rest q g. leads_no b a spell t rest apart (hb t q))
