-- The guards of instances are among the splits, up to their signs and the order of their terms.
use Rattle.std.proofs.Common.{◌≡◌, Bool, true, false, List, [], ◌∷◌, ◌++◌, refl, inl, inr, if◌then◌else◌}
use Rattle.std.specs.Prelude.{◌⊎◌, ◌||◌, All, negsuc, pos}
use Rattle.std.specs.List.{fold, list_any, Contains}
use Rattle.std.proofs.lemmas.List.Elements.{Contains-append_left, Contains-append_right, Contains-push, All-nil, All-cons, All-weaker}
use Rattle.acc_base.specs.declared.forms.Lin.{Lin}
use Rattle.acc_base.specs.declared.forms.Form.{Form}
use Rattle.acc_base.specs.declared.forms.Rel.{Rel}
use Rattle.acc_base.specs.declared.sequents.Sequent.{Sequent}
use Rattle.acc_prover_choices.specs.Parts.{with_first}
use Rattle.acc_inst.specs.declared.making.Instance.{Instance}
use Rattle.acc_inst.specs.Lists.{no_terms, cancels, same_split, with_split, with_lins, with_form, with_rel}
use Rattle.acc_inst.specs.Lists.{with_instance, with_guard, with_guards, splits_of}

-- a form is another, or the other's negative, however its terms stand
abbrev pub IsLike : Form → Form → Type 0
IsLike g e = (g ≡ e) ⊎ ((cancels (negsuc 0) g e ≡ true) ⊎ (cancels (pos 1) g e ≡ true))

-- it is a constant, or one like it is among splits
abbrev pub IsAmong : List Form → Form → Type 0
IsAmong splits g = (no_terms g.terms ≡ true) ⊎ ((e : Form) × Contains splits e × IsLike g e)

one_of : (a b : Bool) → (a || b) ≡ true → (a ≡ true) ⊎ (b ≡ true)
one_of true b h = inl refl
one_of false b h = inr h

like_by : (g e : Form) → same_split g e ≡ true → IsLike g e
like_by g e h = inr (one_of (cancels (negsuc 0) g e) (cancels (pos 1) g e) h)

first_there : (e : Form) (es : List Form) → Contains (e ∷ es) e
first_there e es = Contains-append_left (e ∷ []) es e (Contains-push [] e)

found : (g : Form) (splits : List Form) → list_any (same_split g) splits ≡ true → (e : Form) × Contains splits e × IsLike g e
found g [] h = absurd (cc)
found g (e ∷ es) h = by (λ k. found g es k) (one_of (same_split g e) (list_any (same_split g) es) h)
  where
    by : (list_any (same_split g) es ≡ true → (x : Form) × Contains es x × IsLike g x)
        → (same_split g e ≡ true) ⊎ (list_any (same_split g) es ≡ true) → (x : Form) × Contains (e ∷ es) x × IsLike g x
    by rest (inl k) = (e, first_there e es, like_by g e k)
    by rest (inr k) = let there = rest k in (there.0, Contains-append_right (e ∷ []) es there.0 there.1, there.2)

keeps_first : (splits : List Form) (f e : Form) → Contains splits e → Contains (with_first same_split splits f) e
keeps_first splits f e h = by (list_any (same_split f) splits)
  where
    by : (b : Bool) → Contains (if b then splits else splits ++ f ∷ []) e
    by true = h
    by false = Contains-append_left splits (f ∷ []) e h

keeps : (splits : List Form) (f e : Form) → Contains splits e → Contains (with_split splits f) e
keeps splits f e h = by (no_terms f.terms)
  where
    by : (b : Bool) → Contains (if b then splits else with_first same_split splits f) e
    by true = h
    by false = keeps_first splits f e h

kept : (splits : List Form) (f g : Form) → IsAmong splits g → IsAmong (with_split splits f) g
kept splits f g (inl h) = inl h
kept splits f g (inr h) = inr (h.0, keeps splits f h.0 h.1, h.2)

has_first : (splits : List Form) (g : Form) → IsAmong (with_first same_split splits g) g
has_first splits g = by (list_any (same_split g) splits) refl
  where
    by : (b : Bool) → list_any (same_split g) splits ≡ b → IsAmong (if b then splits else splits ++ g ∷ []) g
    by true h = inr (found g splits h)
    by false h = inr (g, Contains-push splits g, inl refl)

has : (splits : List Form) (g : Form) → IsAmong (with_split splits g) g
has splits g = by (no_terms g.terms) refl
  where
    by : (b : Bool) → no_terms g.terms ≡ b → IsAmong (if b then splits else with_first same_split splits g) g
    by true h = inl h
    by false h = has_first splits g

guards_kept : (rs : List Rel) (splits : List Form) (g : Form) → IsAmong splits g → IsAmong (fold with_guard splits rs) g
guards_kept [] splits g h = h
guards_kept (r ∷ rs) splits g h = guards_kept rs (with_split splits r.form) g (kept splits r.form g h)

pub guards_all : (rs : List Rel) (splits : List Form) → All (λ r. IsAmong (fold with_guard splits rs) r.form) rs
guards_all [] splits = All-nil (λ r. IsAmong splits r.form)
guards_all (r ∷ rs) splits =
    All-cons (λ s. IsAmong (fold with_guard (with_split splits r.form) rs) s.form) r rs
    (guards_kept rs (with_split splits r.form) r.form (has splits r.form)) (guards_all rs (with_split splits r.form))

all_kept : (made : List Instance) (splits : List Form) (g : Form) → IsAmong splits g → IsAmong (fold with_guards splits made) g
all_kept [] splits g h = h
all_kept (x ∷ made) splits g h = all_kept made (fold with_guard splits x.guards) g (guards_kept x.guards splits g h)

abbrev pub GuardsAmong : List Form → Instance → Type 0
GuardsAmong splits x = All (λ r. IsAmong splits r.form) x.guards

all_among : (made : List Instance) (splits : List Form) → All (GuardsAmong (fold with_guards splits made)) made
all_among [] splits = All-nil (GuardsAmong splits)
all_among (x ∷ made) splits =
    let now = fold with_guard splits x.guards in
    let all = fold with_guards now made in
    All-cons (GuardsAmong all) x made
    (All-weaker (λ r. IsAmong now r.form) (λ r. IsAmong all r.form) (λ r h. all_kept made now r.form h) x.guards
    (guards_all x.guards splits))
    (all_among made now)

pub guards_among : (q : Sequent) (hints : List Lin) (made : List Instance)
    → All (GuardsAmong (splits_of q hints made)) made
guards_among q hints made =
    all_among made (fold with_instance (with_form (fold with_rel (with_lins [] hints) q.rels) q.goal) made)
