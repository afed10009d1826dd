-- What a walk keeps of marks is the first of the faults that they stand for; where there is none, each mark is an end.
use Rattle.std.proofs.Common.{◌≡◌, ℕ, true, false, List, [], ◌∷◌, Option, None, Some, IsTrue, IfNone, IfSome, MatchOption, Contains, fold}
use Rattle.std.proofs.Common.{refl, sym, ap, subst, ◌∙◌, arith}
use Rattle.std.proofs.lemmas.Bool.{false≢true}
use Rattle.std.proofs.lemmas.List.Elements.{All-nil, All-cons}
use Rattle.acc_base.specs.declared.rules.FormRule.TheVariants as rules
use Rattle.acc_base.specs.declared.rules.FormRule.{FormRule}
use Rattle.acc_base.specs.declared.designs.Design.{Design}
use Rattle.acc_form.specs.declared.walks.Walk.{Walk}
use Rattle.acc_form.specs.Marks.{Mark, Broken, End}
use Rattle.acc_formed.specs.Ranges.{design_in}
use Rattle.acc_form.specs.Statements.{design_marks}
use Rattle.acc_form.specs.Faults.{next_line, placed, form_faults, is_before}
use Rattle.acc_base.specs.Leasts.{IsLeast, better}
use Rattle.acc_formed.specs.WellFormed.{IsWellFormed}
use Rattle.acc_form.specs.Walks.{noted, after}
use Rattle.acc_form.proofs.Clean.{Clean}
use Rattle.acc_form.proofs.FormedDesigns.{design_opens, design_shuts}
use Rattle.acc_base.proofs.Leasts.{least_of, none_of}
use Rattle.acc_form.proofs.Orders.{before_is_order}

-- the first fault
first_after : (w : Walk) (ms : List Mark) → (after w ms).first ≡ fold (better is_before) w.first (placed w.line ms)
unfolding noted
first_after w [] = refl
first_after w (Broken rule ∷ ms) = first_after (noted w (Broken rule)) ms
first_after w (End ∷ ms) = first_after (noted w End) ms

matched : {X : Type 0} (o : Option X) (P : Type 0) (Q : X → Type 0) → IfNone o P → IfSome o Q → MatchOption o P Q
matched None P Q h g = h
matched (Some x) P Q h g = g

-- ---- a design whose numbers are in range

pub faults_in : (d : Design) → design_in d ≡ true → form_faults d ≡ placed 1 (design_marks d)
unfolding form_faults
faults_in d inside = rw inside refl

-- a walk at the first line
abbrev pub start : Walk
start = record { line = 1; first = None }

pub first_of_design : (d : Design) (w v : Walk) → design_in d ≡ true → w ≡ start → v ≡ after w (design_marks d) →
    MatchOption v.first (form_faults d ≡ []) (IsLeast is_before (form_faults d))
first_of_design d w v inside begun ended =
    let faults = form_faults d in
    let kept : v.first ≡ fold (better is_before) None faults =
    ap (λ (u : Walk). u.first) (ended ∙ ap (λ (u : Walk). after u (design_marks d)) begun) ∙ first_after start (design_marks d) ∙ ap
    (λ (fs : List (FormRule × ℕ)). fold (better is_before) None fs) (sym (faults_in d inside)) in
    subst (λ (o : Option (FormRule × ℕ)). MatchOption o (faults ≡ []) (IsLeast is_before faults)) (sym kept)
    (matched (fold (better is_before) None faults) (faults ≡ []) (IsLeast is_before faults) (none_of is_before faults)
    (least_of is_before before_is_order faults))

-- ---- a number out of range is the first fault

pub faults_out : (d : Design) → design_in d ≡ false → form_faults d ≡ (rules.Ranges, 0) ∷ []
unfolding form_faults
faults_out d outside = rw outside refl

alone_is_least : (f : FormRule × ℕ) → IsLeast is_before (f ∷ []) f
alone_is_least f = record {
  there = (0, omega arith, refl);
  least = All-cons (λ g. ¬ IsTrue (is_before g f)) f [] (before_is_order.irreflexive f) (All-nil (λ g. ¬ IsTrue (is_before g f)));
}

pub range_fault : (d : Design) → design_in d ≡ false → IsLeast is_before (form_faults d) (rules.Ranges, 0)
range_fault d outside =
    subst (λ (fs : List (FormRule × ℕ)). IsLeast is_before fs (rules.Ranges, 0)) (sym (faults_out d outside))
    (alone_is_least (rules.Ranges, 0))

-- ---- no fault

clean_of_none : (line : ℕ) (ms : List Mark) → placed line ms ≡ [] → Clean ms
clean_of_none line [] h = refl
clean_of_none line (Broken rule ∷ ms) h = absurd (cc)
clean_of_none line (End ∷ ms) h = clean_of_none (next_line line) ms h

none_of_clean : (line : ℕ) (ms : List Mark) → Clean ms → placed line ms ≡ []
none_of_clean line [] h = refl
none_of_clean line (Broken rule ∷ ms) h = absurd (false≢true h)
none_of_clean line (End ∷ ms) h = none_of_clean (next_line line) ms h

not_empty : (f : FormRule × ℕ) → ¬ (f ∷ [] ≡ [])
not_empty f h = absurd (cc)

pub well_formed_of_none : (d : Design) → form_faults d ≡ [] → IsWellFormed d
well_formed_of_none d h =
    elim (design_in d) as (λ b. design_in d ≡ b → IsWellFormed d) [
      | true ↦ λ e. design_opens d e (clean_of_none 1 (design_marks d) (sym (faults_in d e) ∙ h))
      | false ↦ λ e. absurd (not_empty (rules.Ranges, 0) (sym (faults_out d e) ∙ h))
    ] refl

pub none_of_well_formed : (d : Design) → IsWellFormed d → form_faults d ≡ []
none_of_well_formed d w = faults_in d w.in_range ∙ none_of_clean 1 (design_marks d) (design_shuts d w)

-- a design with a fault isn't well-formed
pub faulty_of_least : (d : Design) (f : FormRule × ℕ) → IsLeast is_before (form_faults d) f → ¬ IsWellFormed d
faulty_of_least d f least w =
    let there : Contains [] f = subst (λ (fs : List (FormRule × ℕ)). Contains fs f) (none_of_well_formed d w) least.there in
    absurd (omega (arith, there.1))
