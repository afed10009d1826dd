-- Each fault above rule 1 is a statement in print that breaks its rule, on its line.
use Rattle.std.proofs.Common.{◌≡◌, ◌<◌, ◌^◌, ℕ, zero, suc, ◌+◌, ◌-◌, true, false, List, [], ◌∷◌, ◌++◌, length, get_or, refl, sym, ap, subst}
use Rattle.std.proofs.Common.{◌∙◌, arith, All, inl, inr}
use Rattle.std.specs.Prelude.{Contains}
use Rattle.std.proofs.lemmas.Bool.{lt-ltb}
use Rattle.std.proofs.lemmas.List.Elements.{All-nil, All-cons, All-contains}
use Rattle.std.proofs.lemmas.List.Concat.{flat_map-append}
use Rattle.acc_base.specs.declared.rules.FormRule.TheVariants as rules
use Rattle.acc_base.specs.declared.rules.FormRule.{FormRule}
use Rattle.acc_base.specs.declared.designs.Design.{Design}
use Rattle.acc_form.specs.declared.rules.FormError.TheVariants.{Bad}
use Rattle.acc_form.specs.Marks.{Mark, Broken, End}
use Rattle.acc_formed.specs.Ranges.{design_in}
use Rattle.acc_form.specs.Statements.{design_marks}
use Rattle.acc_form.specs.Faults.{next_line, placed, form_faults}
use Rattle.acc_form.specs.Judged.{Judged, judged, line_of, texts_of, IsJudgedOn, IsFaultInPrint}
use Rattle.acc_form.proofs.Placed.{faults_in, faults_out}
use Rattle.acc_form.proofs.StatementEnds.{ends_of}
use Rattle.acc_form.proofs.JudgedMarks.{text_of}
use Rattle.acc_form.proofs.JudgedRules.{broken_at}
use Rattle.acc_form.proofs.JudgedDesigns.{design_judged, judged_is_printed, judged_is_marked}

-- ---- lines of statements

-- while lines can be counted, a statement has the next number as its line
pub line_of_few : (n : ℕ) → n < 2 ^ 64 - 1 → line_of n ≡ n + 1
line_of_few zero h = refl
line_of_few (suc n) h =
    let before = line_of_few n (omega (arith, h)) in
    ap next_line before ∙ goes_up (n + 1) (omega (arith, h)) ∙ omega arith
  where
    goes_up : (line : ℕ) → line < 2 ^ 64 - 1 → next_line line ≡ line + 1
    goes_up line less = rw (lt-ltb line (2 ^ 64 - 1) less) refl

-- ---- faults are placed on the lines of their statements

-- the fault's mark, and the line of its statement: so many statements end before it
record IsPlaced (first : ℕ) (ms : List Mark) (f : FormRule × ℕ) : Type 0 where
  earlier : List Mark
  later : List Mark
  is : ms ≡ earlier ++ Broken f.0 ∷ later
  on_line : f.1 ≡ line_of (first + ends_of earlier)

-- behind another mark of the statement at hand, and behind its end
behind_mark : (first : ℕ) (rule : FormRule) (ms : List Mark) (f : FormRule × ℕ) → IsPlaced first ms f → IsPlaced first (Broken rule ∷ ms) f
behind_mark first rule ms f p = record {
  earlier = Broken rule ∷ p.earlier;
  later = p.later;
  is = ap (λ (ns : List Mark). Broken rule ∷ ns) p.is;
  on_line = p.on_line;
}

behind_end : (first : ℕ) (ms : List Mark) (f : FormRule × ℕ) → IsPlaced (suc first) ms f → IsPlaced first (End ∷ ms) f
behind_end first ms f p =
    let next : suc first + ends_of p.earlier ≡ first + suc (ends_of p.earlier) = omega arith in
    record {
      earlier = End ∷ p.earlier;
      later = p.later;
      is = ap (λ (ns : List Mark). End ∷ ns) p.is;
      on_line = p.on_line ∙ ap line_of next;
    }

each_placed : (first : ℕ) (ms : List Mark) → All (IsPlaced first ms) (placed (line_of first) ms)
each_placed first [] = All-nil (IsPlaced first [])
each_placed first (Broken rule ∷ ms) =
    let none : first ≡ first + 0 = omega arith in
    let here : IsPlaced first (Broken rule ∷ ms) (rule, line_of first) =
    record { earlier = []; later = ms; is = refl; on_line = ap line_of none } in
    All-cons (IsPlaced first (Broken rule ∷ ms)) (rule, line_of first) (placed (line_of first) ms) here
    (λ k d lt. behind_mark first rule ms _ (each_placed first ms k d lt))
each_placed first (End ∷ ms) = λ k d lt. behind_end first ms _ (each_placed (suc first) ms k d lt)

-- ---- the statement that breaks the rule, in print

texts_around : (js ks : List Judged) (j : Judged) → texts_of (js ++ j ∷ ks) ≡ texts_of js ++ (j.text ++ texts_of ks)
texts_around js ks j = flat_map-append text_of js (j ∷ ks)

-- a fault of a design whose numbers are in range
pub fault_judged : (d : Design) → design_in d ≡ true → (rule : FormRule) (at : ℕ) → Contains (form_faults d) (rule, at) →
    IsJudgedOn d rule at
fault_judged d inside rule at c =
    let p : IsPlaced 0 (design_marks d) (rule, at) = All-contains (IsPlaced 0 (design_marks d)) (placed 1 (design_marks d)) (rule, at)
    (each_placed 0 (design_marks d)) (subst (λ (fs : List (FormRule × ℕ)). Contains fs (rule, at)) (faults_in d inside) c) in
    let b = broken_at (judged d) (design_judged d).ones p.earlier p.later rule (judged_is_marked d ∙ p.is) in
    let all : 0 + ends_of p.earlier ≡ ends_of p.earlier = omega arith in
    record {
      number = ends_of p.earlier;
      broken = b;
      on_line = p.on_line ∙ ap line_of all;
      text = sym (judged_is_printed d) ∙ ap texts_of b.place ∙ texts_around b.before b.after b.statement;
    }

-- ---- any fault

-- the faults where a number is out of range
abbrev out_of_range : List (FormRule × ℕ)
out_of_range = (rules.Ranges, 0) ∷ []

only_one : (f g : FormRule × ℕ) (k : ℕ) → k < length (f ∷ []) → get_or (f ∷ []) k g ≡ g → g ≡ f
only_one f g zero less e = sym e
only_one f g (suc k) less e = absurd (omega (arith, less))

alone : (rule : FormRule) (at : ℕ) → Contains out_of_range (rule, at) → (rule ≡ rules.Ranges) × (at ≡ 0)
alone rule at h =
    let same = only_one (rules.Ranges, 0) (rule, at) h.0 h.1 h.2 in
    (ap (λ (f : FormRule × ℕ). f.0) same, ap (λ (f : FormRule × ℕ). f.1) same)

pub fault_in_print : (d : Design) (rule : FormRule) (at : ℕ) → Contains (form_faults d) (rule, at) → IsFaultInPrint d (Bad rule at)
fault_in_print d rule at c =
    elim (design_in d) as (λ b. design_in d ≡ b → IsFaultInPrint d (Bad rule at)) [
      | true ↦ λ e. inr (fault_judged d e rule at c)
      | false ↦ λ e. let k = alone rule at (subst (λ (fs : List (FormRule × ℕ)). Contains fs (rule, at)) (faults_out d e) c) in
          inl (e, k.0, k.1)
    ] refl
