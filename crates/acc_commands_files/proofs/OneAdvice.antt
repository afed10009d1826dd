-- `advise` says one thing of its design and points.
use Rattle.std.proofs.Common.{◌≡◌, ◌<◌, ℕ, zero, suc, List, [], ◌∷◌, ◌++◌, length, Option, None, Some, inl, inr, refl, sym, ap}
use Rattle.std.proofs.Common.{subst, ◌∙◌, arith}
use Rattle.std.specs.Prelude.{codes}
use Rattle.std.specs.List.{flat_map}
use Rattle.acc_base.specs.declared.designs.At.{At}
use Rattle.acc_base.specs.declared.designs.Design.{Design}
use Rattle.acc_base.specs.declared.designs.Side.{Side}
use Rattle.acc_base.specs.declared.sequents.Origin.{Origin}
use Rattle.acc_base.specs.Lines.{line}
use Rattle.acc_oblig_origins.specs.Origins.{origin_text}
use Rattle.acc_print.specs.Designs.{entry_line}
use Rattle.acc_advise.specs.declared.advice.Advice.{Advice}
use Rattle.acc_advise.specs.declared.advice.Advice.TheVariants.{Free, Keyed}
use Rattle.acc_advise.specs.declared.advice.Beyond.{Beyond}
use Rattle.acc_advise.specs.declared.advice.Question.{Question}
use Rattle.acc_advise.specs.Advices.{Passes, pairs_of, Settles, IsAdvice}
use Rattle.acc_advise.specs.TriedDesigns.{keyed}
use Rattle.acc_advise.proofs.Trying.{beyond_not_enough, beyond_once}
use Rattle.acc_commands_inputs.specs.Text.{Said}
use Rattle.acc_commands_inputs.proofs.OneDesign.{said_same, one_design, one_refusal, formed_or_refused}
use Rattle.acc_journalled.specs.declared.answers.Ending.TheVariants.{Done, DesignRefused, ScriptRefused}
use Rattle.acc_commands_files.specs.Advising.{beyond_line, advice_text, held_at, step_at, SaysOfPoints, SaysAdvice, AdvisesFile}

some_same : {X : Type 0} (x y : X) → Some x ≡ Some y → x ≡ y
some_same x y e = cc

none_some : {X : Type 0} (x : X) → None ≡ Some x → ⊥
none_some x e = cc

-- ---- passes

module _ (d : Design) (q : Question) where
  one_pass : (set pairs grown more : List (ℕ × ℕ)) (bs cs : List Beyond) → Passes d q set pairs grown bs → Passes d q set pairs more cs
      → (grown ≡ more) × (bs ≡ cs)
  one_pass set [] grown more bs cs h k = (h.0 ∙ sym k.0, h.1 ∙ sym k.1)
  one_pass set (pair ∷ pairs) grown more bs cs (inl h) (inl k) = one_pass (set ++ pair ∷ []) pairs grown more bs cs h.1 k.1
  one_pass set (pair ∷ pairs) grown more bs cs (inl h) (inr k) = absurd (beyond_not_enough d q set pair k.0 k.3 h.0)
  one_pass set (pair ∷ pairs) grown more bs cs (inr h) (inl k) = absurd (beyond_not_enough d q set pair h.0 h.3 k.0)
  one_pass set (pair ∷ pairs) grown more bs cs (inr h) (inr k) =
      let rest = one_pass set pairs grown more h.1 k.1 h.4 k.4 in
      let first = beyond_once d q set pair k.0 k.3 h.0 h.3 in
      (rest.0, h.2 ∙ (λ i. first i ∷ rest.1 i) ∙ sym k.2)

  one_settled : (n m : ℕ) (set pairs grown more : List (ℕ × ℕ)) (bs cs : List Beyond) → Settles d q n set pairs grown bs
      → Settles d q m set pairs more cs → (grown ≡ more) × (bs ≡ cs)
  one_settled zero zero set pairs grown more bs cs h k = one_pass set pairs grown more bs cs h.0 k.0
  one_settled zero (suc m) set pairs grown more bs cs h k =
      let same = ap length (one_pass set pairs grown k.0 bs k.1 h.0 k.2).1 in absurd (omega (arith, same, h.1, k.3))
  one_settled (suc n) zero set pairs grown more bs cs h k =
      let same = ap length (one_pass set pairs h.0 more h.1 cs h.2 k.0).1 in absurd (omega (arith, same, k.1, h.3))
  one_settled (suc n) (suc m) set pairs grown more bs cs h k =
      let same = one_pass set pairs h.0 k.0 h.1 k.1 h.2 k.2 in
      one_settled n m k.0 (pairs_of k.1) grown more bs cs
      (subst (λ (set : List (ℕ × ℕ)). Settles d q n set (pairs_of k.1) grown bs) same.0
      (subst (λ (left : List Beyond). Settles d q n h.0 (pairs_of left) grown bs) same.1 h.4))
      k.4

  -- the proofs aren't said
  one_text : (a b : Advice) → IsAdvice d q a → IsAdvice d q b → advice_text d q a ≡ advice_text d q b
  one_text (Free ps) (Free rs) h k = refl
  one_text (Free ps) (Keyed pairs rs cs) h k = absurd (k.0 h.0)
  one_text (Keyed pairs ps bs) (Free rs) h k = absurd (h.0 k.0)
  one_text (Keyed pairs ps bs) (Keyed more rs cs) h k =
      let same = one_settled h.1.0 k.1.0 [] _ pairs more bs cs h.1.1 k.1.1 in
      λ i. entry_line d (keyed q (same.0 i)) ++ flat_map (beyond_line d q) (same.1 i)

-- ---- answers

one_of_points : (d : Design) (held step : List ℕ) (side : Side) (p q : Option At) (a b : Said) → SaysOfPoints d held step side p q a
    → SaysOfPoints d held step side p q b → a ≡ b
one_of_points d held step side None q a b h k =
    said_same ScriptRefused (line (codes "refused point " ++ held)) (line (codes "refused point " ++ held)) a b refl h k
one_of_points d held step side (Some p) None a b h k =
    said_same ScriptRefused (line (codes "refused point " ++ step)) (line (codes "refused point " ++ step)) a b refl h k
one_of_points d held step side (Some p) (Some q) a b (inl h) (inl k) =
    said_same Done _ _ a b (one_text d (record { held = p; step = q; side = side }) h.advice k.advice h.is_advice k.is_advice) h.says k.says
one_of_points d held step side (Some p) (Some q) a b (inl h) (inr k) = absurd (none_some k.origin (sym h.narrow ∙ k.wide))
one_of_points d held step side (Some p) (Some q) a b (inr h) (inl k) = absurd (none_some h.origin (sym k.narrow ∙ h.wide))
one_of_points d held step side (Some p) (Some q) a b (inr h) (inr k) =
    said_same DesignRefused _ _ a b
    (ap (λ (o : Origin). line (codes "refused wide " ++ origin_text d o)) (some_same h.origin k.origin (sym h.wide ∙ k.wide))) h.says k.says

pub one_advice : (design held step : List ℕ) (side : Side) (a b : Said) → AdvisesFile design held step side a
    → AdvisesFile design held step side b → a ≡ b
one_advice design held step side a b (inl h) (inl k) = one_refusal design a b h k
one_advice design held step side a b (inl h) (inr k) = absurd (formed_or_refused design k.d a k.is_text k.formed h)
one_advice design held step side a b (inr h) (inl k) = absurd (formed_or_refused design h.d b h.is_text h.formed k)
one_advice design held step side a b (inr h) (inr k) =
    one_of_points k.d held step side (held_at k.d held) (step_at k.d side step) a b
    (subst (λ (d : Design). SaysAdvice d held step side a) (one_design design h.d k.d h.is_text k.is_text) h.says) k.says
