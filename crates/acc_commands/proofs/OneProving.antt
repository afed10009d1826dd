-- Of a design one thing is said by `prove`, but for which certificate it makes.
use Rattle.std.proofs.Common.{◌≡◌, ℕ, List, None, Some, inl, inr, refl, sym, ap, subst, ◌∙◌}
use Rattle.std.specs.Prelude.{◌⊎◌, ◌++◌, codes}
use Rattle.acc_base.specs.declared.designs.Design.{Design}
use Rattle.acc_base.specs.declared.sequents.Origin.{Origin}
use Rattle.acc_base.specs.Lines.{line}
use Rattle.acc_oblig_origins.specs.Origins.{origin_text}
use Rattle.acc_commands_files.specs.Provings.{IsWide}
use Rattle.acc_journalled.specs.declared.answers.Ending.TheVariants.{Done}
use Rattle.acc_commands_journals.specs.Command.{Command}
use Rattle.acc_commands_journals.specs.Command.TheVariants as command
use Rattle.acc_commands_journals.specs.Text.{Said}
use Rattle.acc_commands_files.specs.ProveFiles.{EndsProving, ProvesFile}
use Rattle.acc_commands_journals.proofs.OneDesign.{one_design, one_refusal, formed_or_refused}

-- the same; or both are certificates of `prove`
abbrev pub SaidAlike : Command → Said → Said → Type 0
SaidAlike c a b = (a ≡ b) ⊎ ((c ≡ command.Prove) × (a.ending ≡ Done) × (b.ending ≡ Done) × (a.history ≡ b.history))

none_some : {X : Type 0} (x : X) → None ≡ Some x → ⊥
none_some x e = cc

some_same : {X : Type 0} (x y : X) → Some x ≡ Some y → x ≡ y
some_same x y e = cc

one_wide : (d : Design) (t u : List ℕ) → IsWide d t → IsWide d u → t ≡ u
one_wide d t u h k =
    h.says
    ∙ ap (λ (o : Origin). line (codes "refused wide " ++ origin_text d o)) (some_same h.origin k.origin (sym h.wide ∙ k.wide))
    ∙ sym k.says

one_told : (d : Design) (a b : Said) → a.history ≡ b.history → EndsProving d a.ending a.text → EndsProving d b.ending b.text
    → SaidAlike command.Prove a b
one_told d a b same (inl h) (inl k) = inr (refl, h.0, k.0, same)
one_told d a b same (inl h) (inr (inl k)) = absurd (k.1.not_all h.1.closes)
one_told d a b same (inl h) (inr (inr k)) = absurd (none_some k.1.origin (sym h.1.narrow ∙ k.1.wide))
one_told d a b same (inr (inl h)) (inl k) = absurd (h.1.not_all k.1.closes)
one_told d a b same (inr (inl h)) (inr (inl k)) =
    inl (λ i. record { ending = (h.0 ∙ sym k.0) i; text = (h.1.says ∙ sym k.1.says) i; history = same i })
one_told d a b same (inr (inl h)) (inr (inr k)) = absurd (none_some k.1.origin (sym h.1.narrow ∙ k.1.wide))
one_told d a b same (inr (inr h)) (inl k) = absurd (none_some h.1.origin (sym k.1.narrow ∙ h.1.wide))
one_told d a b same (inr (inr h)) (inr (inl k)) = absurd (none_some h.1.origin (sym k.1.narrow ∙ h.1.wide))
one_told d a b same (inr (inr h)) (inr (inr k)) =
    inl (λ i. record { ending = (h.0 ∙ sym k.0) i; text = one_wide d a.text b.text h.1 k.1 i; history = same i })

pub one_prove : (design : List ℕ) (a b : Said) → ProvesFile design a → ProvesFile design b → SaidAlike command.Prove a b
one_prove design a b (inl h) (inl k) = inl (one_refusal design a b h k)
one_prove design a b (inl h) (inr k) = absurd (formed_or_refused design k.d a k.is_text k.formed h)
one_prove design a b (inr h) (inl k) = absurd (formed_or_refused design h.d b h.is_text h.formed k)
one_prove design a b (inr h) (inr k) =
    one_told k.d a b (h.says.0 ∙ sym k.says.0)
    (subst (λ (d : Design). EndsProving d a.ending a.text) (one_design design h.d k.d h.is_text k.is_text) h.says.1) k.says.1
