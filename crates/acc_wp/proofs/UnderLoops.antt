-- Differences of keys that are computed place by place.
use Rattle.std.proofs.Common.{◌≡◌, ℕ, ◌≤◌, ◌⊎◌, inl, inr, min, false, List, [], ◌∷◌, length, drop, refl, ap, ◌∙◌, arith}
use Rattle.std.proofs.lemmas.List.{drop_all}
use Rattle.acc_base.specs.declared.forms.Lin.{Lin}
use Rattle.acc_preconditions.specs.Unders.{differences, are_long}

either_past : (n a b : ℕ) → n ≡ min a b → (a ≤ n) ⊎ (b ≤ n)
either_past n a b h = grind arith

no_differences : (qs : List Lin) → differences qs [] ≡ []
no_differences [] = refl
no_differences (q ∷ qs) = refl

none_long : (qs : List Lin) → are_long qs [] ≡ false
none_long [] = refl
none_long (q ∷ qs) = refl

-- nothing is left where one of the lists is at its end
pub differences_end : (n : ℕ) (qs ks : List Lin) → n ≡ min (length qs) (length ks) → differences (drop n qs) (drop n ks) ≡ []
differences_end n qs ks h =
    elim (either_past n (length qs) (length ks) h) [
      | inl l ↦ ap (λ (xs : List Lin). differences xs (drop n ks)) (drop_all n qs l)
      | inr l ↦
          ap (λ (xs : List Lin). differences (drop n qs) xs) (drop_all n ks l) ∙ no_differences (drop n qs)
    ]

pub long_end : (n : ℕ) (qs ks : List Lin) → n ≡ min (length qs) (length ks) → are_long (drop n qs) (drop n ks) ≡ false
long_end n qs ks h =
    elim (either_past n (length qs) (length ks) h) [
      | inl l ↦ ap (λ (xs : List Lin). are_long xs (drop n ks)) (drop_all n qs l)
      | inr l ↦
          ap (λ (xs : List Lin). are_long (drop n qs) xs) (drop_all n ks l) ∙ none_long (drop n qs)
    ]
