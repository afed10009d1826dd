-- Steps of loops over terms and over guards.
use Rattle.std.proofs.Common.{◌≡◌, ℕ, ◌+◌, ◌<◌, ◌≤◌, Bool, true, false, List, [], ◌∷◌, length, get_or, drop, drop-cons, add-one, map}
use Rattle.std.proofs.Common.{Option, Some, None, refl, ap, sym, ◌∙◌, ℤ}
use Rattle.std.specs.Prelude.{option_and_then}
use Rattle.std.proofs.lemmas.List.{drop_all}
use Rattle.acc_base.specs.declared.tables.Row.{Row}
use Rattle.acc_base.specs.declared.forms.Rel.{Rel}
use Rattle.acc_audit_trial.specs.Worths.{plus_near, summed, rel_worth}
use Rattle.acc_audit_trial.specs.Trials.{and_met, all_met}

pub one_more : {X : Type 0} (xs : List X) (i : ℕ) (x d : X) → i < length xs → x ≡ get_or xs i d → drop i xs ≡ x ∷ drop (i + 1) xs
one_more xs i x d within here =
    drop-cons xs i d within
    ∙ (ap (λ (n : ℕ). get_or xs i d ∷ drop n xs) (sym (add-one i)) ∙ ap (λ y. y ∷ drop (i + 1) xs) (sym here))

-- ---- sums

module _ {X : Type 0} (f : X → Option ℤ) (xs : List X) where
  module _ (i : ℕ) (x d : X) (within : i < length xs) (here : x ≡ get_or xs i d) where
    summed_step : (s : ℤ) →
        summed s (map f (drop i xs)) ≡ option_and_then (λ n. summed n (map f (drop (i + 1) xs))) (plus_near s (f x))
    summed_step s = ap (λ ys. summed s (map f ys)) (one_more xs i x d within here)

    pub summed_more : (s n : ℤ) (r : Option ℤ) → r ≡ plus_near s (f x) → r ≡ Some n →
        summed n (map f (drop (i + 1) xs)) ≡ summed s (map f (drop i xs))
    summed_more s n r is some =
        ap (option_and_then (λ m. summed m (map f (drop (i + 1) xs)))) (sym some ∙ is) ∙ sym (summed_step s)

    pub summed_none : (s : ℤ) (r : Option ℤ) → r ≡ plus_near s (f x) → r ≡ None → summed s (map f (drop i xs)) ≡ None
    summed_none s r is none =
        summed_step s ∙ ap (option_and_then (λ m. summed m (map f (drop (i + 1) xs)))) (sym is ∙ none)

  pub summed_end : (s : ℤ) (i : ℕ) → length xs ≤ i → summed s (map f (drop i xs)) ≡ Some s
  summed_end s i past = ap (λ ys. summed s (map f ys)) (drop_all i xs past)

-- ---- guards

module _ (db : List Row) (env : List ℤ) (gs : List Rel) where
  module _ (i : ℕ) (g : Rel) (within : i < length gs) (here : g ≡ get_or gs i g) where
    met_step : all_met db env (drop i gs) ≡ and_met (rel_worth db env g) (all_met db env (drop (i + 1) gs))
    met_step = ap (all_met db env) (one_more gs i g g within here)

    pub met_more : (r : Option Bool) → r ≡ rel_worth db env g → r ≡ Some true →
        all_met db env (drop (i + 1) gs) ≡ all_met db env (drop i gs)
    met_more r is met = ap (λ b. and_met b (all_met db env (drop (i + 1) gs))) (sym met ∙ is) ∙ sym met_step

    pub met_not : (r : Option Bool) → r ≡ rel_worth db env g → r ≡ Some false → all_met db env (drop i gs) ≡ Some false
    met_not r is met = met_step ∙ ap (λ b. and_met b (all_met db env (drop (i + 1) gs))) (sym is ∙ met)

    pub met_none : (r : Option Bool) → r ≡ rel_worth db env g → r ≡ None → all_met db env (drop i gs) ≡ None
    met_none r is none = met_step ∙ ap (λ b. and_met b (all_met db env (drop (i + 1) gs))) (sym is ∙ none)

  pub met_end : (i : ℕ) → length gs ≤ i → all_met db env (drop i gs) ≡ Some true
  met_end i past = ap (all_met db env) (drop_all i gs past)
