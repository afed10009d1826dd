-- A step of a loop whose steps may stop.
use Rattle.std.proofs.Common.{◌≡◌, ℕ, ◌+◌, ◌<◌, Bool, true, false, List, ◌∷◌, length, get_or, drop, drop-cons, add-one, Result, Ok, Err}
use Rattle.std.proofs.Common.{ap, sym, ◌∙◌, subst}
use Rattle.std.specs.Prelude.{IsErrAnd}
use Rattle.std.proofs.lemmas.Result.{err_from_is_err_and}
use Rattle.acc_base.specs.Computing.{chain, steps, StopsBy}
use Rattle.acc_prover_choices.specs.declared.listing.InstError.{InstError}
use Rattle.acc_prover_choices.specs.Parts.{Listing, tells, LeavesListing}

stopped_chain : {A B : Type 0} (told : Bool) (e : InstError) (r : Listing A) (next : A → Listing B) → StopsBy told e r
    → StopsBy told e (chain r next)
stopped_chain true e r next h = ap (λ r. chain r next) h
stopped_chain false e r next h = tt

pub stopped_along : {A : Type 0} (e : InstError) (r s : Listing A) → r ≡ s → StopsBy (tells e) e r → StopsBy (tells e) e s
stopped_along e r s same h = subst (λ x. StopsBy (tells e) e x) same h

pub leaves_handed : {A T : Type 0} (r : Result T InstError) (e : InstError) (x : A) (outcome : Listing A) → IsErrAnd r (λ y. y ≡ e) →
    StopsBy (tells e) e outcome → LeavesListing r x outcome
leaves_handed r e x outcome h stopped =
    let p = err_from_is_err_and r h in
    let same : r ≡ Err e = p.1 ∙ ap Err p.2 in
    subst (λ y. LeavesListing y x outcome) (sym same) stopped

drop_more : {X : Type 0} (xs : List X) (i : ℕ) (d x : X) → i < length xs → x ≡ get_or xs i d → drop i xs ≡ x ∷ drop (i + 1) xs
drop_more xs i d x within here =
    drop-cons xs i d within ∙ (ap (λ (n : ℕ). get_or xs i d ∷ drop n xs) (sym (add-one i)) ∙ ap (λ x. x ∷ drop (i + 1) xs) (sym here))

module _ {S X : Type 0} (step : S → X → Listing S) (xs : List X) (i : ℕ) (s : S) where
  pub step_on : (d : X) (t : S) → i < length xs → d ≡ get_or xs i d → step s d ≡ Ok t →
      steps step t (drop (i + 1) xs) ≡ steps step s (drop i xs)
  step_on d t within here done =
      ap (λ r. chain r (λ u. steps step u (drop (i + 1) xs))) (sym done) ∙ ap (steps step s) (sym (drop_more xs i d d within here))

  pub step_stopped : (d : X) (e : InstError) → i < length xs → d ≡ get_or xs i d → StopsBy (tells e) e (step s d) →
      StopsBy (tells e) e (steps step s (drop i xs))
  step_stopped d e within here h =
      stopped_along e _ _ (ap (steps step s) (sym (drop_more xs i d d within here)))
      (stopped_chain (tells e) e (step s d) (λ u. steps step u (drop (i + 1) xs)) h)
