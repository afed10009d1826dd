-- Computations one after the other, where the first is known.
use Rattle.std.proofs.Common.{◌≡◌, ℕ, ◌+◌, ◌<◌, ◌≤◌, List, [], ◌∷◌, ◌++◌, length, get_or, drop, drop-cons, add-one, Result, Ok, Err}
use Rattle.std.proofs.Common.{refl, ap, sym, ◌∙◌}
use Rattle.std.proofs.Common.{subst}
use Rattle.std.specs.Prelude.{IsErrAnd}
use Rattle.std.proofs.lemmas.List.{drop_all}
use Rattle.std.proofs.lemmas.Result.{err_from_is_err_and}
use Rattle.acc_rows.specs.declared.stops.Stop.{Stop}
use Rattle.acc_rows.specs.declared.stops.Stop.TheVariants.{Refuted, Wide, Many, Memory}
use Rattle.acc_base.specs.Computing.{chain, steps, Answers, Leaves}
use Rattle.acc_rows.specs.Answers.{tells, Computation, StoppedBy}

-- what stops the first stops both
pub stopped_chain : {A B : Type 0} (e : Stop) (r : Computation A) (next : A → Computation B) → StoppedBy e r → StoppedBy e (chain r next)
stopped_chain (Refuted x) r next h = ap (λ r. chain r next) h
stopped_chain Wide r next h = ap (λ r. chain r next) h
stopped_chain Many r next h = ap (λ r. chain r next) h
stopped_chain Memory r next h = tt

pub stopped_along : {A : Type 0} (e : Stop) (r s : Computation A) → r ≡ s → StoppedBy e r → StoppedBy e s
stopped_along e r s same h = subst (λ x. StoppedBy e x) same h

pub answers_along : {T : Type 0} (r : Result T Stop) (o q : Computation T) → o ≡ q → Answers tells r o → Answers tells r q
answers_along r o q same h = subst (λ x. Answers tells r x) same h

pub leaves_along : {A T : Type 0} (r : Result T Stop) (x : A) (o q : Computation A) → o ≡ q → Leaves tells r x o → Leaves tells r x q
leaves_along r x o q same h = subst (λ y. Leaves tells r x y) same h

-- a call that hands on what stopped a callee
pub answers_handed : {T : Type 0} (r : Result T Stop) (e : Stop) (outcome : Computation T) → IsErrAnd r (λ y. y ≡ e) → StoppedBy e outcome
    → Answers tells r outcome
answers_handed r e outcome h stopped =
    let p = err_from_is_err_and r h in
    let same : r ≡ Err e = p.1 ∙ ap Err p.2 in
    subst (λ y. Answers tells y outcome) (sym same) stopped

pub leaves_handed : {A T : Type 0} (r : Result T Stop) (e : Stop) (x : A) (outcome : Computation A) → IsErrAnd r (λ y. y ≡ e)
    → StoppedBy e outcome → Leaves tells r x outcome
leaves_handed r e x outcome h stopped =
    let p = err_from_is_err_and r h in
    let same : r ≡ Err e = p.1 ∙ ap Err p.2 in
    subst (λ y. Leaves tells y x outcome) (sym same) stopped

-- steps, and more of them
pub steps_append : {S X : Type 0} (step : S → X → Computation S) (xs ys : List X) (s : S)
    → steps step s (xs ++ ys) ≡ chain (steps step s xs) (λ t. steps step t ys)
steps_append step [] ys s = refl
steps_append {S = S} step (x ∷ xs) ys s = by (λ t. steps_append step xs ys t) (step s x)
  where
    by : ((t : S) → steps step t (xs ++ ys) ≡ chain (steps step t xs) (λ t. steps step t ys)) → (o : Computation S)
        → chain o (λ t. steps step t (xs ++ ys)) ≡ chain (chain o (λ t. steps step t xs)) (λ t. steps step t ys)
    by again (Ok t) = again t
    by again (Err e) = refl

-- ---- a step of a loop

pub drop_more : {X : Type 0} (xs : List X) (i : ℕ) (d x : X) → i < length xs → x ≡ get_or xs i d → drop i xs ≡ x ∷ drop (i + 1) xs
drop_more xs i d x within here =
    drop-cons xs i d within ∙ (ap (λ (n : ℕ). get_or xs i d ∷ drop n xs) (sym (add-one i)) ∙ ap (λ x. x ∷ drop (i + 1) xs) (sym here))

module _ {S X : Type 0} (step : S → X → Computation S) (xs : List X) (i : ℕ) (s : S) where
  pub step_on : (d : X) (t : S) → i < length xs → d ≡ get_or xs i d → step s d ≡ Ok t
      → steps step t (drop (i + 1) xs) ≡ steps step s (drop i xs)
  step_on d t within here done =
      ap (λ r. chain r (λ u. steps step u (drop (i + 1) xs))) (sym done) ∙ ap (steps step s) (sym (drop_more xs i d d within here))

  pub step_stopped : (d : X) (e : Stop) → i < length xs → d ≡ get_or xs i d → StoppedBy e (step s d)
      → StoppedBy e (steps step s (drop i xs))
  step_stopped d e within here h =
      stopped_along e _ _ (ap (steps step s) (sym (drop_more xs i d d within here)))
      (stopped_chain e (step s d) (λ u. steps step u (drop (i + 1) xs)) h)

  pub steps_over : length xs ≤ i → steps step s (drop i xs) ≡ Ok s
  steps_over past = ap (steps step s) (drop_all i xs past)
