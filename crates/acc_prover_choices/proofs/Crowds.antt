-- Lists that may be too long, and items that are added one by one until they are too many.
use Rattle.std.proofs.Common.{◌≡◌, ◌<◌, ◌≤◌, Bool, true, false, List, [], ◌∷◌, ◌++◌, length, refl, ap, sym, ◌∙◌, arith, Result, Ok, Err}
use Rattle.std.proofs.Common.{if◌then◌else◌}
use Rattle.std.specs.Prelude.{Decides, nat_lt, nat_le, flat_map}
use Rattle.std.specs.List.{list_any}
use Rattle.std.proofs.lemmas.Bool.{ltb-true, ltb-false, lt-ltb, le-ltb, leb-true, leb-false}
use Rattle.std.proofs.lemmas.List.{length-append}
use Rattle.acc_base.specs.declared.bounds.TheConstants.{MOST_INSTANCES}
use Rattle.acc_base.specs.Computing.{chain, steps}
use Rattle.acc_prover_choices.specs.declared.listing.InstError.TheVariants.{Crowded}
use Rattle.acc_prover_choices.specs.Parts.{Listing, with_firsts, unless_crowded}
use Rattle.acc_prover_choices.specs.Walks.{with_few}
use Rattle.acc_prover_choices.proofs.Firsts.{grows}

pub few : {X : Type 0} (xs : List X) → length xs ≤ MOST_INSTANCES → unless_crowded xs ≡ Ok xs
few xs h = ap (λ b. if b then Err Crowded else Ok xs) (le-ltb MOST_INSTANCES (length xs) h)

pub many : {X : Type 0} (xs : List X) → MOST_INSTANCES < length xs → unless_crowded xs ≡ Err Crowded
many xs h = ap (λ b. if b then Err Crowded else Ok xs) (lt-ltb MOST_INSTANCES (length xs) h)

-- a list that may be too long, and what becomes of it, which isn't shorter
pub few_on : {X Y : Type 0} (f : List X → List Y) (next : List X → Listing (List Y)) (xs : List X)
    → (length xs ≤ MOST_INSTANCES → next xs ≡ unless_crowded (f xs)) → length xs ≤ length (f xs)
    → chain (unless_crowded xs) next ≡ unless_crowded (f xs)
few_on f next xs on longer = by (nat_lt MOST_INSTANCES (length xs)) refl
  where
    by : (b : Bool) → nat_lt MOST_INSTANCES (length xs) ≡ b → chain (if b then Err Crowded else Ok xs) next ≡ unless_crowded (f xs)
    by true e =
        let h : MOST_INSTANCES < length xs = ltb-true MOST_INSTANCES (length xs) e in
        sym (many (f xs) (omega (arith, h, longer)))
    by false e = on (ltb-false MOST_INSTANCES (length xs) e)

module _ {X : Type 0} (same : X → X → Bool) (decides : (x y : X) → Decides (same x y) (x ≡ y)) where
  -- items that are added one by one
  pub steps_few : (xs found : List X) → length found ≤ MOST_INSTANCES
      → steps (with_few same) found xs ≡ unless_crowded (with_firsts same found xs)
  steps_few [] found short = sym (few found short)
  steps_few (x ∷ xs) found short =
      by (list_any (same x) found) (nat_le MOST_INSTANCES (length found)) refl (λ f h. steps_few xs f h)
    where
      by : (b c : Bool) → nat_le MOST_INSTANCES (length found) ≡ c
          → ((f : List X) → length f ≤ MOST_INSTANCES → steps (with_few same) f xs ≡ unless_crowded (with_firsts same f xs))
          → chain (if b then Ok found else (if c then Err Crowded else Ok (found ++ x ∷ []))) (λ t. steps (with_few same) t xs)
          ≡ unless_crowded (with_firsts same (if b then found else found ++ x ∷ []) xs)
      by true c e rest = rest found short
      by false true e rest =
          let full : MOST_INSTANCES ≤ length found = leb-true MOST_INSTANCES (length found) e in
          let more = length-append found (x ∷ []) in
          let longer = grows same decides (found ++ x ∷ []) xs in
          sym (many (with_firsts same (found ++ x ∷ []) xs) (omega (arith, full, more, longer)))
      by false false e rest =
          let room : length found < MOST_INSTANCES = leb-false MOST_INSTANCES (length found) e in
          let more = length-append found (x ∷ []) in
          rest (found ++ x ∷ []) (omega (arith, room, more))

-- ---- steps along lists of lists

pub steps_append : {S X E : Type 0} (step : S → X → Result S E) (s : S) (xs ys : List X)
    → steps step s (xs ++ ys) ≡ chain (steps step s xs) (λ t. steps step t ys)
steps_append step s [] ys = refl
steps_append {S} {X} {E} step s (x ∷ xs) ys = by (step s x) (λ t. steps_append step t xs ys)
  where
    by : (o : Result S E) → ((t : S) → steps step t (xs ++ ys) ≡ chain (steps step t xs) (λ u. steps step u ys)) → chain o (λ t. steps step t (xs ++ ys)) ≡ chain (chain o (λ t. steps step t xs)) (λ t. steps step t ys)
    by (Ok t) rest = rest t
    by (Err e) rest = refl

module _ {S X Y E : Type 0} (step : S → X → Result S E) (add : S → Y → Result S E) where
  -- a step that takes a list of steps
  pub steps_flat : (g : X → List Y) → ((s : S) (x : X) → step s x ≡ steps add s (g x)) → (xs : List X) (s : S)
      → steps step s xs ≡ steps add s (flat_map g xs)
  steps_flat g same [] s = refl
  steps_flat g same (x ∷ xs) s =
      ap (λ o. chain o (λ t. steps step t xs)) (same s x)
      ∙ (by (steps add s (g x)) (λ t. steps_flat g same xs t) ∙ sym (steps_append add s (g x) (flat_map g xs)))
    where
      by : (o : Result S E) → ((t : S) → steps step t xs ≡ steps add t (flat_map g xs)) → chain o (λ t. steps step t xs) ≡ chain o (λ t. steps add t (flat_map g xs))
      by (Ok t) rest = rest t
      by (Err e) rest = refl
