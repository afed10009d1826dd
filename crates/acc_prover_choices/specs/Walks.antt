-- How values are collected target by target: each list once, and none where they become too many.
use Rattle.std.specs.Prelude.{ℕ, Bool, ◌&&◌, if◌then◌else◌, List, [], ◌∷◌, ◌++◌, length, map, Option, Ok, Err, nat_le}
use Rattle.std.specs.List.{fold, list_all, list_any}
use Rattle.acc_base.specs.declared.bounds.TheConstants.{MOST_INSTANCES}
use Rattle.acc_base.specs.declared.forms.Lin.{Lin}
use Rattle.acc_base.specs.Computing.{steps}
use Rattle.acc_prover_choices.specs.declared.listing.InstError.TheVariants.{Crowded}
use Rattle.acc_prover_choices.specs.declared.targets.Target.{Target}
use Rattle.acc_prover_choices.specs.declared.patterns.Pattern.{Pattern}
use Rattle.acc_prover_choices.specs.declared.patterns.Taken.{Taken}
use Rattle.acc_prover_choices.specs.Parts.{Listing}
use Rattle.acc_prover_choices.specs.Targets.{same_lins}
use Rattle.acc_prover_choices.specs.Choices.{is_there, is_whole, fits, place_at, news_of, have_all, value_by, values_in}

-- one more item, unless it stands there, and none where there are the most already
abbrev pub with_few : {X : Type 0} → (X → X → Bool) → List X → X → Listing (List X)
with_few same xs x =
    if list_any (same x) xs then Ok xs else (if nat_le MOST_INSTANCES (length xs) then Err Crowded else Ok (xs ++ x ∷ []))

-- ---- the taken patterns

abbrev pub patterns_in : List Taken → List Pattern
patterns_in taken = map (λ k. k.pattern) taken

abbrev pub take_pattern : List Taken → Pattern → List Taken
take_pattern taken p =
    if list_any is_there (news_of (patterns_in taken) p.places) then taken ++ record {
      pattern = p;
      news = news_of (patterns_in taken)
          p.places;
    } ∷ [] else taken

-- ---- the values so far, and those of one more target

abbrev pub with_value : List Lin → List (Option ℕ) → List Lin → Lin → List Lin
with_value key news values so_far = values ++ value_by key (place_at news (length values)) so_far ∷ []

abbrev pub values_by : List Lin → List (Option ℕ) → List Lin → List Lin
values_by key news so_far = fold (with_value key news) [] so_far

abbrev pub with_target : Pattern → List (Option ℕ) → List Lin → List (List Lin) → Target → Listing (List (List Lin))
with_target p news so_far found t =
    if fits p t then with_few same_lins found (values_by t.key news so_far) else Ok found

abbrev pub with_targets : List Target → Pattern → List (Option ℕ) → List (List Lin) → List Lin → Listing (List (List Lin))
with_targets targets p news found so_far = steps (with_target p news so_far) found targets

-- all values so far with those of each target of a pattern
abbrev pub grow : List Target → List (List Lin) → Taken → Listing (List (List Lin))
grow targets level k = steps (with_targets targets k.pattern k.news) [] level

abbrev pub has_targets : List Target → Pattern → Bool
has_targets targets p = list_any (fits p) targets

-- where a taken pattern has no target there is no choice
abbrev pub together : List Target → ℕ → List Taken → Listing (List (List Lin))
together targets n taken =
    if have_all n (patterns_in taken) && list_all (has_targets targets) (patterns_in taken) then steps (grow targets) (values_in n [] ∷ [])
    taken else Ok []

abbrev pub with_whole : List Target → List Lin → List (List Lin) → Pattern → Listing (List (List Lin))
with_whole targets so_far found p =
    if is_whole p then with_targets targets p p.places found so_far else Ok found

abbrev pub walked : List Target → ℕ → List Pattern → Listing (List (List Lin))
walked targets n patterns =
    if list_any is_whole patterns then steps (with_whole targets (values_in n [])) [] patterns else together targets n
    (fold take_pattern [] patterns)
