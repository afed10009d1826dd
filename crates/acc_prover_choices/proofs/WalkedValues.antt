-- The values that are collected target by target are those that the choices of targets give.
use Rattle.std.proofs.Common.{◌≡◌, ℕ, Bool, true, false, List, [], ◌∷◌, ◌++◌, map, refl, ap, sym, ◌∙◌, arith, Ok, if◌then◌else◌}
use Rattle.std.specs.Prelude.{◌&&◌, ◌||◌, filter, flat_map}
use Rattle.std.specs.Cmp.{first_so, second_so}
use Rattle.std.specs.List.{fold, list_all, list_any}
use Rattle.std.proofs.lemmas.Simd.{map-map}
use Rattle.std.proofs.lemmas.List.{map-append}
use Rattle.std.proofs.lemmas.List.Folds.{list_all-append}
use Rattle.acc_base.specs.declared.forms.Lin.{Lin}
use Rattle.acc_base.specs.Computing.{chain, steps}
use Rattle.acc_prover_choices.specs.declared.targets.Target.{Target}
use Rattle.acc_prover_choices.specs.declared.patterns.Pattern.{Pattern}
use Rattle.acc_prover_choices.specs.declared.patterns.Taken.{Taken}
use Rattle.acc_prover_choices.specs.Parts.{firsts, unless_crowded}
use Rattle.acc_prover_choices.specs.Targets.{same_lins}
use Rattle.acc_prover_choices.specs.Choices.{picks, fits, is_there, is_whole, news_of, with_taken, taken_of, have_all, choices, values_in}
use Rattle.acc_prover_choices.specs.Choices.{joint_choices, by_patterns}
use Rattle.acc_prover_choices.specs.Walks.{with_few, patterns_in, take_pattern, with_targets, grow, has_targets, together, with_whole, walked}
use Rattle.acc_prover_choices.proofs.Crowds.{few, few_on, steps_few, steps_append, steps_flat}
use Rattle.acc_prover_choices.proofs.Choosing.{choices_one, choices_none}
use Rattle.acc_prover_choices.proofs.Components.{one_target}
use Rattle.acc_prover_choices.proofs.Levels.{same_decides, chain_ok, fitting, grown_by, targets_steps, level, grows_once, no_fewer}

-- ---- the patterns that are taken

abbrev pub one_taken : List Taken → Pattern → Taken
one_taken ks p = record { pattern = p; news = news_of (patterns_in ks) p.places }

taken_once : (ks : List Taken) (p : Pattern) → patterns_in (take_pattern ks p) ≡ with_taken (patterns_in ks) p
taken_once ks p = by (list_any is_there (news_of (patterns_in ks) p.places))
  where
    by : (b : Bool) → patterns_in (if b then ks ++ one_taken ks p ∷ [] else ks) ≡ (if b then patterns_in ks ++ p ∷ [] else patterns_in ks)
    by true = map-append (λ k. k.pattern) ks (one_taken ks p ∷ [])
    by false = refl

taken_all : (ps : List Pattern) (ks : List Taken) → patterns_in (fold take_pattern ks ps) ≡ fold with_taken (patterns_in ks) ps
taken_all [] ks = refl
taken_all (p ∷ ps) ks = taken_all ps (take_pattern ks p) ∙ ap (λ qs. fold with_taken qs ps) (taken_once ks p)

none_among : (p : Pattern) (ts : List Target) → list_any (fits p) ts ≡ false → filter (fits p) ts ≡ []
none_among p [] h = refl
none_among p (t ∷ ts) h = by (fits p t) h (none_among p ts)
  where
    by : (b : Bool) → (b || list_any (fits p) ts) ≡ false → (list_any (fits p) ts ≡ false → filter (fits p) ts ≡ [])
        → (if b then (t ∷ filter (fits p) ts) else filter (fits p) ts) ≡ []
    by true h rest = absurd (cc)
    by false h rest = rest h

module _ (targets : List Target) (n : ℕ) where
  abbrev begin : List (List Lin)
  begin = values_in n [] ∷ []

  -- the values that the choices give are reached pattern by pattern
  abbrev Reached : List Taken → Type 0
  Reached ks =
      list_all (has_targets targets) (patterns_in ks) ≡ true
      → steps (grow targets) begin ks ≡ unless_crowded (level targets n (patterns_in ks))

  reached_none : Reached []
  reached_none h = sym (few begin (omega arith))

  reached_more : (ks : List Taken) (p : Pattern) → Reached ks → Reached (take_pattern ks p)
  reached_more ks p r = by (list_any is_there (news_of (patterns_in ks) p.places))
    where
      longer : patterns_in (ks ++ one_taken ks p ∷ []) ≡ patterns_in ks ++ p ∷ []
      longer = map-append (λ k. k.pattern) ks (one_taken ks p ∷ [])

      both : list_all (has_targets targets) (patterns_in (ks ++ one_taken ks p ∷ [])) ≡ true
          → (list_all (has_targets targets) (patterns_in ks) && (has_targets targets p && true)) ≡ true
      both h =
          sym (ap (list_all (has_targets targets)) longer ∙ list_all-append (has_targets targets) (patterns_in ks) (p ∷ [])) ∙ h

      by : (b : Bool) → Reached (if b then ks ++ one_taken ks p ∷ [] else ks)
      by false = r
      by true = λ h.
          let before = first_so (list_all (has_targets targets) (patterns_in ks)) (has_targets targets p && true) (both h) in
          let here = first_so (has_targets targets p) true
          (second_so (list_all (has_targets targets) (patterns_in ks)) (has_targets targets p && true) (both h)) in
          steps_append (grow targets) begin ks (one_taken ks p ∷ [])
          ∙ (ap (λ o. chain o (λ t. steps (grow targets) t (one_taken ks p ∷ []))) (r before)
          ∙ (few_on (λ _. level targets n (patterns_in ks ++ p ∷ [])) (λ t. steps (grow targets) t (one_taken ks p ∷ []))
          (level targets n (patterns_in ks))
          (λ short. chain_ok (grow targets (level targets n (patterns_in ks)) (one_taken ks p))
          ∙ grows_once targets n (patterns_in ks) p (one_taken ks p) refl refl)
          (no_fewer targets n (patterns_in ks) p here)
          ∙ ap (λ qs. unless_crowded (level targets n qs)) (sym longer)))

  reached_all : (ps : List Pattern) (ks : List Taken) → Reached ks → Reached (fold take_pattern ks ps)
  reached_all [] ks r = r
  reached_all (p ∷ ps) ks r = reached_all ps (take_pattern ks p) (reached_more ks p r)

  no_choice : (ps : List Pattern) → list_all (has_targets targets) ps ≡ false → choices (map (picks targets) ps) ≡ []
  no_choice [] h = absurd (cc)
  no_choice (p ∷ ps) h = by (has_targets targets p) refl h (no_choice ps)
    where
      by : (b : Bool) → has_targets targets p ≡ b → (b && list_all (has_targets targets) ps) ≡ false
          → (list_all (has_targets targets) ps ≡ false → choices (map (picks targets) ps) ≡ []) → choices (map (picks targets) (p ∷ ps)) ≡ []
      by true e h rest = choices_none (map (picks targets) ps) (rest h) (picks targets p)
      by false e h rest =
          ap (λ ts. choices (map (λ t. (p, t)) ts ∷ map (picks targets) ps)) (none_among p targets e)

  together_is : (ks : List Taken) → Reached ks
      → together targets n ks ≡ unless_crowded (firsts same_lins (map (values_in n) (joint_choices targets n (patterns_in ks))))
  together_is ks r =
      by (have_all n (patterns_in ks)) (list_all (has_targets targets) (patterns_in ks)) refl
    where
      by : (b c : Bool) → list_all (has_targets targets) (patterns_in ks) ≡ c
          → (if b && c then steps (grow targets) begin ks else Ok [])
          ≡ unless_crowded (firsts same_lins (map (values_in n) (if b then choices (map (picks targets) (patterns_in ks)) else [])))
      by true true e = r e
      by true false e =
          sym (few [] (omega arith))
          ∙ ap (λ cs. unless_crowded (firsts same_lins (map (values_in n) cs))) (sym (no_choice (patterns_in ks) e))
      by false c e = sym (few [] (omega arith))

  -- ---- patterns that have all own variables

  abbrev by_whole : Pattern → List (List Lin)
  by_whole p = if is_whole p then grown_by targets p p.places (values_in n []) else []

  whole_step : (found : List (List Lin)) (p : Pattern)
      → with_whole targets (values_in n []) found p ≡ steps (with_few same_lins) found (by_whole p)
  whole_step found p = by (is_whole p)
    where
      by : (b : Bool) → (if b then with_targets targets p p.places found (values_in n []) else Ok found)
          ≡ steps (with_few same_lins) found (if b then grown_by targets p p.places (values_in n []) else [])
      by true = targets_steps targets p p.places found (values_in n [])
      by false = refl

  one_whole : (p : Pattern) → grown_by targets p p.places (values_in n []) ≡ map (values_in n) (choices (picks targets p ∷ []))
  one_whole p =
      (λ i. map (λ t. one_target n [] p t i) (fitting targets p))
      ∙ sym (ap (map (values_in n)) (choices_one (picks targets p))
      ∙ (ap (map (values_in n)) (map-map (λ x. x ∷ []) (λ t. (p, t)) (fitting targets p))
      ∙ map-map (values_in n) (λ t. (p, t) ∷ []) (fitting targets p)))

  all_whole : (ps : List Pattern)
      → flat_map by_whole ps ≡ map (values_in n) (flat_map (λ p. choices (picks targets p ∷ [])) (filter is_whole ps))
  all_whole [] = refl
  all_whole (p ∷ ps) = by (is_whole p) (all_whole ps)
    where
      by : (b : Bool) → flat_map by_whole ps ≡ map (values_in n) (flat_map (λ p. choices (picks targets p ∷ [])) (filter is_whole ps))
          → (if b then grown_by targets p p.places (values_in n []) else []) ++ flat_map by_whole ps
          ≡ map (values_in n) (flat_map (λ p. choices (picks targets p ∷ [])) (if b then (p ∷ filter is_whole ps) else filter is_whole ps))
      by true rest =
          (λ i. one_whole p i ++ rest i)
          ∙ sym (map-append (values_in n) (choices (picks targets p ∷ []))
          (flat_map (λ p. choices (picks targets p ∷ [])) (filter is_whole ps)))
      by false rest = rest

  -- ---- both together

  pub walked_is : (patterns : List Pattern) → walked targets n patterns ≡ by_patterns targets n patterns
  walked_is patterns = by (list_any is_whole patterns)
    where
      by : (b : Bool) → (if b then steps (with_whole targets (values_in n [])) [] patterns else together targets n
          (fold take_pattern [] patterns))
          ≡ unless_crowded (firsts same_lins (map (values_in n) (if b then flat_map (λ p. choices (picks targets p ∷ []))
          (filter is_whole patterns) else joint_choices targets n (taken_of patterns))))
      by true =
          steps_flat (with_whole targets (values_in n [])) (with_few same_lins) by_whole whole_step patterns []
          ∙ (steps_few same_lins same_decides (flat_map by_whole patterns) [] (omega arith)
          ∙ ap (λ vs. unless_crowded (firsts same_lins vs)) (all_whole patterns))
      by false =
          together_is (fold take_pattern [] patterns) (reached_all patterns [] reached_none)
          ∙ ap (λ ps. unless_crowded (firsts same_lins (map (values_in n) (joint_choices targets n ps)))) (taken_all patterns [])
