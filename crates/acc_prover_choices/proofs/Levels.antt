-- The values that are collected level by level are those that the choices of targets give.
use Rattle.std.proofs.Common.{◌≡◌, ℕ, ◌≤◌, Bool, true, false, List, [], ◌∷◌, ◌++◌, length, map, refl, ap, sym, ◌∙◌, arith, Result, Ok, Err}
use Rattle.std.proofs.Common.{if◌then◌else◌, Option}
use Rattle.std.specs.Prelude.{◌||◌, filter, flat_map}
use Rattle.std.specs.Cmp.Lexicographic.{pointwise_decides}
use Rattle.std.specs.Prelude.{Decides}
use Rattle.std.specs.List.{list_any, AllByRecursion}
use Rattle.std.proofs.lemmas.Simd.{map-map}
use Rattle.std.proofs.lemmas.Bool.{false≢true}
use Rattle.std.proofs.lemmas.List.{map-append}
use Rattle.std.proofs.lemmas.List.Folds.{flat_map-map}
use Rattle.acc_base.specs.declared.forms.Lin.{Lin}
use Rattle.acc_base.specs.Computing.{chain, steps}
use Rattle.acc_base.specs.FormEquality.{lin_decides}
use Rattle.acc_prover_choices.specs.declared.targets.Target.{Target}
use Rattle.acc_prover_choices.specs.declared.patterns.Pattern.{Pattern}
use Rattle.acc_prover_choices.specs.declared.patterns.Taken.{Taken}
use Rattle.acc_prover_choices.specs.Parts.{firsts, unless_crowded}
use Rattle.acc_prover_choices.specs.Targets.{same_lins}
use Rattle.acc_prover_choices.specs.Choices.{Pick, picks, fits, news_of, choices, values_in}
use Rattle.acc_prover_choices.specs.Walks.{with_few, values_by, with_target, with_targets, grow, has_targets}
use Rattle.acc_prover_choices.proofs.Firsts.{flat_firsts, no_more}
use Rattle.acc_prover_choices.proofs.Crowds.{steps_few, steps_flat}
use Rattle.acc_prover_choices.proofs.Choosing.{map-flat_map, passing, same_flat, choices_last, choices_of}
use Rattle.acc_prover_choices.proofs.Components.{heads, one_more_target, kept_from, kept_values}

pub same_decides : (x y : List Lin) → Decides (same_lins x y) (x ≡ y)
same_decides = pointwise_decides lin_decides

pub chain_ok : {A E : Type 0} (o : Result A E) → chain o (λ x. Ok x) ≡ o
chain_ok (Ok x) = refl
chain_ok (Err e) = refl

none_fits : (p : Pattern) (ts : List Target) → filter (fits p) ts ≡ [] → list_any (fits p) ts ≡ false
none_fits p [] h = refl
none_fits p (t ∷ ts) h = by (fits p t) h (none_fits p ts)
  where
    by : (b : Bool) → (if b then (t ∷ filter (fits p) ts) else filter (fits p) ts) ≡ []
        → (filter (fits p) ts ≡ [] → list_any (fits p) ts ≡ false) → (b || list_any (fits p) ts) ≡ false
    by true h rest = absurd (cc)
    by false h rest = rest h

module _ (targets : List Target) where
  abbrev pub fitting : Pattern → List Target
  fitting p = filter (fits p) targets

  -- ---- the targets of a pattern, one after the other

  abbrev pub grown_by : Pattern → List (Option ℕ) → List Lin → List (List Lin)
  grown_by p news so_far = map (λ t. values_by t.key news so_far) (fitting p)

  -- one target, if it fits
  abbrev by_target : Pattern → List (Option ℕ) → List Lin → Target → List (List Lin)
  by_target p news so_far t = if fits p t then values_by t.key news so_far ∷ [] else []

  one_step : (p : Pattern) (news : List (Option ℕ)) (so_far : List Lin) (found : List (List Lin)) (t : Target)
      → with_target p news so_far found t ≡ steps (with_few same_lins) found (by_target p news so_far t)
  one_step p news so_far found t = by (fits p t)
    where
      by : (b : Bool) → (if b then with_few same_lins found (values_by t.key news so_far) else Ok found)
          ≡ steps (with_few same_lins) found (if b then values_by t.key news so_far ∷ [] else [])
      by true = sym (chain_ok (with_few same_lins found (values_by t.key news so_far)))
      by false = refl

  pub targets_steps : (p : Pattern) (news : List (Option ℕ)) (found : List (List Lin)) (so_far : List Lin)
      → with_targets targets p news found so_far ≡ steps (with_few same_lins) found (grown_by p news so_far)
  targets_steps p news found so_far =
      steps_flat (with_target p news so_far) (with_few same_lins) (by_target p news so_far) (λ f t. one_step p news so_far f t) targets found
      ∙ ap (steps (with_few same_lins) found) (passing (fits p) (λ t. values_by t.key news so_far) targets)

  module _ (n : ℕ) where
    -- the values of all choices of targets of some patterns
    abbrev pub level : List Pattern → List (List Lin)
    level ps = firsts same_lins (map (values_in n) (choices (map (picks targets) ps)))

    keyed : (p : Pattern) → AllByRecursion (λ (x : Pick). x.0 ≡ p) (picks targets p)
    keyed p = all (fitting p)
      where
        all : (ts : List Target) → AllByRecursion (λ (x : Pick). x.0 ≡ p) (map (λ t. (p, t)) ts)
        all [] = tt
        all (t ∷ ts) = (refl, all ts)

    module _ (ps : List Pattern) (p : Pattern) where
      abbrev so_far : List (List Pick)
      so_far = choices (map (picks targets) ps)

      heads_are : AllByRecursion (λ (c : List Pick). heads c ≡ ps) so_far
      heads_are = choices_of (λ (x : Pick). x.0) (picks targets) keyed ps

      -- the values with one pattern more
      more : map (values_in n) (choices (map (picks targets) (ps ++ p ∷ [])))
          ≡ flat_map (λ c. map (λ t. values_in n (c ++ (p, t) ∷ [])) (fitting p)) so_far
      more =
          ap (λ l. map (values_in n) (choices l)) (map-append (picks targets) ps (p ∷ []))
          ∙ (ap (map (values_in n)) (choices_last (map (picks targets) ps) (picks targets p))
          ∙ (map-flat_map (values_in n) (λ c. map (λ x. c ++ x ∷ []) (picks targets p)) so_far
          ∙ (λ i. flat_map (λ c. each c i) so_far)))
        where
          each : (c : List Pick) → map (values_in n) (map (λ x. c ++ x ∷ []) (picks targets p))
              ≡ map (λ t. values_in n (c ++ (p, t) ∷ [])) (fitting p)
          each c =
              ap (map (values_in n)) (map-map (λ x. c ++ x ∷ []) (λ t. (p, t)) (fitting p))
              ∙ map-map (values_in n) (λ t. c ++ (p, t) ∷ []) (fitting p)

      grown_values : firsts same_lins (flat_map (grown_by p (news_of ps p.places)) (level ps)) ≡ level (ps ++ p ∷ [])
      grown_values =
          flat_firsts same_lins same_decides (grown_by p (news_of ps p.places)) (map (values_in n) so_far)
          ∙ ap (firsts same_lins) (flat_map-map (grown_by p (news_of ps p.places)) (values_in n) so_far
          ∙ (same_flat (λ c. heads c ≡ ps) (λ c. grown_by p (news_of ps p.places) (values_in n c))
          (λ c. map (λ t. values_in n (c ++ (p, t) ∷ [])) (fitting p)) here so_far heads_are ∙ sym more))
        where
          here : (c : List Pick) → heads c ≡ ps → grown_by p (news_of ps p.places) (values_in n c)
              ≡ map (λ t. values_in n (c ++ (p, t) ∷ [])) (fitting p)
          here c e =
              ap (λ qs. grown_by p (news_of qs p.places) (values_in n c)) (sym e)
              ∙ (λ i. map (λ t. one_more_target n c p t i) (fitting p))

      pub grows_once : (k : Taken) → k.pattern ≡ p → k.news ≡ news_of ps p.places
          → grow targets (level ps) k ≡ unless_crowded (level (ps ++ p ∷ []))
      grows_once k e f =
          ap (λ q. steps (with_targets targets q k.news) [] (level ps)) e
          ∙ (ap (λ news. steps (with_targets targets p news) [] (level ps)) f
          ∙ (steps_flat (with_targets targets p (news_of ps p.places)) (with_few same_lins) (grown_by p (news_of ps p.places))
          (λ s x. targets_steps p (news_of ps p.places) s x) (level ps) []
          ∙ (steps_few same_lins same_decides (flat_map (grown_by p (news_of ps p.places)) (level ps)) [] (omega arith)
          ∙ ap unless_crowded grown_values)))

      -- where the pattern has a target the values become no fewer
      no_fewer_by : (ts : List Target) → fitting p ≡ ts → list_any (fits p) targets ≡ true → length (level ps) ≤ length
          (level (ps ++ p ∷ []))
      no_fewer_by [] e has = absurd (false≢true (sym (none_fits p targets e) ∙ has))
      no_fewer_by (t ∷ ts) e has =
          no_more same_lins same_decides t ts (kept_from ps 0) (map (values_in n) so_far)
          (map (values_in n) (choices (map (picks targets) (ps ++ p ∷ []))))
          (ap (map (kept_from ps 0)) more
          ∙ (map-flat_map (kept_from ps 0) (λ c. map (λ t. values_in n (c ++ (p, t) ∷ [])) (fitting p)) so_far
          ∙ (same_flat (λ c. heads c ≡ ps) (λ c. map (kept_from ps 0) (map (λ t. values_in n (c ++ (p, t) ∷ [])) (fitting p)))
          (λ c. map (λ _. values_in n c) (fitting p)) back so_far heads_are
          ∙ (sym (flat_map-map (λ x. map (λ _. x) (fitting p)) (values_in n) so_far)
          ∙ ap (λ us. flat_map (λ x. map (λ _. x) us) (map (values_in n) so_far)) e))))
        where
          back : (c : List Pick) → heads c ≡ ps → map (kept_from ps 0) (map (λ t. values_in n (c ++ (p, t) ∷ [])) (fitting p))
              ≡ map (λ _. values_in n c) (fitting p)
          back c h =
              map-map (kept_from ps 0) (λ t. values_in n (c ++ (p, t) ∷ [])) (fitting p)
              ∙ (ap (λ qs. map (λ t. kept_from qs 0 (values_in n (c ++ (p, t) ∷ []))) (fitting p)) (sym h)
              ∙ (λ i. map (λ t. kept_values n c p t i) (fitting p)))

      pub no_fewer : has_targets targets p ≡ true → length (level ps) ≤ length (level (ps ++ p ∷ []))
      no_fewer has = no_fewer_by (fitting p) refl has
