-- The patterns of relations, one after the other.
use Rattle.std.proofs.Common.{◌≡◌, ℕ, List, [], ◌∷◌, ◌++◌, map, ap, sym, ◌∙◌, Some, None}
use Rattle.std.proofs.lemmas.List.{append_assoc, append-nil, map-append}
use Rattle.std.proofs.lemmas.List.Concat.{flat_map-append}
use Rattle.acc_base.specs.declared.forms.Rel.{Rel}
use Rattle.acc_base.specs.Atoms.{table_of, key_of}
use Rattle.acc_base.specs.Sums.{Term}
use Rattle.acc_prover_choices.specs.declared.targets.Target.{Target}
use Rattle.acc_prover_choices.specs.declared.patterns.Pattern.{Pattern}
use Rattle.acc_prover_choices.specs.Targets.{targets_in, rel_targets}
use Rattle.acc_prover_choices.specs.Choices.{places_of, pattern_of}
use Rattle.acc_prover_choices.proofs.TableAtoms.{target_at, targets_cons}

module _ (first n : ℕ) (old : List Pattern) where
  pub no_pattern : (t : Term) → table_of t.0.atom ≡ None → old ++ map (pattern_of first n) (targets_in (t ∷ [])) ≡ old
  no_pattern t e = ap (λ ts. old ++ map (pattern_of first n) ts) (target_at t None e) ∙ append-nil old

  pub one_pattern : (t : Term) (table : ℕ) → table_of t.0.atom ≡ Some table
      → old ++ map (pattern_of first n) (targets_in (t ∷ []))
      ≡ old ++ record { table = table; places = places_of first n (key_of t.0.atom) } ∷ []
  one_pattern t table e = ap (λ ts. old ++ map (pattern_of first n) ts) (target_at t (Some table) e)

  both : (xs ys : List Target) → old ++ map (pattern_of first n) (xs ++ ys)
      ≡ (old ++ map (pattern_of first n) xs) ++ map (pattern_of first n) ys
  both xs ys =
      ap (λ ps. old ++ ps) (map-append (pattern_of first n) xs ys)
      ∙ sym (append_assoc old (map (pattern_of first n) xs) (map (pattern_of first n) ys))

  pub one_more : (t : Term) (ts : List Term) → old ++ map (pattern_of first n) (targets_in (t ∷ ts))
      ≡ (old ++ map (pattern_of first n) (targets_in (t ∷ []))) ++ map (pattern_of first n) (targets_in ts)
  one_more t ts =
      ap (λ xs. old ++ map (pattern_of first n) xs) (targets_cons t ts) ∙ both (targets_in (t ∷ [])) (targets_in ts)

  pub one_more_rel : (r : Rel) (rs : List Rel) → old ++ map (pattern_of first n) (rel_targets (r ∷ rs))
      ≡ (old ++ map (pattern_of first n) (targets_in r.form.terms)) ++ map (pattern_of first n) (rel_targets rs)
  one_more_rel r rs = both (targets_in r.form.terms) (rel_targets rs)

-- the relation behind the guards
pub last_rel : (first n : ℕ) (rs : List Rel) (r : Rel) → map (pattern_of first n) (rel_targets (rs ++ r ∷ []))
    ≡ map (pattern_of first n) (rel_targets rs) ++ map (pattern_of first n) (targets_in r.form.terms)
last_rel first n rs r =
    ap (map (pattern_of first n)) (flat_map-append (λ (x : Rel). targets_in x.form.terms) rs (r ∷ [])
    ∙ ap (λ ts. rel_targets rs ++ ts) (append-nil (targets_in r.form.terms)))
    ∙ map-append (pattern_of first n) (rel_targets rs) (targets_in r.form.terms)
