-- The table atoms of terms, term by term.
use Rattle.std.proofs.Common.{◌≡◌, ℕ, List, [], ◌∷◌, ◌++◌, ap, ◌∙◌, Option, Some, None}
use Rattle.std.specs.List.{cons_option}
use Rattle.std.specs.Option.{option_map}
use Rattle.std.proofs.lemmas.List.Elements.{filter_map-append}
use Rattle.std.proofs.lemmas.List.Sums.{fold-append}
use Rattle.acc_base.specs.Atoms.{table_of, key_of}
use Rattle.acc_base.specs.Sums.{Term}
use Rattle.acc_prover_choices.specs.declared.targets.Target.{Target}
use Rattle.acc_prover_choices.specs.Parts.{with_first, with_firsts}
use Rattle.acc_prover_choices.specs.Targets.{same_target, target_of, targets_in}

abbrev at_table : Term → ℕ → Target
at_table t table = record { table = table; key = key_of t.0.atom }

-- the atom of one term, by its table
pub target_at : (t : Term) (o : Option ℕ) → table_of t.0.atom ≡ o → targets_in (t ∷ []) ≡ cons_option (option_map (at_table t) o) []
target_at t o e = ap (λ (o : Option ℕ). cons_option (option_map (at_table t) o) []) e

-- one term more
pub targets_cons : (t : Term) (ts : List Term) → targets_in (t ∷ ts) ≡ targets_in (t ∷ []) ++ targets_in ts
targets_cons t ts = filter_map-append target_of (t ∷ []) ts

module _ (old : List Target) where
  pub no_target : (t : Term) → table_of t.0.atom ≡ None → with_firsts same_target old (targets_in (t ∷ [])) ≡ old
  no_target t e = ap (with_firsts same_target old) (target_at t None e)

  pub one_target : (t : Term) (table : ℕ) → table_of t.0.atom ≡ Some table
      → with_firsts same_target old (targets_in (t ∷ [])) ≡ with_first same_target old (at_table t table)
  one_target t table e = ap (with_firsts same_target old) (target_at t (Some table) e)

  pub one_more : (t : Term) (ts : List Term) → with_firsts same_target old (targets_in (t ∷ ts))
      ≡ with_firsts same_target (with_firsts same_target old (targets_in (t ∷ []))) (targets_in ts)
  one_more t ts =
      ap (with_firsts same_target old) (targets_cons t ts)
      ∙ fold-append (with_first same_target) old (targets_in (t ∷ [])) (targets_in ts)
