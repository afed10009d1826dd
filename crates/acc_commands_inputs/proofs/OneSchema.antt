-- A design has one set of TPC-C's tables, or lacks one of them first.
use Rattle.std.proofs.Common.{◌≡◌, ℕ, suc, ◌+◌, List, [], ◌∷◌, ◌++◌, length, refl, sym, ap, ◌∙◌, subst}
use Rattle.std.proofs.Common.{Option, Some, None, All}
use Rattle.std.specs.Prelude.{IsSome, codes}
use Rattle.std.specs.Fmt.{decimal}
use Rattle.std.proofs.lemmas.List.Elements.{All-head, All-tail}
use Rattle.acc_base.specs.Lines.{line}
use Rattle.acc_base.specs.declared.designs.Design.{Design}
use Rattle.acc_journalled.specs.declared.answers.Ending.TheVariants.{DesignRefused}
use Rattle.tpcc_tables.specs.Schema.{number_in, IsSchemaOf}
use Rattle.tpcc_tables.specs.declared.tables.SchemaTable.{SchemaTable}
use Rattle.tpcc_tables.specs.declared.tables.TheConstants.{SCHEMA}
use Rattle.tpcc_tables.specs.declared.tables.TableSet.{TableSet}
use Rattle.tpcc_tables.proofs.SchemaFacts.{same_numbers, all_found}
use Rattle.acc_commands_inputs.specs.Schemas.{RefusesSchema}
use Rattle.acc_commands_inputs.specs.Text.{Said}
use Rattle.acc_commands_inputs.proofs.OneDesign.{said_same}

pub one_schema : (d : Design) (s r : TableSet) → IsSchemaOf s d → IsSchemaOf r d → s ≡ r
one_schema d s r h k = let same = same_numbers s.tables r.tables (h ∙ sym k) in λ i. record { tables = same i }

none_is_some : (o : Option ℕ) → o ≡ None → IsSome o → ⊥
none_is_some None e some = cc
none_is_some (Some n) e some = cc

module _ (f : SchemaTable → Option ℕ) where
  abbrev Is : SchemaTable → Type 0
  Is t = IsSome (f t)

  -- two places of a list at which nothing is found first are one
  one_place : (before other behind rest : List SchemaTable) (x y : SchemaTable) → before ++ x ∷ behind ≡ other ++ y ∷ rest
      → f x ≡ None → f y ≡ None → All Is before → All Is other → length before ≡ length other
  one_place [] [] behind rest x y same none none' all all' = refl
  one_place [] (z ∷ other) behind rest x y same none none' all all' =
      let head : x ≡ z = cc in
      absurd (none_is_some (f x) none (subst Is (sym head) (All-head Is z other all')))
  one_place (z ∷ before) [] behind rest x y same none none' all all' =
      let head : z ≡ y = cc in
      absurd (none_is_some (f y) none' (subst Is head (All-head Is z before all)))
  one_place (z ∷ before) (w ∷ other) behind rest x y same none none' all all' =
      let behind_same : before ++ x ∷ behind ≡ other ++ y ∷ rest = cc in
      ap suc (one_place before other behind rest x y behind_same none none' (All-tail Is z before all) (All-tail Is w other all'))

  -- where all are found, none isn't
  found_among : (before behind : List SchemaTable) (x : SchemaTable) → All Is (before ++ x ∷ behind) → Is x
  found_among [] behind x all = All-head Is x behind all
  found_among (z ∷ before) behind x all = found_among before behind x (All-tail Is z (before ++ x ∷ behind) all)

pub one_schema_refusal : (d : Design) (a b : Said) → RefusesSchema d a → RefusesSchema d b → a ≡ b
one_schema_refusal d a b h k =
    let p = h.first in
    let q = k.first in
    let place : length p.before ≡ length q.before =
    one_place (number_in d.tables) p.before q.before p.behind q.behind p.wanted q.wanted (sym p.split ∙ q.split) p.lacks q.lacks p.there
    q.there in
    let nth : h.nth ≡ k.nth = p.nth ∙ ap (λ (n : ℕ). n + 1) place ∙ sym q.nth in
    said_same DesignRefused _ _ a b (ap (λ (n : ℕ). line (codes "refused schema " ++ decimal n)) nth) h.says k.says

pub found_or_refused : (d : Design) (s : TableSet) (a : Said) → IsSchemaOf s d → RefusesSchema d a → ⊥
found_or_refused d s a h k =
    let p = k.first in
    let all = subst (All (Is (number_in d.tables))) p.split (all_found (number_in d.tables) s.tables SCHEMA h) in
    none_is_some (number_in d.tables p.wanted) p.lacks (found_among (number_in d.tables) p.before p.behind p.wanted all)
