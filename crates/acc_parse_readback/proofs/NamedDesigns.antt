-- Printed tables, entries and hints use names that are defined: no statement of a printed design has a fault of names.
use Rattle.std.proofs.Common.{◌≡◌, ℕ, inl, false, not, List, [], ◌∷◌, ◌++◌, map, Option, Some, None, refl, sym, ap, subst, ◌∙◌, zero, suc}
use Rattle.std.specs.Prelude.{slice_get, option_and_then}
use Rattle.acc_grammar.specs.Readers.{AllIn}
use Rattle.acc_base.specs.Lines.{type_name, point_name}
use Rattle.acc_base.specs.Effects.{point_of}
use Rattle.acc_base.specs.declared.tables.Table.{Table}
use Rattle.acc_base.specs.declared.designs.TxType.{TxType}
use Rattle.acc_base.specs.declared.designs.At.{At}
use Rattle.acc_base.specs.declared.designs.Entry.{Entry}
use Rattle.acc_base.specs.declared.designs.Hint.{Hint}
use Rattle.acc_base.specs.declared.designs.Design.{Design}
use Rattle.acc_parse_syntax.specs.declared.trees.TypeTree.{TypeTree}
use Rattle.acc_parse_syntax.specs.declared.trees.PairTree.{PairTree}
use Rattle.acc_parse_names.specs.Names.{stands_in, defines_again}
use Rattle.acc_parse_names.specs.Scopes.{type_named}
use Rattle.acc_parse_names.specs.Faults.{outside as known_outside, variable_fault, clause_fault, types_faults, tables_faults, point_of_type_fault}
use Rattle.acc_parse_names.specs.Faults.{point_name_fault, locals_or_none, locals_at, pair_fault, pairs_fault, entry_fault, hint_fault}
use Rattle.acc_parse_names.specs.Faults.{statement_faults, first_fault_of}
use Rattle.acc_print.specs.Names.{inside, outside}
use Rattle.acc_print.specs.Designs.{scope_at}
use Rattle.acc_parse_readback.specs.Trees.{variable_tree, clause_tree}
use Rattle.acc_parse_readback.specs.TypeTrees.{table_tree, point_name_tree, pair_tree, pairs_tree, entry_tree, hint_tree, type_tree, tree_of}
use Rattle.acc_parse_readback.specs.Printable.{IsName, IsClauseSaid}
use Rattle.acc_parse_readback.specs.PrintableTypes.{IsTableSaid, IsAtSaid, IsPairSaid, IsEntrySaid, IsHintSaid, IsTypeSaid, IsSaid}
use Rattle.acc_parse_readback.proofs.Mapped.{all_mapped}
use Rattle.acc_parse_readback.proofs.Faultless.{neither, not_either, none_any, AreFalse, false_both, false_mapped, none_first}
use Rattle.acc_parse_readback.proofs.StandingNames.{AreSame, found_new}
use Rattle.acc_parse_readback.proofs.NamedValues.{Fits, variable_defined, lin_defined}
use Rattle.acc_parse_readback.proofs.NamedClauses.{clause_defined}
use Rattle.acc_parse_readback.proofs.NamedSteps.{titles, point_stands}
use Rattle.acc_parse_readback.proofs.NamedTypes.{point_names_are, type_same, types_defined}

-- ---- tables

tables_defined : (earlier : List (List ℕ)) (ts : List Table) → defines_again earlier (map (λ (t : Table). t.name) ts) ≡ false →
    AllIn IsTableSaid ts → AreFalse (tables_faults earlier (map table_tree ts))
tables_defined earlier [] new h = tt
tables_defined earlier (t ∷ ts) new h =
    let both = not_either (stands_in t.name earlier) (defines_again (earlier ++ t.name ∷ []) (map (λ (u : Table). u.name) ts)) new in (
      neither (stands_in t.name earlier) (defines_again [] t.cols) both.0 h.0.new_columns,
      tables_defined (earlier ++ t.name ∷ []) ts both.1 h.1,
    )

-- ---- points by name

all_at : {T : Type 0} (P : T → Type 0) (ts : List T) (n : ℕ) (t : T) → AllIn P ts → slice_get ts n ≡ Some t → P t
all_at P [] n t h at = absurd cc
all_at P (s ∷ ts) zero t h at = let is : s ≡ t = cc in subst P is h.0
all_at P (s ∷ ts) (suc n) t h at = all_at P ts n t h.1 at

-- a type that has a name is there
type_there : (o : Option TxType) → IsName (type_name o) → (t : TxType) × (o ≡ Some t)
type_there None h = absurd h.0
type_there (Some t) h = (t, refl)

module _ (d : Design) (said : IsSaid d) where
  abbrev trees : List TypeTree
  trees = map (type_tree d.tables) d.types

  module _ (at : At) (t : TxType) (is : slice_get d.types at.ty ≡ Some t) where
    type_found : type_named trees (type_name (slice_get d.types at.ty)) ≡ Some (type_tree d.tables t)
    type_found =
        ap (λ (o : Option TxType). type_named trees (type_name o)) is
        ∙ found_new (λ (u : TxType). u.name) (λ (u : TypeTree). u.name) (type_tree d.tables) (λ u. refl) [] d.types at.ty t said.new_types
        is

    point_found : IsName (point_name (point_of d at.ty at.point)) → point_name_fault trees (point_name_tree d at) ≡ false
    point_found h =
        let x = point_name (point_of d at.ty at.point) in
        let same : x ≡ point_name (slice_get t.points at.point) =
        ap (λ (o : Option TxType). point_name (option_and_then (λ (u : TxType). slice_get u.points at.point) o)) is in
        ap (λ (o : Option TypeTree). point_of_type_fault o x) type_found
        ∙ ap (λ (xs : List (List ℕ)). not (stands_in x xs))
        (point_names_are d.tables t (all_at (IsTypeSaid d.tables) d.types at.ty t said.types is))
        ∙ ap (λ (y : List ℕ). not (stands_in y (titles t.points))) same ∙ ap not (point_stands t.points at.point (subst IsName same h))

    same_there : AreSame (scope_at d at).names (locals_at trees (point_name_tree d at))
    same_there =
        subst (λ (o : Option TypeTree). AreSame (scope_at d at).names (locals_or_none o)) (sym type_found)
        (subst (λ (o : Option TxType). AreSame (inside d.tables o).names (locals_or_none (Some (type_tree d.tables t)))) (sym is)
        (type_same d.tables t))

  at_defined : (at : At) → IsAtSaid d at → point_name_fault trees (point_name_tree d at) ≡ false
  at_defined at h = let there = type_there (slice_get d.types at.ty) h.ty in point_found at there.0 there.1 h.point

  at_same : (at : At) → IsAtSaid d at → AreSame (scope_at d at).names (locals_at trees (point_name_tree d at))
  at_same at h = let there = type_there (slice_get d.types at.ty) h.ty in same_there at there.0 there.1

  -- ---- entries and hints

  entry_defined : (e : Entry) → IsEntrySaid d e → entry_fault trees (entry_tree d e) ≡ false
  entry_defined e h =
      neither (point_name_fault trees (point_name_tree d e.held)) _ (at_defined e.held h.held)
      (neither (point_name_fault trees (point_name_tree d e.step)) _ (at_defined e.step h.step) (pairs_defined e.pairs h.pairs))
    where
      held : List (List ℕ)
      held = (scope_at d e.held).names

      step : List (List ℕ)
      step = (scope_at d e.step).names

      held_known : List (List ℕ)
      held_known = locals_at trees (point_name_tree d e.held)

      step_known : List (List ℕ)
      step_known = locals_at trees (point_name_tree d e.step)

      pair_defined : (p : ℕ × ℕ) → IsPairSaid held step p → pair_fault held_known step_known (pair_tree held step p) ≡ false
      pair_defined p g =
          neither (variable_fault held_known (variable_tree held p.0)) (variable_fault step_known (variable_tree step p.1))
          (variable_defined held held_known (at_same e.held h.held) p.0 (inl g.0))
          (variable_defined step step_known (at_same e.step h.step) p.1 (inl g.1))

      pairs_defined : (ps : List (ℕ × ℕ)) → AllIn (IsPairSaid held step) ps →
          pairs_fault held_known step_known (pairs_tree held step ps) ≡ false
      pairs_defined [] g = refl
      pairs_defined (p ∷ ps) g =
          neither (pair_fault held_known step_known (pair_tree held step p)) _ (pair_defined p g.0)
          (none_any (pair_fault held_known step_known) (map (pair_tree held step) ps)
          (all_mapped (IsPairSaid held step) (λ (t : PairTree). pair_fault held_known step_known t ≡ false) (pair_tree held step)
          pair_defined ps g.1))

  hint_defined : (h : Hint) → IsHintSaid d h → hint_fault trees (hint_tree d h) ≡ false
  hint_defined h g =
      neither (point_name_fault trees (point_name_tree d h.at)) _ (at_defined h.at g.at)
      (lin_defined (scope_at d h.at).names (locals_at trees (point_name_tree d h.at)) (at_same h.at g.at) h.lin g.value)

  -- ---- the whole

  outside_fits : Fits (outside d.tables) (known_outside (map table_tree d.tables))
  outside_fits = record { tables = refl; new = said.new_tables; same = λ x h. refl }

  statements_defined : AreFalse (statement_faults (tree_of d))
  statements_defined =
      let s = outside d.tables in
      let v = known_outside (map table_tree d.tables) in
      false_both (tables_faults [] (map table_tree d.tables)) _ (tables_defined [] d.tables said.new_tables said.tables)
      (false_both (map (clause_fault v) (map (clause_tree s) d.always)) _
      (false_mapped (IsClauseSaid s) (clause_fault v) (clause_tree s) (clause_defined s v outside_fits) d.always said.always)
      (false_both (types_faults (map table_tree d.tables) [] trees) _
      (types_defined d.tables said.new_tables [] d.types said.new_types said.types)
      (false_both (map (entry_fault trees) (map (entry_tree d) d.entries)) (map (hint_fault trees) (map (hint_tree d) d.hints))
      (false_mapped (IsEntrySaid d) (entry_fault trees) (entry_tree d) entry_defined d.entries said.entries)
      (false_mapped (IsHintSaid d) (hint_fault trees) (hint_tree d) hint_defined d.hints said.hints))))

-- no statement of a printed design has a fault of names
pub tree_names_well : (d : Design) → IsSaid d → first_fault_of (tree_of d) ≡ None
tree_names_well d said = none_first (statement_faults (tree_of d)) (statements_defined d said)
