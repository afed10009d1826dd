-- A printed design stands for itself, and passes no limit by what is collected.
use Rattle.std.proofs.Common.{◌≡◌, ℕ, List, [], ◌∷◌, ◌++◌, map, Option, Some, None, refl, sym, ap, subst, ◌∙◌, inl, arith}
use Rattle.std.specs.Prelude.{slice_get, option_and_then}
use Rattle.std.specs.List.{flat_map}
use Rattle.acc_grammar.specs.Readers.{AllIn}
use Rattle.acc_base.specs.Lines.{type_name, point_name}
use Rattle.acc_base.specs.Effects.{point_of}
use Rattle.acc_base.specs.declared.tables.Table.{Table}
use Rattle.acc_base.specs.declared.designs.Point.{Point}
use Rattle.acc_base.specs.declared.designs.TxType.{TxType}
use Rattle.acc_base.specs.declared.designs.At.{At}
use Rattle.acc_base.specs.declared.designs.Side.{Side}
use Rattle.acc_base.specs.declared.designs.Side.TheVariants as side
use Rattle.acc_base.specs.declared.designs.Entry.{Entry}
use Rattle.acc_base.specs.declared.designs.Hint.{Hint}
use Rattle.acc_base.specs.declared.designs.Design.{Design}
use Rattle.acc_parse_syntax.specs.declared.trees.TypeTree.{TypeTree}
use Rattle.acc_parse_names.specs.Scopes.{point_names, type_named}
use Rattle.acc_parse_clauses.specs.Scopes.{Variables, number_of}
use Rattle.acc_parse_clauses.specs.Forms.{clause_of}
use Rattle.acc_parse.specs.Types.{type_of}
use Rattle.acc_parse.specs.Designs.{table_of, outside as outside_trees, type_names, points_or_none, at_of, side_of, variables_or_none}
use Rattle.acc_parse.specs.Designs.{variables_at, pair_of, all_pairs, entry_of, hint_of, design_of}
use Rattle.acc_parse_clauses.specs.Sizes.{clause_statement_sizes, sum_sizes}
use Rattle.acc_parse.specs.Sizes.{type_sizes, table_sizes, entry_sizes, hint_sizes, design_sizes}
use Rattle.acc_parse.specs.Sizes.{size_faults}
use Rattle.acc_print.specs.Names.{within, inside, outside}
use Rattle.acc_print.specs.Designs.{scope_at}
use Rattle.acc_parse_readback.specs.Trees.{lin_tree, clause_tree}
use Rattle.acc_parse_readback.specs.TypeTrees.{table_tree, type_tree, point_name_tree, side_of_tree, pair_tree, pairs_tree, entry_tree, hint_tree}
use Rattle.acc_parse_readback.specs.TypeTrees.{tree_of}
use Rattle.acc_parse_readback.specs.Printable.{IsName, IsClauseSaid}
use Rattle.acc_parse_readback.specs.PrintableTypes.{IsTableSaid, IsTypeSaid, IsAtSaid, IsPairSaid, IsEntrySaid, IsHintSaid, IsSaid}
use Rattle.acc_parse_readback.proofs.NamePlaces.{fitted_small}
use Rattle.acc_parse_readback.proofs.ItemNumbers.{looked_up, trees_named, number_item, found_item}
use Rattle.acc_parse_readback.proofs.VariableNumbers.{Fits, variable_back}
use Rattle.acc_parse_readback.proofs.MeantValues.{all_back, lin_back, lin_ends}
use Rattle.acc_parse_readback.proofs.MeantRows.{Suits}
use Rattle.acc_parse_readback.proofs.MeantClauses.{clause_back, clause_ends}
use Rattle.acc_parse_readback.proofs.MeantSteps.{point_back}
use Rattle.acc_parse_readback.proofs.MeantTypes.{type_fits, type_points, type_back, type_ends}
use Rattle.acc_parse_readback.proofs.OnlyEnds.{AreEnds, no_faults, one_end, ends_behind, ended, ends_mapped}

table_back : (t : Table) → IsTableSaid t → table_of (table_tree t) ≡ t
table_back t h = λ i. record { name = t.name; width = fitted_small t.width (omega (arith, h.width)) i; cols = t.cols; own = t.own }

side_back : (s : Side) → side_of (side_of_tree s) ≡ s
side_back side.Next = refl
side_back side.Undo = refl

abbrev name_of_type : TxType → List ℕ
name_of_type t = t.name

type_there : (o : Option TxType) → IsName (type_name o) → (t : TxType) × (o ≡ Some t)
type_there None h = absurd h.0
type_there (Some t) h = (t, refl)

pair_back : (held step : List (List ℕ)) (v w : Variables) → Fits held v → Fits step w → (p : ℕ × ℕ) → IsPairSaid held step p →
    pair_of v w (pair_tree held step p) ≡ p
pair_back held step v w f g p h = λ i. (variable_back held v f p.0 (inl h.0) i, variable_back step w g p.1 (inl h.1) i)

pairs_back : (held step : List (List ℕ)) (v w : Variables) → Fits held v → Fits step w → (ps : List (ℕ × ℕ)) →
    AllIn (IsPairSaid held step) ps → map (pair_of v w) (all_pairs (pairs_tree held step ps)) ≡ ps
pairs_back held step v w f g [] h = refl
pairs_back held step v w f g (p ∷ ps) h =
    λ i. pair_back held step v w f g p h.0 i ∷ all_back (IsPairSaid held step) (pair_of v w) (pair_tree held step) ps
    (pair_back held step v w f g) h.1 i

module _ (d : Design) (h : IsSaid d) where
  abbrev types : List TypeTree
  types = map (type_tree d.tables) d.types

  -- ---- points by their names

  type_at : (at : At) → IsAtSaid d at → (t : TxType) × (slice_get d.types at.ty ≡ Some t)
  type_at at k = type_there (slice_get d.types at.ty) k.ty

  found : (at : At) (t : TxType) → slice_get d.types at.ty ≡ Some t →
      type_named types (type_name (slice_get d.types at.ty)) ≡ Some (type_tree d.tables t)
  found at t e =
      ap (λ (o : Option TxType). type_named types (type_name o)) e ∙ found_item name_of_type (type_tree d.tables) (λ u. u.name) (λ u. refl)
      d.types at.ty t h.new_types e

  type_number : (at : At) (t : TxType) → slice_get d.types at.ty ≡ Some t →
      number_of (type_name (slice_get d.types at.ty)) (type_names types) ≡ at.ty
  type_number at t e =
      ap (λ (o : Option TxType). number_of (type_name o) (type_names types)) e ∙ number_item name_of_type d.types (type_names types) at.ty t
      (trees_named name_of_type (type_tree d.tables) (λ u. u.name) (λ t. refl) d.types) h.new_types (omega (arith, h.few_types)) e

  point_number : (at : At) (t : TxType) → slice_get d.types at.ty ≡ Some t → IsName (point_name (point_of d at.ty at.point))
      → number_of (point_name (point_of d at.ty at.point)) (points_or_none (type_named types (type_name (slice_get d.types at.ty)))) ≡
      at.point
  point_number at t e k =
      let said = looked_up (IsTypeSaid d.tables) d.types at.ty t h.types e in
      let named = ap (λ (o : Option TxType). option_and_then (λ (x : TxType). slice_get x.points at.point) o) e in
      let points = ap points_or_none (found at t e) in
      (λ i. number_of (point_name (named i)) (points i)) ∙ point_back t.points (point_names (type_tree d.tables t))
      (type_points d.tables h.tables h.few_tables h.new_tables t said) at.point (slice_get t.points at.point) refl
      (subst (λ (o : Option Point). IsName (point_name o)) named k)

  at_back : (at : At) → IsAtSaid d at → at_of types (point_name_tree d at) ≡ at
  at_back at k =
      let there = type_at at k in
      λ i. record { ty = type_number at there.0 there.1 i; point = point_number at there.0 there.1 k.point i }

  fits_at : (at : At) → IsAtSaid d at → Fits (scope_at d at).names (variables_at types (point_name_tree d at))
  fits_at at k =
      let there = type_at at k in
      let fits = type_fits d.tables there.0 (looked_up (IsTypeSaid d.tables) d.types at.ty there.0 h.types there.1) in
      subst (λ (o : Option TxType). Fits (inside d.tables o).names (variables_at types (point_name_tree d at))) (sym there.1)
      (subst (λ (o : Option TypeTree). Fits (within d.tables there.0).names (variables_or_none o)) (sym (found at there.0 there.1)) fits)

  -- ---- entries and hints

  entry_back : (e : Entry) → IsEntrySaid d e → entry_of types (entry_tree d e) ≡ e
  entry_back e k = λ i. record {
    held = at_back e.held k.held i;
    step = at_back e.step k.step i;
    side = side_back e.side i;
    pairs = pairs_back (scope_at d e.held).names (scope_at d e.step).names (variables_at types (point_name_tree d e.held))
        (variables_at types (point_name_tree d e.step)) (fits_at e.held k.held) (fits_at e.step k.step) e.pairs k.pairs i;
  }

  hint_back : (x : Hint) → IsHintSaid d x → hint_of types (hint_tree d x) ≡ x
  hint_back x k = λ i. record {
    at = at_back x.at k.at i;
    side = side_back x.side i;
    lin = lin_back (scope_at d x.at).names (variables_at types (point_name_tree d x.at)) (fits_at x.at k.at) x.lin k.value i;
  }

  hint_ends : (x : Hint) → IsHintSaid d x → AreEnds (hint_sizes types (hint_tree d x))
  hint_ends x k = ended (sum_sizes (variables_at types (point_name_tree d x.at)) (lin_tree (scope_at d x.at).names x.lin))
      (lin_ends (scope_at d x.at).names (variables_at types (point_name_tree d x.at)) (fits_at x.at k.at) x.lin k.value)

  -- ---- the whole

  outside_suits : Suits (outside d.tables) (outside_trees (map table_tree d.tables))
  outside_suits = record {
    tables = refl;
    said = h.tables;
    few = h.few_tables;
    new = h.new_tables;
    variables = record {
      all = refl;
      first = refl;
      locals = tt;
      own = tt;
      new_locals = refl;
      new_own = refl;
      few_locals = omega arith;
      few_own = omega arith;
    };
  }

  ends_of : AreEnds (design_sizes (tree_of d))
  ends_of =
      let trees = map table_tree d.tables in
      let tables = flat_map table_sizes trees in
      let always = flat_map (clause_statement_sizes (outside_trees trees)) (map (clause_tree (outside d.tables)) d.always) in
      let typed = flat_map (type_sizes trees) types in
      let entries = flat_map entry_sizes (map (entry_tree d) d.entries) in
      let hints = flat_map (hint_sizes types) (map (hint_tree d) d.hints) in
      ends_behind tables (always ++ (typed ++ (entries ++ hints)))
      (ends_mapped IsTableSaid table_sizes table_tree d.tables (λ t k. one_end) h.tables)
      (ends_behind always (typed ++ (entries ++ hints))
      (ends_mapped (IsClauseSaid (outside d.tables)) (clause_statement_sizes (outside_trees trees)) (clause_tree (outside d.tables))
      d.always (clause_ends (outside d.tables) (outside_trees trees) outside_suits refl) h.always)
      (ends_behind typed (entries ++ hints) (ends_mapped (IsTypeSaid d.tables) (type_sizes trees) (type_tree d.tables) d.types
      (type_ends d.tables h.tables h.few_tables h.new_tables) h.types)
      (ends_behind entries hints (ends_mapped (IsEntrySaid d) entry_sizes (entry_tree d) d.entries (λ e k. one_end) h.entries)
      (ends_mapped (IsHintSaid d) (hint_sizes types) (hint_tree d) d.hints hint_ends h.hints))))

  -- the design that the printed tree stands for
  pub tree_means_design : design_of (tree_of d) ≡ d
  tree_means_design = λ i. record {
    tables = all_back IsTableSaid table_of table_tree d.tables table_back h.tables i;
    always = all_back (IsClauseSaid (outside d.tables)) (clause_of (outside_trees (map table_tree d.tables)))
        (clause_tree (outside d.tables)) d.always (clause_back (outside d.tables) (outside_trees (map table_tree d.tables)) outside_suits
        refl) h.always i;
    types = all_back (IsTypeSaid d.tables) (type_of (map table_tree d.tables)) (type_tree d.tables) d.types
        (type_back d.tables h.tables h.few_tables h.new_tables) h.types i;
    entries = all_back (IsEntrySaid d) (entry_of types) (entry_tree d) d.entries entry_back h.entries i;
    hints = all_back (IsHintSaid d) (hint_of types) (hint_tree d) d.hints hint_back h.hints i;
  }

  -- each number that it collects is small
  pub tree_has_no_sizes : size_faults (tree_of d) ≡ []
  unfolding size_faults
  tree_has_no_sizes = no_faults 0 (design_sizes (tree_of d)) ends_of
