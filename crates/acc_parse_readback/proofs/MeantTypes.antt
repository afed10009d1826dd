-- Printed types stand for themselves, and pass no limit.
use Rattle.std.proofs.Common.{◌≡◌, ◌≤◌, ℕ, true, List, [], ◌∷◌, ◌++◌, length, map, take, drop, refl, sym, ap, subst, ◌∙◌, arith, append-nil}
use Rattle.std.proofs.Common.{length-append}
use Rattle.std.specs.Prelude.{codes}
use Rattle.std.specs.List.{flat_map}
use Rattle.std.proofs.lemmas.List.{take-append-drop, length-take-le}
use Rattle.acc_grammar.specs.Readers.{AllIn}
use Rattle.acc_grammar.proofs.Exact.{AllIn-append}
use Rattle.acc_base.specs.declared.forms.Clause.{Clause}
use Rattle.acc_base.specs.declared.tables.Table.{Table}
use Rattle.acc_base.specs.declared.designs.TxType.{TxType}
use Rattle.acc_parse_syntax.specs.declared.trees.TypeTree.{TypeTree}
use Rattle.acc_parse_names.specs.Scopes.{locals_of, points_in, point_names}
use Rattle.acc_parse_limits.specs.Marks.{ending}
use Rattle.acc_parse_clauses.specs.Scopes.{Scope as Surroundings, fitted, number_of}
use Rattle.acc_parse_clauses.specs.Forms.{clause_of}
use Rattle.acc_parse.specs.Types.{type_variables, type_scope, returned_of, type_of}
use Rattle.acc_parse_clauses.specs.Sizes.{clause_statement_sizes}
use Rattle.acc_parse.specs.Sizes.{point_sizes, names_sizes, type_sizes}
use Rattle.acc_print.specs.Names.{name_at, names_within, within}
use Rattle.acc_parse_readback.specs.Trees.{names_tree, clause_tree}
use Rattle.acc_parse_readback.specs.TypeTrees.{table_tree, type_tree}
use Rattle.acc_parse_readback.specs.Printable.{IsName, IsClauseSaid, AreNew}
use Rattle.acc_parse_readback.specs.PrintableTypes.{IsTableSaid, IsTypeSaid}
use Rattle.acc_parse_readback.proofs.NamePlaces.{fitted_small, number_new}
use Rattle.acc_parse_readback.proofs.VariableNumbers.{Fits}
use Rattle.acc_parse_readback.proofs.MeantValues.{all_back}
use Rattle.acc_parse_readback.proofs.MeantRows.{Suits, name_of_table}
use Rattle.acc_parse_readback.proofs.MeantClauses.{names_back, clause_back, clause_ends}
use Rattle.acc_parse_readback.proofs.MeantPoints.{points_end, points_back, points_named}
use Rattle.acc_parse_readback.proofs.MeantSteps.{ArePoints}
use Rattle.acc_parse_readback.proofs.OnlyEnds.{AreEnds, one_end, ends_behind, ends_mapped}

-- ---- the names of a type

names_end : (xs : List (List ℕ)) → AreEnds (names_sizes (names_tree xs))
names_end [] = tt
names_end (x ∷ xs) = one_end

-- the locals past the parameters stand behind these
pub locals_back : (tables : List Table) (t : TxType) → locals_of (type_tree tables t) ≡ t.locals
locals_back tables t = ap (λ (xs : List (List ℕ)). take t.params t.locals ++ xs) (names_back (drop t.params t.locals)) ∙ take-append-drop
    t.params t.locals

numbers_back : (locals : List (List ℕ)) → AreNew [] locals → length locals ≤ 48 → (ns : List ℕ) → AllIn IsName (map (name_at locals) ns) →
    map (λ x. number_of x locals) (map (name_at locals) ns) ≡ ns
numbers_back locals new few [] h = refl
numbers_back locals new few (n ∷ ns) h = λ i. number_new locals n new (omega arith) h.0 i ∷ numbers_back locals new few ns h.1 i

returns_back : (tables : List Table) (t : TxType) → IsTypeSaid tables t → returned_of (type_tree tables t) ≡ t.returns
returns_back tables t h =
    (λ i. map (λ x. number_of x (locals_back tables t i)) (names_back (map (name_at t.locals) t.returns) i)) ∙ numbers_back t.locals
    h.new_locals h.few_locals t.returns h.returns

local_names : (tables : List Table) (t : TxType) → IsTypeSaid tables t → AllIn IsName t.locals
local_names tables t h = subst (AllIn IsName) (take-append-drop t.params t.locals)
    (AllIn-append IsName (take t.params t.locals) (drop t.params t.locals) h.parameters h.locals)

-- the names within a type are its variables'
pub type_fits : (tables : List Table) (t : TxType) → IsTypeSaid tables t →
    Fits (names_within t.locals) (type_variables (type_tree tables t))
type_fits tables t h =
    subst (λ (xs : List (List ℕ)). Fits (names_within t.locals) (record { in_type = true; locals = xs; own = [] }))
    (sym (locals_back tables t)) (record {
      all = sym (append-nil (names_within t.locals));
      first = length-append t.locals (codes "self" ∷ []);
      locals = local_names tables t h;
      own = tt;
      new_locals = h.new_locals;
      new_own = refl;
      few_locals = h.few_locals;
      few_own = omega arith;
    })

-- ---- types

module _ (tables : List Table) (said : AllIn IsTableSaid tables) (few : length tables ≤ 64) (new : AreNew [] (map name_of_table tables))
    (t : TxType) (h : IsTypeSaid tables t) where
  abbrev tree : TypeTree
  tree = type_tree tables t

  abbrev outer : Surroundings
  outer = type_scope (map table_tree tables) tree

  type_suits : Suits (within tables t) outer
  type_suits = record { tables = refl; said = said; few = few; new = new; variables = type_fits tables t h }

  pub type_points : ArePoints t.points (point_names tree)
  type_points = record { are = points_named (within tables t) t.points t.points h.points; new = h.new_points; few = h.few_points }

  pub type_back : type_of (map table_tree tables) tree ≡ t
  type_back = λ i. record {
    name = t.name;
    params = (ap fitted (length-take-le t.params t.locals h.params) ∙ fitted_small t.params (omega (arith, h.params, h.few_locals))) i;
    locals = locals_back tables t i;
    points = points_back (within tables t) outer type_suits refl t.points (point_names tree) type_points t.points h.points i;
    posts = all_back (IsClauseSaid (within tables t)) (clause_of outer) (clause_tree (within tables t)) t.posts
        (clause_back (within tables t) outer type_suits refl) h.posts i;
    repairs = all_back (IsClauseSaid (within tables t)) (clause_of outer) (clause_tree (within tables t)) t.repairs
        (clause_back (within tables t) outer type_suits refl) h.repairs i;
    returns = returns_back tables t h i;
    limit = fitted_small t.limit h.limit i;
  }

  clauses_end : (cs : List Clause) → AllIn (IsClauseSaid (within tables t)) cs →
      AreEnds (flat_map (clause_statement_sizes outer) (map (clause_tree (within tables t)) cs))
  clauses_end cs k = ends_mapped (IsClauseSaid (within tables t)) (clause_statement_sizes outer) (clause_tree (within tables t)) cs
      (clause_ends (within tables t) outer type_suits refl) k

  pub type_ends : AreEnds (type_sizes (map table_tree tables) tree)
  type_ends =
      let ensured = flat_map (clause_statement_sizes outer) tree.ensured in
      let repaired = flat_map (clause_statement_sizes outer) tree.repaired in
      let points = flat_map (point_sizes outer) (points_in tree) in
      let locals = names_sizes tree.locals in
      let returns = names_sizes tree.returns in
      ends_behind ending (ending ++ (returns ++ (locals ++ (ensured ++ (repaired ++ points))))) one_end
      (ends_behind ending (returns ++ (locals ++ (ensured ++ (repaired ++ points)))) one_end
      (ends_behind returns (locals ++ (ensured ++ (repaired ++ points))) (names_end (map (name_at t.locals) t.returns))
      (ends_behind locals (ensured ++ (repaired ++ points)) (names_end (drop t.params t.locals))
      (ends_behind ensured (repaired ++ points) (clauses_end t.posts h.posts)
      (ends_behind repaired points (clauses_end t.repairs h.repairs)
      (points_end (within tables t) outer type_suits refl t.points t.points h.points))))))
