-- The points that entries and hints of a tree that is a design's name can be spelled, and what can be named there.
use Rattle.std.proofs.Common.{◌≡◌, ℕ, ◌≤◌, ◌^◌, true, false, List, ◌++◌, length, Option, Some, None, refl, ap, sym, ◌∙◌, subst, arith}
use Rattle.std.specs.Prelude.{not, option_map, option_and_then, slice_get}
use Rattle.std.specs.Str.{bytes_eq}
use Rattle.std.proofs.lemmas.List.{append-nil, length-map}
use Rattle.std.proofs.lemmas.Option.{slice_get-map}
use Rattle.acc_grammar.specs.Readers.{AllIn}
use Rattle.acc_base.specs.Lines.{type_name, point_name}
use Rattle.acc_base.specs.Effects.{point_of as point_in}
use Rattle.acc_base.specs.declared.designs.TxType.{TxType}
use Rattle.acc_parse_syntax.specs.declared.trees.PointTree.{PointTree}
use Rattle.acc_parse_syntax.specs.declared.trees.PointName.{PointName}
use Rattle.acc_parse_syntax.specs.declared.trees.TableTree.{TableTree}
use Rattle.acc_parse_syntax.specs.declared.trees.TypeTree.{TypeTree}
use Rattle.acc_parse_syntax.specs.declared.trees.DesignTree.{DesignTree}
use Rattle.acc_parse_syntax.specs.Spelling.{point_name as point_words}
use Rattle.acc_parse_names.specs.Names.{stands_in}
use Rattle.acc_parse_names.specs.Scopes.{locals_of, points_in, point_names, type_named}
use Rattle.acc_parse_names.specs.Faults.{point_of_type_fault, point_name_fault, locals_or_none, locals_at}
use Rattle.acc_parse_limits.specs.Words.{name_marks, point_name_marks}
use Rattle.acc_parse_clauses.specs.Scopes.{number_of}
use Rattle.acc_parse.specs.Types.{type_scope, type_of}
use Rattle.acc_parse.specs.Designs.{type_names, points_or_none, at_of, variables_or_none, variables_at, design_of}
use Rattle.acc_print.specs.Names.{names_within, inside}
use Rattle.acc_print.specs.Designs.{scope_at}
use Rattle.acc_parse_readback.specs.Printable.{IsName}
use Rattle.acc_parse_readback.specs.PrintableTypes.{IsAtSaid}
use Rattle.acc_parse_readback.proofs.OnlyEnds.{AreEnds, IsEnd}
use Rattle.acc_parse_readback.proofs.SaidParts.{all_parts}
use Rattle.acc_parse_readback.proofs.SaidPlaces.{found_numbered, found_has, found_all}
use Rattle.acc_parse_readback.proofs.SaidNames.{AreHeard, Setting, names_by, is_name, stands_true}
use Rattle.acc_parse_readback.proofs.SaidSteps.{AreNamed, point_again}
use Rattle.acc_parse_readback.proofs.SaidPoints.{points_named}
use Rattle.acc_parse_readback.proofs.SaidLocals.{not_outside}

-- a type has few locals and few points
pub record IsFew (t : TypeTree) : Type 0 where
  pub locals : length (locals_of t) ≤ 48
  pub points : length (points_in t) ≤ 32

-- what is known of a tree as a whole
pub record IsBounded (d : DesignTree) : Type 0 where
  pub tables : length d.tables ≤ 64
  pub columns : AllIn (λ (t : TableTree). length t.columns ≤ 12) d.tables
  pub types : length d.types ≤ 64
  pub each : AllIn IsFew d.types

-- ---- points of types

-- the type of a point is found
pub record IsTypeFound (d : DesignTree) (p : PointName) : Type 0 where
  pub found : TypeTree
  pub is : type_named d.types p.type_name ≡ Some found
  pub stands : stands_in p.point (point_names found) ≡ true
  pub few : IsFew found
  pub there : slice_get (design_of d).types (number_of p.type_name (type_names d.types)) ≡ Some (type_of d.tables found)
  pub named : found.name ≡ p.type_name

some_type : (o : Option TypeTree) (x : List ℕ) → point_of_type_fault o x ≡ false → (t : TypeTree) × (o ≡ Some t) ×
    (not (stands_in x (point_names t)) ≡ false)
some_type None x h = absurd cc
some_type (Some t) x h = (t, refl, h)

pub type_found : (d : DesignTree) (p : PointName) → IsBounded d → point_name_fault d.types p ≡ false → IsTypeFound d p
type_found d p b h =
    let some = some_type (type_named d.types p.type_name) p.point h in
    let few : length d.types ≤ 2 ^ 32 = let fewer = b.types in omega (arith, fewer) in
    record {
      found = some.0;
      is = some.1;
      stands = stands_true p.point (point_names some.0) some.2;
      few = found_all IsFew (λ (t : TypeTree). bytes_eq p.type_name t.name) d.types some.0 some.1 b.each;
      there = slice_get-map (type_of d.tables) d.types (number_of p.type_name (type_names d.types)) ∙ ap (option_map (type_of d.tables))
          (found_numbered (λ (t : TypeTree). t.name) p.type_name d.types some.0 some.1 few);
      named = found_has (λ (t : TypeTree). t.name) p.type_name d.types some.0 some.1;
    }

pub point_there : (d : DesignTree) (p : PointName) (f : IsTypeFound d p) →
    point_name (point_in (design_of d) (at_of d.types p).ty (at_of d.types p).point) ≡ p.point
point_there d p f =
    let points = (type_of d.tables f.found).points in
    let names = point_names f.found in
    let sized = length-map (points_in f.found) (λ (q : PointTree). q.name) in
    let fewer = f.few.points in
    let n : AreNamed names points = record {
      are = points_named (type_scope d.tables f.found) names (points_in f.found);
      few =
          omega (arith, sized, fewer);
    } in
    ap (λ (o : Option TxType). point_name (option_and_then (λ x. slice_get x.points (at_of d.types p).point) o)) f.there
    ∙ (ap (λ (o : Option TypeTree). point_name (slice_get points (number_of p.point (points_or_none o)))) f.is
    ∙ point_again names points p.point n f.stands)

pub at_said : (d : DesignTree) (p : PointName) → IsTypeFound d p → AreHeard false (point_words p) → AreEnds (point_name_marks p) →
    IsAtSaid (design_of d) (at_of d.types p)
at_said d p f heard marks =
    let ends = all_parts IsEnd (name_marks p.type_name) (name_marks p.point) marks in
    record {
      ty = subst IsName (sym (ap type_name f.there ∙ f.named)) (is_name false p.type_name (heard.0, tt) ends.0);
      point = subst IsName (sym (point_there d p f)) (is_name false p.point heard.1.1 ends.1);
    }

-- ---- the setting at a point

-- what can be named at a point of a type that is found, where `self` may not stand
abbrev pub at_point : (d : DesignTree) (p : PointName) → IsBounded d → IsTypeFound d p → Setting
at_point d p b f = record {
  own = false;
  in_type = (variables_at d.types p).in_type;
  trees = d.tables;
  locals = (variables_at d.types p).locals;
  mine = (variables_at d.types p).own;
  names = (scope_at (design_of d) (at_of d.types p)).names;
  known = locals_at d.types p;
  names_are = ap (λ (o : Option TxType). (inside (design_of d).tables o).names) f.there ∙
      (sym (append-nil (names_within (locals_of f.found))) ∙ ap
      (λ (o : Option TypeTree). names_by (variables_or_none o).in_type (variables_or_none o).locals (variables_or_none o).own) (sym f.is));
  known_are = ap locals_or_none f.is ∙ (sym (append-nil (locals_of f.found)) ∙ ap
      (λ (o : Option TypeTree). (variables_or_none o).locals ++ (variables_or_none o).own) (sym f.is));
  no_self = λ e. refl;
  no_locals = λ e. not_outside (ap (λ (o : Option TypeTree). (variables_or_none o).in_type) (sym f.is) ∙ e);
  few_tables = b.tables;
  few_columns = b.columns;
  few_locals = subst (λ (o : Option TypeTree). length (variables_or_none o).locals ≤ 48) (sym f.is) f.few.locals;
  few_mine = subst (λ (o : Option TypeTree). length (variables_or_none o).own ≤ 8) (sym f.is) (omega arith);
}
