-- The types of a tree that is a design's can be spelled.
use Rattle.std.proofs.Common.{◌≡◌, ℕ, ◌+◌, ◌≤◌, ◌<◌, ◌^◌, Bool, true, false, List, [], ◌++◌, length, map, take, drop, refl, ap, sym, ◌∙◌}
use Rattle.std.proofs.Common.{subst, arith, length-append}
use Rattle.std.specs.Prelude.{nat_lt, nat_le}
use Rattle.std.specs.List.{flat_map}
use Rattle.std.proofs.Math.Seq.{take-append_seam, drop-append_seam}
use Rattle.std.proofs.lemmas.Bool.{or_parts}
use Rattle.std.proofs.lemmas.List.{length-map}
use Rattle.acc_grammar.specs.Readers.{AllIn, joined}
use Rattle.acc_lex.specs.declared.words.Sign.TheVariants as sign
use Rattle.acc_parse_syntax.specs.declared.trees.PointTree.{PointTree}
use Rattle.acc_parse_syntax.specs.declared.trees.TableTree.{TableTree}
use Rattle.acc_parse_syntax.specs.declared.trees.TypeTree.{TypeTree}
use Rattle.acc_parse_syntax.specs.Spelling.{just, name, limit as limit_words, names_statement, clause_statement, point, type_words}
use Rattle.acc_parse_names.specs.Names.{listed_or_none, defines_again}
use Rattle.acc_parse_names.specs.Scopes.{locals_of, points_in, point_names}
use Rattle.acc_parse_names.specs.Faults.{clause_fault, point_faults, points_faults, returns_faults, locals_faults, head_faults, type_faults}
use Rattle.acc_base.specs.declared.limits.Limit.TheVariants as limit
use Rattle.acc_parse_limits.specs.Marks.{past, ending, limited}
use Rattle.acc_parse_limits.specs.Words.{name_marks, small_number_marks}
use Rattle.acc_parse_limits.specs.Statements.{clause_statement_marks, returns_marks, locals_marks, point_marks, head_marks, type_marks}
use Rattle.acc_parse_clauses.specs.Forms.{clause_of}
use Rattle.acc_parse.specs.Types.{point_of, type_of}
use Rattle.acc_parse.specs.Designs.{table_of}
use Rattle.acc_parse_clauses.specs.Sizes.{clause_statement_sizes}
use Rattle.acc_parse.specs.Sizes.{names_sizes, point_sizes, type_sizes}
use Rattle.acc_parse_readback.specs.Printable.{IsName}
use Rattle.acc_parse_readback.specs.PrintableTypes.{IsCount, IsPointSaid, IsTypeSaid}
use Rattle.acc_parse_readback.proofs.OnlyEnds.{AreEnds, IsEnd}
use Rattle.acc_parse_readback.proofs.Faultless.{IsFalse}
use Rattle.acc_parse_readback.proofs.SaidParts.{not_past, all_parts, all_joined, all_flat, all_map, all_by_four, each_counted, at_most_counted}
use Rattle.acc_parse_readback.proofs.SaidPlaces.{fitted_same}
use Rattle.acc_parse_readback.proofs.SaidNames.{AreHeard, IsHeard, Setting, is_name, are_names}
use Rattle.acc_parse_readback.proofs.SaidRows.{meant, known, shown}
use Rattle.acc_parse_readback.proofs.SaidClauses.{clauses_said}
use Rattle.acc_parse_readback.proofs.SaidSteps.{AreNamed, count_said}
use Rattle.acc_parse_readback.proofs.SaidPoints.{points_right, points_named, point_said}
use Rattle.acc_parse_readback.proofs.SaidLocals.{within_type, few_locals, locals_said, new_locals, returned_said}

-- ---- the parts of a type's marks

pub record HasEnds (t : TypeTree) : Type 0 where
  pub head : AreEnds (head_marks t)
  pub returns : AreEnds (returns_marks t.returns)
  pub locals : AreEnds (locals_marks (length t.params) t.locals)
  pub ensured : AreEnds (limited limit.Clauses 64 clause_statement_marks t.ensured)
  pub repaired : AreEnds (limited limit.Clauses 64 clause_statement_marks t.repaired)
  pub first : AreEnds (point_marks t.first)
  pub others : AreEnds (limited limit.Points 31 point_marks t.others)

pub type_ends : (t : TypeTree) → AreEnds (type_marks t) → HasEnds t
type_ends t marks =
    let points = point_marks t.first ++ limited limit.Points 31 point_marks t.others in
    let repaired = limited limit.Clauses 64 clause_statement_marks t.repaired in
    let ensured = limited limit.Clauses 64 clause_statement_marks t.ensured in
    let locals = locals_marks (length t.params) t.locals in
    let a = all_parts IsEnd (head_marks t) (returns_marks t.returns ++ (locals ++ (ensured ++ (repaired ++ points)))) marks in
    let b = all_parts IsEnd (returns_marks t.returns) (locals ++ (ensured ++ (repaired ++ points))) a.1 in
    let c = all_parts IsEnd locals (ensured ++ (repaired ++ points)) b.1 in
    let d = all_parts IsEnd ensured (repaired ++ points) c.1 in
    let e = all_parts IsEnd repaired points d.1 in
    let f = all_parts IsEnd (point_marks t.first) (limited limit.Points 31 point_marks t.others) e.1 in
    record { head = a.0; returns = b.0; locals = c.0; ensured = d.0; repaired = e.0; first = f.0; others = f.1 }

pub type_locals : (t : TypeTree) → HasEnds t → length (locals_of t) ≤ 48
type_locals t ends = few_locals t ends.head ends.locals

-- a type has at most 32 points
pub type_points : (t : TypeTree) → HasEnds t → length (points_in t) ≤ 32
type_points t ends = let few = at_most_counted limit.Points 31 point_marks t.others ends.others in omega (arith, few)

names_sized : (t : TypeTree) → length (point_names t) ≡ length (points_in t)
names_sized t = length-map (points_in t) (λ (p : PointTree). p.name)

-- ---- a type

module _ (trees : List TableTree) (few : length trees ≤ 64) (columns : AllIn (λ (t : TableTree). length t.columns ≤ 12) trees) where
  pub type_said : (again : Bool) (t : TypeTree) → AreHeard true (type_words t) → AllIn IsFalse (type_faults trees again t) →
      AreEnds (type_marks t) → AreEnds (type_sizes trees t) → IsTypeSaid (map table_of trees) (type_of trees t)
  type_said again t heard faults marks sizes =
      let H = IsHeard true in
      let ends = type_ends t marks in
      let few_here = type_locals t ends in
      let a : Setting = within_type true trees (locals_of t) few columns few_here in
      let names = point_names t in
      let points = map (point_of (meant a) names) (points_in t) in
      let points_few = type_points t ends in
      let names_few = names_sized t in
      let n : AreNamed names points = record {
        are = points_named (meant a) names (points_in t);
        few =
            omega (arith, points_few, names_few);
      } in
      let point_words = point t.first ++ joined point t.others in
      let repaired_words = joined (clause_statement sign.Repairs) t.repaired in
      let ensured_words = joined (clause_statement sign.Ensures) t.ensured in
      let local_words = names_statement sign.Local t.locals in
      let return_words = names_statement sign.Returns t.returns in
      let w_name = all_parts H (name t.name) (joined name t.params ++
      (just sign.End ++ (limit_words t.limit ++ (return_words ++ (local_words ++ (ensured_words ++ (repaired_words ++ point_words)))))))
      heard.1 in
      let w_params = all_parts H (joined name t.params)
      (just sign.End ++ (limit_words t.limit ++ (return_words ++ (local_words ++ (ensured_words ++ (repaired_words ++ point_words))))))
      w_name.1 in
      let w_limit = all_parts H (limit_words t.limit) (return_words ++ (local_words ++ (ensured_words ++ (repaired_words ++ point_words))))
      w_params.1.1 in
      let w_returns = all_parts H return_words (local_words ++ (ensured_words ++ (repaired_words ++ point_words))) w_limit.1 in
      let w_locals = all_parts H local_words (ensured_words ++ (repaired_words ++ point_words)) w_returns.1 in
      let w_ensured = all_parts H ensured_words (repaired_words ++ point_words) w_locals.1 in
      let w_repaired = all_parts H repaired_words point_words w_ensured.1 in
      let w_points = all_parts H (point t.first) (joined point t.others) w_repaired.1 in
      let f_points = points_faults (known a) names [] (points_in t) in
      let f_repaired = map (clause_fault (known a)) t.repaired in
      let f_ensured = map (clause_fault (known a)) t.ensured in
      let n_head = all_parts IsFalse (head_faults again t) (f_ensured ++ (f_repaired ++ f_points)) faults in
      let n_ensured = all_parts IsFalse f_ensured (f_repaired ++ f_points) n_head.1 in
      let n_repaired = all_parts IsFalse f_repaired f_points n_ensured.1 in
      let right = points_right (known a) names [] (points_in t) n_repaired.1 in
      let n_first = or_parts again (defines_again [] t.params) n_head.0.0 in
      let n_names = all_parts IsFalse (returns_faults (locals_of t) t.returns) (locals_faults t.params t.locals) n_head.0.1.1 in
      let e_long = all_parts IsEnd (past limit.Locals (nat_lt 48 (length t.params)))
      (name_marks t.name ++ (flat_map name_marks t.params ++ (ending ++ (small_number_marks t.limit ++ ending)))) ends.head in
      let e_name = all_parts IsEnd (name_marks t.name) (flat_map name_marks t.params ++ (ending ++ (small_number_marks t.limit ++ ending)))
      e_long.1 in
      let e_params = all_parts IsEnd (flat_map name_marks t.params) (ending ++ (small_number_marks t.limit ++ ending)) e_name.1 in
      let e_limit = all_parts IsEnd (small_number_marks t.limit) ending e_params.1.1 in
      let z_points = flat_map (point_sizes (meant a)) (points_in t) in
      let z_repaired = flat_map (clause_statement_sizes (meant a)) t.repaired in
      let z_ensured = flat_map (clause_statement_sizes (meant a)) t.ensured in
      let s_returns = all_parts IsEnd (names_sizes t.returns) (names_sizes t.locals ++ (z_ensured ++ (z_repaired ++ z_points))) sizes.1.1 in
      let s_locals = all_parts IsEnd (names_sizes t.locals) (z_ensured ++ (z_repaired ++ z_points)) s_returns.1 in
      let s_ensured = all_parts IsEnd z_ensured (z_repaired ++ z_points) s_locals.1 in
      let s_repaired = all_parts IsEnd z_repaired z_points s_ensured.1 in
      let s_points = all_flat IsEnd (point_sizes (meant a)) (points_in t) s_repaired.1 in
      let both : length (locals_of t) ≡ length t.params + length (listed_or_none t.locals) =
      length-append t.params (listed_or_none t.locals) in
      let small : length t.params < 2 ^ 32 = omega (arith, few_here, both) in
      let count = fitted_same (length t.params) small in
      let count_limit = count_said t.limit (nat_le (2 ^ 32) t.limit) refl (not_past limit.NumberSize (nat_le (2 ^ 32) t.limit) e_limit.0) in
      let posts_few = at_most_counted limit.Clauses 64 clause_statement_marks t.ensured ends.ensured in
      let repairs_few = at_most_counted limit.Clauses 64 clause_statement_marks t.repaired ends.repaired in
      let posts_same = length-map t.ensured (clause_of (meant a)) in
      let repairs_same = length-map t.repaired (clause_of (meant a)) in
      let points_same = length-map (points_in t) (point_of (meant a) names) in
      record {
        name = is_name true t.name w_name.0 e_name.0;
        params = omega (arith, count, both);
        few_locals = few_here;
        new_locals = new_locals t n_first.1 n_names.1;
        parameters =
            subst (AllIn IsName) (sym (ap (λ (k : ℕ). take k (locals_of t)) count ∙ take-append_seam t.params (listed_or_none t.locals)))
            (are_names true t.params (all_joined H name t.params w_params.0) (all_flat IsEnd name_marks t.params e_params.0));
        locals =
            subst (AllIn IsName) (sym (ap (λ (k : ℕ). drop k (locals_of t)) count ∙ drop-append_seam t.params (listed_or_none t.locals)))
            (locals_said true (length t.params) t.locals w_locals.0 ends.locals);
        returns = returned_said true (locals_of t) t.returns few_here w_returns.0 ends.returns n_names.0;
        limit = subst IsCount (sym (fitted_same t.limit count_limit)) count_limit;
        few_posts = omega (arith, posts_few, posts_same);
        few_repairs = omega (arith, repairs_few, repairs_same);
        few_points = omega (arith, points_few, points_same);
        new_points = ap (λ (xs : List (List ℕ)). defines_again [] xs) (points_named (meant a) names (points_in t)) ∙ right.new;
        posts = clauses_said sign.Ensures a t.ensured refl w_ensured.0 n_ensured.0
            (each_counted limit.Clauses 64 clause_statement_marks t.ensured ends.ensured) s_ensured.0;
        repairs = clauses_said sign.Repairs a t.repaired refl w_repaired.0 n_repaired.0
            (each_counted limit.Clauses 64 clause_statement_marks t.repaired ends.repaired) s_repaired.0;
        points = (
          point_said a names points n refl t.first w_points.0 right.each.0 ends.first s_points.0,
          all_map (IsPointSaid (shown a) points) (point_of (meant a) names) t.others
              (all_by_four (λ p. AreHeard true (point p)) (λ p. AllIn IsFalse (point_faults (known a) names false p))
              (λ p. AreEnds (point_marks p)) (λ p. AreEnds (point_sizes (meant a) p))
              (λ p. IsPointSaid (shown a) points (point_of (meant a) names p)) t.others (point_said a names points n refl)
              (all_joined H point t.others w_points.1) right.each.1 (each_counted limit.Points 31 point_marks t.others ends.others)
              s_points.1),
        );
      }
