-- Printed points of a type stand for themselves, and pass no limit.
use Rattle.std.proofs.Common.{◌≡◌, ℕ, true, List, [], ◌∷◌, map, drop, refl, ap, inl, inr, zero, suc, ℤ, pos, negsuc}
use Rattle.std.specs.List.{flat_map}
use Rattle.acc_grammar.proofs.RunReaders.{flag}
use Rattle.acc_base.specs.declared.forms.Lin.{Lin}
use Rattle.acc_base.specs.declared.designs.Point.{Point}
use Rattle.acc_parse_limits.specs.Marks.{ending}
use Rattle.acc_parse_clauses.specs.Scopes.{Scope as Surroundings}
use Rattle.acc_parse_clauses.specs.Forms.{clause_of}
use Rattle.acc_parse.specs.Types.{zero_lin, variant_of, point_of}
use Rattle.acc_parse_clauses.specs.Sizes.{clause_statement_sizes}
use Rattle.acc_parse.specs.Sizes.{step_sizes, variant_sizes, point_sizes}
use Rattle.acc_print.specs.Types.{is_zero}
use Rattle.acc_print.specs.Names.{Scope}
use Rattle.acc_parse_readback.specs.Trees.{clause_tree}
use Rattle.acc_parse_readback.specs.TypeTrees.{step_tree, variant_tree, point_tree, first_point}
use Rattle.acc_parse_readback.specs.Printable.{IsLinSaid, IsClauseSaid}
use Rattle.acc_parse_readback.specs.PrintableTypes.{IsPointSaid, ArePointsSaid}
use Rattle.acc_parse_readback.proofs.ItemNumbers.{trees_named}
use Rattle.acc_parse_readback.proofs.MeantValues.{all_back, lin_back, lin_ends}
use Rattle.acc_parse_readback.proofs.MeantRows.{Suits}
use Rattle.acc_parse_readback.proofs.MeantClauses.{clause_back, clause_ends}
use Rattle.acc_parse_readback.proofs.MeantSteps.{ArePoints, step_back, step_ends}
use Rattle.acc_parse_readback.proofs.OnlyEnds.{AreEnds, one_end, ends_behind, ended, ends_mapped}

abbrev pub name_of_point : Point → List ℕ
name_of_point p = p.name

zero_back : (ts : List (ℕ × ℤ)) (n : ℤ) → is_zero ts n ≡ true → zero_lin ≡ record { coeffs = ts; constant = n }
zero_back [] (pos zero) h = refl
zero_back [] (pos (suc n)) h = absurd cc
zero_back [] (negsuc n) h = absurd cc
zero_back (t ∷ ts) n h = absurd cc

module _ (s : Scope) (m : Surroundings) (f : Suits s m) (none : m.variables.own ≡ []) where
  variant_back : (l : Lin) → IsLinSaid s.names l → variant_of m.variables (variant_tree s.names l) ≡ l
  variant_back l h = elim (flag (is_zero l.coeffs l.constant)) [
    | inl e ↦ rw e (zero_back l.coeffs l.constant e)
    | inr e ↦ rw e (lin_back s.names m.variables f.variables l h)
  ]

  variant_ends : (l : Lin) → IsLinSaid s.names l → AreEnds (variant_sizes m.variables (variant_tree s.names l))
  variant_ends l h = elim (flag (is_zero l.coeffs l.constant)) [
    | inl e ↦ rw e tt
    | inr e ↦ rw e (ended _ (lin_ends s.names m.variables f.variables l h))
  ]

  point_ends : (points : List Point) (p : Point) → IsPointSaid s points p → AreEnds (point_sizes m (point_tree s points p))
  point_ends points p h =
      ends_behind ending _ one_end (ends_behind (variant_sizes m.variables (variant_tree s.names p.variant)) _
      (variant_ends p.variant h.variant)
      (ends_behind (flat_map (clause_statement_sizes m) (map (clause_tree s) p.clauses)) _
      (ends_mapped (IsClauseSaid s) (clause_statement_sizes m) (clause_tree s) p.clauses (clause_ends s m f none) h.clauses)
      (ends_behind (step_sizes m (step_tree s points p.next)) _ (step_ends s m f points p.next h.next)
      (step_ends s m f points p.undo h.undo))))

  pub points_end : (points ps : List Point) → ArePointsSaid s points ps →
      AreEnds (flat_map (point_sizes m) (first_point s points ps ∷ map (point_tree s points) (drop 1 ps)))
  points_end points [] h = absurd h
  points_end points (p ∷ ps) h = ends_behind (point_sizes m (point_tree s points p)) _ (point_ends points p h.0)
      (ends_mapped (IsPointSaid s points) (point_sizes m) (point_tree s points) ps (point_ends points) h.1)

  module _ (points : List Point) (names : List (List ℕ)) (g : ArePoints points names) where
    point_back : (p : Point) → IsPointSaid s points p → point_of m names (point_tree s points p) ≡ p
    point_back p h = λ i. record {
      name = p.name;
      clauses = all_back (IsClauseSaid s) (clause_of m) (clause_tree s) p.clauses (clause_back s m f none) h.clauses i;
      next = step_back s m f points names g p.next h.next i;
      undo = step_back s m f points names g p.undo h.undo i;
      variant = variant_back p.variant h.variant i;
    }

    pub points_back : (ps : List Point) → ArePointsSaid s points ps →
        map (point_of m names) (first_point s points ps ∷ map (point_tree s points) (drop 1 ps)) ≡ ps
    points_back [] h = absurd h
    points_back (p ∷ ps) h = λ i. point_back p h.0 i ∷ all_back (IsPointSaid s points) (point_of m names) (point_tree s points) ps
        point_back h.1 i

pub points_named : (s : Scope) (points ps : List Point) → ArePointsSaid s points ps →
    map (λ p. p.name) (first_point s points ps ∷ map (point_tree s points) (drop 1 ps)) ≡ map name_of_point ps
points_named s points [] h = absurd h
points_named s points (p ∷ ps) h = ap (λ (xs : List (List ℕ)). p.name ∷ xs)
    (trees_named name_of_point (point_tree s points) (λ q. q.name) (λ q. refl) ps)
