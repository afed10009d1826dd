-- Words that printed types don't have, where no variable has them.
use Rattle.std.proofs.Common.{◌≡◌, ℕ, Bool, true, false, List, [], ◌∷◌, ◌++◌, Some, None, refl, take, drop}
use Rattle.std.specs.Prelude.{map, if◌then◌else◌, slice_get, unsigned_abs}
use Rattle.acc_grammar.specs.Readers.{AllIn, joined}
use Rattle.acc_base.specs.Lines.{point_name}
use Rattle.acc_base.specs.declared.forms.Lin.{Lin}
use Rattle.acc_base.specs.declared.tables.Table.{Table}
use Rattle.acc_base.specs.declared.steps.Read.{Read}
use Rattle.acc_base.specs.declared.steps.Read.TheVariants as read
use Rattle.acc_base.specs.declared.steps.Action.{Action}
use Rattle.acc_base.specs.declared.steps.Action.TheVariants as action
use Rattle.acc_base.specs.declared.steps.Target.{Target}
use Rattle.acc_base.specs.declared.steps.Target.TheVariants as target
use Rattle.acc_base.specs.declared.steps.Path.{Path}
use Rattle.acc_base.specs.declared.steps.Step.{Step}
use Rattle.acc_base.specs.declared.designs.Point.{Point}
use Rattle.acc_base.specs.declared.designs.TxType.{TxType}
use Rattle.acc_lex.specs.declared.words.Sign.{Sign}
use Rattle.acc_lex.specs.declared.words.Sign.TheVariants as sign
use Rattle.acc_lex.specs.declared.words.Word.{Word}
use Rattle.acc_parse_syntax.specs.declared.trees.Sum.{Sum}
use Rattle.acc_parse_syntax.specs.declared.trees.ReadTree.{ReadTree}
use Rattle.acc_parse_syntax.specs.declared.trees.ActionTree.{ActionTree}
use Rattle.acc_parse_syntax.specs.declared.trees.PathTree.{PathTree}
use Rattle.acc_parse_syntax.specs.declared.trees.PointTree.{PointTree}
use Rattle.acc_parse_syntax.specs.Spelling.{just, name, number, variable, sum, place, cell, guard, values, clause_statement, read_statement}
use Rattle.acc_parse_syntax.specs.Spelling.{action_statement, target_statement, names_statement, variant_statement, path, side, point, limit}
use Rattle.acc_parse_syntax.specs.Spelling.{type_words}
use Rattle.acc_print.specs.Names.{Scope, name_at, within, with_own}
use Rattle.acc_print.specs.Types.{is_zero}
use Rattle.acc_parse_readback.specs.Trees.{variable_tree, lin_tree, place_tree, cell_tree, guard_tree, names_tree, clause_tree}
use Rattle.acc_parse_readback.specs.TypeTrees.{read_statement_tree, values_tree, action_statement_tree, target_statement_tree, path_tree}
use Rattle.acc_parse_readback.specs.TypeTrees.{first_path, step_tree, variant_tree, point_tree, first_point, type_tree}
use Rattle.acc_parse_readback.specs.Printable.{IsVariable, IsLinSaid, IsCellSaid}
use Rattle.acc_parse_readback.specs.PrintableTypes.{IsReadSaid, IsActionSaid, IsTargetSaid, IsPathSaid, ArePathsSaid, IsStepSaid, IsPointSaid}
use Rattle.acc_parse_readback.specs.PrintableTypes.{ArePointsSaid, IsTypeSaid}
use Rattle.acc_parse_readback.proofs.Mapped.{all_mapped}
use Rattle.acc_parse_readback.proofs.OtherWords.{Without, without_both, without_each}
use Rattle.acc_parse_readback.proofs.OtherValues.{is_placed, Spares, AreOther, other, names_other, lin_other, sums_other, guard_other, row_other}
use Rattle.acc_parse_readback.proofs.OtherValues.{cell_other}
use Rattle.acc_parse_readback.proofs.OtherClauses.{clauses_other}

module _ (bad : Sign → Bool) (spares : Spares bad) (every : (names : List (List ℕ)) → AreOther bad names) where
  -- a fixed word, words, and the end of their statement
  statement_other : (k : Sign) → is_placed k ≡ false → (ws : List Word) → Without bad ws → Without bad (just k ++ (ws ++ just sign.End))
  statement_other k kept ws h = without_both bad (just k) (ws ++ just sign.End) (other bad spares k kept)
      (without_both bad ws (just sign.End) h (other bad spares sign.End refl))

  -- ---- the statements of a step

  module _ (s : Scope) where
    assigned_other : (k : Sign) → is_placed k ≡ false → (x : ℕ) → IsVariable (name_at s.names x) → (ws : List Word) → Without bad ws →
        Without bad (just k ++ (variable (variable_tree s.names x) ++ (just sign.Equal ++ (ws ++ just sign.End))))
    assigned_other k kept x h ws g = (
      spares k kept,
      (without_both bad (variable (variable_tree s.names x)) _ (every s.names x h)
          (statement_other sign.Equal refl ws g)),
    )

    read_other : (r : Read) → IsReadSaid s r → Without bad (read_statement (read_statement_tree s r))
    read_other (read.Let x l) h = assigned_other sign.Let refl x h.0 (sum (lin_tree s.names l))
        (lin_other bad spares s.names (every s.names) l h.1)
    read_other (read.Col x table key column) h = assigned_other sign.Get refl x h.0 (cell (cell_tree s table key column))
        (cell_other bad spares s (every s.names) table key column h.1)
    read_other (read.Has x table key) h = assigned_other sign.Has refl x h.0 (place (place_tree s table key))
        (row_other bad spares s (every s.names) table key h.1)
    read_other (read.Count x table key) h = assigned_other sign.Count refl x h.0 (place (place_tree s table key))
        (row_other bad spares s (every s.names) table key h.1)
    read_other (read.Sum x table key column) h = assigned_other sign.Sum refl x h.0 (cell (cell_tree s table key column))
        (cell_other bad spares s (every s.names) table key column h.1)
    read_other (read.Least x table key) h = assigned_other sign.Least refl x h.0 (place (place_tree s table key))
        (row_other bad spares s (every s.names) table key h.1)
    read_other (read.Greatest x table key) h = assigned_other sign.Greatest refl x h.0 (place (place_tree s table key))
        (row_other bad spares s (every s.names) table key h.1)
    read_other (read.Take x) h = statement_other sign.Take refl (variable (variable_tree s.names x)) (every s.names x h)
    read_other (read.Mul x a b) h = (
      spares sign.Mul refl,
      (without_both bad (variable (variable_tree s.names x)) _ (every s.names x h.0) (
        spares sign.Equal refl,
        (without_both bad (variable (variable_tree s.names a)) _ (every s.names a h.1)
            (without_both bad (variable (variable_tree s.names b)) (just sign.End) (every s.names b h.2) (other bad spares sign.End refl))),
      )),
    )
    read_other (read.Div x a n) h = (
      spares sign.Div refl,
      (without_both bad (variable (variable_tree s.names x)) _ (every s.names x h.0) (
        spares sign.Equal refl,
        (without_both bad (variable (variable_tree s.names a)) (number (unsigned_abs n) ++ just sign.End) (every s.names a h.1) (
          tt,
          other bad spares sign.End refl,
        )),
      )),
    )

    values_other : (ls : List Lin) → AllIn (IsLinSaid s.names) ls → Without bad (values (values_tree s.names ls))
    values_other [] h = tt
    values_other (l ∷ ls) h = sums_other bad spares s.names (every s.names) l ls h

    cell_then : (table : ℕ) (key : List Lin) (column : ℕ) (l : Lin) → IsCellSaid s table key column → IsLinSaid s.names l →
        Without bad (cell (cell_tree s table key column) ++ (sum (lin_tree s.names l) ++ just sign.End))
    cell_then table key column l h g =
        without_both bad (cell (cell_tree s table key column)) _ (cell_other bad spares s (every s.names) table key column h)
        (without_both bad (sum (lin_tree s.names l)) (just sign.End) (lin_other bad spares s.names (every s.names) l g)
        (other bad spares sign.End refl))

    action_other : (a : Action) → IsActionSaid s a → Without bad (action_statement (action_statement_tree s a))
    action_other (action.Put table key vs) h = (
      spares sign.Put refl,
      (without_both bad (place (place_tree s table key)) _ (row_other bad spares s (every s.names) table key h.0)
          (without_both bad (values (values_tree s.names vs)) (just sign.End) (values_other vs h.1) (other bad spares sign.End refl))),
    )
    action_other (action.Del table key) h = statement_other sign.Del refl (place (place_tree s table key))
        (row_other bad spares s (every s.names) table key h)
    action_other (action.Set table key column l) h =
        (spares sign.Set refl, (cell_then table key column l h.0 h.1))
    action_other (action.Add table key column l) h =
        (spares sign.Add refl, (cell_then table key column l h.0 h.1))

  target_other : (points : List Point) (t : Target) → IsTargetSaid points t →
      Without bad (target_statement (target_statement_tree points t))
  target_other points (target.Point n) h = statement_other sign.Goto refl (name (point_name (slice_get points n))) (tt, tt)
  target_other points target.Commit h = statement_other sign.Commit refl [] tt
  target_other points target.Undone h = statement_other sign.Undone refl [] tt
  target_other points (target.Refuse n) h = statement_other sign.Refuse refl (number n) (tt, tt)

  -- ---- paths and steps

  module _ (s : Scope) (points : List Point) where
    path_other : (p : Path) → IsPathSaid s points p → Without bad (path (path_tree s points p))
    path_other p h = (
      spares sign.Path refl,
      (without_both bad (guard (guard_tree s.names p.guard)) _ (guard_other bad spares s.names (every s.names) p.guard h.guard) (
        spares sign.End refl,
        (without_both bad (joined action_statement (map (action_statement_tree s) p.actions))
            (target_statement (target_statement_tree points p.target))
            (without_each bad action_statement (map (action_statement_tree s) p.actions)
            (all_mapped (IsActionSaid s) (λ (t : ActionTree). Without bad (action_statement t)) (action_statement_tree s) (action_other s)
            p.actions h.actions))
            (target_other points p.target h.target)),
      )),
    )

    paths_other : (ps : List Path) → ArePathsSaid s points ps →
        Without bad (path (first_path s points ps) ++ joined path (map (path_tree s points) (drop 1 ps)))
    paths_other [] h = absurd h
    paths_other (p ∷ ps) h =
        without_both bad (path (path_tree s points p)) _ (path_other p h.0)
        (without_each bad path (map (path_tree s points) ps)
        (all_mapped (IsPathSaid s points) (λ (t : PathTree). Without bad (path t)) (path_tree s points) path_other ps h.1))

    side_other : (k : Sign) → is_placed k ≡ false → (st : Step) → IsStepSaid s points st → Without bad (side k (step_tree s points st))
    side_other k kept st h = (
      spares k kept,
      (
        spares sign.End refl,
        (without_both bad (joined read_statement (map (read_statement_tree s) st.reads)) _
            (without_each bad read_statement (map (read_statement_tree s) st.reads)
            (all_mapped (IsReadSaid s) (λ (t : ReadTree). Without bad (read_statement t)) (read_statement_tree s) (read_other s) st.reads
            h.reads))
            (paths_other st.paths h.paths)),
      ),
    )

    -- ---- points

    by_zero : (b : Bool) (v : Sum) → Without bad (sum v) → Without bad (variant_statement (if b then None else Some v))
    by_zero true v h = tt
    by_zero false v h = statement_other sign.Variant refl (sum v) h

    point_other : (p : Point) → IsPointSaid s points p → Without bad (point (point_tree s points p))
    point_other p h = (
      spares sign.Point refl,
      (
        tt,
        without_both bad (just sign.End) _ (other bad spares sign.End refl)
            (without_both bad (variant_statement (variant_tree s.names p.variant)) _
            (by_zero (is_zero p.variant.coeffs p.variant.constant) (lin_tree s.names p.variant)
            (lin_other bad spares s.names (every s.names) p.variant h.variant))
            (without_both bad (joined (clause_statement sign.Holds) (map (clause_tree s) p.clauses)) _
            (clauses_other bad spares sign.Holds refl s (λ c g. every (with_own s c.vars).names) p.clauses h.clauses)
            (without_both bad (side sign.Next (step_tree s points p.next)) (side sign.Undo (step_tree s points p.undo))
            (side_other sign.Next refl p.next h.next) (side_other sign.Undo refl p.undo h.undo)))),
      ),
    )

    points_other : (ps : List Point) → ArePointsSaid s points ps →
        Without bad (point (first_point s points ps) ++ joined point (map (point_tree s points) (drop 1 ps)))
    points_other [] h = absurd h
    points_other (p ∷ ps) h =
        without_both bad (point (point_tree s points p)) _ (point_other p h.0)
        (without_each bad point (map (point_tree s points) ps)
        (all_mapped (IsPointSaid s points) (λ (t : PointTree). Without bad (point t)) (point_tree s points) point_other ps h.1))

  -- ---- types

  names_line_other : (k : Sign) → is_placed k ≡ false → (xs : List (List ℕ)) → Without bad (names_statement k (names_tree xs))
  names_line_other k kept [] = tt
  names_line_other k kept (x ∷ xs) = statement_other k kept (joined name (x ∷ xs)) (names_other bad spares (x ∷ xs))

  pub type_other : (tables : List Table) (t : TxType) → IsTypeSaid tables t → Without bad (type_words (type_tree tables t))
  type_other tables t h =
      let s = within tables t in (
        spares sign.Type refl,
        (
          tt,
          without_both bad (joined name (take t.params t.locals)) _ (names_other bad spares (take t.params t.locals)) (
            spares sign.End refl,
            (without_both bad (limit t.limit) _ (statement_other sign.Limit refl (number t.limit) (tt, tt))
                (without_both bad (names_statement sign.Returns (names_tree (map (name_at t.locals) t.returns))) _
                (names_line_other sign.Returns refl (map (name_at t.locals) t.returns))
                (without_both bad (names_statement sign.Local (names_tree (drop t.params t.locals))) _
                (names_line_other sign.Local refl (drop t.params t.locals))
                (without_both bad (joined (clause_statement sign.Ensures) (map (clause_tree s) t.posts)) _
                (clauses_other bad spares sign.Ensures refl s (λ c g. every (with_own s c.vars).names) t.posts h.posts)
                (without_both bad (joined (clause_statement sign.Repairs) (map (clause_tree s) t.repairs)) _
                (clauses_other bad spares sign.Repairs refl s (λ c g. every (with_own s c.vars).names) t.repairs h.repairs)
                (points_other s t.points t.points h.points)))))),
          ),
        ),
      )
