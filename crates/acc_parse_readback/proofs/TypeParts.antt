-- Printed steps, points and types spell their trees.
use Rattle.std.proofs.Common.{ℕ, ◌^◌, ◌<◌, Bool, true, false, List, [], ◌∷◌, ◌++◌, Some, None, refl, subst, append_assoc, arith, take, drop}
use Rattle.std.specs.Prelude.{map, if◌then◌else◌, codes}
use Rattle.std.specs.List.{flat_map}
use Rattle.std.specs.Fmt.{decimal}
use Rattle.acc_grammar.specs.Readers.{AllIn, joined}
use Rattle.acc_base.specs.Lines.{line}
use Rattle.acc_base.specs.declared.forms.Lin.{Lin}
use Rattle.acc_base.specs.declared.forms.LinRel.{LinRel}
use Rattle.acc_base.specs.declared.tables.Table.{Table}
use Rattle.acc_base.specs.declared.steps.Path.{Path}
use Rattle.acc_base.specs.declared.steps.Step.{Step}
use Rattle.acc_base.specs.declared.designs.Point.{Point}
use Rattle.acc_base.specs.declared.designs.TxType.{TxType}
use Rattle.acc_lex.specs.declared.words.Word.{Word}
use Rattle.acc_lex.specs.declared.words.Sign.{Sign}
use Rattle.acc_lex.specs.declared.words.Sign.TheVariants as sign
use Rattle.acc_lex.specs.Keywords.{keyword_of}
use Rattle.acc_parse_syntax.specs.Spelling.{just, name, number, sum, guard, clause_statement, read_statement, action_statement, target_statement}
use Rattle.acc_parse_syntax.specs.Spelling.{path, step, side, variant_statement, point, limit, names_statement, type_words}
use Rattle.acc_print.specs.Lists.{spaced, listed}
use Rattle.acc_print.specs.Names.{Scope, name_at, within}
use Rattle.acc_print.specs.Values.{lin_text, lin_rel_text}
use Rattle.acc_print.specs.Clauses.{clause_line}
use Rattle.acc_print.specs.Steps.{read_line, action_line, target_text, path_lines, step_lines}
use Rattle.acc_print.specs.Types.{is_zero, variant_lines, sides_lines, point_lines, names_lines, head_lines, type_lines}
use Rattle.acc_parse_readback.specs.Trees.{lin_tree, guard_tree, names_tree, clause_tree}
use Rattle.acc_parse_readback.specs.TypeTrees.{read_statement_tree, action_statement_tree, target_statement_tree, path_tree, first_path}
use Rattle.acc_parse_readback.specs.TypeTrees.{step_tree, variant_tree, point_tree, first_point, type_tree}
use Rattle.acc_parse_readback.specs.Printable.{IsName, IsLinSaid, IsClauseSaid}
use Rattle.acc_parse_readback.specs.PrintableTypes.{IsCount, IsReadSaid, IsActionSaid, IsPathSaid, ArePathsSaid, IsStepSaid, IsPointSaid}
use Rattle.acc_parse_readback.specs.PrintableTypes.{ArePointsSaid, IsTypeSaid}
use Rattle.acc_parse_readback.proofs.Rests.{IsApart, Part, parts}
use Rattle.acc_parse_readback.proofs.Tokens.{keyword, named, numbered}
use Rattle.acc_parse_readback.proofs.ValueParts.{lin_part, guard_part}
use Rattle.acc_parse_readback.proofs.ClauseParts.{word_then, names_part, names_apart}
use Rattle.acc_parse_readback.proofs.StatementParts.{clause_lines, read_lines, action_lines, target_lines}
use Rattle.acc_parse_readback.proofs.Lines.{Lines, no_lines, more_lines, one_line, lines_mapped}

-- ---- steps

guard_apart : (names : List (List ℕ)) (rs : List LinRel) → IsApart (listed (lin_rel_text names) (codes " ") rs)
guard_apart names [] = refl
guard_apart names (r ∷ rs) = refl

pub path_lines_are : (s : Scope) (points : List Point) (p : Path) → IsPathSaid s points p →
    Lines (path_lines s points p) (path (path_tree s points p))
unfolding keyword_of
path_lines_are s points p h =
    let text = codes "path" ++ listed (lin_rel_text s.names) (codes " ") p.guard in
    let actions = joined action_statement (map (action_statement_tree s) p.actions) in
    let target = target_statement (target_statement_tree points p.target) in
    let said = parts (codes "path") (listed (lin_rel_text s.names) (codes " ") p.guard) (just sign.Path)
    (guard (guard_tree s.names p.guard)) (keyword (codes "path") sign.Path refl refl) (guard_apart s.names p.guard)
    (guard_part s.names p.guard h.guard) in
    subst (λ (ws : List Word). Lines (path_lines s points p) (just sign.Path ++ ws))
    (append_assoc (guard (guard_tree s.names p.guard)) (just sign.End) (actions ++ target))
    (more_lines (line text) (flat_map (action_line s) p.actions ++ line (target_text points p.target))
    ((just sign.Path ++ guard (guard_tree s.names p.guard)) ++ just sign.End) (actions ++ target)
    (one_line text (just sign.Path ++ guard (guard_tree s.names p.guard))
    ((just sign.Path ++ guard (guard_tree s.names p.guard)) ++ just sign.End) said refl refl)
    (more_lines (flat_map (action_line s) p.actions) (line (target_text points p.target)) actions target
    (lines_mapped (IsActionSaid s) (action_line s) action_statement (action_statement_tree s) (action_lines s) p.actions h.actions)
    (target_lines points p.target h.target)))

paths_are : (s : Scope) (points : List Point) (ps : List Path) → ArePathsSaid s points ps →
    Lines (flat_map (path_lines s points) ps) (path (first_path s points ps) ++ joined path (map (path_tree s points) (drop 1 ps)))
paths_are s points [] h = absurd h
paths_are s points (p ∷ ps) h = more_lines (path_lines s points p) (flat_map (path_lines s points) ps) (path (path_tree s points p))
    (joined path (map (path_tree s points) ps)) (path_lines_are s points p h.0)
    (lines_mapped (IsPathSaid s points) (path_lines s points) path (path_tree s points) (path_lines_are s points) ps h.1)

pub step_lines_are : (s : Scope) (points : List Point) (st : Step) → IsStepSaid s points st →
    Lines (step_lines s points st) (step (step_tree s points st))
step_lines_are s points st h =
    more_lines (flat_map (read_line s) st.reads) (flat_map (path_lines s points) st.paths)
    (joined read_statement (map (read_statement_tree s) st.reads))
    (path (first_path s points st.paths) ++ joined path (map (path_tree s points) (drop 1 st.paths)))
    (lines_mapped (IsReadSaid s) (read_line s) read_statement (read_statement_tree s) (read_lines s) st.reads h.reads)
    (paths_are s points st.paths h.paths)

-- ---- points

variant_by : (b : Bool) (names : List (List ℕ)) (l : Lin) → IsLinSaid names l →
    Lines (if b then [] else line (codes "variant " ++ lin_text names l)) (variant_statement (if b then None else Some (lin_tree names l)))
unfolding keyword_of
variant_by true names l h = no_lines
variant_by false names l h = one_line (codes "variant " ++ lin_text names l) (just sign.Variant ++ sum (lin_tree names l))
    (just sign.Variant ++ (sum (lin_tree names l) ++ just sign.End))
    (word_then (codes "variant") sign.Variant refl refl (lin_text names l) (sum (lin_tree names l)) (lin_part names l h)) refl refl

pub sides_are : (s : Scope) (points : List Point) (p : Point) → IsPointSaid s points p →
    Lines (sides_lines s points p) (side sign.Next (step_tree s points p.next) ++ side sign.Undo (step_tree s points p.undo))
unfolding keyword_of
sides_are s points p h =
    let next = step (step_tree s points p.next) in
    let undo = step (step_tree s points p.undo) in
    more_lines (line (codes "next")) (step_lines s points p.next ++ (line (codes "undo") ++ step_lines s points p.undo))
    (just sign.Next ++ just sign.End) (next ++ (just sign.Undo ++ (just sign.End ++ undo)))
    (one_line (codes "next") (just sign.Next) (just sign.Next ++ just sign.End) (keyword (codes "next") sign.Next refl refl) refl refl)
    (more_lines (step_lines s points p.next) (line (codes "undo") ++ step_lines s points p.undo) next
    (just sign.Undo ++ (just sign.End ++ undo)) (step_lines_are s points p.next h.next)
    (more_lines (line (codes "undo")) (step_lines s points p.undo) (just sign.Undo ++ just sign.End) undo
    (one_line (codes "undo") (just sign.Undo) (just sign.Undo ++ just sign.End) (keyword (codes "undo") sign.Undo refl refl) refl refl)
    (step_lines_are s points p.undo h.undo)))

pub point_lines_are : (s : Scope) (points : List Point) (p : Point) → IsPointSaid s points p →
    Lines (point_lines s points p) (point (point_tree s points p))
unfolding keyword_of
point_lines_are s points p h =
    let variant = variant_statement (variant_tree s.names p.variant) in
    let holds = joined (clause_statement sign.Holds) (map (clause_tree s) p.clauses) in
    let sides = side sign.Next (step_tree s points p.next) ++ side sign.Undo (step_tree s points p.undo) in
    more_lines (line (codes "point " ++ p.name)) (variant_lines s.names p.variant ++
    (flat_map (clause_line s (codes "holds ")) p.clauses ++ sides_lines s points p)) (just sign.Point ++ (name p.name ++ just sign.End))
    (variant ++ (holds ++ sides))
    (one_line (codes "point " ++ p.name) (just sign.Point ++ name p.name) (just sign.Point ++ (name p.name ++ just sign.End))
    (word_then (codes "point") sign.Point refl refl p.name (name p.name) (named p.name h.name.0 h.name.1)) refl refl)
    (more_lines (variant_lines s.names p.variant) (flat_map (clause_line s (codes "holds ")) p.clauses ++ sides_lines s points p) variant
    (holds ++ sides)
    (variant_by (is_zero p.variant.coeffs p.variant.constant) s.names p.variant h.variant)
    (more_lines (flat_map (clause_line s (codes "holds ")) p.clauses) (sides_lines s points p) holds sides
    (lines_mapped (IsClauseSaid s) (clause_line s (codes "holds ")) (clause_statement sign.Holds) (clause_tree s)
    (clause_lines (codes "holds") sign.Holds refl refl s) p.clauses h.clauses)
    (sides_are s points p h)))

points_are : (s : Scope) (all : List Point) (ps : List Point) → ArePointsSaid s all ps →
    Lines (flat_map (point_lines s all) ps) (point (first_point s all ps) ++ joined point (map (point_tree s all) (drop 1 ps)))
points_are s all [] h = absurd h
points_are s all (p ∷ ps) h = more_lines (point_lines s all p) (flat_map (point_lines s all) ps) (point (point_tree s all p))
    (joined point (map (point_tree s all) ps)) (point_lines_are s all p h.0)
    (lines_mapped (IsPointSaid s all) (point_lines s all) point (point_tree s all) (point_lines_are s all) ps h.1)

-- ---- types

-- the statement of a word and names, which may be left out
names_are : (w : List ℕ) (k : Sign) → Part w (just k) → (xs : List (List ℕ)) → AllIn IsName xs →
    Lines (names_lines w xs) (names_statement k (names_tree xs))
names_are w k p [] h = no_lines
names_are w k p (x ∷ xs) h = one_line (w ++ flat_map spaced (x ∷ xs)) (just k ++ joined name (x ∷ xs))
    (just k ++ (joined name (x ∷ xs) ++ just sign.End))
    (parts w (flat_map spaced (x ∷ xs)) (just k) (joined name (x ∷ xs)) p refl (names_part (x ∷ xs) h)) refl refl

count_is_written : (n : ℕ) → IsCount n → n < 2 ^ 64
count_is_written n h = omega arith

type_line_is : (t : TxType) → IsName t.name → AllIn IsName (take t.params t.locals) →
    Lines (line (codes "type " ++ (t.name ++ flat_map spaced (take t.params t.locals))))
    (just sign.Type ++ (name t.name ++ (joined name (take t.params t.locals) ++ just sign.End)))
unfolding keyword_of
type_line_is t h g =
    one_line (codes "type " ++ (t.name ++ flat_map spaced (take t.params t.locals)))
    (just sign.Type ++ (name t.name ++ joined name (take t.params t.locals)))
    (just sign.Type ++ (name t.name ++ (joined name (take t.params t.locals) ++ just sign.End)))
    (word_then (codes "type") sign.Type refl refl (t.name ++ flat_map spaced (take t.params t.locals))
    (name t.name ++ joined name (take t.params t.locals))
    (parts t.name (flat_map spaced (take t.params t.locals)) (name t.name) (joined name (take t.params t.locals)) (named t.name h.0 h.1)
    (names_apart (take t.params t.locals)) (names_part (take t.params t.locals) g)))
    refl refl

limit_line_is : (n : ℕ) → IsCount n → Lines (line (codes "limit " ++ decimal n)) (limit n)
unfolding keyword_of
limit_line_is n h = one_line (codes "limit " ++ decimal n) (just sign.Limit ++ number n) (limit n)
    (word_then (codes "limit") sign.Limit refl refl (decimal n) (number n) (numbered n (count_is_written n h))) refl refl

-- the words of what a type begins with
abbrev type_head_words : TxType → List Word
type_head_words t =
    (just sign.Type ++ (name t.name ++ (joined name (take t.params t.locals) ++ just sign.End))) ++ (
    limit t.limit ++ (
    names_statement sign.Returns (names_tree (map (name_at t.locals) t.returns)) ++ names_statement sign.Local
    (names_tree (drop t.params t.locals))))

head_is : (tables : List Table) (t : TxType) → IsTypeSaid tables t → Lines (head_lines t) (type_head_words t)
unfolding keyword_of
head_is tables t h =
    more_lines (line (codes "type " ++ (t.name ++ flat_map spaced (take t.params t.locals)))) _
    (just sign.Type ++ (name t.name ++ (joined name (take t.params t.locals) ++ just sign.End))) _ (type_line_is t h.name h.parameters)
    (more_lines (line (codes "limit " ++ decimal t.limit)) _ (limit t.limit) _ (limit_line_is t.limit h.limit)
    (more_lines (names_lines (codes "returns") (map (name_at t.locals) t.returns)) (names_lines (codes "local") (drop t.params t.locals)) _
    _
    (names_are (codes "returns") sign.Returns (keyword (codes "returns") sign.Returns refl refl) (map (name_at t.locals) t.returns)
    h.returns)
    (names_are (codes "local") sign.Local (keyword (codes "local") sign.Local refl refl) (drop t.params t.locals) h.locals)))

pub type_lines_are : (tables : List Table) (t : TxType) → IsTypeSaid tables t →
    Lines (type_lines tables t) (type_words (type_tree tables t))
unfolding keyword_of
type_lines_are tables t h =
    let s = within tables t in
    let ensured = joined (clause_statement sign.Ensures) (map (clause_tree s) t.posts) in
    let repaired = joined (clause_statement sign.Repairs) (map (clause_tree s) t.repairs) in
    let points = point (first_point s t.points t.points) ++ joined point (map (point_tree s t.points) (drop 1 t.points)) in
    subst (λ (ws : List Word). Lines (type_lines tables t) ws) (simp append_assoc refl)
    (more_lines (head_lines t) (flat_map (clause_line s (codes "ensures ")) t.posts ++
    (flat_map (clause_line s (codes "repairs ")) t.repairs ++ flat_map (point_lines s t.points) t.points)) (type_head_words t)
    (ensured ++ (repaired ++ points)) (head_is tables t h)
    (more_lines (flat_map (clause_line s (codes "ensures ")) t.posts)
    (flat_map (clause_line s (codes "repairs ")) t.repairs ++ flat_map (point_lines s t.points) t.points) ensured (repaired ++ points)
    (lines_mapped (IsClauseSaid s) (clause_line s (codes "ensures ")) (clause_statement sign.Ensures) (clause_tree s)
    (clause_lines (codes "ensures") sign.Ensures refl refl s) t.posts h.posts)
    (more_lines (flat_map (clause_line s (codes "repairs ")) t.repairs) (flat_map (point_lines s t.points) t.points) repaired points
    (lines_mapped (IsClauseSaid s) (clause_line s (codes "repairs ")) (clause_statement sign.Repairs) (clause_tree s)
    (clause_lines (codes "repairs") sign.Repairs refl refl s) t.repairs h.repairs)
    (points_are s t.points t.points h.points))))
