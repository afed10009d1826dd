-- The printed text of a design spells its tree.
use Rattle.std.proofs.Common.{ℕ, ◌^◌, ◌<◌, ◌≤◌, inl, Bool, true, false, List, [], ◌∷◌, ◌++◌, refl, sym, subst, arith}
use Rattle.std.specs.Prelude.{map, if◌then◌else◌, slice_get, codes}
use Rattle.std.specs.List.{flat_map}
use Rattle.std.specs.Fmt.{decimal}
use Rattle.acc_grammar.specs.Readers.{AllIn, joined}
use Rattle.acc_base.specs.Lines.{line, type_name, point_name, at_text}
use Rattle.acc_base.specs.Effects.{point_of}
use Rattle.acc_base.specs.declared.tables.Table.{Table}
use Rattle.acc_base.specs.declared.designs.At.{At}
use Rattle.acc_base.specs.declared.designs.Side.{Side}
use Rattle.acc_base.specs.declared.designs.Side.TheVariants as side
use Rattle.acc_base.specs.declared.designs.Entry.{Entry}
use Rattle.acc_base.specs.declared.designs.Hint.{Hint}
use Rattle.acc_base.specs.declared.designs.Design.{Design}
use Rattle.acc_lex.specs.declared.words.Word.{Word}
use Rattle.acc_lex.specs.declared.words.Sign.TheVariants as sign
use Rattle.acc_lex.specs.Keywords.{keyword_of}
use Rattle.acc_lex.specs.Texts.{IsLexed}
use Rattle.acc_parse_syntax.specs.Spelling.{just, name, number, further as further_words, variable, sum, clause_statement, side_sign}
use Rattle.acc_parse_syntax.specs.Spelling.{point_name as point_name_words, pair, pairs, entry, hint, type_words, table as table_words}
use Rattle.acc_parse_syntax.specs.Spelling.{spelled_design}
use Rattle.acc_print.specs.Lists.{spaced, listed}
use Rattle.acc_print.specs.Names.{name_at, outside}
use Rattle.acc_print.specs.Values.{lin_text}
use Rattle.acc_print.specs.Clauses.{clause_line}
use Rattle.acc_print.specs.Types.{type_lines}
use Rattle.acc_print.specs.Designs.{table_line, side_text, scope_at, pair_text, entry_line, hint_line, printed}
use Rattle.acc_parse_readback.specs.Trees.{variable_tree, lin_tree, clause_tree}
use Rattle.acc_parse_readback.specs.TypeTrees.{table_tree, point_name_tree, side_of_tree, pair_tree, pairs_tree, entry_tree, hint_tree, type_tree}
use Rattle.acc_parse_readback.specs.TypeTrees.{tree_of}
use Rattle.acc_parse_readback.specs.Printable.{IsClauseSaid}
use Rattle.acc_parse_readback.specs.PrintableTypes.{IsTableSaid, IsAtSaid, IsPairSaid, IsEntrySaid, IsHintSaid, IsTypeSaid, IsSaid}
use Rattle.acc_parse_readback.proofs.Rests.{IsApart, Part, parts, fronts, empty, spaced_part}
use Rattle.acc_parse_readback.proofs.Tokens.{keyword, named, numbered, dot, colon, between, equals_between}
use Rattle.acc_parse_readback.proofs.ValueParts.{variable_part, lin_part, joined_map, ArePart, first_listed}
use Rattle.acc_parse_readback.proofs.ClauseParts.{word_then, names_part, names_apart}
use Rattle.acc_parse_readback.proofs.StatementParts.{clause_lines}
use Rattle.acc_parse_readback.proofs.TypeParts.{type_lines_are}
use Rattle.acc_parse_readback.proofs.Lines.{Lines, more_lines, one_line, lines_mapped, lexed}

-- ---- tables

width_is_written : (n : ℕ) → n ≤ 6 → n < 2 ^ 64
width_is_written n h = omega arith

table_by : (b : Bool) (text : List ℕ) (ws : List Word) → Part text ws →
    Lines (line ((if b then codes "private " else codes "table ") ++ text))
    ((if b then just sign.Private else just sign.Table) ++ (ws ++ just sign.End))
unfolding keyword_of
table_by true text ws p = one_line (codes "private " ++ text) (just sign.Private ++ ws) (just sign.Private ++ (ws ++ just sign.End))
    (word_then (codes "private") sign.Private refl refl text ws p) refl refl
table_by false text ws p = one_line (codes "table " ++ text) (just sign.Table ++ ws) (just sign.Table ++ (ws ++ just sign.End))
    (word_then (codes "table") sign.Table refl refl text ws p) refl refl

pub table_lines_are : (t : Table) → IsTableSaid t → Lines (table_line t) (table_words (table_tree t))
table_lines_are t h =
    table_by t.own (t.name ++ (spaced (decimal t.width) ++ flat_map spaced t.cols)) (name t.name ++ (number t.width ++ joined name t.cols))
    (parts t.name (spaced (decimal t.width) ++ flat_map spaced t.cols) (name t.name) (number t.width ++ joined name t.cols)
    (named t.name h.name.0 h.name.1) refl
    (parts (32 ∷ decimal t.width) (flat_map spaced t.cols) (number t.width) (joined name t.cols)
    (spaced_part (decimal t.width) (number t.width) (numbered t.width (width_is_written t.width h.width))) (names_apart t.cols)
    (names_part t.cols h.columns)))

-- ---- entries and hints

at_part : (d : Design) (at : At) → IsAtSaid d at → Part (at_text d at) (point_name_words (point_name_tree d at))
at_part d at h =
    let ty = type_name (slice_get d.types at.ty) in
    let p = point_name (point_of d at.ty at.point) in
    parts ty (codes "." ++ p) (name ty) (just sign.Dot ++ name p) (named ty h.ty.0 h.ty.1) refl
    (fronts (codes ".") p (just sign.Dot) (name p) dot (named p h.point.0 h.point.1))

side_part : (s : Side) → Part (side_text s) (just (side_sign (side_of_tree s)))
unfolding keyword_of
side_part side.Next = spaced_part (codes "next") (just sign.Next) (keyword (codes "next") sign.Next refl refl)
side_part side.Undo = spaced_part (codes "undo") (just sign.Undo) (keyword (codes "undo") sign.Undo refl refl)

side_apart : (s : Side) (text : List ℕ) → IsApart (side_text s ++ text)
side_apart side.Next text = refl
side_apart side.Undo text = refl

pair_part : (held step : List (List ℕ)) (p : ℕ × ℕ) → IsPairSaid held step p → Part (pair_text held step p) (pair (pair_tree held step p))
pair_part held step p h =
    parts (name_at held p.0) (codes " = " ++ name_at step p.1) (variable (variable_tree held p.0))
    (just sign.Equal ++ variable (variable_tree step p.1)) (variable_part (name_at held p.0) (inl h.0)) refl
    (fronts (codes " = ") (name_at step p.1) (just sign.Equal) (variable (variable_tree step p.1)) equals_between
    (variable_part (name_at step p.1) (inl h.1)))

pairs_are : (held step : List (List ℕ)) (ps : List (ℕ × ℕ)) → AllIn (IsPairSaid held step) ps →
    ArePart (pair_text held step) (λ p. pair (pair_tree held step p)) ps
pairs_are held step [] h = tt
pairs_are held step (p ∷ ps) h = (pair_part held step p h.0, pairs_are held step ps h.1)

pairs_part : (held step : List (List ℕ)) (ps : List (ℕ × ℕ)) → AllIn (IsPairSaid held step) ps →
    Part (listed (pair_text held step) (codes " : ") ps) (pairs (pairs_tree held step ps))
pairs_part held step [] h = empty
pairs_part held step (p ∷ ps) h =
    let text = pair_text held step p ++ listed (pair_text held step) (codes ", ") ps in
    fronts (codes " : ") text (just sign.Colon) (pair (pair_tree held step p) ++ joined (further_words pair) (map (pair_tree held step) ps))
    (between (codes ":") (just sign.Colon) colon)
    (subst (λ (ws : List Word). Part text (pair (pair_tree held step p) ++ ws))
    (sym (joined_map (further_words pair) (pair_tree held step) ps))
    (first_listed (pair_text held step) (λ q. pair (pair_tree held step q)) p ps (pairs_are held step (p ∷ ps) h)))

pairs_apart : (held step : List (List ℕ)) (ps : List (ℕ × ℕ)) → IsApart (listed (pair_text held step) (codes " : ") ps)
pairs_apart held step [] = refl
pairs_apart held step (p ∷ ps) = refl

pub entry_lines_are : (d : Design) (e : Entry) → IsEntrySaid d e → Lines (entry_line d e) (entry (entry_tree d e))
unfolding keyword_of
entry_lines_are d e h =
    let held = (scope_at d e.held).names in
    let step = (scope_at d e.step).names in
    let pairs_text = listed (pair_text held step) (codes " : ") e.pairs in
    let pairs_words = pairs (pairs_tree held step e.pairs) in
    let side_words = just (side_sign (side_of_tree e.side)) in
    let by_text = at_text d e.step ++ (side_text e.side ++ pairs_text) in
    let by_words = point_name_words (point_name_tree d e.step) ++ (side_words ++ pairs_words) in
    one_line (codes "entry " ++ (at_text d e.held ++ (codes " by " ++ by_text)))
    (just sign.Entry ++ (point_name_words (point_name_tree d e.held) ++ (just sign.By ++ by_words))) (entry (entry_tree d e))
    (word_then (codes "entry") sign.Entry refl refl (at_text d e.held ++ (codes " by " ++ by_text))
    (point_name_words (point_name_tree d e.held) ++ (just sign.By ++ by_words))
    (parts (at_text d e.held) (codes " by " ++ by_text) (point_name_words (point_name_tree d e.held)) (just sign.By ++ by_words)
    (at_part d e.held h.held) refl
    (spaced_part (codes "by " ++ by_text) (just sign.By ++ by_words) (word_then (codes "by") sign.By refl refl by_text by_words
    (parts (at_text d e.step) (side_text e.side ++ pairs_text) (point_name_words (point_name_tree d e.step)) (side_words ++ pairs_words)
    (at_part d e.step h.step) (side_apart e.side pairs_text)
    (parts (side_text e.side) pairs_text side_words pairs_words (side_part e.side) (pairs_apart held step e.pairs)
    (pairs_part held step e.pairs h.pairs)))))))
    refl refl

pub hint_lines_are : (d : Design) (h : Hint) → IsHintSaid d h → Lines (hint_line d h) (hint (hint_tree d h))
unfolding keyword_of
hint_lines_are d h said =
    let text = lin_text (scope_at d h.at).names h.lin in
    let words = sum (lin_tree (scope_at d h.at).names h.lin) in
    let side_words = just (side_sign (side_of_tree h.side)) in
    one_line (codes "hint " ++ (at_text d h.at ++ (side_text h.side ++ spaced text)))
    (just sign.Hint ++ (point_name_words (point_name_tree d h.at) ++ (side_words ++ words))) (hint (hint_tree d h))
    (word_then (codes "hint") sign.Hint refl refl (at_text d h.at ++ (side_text h.side ++ spaced text))
    (point_name_words (point_name_tree d h.at) ++ (side_words ++ words))
    (parts (at_text d h.at) (side_text h.side ++ spaced text) (point_name_words (point_name_tree d h.at)) (side_words ++ words)
    (at_part d h.at said.at) (side_apart h.side (spaced text))
    (parts (side_text h.side) (spaced text) side_words words (side_part h.side) refl
    (spaced_part text words (lin_part (scope_at d h.at).names h.lin said.value)))))
    refl refl

-- ---- the whole

pub printed_lines : (d : Design) → IsSaid d → Lines (printed d) (spelled_design (tree_of d))
unfolding keyword_of
printed_lines d h =
    more_lines (flat_map table_line d.tables) _ (joined table_words (map table_tree d.tables)) _
    (lines_mapped IsTableSaid table_line table_words table_tree table_lines_are d.tables h.tables)
    (more_lines (flat_map (clause_line (outside d.tables) (codes "always ")) d.always) _
    (joined (clause_statement sign.Always) (map (clause_tree (outside d.tables)) d.always)) _
    (lines_mapped (IsClauseSaid (outside d.tables)) (clause_line (outside d.tables) (codes "always ")) (clause_statement sign.Always)
    (clause_tree (outside d.tables)) (clause_lines (codes "always") sign.Always refl refl (outside d.tables)) d.always h.always)
    (more_lines (flat_map (type_lines d.tables) d.types) _ (joined type_words (map (type_tree d.tables) d.types)) _
    (lines_mapped (IsTypeSaid d.tables) (type_lines d.tables) type_words (type_tree d.tables) (type_lines_are d.tables) d.types h.types)
    (more_lines (flat_map (entry_line d) d.entries) (flat_map (hint_line d) d.hints) (joined entry (map (entry_tree d) d.entries))
    (joined hint (map (hint_tree d) d.hints))
    (lines_mapped (IsEntrySaid d) (entry_line d) entry (entry_tree d) (entry_lines_are d) d.entries h.entries)
    (lines_mapped (IsHintSaid d) (hint_line d) hint (hint_tree d) (hint_lines_are d) d.hints h.hints))))

-- the printed text is words, which spell the tree
pub printed_is_lexed : (d : Design) → IsSaid d → IsLexed (printed d) (spelled_design (tree_of d))
printed_is_lexed d h = lexed (printed d) (spelled_design (tree_of d)) (printed_lines d h)
