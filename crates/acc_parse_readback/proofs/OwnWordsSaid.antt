-- Among the words of a printed design `self` stands within the types alone.
use Rattle.std.proofs.Common.{◌≡◌, ℕ, inl, inr, Bool, true, false, List, [], ◌∷◌, ◌++◌, refl, sym, subst, zero, suc, ℤ}
use Rattle.std.specs.Prelude.{map, drop, if◌then◌else◌, codes}
use Rattle.std.specs.Str.{bytes_eq}
use Rattle.acc_grammar.specs.Readers.{AllIn, joined}
use Rattle.acc_base.specs.declared.tables.Table.{Table}
use Rattle.acc_base.specs.declared.designs.TxType.{TxType}
use Rattle.acc_base.specs.declared.designs.Entry.{Entry}
use Rattle.acc_base.specs.declared.designs.Hint.{Hint}
use Rattle.acc_base.specs.declared.designs.Design.{Design}
use Rattle.acc_lex.specs.declared.words.Sign.{Sign}
use Rattle.acc_lex.specs.declared.words.Sign.TheVariants as sign
use Rattle.acc_lex.specs.declared.words.Word.{Word}
use Rattle.acc_parse_syntax.specs.declared.trees.Variable.TheVariants.{Named, Oneself}
use Rattle.acc_parse_syntax.specs.declared.trees.SideTree.{SideTree}
use Rattle.acc_parse_syntax.specs.declared.trees.SideTree.TheVariants as side_tree
use Rattle.acc_parse_syntax.specs.declared.trees.TypeTree.{TypeTree}
use Rattle.acc_parse_syntax.specs.declared.trees.EntryTree.{EntryTree}
use Rattle.acc_parse_syntax.specs.declared.trees.HintTree.{HintTree}
use Rattle.acc_parse_syntax.specs.Spelling.{just, name, number, variable, sum, clause_statement, side_sign, pair, pairs, entry, hint, table}
use Rattle.acc_parse_syntax.specs.Spelling.{type_words, spelled_design}
use Rattle.acc_parse.specs.OwnWords.{OwnInTypes}
use Rattle.acc_parse.specs.DesignsTexts.{IsSpelling}
use Rattle.acc_parse_syntax.proofs.Following.{is_own}
use Rattle.acc_print.specs.Names.{name_at, outside, with_own}
use Rattle.acc_print.specs.Designs.{scope_at}
use Rattle.acc_parse_readback.specs.Trees.{variable_named, variable_tree, lin_tree, clause_tree}
use Rattle.acc_parse_readback.specs.TypeTrees.{table_tree, side_of_tree, pair_tree, pairs_tree, entry_tree, hint_tree, type_tree, tree_of}
use Rattle.acc_parse_readback.specs.Printable.{IsName, IsVariable}
use Rattle.acc_parse_readback.specs.PrintableTypes.{IsPairSaid, IsEntrySaid, IsHintSaid, IsTypeSaid, IsSaid}
use Rattle.acc_parse_readback.proofs.Mapped.{all_mapped}
use Rattle.acc_parse_readback.proofs.ValueParts.{not_self}
use Rattle.acc_parse_readback.proofs.OtherWords.{is_behind, Without, without_both, without_either, without_each, own_behind, none_own, own_within}
use Rattle.acc_parse_readback.proofs.OtherValues.{Spares, AreOther, other, names_other, sum_other, further_other}
use Rattle.acc_parse_readback.proofs.OtherClauses.{clauses_other}
use Rattle.acc_parse_readback.proofs.OtherTypes.{type_other}

-- ---- `self`, and `entry` and `hint`

own_spares : Spares is_own
own_spares sign.Oneself h = absurd cc
own_spares _ h = refl

behind_spares : Spares is_behind
behind_spares sign.Entry h = absurd cc
behind_spares sign.Hint h = absurd cc
behind_spares _ h = refl

by_flag : (b : Bool) (x : List ℕ) → Without is_behind (variable (if b then Oneself else Named x))
by_flag true x = (refl, tt)
by_flag false x = (tt, tt)

-- no variable is `entry` or `hint`
every_other : (names : List (List ℕ)) → AreOther is_behind names
every_other names n h = by_flag (bytes_eq (name_at names n) (codes "self")) (name_at names n)

-- a name isn't `self`
name_other : (x : List ℕ) → IsName x → Without is_own (variable (variable_named x))
name_other x h = subst (λ (b : Bool). Without is_own (variable (if b then Oneself else Named x))) (sym (not_self x h.1)) (tt, tt)

-- a variable that is one of names is a name
all_named : (names : List (List ℕ)) → AllIn IsName names → (n : ℕ) → IsVariable (name_at names n) → IsName (name_at names n)
all_named names h n (inl g) = g
all_named [] h n (inr e) = absurd cc
all_named (x ∷ xs) h zero (inr e) = h.0
all_named (x ∷ xs) h (suc n) (inr e) = all_named xs h.1 n (inr e)

named_other : (names : List (List ℕ)) → AllIn IsName names → AreOther is_own names
named_other names h n g = name_other (name_at names n) (all_named names h n g)

-- ---- the parts of a design

module _ (bad : Sign → Bool) (spares : Spares bad) where
  table_other : (t : Table) → Without bad (table (table_tree t))
  table_other t =
      without_both bad _ (name t.name ++ (number t.width ++ (joined name t.cols ++ just sign.End)))
      (without_either bad t.own (just sign.Private) (just sign.Table) (other bad spares sign.Private refl)
      (other bad spares sign.Table refl))
      (tt, (tt, without_both bad (joined name t.cols) (just sign.End) (names_other bad spares t.cols) (other bad spares sign.End refl)))

  tables_other : (ts : List Table) → Without bad (joined table (map table_tree ts))
  tables_other [] = tt
  tables_other (t ∷ ts) = without_both bad (table (table_tree t)) (joined table (map table_tree ts)) (table_other t) (tables_other ts)

side_other : (s : SideTree) → is_own (side_sign s) ≡ false
side_other side_tree.Next = refl
side_other side_tree.Undo = refl

pair_other : (held step : List (List ℕ)) (p : ℕ × ℕ) → IsPairSaid held step p → Without is_own (pair (pair_tree held step p))
pair_other held step p h =
    without_both is_own (variable (variable_tree held p.0)) (just sign.Equal ++ variable (variable_tree step p.1))
    (name_other (name_at held p.0) h.0) (refl, name_other (name_at step p.1) h.1)

pairs_other : (held step : List (List ℕ)) (ps : List (ℕ × ℕ)) → AllIn (IsPairSaid held step) ps →
    Without is_own (pairs (pairs_tree held step ps))
pairs_other held step [] h = tt
pairs_other held step (p ∷ ps) h = (
  refl,
  without_both is_own (pair (pair_tree held step p)) _ (pair_other held step p h.0)
      (further_other is_own own_spares (IsPairSaid held step) pair (pair_tree held step) (pair_other held step) ps h.1),
)

-- no `self` in an entry
entry_other : (d : Design) (e : Entry) → IsEntrySaid d e → Without is_own (entry (entry_tree d e))
entry_other d e h =
    let held = (scope_at d e.held).names in
    let step = (scope_at d e.step).names in (
      refl,
      (
        tt,
        (
          refl,
          (
            tt,
            (
              refl,
              (
                tt,
                (
                  refl,
                  (
                    tt,
                    (
                      side_other (side_of_tree e.side),
                      without_both is_own (pairs (pairs_tree held step e.pairs)) (just sign.End) (pairs_other held step e.pairs h.pairs) (
                        refl,
                        tt,
                      ),
                    ),
                  ),
                ),
              ),
            ),
          ),
        ),
      ),
    )

terms_other : (names : List (List ℕ)) (ts : List (ℕ × ℤ)) → AllIn (λ (t : ℕ × ℤ). IsName (name_at names t.0)) ts →
    AllIn (λ (t : ℕ × ℤ). Without is_own (variable (variable_tree names t.0))) ts
terms_other names [] h = tt
terms_other names (t ∷ ts) h = (name_other (name_at names t.0) h.0, terms_other names ts h.1)

-- no `self` in a hint
hint_other : (d : Design) (h : Hint) → IsHintSaid d h → Without is_own (hint (hint_tree d h))
hint_other d h said =
    let names = (scope_at d h.at).names in (
      refl,
      (
        tt,
        (
          refl,
          (
            tt,
            (
              side_other (side_of_tree h.side),
              without_both is_own (sum (lin_tree names h.lin)) (just sign.End)
                  (sum_other is_own own_spares names h.lin.coeffs h.lin.constant (terms_other names h.lin.coeffs said.named)) (refl, tt),
            ),
          ),
        ),
      ),
    )

-- ---- the whole

-- the types, and what has no `self` behind them
types_own : (tables : List Table) (ts : List TxType) (vs : List Word) → AllIn (IsTypeSaid tables) ts → Without is_own vs →
    OwnInTypes (joined type_words (map (type_tree tables) ts) ++ vs)
types_own tables [] vs h own = none_own vs own
types_own tables (t ∷ ts) vs h own =
    let types : Without is_behind (joined type_words (map (type_tree tables) (t ∷ ts))) =
    without_each is_behind type_words (map (type_tree tables) (t ∷ ts))
    (all_mapped (IsTypeSaid tables) (λ (u : TypeTree). Without is_behind (type_words u)) (type_tree tables)
    (type_other is_behind behind_spares every_other tables) (t ∷ ts) h) in
    own_within (drop 1 (joined type_words (map (type_tree tables) (t ∷ ts)))) vs types.1 own

tree_owns : (d : Design) → IsSaid d → OwnInTypes (spelled_design (tree_of d))
tree_owns d h =
    let s = outside d.tables in
    own_behind (joined table (map table_tree d.tables)) _ (tables_other is_own own_spares d.tables)
    (tables_other is_behind behind_spares d.tables)
    (own_behind (joined (clause_statement sign.Always) (map (clause_tree s) d.always)) _
    (clauses_other is_own own_spares sign.Always refl s (λ c g. named_other c.vars g.variables) d.always h.always)
    (clauses_other is_behind behind_spares sign.Always refl s (λ c g. every_other (with_own s c.vars).names) d.always h.always)
    (types_own d.tables d.types (joined entry (map (entry_tree d) d.entries) ++ joined hint (map (hint_tree d) d.hints)) h.types
    (without_both is_own (joined entry (map (entry_tree d) d.entries)) (joined hint (map (hint_tree d) d.hints))
    (without_each is_own entry (map (entry_tree d) d.entries)
    (all_mapped (IsEntrySaid d) (λ (t : EntryTree). Without is_own (entry t)) (entry_tree d) (entry_other d) d.entries h.entries))
    (without_each is_own hint (map (hint_tree d) d.hints)
    (all_mapped (IsHintSaid d) (λ (t : HintTree). Without is_own (hint t)) (hint_tree d) (hint_other d) d.hints h.hints)))))

-- the words of a printed design spell its tree, with `self` within types alone
pub tree_is_spelled : (d : Design) → IsSaid d → IsSpelling (spelled_design (tree_of d)) (tree_of d)
tree_is_spelled d h = record { spelled = refl; own = tree_owns d h }
