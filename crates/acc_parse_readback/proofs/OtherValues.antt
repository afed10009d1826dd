-- Words that printed values, rows and guards don't have, where their variables don't.
use Rattle.std.proofs.Common.{◌≡◌, ℕ, Bool, true, false, List, [], ◌∷◌, ◌++◌, map, refl, zero, suc, ℤ, pos, negsuc}
use Rattle.std.specs.Prelude.{◌==◌, if◌then◌else◌, unsigned_abs, slice_get}
use Rattle.acc_grammar.specs.Readers.{AllIn, joined}
use Rattle.acc_grammar.proofs.Exact.{AllIn-append}
use Rattle.acc_base.specs.declared.forms.Lin.{Lin}
use Rattle.acc_base.specs.declared.forms.LinRel.{LinRel}
use Rattle.acc_lex.specs.declared.words.Sign.{Sign}
use Rattle.acc_lex.specs.declared.words.Sign.TheVariants as sign
use Rattle.acc_lex.specs.declared.words.Word.{Word}
use Rattle.acc_parse_syntax.specs.declared.trees.Variable.{Variable}
use Rattle.acc_parse_syntax.specs.declared.trees.Term.TheVariants.{Plain, Product}
use Rattle.acc_parse_syntax.specs.declared.trees.SignedTerm.{SignedTerm}
use Rattle.acc_parse_syntax.specs.declared.trees.Relation.{Relation}
use Rattle.acc_parse_syntax.specs.declared.trees.Relation.TheVariants as relation
use Rattle.acc_parse_syntax.specs.Spelling.{just, name, number, further, variable, term as term_words, signed_term, sum, sums, place, cell}
use Rattle.acc_parse_syntax.specs.Spelling.{relation_sign, lin_rel, guard}
use Rattle.acc_print.specs.Sums.{is_negative}
use Rattle.acc_print.specs.Names.{Scope, name_at, column_name}
use Rattle.acc_parse_readback.specs.Trees.{variable_tree, term_tree, signed_tree, constant_trees, sum_tree, lin_tree, zero_tree, sums_tree}
use Rattle.acc_parse_readback.specs.Trees.{place_tree, cell_tree, relation_tree, lin_rel_tree, guard_tree}
use Rattle.acc_parse_readback.specs.Printable.{IsVariable, IsTermSaid, IsLinSaid, IsKeySaid, IsRowSaid, IsCellSaid, IsLinRelSaid}
use Rattle.acc_parse_readback.proofs.Mapped.{all_mapped}
use Rattle.acc_parse_readback.proofs.OtherWords.{Without, without_both, without_either, without_each}

-- `self`, `entry` or `hint`
abbrev pub is_placed : Sign → Bool
is_placed sign.Oneself = true
is_placed sign.Entry = true
is_placed sign.Hint = true
is_placed s = false

-- no fixed word but those
abbrev pub Spares : (Sign → Bool) → Type 0
Spares bad = (s : Sign) → is_placed s ≡ false → bad s ≡ false

-- none of the variables
abbrev pub AreOther : (Sign → Bool) → List (List ℕ) → Type 0
AreOther bad names = (n : ℕ) → IsVariable (name_at names n) → Without bad (variable (variable_tree names n))

module _ (bad : Sign → Bool) (spares : Spares bad) where
  pub other : (s : Sign) → is_placed s ≡ false → Without bad (just s)
  other s h = (spares s h, tt)

  pub names_other : (xs : List (List ℕ)) → Without bad (joined name xs)
  names_other [] = tt
  names_other (x ∷ xs) = (tt, names_other xs)

  pub minus_other : (b : Bool) → Without bad (if b then just sign.Minus else [])
  minus_other b = without_either bad b (just sign.Minus) [] (other sign.Minus refl) tt

  pub sign_other : (b : Bool) → Without bad (if b then just sign.Minus else just sign.Plus)
  sign_other b = without_either bad b (just sign.Minus) (just sign.Plus) (other sign.Minus refl) (other sign.Plus refl)

  -- a first item, and further ones
  pub further_other : {X Y : Type 0} (P : X → Type 0) (spell : Y → List Word) (tree : X → Y) →
      ((x : X) → P x → Without bad (spell (tree x))) → (xs : List X) → AllIn P xs → Without bad (joined (further spell) (map tree xs))
  further_other P spell tree each xs h =
      without_each bad (further spell) (map tree xs)
      (all_mapped P (λ y. Without bad (further spell y)) tree
      (λ x g. without_both bad (just sign.Comma) (spell (tree x)) (other sign.Comma refl) (each x g)) xs h)

  pub relation_other : (r : Relation) → Without bad (just (relation_sign r))
  relation_other relation.AtMost = other sign.AtMost refl
  relation_other relation.AtLeast = other sign.AtLeast refl
  relation_other relation.Equal = other sign.Equal refl

-- ---- values and rows

module _ (bad : Sign → Bool) (spares : Spares bad) (names : List (List ℕ)) where
  -- the variable of a term
  abbrev IsTermOther : ℕ × ℤ → Type 0
  IsTermOther t = Without bad (variable (variable_tree names t.0))

  by_one : (b : Bool) (n : ℕ) (x : Variable) → Without bad (variable x) → Without bad (term_words (if b then Plain x else Product n x))
  by_one true n x h = h
  by_one false n x h = (tt, without_both bad (just sign.Times) (variable x) (other bad spares sign.Times refl) h)

  first_other : (t : ℕ × ℤ) → IsTermOther t → Without bad (term_words (term_tree (unsigned_abs t.1) (variable_tree names t.0)))
  first_other t h = by_one (unsigned_abs t.1 == 1) (unsigned_abs t.1) (variable_tree names t.0) h

  term_other : (t : ℕ × ℤ) → IsTermOther t → Without bad (signed_term (signed_tree names t))
  term_other t h = without_both bad _ (term_words (term_tree (unsigned_abs t.1) (variable_tree names t.0)))
      (sign_other bad spares (is_negative t.1)) (first_other t h)

  constant_other : (n : ℤ) → AllIn (λ (t : SignedTerm). Without bad (signed_term t)) (constant_trees n)
  constant_other (pos zero) = tt
  constant_other (pos (suc n)) = (without_both bad (just sign.Plus) (number (suc n)) (other bad spares sign.Plus refl) (tt, tt), tt)
  constant_other (negsuc n) = (without_both bad (just sign.Minus) (number (suc n)) (other bad spares sign.Minus refl) (tt, tt), tt)

  pub sum_other : (ts : List (ℕ × ℤ)) (n : ℤ) → AllIn (λ (t : ℕ × ℤ). Without bad (variable (variable_tree names t.0))) ts →
      Without bad (sum (sum_tree names ts n))
  sum_other [] n h = without_both bad _ (number (unsigned_abs n) ++ []) (minus_other bad spares (is_negative n)) (tt, tt)
  sum_other (t ∷ ts) n h =
      without_both bad _ _ (minus_other bad spares (is_negative t.1))
      (without_both bad (term_words (term_tree (unsigned_abs t.1) (variable_tree names t.0))) _ (first_other t h.0)
      (without_each bad signed_term (map (signed_tree names) ts ++ constant_trees n)
      (AllIn-append (λ (u : SignedTerm). Without bad (signed_term u)) (map (signed_tree names) ts) (constant_trees n)
      (all_mapped IsTermOther (λ (u : SignedTerm). Without bad (signed_term u)) (signed_tree names) term_other ts h.1) (constant_other n))))

module _ (bad : Sign → Bool) (spares : Spares bad) (names : List (List ℕ)) (variables : AreOther bad names) where
  terms_other : (ts : List (ℕ × ℤ)) → AllIn (IsTermSaid names) ts →
      AllIn (λ (t : ℕ × ℤ). Without bad (variable (variable_tree names t.0))) ts
  terms_other [] h = tt
  terms_other (t ∷ ts) h = (variables t.0 h.0.0, terms_other ts h.1)

  pub lin_other : (l : Lin) → IsLinSaid names l → Without bad (sum (lin_tree names l))
  lin_other l h = sum_other bad spares names l.coeffs l.constant (terms_other l.coeffs h.terms)

  pub sums_other : (l : Lin) (ls : List Lin) → AllIn (IsLinSaid names) (l ∷ ls) → Without bad (sums (sums_tree names (l ∷ ls)))
  sums_other l ls h = without_both bad (sum (lin_tree names l)) _ (lin_other l h.0)
      (further_other bad spares (IsLinSaid names) sum (lin_tree names) lin_other ls h.1)

  key_other : (key : List Lin) → IsKeySaid names key → Without bad (sums (sums_tree names key))
  key_other [] h = absurd h
  key_other (l ∷ ls) h = sums_other l ls h

  lin_rel_other : (r : LinRel) → IsLinRelSaid names r → Without bad (lin_rel (lin_rel_tree names r))
  lin_rel_other r h =
      without_both bad (sum (lin_tree names r.lin)) _ (lin_other r.lin h)
      (without_both bad (just (relation_sign (relation_tree r.equal))) (sum zero_tree) (relation_other bad spares (relation_tree r.equal))
      (tt, tt))

  pub guard_other : (rs : List LinRel) → AllIn (IsLinRelSaid names) rs → Without bad (guard (guard_tree names rs))
  guard_other [] h = tt
  guard_other (r ∷ rs) h = without_both bad (lin_rel (lin_rel_tree names r)) _ (lin_rel_other r h.0)
      (further_other bad spares (IsLinRelSaid names) lin_rel (lin_rel_tree names) lin_rel_other rs h.1)

module _ (bad : Sign → Bool) (spares : Spares bad) (s : Scope) (variables : AreOther bad s.names) where
  pub row_other : (table : ℕ) (key : List Lin) → IsRowSaid s table key → Without bad (place (place_tree s table key))
  row_other table key h = (
    tt,
    without_both bad (just sign.Open) _ (other bad spares sign.Open refl)
        (without_both bad (sums (sums_tree s.names key)) (just sign.Close) (key_other bad spares s.names variables key h.key)
        (other bad spares sign.Close refl)),
  )

  pub cell_other : (table : ℕ) (key : List Lin) (column : ℕ) → IsCellSaid s table key column →
      Without bad (cell (cell_tree s table key column))
  cell_other table key column h =
      without_both bad (place (place_tree s table key)) _ (row_other table key h.row)
      (without_both bad (just sign.Dot) (name (column_name (slice_get s.tables table) column)) (other bad spares sign.Dot refl) (
        tt,
        tt,
      ))
