-- Words that printed clauses don't have, where their variables don't.
use Rattle.std.proofs.Common.{◌≡◌, ℕ, Bool, true, false, List, [], ◌∷◌, ◌++◌, map, refl, zero, suc, ℤ, pos, negsuc}
use Rattle.std.specs.Prelude.{◌==◌, if◌then◌else◌, unsigned_abs}
use Rattle.acc_grammar.specs.Readers.{AllIn, joined}
use Rattle.acc_grammar.proofs.Exact.{AllIn-append}
use Rattle.acc_base.specs.declared.forms.Atom.{Atom}
use Rattle.acc_base.specs.declared.forms.Atom.TheVariants as atom
use Rattle.acc_base.specs.declared.forms.Unknown.{Unknown}
use Rattle.acc_base.specs.declared.forms.Rel.{Rel}
use Rattle.acc_base.specs.declared.forms.Clause.{Clause}
use Rattle.acc_lex.specs.declared.words.Sign.{Sign}
use Rattle.acc_lex.specs.declared.words.Sign.TheVariants as sign
use Rattle.acc_parse_syntax.specs.declared.trees.Operand.{Operand}
use Rattle.acc_parse_syntax.specs.declared.trees.FormTerm.TheVariants as form_terms
use Rattle.acc_parse_syntax.specs.declared.trees.SignedFormTerm.{SignedFormTerm}
use Rattle.acc_parse_syntax.specs.declared.trees.ClauseTree.{ClauseTree}
use Rattle.acc_parse_syntax.specs.Spelling.{just, name, number, place, cell, relation_sign, operand, form_term, signed_form_term, form, form_rel}
use Rattle.acc_parse_syntax.specs.Spelling.{binder, premises, clause, clause_statement}
use Rattle.acc_print.specs.Sums.{is_negative}
use Rattle.acc_print.specs.Names.{Scope, with_own}
use Rattle.acc_parse_readback.specs.Trees.{place_tree, cell_tree, relation_tree, operand_tree, form_term_tree, signed_form_tree}
use Rattle.acc_parse_readback.specs.Trees.{form_constant_trees, form_sum_tree, zero_form_tree, rel_tree, guards_tree, names_tree, clause_tree}
use Rattle.acc_parse_readback.specs.Printable.{IsAtomSaid, IsUnknownSaid, IsRelSaid, IsClauseSaid}
use Rattle.acc_parse_readback.proofs.Mapped.{all_mapped}
use Rattle.acc_parse_readback.proofs.OtherWords.{Without, without_both, without_each}
use Rattle.acc_parse_readback.proofs.OtherValues.{is_placed, Spares, AreOther, other, names_other, minus_other, sign_other, further_other}
use Rattle.acc_parse_readback.proofs.OtherValues.{relation_other, row_other, cell_other}

-- ---- forms

module _ (bad : Sign → Bool) (spares : Spares bad) (s : Scope) (variables : AreOther bad s.names) where
  atom_other : (a : Atom) → IsAtomSaid s a → Without bad (operand (operand_tree s a))
  atom_other atom.One h = absurd h
  atom_other (atom.Var x) h = variables x h
  atom_other (atom.Has table key) h = without_both bad (just sign.Has) (place (place_tree s table key)) (other bad spares sign.Has refl)
      (row_other bad spares s variables table key h)
  atom_other (atom.Col table key column) h = cell_other bad spares s variables table key column h
  atom_other (atom.Count table key) h = without_both bad (just sign.Count) (place (place_tree s table key))
      (other bad spares sign.Count refl) (row_other bad spares s variables table key h)
  atom_other (atom.Sum table key column) h = without_both bad (just sign.Sum) (cell (cell_tree s table key column))
      (other bad spares sign.Sum refl) (cell_other bad spares s variables table key column h)

  by_one : (b : Bool) (n : ℕ) (o : Operand) → Without bad (operand o) →
      Without bad (form_term (if b then form_terms.Plain o else form_terms.Product n o))
  by_one true n o h = h
  by_one false n o h = (tt, without_both bad (just sign.Times) (operand o) (other bad spares sign.Times refl) h)

  first_other : (t : Unknown × ℤ) → IsUnknownSaid s t →
      Without bad (form_term (form_term_tree (unsigned_abs t.1) (operand_tree s t.0.atom)))
  first_other t h = by_one (unsigned_abs t.1 == 1) (unsigned_abs t.1) (operand_tree s t.0.atom) (atom_other t.0.atom h.0)

  term_other : (t : Unknown × ℤ) → IsUnknownSaid s t → Without bad (signed_form_term (signed_form_tree s t))
  term_other t h = without_both bad _ (form_term (form_term_tree (unsigned_abs t.1) (operand_tree s t.0.atom)))
      (sign_other bad spares (is_negative t.1)) (first_other t h)

  constant_other : (n : ℤ) → AllIn (λ (t : SignedFormTerm). Without bad (signed_form_term t)) (form_constant_trees n)
  constant_other (pos zero) = tt
  constant_other (pos (suc n)) = (without_both bad (just sign.Plus) (number (suc n)) (other bad spares sign.Plus refl) (tt, tt), tt)
  constant_other (negsuc n) = (without_both bad (just sign.Minus) (number (suc n)) (other bad spares sign.Minus refl) (tt, tt), tt)

  form_other : (ts : List (Unknown × ℤ)) (n : ℤ) → AllIn (IsUnknownSaid s) ts → Without bad (form (form_sum_tree s ts n))
  form_other [] n h = without_both bad _ (number (unsigned_abs n) ++ []) (minus_other bad spares (is_negative n)) (tt, tt)
  form_other (t ∷ ts) n h =
      without_both bad _ _ (minus_other bad spares (is_negative t.1))
      (without_both bad (form_term (form_term_tree (unsigned_abs t.1) (operand_tree s t.0.atom))) _ (first_other t h.0)
      (without_each bad signed_form_term (map (signed_form_tree s) ts ++ form_constant_trees n)
      (AllIn-append (λ (u : SignedFormTerm). Without bad (signed_form_term u)) (map (signed_form_tree s) ts) (form_constant_trees n)
      (all_mapped (IsUnknownSaid s) (λ (u : SignedFormTerm). Without bad (signed_form_term u)) (signed_form_tree s) term_other ts h.1)
      (constant_other n))))

  rel_other : (r : Rel) → IsRelSaid s r → Without bad (form_rel (rel_tree s r))
  rel_other r h =
      without_both bad (form (form_sum_tree s r.form.terms r.form.constant)) _ (form_other r.form.terms r.form.constant h.terms)
      (without_both bad (just (relation_sign (relation_tree r.equal))) (form zero_form_tree)
      (relation_other bad spares (relation_tree r.equal)) (tt, tt))

  premises_other : (rs : List Rel) → AllIn (IsRelSaid s) rs → Without bad (premises (guards_tree s rs))
  premises_other [] h = tt
  premises_other (r ∷ rs) h =
      without_both bad _ (just sign.Implies)
      (without_both bad (form_rel (rel_tree s r)) _ (rel_other r h.0)
      (further_other bad spares (IsRelSaid s) form_rel (rel_tree s) rel_other rs h.1)) (other bad spares sign.Implies refl)

-- ---- clauses

module _ (bad : Sign → Bool) (spares : Spares bad) where
  binder_other : (xs : List (List ℕ)) → Without bad (binder (names_tree xs))
  binder_other [] = tt
  binder_other (x ∷ xs) =
      without_both bad (just sign.Forall) (joined name (x ∷ xs) ++ just sign.Colon) (other bad spares sign.Forall refl)
      (without_both bad (joined name (x ∷ xs)) (just sign.Colon) (names_other bad spares (x ∷ xs)) (other bad spares sign.Colon refl))

  pub clause_other : (k : Sign) → is_placed k ≡ false → (s : Scope) (c : Clause) → AreOther bad (with_own s c.vars).names →
      IsClauseSaid s c → Without bad (clause_statement k (clause_tree s c))
  clause_other k kept s c variables h =
      let own = with_own s c.vars in
      without_both bad (just k) _ (other bad spares k kept)
      (without_both bad (clause (clause_tree s c)) (just sign.End)
      (without_both bad (binder (names_tree c.vars)) _ (binder_other c.vars)
      (without_both bad (premises (guards_tree own c.guards)) (form_rel (rel_tree own c.rel))
      (premises_other bad spares own variables c.guards h.guards) (rel_other bad spares own variables c.rel h.relation)))
      (other bad spares sign.End refl))

  pub clauses_other : (k : Sign) → is_placed k ≡ false → (s : Scope) →
      ((c : Clause) → IsClauseSaid s c → AreOther bad (with_own s c.vars).names) → (cs : List Clause) → AllIn (IsClauseSaid s) cs →
      Without bad (joined (clause_statement k) (map (clause_tree s) cs))
  clauses_other k kept s variables cs h =
      without_each bad (clause_statement k) (map (clause_tree s) cs)
      (all_mapped (IsClauseSaid s) (λ (t : ClauseTree). Without bad (clause_statement k t)) (clause_tree s)
      (λ c g. clause_other k kept s c (variables c g) g) cs h)
