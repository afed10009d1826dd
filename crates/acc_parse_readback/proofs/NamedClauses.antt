-- Printed clauses use names that are defined, and define new ones.
use Rattle.std.proofs.Common.{◌≡◌, ℕ, Bool, true, false, List, [], ◌∷◌, ◌++◌, map, refl, sym, ap, ◌∙◌, zero, suc, ℤ, pos, negsuc}
use Rattle.std.specs.Prelude.{◌==◌, if◌then◌else◌, unsigned_abs}
use Rattle.acc_grammar.specs.Readers.{AllIn}
use Rattle.acc_grammar.proofs.Exact.{AllIn-append}
use Rattle.acc_base.specs.declared.forms.Atom.{Atom}
use Rattle.acc_base.specs.declared.forms.Atom.TheVariants as atom
use Rattle.acc_base.specs.declared.forms.Unknown.{Unknown}
use Rattle.acc_base.specs.declared.forms.Rel.{Rel}
use Rattle.acc_base.specs.declared.forms.Clause.{Clause}
use Rattle.acc_parse_syntax.specs.declared.trees.Operand.{Operand}
use Rattle.acc_parse_syntax.specs.declared.trees.FormTerm.TheVariants as form_terms
use Rattle.acc_parse_syntax.specs.declared.trees.SignedFormTerm.{SignedFormTerm}
use Rattle.acc_parse_syntax.specs.declared.trees.FormRelTree.{FormRelTree}
use Rattle.acc_parse_names.specs.Names.{stands_in, defines_again, listed_or_none}
use Rattle.acc_parse_names.specs.Scopes.{Scope as Known}
use Rattle.acc_parse_names.specs.Faults.{operand_fault, form_term_fault, form_fault, form_rel_fault, premises_fault, clause_scope, clause_fault}
use Rattle.acc_print.specs.Names.{Scope, with_own}
use Rattle.acc_parse_readback.specs.Trees.{operand_tree, form_term_tree, signed_form_tree, form_constant_trees, form_sum_tree, zero_form_tree}
use Rattle.acc_parse_readback.specs.Trees.{rel_tree, guards_tree, names_tree, clause_tree}
use Rattle.acc_parse_readback.specs.Printable.{IsAtomSaid, IsUnknownSaid, IsRelSaid, IsClauseSaid}
use Rattle.acc_parse_readback.proofs.Mapped.{all_mapped}
use Rattle.acc_parse_readback.proofs.Faultless.{neither, none_any}
use Rattle.acc_parse_readback.proofs.StandingNames.{same_with, same_new}
use Rattle.acc_parse_readback.proofs.NamedValues.{Fits, variable_defined, row_defined, cell_defined}

-- ---- forms

module _ (s : Scope) (v : Known) (fits : Fits s v) where
  atom_defined : (a : Atom) → IsAtomSaid s a → operand_fault v (operand_tree s a) ≡ false
  atom_defined atom.One h = absurd h
  atom_defined (atom.Var x) h = variable_defined s.names v.variables fits.same x h
  atom_defined (atom.Has table key) h = row_defined s v fits table key h
  atom_defined (atom.Col table key column) h = cell_defined s v fits table key column h
  atom_defined (atom.Count table key) h = row_defined s v fits table key h
  atom_defined (atom.Sum table key column) h = cell_defined s v fits table key column h

  by_one : (b : Bool) (n : ℕ) (o : Operand) → operand_fault v o ≡ false →
      form_term_fault v (if b then form_terms.Plain o else form_terms.Product n o) ≡ false
  by_one true n o h = h
  by_one false n o h = h

  term_defined : (t : Unknown × ℤ) → IsUnknownSaid s t →
      form_term_fault v (form_term_tree (unsigned_abs t.1) (operand_tree s t.0.atom)) ≡ false
  term_defined t h = by_one (unsigned_abs t.1 == 1) (unsigned_abs t.1) (operand_tree s t.0.atom) (atom_defined t.0.atom h.0)

  constant_defined : (n : ℤ) → AllIn (λ (t : SignedFormTerm). form_term_fault v t.term ≡ false) (form_constant_trees n)
  constant_defined (pos zero) = tt
  constant_defined (pos (suc n)) = (refl, tt)
  constant_defined (negsuc n) = (refl, tt)

  form_defined : (ts : List (Unknown × ℤ)) (n : ℤ) → AllIn (IsUnknownSaid s) ts → form_fault v (form_sum_tree s ts n) ≡ false
  form_defined [] n h = refl
  form_defined (t ∷ ts) n h =
      neither (form_term_fault v (form_term_tree (unsigned_abs t.1) (operand_tree s t.0.atom))) _ (term_defined t h.0)
      (none_any (λ (u : SignedFormTerm). form_term_fault v u.term) (map (signed_form_tree s) ts ++ form_constant_trees n)
      (AllIn-append (λ (u : SignedFormTerm). form_term_fault v u.term ≡ false) (map (signed_form_tree s) ts) (form_constant_trees n)
      (all_mapped (IsUnknownSaid s) (λ (u : SignedFormTerm). form_term_fault v u.term ≡ false) (signed_form_tree s) term_defined ts h.1)
      (constant_defined n)))

  rel_defined : (r : Rel) → IsRelSaid s r → form_rel_fault v (rel_tree s r) ≡ false
  rel_defined r h = neither (form_fault v (form_sum_tree s r.form.terms r.form.constant)) (form_fault v zero_form_tree)
      (form_defined r.form.terms r.form.constant h.terms) refl

  premises_defined : (rs : List Rel) → AllIn (IsRelSaid s) rs → premises_fault v (guards_tree s rs) ≡ false
  premises_defined [] h = refl
  premises_defined (r ∷ rs) h =
      neither (form_rel_fault v (rel_tree s r)) _ (rel_defined r h.0)
      (none_any (form_rel_fault v) (map (rel_tree s) rs)
      (all_mapped (IsRelSaid s) (λ (t : FormRelTree). form_rel_fault v t ≡ false) (rel_tree s) rel_defined rs h.1))

-- ---- clauses

pub names_listed : (xs : List (List ℕ)) → listed_or_none (names_tree xs) ≡ xs
names_listed [] = refl
names_listed (x ∷ xs) = refl

module _ (s : Scope) (v : Known) (fits : Fits s v) where
  own_fits : (own : List (List ℕ)) → Fits (with_own s own)
      (record { tables = v.tables; variables = v.variables ++ listed_or_none (names_tree own) })
  own_fits own = record {
    tables = fits.tables;
    new = fits.new;
    same = λ x h. same_with s.names v.variables own fits.same x h ∙ ap (λ (xs : List (List ℕ)). stands_in x (v.variables ++ xs))
        (sym (names_listed own));
  }

  pub clause_defined : (c : Clause) → IsClauseSaid s c → clause_fault v (clause_tree s c) ≡ false
  clause_defined c h =
      let own = with_own s c.vars in
      let inner = clause_scope v (clause_tree s c) in
      neither (defines_again v.variables (listed_or_none (names_tree c.vars))) _
      (ap (defines_again v.variables) (names_listed c.vars) ∙ sym (same_new s.names v.variables c.vars fits.same h.variables) ∙ h.new)
      (neither (premises_fault inner (guards_tree own c.guards)) (form_rel_fault inner (rel_tree own c.rel))
      (premises_defined own inner (own_fits c.vars) c.guards h.guards) (rel_defined own inner (own_fits c.vars) c.rel h.relation))
