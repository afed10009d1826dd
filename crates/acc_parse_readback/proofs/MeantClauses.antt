-- Printed clauses stand for themselves, and pass no limit.
use Rattle.std.proofs.Common.{◌≡◌, ℕ, Bool, true, false, List, [], ◌∷◌, ◌++◌, map, Some, None, refl, sym, ap, subst, ◌∙◌, inl, inr, zero}
use Rattle.std.proofs.Common.{suc, ℤ, pos, negsuc, if◌then◌else◌}
use Rattle.std.specs.Prelude.{◌==◌, unsigned_abs}
use Rattle.std.specs.List.{flat_map}
use Rattle.acc_grammar.specs.Readers.{AllIn}
use Rattle.acc_grammar.proofs.RunReaders.{flag}
use Rattle.acc_base.specs.UnknownEquality.{unknown_eq}
use Rattle.acc_base.specs.declared.forms.Atom.{Atom}
use Rattle.acc_base.specs.declared.forms.Atom.TheVariants as atom
use Rattle.acc_base.specs.declared.forms.Unknown.{Unknown}
use Rattle.acc_base.specs.declared.forms.Rel.{Rel}
use Rattle.acc_base.specs.declared.forms.Clause.{Clause}
use Rattle.acc_terms.specs.declared.parts.Part.{Part}
use Rattle.acc_parse_syntax.specs.declared.trees.Operand.{Operand}
use Rattle.acc_parse_syntax.specs.declared.trees.FormTerm.TheVariants as form_terms
use Rattle.acc_parse_names.specs.Names.{listed_or_none}
use Rattle.acc_parse_clauses.specs.Scopes.{Scope as Surroundings}
use Rattle.acc_parse_clauses.specs.Values.{multiple, alone, signed, collected_by, compared}
use Rattle.acc_parse_clauses.specs.Forms.{atom_of, unknown_of, form_part, signed_form_part, form_parts, rel_terms, form_by, rel_of, all_form_rels}
use Rattle.acc_parse_clauses.specs.Forms.{with_own as with_own_names, clause_scope, clause_of}
use Rattle.acc_parse_clauses.specs.Sizes.{operand_sizes, form_term_sizes, signed_form_term_sizes, form_sizes, rel_sizes, clause_sizes}
use Rattle.acc_parse_clauses.specs.Sizes.{clause_statement_sizes}
use Rattle.acc_print.specs.Sums.{is_negative}
use Rattle.acc_print.specs.Names.{Scope, with_own}
use Rattle.acc_parse_readback.specs.Trees.{relation_tree, operand_tree, form_term_tree, signed_form_tree, form_constant_trees, form_sum_tree}
use Rattle.acc_parse_readback.specs.Trees.{rel_tree, guards_tree, names_tree, clause_tree}
use Rattle.acc_parse_readback.specs.Printable.{IsAtomSaid, IsUnknownSaid, IsRelSaid, IsClauseSaid}
use Rattle.acc_parse_readback.proofs.VariableNumbers.{variable_back, fits_own}
use Rattle.acc_parse_readback.proofs.MeantTerms.{known, behind, written, terms_and, compared_back, relation_back}
use Rattle.acc_parse_readback.proofs.MeantValues.{all_back, signed_back, is_one}
use Rattle.acc_parse_readback.proofs.MeantRows.{Suits, table_back, key_back, column_back, row_ends}
use Rattle.acc_parse_readback.proofs.OnlyEnds.{AreEnds, ends_behind, ended, ends_mapped}
use Rattle.acc_parse_readback.proofs.SmallNumbers.{AreSmall, small_terms_end}

term_back : (m : Surroundings) (n : ℕ) (o : Operand) → form_part m (form_term_tree n o) ≡ multiple n (unknown_of m o)
term_back m n o = elim (flag (n == 1)) [
  | inl e ↦ ap (λ (b : Bool). form_part m (if b then form_terms.Plain o else form_terms.Product n o)) e ∙ ap
      (λ (k : ℕ). multiple k (unknown_of m o)) (sym (is_one n e))
  | inr e ↦ ap (λ (b : Bool). form_part m (if b then form_terms.Plain o else form_terms.Product n o)) e
]

term_sizes_are : (m : Surroundings) (b : Bool) (n : ℕ) (o : Operand) → AreEnds (operand_sizes m o) →
    AreEnds (form_term_sizes m (if b then form_terms.Plain o else form_terms.Product n o))
term_sizes_are m true n o h = h
term_sizes_are m false n o h = h

constant_back : (m : Surroundings) (n : ℤ) → map (signed_form_part m) (form_constant_trees n) ≡ behind n
constant_back m (pos zero) = refl
constant_back m (pos (suc n)) = refl
constant_back m (negsuc n) = ap (λ (p : Part Unknown). p ∷ []) (signed_back None (negsuc n))

constant_ends : (m : Surroundings) (n : ℤ) → AreEnds (flat_map (signed_form_term_sizes m) (form_constant_trees n))
constant_ends m (pos zero) = tt
constant_ends m (pos (suc n)) = tt
constant_ends m (negsuc n) = tt

module _ (s : Scope) (m : Surroundings) (f : Suits s m) where
  -- ---- unknowns

  atom_back : (a : Atom) → IsAtomSaid s a → atom_of m (operand_tree s a) ≡ a
  atom_back atom.One h = absurd h
  atom_back (atom.Var x) h = ap atom.Var (variable_back s.names m.variables f.variables x h)
  atom_back (atom.Has table key) h = λ i. atom.Has (table_back s m f table key h i) (key_back s m f table key h i)
  atom_back (atom.Col table key column) h = λ i. atom.Col (table_back s m f table key h.row i) (key_back s m f table key h.row i)
      (column_back s m f table key column h i)
  atom_back (atom.Count table key) h = λ i. atom.Count (table_back s m f table key h i) (key_back s m f table key h i)
  atom_back (atom.Sum table key column) h = λ i. atom.Sum (table_back s m f table key h.row i) (key_back s m f table key h.row i)
      (column_back s m f table key column h i)

  atom_ends : (a : Atom) → IsAtomSaid s a → AreEnds (operand_sizes m (operand_tree s a))
  atom_ends atom.One h = absurd h
  atom_ends (atom.Var x) h = tt
  atom_ends (atom.Has table key) h = row_ends s m f table key h
  atom_ends (atom.Col table key column) h = row_ends s m f table key h.row
  atom_ends (atom.Count table key) h = row_ends s m f table key h
  atom_ends (atom.Sum table key column) h = row_ends s m f table key h.row

  -- ---- forms

  known_back : (t : Unknown × ℤ) → IsUnknownSaid s t →
      signed (is_negative t.1) (form_part m (form_term_tree (unsigned_abs t.1) (operand_tree s t.0.atom))) ≡ known t
  known_back t h =
      let unknown : unknown_of m (operand_tree s t.0.atom) ≡ t.0 = λ i. record { under = sym h.2 i; atom = atom_back t.0.atom h.0 i } in
      ap (signed (is_negative t.1)) (term_back m (unsigned_abs t.1) (operand_tree s t.0.atom))
      ∙ (ap (λ (u : Unknown). signed (is_negative t.1) (multiple (unsigned_abs t.1) u)) unknown ∙ signed_back (Some t.0) t.1)

  others_back : (ts : List (Unknown × ℤ)) (n : ℤ) → AllIn (IsUnknownSaid s) ts →
      map (signed_form_part m) (map (signed_form_tree s) ts ++ form_constant_trees n) ≡ map known ts ++ behind n
  others_back [] n h = constant_back m n
  others_back (t ∷ ts) n h = λ i. known_back t h.0 i ∷ others_back ts n h.1 i

  parts_back : (ts : List (Unknown × ℤ)) (n : ℤ) → AllIn (IsUnknownSaid s) ts → form_parts m (form_sum_tree s ts n) ≡ written ts n
  parts_back [] n h = ap (λ (p : Part Unknown). p ∷ []) (signed_back None n)
  parts_back (t ∷ ts) n h = λ i. known_back t h.0 i ∷ others_back ts n h.1 i

  others_end : (ts : List (Unknown × ℤ)) (n : ℤ) → AllIn (IsUnknownSaid s) ts →
      AreEnds (flat_map (signed_form_term_sizes m) (map (signed_form_tree s) ts ++ form_constant_trees n))
  others_end [] n h = constant_ends m n
  others_end (t ∷ ts) n h = ends_behind _ _ (term_sizes_are m (unsigned_abs t.1 == 1) (unsigned_abs t.1) (operand_tree s t.0.atom)
      (atom_ends t.0.atom h.0.0)) (others_end ts n h.1)

  form_ends : (ts : List (Unknown × ℤ)) (n : ℤ) → AllIn (IsUnknownSaid s) ts → AreEnds (form_sizes m (form_sum_tree s ts n))
  form_ends [] n h = tt
  form_ends (t ∷ ts) n h = ends_behind _ _ (term_sizes_are m (unsigned_abs t.1 == 1) (unsigned_abs t.1) (operand_tree s t.0.atom)
      (atom_ends t.0.atom h.0.0)) (others_end ts n h.1)

  small_terms : (ts : List (Unknown × ℤ)) → AllIn (IsUnknownSaid s) ts → AreSmall ts
  small_terms [] h = tt
  small_terms (t ∷ ts) h = (h.0.1, small_terms ts h.1)

  -- ---- relations

  rel_terms_back : (r : Rel) → IsRelSaid s r → rel_terms m (rel_tree s r) ≡ terms_and r.form.terms r.form.constant
  rel_terms_back r h =
      ap (λ (ps : List (Part Unknown)). collected_by unknown_eq (compared (relation_tree r.equal) ps (alone 0 ∷ [])))
      (parts_back r.form.terms r.form.constant h.terms)
      ∙ compared_back unknown_eq r.equal r.form.terms r.form.constant h.collected

  rel_back : (r : Rel) → IsRelSaid s r → rel_of m (rel_tree s r) ≡ r
  rel_back r h = λ i. record { form = ap form_by (rel_terms_back r h) i; equal = relation_back r.equal i }

  rel_ends : (r : Rel) → IsRelSaid s r → AreEnds (rel_sizes m (rel_tree s r))
  rel_ends r h =
      ends_behind (form_sizes m (form_sum_tree s r.form.terms r.form.constant)) _ (form_ends r.form.terms r.form.constant h.terms)
      (small_terms_end (rel_terms m (rel_tree s r)) r.form.terms r.form.constant (rel_terms_back r h) (small_terms r.form.terms h.terms)
      h.constant)

  guards_back : (rs : List Rel) → AllIn (IsRelSaid s) rs → map (rel_of m) (all_form_rels (guards_tree s rs)) ≡ rs
  guards_back [] h = refl
  guards_back (r ∷ rs) h = λ i. rel_back r h.0 i ∷ all_back (IsRelSaid s) (rel_of m) (rel_tree s) rs rel_back h.1 i

  guards_end : (rs : List Rel) → AllIn (IsRelSaid s) rs → AreEnds (flat_map (rel_sizes m) (all_form_rels (guards_tree s rs)))
  guards_end [] h = tt
  guards_end (r ∷ rs) h = ends_behind (rel_sizes m (rel_tree s r)) _ (rel_ends r h.0)
      (ends_mapped (IsRelSaid s) (rel_sizes m) (rel_tree s) rs rel_ends h.1)

-- ---- clauses

pub names_back : (xs : List (List ℕ)) → listed_or_none (names_tree xs) ≡ xs
names_back [] = refl
names_back (x ∷ xs) = refl

module _ (s : Scope) (m : Surroundings) (f : Suits s m) (none : m.variables.own ≡ []) where
  own_suits : (c : Clause) → IsClauseSaid s c → Suits (with_own s c.vars) (clause_scope m (clause_tree s c))
  own_suits c h =
      subst (λ (own : List (List ℕ)). Suits (with_own s c.vars) (with_own_names m own)) (sym (names_back c.vars))
      (record {
        tables = f.tables;
        said = f.said;
        few = f.few;
        new = f.new;
        variables =
            fits_own s.names m.variables c.vars f.variables none h.variables h.new h.few_variables;
      })

  pub clause_back : (c : Clause) → IsClauseSaid s c → clause_of m (clause_tree s c) ≡ c
  clause_back c h =
      let own = with_own s c.vars in
      let suits = own_suits c h in
      let inner = clause_scope m (clause_tree s c) in
      λ i. record {
        vars = names_back c.vars i;
        guards = guards_back own inner suits c.guards h.guards i;
        rel =
            rel_back own inner suits c.rel h.relation i;
      }

  pub clause_ends : (c : Clause) → IsClauseSaid s c → AreEnds (clause_statement_sizes m (clause_tree s c))
  clause_ends c h =
      let own = with_own s c.vars in
      let suits = own_suits c h in
      let inner = clause_scope m (clause_tree s c) in
      ended (clause_sizes m (clause_tree s c)) (ends_behind (flat_map (rel_sizes inner) (all_form_rels (guards_tree own c.guards)))
      (rel_sizes inner (rel_tree own c.rel)) (guards_end own inner suits c.guards h.guards) (rel_ends own inner suits c.rel h.relation))
