-- What forms, relations between them and clauses stand for: terms of one unknown are collected, and unknowns are the same where
-- they are equal as data.
use Rattle.std.specs.Prelude.{ℕ, List, [], ◌∷◌, map, Option, Some, None}
use Rattle.acc_base.specs.UnknownEquality.{unknown_eq}
use Rattle.acc_base.specs.declared.forms.Atom.{Atom}
use Rattle.acc_base.specs.declared.forms.Atom.TheVariants as atom
use Rattle.acc_base.specs.declared.forms.Unknown.{Unknown}
use Rattle.acc_base.specs.declared.forms.Form.{Form}
use Rattle.acc_base.specs.declared.forms.Rel.{Rel}
use Rattle.acc_base.specs.declared.forms.Clause.{Clause}
use Rattle.acc_terms.specs.declared.parts.Part.{Part}
use Rattle.acc_terms.specs.declared.collecting.Terms.{Terms}
use Rattle.acc_parse_syntax.specs.declared.trees.Operand.{Operand}
use Rattle.acc_parse_syntax.specs.declared.trees.Operand.TheVariants as operands
use Rattle.acc_parse_syntax.specs.declared.trees.FormTerm.{FormTerm}
use Rattle.acc_parse_syntax.specs.declared.trees.FormTerm.TheVariants as form_terms
use Rattle.acc_parse_syntax.specs.declared.trees.SignedFormTerm.{SignedFormTerm}
use Rattle.acc_parse_syntax.specs.declared.trees.FormTree.{FormTree}
use Rattle.acc_parse_syntax.specs.declared.trees.FormRelTree.{FormRelTree}
use Rattle.acc_parse_syntax.specs.declared.trees.FormRels.{FormRels}
use Rattle.acc_parse_syntax.specs.declared.trees.ClauseTree.{ClauseTree}
use Rattle.acc_parse_names.specs.Names.{listed_or_none}
use Rattle.acc_parse_clauses.specs.Scopes.{Scope, variable_of, table_in, column_in}
use Rattle.acc_parse_clauses.specs.Values.{multiple, alone, signed, compared, collected_by, is_equation}
use Rattle.acc_parse_clauses.specs.Rows.{key_in}

-- ---- unknowns

abbrev pub atom_of : Scope → Operand → Atom
atom_of s (operands.Variable x) = atom.Var (variable_of s.variables x)
atom_of s (operands.Column c) = atom.Col (table_in s c.place) (key_in s c.place) (column_in s c)
atom_of s (operands.Has p) = atom.Has (table_in s p) (key_in s p)
atom_of s (operands.Count p) = atom.Count (table_in s p) (key_in s p)
atom_of s (operands.Sum c) = atom.Sum (table_in s c.place) (key_in s c.place) (column_in s c)

-- an unknown of a text counts always
abbrev pub unknown_of : Scope → Operand → Unknown
unknown_of s o = record { under = []; atom = atom_of s o }

-- ---- forms

abbrev pub form_part : Scope → FormTerm → Part Unknown
form_part s (form_terms.Constant n) = alone n
form_part s (form_terms.Plain o) = multiple 1 (unknown_of s o)
form_part s (form_terms.Product n o) = multiple n (unknown_of s o)

abbrev pub signed_form_part : Scope → SignedFormTerm → Part Unknown
signed_form_part s t = signed t.minus (form_part s t.term)

-- the terms of a form
abbrev pub form_parts : Scope → FormTree → List (Part Unknown)
form_parts s f = signed f.minus (form_part s f.first) ∷ map (signed_form_part s) f.others

-- ---- relations and clauses

abbrev pub rel_terms : Scope → FormRelTree → Terms Unknown
rel_terms s r = collected_by unknown_eq (compared r.relation (form_parts s r.left) (form_parts s r.right))

abbrev pub form_by : Terms Unknown → Form
form_by t = record { terms = t.terms; constant = t.constant }

abbrev pub rel_of : Scope → FormRelTree → Rel
rel_of s r = record { form = form_by (rel_terms s r); equal = is_equation r.relation }

-- the guards of a clause, which may be left out
abbrev pub all_form_rels : Option FormRels → List FormRelTree
all_form_rels None = []
all_form_rels (Some rs) = rs.first ∷ rs.others

-- the scope with a clause's own variables
abbrev pub with_own : Scope → List (List ℕ) → Scope
with_own s own = record { tables = s.tables; variables = record { in_type = s.variables.in_type; locals = s.variables.locals; own = own } }

abbrev pub clause_scope : Scope → ClauseTree → Scope
clause_scope s c = with_own s (listed_or_none c.variables)

abbrev pub clause_of : Scope → ClauseTree → Clause
clause_of s c = record {
  vars = listed_or_none c.variables;
  guards = map (rel_of (clause_scope s c)) (all_form_rels c.guards);
  rel = rel_of (clause_scope s c) c.relation;
}
