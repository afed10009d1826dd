-- The tree that the printed text of a design spells: values, rows, clauses and the statements of a step.
-- Clause `lexed` of `print` speaks of this.
use Rattle.std.specs.Prelude.{ℕ, Bool, true, false, if◌then◌else◌, ◌==◌, List, [], ◌∷◌, ◌++◌, map, Option, Some, None, slice_get, ℤ, pos}
use Rattle.std.specs.Prelude.{zero, unsigned_abs, codes}
use Rattle.std.specs.Str.{bytes_eq}
use Rattle.acc_base.specs.declared.forms.Lin.{Lin}
use Rattle.acc_base.specs.declared.forms.LinRel.{LinRel}
use Rattle.acc_base.specs.declared.forms.Atom.{Atom}
use Rattle.acc_base.specs.declared.forms.Atom.TheVariants as atom
use Rattle.acc_base.specs.declared.forms.Unknown.{Unknown}
use Rattle.acc_base.specs.declared.forms.Rel.{Rel}
use Rattle.acc_base.specs.declared.forms.Clause.{Clause}
use Rattle.acc_parse_syntax.specs.declared.trees.Variable.{Variable}
use Rattle.acc_parse_syntax.specs.declared.trees.Variable.TheVariants.{Named, Oneself}
use Rattle.acc_parse_syntax.specs.declared.trees.Term.{Term}
use Rattle.acc_parse_syntax.specs.declared.trees.Term.TheVariants.{Constant, Plain, Product}
use Rattle.acc_parse_syntax.specs.declared.trees.SignedTerm.{SignedTerm}
use Rattle.acc_parse_syntax.specs.declared.trees.Sum.{Sum}
use Rattle.acc_parse_syntax.specs.declared.trees.Sums.{Sums}
use Rattle.acc_parse_syntax.specs.declared.trees.Place.{Place}
use Rattle.acc_parse_syntax.specs.declared.trees.Cell.{Cell}
use Rattle.acc_parse_syntax.specs.declared.trees.Names.{Names}
use Rattle.acc_parse_syntax.specs.declared.trees.Relation.{Relation}
use Rattle.acc_parse_syntax.specs.declared.trees.Relation.TheVariants as relation
use Rattle.acc_parse_syntax.specs.declared.trees.LinRelTree.{LinRelTree}
use Rattle.acc_parse_syntax.specs.declared.trees.LinRels.{LinRels}
use Rattle.acc_parse_syntax.specs.declared.trees.Operand.{Operand}
use Rattle.acc_parse_syntax.specs.declared.trees.Operand.TheVariants as operands
use Rattle.acc_parse_syntax.specs.declared.trees.FormTerm.{FormTerm}
use Rattle.acc_parse_syntax.specs.declared.trees.FormTerm.TheVariants as form_terms
use Rattle.acc_parse_syntax.specs.declared.trees.SignedFormTerm.{SignedFormTerm}
use Rattle.acc_parse_syntax.specs.declared.trees.FormTree.{FormTree}
use Rattle.acc_parse_syntax.specs.declared.trees.FormRelTree.{FormRelTree}
use Rattle.acc_parse_syntax.specs.declared.trees.FormRels.{FormRels}
use Rattle.acc_parse_syntax.specs.declared.trees.ClauseTree.{ClauseTree}
use Rattle.acc_print.specs.Sums.{is_negative}
use Rattle.acc_print.specs.Names.{Scope, name_at, table_name, column_name, with_own}

-- ---- linear values

-- a variable, by its name
abbrev pub variable_named : List ℕ → Variable
variable_named x = if bytes_eq x (codes "self") then Oneself else Named x

-- the variable of a number
abbrev pub variable_tree : List (List ℕ) → ℕ → Variable
variable_tree names n = variable_named (name_at names n)

-- a number times a variable; 1 is left out
abbrev pub term_tree : ℕ → Variable → Term
term_tree n x = if n == 1 then Plain x else Product n x

-- a term behind a sign
abbrev pub signed_tree : List (List ℕ) → ℕ × ℤ → SignedTerm
signed_tree names t = record { minus = is_negative t.1; term = term_tree (unsigned_abs t.1) (variable_tree names t.0) }

-- the constant behind terms; 0 is left out
abbrev pub constant_trees : ℤ → List SignedTerm
constant_trees (pos zero) = []
constant_trees n = record { minus = is_negative n; term = Constant (unsigned_abs n) } ∷ []

-- a constant alone, or a first term and further ones
abbrev pub sum_tree : List (List ℕ) → List (ℕ × ℤ) → ℤ → Sum
sum_tree names [] n = record { minus = is_negative n; first = Constant (unsigned_abs n); others = [] }
sum_tree names (t ∷ ts) n = record {
  minus = is_negative t.1;
  first = term_tree (unsigned_abs t.1) (variable_tree names t.0);
  others = map (signed_tree names) ts ++ constant_trees n;
}

abbrev pub lin_tree : List (List ℕ) → Lin → Sum
lin_tree names l = sum_tree names l.coeffs l.constant

-- the number 0
abbrev pub zero_tree : Sum
zero_tree = record { minus = false; first = Constant 0; others = [] }

-- one or more values; no key is empty
abbrev pub sums_tree : List (List ℕ) → List Lin → Sums
sums_tree names [] = record { first = zero_tree; others = [] }
sums_tree names (l ∷ ls) = record { first = lin_tree names l; others = map (lin_tree names) ls }

-- ---- rows and relations

abbrev pub place_tree : Scope → ℕ → List Lin → Place
place_tree s table key = record { table = table_name (slice_get s.tables table); key = sums_tree s.names key }

abbrev pub cell_tree : Scope → ℕ → List Lin → ℕ → Cell
cell_tree s table key column = record { place = place_tree s table key; column = column_name (slice_get s.tables table) column }

abbrev pub relation_tree : Bool → Relation
relation_tree true = relation.Equal
relation_tree false = relation.AtMost

abbrev pub lin_rel_tree : List (List ℕ) → LinRel → LinRelTree
lin_rel_tree names r = record { left = lin_tree names r.lin; relation = relation_tree r.equal; right = zero_tree }

abbrev pub guard_tree : List (List ℕ) → List LinRel → Option LinRels
guard_tree names [] = None
guard_tree names (r ∷ rs) = Some (record { first = lin_rel_tree names r; others = map (lin_rel_tree names) rs })

-- ---- clauses

-- an atom; none of a text is One
abbrev pub operand_tree : Scope → Atom → Operand
operand_tree s atom.One = operands.Variable Oneself
operand_tree s (atom.Var x) = operands.Variable (variable_tree s.names x)
operand_tree s (atom.Has table key) = operands.Has (place_tree s table key)
operand_tree s (atom.Col table key column) = operands.Column (cell_tree s table key column)
operand_tree s (atom.Count table key) = operands.Count (place_tree s table key)
operand_tree s (atom.Sum table key column) = operands.Sum (cell_tree s table key column)

abbrev pub form_term_tree : ℕ → Operand → FormTerm
form_term_tree n o = if n == 1 then form_terms.Plain o else form_terms.Product n o

abbrev pub signed_form_tree : Scope → Unknown × ℤ → SignedFormTerm
signed_form_tree s t = record { minus = is_negative t.1; term = form_term_tree (unsigned_abs t.1) (operand_tree s t.0.atom) }

abbrev pub form_constant_trees : ℤ → List SignedFormTerm
form_constant_trees (pos zero) = []
form_constant_trees n = record { minus = is_negative n; term = form_terms.Constant (unsigned_abs n) } ∷ []

abbrev pub form_sum_tree : Scope → List (Unknown × ℤ) → ℤ → FormTree
form_sum_tree s [] n = record { minus = is_negative n; first = form_terms.Constant (unsigned_abs n); others = [] }
form_sum_tree s (t ∷ ts) n = record {
  minus = is_negative t.1;
  first = form_term_tree (unsigned_abs t.1) (operand_tree s t.0.atom);
  others = map (signed_form_tree s) ts ++ form_constant_trees n;
}

abbrev pub zero_form_tree : FormTree
zero_form_tree = record { minus = false; first = form_terms.Constant 0; others = [] }

abbrev pub rel_tree : Scope → Rel → FormRelTree
rel_tree s r = record { left = form_sum_tree s r.form.terms r.form.constant; relation = relation_tree r.equal; right = zero_form_tree }

abbrev pub guards_tree : Scope → List Rel → Option FormRels
guards_tree s [] = None
guards_tree s (r ∷ rs) = Some (record { first = rel_tree s r; others = map (rel_tree s) rs })

-- names, which may be left out
abbrev pub names_tree : List (List ℕ) → Option Names
names_tree [] = None
names_tree (x ∷ xs) = Some (record { first = x; others = xs })

abbrev pub clause_tree : Scope → Clause → ClauseTree
clause_tree s c = record {
  variables = names_tree c.vars;
  guards = guards_tree (with_own s c.vars) c.guards;
  relation = rel_tree (with_own s c.vars) c.rel;
}
