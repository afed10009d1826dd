-- Printed clauses pass no limit.
use Rattle.std.proofs.Common.{ℕ, ◌≤◌, Bool, true, false, List, [], ◌∷◌, ◌++◌, length, arith, zero, suc, ℤ, pos, negsuc}
use Rattle.std.specs.Prelude.{◌==◌, if◌then◌else◌, map, unsigned_abs}
use Rattle.std.specs.List.{flat_map}
use Rattle.acc_grammar.specs.Readers.{AllIn}
use Rattle.acc_grammar.proofs.Exact.{AllIn-append}
use Rattle.acc_base.specs.Numbers.{IsSmall}
use Rattle.acc_base.specs.declared.forms.Atom.{Atom}
use Rattle.acc_base.specs.declared.forms.Atom.TheVariants as atom
use Rattle.acc_base.specs.declared.forms.Unknown.{Unknown}
use Rattle.acc_base.specs.declared.forms.Rel.{Rel}
use Rattle.acc_base.specs.declared.forms.Clause.{Clause}
use Rattle.acc_parse_syntax.specs.declared.trees.Operand.{Operand}
use Rattle.acc_parse_syntax.specs.declared.trees.FormTerm.TheVariants as form_terms
use Rattle.acc_parse_syntax.specs.declared.trees.SignedFormTerm.{SignedFormTerm}
use Rattle.acc_parse_syntax.specs.declared.trees.FormRelTree.{FormRelTree}
use Rattle.acc_parse_syntax.specs.declared.trees.ClauseTree.{ClauseTree}
use Rattle.acc_base.specs.declared.limits.Limit.TheVariants as limit
use Rattle.acc_parse_limits.specs.Words.{name_marks, number_marks, operand_marks, form_term_marks, signed_form_term_marks, form_marks}
use Rattle.acc_parse_limits.specs.Words.{form_rel_marks, binder_marks, premises_marks, clause_marks}
use Rattle.acc_parse_limits.specs.Marks.{ending}
use Rattle.acc_parse_limits.specs.Statements.{clause_statement_marks}
use Rattle.acc_print.specs.Names.{Scope, name_at, with_own}
use Rattle.acc_parse_readback.specs.Trees.{operand_tree, form_term_tree, signed_form_tree, form_constant_trees, form_sum_tree, zero_form_tree}
use Rattle.acc_parse_readback.specs.Trees.{rel_tree, guards_tree, names_tree, clause_tree}
use Rattle.acc_parse_readback.specs.Printable.{IsName, IsAtomSaid, IsUnknownSaid, IsRelSaid, IsClauseSaid}
use Rattle.acc_parse_readback.proofs.OnlyEnds.{AreEnds, ends_behind, one_end}
use Rattle.acc_parse_readback.proofs.Mapped.{all_mapped}
use Rattle.acc_parse_readback.proofs.Ends.{not_above, ends_each}
use Rattle.acc_parse_readback.proofs.LimitedValues.{name_ends, names_end, number_ends, variable_ends, row_ends, cell_ends, few_others}

-- ---- forms

atom_ends : (s : Scope) (a : Atom) → IsAtomSaid s a → AreEnds (operand_marks (operand_tree s a))
atom_ends s atom.One h = absurd h
atom_ends s (atom.Var x) h = variable_ends (name_at s.names x) h
atom_ends s (atom.Has table key) h = row_ends s table key h
atom_ends s (atom.Col table key column) h = cell_ends s table key column h
atom_ends s (atom.Count table key) h = row_ends s table key h
atom_ends s (atom.Sum table key column) h = cell_ends s table key column h

by_one : (b : Bool) (n : ℕ) (o : Operand) → AreEnds (number_marks n) → AreEnds (operand_marks o) →
    AreEnds (form_term_marks (if b then form_terms.Plain o else form_terms.Product n o))
by_one true n o h g = g
by_one false n o h g = ends_behind (number_marks n) (operand_marks o) h g

term_ends : (s : Scope) (t : Unknown × ℤ) → IsUnknownSaid s t →
    AreEnds (form_term_marks (form_term_tree (unsigned_abs t.1) (operand_tree s t.0.atom)))
term_ends s t h = by_one (unsigned_abs t.1 == 1) (unsigned_abs t.1) (operand_tree s t.0.atom) (number_ends t.1 h.1)
    (atom_ends s t.0.atom h.0)

constant_ends : (n : ℤ) → IsSmall n → AllIn (λ (t : SignedFormTerm). AreEnds (signed_form_term_marks t)) (form_constant_trees n)
constant_ends (pos zero) h = tt
constant_ends (pos (suc n)) h = (number_ends (pos (suc n)) h, tt)
constant_ends (negsuc n) h = (number_ends (negsuc n) h, tt)

form_ends : (s : Scope) (ts : List (Unknown × ℤ)) (n : ℤ) → AllIn (IsUnknownSaid s) ts → IsSmall n →
    AreEnds (form_marks (form_sum_tree s ts n))
form_ends s [] n h small = ends_behind (number_marks (unsigned_abs n)) [] (number_ends n small) tt
form_ends s (t ∷ ts) n h small =
    ends_behind (form_term_marks (form_term_tree (unsigned_abs t.1) (operand_tree s t.0.atom))) _ (term_ends s t h.0)
    (ends_each signed_form_term_marks (map (signed_form_tree s) ts ++ form_constant_trees n)
    (AllIn-append (λ (u : SignedFormTerm). AreEnds (signed_form_term_marks u)) (map (signed_form_tree s) ts) (form_constant_trees n)
    (all_mapped (IsUnknownSaid s) (λ (u : SignedFormTerm). AreEnds (signed_form_term_marks u)) (signed_form_tree s) (term_ends s) ts h.1)
    (constant_ends n small)))

-- ---- relations

rel_ends : (s : Scope) (r : Rel) → IsRelSaid s r → AreEnds (form_rel_marks (rel_tree s r))
rel_ends s r h = ends_behind (form_marks (form_sum_tree s r.form.terms r.form.constant)) (form_marks zero_form_tree)
    (form_ends s r.form.terms r.form.constant h.terms h.constant) tt

premises_end : (s : Scope) (rs : List Rel) → length rs ≤ 16 → AllIn (IsRelSaid s) rs → AreEnds (premises_marks (guards_tree s rs))
premises_end s [] few h = tt
premises_end s (r ∷ rs) few h =
    ends_behind _ _ (not_above limit.GuardRelations 15 (length (map (rel_tree s) rs)) (few_others (rel_tree s) 15 rs (omega arith)))
    (ends_behind (form_rel_marks (rel_tree s r)) _ (rel_ends s r h.0)
    (ends_each form_rel_marks (map (rel_tree s) rs)
    (all_mapped (IsRelSaid s) (λ (t : FormRelTree). AreEnds (form_rel_marks t)) (rel_tree s) (rel_ends s) rs h.1)))

-- ---- clauses

binder_ends : (xs : List (List ℕ)) → length xs ≤ 8 → AllIn IsName xs → AreEnds (binder_marks (names_tree xs))
binder_ends [] few h = tt
binder_ends (x ∷ xs) few h = ends_behind _ _ (not_above limit.Variables 7 (length xs) (omega arith))
    (ends_behind (name_marks x) (flat_map name_marks xs) (name_ends x h.0) (names_end xs h.1))

pub clause_ends : (s : Scope) (c : Clause) → IsClauseSaid s c → AreEnds (clause_statement_marks (clause_tree s c))
clause_ends s c h =
    let own = with_own s c.vars in
    ends_behind (clause_marks (clause_tree s c)) ending
    (ends_behind (binder_marks (names_tree c.vars)) _ (binder_ends c.vars h.few_variables h.variables)
    (ends_behind (premises_marks (guards_tree own c.guards)) _ (premises_end own c.guards h.few_guards h.guards)
    (rel_ends own c.rel h.relation)))
    one_end

pub clauses_end : (s : Scope) (cs : List Clause) → AllIn (IsClauseSaid s) cs →
    AllIn (λ (t : ClauseTree). AreEnds (clause_statement_marks t)) (map (clause_tree s) cs)
clauses_end s cs h = all_mapped (IsClauseSaid s) (λ (t : ClauseTree). AreEnds (clause_statement_marks t)) (clause_tree s) (clause_ends s) cs
    h
