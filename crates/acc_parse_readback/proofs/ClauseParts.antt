-- Printed clauses spell their trees.
use Rattle.std.proofs.Common.{◌≡◌, ℕ, Bool, true, false, List, [], ◌∷◌, ◌++◌, Some, refl, sym, ap, subst, ◌∙◌, append_assoc, zero, suc, ℤ}
use Rattle.std.proofs.Common.{pos, negsuc}
use Rattle.std.specs.Prelude.{◌==◌, if◌then◌else◌, map, unsigned_abs, codes}
use Rattle.std.specs.List.{flat_map}
use Rattle.acc_grammar.specs.Readers.{AllIn, joined}
use Rattle.acc_base.specs.declared.forms.Atom.{Atom}
use Rattle.acc_base.specs.declared.forms.Atom.TheVariants as atom
use Rattle.acc_base.specs.declared.forms.Unknown.{Unknown}
use Rattle.acc_base.specs.declared.forms.Rel.{Rel}
use Rattle.acc_base.specs.declared.forms.Clause.{Clause}
use Rattle.acc_lex.specs.declared.words.Word.{Word}
use Rattle.acc_lex.specs.declared.words.Sign.{Sign}
use Rattle.acc_lex.specs.declared.words.Sign.TheVariants as sign
use Rattle.acc_lex.specs.Keywords.{keyword_of}
use Rattle.acc_parse_syntax.specs.declared.trees.Operand.{Operand}
use Rattle.acc_parse_syntax.specs.declared.trees.FormTerm.TheVariants as form_terms
use Rattle.acc_parse_syntax.specs.Spelling.{just, name, number, further as further_words, operand, form_term, signed_form_term, form, form_rel}
use Rattle.acc_parse_syntax.specs.Spelling.{binder, premises, clause, place, cell}
use Rattle.acc_print.specs.Lists.{spaced, listed}
use Rattle.acc_print.specs.Names.{Scope, name_at, with_own}
use Rattle.acc_print.specs.Values.{row_text, cell_text, comparison}
use Rattle.acc_print.specs.Clauses.{atom_text, unknown_text, form_text, rel_text, binder_text, guards_text, clause_text}
use Rattle.acc_parse_readback.specs.Trees.{place_tree, cell_tree, operand_tree, signed_form_tree, form_constant_trees, form_sum_tree, rel_tree}
use Rattle.acc_parse_readback.specs.Trees.{guards_tree, names_tree, clause_tree}
use Rattle.acc_parse_readback.specs.Printable.{IsName, IsAtomSaid, IsUnknownSaid, IsRelSaid, IsClauseSaid}
use Rattle.acc_parse_readback.proofs.Rests.{IsApart, Part, Front, parts, fronts, part_front, no_front, empty, spaced_part}
use Rattle.acc_parse_readback.proofs.Tokens.{is_run, keyword, named, colon, implies, between}
use Rattle.acc_parse_readback.proofs.SumParts.{IsTermPart, direction, leading, multiple, further, constant_words, sum_words, sum_part}
use Rattle.acc_parse_readback.proofs.ValueParts.{variable_part, small_is_written, joined_map, ArePart, first_listed, row_part, cell_part}
use Rattle.acc_parse_readback.proofs.ValueParts.{comparison_part, comparison_apart}

-- a word that the grammar fixes, a space, and a part
pub word_then : (w : List ℕ) (s : Sign) → is_run w ≡ true → keyword_of w ≡ Some s → (text : List ℕ) (ws : List Word) → Part text ws →
    Part (w ++ 32 ∷ text) (just s ++ ws)
word_then w s run is text ws p = parts w (32 ∷ text) (just s) ws (keyword w s run is) refl (spaced_part text ws p)

-- ---- forms

pub atom_part : (s : Scope) (a : Atom) → IsAtomSaid s a → Part (atom_text s a) (operand (operand_tree s a))
unfolding keyword_of
atom_part s atom.One h = absurd h
atom_part s (atom.Var x) h = variable_part (name_at s.names x) h
atom_part s (atom.Has table key) h = word_then (codes "has") sign.Has refl refl (row_text s table key) (place (place_tree s table key))
    (row_part s table key h)
atom_part s (atom.Col table key column) h = cell_part s table key column h
atom_part s (atom.Count table key) h = word_then (codes "count") sign.Count refl refl (row_text s table key)
    (place (place_tree s table key)) (row_part s table key h)
atom_part s (atom.Sum table key column) h = word_then (codes "sum") sign.Sum refl refl (cell_text s table key column)
    (cell (cell_tree s table key column)) (cell_part s table key column h)

abbrev unknown_words : Scope → Unknown → List Word
unknown_words s u = operand (operand_tree s u.atom)

by_one : (b : Bool) (n : ℕ) (x : Operand) → form_term (if b then form_terms.Plain x else form_terms.Product n x) ≡
    (if b then operand x else number n ++ (just sign.Times ++ operand x))
by_one true n x = refl
by_one false n x = refl

constant_is : (n : ℤ) → joined signed_form_term (form_constant_trees n) ≡ constant_words n
constant_is (pos zero) = refl
constant_is (pos (suc n)) = refl
constant_is (negsuc n) = refl

rest_is : (s : Scope) (ts : List (Unknown × ℤ)) (n : ℤ) →
    joined signed_form_term (map (signed_form_tree s) ts ++ form_constant_trees n) ≡ joined (further (unknown_words s)) ts ++ constant_words
    n
rest_is s [] n = constant_is n
rest_is s (t ∷ ts) n =
    ap (λ (ws : List Word). (direction t.1 ++ ws) ++ joined signed_form_term (map (signed_form_tree s) ts ++ form_constant_trees n))
    (by_one (unsigned_abs t.1 == 1) (unsigned_abs t.1) (operand_tree s t.0.atom))
    ∙ ap (λ (ws : List Word). further (unknown_words s) t ++ ws) (rest_is s ts n)
    ∙ sym (append_assoc (further (unknown_words s) t) (joined (further (unknown_words s)) ts) (constant_words n))

form_is : (s : Scope) (ts : List (Unknown × ℤ)) (n : ℤ) → form (form_sum_tree s ts n) ≡ sum_words (unknown_words s) ts n
form_is s [] n = refl
form_is s (t ∷ ts) n =
    ap (λ (ws : List Word). leading t.1 ++ (ws ++ joined signed_form_term (map (signed_form_tree s) ts ++ form_constant_trees n)))
    (by_one (unsigned_abs t.1 == 1) (unsigned_abs t.1) (operand_tree s t.0.atom))
    ∙ ap (λ (ws : List Word). leading t.1 ++ (multiple (unsigned_abs t.1) (unknown_words s t.0) ++ ws)) (rest_is s ts n)
    ∙ sym (append_assoc (leading t.1) (multiple (unsigned_abs t.1) (unknown_words s t.0))
    (joined (further (unknown_words s)) ts ++ constant_words n))

terms_are : (s : Scope) (ts : List (Unknown × ℤ)) → AllIn (IsUnknownSaid s) ts → AllIn (IsTermPart (unknown_text s) (unknown_words s)) ts
terms_are s [] h = tt
terms_are s (t ∷ ts) h = ((small_is_written t.1 h.0.1, atom_part s t.0.atom h.0.0), terms_are s ts h.1)

-- ---- relations

pub rel_part : (s : Scope) (r : Rel) → IsRelSaid s r → Part (rel_text s r) (form_rel (rel_tree s r))
rel_part s r h =
    let f = form_sum_tree s r.form.terms r.form.constant in
    let sum = sum_part (unknown_text s) (unknown_words s) r.form.terms r.form.constant (terms_are s r.form.terms h.terms)
    (small_is_written r.form.constant h.constant) in
    parts (form_text s r.form) (comparison r.equal) (form f) _
    (subst (λ (ws : List Word). Part (form_text s r.form) ws) (sym (form_is s r.form.terms r.form.constant)) sum)
    (comparison_apart r.equal) (comparison_part r.equal)

rels_are : (s : Scope) (rs : List Rel) → AllIn (IsRelSaid s) rs → ArePart (rel_text s) (λ r. form_rel (rel_tree s r)) rs
rels_are s [] h = tt
rels_are s (r ∷ rs) h = (rel_part s r h.0, rels_are s rs h.1)

guards_front : (s : Scope) (rs : List Rel) → AllIn (IsRelSaid s) rs → Front (guards_text s rs) (premises (guards_tree s rs))
guards_front s [] h = no_front
guards_front s (r ∷ rs) h =
    part_front (rel_text s r ++ listed (rel_text s) (codes ", ") rs) (codes " => ")
    (form_rel (rel_tree s r) ++ joined (further_words form_rel) (map (rel_tree s) rs)) (just sign.Implies)
    (subst (λ (ws : List Word). Part (rel_text s r ++ listed (rel_text s) (codes ", ") rs) (form_rel (rel_tree s r) ++ ws))
    (sym (joined_map (further_words form_rel) (rel_tree s) rs))
    (first_listed (rel_text s) (λ q. form_rel (rel_tree s q)) r rs (rels_are s (r ∷ rs) h)))
    (λ bytes. refl)
    (between (codes "=>") (just sign.Implies) implies)

-- ---- clauses

pub names_apart : (xs : List (List ℕ)) → IsApart (flat_map spaced xs)
names_apart [] = refl
names_apart (x ∷ xs) = refl

pub names_part : (xs : List (List ℕ)) → AllIn IsName xs → Part (flat_map spaced xs) (joined name xs)
names_part [] h = empty
names_part (x ∷ xs) h = parts (32 ∷ x) (flat_map spaced xs) (name x) (joined name xs) (spaced_part x (name x) (named x h.0.0 h.0.1))
    (names_apart xs) (names_part xs h.1)

binder_front : (xs : List (List ℕ)) → AllIn IsName xs → Front (binder_text xs) (binder (names_tree xs))
unfolding keyword_of
binder_front [] h = no_front
binder_front (x ∷ xs) h =
    part_front (codes "forall") (flat_map spaced (x ∷ xs) ++ codes " : ") (just sign.Forall) (joined name (x ∷ xs) ++ just sign.Colon)
    (keyword (codes "forall") sign.Forall refl refl) (λ bytes. refl)
    (part_front (flat_map spaced (x ∷ xs)) (codes " : ") (joined name (x ∷ xs)) (just sign.Colon) (names_part (x ∷ xs) h) (λ bytes. refl)
    (between (codes ":") (just sign.Colon) colon))

pub clause_part : (s : Scope) (c : Clause) → IsClauseSaid s c → Part (clause_text s c) (clause (clause_tree s c))
clause_part s c h =
    let own = with_own s c.vars in
    fronts (binder_text c.vars) (guards_text own c.guards ++ rel_text own c.rel) (binder (names_tree c.vars))
    (premises (guards_tree own c.guards) ++ form_rel (rel_tree own c.rel)) (binder_front c.vars h.variables)
    (fronts (guards_text own c.guards) (rel_text own c.rel) (premises (guards_tree own c.guards)) (form_rel (rel_tree own c.rel))
    (guards_front own c.guards h.guards) (rel_part own c.rel h.relation))
