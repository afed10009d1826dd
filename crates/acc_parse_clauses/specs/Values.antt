-- What linear values and relations between them stand for: terms of one variable are collected.
use Rattle.std.specs.Prelude.{ℕ, Bool, true, false, if◌then◌else◌, ◌==◌, List, [], ◌∷◌, map, Option, Some, None, ℤ, pos}
use Rattle.acc_base.specs.Numbers.{is_small}
use Rattle.acc_base.specs.declared.forms.Lin.{Lin}
use Rattle.acc_base.specs.declared.forms.LinRel.{LinRel}
use Rattle.acc_terms.specs.declared.parts.Part.{Part}
use Rattle.acc_terms.specs.declared.collecting.Terms.{Terms}
use Rattle.acc_terms.specs.Parts.{negated, difference, constant_of}
use Rattle.acc_terms.specs.Collected.{collected}
use Rattle.acc_parse_syntax.specs.declared.trees.Term.{Term}
use Rattle.acc_parse_syntax.specs.declared.trees.Term.TheVariants.{Constant, Plain, Product}
use Rattle.acc_parse_syntax.specs.declared.trees.SignedTerm.{SignedTerm}
use Rattle.acc_parse_syntax.specs.declared.trees.Sum.{Sum}
use Rattle.acc_parse_syntax.specs.declared.trees.Sums.{Sums}
use Rattle.acc_parse_syntax.specs.declared.trees.Relation.{Relation}
use Rattle.acc_parse_syntax.specs.declared.trees.Relation.TheVariants.{AtMost, AtLeast, Equal}
use Rattle.acc_parse_syntax.specs.declared.trees.LinRelTree.{LinRelTree}
use Rattle.acc_parse_syntax.specs.declared.trees.LinRels.{LinRels}
use Rattle.acc_parse_clauses.specs.Scopes.{Variables, variable_of}

-- ---- terms

-- a number times what it multiplies; a number alone
abbrev pub multiple : {K : Type 0} → ℕ → K → Part K
multiple n x = record { of = Some x; number = pos n }

abbrev pub alone : {K : Type 0} → ℕ → Part K
alone n = record { of = None; number = pos n }

abbrev pub part_of : Variables → Term → Part ℕ
part_of v (Constant n) = alone n
part_of v (Plain x) = multiple 1 (variable_of v x)
part_of v (Product n x) = multiple n (variable_of v x)

-- a term behind a plus or a minus
abbrev pub signed : {K : Type 0} → Bool → Part K → Part K
signed minus p = if minus then negated p else p

abbrev pub signed_part : Variables → SignedTerm → Part ℕ
signed_part v t = signed t.minus (part_of v t.term)

-- the terms of a linear value
abbrev pub parts_of : Variables → Sum → List (Part ℕ)
parts_of v s = signed s.minus (part_of v s.first) ∷ map (signed_part v) s.others

-- ---- collected

-- one term an unknown, by a test of whether two are the same, and the constant
abbrev pub collected_by : {K : Type 0} → (K → K → Bool) → List (Part K) → Terms K
collected_by is_same parts = record { terms = collected is_same parts; constant = constant_of parts }

-- a number of a linear value: 0 where it is too large, and then the text passes a limit
abbrev pub kept : ℤ → ℤ
kept n = if is_small n then n else pos 0

abbrev pub kept_term : ℕ × ℤ → ℕ × ℤ
kept_term t = (t.0, kept t.1)

abbrev pub lin_by : Terms ℕ → Lin
lin_by t = record { coeffs = map kept_term t.terms; constant = kept t.constant }

-- the terms of a linear value, collected
abbrev pub terms_of : Variables → Sum → Terms ℕ
terms_of v s = collected_by ◌==◌ (parts_of v s)

-- the linear value that is written
abbrev pub lin_of : Variables → Sum → Lin
lin_of v s = lin_by (terms_of v s)

abbrev pub all_sums : Sums → List Sum
all_sums ss = ss.first ∷ ss.others

abbrev pub lins_of : Variables → Sums → List Lin
lins_of v ss = map (lin_of v) (all_sums ss)

-- the values of a row's columns, of which there may be none
abbrev pub values_of : Variables → Option Sums → List Lin
values_of v None = []
values_of v (Some ss) = lins_of v ss

-- ---- relations: `a <= b` is `a - b <= 0`, `a >= b` is `b - a <= 0`, and `a = b` is `a - b = 0`

-- the terms that are compared with 0
abbrev pub compared : {K : Type 0} → Relation → List (Part K) → List (Part K) → List (Part K)
compared AtMost a b = difference a b
compared AtLeast a b = difference b a
compared Equal a b = difference a b

abbrev pub is_equation : Relation → Bool
is_equation AtMost = false
is_equation AtLeast = false
is_equation Equal = true

abbrev pub lin_rel_terms : Variables → LinRelTree → Terms ℕ
lin_rel_terms v r = collected_by ◌==◌ (compared r.relation (parts_of v r.left) (parts_of v r.right))

abbrev pub lin_rel_of : Variables → LinRelTree → LinRel
lin_rel_of v r = record { lin = lin_by (lin_rel_terms v r); equal = is_equation r.relation }

-- the relations of a guard, which may be left out
abbrev pub all_rels : Option LinRels → List LinRelTree
all_rels None = []
all_rels (Some rs) = rs.first ∷ rs.others

abbrev pub guard_of : Variables → Option LinRels → List LinRel
guard_of v g = map (lin_rel_of v) (all_rels g)
