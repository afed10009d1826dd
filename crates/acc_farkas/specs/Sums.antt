-- The weighted sum of relations, and when multipliers refute them.
use Rattle.std.specs.Prelude.{ℕ, ◌+◌, Bool, true, false, not, ◌&&◌, ◌||◌, if◌then◌else◌, List, [], ◌∷◌, length, Option, Some, None}
use Rattle.std.specs.Prelude.{nat_le, nat_lt, slice_get, ℤ, pos, ◌+ℤ◌, ◌*ℤ◌, int_le, int_lt}
use Rattle.std.specs.List.{list_all, list_any}
use Rattle.acc_base.specs.declared.forms.Form.{Form}
use Rattle.acc_base.specs.declared.forms.Rel.{Rel}
use Rattle.acc_base.specs.Bounded.{is_wide}
use Rattle.acc_base.specs.UnknownEquality.{is_bare_one}
use Rattle.acc_base.specs.Sums.{Term, multiple, with_term, grown, is_left}

-- the place of a relation, and its multiplier
abbrev pub Pair : Type 0
Pair = ℕ × ℤ

-- the places rise from a number, and are below n
abbrev pub rises : ℕ → ℕ → List Pair → Bool
rises from n [] = true
rises from n (p ∷ ps) = nat_le from p.0 && (nat_lt p.0 n && rises (p.0 + 1) n ps)

abbrev pub nothing : Form
nothing = record { terms = []; constant = pos 0 }

-- ---- the weighted sum

-- a multiple of a number is added to the constant
abbrev pub plus_number : ℤ → ℤ → Form → Form
plus_number by n s = record s { constant = s.constant +ℤ by *ℤ n }

-- a multiple of a term is added to that of its unknown; the number 1 without condition counts as 1
abbrev pub plus_term : ℤ → Term → Form → Form
plus_term by t s =
    if is_bare_one t.0 then plus_number by t.1 s else record s { terms = with_term (multiple by t) s.terms }

abbrev pub plus_terms : ℤ → List Term → Form → Form
plus_terms by [] s = s
plus_terms by (t ∷ ts) s = plus_terms by ts (plus_term by t s)

-- a multiple of a form: its terms, one after the other, and then its constant
abbrev pub plus_multiple : ℤ → Form → Form → Form
plus_multiple by g s = plus_number by g.constant (plus_terms by g.terms s)

-- a multiple of a relation, where there is one
abbrev pub plus_relation : ℤ → Option Rel → Form → Form
plus_relation by None s = s
plus_relation by (Some r) s = plus_multiple by r.form s

abbrev pub weighted : List Rel → List Pair → Form → Form
weighted rels [] s = s
weighted rels (p ∷ ps) s = weighted rels ps (plus_relation p.1 (slice_get rels p.0) s)

-- ---- whether a number of it is beyond 2^120 on either side of 0: a product, a coefficient or a constant on the way

abbrev pub is_number_wide : ℤ → ℤ → Form → Bool
is_number_wide by n s = is_wide (by *ℤ n) || is_wide (s.constant +ℤ by *ℤ n)

abbrev pub is_term_wide : ℤ → Term → Form → Bool
is_term_wide by t s =
    if is_bare_one t.0 then is_number_wide by t.1 s else (is_wide (by *ℤ t.1) || is_wide (grown (multiple by t) s.terms))

abbrev pub are_terms_wide : ℤ → List Term → Form → Bool
are_terms_wide by [] s = false
are_terms_wide by (t ∷ ts) s = is_term_wide by t s || are_terms_wide by ts (plus_term by t s)

abbrev pub is_multiple_wide : ℤ → Form → Form → Bool
is_multiple_wide by g s = are_terms_wide by g.terms s || is_number_wide by g.constant (plus_terms by g.terms s)

abbrev pub is_relation_wide : ℤ → Option Rel → Form → Bool
is_relation_wide by None s = false
is_relation_wide by (Some r) s = is_multiple_wide by r.form s

abbrev pub is_weighted_wide : List Rel → List Pair → Form → Bool
is_weighted_wide rels [] s = false
is_weighted_wide rels (p ∷ ps) s =
    is_relation_wide p.1 (slice_get rels p.0) s || is_weighted_wide rels ps (plus_relation p.1 (slice_get rels p.0) s)

-- ---- multipliers that refute

-- a relation may have a multiplier: that of one that isn't an equation isn't negative
abbrev pub may_have : ℤ → Option Rel → Bool
may_have m None = false
may_have m (Some r) = r.equal || int_le (pos 0) m

abbrev pub signs : List Rel → List Pair → Bool
signs rels ps = list_all (λ p. may_have p.1 (slice_get rels p.0)) ps

-- a form without unknowns whose constant is positive
abbrev pub is_positive : Form → Bool
is_positive s = not (list_any is_left s.terms) && int_lt (pos 0) s.constant

-- the places rise and are there, no multiplier of an inequality is negative, and the sum is a positive constant
abbrev pub refutes_all : List Rel → List Pair → Bool
refutes_all rels ps = rises 0 (length rels) ps && (signs rels ps && is_positive (weighted rels ps nothing))

-- where the places rise and are there the sum is computed, and a number of it may be too large
abbrev pub is_refuting_wide : List Rel → List Pair → Bool
is_refuting_wide rels ps = rises 0 (length rels) ps && is_weighted_wide rels ps nothing
