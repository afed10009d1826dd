-- The relations of an elimination, read from relations between unknowns: the number 1 without condition is part of the constant, the
-- unknowns are numbered from 0 in the order in which they first appear, and each relation was made once by itself.
use Rattle.std.specs.Prelude.{ℕ, suc, ◌||◌, if◌then◌else◌, List, [], ◌∷◌, ◌++◌, length, position, Option, Ok, ℤ, pos}
use Rattle.std.specs.Option.{is_some, option_map_or}
use Rattle.std.specs.List.{fold}
use Rattle.std.specs.Ordering.{int_eq}
use Rattle.acc_base.specs.declared.forms.Unknown.{Unknown}
use Rattle.acc_base.specs.declared.forms.Rel.{Rel}
use Rattle.acc_base.specs.UnknownEquality.{unknown_eq, is_bare_one}
use Rattle.acc_rows.specs.declared.rows.Row.{Row}
use Rattle.acc_base.specs.Computing.{chain, steps}
use Rattle.acc_rows.specs.Answers.{Computation}
use Rattle.acc_rows.specs.Numbers.{kept, sum}
use Rattle.acc_rows.specs.Sparse.{Sparse, mixed}

-- ---- the unknowns

-- the place of an unknown among others
abbrev pub place_of : List Unknown → Unknown → Option ℕ
place_of names u = position (λ v. unknown_eq v u) names

-- one more unknown, unless it stands there
abbrev pub with_name : List Unknown → Unknown → List Unknown
with_name names u = if is_some (place_of names u) then names else names ++ u ∷ []

abbrev pub with_term : List Unknown → Unknown × ℤ → List Unknown
with_term names t = if is_bare_one t.0 then names else with_name names t.0

abbrev pub with_rel : List Unknown → Rel → List Unknown
with_rel names r = fold with_term names r.form.terms

-- each unknown once, in the order of first appearance
abbrev pub unknowns_of : List Rel → List Unknown
unknowns_of rels = fold with_rel [] rels

-- ---- the relations

-- what is added to the constant for a term
abbrev pub read_number : ℤ → Unknown × ℤ → Computation ℤ
read_number constant t = if is_bare_one t.0 then sum constant t.1 else Ok constant

-- so many times the unknown with this number, beside the terms so far
abbrev pub with_number : Sparse → ℤ → ℕ → Computation Sparse
with_number terms n number = mixed (pos 1) (pos 1) terms ((number, n) ∷ [])

-- one more term, beside those so far. An unknown that isn't among the names is worth 0
abbrev pub read_term : List Unknown → Sparse → Unknown × ℤ → Computation Sparse
read_term names terms t =
    if is_bare_one t.0 || int_eq t.1 (pos 0) then Ok terms
    else option_map_or (with_number terms t.1) (place_of names t.0) (Ok terms)

-- the list with 1 at a place
abbrev pub once : ℕ → Sparse
once place = (place, pos 1) ∷ []

abbrev pub row_of : List Unknown → ℕ → Rel → Computation Row
row_of names place r =
    chain (chain (kept r.form.constant) (λ first. steps read_number first r.form.terms))
    (λ constant. chain (steps (read_term names) [] r.form.terms)
    (λ terms. Ok (record { terms = terms; constant = constant; equal = r.equal; by = once place })))

abbrev pub row_alone : List Unknown → ℕ → Rel → Computation (List Row)
row_alone names place r = chain (row_of names place r) (λ row. Ok (row ∷ []))

abbrev pub rows_from : List Unknown → ℕ → List Rel → Computation (List Row)
rows_from names place [] = Ok []
rows_from names place (r ∷ rs) =
    chain (row_of names place r) (λ row. chain (rows_from names (suc place) rs) (λ rows. Ok (row ∷ rows)))

-- ---- one relation after the other

-- the unknowns and the rows of the relations that were read
abbrev pub Read : Type 0
Read = List Unknown × List Row

-- one more relation is read, with its own unknowns behind the others
abbrev pub read_next : Read → Rel → Computation Read
read_next s r = chain (row_of (with_rel s.0 r) (length s.1) r) (λ row. Ok (with_rel s.0 r, s.1 ++ row ∷ []))
