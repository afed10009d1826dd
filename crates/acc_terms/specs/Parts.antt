-- Terms, each of an unknown or constant.
use Rattle.std.specs.Prelude.{◌≤◌, ◌^◌, List, ◌++◌, map, Some, None, ℤ, pos, ◌-ℤ◌, unsigned_abs}
use Rattle.acc_base.specs.Numbers.{total}
use Rattle.acc_terms.specs.declared.parts.Part.{Part}

-- a term whose number is within 2^64 of 0
abbrev pub IsTermSized : {K : Type 0} → Part K → Type 0
IsTermSized p = unsigned_abs p.number ≤ 2 ^ 64

-- a term with its sign changed
abbrev pub negated : {K : Type 0} → Part K → Part K
negated p = record { of = p.of; number = pos 0 -ℤ p.number }

-- the terms of the left side, and then those of the right side with their signs changed
abbrev pub difference : {K : Type 0} → List (Part K) → List (Part K) → List (Part K)
difference a b = a ++ map negated b

-- the number of a constant term, and 0 for another
abbrev pub constant_in : {K : Type 0} → Part K → ℤ
constant_in p = elim p.of [ None ↦ p.number | Some x ↦ pos 0 ]

-- the sum of the numbers of the constant terms
abbrev pub constant_of : {K : Type 0} → List (Part K) → ℤ
constant_of parts = total (map constant_in parts)
