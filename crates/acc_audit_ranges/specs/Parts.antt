-- How many keys have which value at which place.
use Rattle.std.specs.Prelude.{◌≡◌, ℕ, ◌+◌, ◌-◌, ◌==◌, Bool, ◌&&◌, cond, Option, Some, None, ℤ, slice_get, count_by}
use Rattle.std.specs.declared.cmp.Ordering.{Ordering}
use Rattle.std.specs.Ordering.{int_cmp, nat_cmp, ordering_then}
use Rattle.std.specs.BTreeMap.{BTreeMap, get}
use Rattle.std.specs.BTreeSet.{BTreeSet}
use Rattle.acc_base.specs.Tables.{Place}
use Rattle.acc_audit_ranges.specs.declared.parts.Way.{Way}
use Rattle.acc_audit_ranges.specs.declared.parts.Way.TheVariants.{In, Out}
use Rattle.acc_audit_ranges.specs.Ranges.{same, is_part}

abbrev pub Values : Type 0
Values = BTreeMap ℤ ℕ

abbrev pub Parts : Type 0
Parts = BTreeMap (ℕ × ℕ) Values

abbrev pub spot_cmp : ℕ × ℕ → ℕ × ℕ → Ordering
spot_cmp p q = ordering_then (nat_cmp p.0 q.0) (nat_cmp p.1 q.1)

-- how many keys have a value; none where nothing is counted
abbrev pub counted : Option ℕ → ℕ
counted None = 0
counted (Some n) = n

abbrev pub number : Values → ℤ → ℕ
number values q = counted (get int_cmp values q)

abbrev pub number_in : Option Values → ℤ → ℕ
number_in None q = 0
number_in (Some values) q = number values q

-- how many keys of table t have q at place j
abbrev pub number_at : Parts → ℕ → ℕ → ℤ → ℕ
number_at parts t j q = number_in (get spot_cmp parts (t, j)) q

-- ---- keys that come or go

abbrev pub changed : Way → ℕ → Bool → ℕ
changed In n b = n + cond b 1 0
changed Out n b = n - cond b 1 0

-- one key more or less has x
abbrev pub CountsIn : Way → ℤ → Values → Values → Type 0
CountsIn way x old new = (q : ℤ) → number new q ≡ changed way (number old q) (same x q)

-- one key more or less has what passes the test
abbrev pub Counts : Way → (ℕ → ℕ → ℤ → Bool) → Parts → Parts → Type 0
Counts way test old new = (t j : ℕ) (q : ℤ) → number_at new t j q ≡ changed way (number_at old t j q) (test t j q)

-- whether that is value x at a place of a table's keys
abbrev pub is_there : ℕ → ℕ → ℤ → ℕ → ℕ → ℤ → Bool
is_there table place x t j q = ((table == t) && (place == j)) && same x q

-- whether the key at a place is of table t, with q at place j
abbrev pub has_at : ℕ → ℕ → ℤ → Place → Bool
has_at t j q p = (p.0 == t) && is_part q (slice_get p.1 j)

-- the values at a place of a table's keys were taken, and the others stay
abbrev pub is_spot : ℕ → ℕ → ℕ → ℕ → Bool
is_spot table place t j = (table == t) && (place == j)

pub record Takes (table place : ℕ) (old new : Parts) (values : Values) : Type 0 where
  pub taken : (q : ℤ) → number values q ≡ number_at old table place q
  pub others : (t j : ℕ) (q : ℤ) → number_at new t j q ≡ cond (is_spot table place t j) 0 (number_at old t j q)

-- what is counted is how many of some places have each value
abbrev pub AreCounted : Parts → BTreeSet Place → Type 0
AreCounted parts places = (t j : ℕ) (q : ℤ) → number_at parts t j q ≡ count_by (has_at t j q) places.keys
