-- Totals of rows whose keys begin alike, by what they begin with.
use Rattle.std.specs.Prelude.{◌≡◌, ℕ, ◌+◌, ◌-◌, ◌⊎◌, min, Bool, true, false, cond, ◌==◌, if◌then◌else◌, List, Option, Some, None}
use Rattle.std.specs.Prelude.{is_some, Vec}
use Rattle.std.specs.Prelude.{ℤ, pos, ◌+ℤ◌, ◌-ℤ◌}
use Rattle.std.specs.Ordering.{int_cmp, is_eq}
use Rattle.std.specs.Cmp.Lexicographic.{slice_cmp}
use Rattle.std.specs.Map.{lookup}
use Rattle.std.specs.BTreeMap.{is_at}
use Rattle.std.specs.Global.{Global}
use Rattle.acc_index_store.specs.declared.totals.TheConstants.{UNCOUNTED}
use Rattle.acc_index_store.specs.declared.totals.Total.{Total}
use Rattle.acc_index_store.specs.declared.totals.Way.{Way}
use Rattle.acc_index_store.specs.declared.totals.Way.TheVariants.{In, Out}

-- ---- one total

-- what is kept is the number of rows, or says that it isn't known
abbrev pub Counts : ℕ → ℕ → Type 0
Counts kept n = (kept ≡ n) ⊎ (kept ≡ UNCOUNTED)

abbrev pub more : ℕ → ℕ
more n = min (n + 1) UNCOUNTED

abbrev pub fewer : ℕ → ℕ
fewer n = if n == UNCOUNTED then n else n - 1

-- a total with a row of this value more, if there is one, or less
abbrev pub with_row : Option ℤ → Total → Total
with_row None v = v
with_row (Some x) v = record { rows = more v.rows; sum = v.sum +ℤ x }

abbrev pub without_row : Option ℤ → Total → Total
without_row None v = v
without_row (Some x) v = record { rows = fewer v.rows; sum = v.sum -ℤ x }

abbrev pub counted : Way → Option ℤ → Total → Total
counted In x v = with_row x v
counted Out x v = without_row x v

-- ---- totals by prefix

abbrev pub Entries : Type 0
Entries = List (Vec ℤ Global × Total)

abbrev pub is_same : List ℤ → List ℤ → Bool
is_same p q = is_eq (slice_cmp int_cmp p q)

abbrev pub entry : List ℤ → Entries → Option Total
entry p es = lookup (is_at (λ k. slice_cmp int_cmp p k.items)) es

abbrev pub or_none : Option Total → Total
or_none None = record { rows = 0; sum = pos 0 }
or_none (Some v) = v

-- the total under a prefix, which is that of no row where there is none
abbrev pub found : List ℤ → Entries → Total
found p es = or_none (entry p es)

abbrev pub has_total : Entries → List ℤ → Bool
has_total es p = is_some (entry p es)

abbrev pub is_blank_in : Option Total → Bool
is_blank_in None = false
is_blank_in (Some v) = v.rows == 0

-- the same total under each prefix
abbrev pub IsSame : Entries → Entries → Type 0
IsSame es fs = (p : List ℤ) → found p fs ≡ found p es

-- no prefix loses its total
abbrev pub KeepsRoom : Entries → Entries → Type 0
KeepsRoom es fs = (p : List ℤ) → has_total es p ≡ true → has_total fs p ≡ true

-- the total under one prefix was changed, and the others are as before
abbrev pub Changes : (Total → Total) → List ℤ → Entries → Entries → Type 0
Changes change q es fs = (p : List ℤ) → found p fs ≡ cond (is_same q p) (change (found p es)) (found p es)
