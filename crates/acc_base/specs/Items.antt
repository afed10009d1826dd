-- Items of a list by number, counted from 1: 0 names none. And numbers one after the other.
use Rattle.std.specs.Prelude.{ℕ, zero, suc, ◌+◌, ◌-◌, ◌==◌, if◌then◌else◌, List, [], ◌∷◌, Option, None, slice_get, slice_set}

-- the item with this number
abbrev pub item_at : {T : Type 0} → ℕ → List T → Option T
item_at k items = if k == 0 then None else slice_get items (k - 1)

-- the items, the one with this number exchanged for another
abbrev pub with_item : {T : Type 0} → ℕ → T → List T → List T
with_item k item items = if k == 0 then items else slice_set items (k - 1) item

-- so many numbers from one on
abbrev pub numbers_from : ℕ → ℕ → List ℕ
numbers_from first zero = []
numbers_from first (suc n) = first ∷ numbers_from (first + 1) n
