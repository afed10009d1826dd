-- The places where rows stand, or have stood.
use Rattle.std.specs.Prelude.{◌≡◌, ⊤, ℕ, Bool, true, false, Result, Ok, Err, ◌&&◌, ◌||◌, List, ℤ, nat_le}
use Rattle.std.specs.List.{list_any, AllByRecursion}
use Rattle.std.specs.Ordering.{is_eq}
use Rattle.std.specs.BTreeSet.{BTreeSet, contains}
use Rattle.acc_base.specs.declared.tables.Row.{Row}
use Rattle.acc_base.specs.Tables.{Place, place_of, place_cmp, is_at}
use Rattle.acc_store.specs.declared.writes.Write.{Write}
use Rattle.acc_store.specs.declared.writes.Write.TheVariants.{Row as Puts, Gone}
use Rattle.acc_index_store.specs.Indexes.{are_naming}
use Rattle.acc_audit_ranges.specs.declared.noted.Noted.{Noted}
use Rattle.acc_audit_ranges.specs.Parts.{AreCounted}
use Rattle.acc_audit_ranges.specs.Ranges.{same}

-- each of some rows stands at one of the places
abbrev pub Covers : BTreeSet Place → List Row → Type 0
Covers places db = AllByRecursion (λ r. contains place_cmp places (place_of r) ≡ true) db

-- no place is left out
abbrev pub Grows : BTreeSet Place → BTreeSet Place → Type 0
Grows old new = (p : Place) → contains place_cmp old p ≡ true → contains place_cmp new p ≡ true

-- where a write puts a row is one of the places
abbrev pub IsNoted : BTreeSet Place → Write → Type 0
IsNoted places (Puts r) = contains place_cmp places (place_of r) ≡ true
IsNoted places (Gone t k) = ⊤

-- no place came but this one, or those that some writes name
abbrev pub IsAllBut : Place → BTreeSet Place → BTreeSet Place → Type 0
IsAllBut place old new = (p : Place) → contains place_cmp new p ≡ true → (contains place_cmp old p || is_eq (place_cmp p place)) ≡ true

abbrev pub AreWithin : List Write → BTreeSet Place → BTreeSet Place → Type 0
AreWithin ws old new = (p : Place) → contains place_cmp new p ≡ true → (contains place_cmp old p || are_naming ws p) ≡ true

-- a row stands at a place, if that is noted
abbrev pub Stands : BTreeSet Place → List Row → Place → Type 0
Stands places db p = contains place_cmp places p ≡ true → list_any (is_at p.0 p.1) db ≡ true

-- what was counted of the places is
abbrev pub StaysCounted : Noted → Noted → Type 0
StaysCounted old new = AreCounted old.parts old.places → AreCounted new.parts new.places

-- a row stands at each of the places, and they are counted
pub record IsExact (noted : Noted) (db : List Row) : Type 0 where
  pub stand : (p : Place) → Stands noted.places db p
  pub counted : AreCounted noted.parts noted.places

-- whether a number of keys have a value, of this one
abbrev pub shows : ℤ → ℤ × ℕ → Bool
shows q e = nat_le 1 e.1 && same e.0 q

-- whether what was so is so still, where that didn't fail
abbrev pub still : {A E : Type 0} → Bool → Result A E → Bool
still whole (Ok x) = whole
still whole (Err e) = false
