-- Who stands under which key.
use Rattle.std.specs.Prelude.{◌≡◌, ℕ, Bool, true, false, ◌||◌, All, List, [], ◌∷◌, Option, Some, None, cond}
use Rattle.std.specs.Map.{lookup}
use Rattle.acc_lock_holders.specs.Keys.{Key, key_eq}
use Rattle.acc_lock_holders.specs.Numbers.{Numbers, has_room, is_among}

abbrev pub Entries : Type 0
Entries = List (Key × Numbers)

abbrev pub items_in : Option Numbers → List ℕ
items_in None = []
items_in (Some n) = n.items

abbrev pub room_in : Option Numbers → Bool
room_in None = false
room_in (Some n) = has_room n

abbrev pub found : Key → Entries → Option Numbers
found k es = lookup (key_eq k) es

-- the numbers under a key
abbrev pub under : Key → Entries → List ℕ
under k es = items_in (found k es)

-- there is an entry of the key with room for one more
abbrev pub HasRoom : Entries → Key → Type 0
HasRoom es k = room_in (found k es) ≡ true

-- the room of no key is lost
abbrev pub KeepsRoom : Entries → Entries → Type 0
KeepsRoom es fs = (k : Key) → HasRoom es k → HasRoom fs k

-- there is room for one more under each of some keys
abbrev pub HaveRoom : Entries → List Key → Type 0
HaveRoom es keys = All (HasRoom es) keys

-- a number is under a key, or there is room for it
abbrev pub can_take : ℕ → Key → Entries → Bool
can_take t k es = is_among t (under k es) || room_in (found k es)

-- under no key this is lost
abbrev pub CanTakeAll : ℕ → Entries → Entries → Type 0
CanTakeAll t es fs = (k : Key) → can_take t k es ≡ true → can_take t k fs ≡ true

-- the same numbers under each key
abbrev pub IsSame : Entries → Entries → Type 0
IsSame es fs = (k : Key) → under k fs ≡ under k es

-- the numbers under a key, where those under one key were changed
abbrev pub changed : (List ℕ → List ℕ) → Key → Key → List ℕ → List ℕ
changed change key k ts = cond (key_eq key k) (change ts) ts

-- the numbers under one key were changed, and those under other keys are as before
abbrev pub Changes : (List ℕ → List ℕ) → Key → Entries → Entries → Type 0
Changes change key es fs = (k : Key) → under k fs ≡ changed change key k (under k es)

-- the numbers under a key, once those under each of some keys were changed
abbrev pub changed_all : (List ℕ → List ℕ) → List Key → Key → List ℕ → List ℕ
changed_all change [] k ts = ts
changed_all change (key ∷ keys) k ts = changed_all change keys k (changed change key k ts)

abbrev pub ChangesAll : (List ℕ → List ℕ) → List Key → Entries → Entries → Type 0
ChangesAll change keys es fs = (k : Key) → under k fs ≡ changed_all change keys k (under k es)

-- the key has an entry, with no number
pub record IsBlank (es : Entries) (k : Key) : Type 0 where
  pub numbers : Numbers
  pub is_found : found k es ≡ Some numbers
  pub none : numbers.items ≡ []

-- none of some keys is blank
abbrev pub HaveNoBlank : Entries → List Key → Type 0
HaveNoBlank es keys = All (λ k. ¬ IsBlank es k) keys

-- no key has become blank
abbrev pub MakesNoBlank : Entries → Entries → Type 0
MakesNoBlank es fs = (k : Key) → IsBlank fs k → IsBlank es k
