-- Parts of a JSON value, and where the first one stands that isn't of its shape.
use Rattle.std.specs.Prelude.{ℕ, ◌+◌, if◌then◌else◌, List, [], ◌∷◌, Option, Some, None, is_some}
use Rattle.serde_json.specs.Data.{Data, Items, no_items, item}
use Rattle.serde_json.specs.Find.{at, as_array}

-- what a part says, or the path from it to the first part that isn't of its shape
pub data Part (A : Type 0) : Type 0 where
  Good : (x : A) → Part A
  Off : (path : List ℕ) → Part A

abbrev pub and_then : {A B : Type 0} → Part A → (A → Part B) → Part B
and_then (Good x) f = f x
and_then (Off path) f = Off path

abbrev pub gives : {A B : Type 0} → (A → B) → Part A → Part B
gives f (Good x) = Good (f x)
gives f (Off path) = Off path

-- the part is the item of this number
abbrev pub under : {A : Type 0} → ℕ → Part A → Part A
under i (Good x) = Good x
under i (Off path) = Off (i ∷ path)

-- where there is none, the value itself is off
abbrev pub given : {A : Type 0} → Option A → Part A
given None = Off []
given (Some x) = Good x

-- the item of this number; where there is none, or the value is no array, the value itself is off
abbrev pub field : {A : Type 0} → ℕ → (Data → Part A) → Data → Part A
field i f d = and_then (given (at i d)) (λ e. under i (f e))

-- the array has no item of this number
abbrev pub ends : {A : Type 0} → ℕ → A → Data → Part A
ends i x d = if is_some (at i d) then Off (i ∷ []) else Good x

-- one, two or three items from this number on, and no others
abbrev pub one : {A : Type 0} → ℕ → (Data → Part A) → Data → Part A
one i f d = and_then (field i f d) (λ a. ends (i + 1) a d)

abbrev pub two : {A B : Type 0} → ℕ → (Data → Part A) → (Data → Part B) → Data → Part (A × B)
two i f g d = and_then (field i f d) (λ a. and_then (field (i + 1) g d) (λ b. ends (i + 2) (a, b) d))

abbrev pub three : {A B C : Type 0} → ℕ → (Data → Part A) → (Data → Part B) → (Data → Part C) → Data → Part (A × B × C)
three i f g h d =
    and_then (field i f d) (λ a. and_then (field (i + 1) g d) (λ b. and_then (field (i + 2) h d) (λ c. ends (i + 3) (a, b, c) d)))

-- items of one kind, the first of them of this number
abbrev pub items_from : {A : Type 0} → (Data → Part A) → ℕ → Items → Part (List A)
items_from f i no_items = Good []
items_from f i (item d ds) = and_then (under i (f d)) (λ x. gives (λ xs. x ∷ xs) (items_from f (i + 1) ds))

-- an array of items of one kind
abbrev pub list_of : {A : Type 0} → (Data → Part A) → Data → Part (List A)
list_of f d = and_then (given (as_array d)) (items_from f 0)
