-- The rule of the one word: one history, whose length the word has, and what each pass knows of it.
use Rattle.std.specs.Prelude.{◌≡◌, ℕ, ◌+◌, ◌^◌, ◌<◌, ◌≤◌, ◌||◌, leb, Bool, true, false, List, [], ◌∷◌, ◌++◌, length}
use Rattle.std.specs.List.{Contains, sum_by}
use mathlib.Core.Option.{some}
use mathlib.Core.List.{IsPrefix}
use lib.ListN.{get_elem?}
use Rattle.atomic_table.specs.Table.{State}
use Rattle.atomic_table.specs.Seated.{TableId}
use Rattle.acc_base.specs.declared.machines.Event.{Event}
use Rattle.acc_pass.specs.declared.views.Known.{Known}
use Rattle.acc_pass.specs.declared.views.View.{View}
use Rattle.acc_pass.specs.Histories.{times, longer, Closed, Placed}

abbrev pub known : Bool → Bool → List Event → List (ℕ × Event) → Known
known keeps broken seen mine = record { keeps = keeps; broken = broken; seen = seen; mine = mine }

abbrev pub nothing : Known
nothing = known false false [] []

-- a view that was not joined since its last note
abbrev pub calm : Known → View
calm k = record { now = k; left = nothing; right = nothing }

abbrev pub first_view : List Event → View
first_view history = calm (known true false history [])

abbrev pub spent_view : View
spent_view = calm nothing

-- what two know together
abbrev pub merged : Known → Known → Known
merged a b = known (a.keeps || b.keeps) (a.broken || b.broken) (longer a.seen b.seen) (a.mine ++ b.mine)

abbrev pub joined : View → View → View
joined v w = record { now = merged v.now w.now; left = v.now; right = w.now }

abbrev pub kept_half : View → View
kept_half v = calm (known false v.now.broken v.now.seen v.now.mine)

abbrev pub new_half : View → View
new_half v = calm (known v.now.keeps v.now.broken v.now.seen [])

-- the number in the word
abbrev pub top_of : Bool → ℕ
top_of true = 2 ^ 63
top_of false = 0

abbrev pub word_of : List Event → Bool → ℕ
word_of log broken = length log + top_of broken

-- b knows what a knew; where a had the keeper's mark, it knew all of it
abbrev pub Told : Known → Known → Type 0
Told a b =
    IsPrefix a.seen b.seen × (a.broken ≡ true → b.broken ≡ true)
    × (a.keeps ≡ true → (b.keeps ≡ true) × (b.broken ≡ a.broken) × (b.seen ≡ a.seen))

-- the name of no table
abbrev pub no_table : TableId
no_table = record { words = 0; slots = 0; views_name = 0; atom = 0; block = 0; offset = 0; slot_names = [] }

-- what is true of each pass: it has seen all that the table began with; its places come after that, lie within what it has seen, and
-- are whole transactions as far as it has seen, each place once
pub record Knows (start : List Event) (k : Known) : Type 0 where
  pub begun : IsPrefix start k.seen
  pub later : (at : ℕ) (e : Event) → Contains k.mine (at, e) → length start ≤ at
  pub placed : Placed k.seen k.mine
  pub closed : Closed k.seen k.mine
  pub once : (at : ℕ) → times at k.mine ≤ 1

-- what the rule says of the view of one seat
pub record Fits (seat : ℕ) (log : List Event) (broken : Bool) (by : ℕ) (v : View) : Type 0 where
  pub keeps : v.now.keeps ≡ true → (by ≡ seat) × (v.now.seen ≡ log) × (v.now.broken ≡ broken)
  pub seen : IsPrefix v.now.seen log
  pub broken_only : v.now.broken ≡ true → broken ≡ true
  pub placed : Placed v.now.seen v.now.mine
  pub closed : Closed log v.now.mine
  pub left : Told v.left v.now
  pub right : Told v.right v.now

-- The rule. There is one history; one seat has the keeper's mark, and knows it whole; the word has its length, and the top bit where
-- the keeper is broken; no place stands in two `mine`.
pub record Kept {S : Type 0} (key : List Event) (s : State S View) : Type 0 where
  pub seat : ℕ
  pub log : List Event
  pub broken : Bool
  pub word : s.words ≡ word_of log broken ∷ []
  pub short : length log < 2 ^ 63
  pub keeper : (v : View) × (get_elem? s.views seat ≡ some v) × (v.now.keeps ≡ true)
  pub fits : (by : ℕ) (v : View) → get_elem? s.views by ≡ some v → Fits seat log broken by v
  pub apart : (k : ℕ) → sum_by (λ (v : View). times k v.now.mine) s.views ≤ 1
  pub old : IsPrefix key log

-- the keeper's view after an append
abbrev pub appended : Event → View → View
appended e v = calm (known v.now.keeps v.now.broken (v.now.seen ++ e ∷ []) (v.now.mine ++ (length v.now.seen, e) ∷ []))

-- the view after a note: broken where the top bit is found
abbrev pub noted : View → ℕ → View
noted v found = calm (known v.now.keeps (leb (2 ^ 63) found) v.now.seen v.now.mine)

-- a note tells what the rule says of the own view
abbrev pub Noted : View → ℕ → View → Type 0
Noted v found w =
    (w ≡ noted v found) × Told v.left w.now × Told v.right w.now × Told v.now w.now
    × Placed w.now.seen w.now.mine × Closed w.now.seen w.now.mine × ((at : ℕ) → times at w.now.mine ≤ 1)

abbrev pub broke : View → View
broke v = calm (known v.now.keeps true v.now.seen v.now.mine)
