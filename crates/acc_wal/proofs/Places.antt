-- The events and the states with their places: of lists put together, of fronts; and they tell the items.
use Rattle.std.proofs.Common.{◌≡◌, ℕ, suc, ◌+◌, ◌≤◌, List, [], ◌∷◌, ◌++◌, length, refl, sym, ap, ◌∙◌, arith}
use Rattle.acc_base.specs.declared.machines.Event.{Event as TheEvent}
use Rattle.std.proofs.Common.{length-append}
use Rattle.std.specs.List.{flat_map}
use Rattle.std.specs.Int.{w32, to_be_bytes}
use Rattle.acc_wal.specs.Spellings.{event_bytes, body}
use Rattle.acc_wal.specs.Items.{item_bytes, item_body, event_item, events_of, seals_of, seal_bytes, AreItems}
use Rattle.acc_wal.specs.declared.items.Item.{Item}
use Rattle.acc_wal.specs.declared.items.Seal.{Seal}
use Rattle.acc_wal.specs.declared.items.Item.TheVariants.{Event, State}

abbrev Seals : Type 0
Seals = List Seal

abbrev pub seal_at : ℕ → List ℕ → Seal
seal_at place text = record { place = place; text = text }

abbrev pub state_item : List ℕ → Item
state_item t = State t

pub events_append : (a b : List Item) → events_of (a ++ b) ≡ events_of a ++ events_of b
events_append [] b = refl
events_append (Event e ∷ a) b = ap (λ (l : List TheEvent). e ∷ l) (events_append a b)
events_append (State t ∷ a) b = events_append a b

pub seals_append : (place : ℕ) (a b : List Item) → seals_of place (a ++ b) ≡ seals_of place a ++ seals_of (place + length (events_of a)) b
seals_append place [] b = ap (λ p. seals_of p b) (let e : place ≡ place + 0 = omega arith in e)
seals_append place (Event e ∷ a) b =
    seals_append (suc place) a b ∙ ap (λ p. seals_of (suc place) a ++ seals_of p b)
    (let e : suc place + length (events_of a) ≡ place + suc (length (events_of a)) = omega arith in e)
seals_append place (State t ∷ a) b = ap (λ (l : Seals). seal_at place t ∷ l) (seals_append place a b)

-- what a push of an event and of a state add
pub push_event : (place : ℕ) (items : List Item) (event : TheEvent) →
    (events_of (items ++ Event event ∷ []) ≡ events_of items ++ event ∷ [])
    × (seals_of place (items ++ Event event ∷ []) ≡ seals_of place items ++ [])
push_event place items event = (events_append items (Event event ∷ []), seals_append place items (Event event ∷ []))

pub push_state : (place : ℕ) (items : List Item) (text : List ℕ) →
    (events_of (items ++ State text ∷ []) ≡ events_of items ++ [])
    × (seals_of place (items ++ State text ∷ []) ≡ seals_of place items ++ seal_at (place + length (events_of items)) text ∷ [])
push_state place items text = (events_append items (State text ∷ []), seals_append place items (State text ∷ []))

-- items, and further ones behind them
pub all_joined : (items more : List Item) (durable tail : List TheEvent) (seals waiting : Seals) (place : ℕ) → place ≡ length durable →
    AreItems 0 items durable seals → AreItems place more tail waiting → AreItems 0 (items ++ more) (durable ++ tail) (seals ++ waiting)
all_joined items more durable tail seals waiting place at a b =
    let here : place ≡ 0 + length (events_of items) = omega (arith, at, ap length a.events_are) in record {
      events_are = ap (λ (l : List TheEvent). l ++ tail) a.events_are ∙ ap (λ (l : List TheEvent). events_of items ++ l) b.events_are
          ∙ sym (events_append items more);
      seals_are = ap (λ (l : Seals). l ++ waiting) a.seals_are ∙ ap (λ (l : Seals). seals_of 0 items ++ l) b.seals_are
          ∙ ap (λ n. seals_of 0 items ++ seals_of n more) here ∙ sym (seals_append 0 items more);
    }

-- how long a body is
pub items_long : (place : ℕ) (items : List Item) →
    length (item_body items) ≡ length (body (events_of items)) + seal_bytes (seals_of place items)
unfolding item_body body item_bytes
items_long place [] = refl
items_long place (Event e ∷ items) = omega (
  arith,
  items_long (suc place) items,
  length-append (event_bytes e) (flat_map item_bytes items),
  length-append (event_bytes e) (flat_map event_bytes (events_of items)),
)
items_long place (State t ∷ items) = omega (
  arith,
  items_long place items,
  length-append (5 ∷ to_be_bytes w32 (length t) ++ t) (flat_map item_bytes items),
  length-append (to_be_bytes w32 (length t)) t,
)

-- ---- events and states with their places tell the items

abbrev place_at : Seals → ℕ → ℕ
place_at [] other = other
place_at (seal ∷ seals) other = seal.place

-- the first place isn't below that of the list
first_place : (place : ℕ) (items : List Item) → place ≤ place_at (seals_of place items) place
first_place place [] = omega arith
first_place place (Event e ∷ items) = step (seals_of (suc place) items) (first_place (suc place) items)
  where
    step : (seals : Seals) → suc place ≤ place_at seals (suc place) → place ≤ place_at seals place
    step [] le = omega arith
    step (seal ∷ seals) le = omega (arith, le)
first_place place (State t ∷ items) = omega arith

later : (place : ℕ) (items : List Item) (text : List ℕ) (seals : Seals) → seals_of (suc place) items ≡ seal_at place text ∷ seals → ⊥
later place items text seals same =
    let le = first_place (suc place) items in
    let is : place_at (seals_of (suc place) items) (suc place) ≡ place = ap (λ (l : Seals). place_at l (suc place)) same in
    absurd (omega (arith, le, is))

abbrev rest_of : Seals → Seals
rest_of [] = []
rest_of (seal ∷ seals) = seals

abbrev text_of : Seals → List ℕ
text_of [] = []
text_of (seal ∷ seals) = seal.text

abbrev events_rest : List TheEvent → List TheEvent
events_rest [] = []
events_rest (e ∷ events) = events

abbrev first_event : TheEvent → List TheEvent → TheEvent
first_event other [] = other
first_event other (e ∷ events) = e

pub same_items : (place : ℕ) (a b : List Item) → events_of a ≡ events_of b → seals_of place a ≡ seals_of place b → a ≡ b
same_items place [] [] p q = refl
same_items place [] (Event f ∷ b) p q = absurd (omega (arith, ap length p))
same_items place [] (State t ∷ b) p q = absurd (omega (arith, ap length q))
same_items place (Event e ∷ a) [] p q = absurd (omega (arith, ap length p))
same_items place (State s ∷ a) [] p q = absurd (omega (arith, ap length q))
same_items place (Event e ∷ a) (Event f ∷ b) p q =
    ap (λ (x : TheEvent). event_item x ∷ a) (ap (first_event e) p) ∙ ap (λ (l : List Item). event_item f ∷ l)
    (same_items (suc place) a b (ap events_rest p) q)
same_items place (Event e ∷ a) (State t ∷ b) p q = absurd (later place a t (seals_of place b) q)
same_items place (State s ∷ a) (Event f ∷ b) p q = absurd (later place b s (seals_of place a) (sym q))
same_items place (State s ∷ a) (State t ∷ b) p q =
    ap (λ (x : List ℕ). state_item x ∷ a) (ap text_of q) ∙ ap (λ (l : List Item). state_item t ∷ l) (same_items place a b p (ap rest_of q))
