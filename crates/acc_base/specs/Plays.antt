-- A play of calls in a given order, on any machine.
use Rattle.std.specs.Prelude.{◌≡◌, ℕ, List, [], ◌∷◌, ◌++◌, length, replicate, Option, Some, None, IsSome, option_and_then}
use Rattle.acc_base.specs.declared.designs.Design.{Design}
use Rattle.acc_base.specs.declared.machines.Call.{Call}
use Rattle.acc_base.specs.declared.machines.Event.TheVariants.{Begin}
use Rattle.acc_base.specs.declared.machines.Reply.{Reply}
use Rattle.acc_base.specs.declared.machines.Turn.{Turn}
use Rattle.acc_base.specs.Items.{item_at, with_item}
use Rattle.acc_base.specs.Machine.{World, start, next_number, reply_at, after_event}
use Rattle.acc_base.specs.Turns.{turn_of}

-- ---- machines

-- What a machine may do in a state: the state after a call begins, or none where the machine is full; and what is said of the turn of
-- a transaction that hasn't ended and the state after it, or none where it has no turn.
pub record Rules : Type 1 where
  pub begins : World → Call → Option World → Type 0
  pub turns : World → ℕ → Option (Turn × World) → Type 0

-- a call begins on the plain machine, which is never full
abbrev pub BeginsPlainly : Design → World → Call → Option World → Type 0
BeginsPlainly d w call x = (after_event d w (Begin call) ≡ x) × IsSome x

-- the plain machine: nothing waits for another's end
abbrev pub plain : Design → Rules
plain d = record { begins = BeginsPlainly d; turns = λ w t x. turn_of d w t ≡ x }

-- in each state the machine may do one thing only
pub record IsDetermined (m : Rules) : Type 0 where
  pub begins : (w : World) (call : Call) (x y : Option World) → m.begins w call x → m.begins w call y → x ≡ y
  pub turns : (w : World) (t : ℕ) (x y : Option (Turn × World)) → m.turns w t x → m.turns w t y → x ≡ y

-- ---- plays

-- The machine's state; by place, the number of its transaction, none where the place hasn't begun; and by number, the place of the
-- transaction. A place is a call's number from 1.
pub record Play : Type 0 where
  pub world : World
  pub numbers : List (Option ℕ)
  pub places : List ℕ

-- what is told of a mention: the place's turn; that its undo step is out of range; that it had ended before; or that it can't begin
pub data Told : Type 0 where
  Turns : (place : ℕ) (turn : Turn) → Told
  IsStuck : (place : ℕ) → Told
  IsOver : (place : ℕ) → Told
  IsFull : (place : ℕ) → Told

-- no place has begun
abbrev pub opening : List Call → Play
opening calls = record { world = start; numbers = replicate (length calls) None; places = [] }

-- the number of a place's transaction, if the place has begun
abbrev pub number_of : Play → ℕ → Option ℕ
number_of p place = option_and_then (λ n. n) (item_at place p.numbers)

-- a place begins: its transaction has the next number
abbrev pub with_place : Play → ℕ → World → Play
with_place p place w = record {
  world = w;
  numbers = with_item place (Some (next_number p.world)) p.numbers;
  places = p.places ++ place ∷ [];
}

-- ---- a mention: what is told of it, and the play after it

-- a turn, or word that there is none
abbrev pub told_turn : ℕ → Play → Option (Turn × World) → Told × Play
told_turn place p None = (IsStuck place, p)
told_turn place p (Some x) = (Turns place x.0, record p { world = x.1 })

-- a place's transaction takes its turn
pub record TakesTurn (m : Rules) (place t : ℕ) (p : Play) (x : Told × Play) : Type 0 where
  pub turn : Option (Turn × World)
  pub allowed : m.turns p.world t turn
  pub told : x ≡ told_turn place p turn

-- a place that has begun is over where its transaction has its reply, and else takes its turn
abbrev pub Goes : Rules → ℕ → ℕ → Play → Option Reply → Told × Play → Type 0
Goes m place t p (Some reply) x = x ≡ (IsOver place, p)
Goes m place t p None x = TakesTurn m place t p x

-- a place that begins goes at once, and none begins where the machine is full
abbrev pub Opens : Rules → ℕ → Play → Option World → Told × Play → Type 0
Opens m place p None x = x ≡ (IsFull place, p)
Opens m place p (Some w) x = Goes m place (next_number p.world) (with_place p place w) (reply_at (next_number p.world) w) x

-- a place's call begins, or can't
pub record Begins (m : Rules) (calls : List Call) (place : ℕ) (p : Play) (x : Told × Play) : Type 0 where
  pub call : Call
  pub is_call : item_at place calls ≡ Some call
  pub world : Option World
  pub allowed : m.begins p.world call world
  pub opens : Opens m place p world x

-- a place begins at its first mention
abbrev pub Mentions : Rules → List Call → ℕ → Play → Option ℕ → Told × Play → Type 0
Mentions m calls place p None x = Begins m calls place p x
Mentions m calls place p (Some t) x = Goes m place t p (reply_at t p.world) x

-- ---- the mentions of an order, one after the other

abbrev pub PlaysOn : Rules → List Call → Play → List ℕ → List (Told × Play) → Type 0
PlaysOn m calls p [] [] = Unit {0}
PlaysOn m calls p [] (x ∷ xs) = ⊥
PlaysOn m calls p (place ∷ order) [] = ⊥
PlaysOn m calls p (place ∷ order) (x ∷ xs) = Mentions m calls place p (number_of p place) x × PlaysOn m calls x.1 order xs

-- the mentions of an order of places, from the start
abbrev pub Plays : Rules → List Call → List ℕ → List (Told × Play) → Type 0
Plays m calls order xs = PlaysOn m calls (opening calls) order xs

-- the play after the mentions
abbrev pub play_after : Play → List (Told × Play) → Play
play_after p [] = p
play_after p (x ∷ xs) = play_after x.1 xs

-- on the plain machine no order has two plays
abbrev pub PlaysOnce : Type 0
PlaysOnce = (d : Design) (calls : List Call) (order : List ℕ) (xs ys : List (Told × Play)) → Plays (plain d) calls order xs
    → Plays (plain d) calls order ys → xs ≡ ys
