-- What an index of transactions keeps, and which transactions it stands for.
use Rattle.std.specs.Prelude.{◌≡◌, ◌≢◌, ◌⊎◌, ◌↔◌, ℕ, Bool, false, List, Option, None, Some, Contains, ⊤, ℤ, slice_get, remove, slice_set, IsTrue}
use Rattle.std.specs.List.{list_any}
use Rattle.acc_base.specs.declared.designs.At.{At}
use Rattle.acc_base.specs.declared.designs.Side.TheVariants.{Next}
use Rattle.acc_base.specs.declared.designs.Design.{Design}
use Rattle.acc_base.specs.declared.machines.Frame.{Frame}
use Rattle.acc_base.specs.Entries.{at_of, Forbids}
use Rattle.acc_base.specs.Locks.{ClashesEither}
use Rattle.acc_table.specs.Closures.{is_set, IsClosure}
use Rattle.acc_table.specs.Entries.{IsPointOf}
use Rattle.acc_lock_holders.specs.Keys.{Key}
use Rattle.acc_lock_holders.specs.Entries.{Entries, under, HaveRoom}
use Rattle.acc_lock_index.specs.Roles.{keys_from, names_undo}
use Rattle.acc_lock_index.specs.Asks.{Asked}

-- a transaction's number, and its keys
pub record Standing : Type 0 where
  pub t : ℕ
  pub keys : List Key

-- those that are kept, and the one that is prepared to take the place of the one with its number
pub record Indexed : Type 0 where
  pub standings : List Standing
  pub prepared : Option Standing

abbrev pub IsIn : {X : Type 0} → List X → X → Type 0
IsIn xs x = (i : ℕ) × (slice_get xs i ≡ Some x)

-- ---- what it stands for

-- the flags are those of the points that undo steps reach from this point, where any entry asks for them
abbrev pub IsReached : Design → At → List Bool → Type 0
IsReached d at points = IsTrue (list_any (names_undo at.ty) d.entries) → IsClosure d at.ty at.point points

-- these are the keys of a transaction that stands at this point with these locals
pub record AreKeysOf (d : Design) (at : At) (locals : List ℤ) (keys : List Key) : Type 0 where
  pub points : List Bool
  pub closure : IsReached d at points
  pub keys_are : keys ≡ keys_from at locals points 1 d.entries

-- it is kept for transaction t, which stands there
pub record IsOf (d : Design) (t : ℕ) (at : At) (locals : List ℤ) (s : Standing) : Type 0 where
  pub number : s.t ≡ t
  pub keys : AreKeysOf d at locals s.keys

abbrev pub IsFor : Design → Frame → Standing → Type 0
IsFor d f s = IsOf d f.t (at_of f) f.locals s

-- f is transaction t, and stands at this point with these locals
pub record StandsAt (f : Frame) (t : ℕ) (at : At) (locals : List ℤ) : Type 0 where
  pub number : f.t ≡ t
  pub at_is : at_of f ≡ at
  pub locals_are : f.locals ≡ locals

-- for each of these transactions one is kept, and no other, in whatever order
pub record StandsFor (d : Design) (frames : List Frame) (standings : List Standing) : Type 0 where
  pub each : (f : Frame) → IsIn frames f → (s : Standing) × IsIn standings s × IsFor d f s
  pub only : (s : Standing) → IsIn standings s → (f : Frame) × IsIn frames f × IsFor d f s

-- ---- who bars a step

-- a transaction that stands so isn't compatible with f because of the entry; an end leads to none
abbrev pub ClashesWith : Design → Option At → List ℤ → Frame → ℕ → Type 0
ClashesWith d None locals f n = ⊥
ClashesWith d (Some at) locals f n = ClashesEither d at locals (at_of f) f.locals n

-- f forbids the forward step at a point with these locals through entry n, or isn't compatible with where the step leads
abbrev pub BarsStep : Design → At → List ℤ → Option At → List ℤ → Frame → ℕ → Type 0
BarsStep d at locals to to_locals f n = Forbids d (at_of f) f.locals at Next locals n ⊎ ClashesWith d to to_locals f n

-- one of the transactions, with number h and not t, bars the step through entry n
pub record Bars (d : Design) (frames : List Frame) (t : ℕ) (at : At) (locals : List ℤ) (to : Option At) (to_locals : List ℤ) (h n : ℕ)
    : Type 0 where
  pub holder : Frame
  pub among : IsIn frames holder
  pub number : holder.t ≡ h
  pub other : h ≢ t
  pub bars : BarsStep d at locals to to_locals holder n

-- the type of where a step leads, 0 where it leads to an end
abbrev pub type_of : Option At → ℕ
type_of None = 0
type_of (Some at) = at.ty

-- what is asked for a step that leads there
abbrev pub asked_of : At → List ℤ → Option At → List ℤ → List Bool → Asked
asked_of at locals to to_locals points =
    record { at = at; locals = locals; ty = type_of to; points = points; to_locals = to_locals }

-- a step leads to a point of the design, or to an end
abbrev pub LeadsToPoint : Design → Option At → Type 0
LeadsToPoint d None = ⊤
LeadsToPoint d (Some at) = IsPointOf d at.ty at.point

-- the flags are those of the points that undo steps reach from where a step leads, none where it leads to an end
abbrev pub AreReached : Design → Option At → List Bool → Type 0
AreReached d None points = (q : ℕ) → is_set points q ≡ false
AreReached d (Some at) points = IsReached d at points

-- ---- changes of the list

-- one more, in whatever order
abbrev pub IsWith : Frame → List Frame → List Frame → Type 0
IsWith f old new = (g : Frame) → IsIn new g ↔ (IsIn old g ⊎ (g ≡ f))

-- without the one with this number
abbrev pub IsWithout : ℕ → List Frame → List Frame → Type 0
IsWithout t old new = (g : Frame) → IsIn new g ↔ (IsIn old g × (g.t ≢ t))

-- in place of the one with its number
abbrev pub IsPut : Frame → List Frame → List Frame → Type 0
IsPut f old new = (g : Frame) → IsIn new g ↔ ((IsIn old g × (g.t ≢ f.t)) ⊎ (g ≡ f))

-- one of them has this number
abbrev pub HasNumber : List Standing → ℕ → Type 0
HasNumber standings t = (s : Standing) × IsIn standings s × (s.t ≡ t)

-- one is prepared, for transaction t that stands there
abbrev pub IsPrepared : Design → ℕ → At → List ℤ → Option Standing → Type 0
IsPrepared d t at locals None = ⊥
IsPrepared d t at locals (Some s) = IsOf d t at locals s

-- ---- what it keeps of itself

-- one of them has this number and this key
pub record HasKey (standings : List Standing) (k : Key) (t : ℕ) : Type 0 where
  pub standing : Standing
  pub there : IsIn standings standing
  pub number : standing.t ≡ t
  pub key : Contains standing.keys k

-- under each key are the numbers of those that have it
abbrev pub AreUnder : List Standing → Entries → Type 0
AreUnder standings es = (k : Key) (t : ℕ) → Contains (under k es) t ↔ HasKey standings k t

-- there is room for the one that is prepared
abbrev pub IsReady : Option Standing → Entries → Type 0
IsReady None es = ⊤
IsReady (Some s) es = HaveRoom es s.keys

-- no two have one number
abbrev pub AreApart : List Standing → Type 0
AreApart standings =
    (i j : ℕ) (r s : Standing) → slice_get standings i ≡ Some r → slice_get standings j ≡ Some s → r.t ≡ s.t → i ≡ j

pub record IsKept (es : Entries) (standings : List Standing) (prepared : Option Standing) : Type 0 where
  pub under_keys : AreUnder standings es
  pub apart : AreApart standings
  pub ready : IsReady prepared es
  pub waiting : (s : Standing) → prepared ≡ Some s → HasNumber standings s.t

-- the transaction with this number stands there
abbrev pub IsPlaceOf : List Standing → ℕ → ℕ → Type 0
IsPlaceOf standings t place = (s : Standing) × (slice_get standings place ≡ Some s) × (s.t ≡ t)

-- the one with this number was taken out
pub record TakesOut (old : List Standing) (t : ℕ) (new : List Standing) : Type 0 where
  pub place : ℕ
  pub gone : Standing
  pub was : slice_get old place ≡ Some gone
  pub number : gone.t ≡ t
  pub without : new ≡ remove old place

-- one was put in place of the one with its number
pub record PutsIn (old : List Standing) (next : Standing) (new : List Standing) : Type 0 where
  pub place : ℕ
  pub gone : Standing
  pub was : slice_get old place ≡ Some gone
  pub number : gone.t ≡ next.t
  pub changed : new ≡ slice_set old place next
