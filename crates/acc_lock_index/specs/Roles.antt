-- The keys of a transaction: what it does under which entries, with which values of their pairs.
use Rattle.std.specs.Prelude.{ℕ, ◌+◌, Bool, ◌&&◌, ◌||◌, ◌==◌, List, [], ◌∷◌, ◌++◌, map, if◌then◌else◌, ℤ}
use Rattle.acc_base.specs.declared.designs.At.{At}
use Rattle.acc_base.specs.declared.designs.Side.TheVariants.{Next, Undo}
use Rattle.acc_base.specs.declared.designs.Entry.{Entry}
use Rattle.acc_base.specs.Linear.{var}
use Rattle.acc_base.specs.PointEquality.{at_eq, side_eq}
use Rattle.acc_table.specs.Closures.{is_set}
use Rattle.acc_lock_holders.specs.declared.keys.Role.{Role}
use Rattle.acc_lock_holders.specs.declared.keys.Role.TheVariants.{Standing, Coming, Undoing}
use Rattle.acc_lock_holders.specs.Keys.{Key}

abbrev pub key : Role → ℕ → List ℤ → Key
key role n values = record { role = role; entry = n; values = values }

abbrev pub standing_key : ℕ → List ℤ → Key
standing_key n values = key Standing n values

abbrev pub coming_key : ℕ → List ℤ → Key
coming_key n values = key Coming n values

abbrev pub undoing_key : ℕ → List ℤ → Key
undoing_key n values = key Undoing n values

-- the values of the pairs, on the side of the held point and on that of the step
abbrev pub held_values : Entry → List ℤ → List ℤ
held_values e locals = map (λ p. var locals p.0) e.pairs

abbrev pub step_values : Entry → List ℤ → List ℤ
step_values e locals = map (λ p. var locals p.1) e.pairs

-- a forward step beside one that stands at this point is the entry's
abbrev pub stands : At → Entry → Bool
stands at e = side_eq e.side Next && at_eq e.held at

-- by the points that undo steps reach
abbrev pub may_stand : ℕ → List Bool → Entry → Bool
may_stand ty points e = side_eq e.side Undo && (e.held.ty == ty) && is_set points e.held.point

abbrev pub may_undo : ℕ → List Bool → Entry → Bool
may_undo ty points e = side_eq e.side Undo && (e.step.ty == ty) && is_set points e.step.point

-- an entry of an undo step names the type, as held or as the step's
abbrev pub names_undo : ℕ → Entry → Bool
names_undo ty e = side_eq e.side Undo && ((e.held.ty == ty) || (e.step.ty == ty))

-- a key, if the test says so
abbrev pub one_if : Bool → Key → List Key
one_if test k = if test then k ∷ [] else []

-- the keys under the entry with number n, from 1
abbrev pub keys_at : At → List ℤ → List Bool → ℕ → Entry → List Key
keys_at at locals points n e =
    one_if (stands at e) (standing_key n (held_values e locals))
    ++ one_if (may_stand at.ty points e) (coming_key n (held_values e locals))
    ++ one_if (may_undo at.ty points e) (undoing_key n (step_values e locals))

-- and under entries from that number on
abbrev pub keys_from : At → List ℤ → List Bool → ℕ → List Entry → List Key
keys_from at locals points n [] = []
keys_from at locals points n (e ∷ es) = keys_at at locals points n e ++ keys_from at locals points (n + 1) es
