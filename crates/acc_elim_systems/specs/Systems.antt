-- Elimination of unknowns from a system of relations: first by equations, then by pairs of bounds.
use Rattle.std.specs.Prelude.{◌≡◌, ℕ, nat_le, Bool, true, false, ◌&&◌, not, if◌then◌else◌, List, [], ◌∷◌, ◌++◌, length, filter}
use Rattle.std.specs.Prelude.{Option, Some, None, option_map, Ok, Err, pos, int_lt}
use Rattle.std.specs.List.{list_any}
use Rattle.std.specs.Ordering.{int_eq}
use Rattle.acc_rows.specs.declared.stops.Stop.TheVariants.{Refuted, Many}
use Rattle.acc_rows.specs.declared.rows.Row.{Row}
use Rattle.acc_elim_systems.specs.declared.systems.TheConstants.{MOST_RELATIONS}
use Rattle.acc_elim_systems.specs.declared.systems.Reduced.{Reduced}
use Rattle.acc_elim_systems.specs.declared.systems.Parted.{Parted}
use Rattle.acc_elim_systems.specs.declared.systems.Bounded.{Bounded}
use Rattle.acc_elim_systems.specs.declared.systems.Eliminated.{Eliminated}
use Rattle.acc_base.specs.Computing.{chain, steps}
use Rattle.acc_base.specs.Items.{numbers_from}
use Rattle.acc_rows.specs.Answers.{Computation}
use Rattle.acc_rows.specs.Sparse.{at, same_numbers, no_numbers}
use Rattle.acc_rows.specs.Rows.{has, cleared, crossing}

-- ---- the relations of a system

-- whether a relation without unknowns is false
abbrev pub is_false : Row → Bool
is_false r = if r.equal then not (int_eq r.constant (pos 0)) else int_lt (pos 0) r.constant

abbrev pub same_bool : Bool → Bool → Bool
same_bool true b = b
same_bool false b = not b

-- whether a relation has the form and the `equal` of another
abbrev pub repeats : Row → Row → Bool
repeats r k = int_eq k.constant r.constant && same_bool k.equal r.equal && same_numbers k.terms r.terms

abbrev pub is_constant : Row → Bool
is_constant r = no_numbers r.terms

-- one more relation: a false constant ends the elimination; a true one, and a repetition, is dropped
abbrev pub admitted : List Row → Row → Computation (List Row)
admitted rows r =
    if is_constant r then (if is_false r then Err (Refuted r) else Ok rows)
    else (if list_any (repeats r) rows then Ok rows else (if nat_le MOST_RELATIONS (length rows) then Err Many else Ok (rows ++ r ∷ [])))

-- ---- by equations

abbrev pub is_equation_with : ℕ → Row → Bool
is_equation_with u r = r.equal && has u r

-- the first equation that has the unknown, and the other relations
abbrev pub taken : ℕ → List Row → Option (Row × List Row)
taken u [] = None
taken u (r ∷ rs) = if is_equation_with u r then Some (r, rs) else option_map (λ t. (t.0, r ∷ t.1)) (taken u rs)

abbrev pub replaced : ℕ → Row → List Row → Row → Computation (List Row)
replaced u e rows r = chain (cleared u e r) (admitted rows)

-- a call takes that equation out of the relations, or leaves them
abbrev pub Takes : ℕ → List Row → List Row → Option Row → Type 0
Takes u old new None = (taken u old ≡ None) × (new ≡ old)
Takes u old new (Some e) = taken u old ≡ Some (e, new)

-- a system from which nothing was set aside
abbrev pub whole : List Row → Reduced
whole rows = record { rows = rows; aside = []; left = [] }

-- an equation and the others
abbrev pub put_aside : Reduced → ℕ → Row × List Row → Computation Reduced
put_aside s u t =
    chain (steps (replaced u t.0) [] t.1)
    (λ rows. Ok (record { rows = rows; aside = s.aside ++ (u, t.0) ∷ []; left = s.left }))

abbrev pub set_aside : Reduced → ℕ → Computation Reduced
set_aside s u =
    elim (taken u s.rows) [
      | None ↦ Ok (record { rows = s.rows; aside = s.aside; left = s.left ++ u ∷ [] })
      | Some t ↦ put_aside s u t
    ]

-- ---- by pairs of bounds

abbrev pub is_upper : ℕ → Row → Bool
is_upper u r = int_lt (pos 0) (at u r.terms)

abbrev pub is_lower : ℕ → Row → Bool
is_lower u r = int_lt (at u r.terms) (pos 0)

abbrev pub is_without : ℕ → Row → Bool
is_without u r = not (has u r)

abbrev pub IsParted : ℕ → List Row → Parted → Type 0
IsParted u rows p =
    (p.without ≡ filter (is_without u) rows) × (p.lows ≡ filter (is_lower u) rows) × (p.ups ≡ filter (is_upper u) rows)

abbrev pub parted_with : ℕ → Parted → Row → Parted
parted_with u p r = record {
  without = if is_without u r then p.without ++ r ∷ [] else p.without;
  lows = if is_lower u r then p.lows ++ r ∷ [] else p.lows;
  ups = if is_upper u r then p.ups ++ r ∷ [] else p.ups;
}

abbrev pub crossed_once : ℕ → Row → List Row → Row → Computation (List Row)
crossed_once u up rows low = chain (crossing u up low) (admitted rows)

abbrev pub crossed_with : ℕ → List Row → List Row → Row → Computation (List Row)
crossed_with u lows rows up = steps (crossed_once u up) rows lows

-- the first list, and the second where it is empty
abbrev pub or_else : List Row → List Row → List Row
or_else [] ups = ups
or_else (low ∷ lows) ups = low ∷ lows

abbrev pub bounds_of : ℕ → List Row → List Row
bounds_of u rows = or_else (filter (is_lower u) rows) (filter (is_upper u) rows)

abbrev pub crossed : Bounded → ℕ → Computation Bounded
crossed s u =
    chain (steps (crossed_with u (filter (is_lower u) s.rows)) (filter (is_without u) s.rows) (filter (is_upper u) s.rows))
    (λ rows. Ok (record { rows = rows; bounds = s.bounds ++ (u, bounds_of u s.rows) ∷ [] }))

-- ---- the whole elimination

-- a system of which no unknown was eliminated
abbrev pub unbounded : List Row → Bounded
unbounded rows = record { rows = rows; bounds = [] }

abbrev pub eliminated_left : Reduced → Computation Eliminated
eliminated_left r =
    chain (steps crossed (unbounded r.rows) r.left) (λ b. Ok (record { aside = r.aside; bounds = b.bounds }))

abbrev pub eliminated : ℕ → List Row → Computation Eliminated
eliminated unknowns rows =
    chain (steps admitted [] rows) (λ system.
    chain (steps set_aside (whole system) (numbers_from 0 unknowns)) eliminated_left)
