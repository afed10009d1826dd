-- Limits that aren't passed, by numbers and by lists: the marks are ends of statements alone.
use Rattle.std.proofs.Common.{◌≡◌, ℕ, ◌+◌, ◌<◌, ◌≤◌, ◌==◌, Bool, true, false, List, [], ◌∷◌, length, nat_lt, nat_le, arith}
use Rattle.std.specs.List.{flat_map}
use Rattle.std.proofs.lemmas.Bool.Decides.{nat_tests}
use Rattle.acc_grammar.specs.Readers.{AllIn}
use Rattle.acc_base.specs.declared.limits.Limit.{Limit}
use Rattle.acc_parse_limits.specs.Marks.{Mark, past, limited_from}
use Rattle.acc_parse_readback.proofs.OnlyEnds.{AreEnds, ends_behind}

-- ---- limits that aren't passed

pub not_past : (l : Limit) (b : Bool) → b ≡ false → AreEnds (past l b)
not_past l true h = absurd cc
not_past l false h = tt

pub not_above : (l : Limit) (most n : ℕ) → n ≤ most → AreEnds (past l (nat_lt most n))
not_above l most n h = not_past l (nat_lt most n) (grind (arith, nat_tests))

pub not_reached : (l : Limit) (most n : ℕ) → n < most → AreEnds (past l (nat_le most n))
not_reached l most n h = not_past l (nat_le most n) (grind (arith, nat_tests))

not_at : (i most : ℕ) → i < most → (i == most) ≡ false
not_at i most h = grind (arith, nat_tests)

-- ---- lists

pub ends_each : {X : Type 0} (marks : X → List Mark) (xs : List X) → AllIn (λ x. AreEnds (marks x)) xs → AreEnds (flat_map marks xs)
ends_each marks [] h = tt
ends_each marks (x ∷ xs) h = ends_behind (marks x) (flat_map marks xs) h.0 (ends_each marks xs h.1)

ends_from : {X : Type 0} (i : ℕ) (l : Limit) (most : ℕ) (marks : X → List Mark) (xs : List X) → i + length xs ≤ most →
    AllIn (λ x. AreEnds (marks x)) xs → AreEnds (limited_from i l most marks xs)
ends_from i l most marks [] few h = tt
ends_from i l most marks (x ∷ xs) few h =
    ends_behind (past l (i == most)) _ (not_past l (i == most) (not_at i most (omega arith)))
    (ends_behind (marks x) _ h.0 (ends_from (i + 1) l most marks xs (omega arith) h.1))

-- a list that is short enough, each of whose items passes no limit
pub ends_counted : {X : Type 0} (l : Limit) (most : ℕ) (marks : X → List Mark) (xs : List X) → length xs ≤ most →
    AllIn (λ x. AreEnds (marks x)) xs → AreEnds (limited_from 0 l most marks xs)
ends_counted l most marks xs few h = ends_from 0 l most marks xs (omega arith) h
