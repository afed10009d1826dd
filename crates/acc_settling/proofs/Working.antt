-- The board of an engine whose first places have begun.
use Rattle.std.proofs.Common.{◌≡◌, ◌≤◌, ◌<◌, ◌+◌, ◌-◌, ◌++◌, ℕ, zero, suc, List, [], ◌∷◌, length, true, false, Option, Some, None}
use Rattle.std.proofs.Common.{sym, ap, subst, ◌∙◌, arith, add-one, length-append}
use Rattle.std.specs.Prelude.{map, nat_lt, replicate, slice_get}
use Rattle.std.specs.List.{range_with_len}
use Rattle.std.proofs.lemmas.Bool.Decides.{nat_tests}
use Rattle.std.proofs.lemmas.List.{length-replicate}
use Rattle.std.proofs.lemmas.List.FromFn.{length-range_with_len, length-map-range_with_len}
use Rattle.std.proofs.lemmas.Option.{none-some, same_Some}
use Rattle.acc_base.specs.declared.designs.Design.{Design}
use Rattle.acc_base.specs.Machine.{World}
use Rattle.acc_base.specs.Plays.{Play}
use Rattle.acc_engine.specs.Keeping.{Journalled, is_begun}
use Rattle.acc_player.specs.declared.boards.Board.{Board}
use Rattle.acc_player.specs.Boards.{play_of, IsBoardOf}
use Rattle.acc_player.specs.Ways.{PlayPrecedesEach}
use Rattle.acc_player.proofs.Orders.{range_more}
use Rattle.acc_player.proofs.Wholes.{before_schedule, front_of_schedule}
use Rattle.acc_lock_rules.specs.LockRules.{with_locks}
use Rattle.acc_lock_rules.proofs.Orderly.{locks_are_orderly}
use Rattle.acc_settling.specs.Openings.{CanBegin}
use Rattle.acc_settling.specs.Wholes.{IsAfterSchedule, IsFrontOfSchedule}
use Rattle.acc_settling.specs.Workers.{worked, HasBegunFirst, IsWorked}

-- ---- how many have begun

-- all below a place have, and it hasn't
pub first_are : {D : Type 0} (e : Journalled D) (first : HasBegunFirst e) (n : ℕ) → ((p : ℕ) → p < n → is_begun e.begun p ≡ true)
    → is_begun e.begun n ≡ false → n ≡ first.count
first_are e first n below fresh =
    let here : nat_lt n first.count ≡ false = sym (first.marked n) ∙ fresh in
    let above : first.count ≤ n = grind (arith, nat_tests) in
    let least : n ≤ first.count = at_most n below in
    omega (arith, above, least)
  where
    at_most : (n : ℕ) → ((p : ℕ) → p < n → is_begun e.begun p ≡ true) → n ≤ first.count
    at_most zero below = omega arith
    at_most (suc n) below =
        let last : nat_lt n first.count ≡ true = sym (first.marked n) ∙ below n (omega arith) in
        let less : n < first.count = grind (arith, nat_tests) in
        omega (arith, less)

-- no place behind the last call has begun
pub none_behind : {D : Type 0} (e : Journalled D) (first : HasBegunFirst e) → is_begun e.begun (length e.calls) ≡ false
none_behind e first = first.marked (length e.calls) ∙ (let within = first.within in grind (arith, nat_tests))

-- ---- its board

-- one place more
pub places_more : (n : ℕ) → range_with_len 1 n ++ (n + 1) ∷ [] ≡ range_with_len 1 (n + 1)
places_more n =
    let number : n + 1 ≡ 1 + n = omega arith in
    ap (λ (k : ℕ). range_with_len 1 n ++ k ∷ []) number ∙ sym (range_more 1 n) ∙ ap (λ (k : ℕ). range_with_len 1 k) (sym (add-one n))

-- a place without a number stands behind those that have one
unnumbered : (xs : List ℕ) (n at : ℕ) → slice_get (map (λ (x : ℕ). Some x) xs ++ replicate n None) at ≡ Some None → length xs ≤ at
unnumbered [] n at free = omega arith
unnumbered (x ∷ xs) n zero free = absurd (none-some x (sym (same_Some (Some x) None free)))
unnumbered (x ∷ xs) n (suc at) free = let less = unnumbered xs n at free in omega (arith, less)

module _ {D : Type 0} (before : ℕ) (e : Journalled D) (b : Board) (calls count : ℕ) (many : calls ≡ length e.calls)
    (numbers : b.numbers.items ≡ map (λ (n : ℕ). Some n) (range_with_len (before + 1) count) ++ replicate (calls - count) None)
    (places : b.places.items ≡ replicate before 0 ++ range_with_len 1 count) where
  pub worked_board : (first : HasBegunFirst e) → count ≡ first.count → IsBoardOf e.calls (CanBegin e) b
  worked_board first is = record {
    numbers =
        let front = length-map-range_with_len (λ (n : ℕ). Some n) (before + 1) count in
        let rest = length-replicate {A = Option ℕ} (calls - count) None in
        let both = length-append (map (λ (n : ℕ). Some n) (range_with_len (before + 1) count)) (replicate (calls - count) None) in
        let all = ap length numbers in
        omega (arith, all, both, front, rest, is, many, first.within);
    unbegun = λ at free.
        let above =
        unnumbered (range_with_len (before + 1) count) (calls - count) at
        (subst (λ (l : List (Option ℕ)). slice_get l at ≡ Some None) numbers free) in
        let long = length-range_with_len (before + 1) count in
        let behind : first.count ≤ at = omega (arith, above, long, is) in
        first.marked at ∙ grind (arith, nat_tests);
  }

  pub worked_play : (p : Play) (w : IsWorked before e p) → count ≡ w.begun.count → play_of e.state b ≡ p
  worked_play p w is =
      let numbers_are : b.numbers.items ≡ (worked before w.begun.count e.state e.calls).numbers =
      numbers ∙ (λ i. map (λ (n : ℕ). Some n) (range_with_len (before + 1) (is i)) ++ replicate (many i - is i) None) in
      let places_are : b.places.items ≡ (worked before w.begun.count e.state e.calls).places =
      places ∙ ap (λ (n : ℕ). replicate before 0 ++ range_with_len 1 n) is in
      (λ i. record { world = e.state; numbers = numbers_are i; places = places_are i }) ∙ sym w.is

-- ---- where nothing is ended

module _ {D : Type 0} (d : Design) (before : ℕ) (e : Journalled D) (p : Play) (w : IsWorked before e p) where
  pub worked_precedes : PlayPrecedesEach p (IsAfterSchedule d e.calls [] p)
  worked_precedes = before_schedule (with_locks d) (locks_are_orderly d) e.calls [] p

  pub worked_front : IsFrontOfSchedule d e.calls [] p e.state.events
  worked_front =
      subst (λ (v : World). IsFrontOfSchedule d e.calls [] p v.events) (ap (λ (q : Play). q.world) w.is)
      (front_of_schedule (with_locks d) (locks_are_orderly d) e.calls [] p p worked_precedes)
