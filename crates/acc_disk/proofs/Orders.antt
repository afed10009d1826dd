-- Each step keeps a standing in order.
use Rattle.std.proofs.Common.{◌≡◌, ◌⊎◌, ⊎_elim, ℕ, ◌+◌, ◌<◌, ◌≤◌, false, List, [], ◌∷◌, ◌++◌, length, get_or, take, refl, ◌∙◌, arith}
use Rattle.std.proofs.lemmas.List.{places}
use Rattle.std.proofs.lemmas.Bool.Decides.{nat_tests}
use Rattle.std.proofs.lemmas.List.Folds.{list_any-append}
use Rattle.acc_disk.specs.Standings.{Standing, settled, after_write, after_cut, is_written, IsInOrder}
use Rattle.acc_disk.proofs.Steps.{length-overwritten, overwritten_below, overwritten_above}

-- a place that no write covered lies before the last of them or behind it
pub apart : (at count i : ℕ) (written : List (ℕ × ℕ)) → is_written (written ++ (at, count) ∷ []) i ≡ false → (i < at) ⊎ (at + count ≤ i)
apart at count i written un = grind (arith, nat_tests, list_any-append)

pub unwritten_before : (at count i : ℕ) (written : List (ℕ × ℕ)) → is_written (written ++ (at, count) ∷ []) i ≡ false →
    is_written written i ≡ false
unwritten_before at count i written un = grind (arith, nat_tests, list_any-append)

pub settled_in_order : (bytes : List ℕ) → IsInOrder (settled bytes)
settled_in_order bytes = record {
  synced = omega arith;
  lengths = omega arith;
  present = record { no_shorter = omega arith; no_longer = omega arith; untouched = λ i lt un. refl };
}

pub write_in_order : (standing : Standing) (at : ℕ) (bytes : List ℕ) → IsInOrder standing → at ≤ length standing.bytes →
    IsInOrder (after_write at bytes standing)
write_in_order standing at bytes order fits =
    let long = length-overwritten at bytes standing.bytes fits in
    let short = order.present.no_shorter in record {
      synced = order.synced;
      lengths = omega (arith, order.lengths);
      present = record {
        no_shorter = omega (arith, long, short);
        no_longer = omega (arith, long);
        untouched = λ i lt un.
            let was = order.present.untouched i lt (unwritten_before at (length bytes) i standing.written un) in
            ⊎_elim
            (λ under. overwritten_below at bytes standing.bytes i fits under ∙ was)
            (λ over. overwritten_above at bytes standing.bytes i fits over ∙ was)
            (apart at (length bytes) i standing.written un);
      };
    }

take_at_place : (to : ℕ) (bytes : List ℕ) (i : ℕ) → i < to → get_or (take to bytes) i 0 ≡ get_or bytes i 0
take_at_place to bytes i lt = grind (arith, places)

pub cut_in_order : (standing : Standing) (to : ℕ) → IsInOrder standing → to ≤ length standing.bytes → IsInOrder (after_cut to standing)
cut_in_order standing to order fits =
    let long : length (take to standing.bytes) ≡ to = grind (arith, places) in record {
      synced = omega (arith, order.synced);
      lengths = omega (arith, order.lengths);
      present = record {
        no_shorter = omega (arith, long);
        no_longer = omega (arith, long, order.present.no_longer);
        untouched = λ i lt un. take_at_place to standing.bytes i (omega (arith, long)) ∙ order.present.untouched i (omega arith) un;
      };
    }
