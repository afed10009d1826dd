-- Frames behind some that have been taken out, and the place of a number.
use Rattle.std.proofs.Common.{◌≡◌, ℕ, suc, ◌+◌, ◌<◌, ◌≤◌, true, false, List, [], ◌∷◌, ◌++◌, length, Some, sym, ap, ◌∙◌, arith, set, get_or}
use Rattle.std.proofs.Common.{take, drop, remove, slice_get, nat_lt}
use Rattle.std.specs.List.Sorted.{IsPartitionedBy, IsPartitionPoint}
use Rattle.std.proofs.lemmas.Bool.Decides.{nat_tests}
use Rattle.std.proofs.lemmas.List.{drop-set-add, drop-append-le, drop-take, drop-drop, get_or-drop, length-take-le}
use Rattle.std.proofs.lemmas.Option.{get_or_from_slice_get}
use Rattle.acc_base.specs.declared.machines.Frame.{Frame}
use Rattle.acc_plain.specs.Kept.{IsRising, IsAt, Holds}

-- ---- slots

module _ (slots : List Frame) (gone : ℕ) (frames : List Frame) (are : drop gone slots ≡ frames) where
  -- the frame that is read at a slot
  pub read_at : (at : ℕ) (f r : Frame) → slice_get frames at ≡ Some f → r ≡ get_or slots (gone + at) r → r ≡ f
  read_at at f r got read =
      read ∙ sym (get_or-drop gone slots at r) ∙ ap (λ (fs : List Frame). get_or fs at r) are ∙ get_or_from_slice_get frames at f r got

  pub set_at : (at : ℕ) (f : Frame) → drop gone (set slots (gone + at) f) ≡ set frames at f
  set_at at f = drop-set-add gone slots at f ∙ ap (λ (fs : List Frame). set fs at f) are

  pub removed_at : (at : ℕ) → gone + at ≤ length slots → drop gone (remove slots (gone + at)) ≡ remove frames at
  removed_at at within =
      let long : gone ≤ length (take (gone + at) slots) = omega (arith, length-take-le (gone + at) slots within) in
      let behind : gone + suc at ≡ suc (gone + at) = omega arith in
      drop-append-le gone (take (gone + at) slots) (drop (suc (gone + at)) slots) long
      ∙ (λ i. drop-take gone at slots i ++ (ap (λ (n : ℕ). drop n slots) (sym behind) ∙ sym (drop-drop (suc at) gone slots)) i)
      ∙ ap (λ (fs : List Frame). remove fs at) are

  pub first_removed : (at : ℕ) → at ≡ 0 → drop (gone + 1) slots ≡ remove frames at
  first_removed at first =
      sym (drop-drop 1 gone slots) ∙ ap (drop 1) are ∙ ap (remove frames) (sym first)

-- ---- the place of a number

pub below_first : (fs : List Frame) (t : ℕ) → IsRising fs → IsPartitionedBy (λ f. nat_lt f.t t) fs
below_first fs t up i j d le within h = grind (arith, nat_tests, up i j d)

pub first_not_below : (fs : List Frame) (t i : ℕ) → IsRising fs → Holds fs t →
    IsPartitionPoint (λ f. nat_lt f.t t ≡ true) (λ f. nat_lt f.t t ≡ false) fs i → IsAt fs t i
first_not_below fs t i up h point =
    let k = h.place in
    let within = h.at.within in
    let number = h.at.number in
    let not_less : (d : Frame) → k < i → ⊥ = λ d less. let low = point.0 k d (omega arith) less in let own = number d in
    grind (arith, nat_tests) in
    record {
      within = place_within fs k i within not_less;
      number = λ d. let own = number d in let high = point.1 i d (omega arith) in grind (arith, nat_tests, up i k d, not_less d, high);
    }
  where
    place_within : (fs : List Frame) (k i : ℕ) → k < length fs → ((d : Frame) → k < i → ⊥) → i < length fs
    place_within [] k i within never = absurd (omega arith)
    place_within (f ∷ fs) k i within never = let none = never f in grind (arith, none)
