-- A state that stands behind all of a journal's events is the last one.
use Rattle.std.proofs.Common.{◌≡◌, ◌≤◌, ◌<◌, ℕ, zero, suc, List, [], ◌∷◌, length, refl, ap, ◌∙◌, arith}
use Rattle.std.specs.Prelude.{All, slice_index_or}
use Rattle.std.proofs.lemmas.List.Elements.{All-head, All-tail}
use Rattle.acc_base.specs.declared.machines.Event.{Event}
use Rattle.acc_engine.specs.Sealing.{IsSealedAt}
use Rattle.acc_wal.specs.Journals.{CountsAll}
use Rattle.acc_wal.specs.declared.items.Seal.{Seal}
use Rattle.acc_recover.specs.Seals.{AreFrom}
use Rattle.acc_recover.proofs.Comparisons.{counted_rise}
use Rattle.acc_recover.proofs.Sealed.{StandsWithin, counted_within}
use Rattle.acc_journalled.specs.Sealing.{EndsAt}

behind : (place : ℕ) (seal : Seal) (seals : List Seal) → EndsAt place seals → EndsAt place (seal ∷ seals)
behind place seal seals h =
    record { earlier = seal ∷ h.earlier; seal = h.seal; seals_are = ap (λ (l : List Seal). seal ∷ l) h.seals_are; place_is = h.place_is }

-- of states whose places never fall and none of which stands past this place, one at this place is the last or stands before one there
ends_from : (place low : ℕ) (seals : List Seal) → AreFrom low seals → All (StandsWithin place) seals → (k : ℕ) (x : Seal) → k < length seals
    → slice_index_or seals k x ≡ x → x.place ≡ place → EndsAt place seals
ends_from place low [] rise within k x short at is = absurd (omega (arith, short))
ends_from place low (seal ∷ []) rise within zero x short at is =
    record { earlier = []; seal = seal; seals_are = refl; place_is = ap (λ (s : Seal). s.place) at ∙ is }
ends_from place low (seal ∷ []) rise within (suc k) x short at is = absurd (omega (arith, short))
ends_from place low (seal ∷ (next ∷ seals)) rise within zero x short at is =
    let rest = All-tail (StandsWithin place) seal (next ∷ seals) within in
    let high = All-head (StandsWithin place) next seals rest in
    let low_place : seal.place ≤ next.place = rise.1.0 in
    let here : seal.place ≡ place = ap (λ (s : Seal). s.place) at ∙ is in
    behind place seal (next ∷ seals)
    (ends_from place seal.place (next ∷ seals) rise.1 rest 0 next (omega arith) refl (omega (arith, high, low_place, here)))
ends_from place low (seal ∷ (next ∷ seals)) rise within (suc k) x short at is =
    behind place seal (next ∷ seals)
    (ends_from place seal.place (next ∷ seals) rise.1 (All-tail (StandsWithin place) seal (next ∷ seals) within) k x
    (omega (arith, short)) at is)

pub ends_at : (file base : List ℕ) (version : ℕ) (events : List Event) (seals : List Seal)
    → CountsAll file base version events seals → IsSealedAt (length events) seals → EndsAt (length events) seals
ends_at file base version events seals c (k, x, short, at, is) =
    ends_from (length events) 0 seals (counted_rise file base version events seals c) (counted_within file base version events seals c) k x
    short at is
