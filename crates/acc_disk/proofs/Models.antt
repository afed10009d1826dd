-- What the clauses of a disk come to over several calls: a crash leaves an image of what stands, which is the synced
-- bytes, the lowest and the highest length since the sync, and the ranges written since.
use Rattle.std.proofs.Common.{ℕ, ◌<◌, ◌≤◌, List, ⊎_elim, length, ◌∙◌, subst, sym, arith}
use Rattle.std.proofs.lemmas.List.{length-take-le}
use Rattle.acc_disk.specs.Crashes.{Torn, PartlyCut, Follows, LeavesNoMore, Only}
use Rattle.acc_disk.specs.Standings.{Standing, settled, after_write, after_cut, IsImage}
use Rattle.acc_disk.proofs.Steps.{length-overwritten}
use Rattle.acc_disk.proofs.Orders.{apart, unwritten_before, settled_in_order}

module _ (standing : Standing) (old new : List ℕ → Type 0) (within : (image : List ℕ) → old image → IsImage standing image) where
  pub images_after_write : (at : ℕ) (bytes : List ℕ) → at ≤ length standing.bytes → Follows (Torn at (length bytes)) old new →
      (image : List ℕ) → new image → IsImage (after_write at bytes standing) image
  images_after_write at bytes fits follows image left =
      let from = follows image left in
      let was = within from.0 from.1 in
      let torn = from.2 in
      let long = length-overwritten at bytes standing.bytes fits in record {
        no_shorter = omega (arith, was.no_shorter, torn.no_shorter);
        no_longer = omega (arith, was.no_longer, torn.no_longer, long);
        untouched = λ i lt un.
            let there : i < length from.0 = omega (arith, lt, was.no_shorter) in
            ⊎_elim (λ under. torn.below i there under) (λ over. torn.above i there over) (apart at (length bytes) i standing.written un)
            ∙ was.untouched i lt (unwritten_before at (length bytes) i standing.written un);
      }

  pub images_after_cut : (to : ℕ) → to ≤ length standing.bytes → Follows (PartlyCut to) old new → (image : List ℕ) → new image →
      IsImage (after_cut to standing) image
  images_after_cut to fits follows image left =
      let from = follows image left in
      let was = within from.0 from.1 in
      let cut = from.2 in
      let long = length-take-le to standing.bytes fits in record {
        no_shorter = omega (arith, was.no_shorter, cut.no_shorter, long);
        no_longer = omega (arith, was.no_longer, cut.no_longer);
        untouched = λ i lt un.
            cut.below i (omega (arith, lt, was.no_shorter, cut.no_shorter, long)) (omega (arith, lt, long)) ∙ was.untouched i
            (omega (arith, lt)) un;
      }

  -- a call that changes nothing, and a sync that fails
  pub images_after_look : LeavesNoMore old new → (image : List ℕ) → new image → IsImage standing image
  images_after_look no_more image left = within image (no_more image left)

-- a sync that answers Ok, and a calm disk
pub images_when_calm : (file : List ℕ) (may_leave : List ℕ → Type 0) → Only file may_leave → (image : List ℕ) → may_leave image →
    IsImage (settled file) image
images_when_calm file may_leave only image left = subst (IsImage (settled file)) (sym (only image left)) (settled_in_order file).present
