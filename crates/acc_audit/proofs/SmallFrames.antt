-- The frames of the unfinished transactions of a run are small.
use Rattle.std.proofs.Common.{◌≡◌, ℕ, zero, suc, ◌+◌, ◌<◌, ◌≤◌, ◌^◌, List, [], ◌∷◌, length, Option, Some, None, All, refl, ◌∙◌, arith}
use Rattle.std.proofs.Common.{subst, slice_get, filter_map, IfSome, Bool, true, false, cond, ◌==◌}
use Rattle.std.specs.List.{cons_option, AllByRecursion}
use Rattle.std.proofs.lemmas.List.Elements.{All-from_recursion, recursion_from_All}
use Rattle.std.proofs.lemmas.Option.{none-some, same_Some}
use Rattle.acc_base.specs.declared.designs.Design.{Design}
use Rattle.acc_base.specs.declared.machines.Frame.{Frame}
use Rattle.acc_base.specs.declared.machines.Transaction.{Transaction}
use Rattle.acc_base.specs.Machine.{World, frame_in, unfinished}
use Rattle.acc_base.specs.Runnable.{IsSmallFrame}
use Rattle.acc_audit.specs.Since.{frame_of}
use Rattle.acc_plain.specs.Reached.{IsReached}
use Rattle.acc_plain.proofs.Fitting.{IsOwn, AreFit, fits_frame}
use Rattle.acc_plain.proofs.Steady.{steady_reached}

small_frames : (n : ℕ) (ts : List Transaction) → AreFit n ts → n + length ts ≤ 2 ^ 45 → AllByRecursion IsSmallFrame (filter_map frame_in ts)
small_frames n [] fit few = tt
small_frames n (x ∷ ts) fit few = by (frame_in x) fit.0 (small_frames (n + 1) ts fit.1 (omega (arith, few)))
  where
    by : (o : Option Frame) → IfSome o (IsOwn n) → AllByRecursion IsSmallFrame (filter_map frame_in ts) →
        AllByRecursion IsSmallFrame (cons_option o (filter_map frame_in ts))
    by None own rest = rest
    by (Some f) own rest = (fits_frame n f own (omega (arith, few)), rest)

pub frames_small : (d : Design) (w : World) → IsReached d w → length w.events < 2 ^ 31 → All IsSmallFrame (unfinished w)
frames_small d w reached few =
    let s = steady_reached d w reached (omega (arith, few)) in
    All-from_recursion IsSmallFrame (unfinished w) (small_frames 1 w.transactions s.fit (omega (arith, few, s.counted)))

-- and so is each that is found by its number
pub found_small : (frames : List Frame) (t : ℕ) (f : Frame) → All IsSmallFrame frames → frame_of t frames ≡ Some f → IsSmallFrame f
found_small frames t f all = among frames (recursion_from_All IsSmallFrame frames all)
  where
    among : (fs : List Frame) → AllByRecursion IsSmallFrame fs → frame_of t fs ≡ Some f → IsSmallFrame f
    among [] a h = absurd (none-some f h)
    among (g ∷ fs) a h = by (g.t == t) h (among fs a.1)
      where
        by : (b : Bool) → cond b (Some g) (frame_of t fs) ≡ Some f → (frame_of t fs ≡ Some f → IsSmallFrame f) → IsSmallFrame f
        by true e ih = subst IsSmallFrame (same_Some g f e) a.0
        by false e ih = ih e

-- an unfinished transaction among all
pub record IsUnfinishedAt (ts : List Transaction) (f : Frame) : Type 0 where
  pub place : ℕ
  pub x : Transaction
  pub at : slice_get ts place ≡ Some x
  pub frame : frame_in x ≡ Some f

pub unfinished_at : (ts : List Transaction) (j : ℕ) (f : Frame) → slice_get (filter_map frame_in ts) j ≡ Some f → IsUnfinishedAt ts f
unfinished_at [] j f h = absurd (none-some f h)
unfinished_at (x ∷ ts) j f h = by (frame_in x) refl j h (λ i g. later (unfinished_at ts i f g))
  where
    later : IsUnfinishedAt ts f → IsUnfinishedAt (x ∷ ts) f
    later u = record { place = suc u.place; x = u.x; at = u.at; frame = u.frame }

    by : (o : Option Frame) → frame_in x ≡ o → (j : ℕ) → slice_get (cons_option o (filter_map frame_in ts)) j ≡ Some f →
        ((i : ℕ) → slice_get (filter_map frame_in ts) i ≡ Some f → IsUnfinishedAt (x ∷ ts) f) → IsUnfinishedAt (x ∷ ts) f
    by None e j h rest = rest j h
    by (Some g) e zero h rest = record { place = 0; x = x; at = refl; frame = e ∙ h }
    by (Some g) e (suc j) h rest = rest j h
