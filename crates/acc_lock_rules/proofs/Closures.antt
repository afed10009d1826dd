-- The points that undo steps reach can be found.
use Rattle.std.proofs.Common.{◌≡◌, ◌⊎◌, ◌<◌, ◌≤◌, ◌+◌, ◌||◌, inl, inr, ℕ, zero, suc, Bool, true, false, List, [], ◌∷◌, length}
use Rattle.std.proofs.Common.{set, replicate, Option, Some, None, refl, sym, ap, subst, ◌∙◌, arith}
use Rattle.std.specs.Prelude.{◌≢◌}
use Rattle.acc_base.specs.declared.steps.Path.{Path}
use Rattle.acc_base.specs.declared.designs.Point.{Point}
use Rattle.acc_base.specs.declared.designs.Design.{Design}
use Rattle.acc_base.specs.Effects.{point_of}
use Rattle.acc_lift.proofs.Becoming.{number_cases}
use Rattle.acc_table.specs.Closures.{is_set, some_leads, LeadsWithin, IsClosure}
use Rattle.acc_table.proofs.Reaching.{IsPart, begun, done_none, done_some, all_done}

-- ---- flags

inside : (flags : List Bool) (q : ℕ) → is_set flags q ≡ true → q < length flags
inside [] q h = cc
inside (b ∷ flags) zero h = omega arith
inside (b ∷ flags) (suc q) h = let k = inside flags q h in omega (arith, k)

-- the flags from place k on, with those set to whose places a path leads
abbrev marked : List Path → ℕ → List Bool → List Bool
marked paths k [] = []
marked paths k (b ∷ flags) = (b || some_leads k paths) ∷ marked paths (k + 1) flags

marked_long : (paths : List Path) (k : ℕ) (flags : List Bool) → length (marked paths k flags) ≡ length flags
marked_long paths k [] = refl
marked_long paths k (b ∷ flags) = ap suc (marked_long paths (k + 1) flags)

marked_is : (paths : List Path) (k : ℕ) (flags : List Bool) (q : ℕ) → q < length flags
    → is_set (marked paths k flags) q ≡ (is_set flags q || some_leads (k + q) paths)
marked_is paths k [] q less = absurd (omega (arith, less))
marked_is paths k (b ∷ flags) zero less =
    let place : k ≡ k + 0 = omega arith in ap (λ (n : ℕ). b || some_leads n paths) place
marked_is paths k (b ∷ flags) (suc q) less =
    let place : k + 1 + q ≡ k + suc q = omega arith in
    marked_is paths (k + 1) flags q (omega (arith, less)) ∙ ap (λ (n : ℕ). is_set flags q || some_leads n paths) place

-- how many flags are not set
abbrev left : List Bool → ℕ
left [] = 0
left (true ∷ flags) = left flags
left (false ∷ flags) = suc (left flags)

fewer_left : (flags : List Bool) (i : ℕ) → i < length flags → is_set flags i ≡ false → left (set flags i true) < left flags
fewer_left [] i less unset = absurd (omega (arith, less))
fewer_left (true ∷ flags) zero less unset = cc
fewer_left (false ∷ flags) zero less unset = omega arith
fewer_left (true ∷ flags) (suc i) less unset = fewer_left flags i (omega (arith, less)) unset
fewer_left (false ∷ flags) (suc i) less unset =
    let k = fewer_left flags i (omega (arith, less)) unset in omega (arith, k)

-- ---- points that are reached and not done

record Pending (reached done : List Bool) : Type 0 where
  i : ℕ
  got : is_set reached i ≡ true
  undone : is_set done i ≡ false

-- what holds below n and of n holds below the next number
up_to : (P : ℕ → Type 0) (n : ℕ) → ((q : ℕ) → q < n → P q) → P n → (q : ℕ) → q < suc n → P q
up_to P n before here q less = by (number_cases q n)
  where
    by : (q ≡ n) ⊎ (q ≢ n) → P q
    by (inl same) = subst P (sym same) here
    by (inr other) = before q (omega (arith, less, other))

abbrev AreDone : List Bool → List Bool → ℕ → Type 0
AreDone reached done n = (q : ℕ) → q < n → is_set reached q ≡ true → is_set done q ≡ true

pending : (reached done : List Bool) (n : ℕ) → Pending reached done ⊎ AreDone reached done n
pending reached done zero = inr (λ q less h. absurd (omega (arith, less)))
pending reached done (suc n) = by (pending reached done n) (is_set reached n) (is_set done n) refl refl
  where
    by : Pending reached done ⊎ AreDone reached done n → (a b : Bool) → is_set reached n ≡ a → is_set done n ≡ b
        → Pending reached done ⊎ AreDone reached done (suc n)
    by (inl p) a b e f = inl p
    by (inr all) true false e f = inl (record { i = n; got = e; undone = f })
    by (inr all) a true e f = inr (up_to (λ q. is_set reached q ≡ true → is_set done q ≡ true) n all (λ h. f))
    by (inr all) false false e f = inr (up_to (λ q. is_set reached q ≡ true → is_set done q ≡ true) n all (λ h. cc))

-- ---- one point after the other

module _ (d : Design) (ty p : ℕ) (within : LeadsWithin d ty) where
  one_done : (reached done : List Bool) → IsPart d ty p reached done → (q : Pending reached done)
      → (after : List Bool) × IsPart d ty p after (set done q.i true)
  one_done reached done part q = by (point_of d ty q.i) refl
    where
      by : (o : Option Point) → point_of d ty q.i ≡ o → (after : List Bool) × IsPart d ty p after (set done q.i true)
      by None e = (reached, done_none d ty p reached done part within q.i q.got e)
      by (Some point) e =
          let paths = point.undo.paths in (
            marked paths 0 reached,
            done_some d ty p reached done part within q.i q.got point (marked paths 0 reached) e
                (marked_long paths 0 reached ∙ part.long)
                (λ k less.
                let long = part.long in
                let place : 0 + k ≡ k = omega arith in
                marked_is paths 0 reached k (omega (arith, less, long))
                ∙ ap (λ (n : ℕ). is_set reached k || some_leads n paths) place),
          )

  abbrev Found : Type 0
  Found = (flags : List Bool) × IsClosure d ty p flags

  -- none is left, or one is done and the rest is left to another
  go_on : (reached done : List Bool) → IsPart d ty p reached done
      → ((after more : List Bool) → IsPart d ty p after more → left more < left done → Found) → Found
  go_on reached done part later = by (pending reached done 32)
    where
      by : Pending reached done ⊎ AreDone reached done 32 → Found
      by (inr all) =
          let long = part.long in (
            reached,
            all_done d ty p reached done part (λ q h.
                let less = inside reached q h in
                all q (omega (arith, less, long)) h),
          )
      by (inl q) =
          let one = one_done reached done part q in
          let within_reached = inside reached q.i q.got in
          let long = part.long in
          let done_long = part.done_long in
          later one.0 (set done q.i true) one.1 (fewer_left done q.i (omega (arith, within_reached, long, done_long)) q.undone)

  close : (most : ℕ) (reached done : List Bool) → IsPart d ty p reached done → left done ≤ most → Found
  close zero reached done part few = go_on reached done part (λ after more next fewer. absurd (omega (arith, few, fewer)))
  close (suc most) reached done part few =
      go_on reached done part (λ after more next fewer. close most after more next (omega (arith, few, fewer)))

-- the flags of the points that undo steps reach
pub closure : (d : Design) (ty p : ℕ) → LeadsWithin d ty → p < 32 → (flags : List Bool) × IsClosure d ty p flags
closure d ty p within first =
    let none = replicate 32 false in close d ty p within (left none) (set none p true) none (begun d ty p first) (omega arith)
