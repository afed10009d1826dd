-- How a run of calls goes on, for what a crash at any of its moments leaves.
use Rattle.std.proofs.Common.{inl, inr, ⊎_elim, ℕ, List, arith}
use Rattle.acc_disk.specs.Moments.{Elapses, AtAnyMoment}

module _ {D : Type 0} (clock : D → ℕ) (left_since : D → ℕ → List ℕ → Type 0) where
  -- before the first call: what a crash at this very moment leaves
  pub at_start : (old : D) (P : List ℕ → Type 0) → ((image : List ℕ) → left_since old (clock old) image → P image) →
      AtAnyMoment clock left_since old old P
  at_start old P here = record { later = omega arith; each = here; before = λ time image le left. inl left }

  -- one call more, after which a crash leaves bytes of this kind too
  pub after_call : (old mid new : D) (P may_leave : List ℕ → Type 0) → AtAnyMoment clock left_since old mid P →
      Elapses (clock mid) (clock new) (left_since mid) (left_since new) may_leave
      → ((image : List ℕ) → may_leave image → P image) → AtAnyMoment clock left_since old new P
  after_call old mid new P may_leave so_far time here = record {
    later = omega (arith, so_far.later, time.later);
    each = λ image left. ⊎_elim (so_far.each image) (here image) (time.nothing_else (clock old) image so_far.later left);
    before = λ moment image le left. ⊎_elim (so_far.before moment image le) (λ now. inr (here image now))
        (time.nothing_else moment image (omega (arith, le, so_far.later)) left);
  }

  -- one run, and then another
  pub after_run : (old mid new : D) (P : List ℕ → Type 0) → AtAnyMoment clock left_since old mid P →
      AtAnyMoment clock left_since mid new P → AtAnyMoment clock left_since old new P
  after_run old mid new P first second = record {
    later = omega (arith, first.later, second.later);
    each = λ image left. ⊎_elim (first.each image) (λ now. now) (second.before (clock old) image first.later left);
    before = λ moment image le left. ⊎_elim (first.before moment image le) (λ now. inr now)
        (second.before moment image (omega (arith, le, first.later)) left);
  }

  -- bytes of a kind are bytes of a wider one
  pub wider : (old new : D) (P Q : List ℕ → Type 0) → ((image : List ℕ) → P image → Q image) → AtAnyMoment clock left_since old new P →
      AtAnyMoment clock left_since old new Q
  wider old new P Q gives run = record {
    later = run.later;
    each = λ image left. gives image (run.each image left);
    before = λ moment image le left. ⊎_elim (λ past. inl past) (λ now. inr (gives image now)) (run.before moment image le left);
  }
