-- How time goes on over a history.
use Rattle.std.proofs.Common.{◌≡◌, ◌⊎◌, inl, inr, ℕ, ◌+◌, ◌≤◌, List, [], ◌∷◌, length, take, refl, sym, ◌∙◌, ap, subst, arith, length-append}
use Rattle.std.proofs.lemmas.List.{take-append-le, ext_get_or}
use Rattle.acc_disk.specs.Crashes.{Torn, PartlyCut, Follows, Only}
use Rattle.acc_disk.specs.Moments.{Elapses}
use Rattle.acc_disk.specs.Standings.{Standing, settled, after_write, after_cut, after_sync, IsImage}
use Rattle.acc_disk.specs.Changes.{after_all}
use Rattle.acc_disk.specs.Histories.{present, past_standing, change_count, LeftSince, IsUnchanged, Advances}
use Rattle.acc_disk.specs.Laws.{past_standing-all}
use Rattle.acc_disk.proofs.Steps.{write_follows, cut_follows}
use Rattle.acc_disk.specs.declared.history.History.{History}

-- what stood when so many changes were done is the same in a history that is unchanged
past_standing-unchanged : (old new : History) (count : ℕ) → IsUnchanged old new → past_standing new count ≡ past_standing old count
past_standing-unchanged old new count same =
    ap (λ changes. after_all (take count changes) (settled new.start.items)) same.past
    ∙ ap (λ start. after_all (take count old.past.items) (settled start)) same.start

pub present-unchanged : (old new : History) → IsUnchanged old new → present new ≡ present old
present-unchanged old new same =
    ap (λ changes. after_all changes (settled new.start.items)) same.past
    ∙ ap (λ start. after_all old.past.items (settled start)) same.start

pub stands_still : (old new : History) → IsUnchanged old new →
    Elapses (change_count old) (change_count new) (LeftSince old) (LeftSince new) (IsImage (present new))
stands_still old new same =
    let count_is : change_count new ≡ change_count old = ap length same.past in record {
      later = omega (arith, count_is);
      nothing_else = λ time image le left. inl (record {
        count = left.count;
        since = left.since;
        within = omega (arith, left.within, count_is);
        left = subst (λ standing. IsImage standing image) (past_standing-unchanged old new left.count same) left.left;
      });
      keeps = λ time image le left. record {
        count = left.count;
        since = left.since;
        within = omega (arith, left.within, count_is);
        left = subst (λ standing. IsImage standing image) (sym (past_standing-unchanged old new left.count same)) left.left;
      };
    }

pub unchanged : (history : History) → IsUnchanged history history
unchanged history = record { start = refl; past = refl; bytes = refl }

module _ (number : ℕ) (step : Standing → Standing) (old new : History) (advances : Advances number step old new) where
  pub change_count-advanced : change_count new ≡ change_count old + 1
  change_count-advanced = ap length advances.past ∙ length-append old.past.items (advances.last ∷ [])

  -- what stood when fewer changes were done stays
  pub past_standing-advanced : (count : ℕ) → count ≤ change_count old → past_standing new count ≡ past_standing old count
  past_standing-advanced count le =
      ap (λ changes. after_all (take count changes) (settled new.start.items)) advances.past
      ∙ ap (λ changes. after_all changes (settled new.start.items)) (take-append-le count old.past.items (advances.last ∷ []) le)
      ∙ ap (λ start. after_all (take count old.past.items) (settled start)) advances.start

  -- a moment is an old one, or the new one
  old_or_new : (time : ℕ) (image : List ℕ) → (left : LeftSince new time image) → (left.count ≤ change_count old) ⊎
      (change_count new ≤ left.count)
  old_or_new time image left = grind (arith, change_count-advanced, left.within)

  pub goes_on : Elapses (change_count old) (change_count new) (LeftSince old) (LeftSince new) (IsImage (present new))
  goes_on = record {
    later = omega (arith, change_count-advanced);
    nothing_else = λ time image le left.
        elim (old_or_new time image left) [
          | inl before ↦ inl (record {
            count = left.count;
            since = left.since;
            within = before;
            left = subst (λ standing. IsImage standing image) (past_standing-advanced left.count before) left.left;
          })
          | inr now ↦ inr (subst (λ standing. IsImage standing image) (past_standing-all new left.count now) left.left)
        ];
    keeps = λ time image le left. record {
      count = left.count;
      since = left.since;
      within = omega (arith, left.within, change_count-advanced);
      left = subst (λ standing. IsImage standing image) (sym (past_standing-advanced left.count left.within)) left.left;
    };
  }

  -- the bytes after a step
  pub bytes-advanced : new.bytes.items ≡ (step (present old)).bytes
  bytes-advanced = sym new.kept ∙ ap (λ standing. standing.bytes) advances.steps

-- what a crash may leave after a write, a cut or a sync
pub left_by_write : (number at : ℕ) (bytes : List ℕ) (old new : History) → Advances number (after_write at bytes) old new →
    at ≤ length old.bytes.items → Follows (Torn at (length bytes)) (IsImage (present old)) (IsImage (present new))
left_by_write number at bytes old new advances fits image is =
    write_follows (present old) at bytes old.in_order (omega (arith, fits, ap length old.kept)) image
    (subst (λ standing. IsImage standing image) advances.steps is)

pub left_by_cut : (number to : ℕ) (old new : History) → Advances number (after_cut to) old new → to ≤ length old.bytes.items →
    Follows (PartlyCut to) (IsImage (present old)) (IsImage (present new))
left_by_cut number to old new advances fits image is =
    cut_follows (present old) to old.in_order (omega (arith, fits, ap length old.kept)) image
    (subst (λ standing. IsImage standing image) advances.steps is)

-- bytes with nothing done since the sync are all that a crash may leave
pub settled_alone : (bytes image : List ℕ) → IsImage (settled bytes) image → image ≡ bytes
settled_alone bytes image is = ext_get_or 0 image bytes (omega (arith, is.no_shorter, is.no_longer))
    (λ i lt. is.untouched i (omega (arith, lt, is.no_longer)) refl)

pub left_by_sync : (number : ℕ) (old new : History) → Advances number after_sync old new → Only new.bytes.items (IsImage (present new))
left_by_sync number old new advances image is =
    settled_alone (present old).bytes image (subst (λ standing. IsImage standing image) advances.steps is)
    ∙ ap (λ standing. standing.bytes) (sym advances.steps) ∙ new.kept
