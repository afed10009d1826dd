-- One thing is said of old bytes and a disk that tells its own.
use Rattle.std.proofs.Common.{◌≡◌, inl, inr, List, ℕ, Option, Some, length, refl, sym, ap, subst, ◌∙◌}
use Rattle.acc_base.specs.declared.designs.Design.{Design}
use Rattle.acc_base.specs.declared.machines.Event.{Event}
use Rattle.acc_base.specs.Machine.{World}
use Rattle.acc_recover.specs.Recoveries.{IsRecovery}
use Rattle.acc_recover.specs.declared.errors.RecoverError.{RecoverError}
use Rattle.acc_recover.proofs.Single.{one_recovery}
use Rattle.acc_journalled.specs.declared.answers.Ending.TheVariants.{JournalRefused}
use Rattle.acc_journalled.specs.Tellings.{Telling}
use Rattle.acc_journalled.specs.Recovering.{IsRecoveredFrom, SaysNotRecovered}
use Rattle.acc_journalled.specs.Migrating.{Migrates, RefusesOld, MigratesJournal, migrated_text}
use Rattle.acc_journalled.proofs.Once.{telling_same, says_same, not_recovered_once, same_events, refused_once, recovered_or}

module _ (d : Design) (old : List ℕ) where
  last_once : (p q : World) → IsRecoveredFrom d (Some old) p → IsRecoveredFrom d (Some old) q → p ≡ q
  last_once p q h k =
      one_recovery d k.found p q
      (subst (λ (es : List Event). IsRecovery d es p) (same_events d old h.found k.found h.counts k.counts) h.recovery) k.recovery

  -- what is recovered isn't refused
  not_both : (last : World) (told told' : Option (List ℕ)) (t : Telling) → IsRecoveredFrom d (Some old) last
      → RefusesOld d old told told' t → ⊥
  not_both last told told' t h k =
      recovered_or d old h.found last k.error ⊥ t (λ none. none) h.counts h.sealed h.recovery k.cause k.says

  module _ (file : List ℕ) (one other : Option (List ℕ)) (a b : Telling) where
    refusals_once : RefusesOld d old (Some file) one a → RefusesOld d old (Some file) other b → a ≡ b
    refusals_once h k =
        let same = refused_once d old h.error k.error ⊥ ⊥ a b (λ none. none) (λ none. none) h.cause k.cause h.says k.says in
        not_recovered_once k.error a b (subst (λ (e : RecoverError). SaysNotRecovered e a) same h.says) k.says

    migrates_once : Migrates d old (Some file) one a → Migrates d old (Some file) other b → a ≡ b
    migrates_once h k =
        let last = last_once h.last k.last h.recovered k.recovered in
        telling_same a b (h.says.0 ∙ sym k.says.0) (h.says.1 ∙ ap migrated_text last ∙ sym k.says.1)
        (h.says.2 ∙ ap (λ (w : World). w.events) last ∙ sym k.says.2)
        (h.says.3 ∙ ap (λ (w : World). length w.events) last ∙ sym k.says.3)

    pub migrating_once : (x y : Type 0) → ¬ x → ¬ y → MigratesJournal d old (Some file) one x a
        → MigratesJournal d old (Some file) other y b → a ≡ b
    migrating_once x y calm sound (inl h) (inl k) = migrates_once h k
    migrating_once x y calm sound (inl h) (inr (inl k)) = absurd (not_both h.last (Some file) other b h.recovered k)
    migrating_once x y calm sound (inl h) (inr (inr (inl k))) = absurd (h.fresh k.finds.there)
    migrating_once x y calm sound (inl h) (inr (inr (inr k))) = absurd (sound k.failed)
    migrating_once x y calm sound (inr (inl h)) (inl k) = absurd (not_both k.last (Some file) one a k.recovered h)
    migrating_once x y calm sound (inr (inl h)) (inr (inl k)) = refusals_once h k
    migrating_once x y calm sound (inr (inl h)) (inr (inr (inl k))) = absurd (not_both k.last (Some file) one a k.recovered h)
    migrating_once x y calm sound (inr (inl h)) (inr (inr (inr k))) = absurd (sound k.failed)
    migrating_once x y calm sound (inr (inr (inl h))) (inl k) = absurd (k.fresh h.finds.there)
    migrating_once x y calm sound (inr (inr (inl h))) (inr (inl k)) = absurd (not_both h.last (Some file) other b h.recovered k)
    migrating_once x y calm sound (inr (inr (inl h))) (inr (inr (inl k))) = says_same JournalRefused _ _ a b refl h.finds.says k.finds.says
    migrating_once x y calm sound (inr (inr (inl h))) (inr (inr (inr k))) = absurd (sound k.failed)
    migrating_once x y calm sound (inr (inr (inr h))) k = absurd (calm h.failed)
