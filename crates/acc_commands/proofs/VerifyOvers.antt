-- Which journal `verify` refuses, and what it finds where a condition is false.
use Rattle.std.proofs.Common.{◌≡◌, ℕ, List, inl, inr, sym, ◌∙◌}
use Rattle.std.specs.Prelude.{◌⊎◌}
use Rattle.acc_io.specs.Causes.{Rose}
use Rattle.acc_base.specs.declared.designs.Design.{Design}
use Rattle.acc_journalled.specs.declared.answers.Ending.{Ending}
use Rattle.acc_journalled.specs.declared.answers.Ending.TheVariants.{Done, DesignRefused, JournalRefused, DiskFailed, ConditionFalse, Unbegun}
use Rattle.acc_journalled.specs.Conditions.{EndsByRows}
use Rattle.acc_journalled.specs.Recovering.{RefusesSo}
use Rattle.acc_journalled.specs.Tellings.{Telling}
use Rattle.acc_journalled.specs.Verifying.{Verifies, VerifiesJournal}
use Rattle.acc_commands_journals.specs.Text.{said_in}
use Rattle.acc_commands_journals.specs.Disks.{Seen}
use Rattle.acc_commands_journals.specs.VerifyFiles.{VerifiesTables, VerifiesSchema, VerifiesCertified, VerifiesFiles}
use Rattle.acc_commands_journals.proofs.JournalEndings.{other_end, refusal_ends, untold_ends, untold_refused, over_unbegun, over_true}
use Rattle.tpcc_tables.specs.Schema.{IsSchemaOf}
use Rattle.tpcc_tables.specs.declared.tables.TableSet.{TableSet}
use Rattle.acc_commands.specs.Overs.{FindsFalse}

-- what ends so isn't refused ahead of the journal: the journal was asked
module _ (old new : Seen) (t : Telling) (ending : Ending) (so : t.ending ≡ ending) (late : (DesignRefused ≡ ending) → ⊥) where
  was_asked : (design certificate : List ℕ) → VerifiesFiles design certificate old new t → (d : Design) × VerifiesTables d old new t
  was_asked design certificate (inl h) = absurd (other_end DesignRefused ending t late (refusal_ends design (said_in t) h.2) so)
  was_asked design certificate (inr h) = certified h.says
    where
      tables : VerifiesSchema h.d old new t → (d : Design) × VerifiesTables d old new t
      tables (inl k) = absurd (other_end DesignRefused ending t late k.2.says.0 so)
      tables (inr k) = (h.d, k)

      certified : VerifiesCertified h.d certificate old new t → (d : Design) × VerifiesTables d old new t
      certified (inl k) = absurd (other_end DesignRefused ending t late k.2.ending so)
      certified (inr k) = tables k.says

-- ---- the journal is refused

judged_or : (s : TableSet) (d : Design) (old new : Seen) (t : Telling) (other : Ending) → (Done ≡ other → ⊥) → (ConditionFalse ≡ other → ⊥)
    → t.ending ≡ other → Verifies s d old.told new.told t → ⊥
judged_or s d old new t other done false so h = by h.ending
  where
    by : EndsByRows s h.recovers.last.rows t.ending → ⊥
    by (inl e) = other_end Done other t done e.0 so
    by (inr e) = other_end ConditionFalse other t false e.0 so

module _ (old new : Seen) (t : Telling) where
  pub verify_refused : (design certificate : List ℕ) → t.ending ≡ JournalRefused → VerifiesFiles design certificate old new t
      → (d : Design) × RefusesSo d old.told new.told (Rose old.faults new.faults) t
  verify_refused design certificate so h =
      let asked = was_asked old new t JournalRefused so (λ e. cc) design certificate h in (asked.0, by asked.0 asked.1.tables asked.1.ends)
    where
      by : (d : Design) (s : TableSet) → VerifiesJournal s d old.told new.told (Rose old.faults new.faults) t
          → RefusesSo d old.told new.told (Rose old.faults new.faults) t
      by d s (inl k) = absurd (judged_or s d old new t JournalRefused (λ e. cc) (λ e. cc) so k)
      by d s (inr k) = untold_refused d old.told new.told (Rose old.faults new.faults) t so k

  -- ---- no place is left unbegun

  pub verify_unbegun : (design certificate : List ℕ) → t.ending ≡ Unbegun → VerifiesFiles design certificate old new t → ⊥
  verify_unbegun design certificate so h =
      let asked = was_asked old new t Unbegun so (λ e. cc) design certificate h in by asked.0 asked.1.tables asked.1.ends
    where
      by : (d : Design) (s : TableSet) → VerifiesJournal s d old.told new.told (Rose old.faults new.faults) t → ⊥
      by d s (inl k) = judged_or s d old new t Unbegun (λ e. cc) (λ e. cc) so k
      by d s (inr k) =
          over_unbegun (Rose old.faults new.faults) t (untold_ends d old.told new.told (Rose old.faults new.faults) t k) so

  -- ---- a condition is false

  pub verify_false : (design certificate : List ℕ) → t.ending ≡ ConditionFalse → VerifiesFiles design certificate old new t
      → FindsFalse old new t
  verify_false design certificate so h =
      let asked = was_asked old new t ConditionFalse so (λ e. cc) design certificate h in
      by asked.0 asked.1.tables asked.1.schema asked.1.ends
    where
      judged : (d : Design) (s : TableSet) → IsSchemaOf s d → (k : Verifies s d old.told new.told t)
          → EndsByRows s k.recovers.last.rows t.ending → FindsFalse old new t
      judged d s schema k (inl e) = absurd (other_end Done ConditionFalse t (λ e. cc) e.0 so)
      judged d s schema k (inr e) = record { d = d; tables = s; schema = schema; verified = k; not_all = e.1 }

      by : (d : Design) (s : TableSet) → IsSchemaOf s d → VerifiesJournal s d old.told new.told (Rose old.faults new.faults) t
          → FindsFalse old new t
      by d s schema (inl k) = judged d s schema k k.ending
      by d s schema (inr k) =
          absurd (over_true (Rose old.faults new.faults) t (untold_ends d old.told new.told (Rose old.faults new.faults) t k) so)
