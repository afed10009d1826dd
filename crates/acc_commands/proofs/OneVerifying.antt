-- `verify` says one thing of its files, and of a disk that tells its bytes; and with the shipped design it finds no condition false.
use Rattle.std.proofs.Common.{◌≡◌, ℕ, List, [], ◌∷◌, All, Option, None, Some, refl, sym, subst, ◌∙◌, inl, inr}
use Rattle.std.specs.Prelude.{◌≢◌}
use Rattle.std.specs.List.{AllByRecursion}
use Rattle.std.proofs.lemmas.List.Elements.{All-nil, All-cons}
use Rattle.acc_base.specs.declared.designs.Design.{Design}
use Rattle.acc_base.specs.Invariant.{IsSteady}
use Rattle.acc_formed.proofs.Runs.{well_formed_runs}
use Rattle.acc_io.specs.Causes.{Rose}
use Rattle.acc_lift.specs.Acceptance.{IsAccepted}
use Rattle.acc_journalled.specs.declared.answers.Ending.TheVariants.{Done, DesignRefused, ConditionFalse}
use Rattle.acc_journalled.specs.Conditions.{EndsByRows}
use Rattle.acc_journalled.specs.Tellings.{Telling}
use Rattle.acc_journalled.specs.Verifying.{VerifiesJournal}
use Rattle.acc_journalled.proofs.Numbered.{recovered_steady}
use Rattle.acc_journalled.proofs.Once.{verifying_once}
use Rattle.acc_commands_journals.specs.Disks.{Seen, TellsAll}
use Rattle.acc_commands_journals.specs.Text.{said_in}
use Rattle.acc_commands_journals.specs.Texts.{IsDesignText}
use Rattle.acc_commands_journals.specs.VerifyFiles.{VerifiesSeen, VerifiesSchema, VerifiesCertified, VerifiesDesign, VerifiesFiles}
use Rattle.acc_commands_journals.proofs.JournalEndings.{other_end, refusal_ends, untold_ends, over_true}
use Rattle.acc_commands_journals.proofs.OneDesign.{one_design, one_refusal, formed_or_refused}
use Rattle.acc_commands_journals.proofs.OneSchema.{one_schema, one_schema_refusal, found_or_refused}
use Rattle.acc_commands_files.specs.Law.{KeepsConditions}
use Rattle.acc_commands_files.specs.ShippedText.{shipped_design}
use Rattle.acc_commands_files.proofs.Reading.{has_shipped}
use Rattle.acc_commands_files.proofs.Theorem.{keeps}
use Rattle.tpcc_tables.specs.Conditions.{IsTrueOf}
use Rattle.tpcc_tables.specs.Schema.{IsSchemaOf}
use Rattle.tpcc_tables.specs.declared.kinds.TheConstants.{CONDITIONS}
use Rattle.tpcc_tables.specs.declared.tables.TableSet.{TableSet}
use Rattle.acc_commands.specs.Laws.{ShippedStaysTrue}
use Rattle.acc_commands.proofs.OneRun.{one_certificate_refusal, accepted_or_refused}

pub telling_same : (a b : Telling) → said_in a ≡ said_in b → a.settled ≡ b.settled → a ≡ b
telling_same a b said settled =
    λ i. record { ending = (said i).ending; text = (said i).text; history = (said i).history; settled = settled i }

-- ---- one thing is said

module _ (old one other : Seen) (a b : Telling) (all : TellsAll old one other) where
  one_judged : (told : Option (List ℕ)) (s : TableSet) (d : Design) → old.told ≡ told → VerifiesSeen s d old one a
      → VerifiesSeen s d old other b → a ≡ b
  one_judged None s d is h k = absurd (all.0 is)
  one_judged (Some file) s d is h k =
      verifying_once d file s one.told other.told a b (Rose old.faults one.faults) (Rose old.faults other.faults) all.1 all.2
      (subst (λ t. VerifiesJournal s d t one.told (Rose old.faults one.faults) a) is h)
      (subst (λ t. VerifiesJournal s d t other.told (Rose old.faults other.faults) b) is k)

  one_by_schema : (d : Design) → VerifiesSchema d old one a → VerifiesSchema d old other b → a ≡ b
  one_by_schema d (inl h) (inl k) = telling_same a b (one_schema_refusal d (said_in a) (said_in b) h.2 k.2) (h.0 ∙ sym k.0)
  one_by_schema d (inl h) (inr k) = absurd (found_or_refused d k.tables (said_in a) k.schema h.2)
  one_by_schema d (inr h) (inl k) = absurd (found_or_refused d h.tables (said_in b) h.schema k.2)
  one_by_schema d (inr h) (inr k) =
      one_judged old.told k.tables d refl
      (subst (λ s. VerifiesSeen s d old one a) (one_schema d h.tables k.tables h.schema k.schema) h.ends) k.ends

  one_by_certificate : (d : Design) (certificate : List ℕ) → VerifiesCertified d certificate old one a
      → VerifiesCertified d certificate old other b → a ≡ b
  one_by_certificate d certificate (inl h) (inl k) =
      telling_same a b (one_certificate_refusal d certificate (said_in a) (said_in b) h.2 k.2) (h.0 ∙ sym k.0)
  one_by_certificate d certificate (inl h) (inr k) = absurd (accepted_or_refused d certificate (said_in a) k.accepted h.2)
  one_by_certificate d certificate (inr h) (inl k) = absurd (accepted_or_refused d certificate (said_in b) h.accepted k.2)
  one_by_certificate d certificate (inr h) (inr k) = one_by_schema d h.says k.says

  pub one_verify : (design certificate : List ℕ) → VerifiesFiles design certificate old one a
      → VerifiesFiles design certificate old other b → a ≡ b
  one_verify design certificate (inl h) (inl k) =
      telling_same a b (one_refusal design (said_in a) (said_in b) h.2 k.2) (h.0 ∙ sym k.0)
  one_verify design certificate (inl h) (inr k) = absurd (formed_or_refused design k.d (said_in a) k.is_text k.formed h.2)
  one_verify design certificate (inr h) (inl k) = absurd (formed_or_refused design h.d (said_in b) h.is_text h.formed k.2)
  one_verify design certificate (inr h) (inr k) =
      one_by_certificate k.d certificate
      (subst (λ (d : Design). VerifiesCertified d certificate old one a) (one_design design h.d k.d h.is_text k.is_text) h.says) k.says

-- ---- with the shipped design no condition is false

pub all_by_place : {X : Type 0} (P : X → Type 0) (xs : List X) → AllByRecursion P xs → All P xs
all_by_place P [] h = All-nil P
all_by_place P (x ∷ xs) h = All-cons P x xs h.0 (all_by_place P xs h.1)

module _ (certificate : List ℕ) (old new : Seen) (t : Telling) (so : t.ending ≡ ConditionFalse) where
  -- recovered rows of the shipped design meet them all
  judged_true : (d : Design) (s : TableSet) → IsAccepted d → d ≡ shipped_design → IsSchemaOf s d
      → VerifiesJournal s d old.told new.told (Rose old.faults new.faults) t → ⊥
  judged_true d s accepted is schema (inl h) = by h.ending
    where
      steady : IsSteady d h.recovers.last
      steady = recovered_steady d h.recovers.found h.recovers.last accepted h.recovers.recovery

      by : EndsByRows s h.recovers.last.rows t.ending → ⊥
      by (inl e) = other_end Done ConditionFalse t (λ e. cc) e.0 so
      by (inr e) =
          e.1 (all_by_place (IsTrueOf s h.recovers.last.rows) CONDITIONS
          (subst KeepsConditions (sym is) (keeps shipped_design has_shipped) s h.recovers.last.rows schema steady.rows h.recovers.idle))
  judged_true d s accepted is schema (inr h) =
      over_true (Rose old.faults new.faults) t (untold_ends d old.told new.told (Rose old.faults new.faults) t h) so

  of_design : (design : List ℕ) → IsDesignText design shipped_design → VerifiesDesign design certificate old new t → ⊥
  of_design design is_text h = certified h.says
    where
      of_tables : IsAccepted h.d → VerifiesSchema h.d old new t → ⊥
      of_tables accepted (inl k) = other_end DesignRefused ConditionFalse t (λ e. cc) k.2.says.0 so
      of_tables accepted (inr k) =
          judged_true h.d k.tables accepted (one_design design h.d shipped_design h.is_text is_text) k.schema k.ends

      certified : VerifiesCertified h.d certificate old new t → ⊥
      certified (inl k) = other_end DesignRefused ConditionFalse t (λ e. cc) k.2.ending so
      certified (inr k) =
          of_tables (record { sound = k.accepted.sound; formed = h.formed; runnable = well_formed_runs h.d h.formed }) k.says

pub shipped_stays_true : ShippedStaysTrue
shipped_stays_true design certificate old new t is_text (inl h) so =
    other_end DesignRefused ConditionFalse t (λ e. cc) (refusal_ends design (said_in t) h.2) so
shipped_stays_true design certificate old new t is_text (inr h) so = of_design certificate old new t so design is_text h
