-- What the files that are given, and the endings of commands, say of the disk.
use Rattle.std.proofs.Common.{◌≤◌, ◌^◌, ℕ, List, [], ◌∷◌, length, refl, inl, inr, arith}
use Rattle.std.specs.Prelude.{◌≢◌, All}
use Rattle.std.proofs.lemmas.List.Elements.{All-nil, All-cons}
use Rattle.acc_io.specs.Shelves.{Told}
use Rattle.acc_journalled.specs.declared.answers.Ending.{Ending}
use Rattle.acc_journalled.specs.declared.answers.Ending.TheVariants.{Done, DesignRefused, ScriptRefused, JournalRefused}
use Rattle.acc_journalled.specs.declared.answers.Ending.TheVariants.{DiskFailed, Unbegun, Open, ConditionFalse}
use Rattle.acc_commands.specs.Text.{IsEarly}
use Rattle.acc_commands.specs.Files.{AreFiles}
use Rattle.acc_cli.specs.declared.status.Status.TheVariants.{Ran}
use Rattle.acc_cli.specs.Status.{code_of, IsBeforeJournal}

-- files that are given have at most 2^26 bytes each
pub short_files : (held : List ℕ → Told) (names files : List (List ℕ)) → AreFiles held names files
    → All (λ (file : List ℕ). length file ≤ 2 ^ 26) files
short_files held names [] h = All-nil (λ (file : List ℕ). length file ≤ 2 ^ 26)
short_files held [] (file ∷ files) h = absurd h
short_files held (name ∷ names) (file ∷ files) h =
    All-cons (λ (file : List ℕ). length file ≤ 2 ^ 26) file files h.0.0 (short_files held names files h.1)

-- the statuses before the journal are those of the endings before it
pub early : (ending : Ending) → IsBeforeJournal (code_of (Ran ending)) → IsEarly ending
early Done h = absurd (omega (arith, h))
early DesignRefused h = inl refl
early ScriptRefused h = inr refl
early JournalRefused h = absurd (omega (arith, h))
early DiskFailed h = absurd (omega (arith, h))
early Unbegun h = absurd (omega (arith, h))
early Open h = absurd (omega (arith, h))
early ConditionFalse h = absurd (omega (arith, h))

pub not_failed : (ending : Ending) → code_of (Ran ending) ≢ 5 → ending ≢ DiskFailed
not_failed DiskFailed h = absurd (h refl)
not_failed Done h = λ e. cc
not_failed DesignRefused h = λ e. cc
not_failed ScriptRefused h = λ e. cc
not_failed JournalRefused h = λ e. cc
not_failed Unbegun h = λ e. cc
not_failed Open h = λ e. cc
not_failed ConditionFalse h = λ e. cc
