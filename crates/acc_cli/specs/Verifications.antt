-- What stands behind the answers of `verify`.
use Rattle.std.specs.Prelude.{◌≡◌, ◌≢◌, ◌⊎◌, ℕ, List, [], ◌∷◌, Option}
use Rattle.std.specs.Io.KnownBytes.{Appends}
use Rattle.acc_base.specs.declared.designs.Design.{Design}
use Rattle.acc_base.specs.declared.machines.Event.{Event}
use Rattle.acc_io.specs.Shelves.{Told}
use Rattle.acc_io.specs.Sinks.{WritesFront}
use Rattle.tpcc_tables.specs.Schema.{IsSchemaOf}
use Rattle.tpcc_tables.specs.declared.tables.TableSet.{TableSet}
use Rattle.acc_journalled.specs.Conditions.{AreConsistent}
use Rattle.acc_journalled.specs.Recovering.{Recovers, done_with}
use Rattle.acc_journalled.specs.Verifying.{verdicts_text}
use Rattle.acc_commands.specs.Texts.{IsDesignText}
use Rattle.acc_commands.specs.Admissions.{IsAcceptedWith}
use Rattle.acc_commands.specs.Command.TheVariants as command
use Rattle.acc_commands.specs.Words.{files_of}
use Rattle.acc_commands.specs.Files.{AreFiles}
use Rattle.acc_cli.specs.Recoveries.{IsBroken}

-- The files spell this design, which is accepted with its certificate and has TPC-C's tables, and the disk held a journal of it. This is
-- the recovered history, all of it durable: the disk holds a journal of just that now. The text has a line for each condition, which tells
-- whether it is true of the recovered rows; with status 0 it was said, and with 10 it or a front of it. With 0 or 7 each condition is true,
-- and with 10 one is false. Where memory ran out, the text is one that could be said.
pub record IsVerified (held : List ℕ → Told) (words : List (List ℕ)) (told told' : Option (List ℕ)) (old new : Option (List ℕ))
    (code : ℕ) (history : List Event) (settled : ℕ) : Type 0 where
  pub design : List ℕ
  pub certificate : List ℕ
  pub given : AreFiles held (files_of command.Verify words) (design ∷ certificate ∷ [])
  pub d : Design
  pub is_text : IsDesignText design d
  pub accepted : IsAcceptedWith d certificate
  pub tables : TableSet
  pub schema : IsSchemaOf tables d
  pub text : List ℕ
  pub recovers : Recovers (verdicts_text tables) d told told' (done_with text history settled)
  pub says : code ≡ 0 → Appends old new text
  pub front : code ≡ 10 → WritesFront old new text
  pub all_true : (code ≡ 0) ⊎ (code ≡ 7) → AreConsistent tables recovers.last.rows
  pub one_false : code ≡ 10 → ¬ AreConsistent tables recovers.last.rows

-- nothing is recovered, and so no history is told; or this one is; or it is told so far, where the call broke off behind the recovery
abbrev pub TellsVerification : (List ℕ → Told) → List (List ℕ) → Option (List ℕ) → Option (List ℕ) → Option (List ℕ) → Option (List ℕ)
    → ℕ → List Event → ℕ → Type 0 → Type 0
TellsVerification held words told told' old new code history settled Stops =
    ((code ≢ 0) × (code ≢ 7) × (code ≢ 10) × (history ≡ []) × (settled ≡ 0))
    ⊎ IsVerified held words told told' old new code history settled ⊎ (IsBroken code × Stops)
