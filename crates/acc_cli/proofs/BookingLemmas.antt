-- Where `booking verify` ended with status 0 or 7, nothing of the recovered rows is oversold.
use Rattle.std.proofs.Common.{◌≡◌, ℕ, Bool, List, [], ◌∷◌, Option, Some, inl, inr, sym, subst, ◌∙◌}
use Rattle.std.specs.Prelude.{◌⊎◌}
use Rattle.acc_base.specs.declared.machines.Event.{Event}
use Rattle.acc_io.specs.Shelves.{Told}
use Rattle.acc_io.specs.declared.counts.Counts.{Counts}
use Rattle.acc_journalled.specs.declared.answers.Ending.TheVariants.{Done}
use Rattle.acc_journalled.specs.Tellings.{Telling}
use Rattle.acc_commands.specs.Command.{Command}
use Rattle.acc_commands.specs.Command.TheVariants as command
use Rattle.acc_commands.specs.Disks.{Seen}
use Rattle.acc_commands.specs.Files.{AreFiles}
use Rattle.acc_commands.specs.Means.{MeansOverDisk}
use Rattle.acc_commands.specs.Words.{command_of, files_of}
use Rattle.acc_commands.proofs.Bookings.{booked}
use Rattle.acc_cli.specs.declared.status.Status.{Status}
use Rattle.acc_cli.specs.declared.status.Status.TheVariants.{File, Sink, Memory, Ran}
use Rattle.acc_cli.specs.Replies.{Reply}
use Rattle.acc_cli.specs.Meant.{MeansForm, Meant}
use Rattle.acc_cli.specs.Answered.{Answered}
use Rattle.acc_cli.specs.Bookings.{SellsOnce}

-- all was done, or the sink failed behind that
abbrev pub IsThrough : Status → Type 0
IsThrough status = (status ≡ Ran Done) ⊎ (status ≡ Sink)

module _ (held : List ℕ → Told) (words : List (List ℕ)) (disk disk' : Seen) where
  of_files : (files : List (List ℕ)) (t : Telling) → t.ending ≡ Done → AreFiles held (files_of command.BookingVerify words) files
      → MeansOverDisk command.BookingVerify files disk disk' t → SellsOnce held words disk.told disk'.told t.history t.settled
  unfolding MeansOverDisk
  of_files [] t done given h = absurd h
  of_files (design ∷ []) t done given h = absurd h
  of_files (design ∷ certificate ∷ []) t done given h =
      let b = booked design certificate disk disk' t done h in
      record {
        design = design;
        certificate = certificate;
        given = given;
        is_text = b.is_text;
        accepted = b.accepted;
        recovers = b.recovers;
        once = b.once;
      }
  of_files (design ∷ certificate ∷ more ∷ rest) t done given h = absurd h

  of_form : (counts counts' : Counts) (meant : Reply) → MeansForm held counts counts' disk disk' words (Some command.BookingVerify) meant
      → IsThrough meant.status → SellsOnce held words disk.told disk'.told meant.history meant.settled
  of_form counts counts' meant (inl refused) (inl done) = (let e : Ran Done ≡ File = sym done ∙ refused.0 in absurd cc)
  of_form counts counts' meant (inl refused) (inr sunk) = (let e : Sink ≡ File = sym sunk ∙ refused.0 in absurd cc)
  of_form counts counts' meant (inr (files, given, counted, (ending, status, means))) (inl done) =
      let same : ending ≡ Done = (let e : Ran ending ≡ Ran Done = sym status ∙ done in cc) in
      of_files files (record { ending = ending; text = meant.text; history = meant.history; settled = meant.settled }) same given means
  of_form counts counts' meant (inr (files, given, counted, (ending, status, means))) (inr sunk) =
      (let e : Ran ending ≡ Sink = sym status ∙ sunk in absurd cc)

  pub sells_once : (counts counts' : Counts) (over : Bool) (old new : Option (List ℕ)) (fault : Type 0) (status : Status)
      (history : List Event) (settled : ℕ) → command_of words ≡ Some command.BookingVerify → IsThrough status
      → Answered over (Meant held counts counts' disk disk' words) old new fault status history settled
      → SellsOnce held words disk.told disk'.told history settled
  sells_once counts counts' over old new fault status history settled is (inl done) (inl none) =
      (let e : Ran Done ≡ Memory = sym done ∙ none.0 in absurd cc)
  sells_once counts counts' over old new fault status history settled is (inr sunk) (inl none) =
      (let e : Sink ≡ Memory = sym sunk ∙ none.0 in absurd cc)
  sells_once counts counts' over old new fault status history settled is through (inr (meant, means, ends)) =
      subst (λ (h : List Event). SellsOnce held words disk.told disk'.told h settled) (sym ends.history_is)
      (subst (λ (n : ℕ). SellsOnce held words disk.told disk'.told meant.history n) (sym ends.settled_is)
      (of_form counts counts' meant (subst (λ (o : Option Command). MeansForm held counts counts' disk disk' words o meant) is means)
      (by ends.given_is through)))
    where
      by : (status ≡ meant.status) ⊎ ((meant.status ≡ Ran Done) × (status ≡ Sink) × fault) → IsThrough status → IsThrough meant.status
      by (inl same) (inl done) = inl (sym same ∙ done)
      by (inl same) (inr sunk) = inr (sym same ∙ sunk)
      by (inr sink) through = inl sink.0
