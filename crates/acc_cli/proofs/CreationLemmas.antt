-- Where `init` ended as done, the journal was made.
use Rattle.std.proofs.Common.{◌≡◌, ℕ, Bool, List, [], ◌∷◌, Option, Some, inl, inr, sym, subst, ◌∙◌}
use Rattle.std.specs.Prelude.{◌⊎◌}
use Rattle.std.specs.Io.KnownBytes.{Appends}
use Rattle.acc_base.specs.declared.machines.Event.{Event}
use Rattle.acc_io.specs.Shelves.{Told}
use Rattle.acc_io.specs.declared.counts.Counts.{Counts}
use Rattle.acc_commands.specs.Command.{Command}
use Rattle.acc_commands.specs.Command.TheVariants as command
use Rattle.acc_journalled.specs.declared.answers.Ending.TheVariants.{Done, DesignRefused, JournalRefused, DiskFailed}
use Rattle.acc_journalled.specs.Tellings.{Telling}
use Rattle.acc_commands.specs.Text.{said_in}
use Rattle.acc_commands.specs.Disks.{Seen}
use Rattle.acc_commands.specs.Words.{command_of, files_of}
use Rattle.acc_commands.specs.Files.{AreFiles}
use Rattle.acc_commands.specs.InitFiles.{InitsJournal, InitsFile}
use Rattle.acc_commands.specs.Means.{MeansOverDisk}
use Rattle.acc_commands.proofs.JournalEndings.{refusal_ends}
use Rattle.acc_cli.specs.declared.status.Status.{Status}
use Rattle.acc_cli.specs.declared.status.Status.TheVariants.{File, Sink, Memory, Ran}
use Rattle.acc_cli.specs.Replies.{Reply}
use Rattle.acc_cli.specs.Meant.{MeansForm, Meant}
use Rattle.acc_cli.specs.Answered.{Answered}
use Rattle.acc_cli.specs.Creations.{IsCreated}

module _ (held : List ℕ → Told) (words : List (List ℕ)) (disk disk' : Seen) (old new : Option (List ℕ)) where
  of_file : (design : List ℕ) (t : Telling) → t.ending ≡ Done → AreFiles held (files_of command.Init words) (design ∷ [])
      → Appends old new t.text → InitsFile design disk disk' t → IsCreated held words disk.told disk'.told old new
  of_file design t done given appends (inl h) =
      (let e : Done ≡ DesignRefused = sym done ∙ refusal_ends design (said_in t) h.2 in absurd cc)
  of_file design t done given appends (inr h) = by h.ends
    where
      by : InitsJournal h.d disk disk' t → IsCreated held words disk.told disk'.told old new
      by (inl k) = record {
        design = design;
        given = given;
        d = h.d;
        is_text = h.is_text;
        formed = h.formed;
        fresh = k.fresh;
        made = k.made;
        counts = k.holds;
        says = subst (Appends old new) k.says.1 appends;
      }
      by (inr (inl k)) = (let e : Done ≡ JournalRefused = sym done ∙ k.says.0 in absurd cc)
      by (inr (inr k)) = (let e : Done ≡ DiskFailed = sym done ∙ k.says.0 in absurd cc)

  of_files : (files : List (List ℕ)) (t : Telling) → t.ending ≡ Done → AreFiles held (files_of command.Init words) files
      → Appends old new t.text → MeansOverDisk command.Init files disk disk' t → IsCreated held words disk.told disk'.told old new
  unfolding MeansOverDisk
  of_files [] t done given appends h = absurd h
  of_files (design ∷ []) t done given appends h = of_file design t done given appends h
  of_files (design ∷ more ∷ rest) t done given appends h = absurd h

  of_form : (counts counts' : Counts) (reply : Reply) → MeansForm held counts counts' disk disk' words (Some command.Init) reply
      → reply.status ≡ Ran Done → Appends old new reply.text → IsCreated held words disk.told disk'.told old new
  of_form counts counts' reply (inl refused) done appends = (let e : Ran Done ≡ File = sym done ∙ refused.0 in absurd cc)
  of_form counts counts' reply (inr (files, given, counted, (ending, status, means))) done appends =
      let same : ending ≡ Done = (let e : Ran ending ≡ Ran Done = sym status ∙ done in cc) in
      of_files files (record { ending = ending; text = reply.text; history = reply.history; settled = reply.settled }) same given appends
      means

  pub is_created : (counts counts' : Counts) (over : Bool) (fault : Type 0) (status : Status) (history : List Event) (settled : ℕ)
      → command_of words ≡ Some command.Init → status ≡ Ran Done
      → Answered over (Meant held counts counts' disk disk' words) old new fault status history settled
      → IsCreated held words disk.told disk'.told old new
  is_created counts counts' over fault status history settled is done (inl none) =
      (let e : Ran Done ≡ Memory = sym done ∙ none.0 in absurd cc)
  is_created counts counts' over fault status history settled is done (inr (meant, means, ends)) =
      of_form counts counts' meant (subst (λ (o : Option Command). MeansForm held counts counts' disk disk' words o meant) is means)
      (by ends.given_is) (ends.done done)
    where
      by : (status ≡ meant.status) ⊎ ((meant.status ≡ Ran Done) × (status ≡ Sink) × fault) → meant.status ≡ Ran Done
      by (inl same) = sym same ∙ done
      by (inr sunk) = sunk.0
