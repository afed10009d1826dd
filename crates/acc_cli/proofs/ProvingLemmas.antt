-- Where `prove` ended as done, what it said is a certificate.
use Rattle.std.proofs.Common.{◌≡◌, ℕ, Bool, List, [], ◌∷◌, Option, Some, inl, inr, sym, subst, ◌∙◌}
use Rattle.std.specs.Prelude.{◌⊎◌}
use Rattle.std.specs.Io.KnownBytes.{Appends}
use Rattle.acc_base.specs.declared.machines.Event.{Event}
use Rattle.acc_io.specs.Shelves.{Told}
use Rattle.acc_io.specs.declared.counts.Counts.{Counts}
use Rattle.acc_commands.specs.Command.{Command}
use Rattle.acc_commands.specs.Command.TheVariants as command
use Rattle.acc_journalled.specs.declared.answers.Ending.TheVariants.{Done, DesignRefused, Open}
use Rattle.acc_commands.specs.Text.{Said}
use Rattle.acc_commands.specs.Disks.{Seen}
use Rattle.acc_commands.specs.Words.{command_of, files_of, points_of}
use Rattle.acc_commands.specs.Files.{AreFiles}
use Rattle.acc_commands.specs.ProveFiles.{EndsProving, ProvesFile}
use Rattle.acc_commands.specs.Means.{MeansOfFiles}
use Rattle.acc_commands.proofs.JournalEndings.{refusal_ends}
use Rattle.acc_cli.specs.declared.status.Status.{Status}
use Rattle.acc_cli.specs.declared.status.Status.TheVariants.{File, Sink, Memory, Ran}
use Rattle.acc_cli.specs.Replies.{Reply}
use Rattle.acc_cli.specs.Meant.{MeansForm, Meant}
use Rattle.acc_cli.specs.Answered.{Answered}
use Rattle.acc_cli.specs.Provings.{IsProved}

module _ (held : List ℕ → Told) (words : List (List ℕ)) (old new : Option (List ℕ)) where
  of_file : (design : List ℕ) (said : Said) → said.ending ≡ Done → AreFiles held (files_of command.Prove words) (design ∷ [])
      → Appends old new said.text → ProvesFile design said → IsProved held words old new
  of_file design said done given appends (inl h) =
      (let e : Done ≡ DesignRefused = sym done ∙ refusal_ends design said h in absurd cc)
  of_file design said done given appends (inr h) = by h.says.1
    where
      by : EndsProving h.d said.ending said.text → IsProved held words old new
      by (inl k) = record {
        design = design;
        given = given;
        d = h.d;
        is_text = h.is_text;
        formed = h.formed;
        text = said.text;
        certified = k.1;
        says = appends;
      }
      by (inr (inl k)) = (let e : Done ≡ Open = sym done ∙ k.0 in absurd cc)
      by (inr (inr k)) = (let e : Done ≡ DesignRefused = sym done ∙ k.0 in absurd cc)

  of_files : (points files : List (List ℕ)) (said : Said) → said.ending ≡ Done → AreFiles held (files_of command.Prove words) files
      → Appends old new said.text → MeansOfFiles command.Prove points files said → IsProved held words old new
  unfolding MeansOfFiles
  of_files points [] said done given appends h = absurd h
  of_files points (design ∷ []) said done given appends h = of_file design said done given appends h
  of_files points (design ∷ more ∷ rest) said done given appends h = absurd h

  of_form : (counts counts' : Counts) (disk disk' : Seen) (reply : Reply)
      → MeansForm held counts counts' disk disk' words (Some command.Prove) reply
      → reply.status ≡ Ran Done → Appends old new reply.text → IsProved held words old new
  of_form counts counts' disk disk' reply (inl refused) done appends =
      (let e : Ran Done ≡ File = sym done ∙ refused.0 in absurd cc)
  of_form counts counts' disk disk' reply (inr (files, given, counted, (ending, status, means))) done appends =
      let same : ending ≡ Done = (let e : Ran ending ≡ Ran Done = sym status ∙ done in cc) in
      of_files (points_of command.Prove words) files (record { ending = ending; text = reply.text; history = reply.history }) same given appends means.2

  pub is_proved : (counts counts' : Counts) (disk disk' : Seen) (over : Bool) (fault : Type 0) (status : Status) (history : List Event)
      (settled : ℕ) → command_of words ≡ Some command.Prove → status ≡ Ran Done
      → Answered over (Meant held counts counts' disk disk' words) old new fault status history settled → IsProved held words old new
  is_proved counts counts' disk disk' over fault status history settled is done (inl none) =
      (let e : Ran Done ≡ Memory = sym done ∙ none.0 in absurd cc)
  is_proved counts counts' disk disk' over fault status history settled is done (inr (meant, means, ends)) =
      of_form counts counts' disk disk' meant
      (subst (λ (o : Option Command). MeansForm held counts counts' disk disk' words o meant) is means) (by ends.given_is)
      (ends.done done)
    where
      by : (status ≡ meant.status) ⊎ ((meant.status ≡ Ran Done) × (status ≡ Sink) × fault) → meant.status ≡ Ran Done
      by (inl same) = sym same ∙ done
      by (inr sunk) = sunk.0
