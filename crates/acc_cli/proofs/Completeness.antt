-- Where nothing fails, what is accepted is answered with status 0, and so is a design whose searches all close.
use Rattle.std.proofs.Common.{◌≡◌, ℕ, List, [], ◌∷◌, Option, Some, inl, inr, subst, ap, ◌∙◌}
use Rattle.std.specs.Prelude.{None, codes}
use Rattle.acc_base.specs.declared.designs.Design.{Design}
use Rattle.acc_base.specs.Lines.{line}
use Rattle.acc_formed.specs.WellFormed.{IsWellFormed}
use Rattle.acc_oblig.specs.Laws.{drafts_of, sequents_of}
use Rattle.acc_oblig_goals.specs.Causes.{first_wide}
use Rattle.acc_commands.specs.Texts.{IsDesignText}
use Rattle.acc_commands.specs.Admissions.{IsAcceptedWith}
use Rattle.acc_commands.specs.Provings.{AllClose, IsCertified}
use Rattle.acc_io.specs.Shelves.{Told}
use Rattle.acc_io.specs.declared.counts.Counts.{Counts}
use Rattle.acc_journalled.specs.declared.answers.Ending.TheVariants.{Done}
use Rattle.acc_commands.specs.Command.{Command}
use Rattle.acc_commands.specs.Command.TheVariants.{Check, Prove}
use Rattle.acc_commands.specs.Text.{Said}
use Rattle.acc_commands.specs.Words.{files_of, points_of}
use Rattle.acc_commands.specs.Disks.{Seen}
use Rattle.acc_commands.specs.Means.{MeansOfFiles}
use Rattle.acc_commands.proofs.Completeness.{accepted_is_told, closed_is_told}
use Rattle.acc_cli.specs.declared.status.Status.TheVariants.{Ran}
use Rattle.acc_cli.specs.Replies.{Reply}
use Rattle.acc_cli.specs.Meant.{RunsSo, MeansForm, Meant}
use Rattle.acc_cli.specs.Laws.{IsGiven}
use Rattle.acc_cli.proofs.OneAnswer.{one_files, given_and_refused}

module _ (held : List ℕ → Told) (counts now : Counts) (disk disk' : Seen) (words : List (List ℕ)) (reply : Reply) where
  -- a command whose files are given runs with them
  module _ (command : Command) (files : List (List ℕ)) (g : IsGiven held counts now words command files) where
    of_form : MeansForm held counts now disk disk' words (Some command) reply → RunsSo command (points_of command words) files disk disk' reply
    of_form (inl h) =
        absurd (given_and_refused held g.tells counts now now g.no_fault g.no_fault disk disk' disk' (files_of command words) files now disk'
        reply g.no_fault g.given h)
    of_form (inr h) =
        subst (λ fs. RunsSo command (points_of command words) fs disk disk' reply) (one_files held g.tells (files_of command words) h.0 files h.1 g.given) h.3

    runs_with : Meant held counts now disk disk' words reply → RunsSo command (points_of command words) files disk disk' reply
    runs_with h = of_form (subst (λ (form : Option Command). MeansForm held counts now disk disk' words form reply) g.form h)

  module _ (meant : Meant held counts now disk disk' words reply) where
    check_said : (design certificate : List ℕ) (d : Design) (said : Said) → IsDesignText design d → IsAcceptedWith d certificate
        → MeansOfFiles Check (points_of Check words) (design ∷ certificate ∷ []) said → (said.ending ≡ Done) × (said.text ≡ line (codes "accepted"))
    unfolding MeansOfFiles
    check_said design certificate d said is_text with_bytes h =
        let told = accepted_is_told design certificate d said is_text with_bytes h in (told.0, told.1)

    prove_said : (design : List ℕ) (d : Design) (said : Said) → IsDesignText design d → IsWellFormed d → first_wide (drafts_of d) ≡ None
        → AllClose d (sequents_of d) → MeansOfFiles Prove (points_of Prove words) (design ∷ []) said → (said.ending ≡ Done) × IsCertified d said.text
    unfolding MeansOfFiles
    prove_said design d said is_text formed narrow closes h =
        let told = closed_is_told design d said is_text formed narrow closes h in (told.0, told.1)

    pub accepted_is_answered : (design certificate : List ℕ) → IsGiven held counts now words Check (design ∷ certificate ∷ []) → (d : Design)
        → IsDesignText design d → IsAcceptedWith d certificate → (reply.status ≡ Ran Done) × (reply.text ≡ line (codes "accepted"))
    accepted_is_answered design certificate g d is_text with_bytes =
        let h = runs_with Check (design ∷ certificate ∷ []) g meant in
        let told = check_said design certificate d (record { ending = h.0; text = reply.text; history = reply.history }) is_text with_bytes
        h.2.2 in
        (h.1 ∙ ap Ran told.0, told.1)

    pub closed_is_answered : (design : List ℕ) → IsGiven held counts now words Prove (design ∷ []) → (d : Design) → IsDesignText design d
        → IsWellFormed d → first_wide (drafts_of d) ≡ None → AllClose d (sequents_of d)
        → (reply.status ≡ Ran Done) × IsCertified d reply.text
    closed_is_answered design g d is_text formed narrow closes =
        let h = runs_with Prove (design ∷ []) g meant in
        let told = prove_said design d (record { ending = h.0; text = reply.text; history = reply.history }) is_text formed narrow closes h.2.2
        in
        (h.1 ∙ ap Ran told.0, told.1)
