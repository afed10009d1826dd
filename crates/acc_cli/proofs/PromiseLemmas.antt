-- What rehearse tells is no event, or a run of an accepted design.
use Rattle.std.proofs.Common.{◌≡◌, ℕ, List, [], ◌∷◌, Option, Some, inl, inr, sym, ap, subst}
use Rattle.std.specs.Prelude.{◌⊎◌}
use Rattle.acc_base.specs.declared.designs.Design.{Design}
use Rattle.acc_base.specs.declared.machines.Call.{Call}
use Rattle.acc_base.specs.declared.machines.Event.{Event}
use Rattle.acc_base.specs.Machine.{World}
use Rattle.acc_io.specs.Shelves.{Told}
use Rattle.acc_io.specs.declared.counts.Counts.{Counts}
use Rattle.acc_commands.specs.ParseError.{ParseError}
use Rattle.acc_commands.specs.ParseError.TheVariants as errors
use Rattle.acc_commands.specs.Schedules.{EndsWell}
use Rattle.acc_commands.specs.Command.{Command}
use Rattle.acc_commands.specs.Command.TheVariants as command
use Rattle.acc_cli.specs.declared.status.Status.{Status}
use Rattle.acc_commands.specs.Text.{Said}
use Rattle.acc_cli.specs.Replies.{Reply}
use Rattle.acc_commands.specs.Words.{command_of, files_of, points_of, is_over_journal}
use Rattle.acc_commands.specs.Files.{AreFiles}
use Rattle.acc_commands.specs.Refusals.{SaysError, RefusesDesign}
use Rattle.acc_commands.specs.Scripts.{SaysOfScript, SaysOfOrder}
use Rattle.acc_commands.specs.ScheduleFiles.{SaysSchedule, SchedulesAccepted, SaysOfCertificate, SchedulesFiles}
use Rattle.acc_commands.specs.Disks.{Seen}
use Rattle.acc_commands.specs.Means.{MeansOfFiles}
use Rattle.acc_cli.specs.Meant.{MeansForm, Meant}
use Rattle.acc_cli.specs.Answered.{Answered}
use Rattle.acc_cli.specs.Promises.{KeepsPromise}

-- ---- what is refused tells no event

error_tells_none : (e : ParseError) (said : Said) → SaysError e said → said.history ≡ []
error_tells_none (errors.Syntax at) said says = says.2
error_tells_none (errors.Name at) said says = says.2
error_tells_none (errors.Limit at which) said says = says.2
error_tells_none errors.Memory said says = absurd says

refusal_tells_none : (design : List ℕ) (said : Said) → RefusesDesign design said → said.history ≡ []
refusal_tells_none design said (inl h) = error_tells_none h.error said h.says
refusal_tells_none design said (inr h) = h.says.2

-- ---- what is told ends well

abbrev EndsSomehow : Design → List Event → Type 0
EndsSomehow d history = (history ≡ []) ⊎ ((last : World) × EndsWell d history last)

of_order :
    (d : Design) (calls : List Call) (order : List ℕ) (said : Said) → SaysOfOrder (SaysSchedule d) calls order said
    → EndsSomehow d said.history
of_order d calls order said (inl h) = inl h.says.2
of_order d calls order said (inr h) = inr (h.says.tells.ended.world, h.says.tells.ends_well)

of_script :
    (d : Design) (script order : List ℕ) (said : Said) → SaysOfScript (SaysSchedule d) d script order said → EndsSomehow d said.history
of_script d script order said (inl h) = inl h.says.2
of_script d script order said (inr h) = of_order d h.calls order said h.says

module _ (held : List ℕ → Told) (words : List (List ℕ)) where
  of_files :
      (design certificate script order : List ℕ) (said : Said)
      → AreFiles held (files_of command.Rehearse words) (design ∷ certificate ∷ script ∷ order ∷ [])
      → SchedulesFiles design certificate script order said → KeepsPromise held words command.Rehearse said.history
  of_files design certificate script order said given (inl h) = inl (refusal_tells_none design said h)
  of_files design certificate script order said given (inr h) = by h.says
    where
      of_accepted :
          SchedulesAccepted h.d certificate script order said → EndsSomehow h.d said.history
          → KeepsPromise held words command.Rehearse said.history
      of_accepted a (inl none) = inl none
      of_accepted a (inr w) = inr (record {
        design = design;
        certificate = certificate;
        others = script ∷ order ∷ [];
        given = given;
        d = h.d;
        is_text = h.is_text;
        accepted = a.accepted;
        last = w.0;
        ends_well = w.1;
      })

      by : SaysOfCertificate h.d certificate script order said → KeepsPromise held words command.Rehearse said.history
      by (inl refused) = inl refused.history
      by (inr a) = of_accepted a (of_script h.d script order said a.says)

  of_means :
      (points files : List (List ℕ)) (said : Said) → AreFiles held (files_of command.Rehearse words) files
      → MeansOfFiles command.Rehearse points files said
      → KeepsPromise held words command.Rehearse said.history
  unfolding MeansOfFiles
  of_means points [] said given h = absurd h
  of_means points (design ∷ []) said given h = absurd h
  of_means points (design ∷ certificate ∷ []) said given h = absurd h
  of_means points (design ∷ certificate ∷ script ∷ []) said given h = absurd h
  of_means points (design ∷ certificate ∷ script ∷ order ∷ []) said given h = of_files design certificate script order said given h
  of_means points (design ∷ certificate ∷ script ∷ order ∷ more ∷ rest) said given h = absurd h

  of_form :
      (counts counts' : Counts) (disk disk' : Seen) (reply : Reply)
      → MeansForm held counts counts' disk disk' words (Some command.Rehearse) reply
      → KeepsPromise held words command.Rehearse reply.history
  of_form counts counts' disk disk' reply (inl refused) = inl refused.1.0
  of_form counts counts' disk disk' reply (inr (files, given, counted, (ending, status, means))) =
      of_means (points_of command.Rehearse words) files (record { ending = ending; text = reply.text; history = reply.history }) given means.2

  pub promise_kept :
      (counts counts' : Counts) (disk disk' : Seen) (old new : Option (List ℕ)) (fault : Type 0) (status : Status) (history : List Event)
      (settled : ℕ) → command_of words ≡ Some command.Rehearse
      → Answered (is_over_journal (command_of words)) (Meant held counts counts' disk disk' words) old new fault status history settled
      → KeepsPromise held words command.Rehearse history
  promise_kept counts counts' disk disk' old new fault status history settled is (inl none) = inl (none.2 (ap is_over_journal is)).0
  promise_kept counts counts' disk disk' old new fault status history settled is (inr (meant, means, ends)) =
      subst (KeepsPromise held words command.Rehearse) (sym ends.history_is)
      (of_form counts counts' disk disk' meant
      (subst (λ (o : Option Command). MeansForm held counts counts' disk disk' words o meant) is means))
