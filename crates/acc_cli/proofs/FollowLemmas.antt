-- What `follow` tells.
use Rattle.std.proofs.Common.{◌≡◌, ℕ, List, [], ◌∷◌, Option, None, Some, inl, inr, sym, ap, ◌∙◌, arith, ⊎_elim, subst}
use Rattle.std.specs.Prelude.{◌⊎◌}
use Rattle.acc_base.specs.declared.designs.Design.{Design}
use Rattle.acc_base.specs.declared.machines.Event.{Event}
use Rattle.acc_base.specs.Machine.{World}
use Rattle.acc_formed.specs.WellFormed.{IsWellFormed}
use Rattle.acc_io.specs.Shelves.{Told}
use Rattle.acc_io.specs.Sinks.{WritesFront}
use Rattle.std.specs.Io.KnownBytes.{Appends}
use Rattle.acc_io.specs.declared.counts.Counts.{Counts}
use Rattle.acc_journalled.specs.declared.answers.Ending.{Ending}
use Rattle.acc_journalled.specs.declared.answers.Ending.TheVariants.{Done, DesignRefused, JournalRefused}
use Rattle.acc_commands.specs.Admissions.{IsAcceptedWith}
use Rattle.acc_commands.specs.Command.{Command}
use Rattle.acc_commands.specs.Command.TheVariants as command
use Rattle.acc_commands.specs.Disks.{Seen}
use Rattle.acc_commands.specs.Ends.{Ends as StreamEnds}
use Rattle.acc_commands.specs.Files.{AreFiles}
use Rattle.acc_commands.specs.Following.{followed_text, IsReplayed, SaysEnd, FollowsCertified, FollowsFiles}
use Rattle.acc_commands.specs.Means.{MeansOfFiles}
use Rattle.acc_commands.specs.ReplicaError.{ReplicaError}
use Rattle.acc_commands.specs.Text.{Said, Says}
use Rattle.acc_commands.specs.Texts.{IsDesignText}
use Rattle.acc_commands.specs.Words.{command_of, files_of, points_of, is_over_journal}
use Rattle.acc_commands.proofs.Following.{unfollowed_ending}
use Rattle.acc_commands.proofs.JournalEndings.{refusal_ends}
use Rattle.acc_cli.specs.Answered.{Answered, Ends}
use Rattle.acc_cli.specs.Followings.{TellsFollowing}
use Rattle.acc_cli.specs.Meant.{MeansForm, Meant}
use Rattle.acc_cli.specs.Replies.{Reply}
use Rattle.acc_cli.specs.Status.{code_of}
use Rattle.acc_cli.specs.declared.status.Status.{Status}
use Rattle.acc_cli.specs.declared.status.Status.TheVariants.{File, Sink, Ran}
use Rattle.acc_cli.proofs.AuditLemmas.{IsRefused}
use Rattle.acc_cli.proofs.StatusLemmas.{zero_is_done}

module _ (held : List ℕ → Told) (words : List (List ℕ)) (size : ℕ) where
  -- the files are given, and all that came whole of the copy is done
  record HasFollowed (said : Said) : Type 0 where
    design : List ℕ
    certificate : List ℕ
    copy : List ℕ
    given : AreFiles held (files_of (command.Follow size) words) (design ∷ certificate ∷ copy ∷ [])
    d : Design
    is_text : IsDesignText design d
    formed : IsWellFormed d
    accepted : IsAcceptedWith d certificate
    here : World
    ends : StreamEnds d copy None here
    replayed : IsReplayed d here
    says : Says Done (followed_text d here) said

  of_certified : (design certificate copy : List ℕ) (d : Design) (said : Said)
      → AreFiles held (files_of (command.Follow size) words) (design ∷ certificate ∷ copy ∷ []) → IsDesignText design d → IsWellFormed d
      → FollowsCertified d certificate copy said → IsRefused said.ending ⊎ HasFollowed said
  of_certified design certificate copy d said given is_text formed (inl h) = inl (inl h.ending)
  of_certified design certificate copy d said given is_text formed (inr h) = by h.follows.refused h.follows.ends h.follows.says
    where
      by : (refused : Option ReplicaError) → StreamEnds d copy refused h.follows.here → SaysEnd d h.follows.here refused said
          → IsRefused said.ending ⊎ HasFollowed said
      by (Some error) ends says = inl (inr (unfollowed_ending error said says))
      by None ends says = inr (record {
        design = design;
        certificate = certificate;
        copy = copy;
        given = given;
        d = d;
        is_text = is_text;
        formed = formed;
        accepted = h.accepted;
        here = h.follows.here;
        ends = ends;
        replayed = h.follows.replayed;
        says = says;
      })

  of_files : (design certificate copy : List ℕ) (said : Said)
      → AreFiles held (files_of (command.Follow size) words) (design ∷ certificate ∷ copy ∷ [])
      → FollowsFiles design certificate copy said → IsRefused said.ending ⊎ HasFollowed said
  of_files design certificate copy said given (inl h) = inl (inl (refusal_ends design said h))
  of_files design certificate copy said given (inr h) = of_certified design certificate copy h.d said given h.is_text h.formed h.says

  of_command : (points files : List (List ℕ)) (said : Said) → AreFiles held (files_of (command.Follow size) words) files
      → MeansOfFiles (command.Follow size) points files said → IsRefused said.ending ⊎ HasFollowed said
  unfolding MeansOfFiles
  of_command points [] said given h = absurd h
  of_command points (design ∷ []) said given h = absurd h
  of_command points (design ∷ certificate ∷ []) said given h = absurd h
  of_command points (design ∷ certificate ∷ copy ∷ []) said given h = of_files design certificate copy said given h
  of_command points (design ∷ certificate ∷ copy ∷ more ∷ rest) said given h = absurd h

  -- ---- the program's answer

  module _ (old new : Option (List ℕ)) (fault : Type 0) (status : Status) (history : List Event) (settled : ℕ) where
    abbrev Tells : Type 0
    Tells = TellsFollowing held words size old new (code_of status)

    -- under one of these statuses no rows are told
    untold : (code_of status ≡ 2) ⊎ (code_of status ≡ 4) ⊎ (code_of status ≡ 6) ⊎ (code_of status ≡ 9) → Tells
    untold code = inl (λ e. absurd (omega (arith, code, e)), λ e. absurd (omega (arith, code, e)))

    module _ (meant : Reply) (ends : Ends meant old new fault status history settled) where
      refused_told : (ending : Ending) → meant.status ≡ Ran ending → IsRefused ending → Tells
      refused_told ending is which = untold (by ends.given_is which)
        where
          by : (status ≡ meant.status) ⊎ ((meant.status ≡ Ran Done) × (status ≡ Sink) × fault) → IsRefused ending
              → (code_of status ≡ 2) ⊎ (code_of status ≡ 4) ⊎ (code_of status ≡ 6) ⊎ (code_of status ≡ 9)
          by (inl same) (inl design) = inl (ap code_of (same ∙ is ∙ ap Ran design))
          by (inl same) (inr journal) = inr (inl (ap code_of (same ∙ is ∙ ap Ran journal)))
          by (inr sunk) (inl design) = (let e : Ran DesignRefused ≡ Ran Done = ap Ran (sym design) ∙ sym is ∙ sunk.0 in absurd cc)
          by (inr sunk) (inr journal) = (let e : Ran JournalRefused ≡ Ran Done = ap Ran (sym journal) ∙ sym is ∙ sunk.0 in absurd cc)

      followed_told : (ending : Ending) → HasFollowed (record { ending = ending; text = meant.text; history = meant.history }) → Tells
      followed_told ending f = inr (record {
        design = f.design;
        certificate = f.certificate;
        copy = f.copy;
        given = f.given;
        d = f.d;
        is_text = f.is_text;
        formed = f.formed;
        accepted = f.accepted;
        here = f.here;
        ends = f.ends;
        replayed = f.replayed;
        says = λ zero. subst (Appends old new) f.says.1 (ends.done (zero_is_done status zero));
        front = subst (WritesFront old new) f.says.1 ends.front;
      })

    of_form : (counts counts' : Counts) (disk disk' : Seen) (meant : Reply)
        → MeansForm held counts counts' disk disk' words (Some (command.Follow size)) meant
        → Ends meant old new fault status history settled → Tells
    of_form counts counts' disk disk' meant (inl refused) ends = untold (by ends.given_is)
      where
        by : (status ≡ meant.status) ⊎ ((meant.status ≡ Ran Done) × (status ≡ Sink) × fault)
            → (code_of status ≡ 2) ⊎ (code_of status ≡ 4) ⊎ (code_of status ≡ 6) ⊎ (code_of status ≡ 9)
        by (inl same) = inr (inr (inl (ap code_of (same ∙ refused.0))))
        by (inr sunk) = (let e : File ≡ Ran Done = sym refused.0 ∙ sunk.0 in absurd cc)
    of_form counts counts' disk disk' meant (inr (files, given, counted, (ending, is, means))) ends =
        ⊎_elim (refused_told meant ends ending is) (followed_told meant ends ending)
        (of_command (points_of (command.Follow size) words) files
        (record { ending = ending; text = meant.text; history = meant.history }) given means.2)

    pub tells_following : (counts counts' : Counts) (disk disk' : Seen) → command_of words ≡ Some (command.Follow size)
        → Answered (is_over_journal (command_of words)) (Meant held counts counts' disk disk' words) old new fault status history settled
        → Tells
    tells_following counts counts' disk disk' form (inl none) = untold (inr (inr (inr (ap code_of none.0))))
    tells_following counts counts' disk disk' form (inr (meant, means, ends)) =
        of_form counts counts' disk disk' meant
        (subst (λ (o : Option Command). MeansForm held counts counts' disk disk' words o meant) form means) ends
