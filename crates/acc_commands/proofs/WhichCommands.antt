-- Which command ends so.
use Rattle.std.proofs.Common.{◌≡◌, ℕ, Bool, true, false, List, [], ◌∷◌, Option, Some, None, inl, inr, refl, sym, ap, subst, ◌∙◌, ⊎_elim}
use Rattle.std.specs.Prelude.{◌≢◌, ◌⊎◌, Result, Ok, Err}
use Rattle.acc_io.specs.Causes.{Rose}
use Rattle.acc_base.specs.declared.designs.At.{At}
use Rattle.acc_base.specs.declared.designs.Design.{Design}
use Rattle.acc_base.specs.declared.designs.Side.{Side}
use Rattle.acc_base.specs.declared.machines.Call.{Call}
use Rattle.acc_commands_journals.specs.ParseError.{ParseError}
use Rattle.acc_commands_journals.specs.ParseError.TheVariants as errors
use Rattle.acc_commands_files.specs.Schedules.{TellsSchedule}
use Rattle.acc_commands_journals.specs.Command.{Command}
use Rattle.acc_commands_journals.specs.Command.TheVariants as command
use Rattle.acc_journalled.specs.declared.answers.Ending.{Ending}
use Rattle.acc_journalled.specs.declared.answers.Ending.TheVariants.{Done, DesignRefused, ScriptRefused, JournalRefused, DiskFailed}
use Rattle.acc_journalled.specs.declared.answers.Ending.TheVariants.{Unbegun, Open, ConditionFalse}
use Rattle.acc_journalled.specs.Tellings.{Telling}
use Rattle.acc_commands_files.specs.Judgement.{Judgement}
use Rattle.acc_commands_files.specs.Judgement.TheVariants.{Clean, False, Large}
use Rattle.acc_commands_files.specs.JudgeError.{JudgeError}
use Rattle.acc_commands_journals.specs.Text.{Said, said_in}
use Rattle.acc_commands_journals.specs.Disks.{Seen}
use Rattle.acc_commands_journals.specs.Refusals.{SaysError, RefusesDesign}
use Rattle.acc_formed.specs.WellFormed.{IsWellFormed}
use Rattle.acc_commands_journals.specs.Texts.{IsDesignText}
use Rattle.acc_commands_journals.specs.Scripts.{SaysOfOrder, SaysOfScript}
use Rattle.acc_commands_files.specs.Advising.{held_at, step_at, SaysOfPoints, AdvisesFile}
use Rattle.acc_commands_files.specs.Auditing.{SaysJudged, AuditsFiles}
use Rattle.acc_commands_files.proofs.Auditing.{refused_ending}
use Rattle.acc_commands_files.specs.Ends.{Ends}
use Rattle.acc_commands_files.specs.Following.{SaysEnd, FollowsCertified, FollowsFiles}
use Rattle.acc_commands_files.specs.ReplicaError.{ReplicaError}
use Rattle.acc_commands_files.proofs.Following.{unfollowed_ending}
use Rattle.acc_commands_files.proofs.OneAudit.{says_no_lack}
use Rattle.acc_commands_files.specs.PlayFiles.{SaysPlay, PlaysFiles}
use Rattle.acc_commands_files.specs.ScheduleFiles.{SaysSchedule, SaysOfCertificate, SchedulesFiles, ending_at}
use Rattle.acc_commands_files.specs.PrintFiles.{PrintsFile, DrawsFile}
use Rattle.acc_commands_files.specs.CheckFiles.{ChecksFiles, ending_by}
use Rattle.acc_commands_files.specs.ProveFiles.{EndsProving, StaysOpen, ProvesFile}
use Rattle.acc_commands_journals.specs.Words.{is_journalled}
use Rattle.acc_commands.specs.Means.{AdvisesGiven, MeansOfFiles, MeansBy, Means}
use Rattle.acc_commands.specs.Overs.{LeavesBy, FindsFalse, RunsBench, LeavesBench, BenchFindsFalse, IsAuditOf, RefusesCopy, AuditFinds}
use Rattle.acc_commands.specs.Overs.{RefusesFollowing}
use Rattle.acc_commands.proofs.BenchOvers.{runs_bench, never_bench, leaves_bench, bench_finds_false}
use Rattle.acc_commands_journals.proofs.JournalEndings.{failed_by, never_false, never_open, other_end}
use Rattle.acc_commands.proofs.DiskEndings.{ends_over_disk}
use Rattle.acc_commands.proofs.RefusedOvers.{RefusesOver, refused_over, unbegun_over}

-- ---- commands without a journal

done_unbegun : Done ≢ Unbegun
done_unbegun e = cc

-- it is said of a schedule
abbrev pub Scheduled : Command → Said → Type 0
Scheduled c said = (c ≡ command.Rehearse) × (d : Design) × (calls : List Call) × (order : List ℕ) × SaysSchedule d calls order said

-- it is said which obligations of a design stay open
abbrev pub Opens : Command → List (List ℕ) → Said → Type 0
Opens c files said =
    (c ≡ command.Prove) × (said.ending ≡ Open) × (design : List ℕ) × (files ≡ design ∷ []) × StaysOpen design said.text

-- this is told of a journal's bytes, and so it is said
pub record Audited (c : Command) (files : List (List ℕ)) (said : Said) : Type 0 where
  pub told : Result Judgement JudgeError
  pub audit : IsAuditOf c files told
  pub says : SaysJudged told said

-- a copy of a journal isn't followed on, and that is said
pub record Unfollowed (c : Command) (files : List (List ℕ)) (said : Said) : Type 0 where
  pub refuses : RefusesFollowing c files
  pub ending : said.ending ≡ JournalRefused

-- this is made of a copy of a journal
abbrev pub ReadsCopy : Command → List (List ℕ) → Said → Type 0
ReadsCopy c files said = Audited c files said ⊎ Unfollowed c files said

-- a schedule, open obligations, a load and a mix, an audit, or a copy that isn't followed on
abbrev pub EndsOtherwise : Command → List (List ℕ) → Said → Type 0
EndsOtherwise c files said = Scheduled c said ⊎ Opens c files said ⊎ RunsBench c said ⊎ ReadsCopy c files said

-- An ending that is neither that all is done nor a refusal of the design or the script. A command without a journal that ends so is
-- `rehearse`, or `prove` with obligations that stay open, or `bench`, or `audit`, or `follow` with a copy that is refused.
module _ (other : Ending) (done_other : Done ≢ other) (design_other : DesignRefused ≢ other) (script_other : ScriptRefused ≢ other) where
  -- what ends otherwise doesn't end so
  not_so : (ending : Ending) (said : Said) → ending ≢ other → said.ending ≡ ending → said.ending ≡ other → ⊥
  not_so ending said differs is so = differs (sym is ∙ so)

  judged_other : (accepted : Bool) → ending_by accepted ≢ other
  judged_other true e = done_other e
  judged_other false e = design_other e

  error_other : (e : ParseError) (said : Said) → SaysError e said → said.ending ≡ other → ⊥
  error_other (errors.Syntax at) said says = not_so DesignRefused said design_other says.0
  error_other (errors.Name at) said says = not_so DesignRefused said design_other says.0
  error_other (errors.Limit at which) said says = not_so DesignRefused said design_other says.0
  error_other errors.Memory said says = absurd says

  pub refusal_other : (design : List ℕ) (said : Said) → RefusesDesign design said → said.ending ≡ other → ⊥
  refusal_other design said (inl h) = error_other h.error said h.says
  refusal_other design said (inr h) = not_so DesignRefused said design_other h.says.0

  -- so ends a run of some calls in some order
  pub record Ran (SaysRun : List Call → List ℕ → Said → Type 0) (said : Said) : Type 0 where
    calls : List Call
    order : List ℕ
    says : SaysRun calls order said

  module _ (SaysRun : List Call → List ℕ → Said → Type 0) where
    ran_in_order :
        (calls : List Call) (order : List ℕ) (said : Said) → said.ending ≡ other → SaysOfOrder SaysRun calls order said
        → Ran SaysRun said
    ran_in_order calls order said so (inl h) = absurd (not_so ScriptRefused said script_other h.says.0 so)
    ran_in_order calls order said so (inr h) = record { calls = calls; order = h.numbers; says = h.says }

    ran :
        (d : Design) (script order : List ℕ) (said : Said) → said.ending ≡ other → SaysOfScript SaysRun d script order said
        → Ran SaysRun said
    ran d script order said so (inl h) = absurd (not_so ScriptRefused said script_other h.says.0 so)
    ran d script order said so (inr h) = ran_in_order h.calls order said so h.says

  play_other : (design script order : List ℕ) (said : Said) → said.ending ≡ other → PlaysFiles design script order said → ⊥
  play_other design script order said so (inl h) = refusal_other design said h so
  play_other design script order said so (inr h) =
      not_so Done said done_other (ran (SaysPlay h.d) h.d script order said so h.says).says.0 so

  print_other : (design : List ℕ) (said : Said) → said.ending ≡ other → PrintsFile design said → ⊥
  print_other design said so (inl h) = refusal_other design said h so
  print_other design said so (inr h) = not_so Done said done_other h.says.0 so

  draw_other : (design : List ℕ) (said : Said) → said.ending ≡ other → DrawsFile design said → ⊥
  draw_other design said so (inl h) = refusal_other design said h so
  draw_other design said so (inr h) = not_so Done said done_other h.says.0 so

  check_other : (design certificate : List ℕ) (said : Said) → said.ending ≡ other → ChecksFiles design certificate said → ⊥
  check_other design certificate said so (inl h) = refusal_other design said h so
  check_other design certificate said so (inr h) = not_so (ending_by h.accepted) said (judged_other h.accepted) h.ending so

  prove_other : (design : List ℕ) (said : Said) → said.ending ≡ other → ProvesFile design said
      → (said.ending ≡ Open) × StaysOpen design said.text
  prove_other design said so (inl h) = absurd (refusal_other design said h so)
  prove_other design said so (inr h) = by h.says.1
    where
      by : EndsProving h.d said.ending said.text → (said.ending ≡ Open) × StaysOpen design said.text
      by (inl k) = absurd (not_so Done said done_other k.0 so)
      by (inr (inl k)) = (k.0, record { d = h.d; is_text = h.is_text; formed = h.formed; is_open = k.1 })
      by (inr (inr k)) = absurd (not_so DesignRefused said design_other k.0 so)

  opens_so : (design : List ℕ) (said : Said) → said.ending ≡ other → ProvesFile design said → Opens command.Prove (design ∷ []) said
  opens_so design said so h = let left = prove_other design said so h in (refl, left.0, design, refl, left.1)

  certified_so :
      (d : Design) (certificate script order : List ℕ) (said : Said) → said.ending ≡ other
      → SaysOfCertificate d certificate script order said → Scheduled command.Rehearse said
  certified_so d certificate script order said so (inl h) = absurd (not_so DesignRefused said design_other h.ending so)
  certified_so d certificate script order said so (inr h) =
      let r = ran (SaysSchedule d) d script order said so h.says in
      (refl, d, r.calls, r.order, r.says)

  sched_so :
      (design certificate script order : List ℕ) (said : Said) → said.ending ≡ other
      → SchedulesFiles design certificate script order said → Scheduled command.Rehearse said
  sched_so design certificate script order said so (inl h) = absurd (refusal_other design said h so)
  sched_so design certificate script order said so (inr h) = certified_so h.d certificate script order said so h.says

  advice_other : (design held step : List ℕ) (side : Side) (said : Said) → said.ending ≡ other → AdvisesFile design held step side said → ⊥
  advice_other design held step side said so (inl h) = refusal_other design said h so
  advice_other design held step side said so (inr h) = by (held_at h.d held) (step_at h.d side step) h.says
    where
      by : (p q : Option At) → SaysOfPoints h.d held step side p q said → ⊥
      by None q k = not_so ScriptRefused said script_other k.0 so
      by (Some p) None k = not_so ScriptRefused said script_other k.0 so
      by (Some p) (Some q) (inl k) = not_so Done said done_other k.says.0 so
      by (Some p) (Some q) (inr k) = not_so DesignRefused said design_other k.says.0 so

  given_other : (side : Side) (points files : List (List ℕ)) (said : Said) → said.ending ≡ other → AdvisesGiven side points files said → ⊥
  given_other side (held ∷ step ∷ []) (design ∷ []) said so h = advice_other design held step side said so h
  given_other side [] files said so h = h
  given_other side (held ∷ []) files said so h = h
  given_other side (held ∷ step ∷ []) [] said so h = h
  given_other side (held ∷ step ∷ []) (design ∷ more ∷ rest) said so h = h
  given_other side (held ∷ step ∷ more ∷ rest) files said so h = h

  audit_so : (design journal : List ℕ) (said : Said) → said.ending ≡ other → AuditsFiles design journal said
      → Audited command.Audit (design ∷ journal ∷ []) said
  audit_so design journal said so (inl h) = absurd (refusal_other design said h so)
  audit_so design journal said so (inr h) = record {
    told = h.audit.told;
    audit = record {
      is_audit = refl;
      design = design;
      journal = journal;
      are_files = refl;
      d = h.d;
      is_text = h.is_text;
      formed = h.formed;
      judges = h.audit.judges;
    };
    says = h.audit.says;
  }

  followed_so : (size : ℕ) (design certificate copy : List ℕ) (d : Design) (said : Said) → said.ending ≡ other → IsDesignText design d
      → IsWellFormed d → FollowsCertified d certificate copy said
      → Unfollowed (command.Follow size) (design ∷ certificate ∷ copy ∷ []) said
  followed_so size design certificate copy d said so is_text formed (inl h) = absurd (not_so DesignRefused said design_other h.ending so)
  followed_so size design certificate copy d said so is_text formed (inr h) = by h.follows.refused h.follows.ends h.follows.says
    where
      by : (refused : Option ReplicaError) → Ends d copy refused h.follows.here → SaysEnd d h.follows.here refused said
          → Unfollowed (command.Follow size) (design ∷ certificate ∷ copy ∷ []) said
      by None ends says = absurd (not_so Done said done_other says.0 so)
      by (Some error) ends says = record {
        refuses = record {
          size = size;
          is_follow = refl;
          design = design;
          certificate = certificate;
          copy = copy;
          are_files = refl;
          d = d;
          is_text = is_text;
          formed = formed;
          accepted = h.accepted;
          error = error;
          here = h.follows.here;
          ends = ends;
        };
        ending = unfollowed_ending error said says;
      }

  follow_so : (size : ℕ) (design certificate copy : List ℕ) (said : Said) → said.ending ≡ other → FollowsFiles design certificate copy said
      → Unfollowed (command.Follow size) (design ∷ certificate ∷ copy ∷ []) said
  follow_so size design certificate copy said so (inl h) = absurd (refusal_other design said h so)
  follow_so size design certificate copy said so (inr h) = followed_so size design certificate copy h.d said so h.is_text h.formed h.says

  pub ends_scheduled :
      (c : Command) (points files : List (List ℕ)) (said : Said) → said.ending ≡ other → MeansOfFiles c points files said
      → EndsOtherwise c files said
  unfolding MeansOfFiles
  ends_scheduled command.Play points [] said e h = absurd h
  ends_scheduled command.Play points (design ∷ []) said e h = absurd h
  ends_scheduled command.Play points (design ∷ script ∷ []) said e h = absurd h
  ends_scheduled command.Play points (design ∷ script ∷ order ∷ []) said e h = absurd (play_other design script order said e h)
  ends_scheduled command.Play points (design ∷ script ∷ order ∷ more ∷ rest) said e h = absurd h
  ends_scheduled command.Rehearse points [] said e h = absurd h
  ends_scheduled command.Rehearse points (design ∷ []) said e h = absurd h
  ends_scheduled command.Rehearse points (design ∷ certificate ∷ []) said e h = absurd h
  ends_scheduled command.Rehearse points (design ∷ certificate ∷ script ∷ []) said e h = absurd h
  ends_scheduled command.Rehearse points (design ∷ certificate ∷ script ∷ order ∷ []) said e h =
      inl (sched_so design certificate script order said e h)
  ends_scheduled command.Rehearse points (design ∷ certificate ∷ script ∷ order ∷ more ∷ rest) said e h = absurd h
  ends_scheduled command.Print points [] said e h = absurd h
  ends_scheduled command.Print points (design ∷ []) said e h = absurd (print_other design said e h)
  ends_scheduled command.Print points (design ∷ more ∷ rest) said e h = absurd h
  ends_scheduled command.Draw points [] said e h = absurd h
  ends_scheduled command.Draw points (design ∷ []) said e h = absurd (draw_other design said e h)
  ends_scheduled command.Draw points (design ∷ more ∷ rest) said e h = absurd h
  ends_scheduled command.Check points [] said e h = absurd h
  ends_scheduled command.Check points (design ∷ []) said e h = absurd h
  ends_scheduled command.Check points (design ∷ certificate ∷ []) said e h = absurd (check_other design certificate said e h)
  ends_scheduled command.Check points (design ∷ certificate ∷ more ∷ rest) said e h = absurd h
  ends_scheduled command.Prove points [] said e h = absurd h
  ends_scheduled command.Prove points (design ∷ []) said e h = inr (inl (opens_so design said e h))
  ends_scheduled command.Prove points (design ∷ more ∷ rest) said e h = absurd h
  ends_scheduled (command.Advise side) points files said e h = absurd (given_other side points files said e h)
  ends_scheduled command.Audit points [] said e h = absurd h
  ends_scheduled command.Audit points (design ∷ []) said e h = absurd h
  ends_scheduled command.Audit points (design ∷ journal ∷ []) said e h =
      inr (inr (inr (inl (audit_so design journal said e h))))
  ends_scheduled command.Audit points (design ∷ journal ∷ more ∷ rest) said e h = absurd h
  ends_scheduled (command.Follow size) points [] said e h = absurd h
  ends_scheduled (command.Follow size) points (design ∷ []) said e h = absurd h
  ends_scheduled (command.Follow size) points (design ∷ certificate ∷ []) said e h = absurd h
  ends_scheduled (command.Follow size) points (design ∷ certificate ∷ copy ∷ []) said e h =
      inr (inr (inr (inr (follow_so size design certificate copy said e h))))
  ends_scheduled (command.Follow size) points (design ∷ certificate ∷ copy ∷ more ∷ rest) said e h = absurd h
  ends_scheduled command.Init points files said e h = absurd h
  ends_scheduled command.Sched points files said e h = absurd h
  ends_scheduled (command.Run workers) points files said e h = absurd h
  ends_scheduled command.Recover points files said e h = absurd h
  ends_scheduled command.Dump points files said e h = absurd h
  ends_scheduled command.Replies points files said e h = absurd h
  ends_scheduled command.Verify points files said e h = absurd h
  ends_scheduled command.Migrate points files said e h = absurd h
  ends_scheduled command.BookingVerify points files said e h = absurd h
  ends_scheduled command.TpccDesign points [] said e h = absurd (not_so Done said done_other h.says.0 e)
  ends_scheduled command.BookingDesign points [] said e h = absurd (not_so Done said done_other h.says.0 e)
  ends_scheduled command.TpccDesign points (more ∷ rest) said e h = absurd h
  ends_scheduled command.BookingDesign points (more ∷ rest) said e h = absurd h
  ends_scheduled (command.TpccLoad scale) points [] said e h = absurd (not_so Done said done_other h.0 e)
  ends_scheduled (command.TpccMix mix) points [] said e h = absurd (not_so Done said done_other h.0 e)
  ends_scheduled (command.TpccLoad scale) points (more ∷ rest) said e h = absurd h
  ends_scheduled (command.TpccMix mix) points (more ∷ rest) said e h = absurd h
  ends_scheduled (command.Bench mix) points [] said e h = absurd h
  ends_scheduled (command.Bench mix) points (design ∷ []) said e h = absurd h
  ends_scheduled (command.Bench mix) points (design ∷ certificate ∷ []) said e h =
      inr (inr (inl (runs_bench other design_other script_other mix said e design certificate h)))
  ends_scheduled (command.Bench mix) points (design ∷ certificate ∷ more ∷ rest) said e h = absurd h
  ends_scheduled command.Help points [] said e h = absurd (not_so Done said done_other h.0 e)
  ends_scheduled command.Help points (more ∷ rest) said e h = absurd h
  ends_scheduled command.Version points [] said e h = absurd (not_so Done said done_other h.0 e)
  ends_scheduled command.Version points (more ∷ rest) said e h = absurd h

-- ---- what ends so

-- a schedule of which a place is left unbegun, in memory
abbrev pub Left : Command → Telling → Type 0
Left c t =
    (c ≡ command.Rehearse) × (d : Design) × (calls : List Call) × (order : List ℕ)
    × TellsSchedule d calls order t.text t.history false

-- or over a journal, or by a load and a mix
abbrev pub LeftAnyhow : Command → Telling → Type 0
LeftAnyhow c t = Left c t ⊎ LeavesBy c t ⊎ LeavesBench c t

ending_unbegun : (all_begun : Bool) → ending_at all_begun ≡ Unbegun → all_begun ≡ false
ending_unbegun true e = absurd (done_unbegun e)
ending_unbegun false e = refl

-- a schedule ends as done, or with a place unbegun
ending_else : (other : Ending) (all_begun : Bool) → Done ≢ other → Unbegun ≢ other → ending_at all_begun ≡ other → ⊥
ending_else other true done unbegun e = done e
ending_else other false done unbegun e = unbegun e

-- what stays open ends so
never_opens : (other : Ending) → Open ≢ other → (c : Command) (files : List (List ℕ)) (t : Telling) → t.ending ≡ other
    → Opens c files (said_in t) → ⊥
never_opens other differs c files t e (is, ending, design, file, stays) = differs (sym ending ∙ e)

-- an audit ends as done, by what it finds, or by a journal that is refused
never_audited : (other : Ending) → Done ≢ other → ConditionFalse ≢ other → JournalRefused ≢ other → (c : Command) (files : List (List ℕ))
    (t : Telling) → t.ending ≡ other → Audited c files (said_in t) → ⊥
never_audited other done judged refused c files t e a = by a.told a.says
  where
    by : (told : Result Judgement JudgeError) → SaysJudged told (said_in t) → ⊥
    by (Ok (Clean n)) h = done (sym h.0 ∙ e)
    by (Ok (False place k clause own)) h = judged (sym h.0 ∙ e)
    by (Ok (Large place k clause)) h = judged (sym h.0 ∙ e)
    by (Err error) h = refused (sym (refused_ending error (said_in t) h) ∙ e)

-- neither does what is made of a copy end otherwise
never_reads : (other : Ending) → Done ≢ other → ConditionFalse ≢ other → JournalRefused ≢ other → (c : Command) (files : List (List ℕ))
    (t : Telling) → t.ending ≡ other → ReadsCopy c files (said_in t) → ⊥
never_reads other done judged refused c files t e (inl audited) = never_audited other done judged refused c files t e audited
never_reads other done judged refused c files t e (inr stops) = refused (sym stops.ending ∙ e)

-- the copy isn't judged
copy_refused : (c : Command) (files : List (List ℕ)) (t : Telling) → t.ending ≡ JournalRefused → Audited c files (said_in t)
    → RefusesCopy c files
copy_refused c files t e a = by a.told a.audit a.says
  where
    by : (told : Result Judgement JudgeError) → IsAuditOf c files told → SaysJudged told (said_in t) → RefusesCopy c files
    by (Ok (Clean n)) audit h = (let s : Done ≡ JournalRefused = sym h.0 ∙ e in absurd cc)
    by (Ok (False place k clause own)) audit h = (let s : ConditionFalse ≡ JournalRefused = sym h.0 ∙ e in absurd cc)
    by (Ok (Large place k clause)) audit h = (let s : ConditionFalse ≡ JournalRefused = sym h.0 ∙ e in absurd cc)
    by (Err error) audit h =
        record { error = error; audit = audit; lasts = λ s. says_no_lack (Err error) (said_in t) h (ap Err s) }

-- a clause is false, or can't be told of
audit_finds : (c : Command) (files : List (List ℕ)) (t : Telling) → t.ending ≡ ConditionFalse → Audited c files (said_in t)
    → AuditFinds c files
audit_finds c files t e a = by a.told a.audit a.says
  where
    by : (told : Result Judgement JudgeError) → IsAuditOf c files told → SaysJudged told (said_in t) → AuditFinds c files
    by (Ok judgement) audit h = record { judgement = judgement; audit = audit; wrong = sym h.0 ∙ e }
    by (Err error) audit h =
        (let s : JournalRefused ≡ ConditionFalse = sym (refused_ending error (said_in t) h) ∙ e in absurd cc)

left_of : (c : Command) (files : List (List ℕ)) (t : Telling) → t.ending ≡ Unbegun
    → EndsOtherwise c files (said_in t) → LeftAnyhow c t
left_of c files t e (inr (inl opens)) = absurd (never_opens Unbegun (λ e. cc) c files t e opens)
left_of c files t e (inr (inr (inl runs))) = inr (inr (leaves_bench c t runs e))
left_of c files t e (inr (inr (inr reads))) = absurd (never_reads Unbegun (λ e. cc) (λ e. cc) (λ e. cc) c files t e reads)
left_of c files t e (inl (is, d, calls, order, says)) =
    let begun : says.all_begun ≡ false = ending_unbegun says.all_begun (sym says.ending ∙ e) in
    inl (is, d, calls, order, subst (TellsSchedule d calls order t.text t.history) begun says.tells)

pub leaves_unbegun :
    (c : Command) (points files : List (List ℕ)) (old new : Seen) (t : Telling) → t.ending ≡ Unbegun → Means c points files old new t
    → LeftAnyhow c t
leaves_unbegun c points files old new t e = by (is_journalled c)
  where
    by : (over : Bool) → MeansBy over c points files old new t → LeftAnyhow c t
    by true h = inr (inl (unbegun_over c files old new t e h))
    by false h = left_of c files t e (ends_scheduled Unbegun done_unbegun (λ e. cc) (λ e. cc) c points files (said_in t) e h.2)

not_scheduled :
    (other : Ending) → Done ≢ other → Unbegun ≢ other → (c : Command) (t : Telling) → t.ending ≡ other → Scheduled c (said_in t) → ⊥
not_scheduled other done unbegun c t e (is, d, calls, order, says) =
    ending_else other says.all_begun done unbegun (sym says.ending ∙ e)

-- a command without a journal that refuses one, or fails by its disk, reads a copy
only_reads : (other : Ending) → Done ≢ other → Unbegun ≢ other → Open ≢ other → ConditionFalse ≢ other → (c : Command)
    (files : List (List ℕ)) (t : Telling) → t.ending ≡ other → EndsOtherwise c files (said_in t) → ReadsCopy c files (said_in t)
only_reads other done unbegun differs judged c files t e (inl h) = absurd (not_scheduled other done unbegun c t e h)
only_reads other done unbegun differs judged c files t e (inr (inl h)) = absurd (never_opens other differs c files t e h)
only_reads other done unbegun differs judged c files t e (inr (inr (inl h))) = absurd (never_bench c t h other done unbegun judged e)
only_reads other done unbegun differs judged c files t e (inr (inr (inr h))) = h

-- a copy of a journal is refused by an audit, or isn't followed on
abbrev pub RefusesEither : Command → List (List ℕ) → Type 0
RefusesEither c files = RefusesCopy c files ⊎ RefusesFollowing c files

either_refused : (c : Command) (files : List (List ℕ)) (t : Telling) → t.ending ≡ JournalRefused → ReadsCopy c files (said_in t)
    → RefusesEither c files
either_refused c files t e (inl audited) = inl (copy_refused c files t e audited)
either_refused c files t e (inr stops) = inr stops.refuses

-- a journal is refused by a command over it; or a copy of one, and the disk is left as it is
abbrev pub RefusesAnyhow : Command → List (List ℕ) → Seen → Seen → Telling → Type 0
RefusesAnyhow c files old new t = RefusesOver c files old new t ⊎ (RefusesEither c files × (new ≡ old))

pub refuses_journal :
    (c : Command) (points files : List (List ℕ)) (old new : Seen) (t : Telling) → t.ending ≡ JournalRefused → Means c points files old new t
    → RefusesAnyhow c files old new t
refuses_journal c points files old new t e = by (is_journalled c)
  where
    by : (over : Bool) → MeansBy over c points files old new t → RefusesAnyhow c files old new t
    by true h = inl (refused_over c files old new t e h)
    by false h = inr (
      either_refused c files t e (only_reads JournalRefused (λ e. cc) (λ e. cc) (λ e. cc) (λ e. cc) c files t e
          (ends_scheduled JournalRefused (λ e. cc) (λ e. cc) (λ e. cc) c points files (said_in t) e h.2)),
      h.1,
    )

pub fails_by_disk :
    (c : Command) (points files : List (List ℕ)) (old new : Seen) (t : Telling) → t.ending ≡ DiskFailed → Means c points files old new t
    → Rose old.faults new.faults
fails_by_disk c points files old new t e = by (is_journalled c)
  where
    by : (over : Bool) → MeansBy over c points files old new t → Rose old.faults new.faults
    by true h =
        ⊎_elim (λ others. failed_by (Rose old.faults new.faults) t others e)
        (λ finds. absurd (other_end ConditionFalse DiskFailed t (λ e. cc) finds.1 e)) (ends_over_disk c files old new t h)
    by false h =
        absurd (never_reads DiskFailed (λ e. cc) (λ e. cc) (λ e. cc) c files t e
        (only_reads DiskFailed (λ e. cc) (λ e. cc) (λ e. cc) (λ e. cc) c files t e
        (ends_scheduled DiskFailed (λ e. cc) (λ e. cc) (λ e. cc) c points files (said_in t) e h.2)))

-- a command that leaves something open is `prove`
pub leaves_open :
    (c : Command) (points files : List (List ℕ)) (old new : Seen) (t : Telling) → t.ending ≡ Open → Means c points files old new t
    → Opens c files (said_in t)
leaves_open c points files old new t e = by (is_journalled c)
  where
    open_so : EndsOtherwise c files (said_in t) → Opens c files (said_in t)
    open_so (inl h) = absurd (not_scheduled Open (λ e. cc) (λ e. cc) c t e h)
    open_so (inr (inl h)) = h
    open_so (inr (inr (inl h))) = absurd (never_bench c t h Open (λ e. cc) (λ e. cc) (λ e. cc) e)
    open_so (inr (inr (inr h))) = absurd (never_reads Open (λ e. cc) (λ e. cc) (λ e. cc) c files t e h)

    by : (over : Bool) → MeansBy over c points files old new t → Opens c files (said_in t)
    by true h =
        ⊎_elim (λ others. absurd (never_open (Rose old.faults new.faults) t others e))
        (λ finds. absurd (other_end ConditionFalse Open t (λ e. cc) finds.1 e)) (ends_over_disk c files old new t h)
    by false h = open_so (ends_scheduled Open (λ e. cc) (λ e. cc) (λ e. cc) c points files (said_in t) e h.2)

-- `verify` finds one false of recovered rows, or `bench` of those at its end, or `audit` a clause
abbrev pub FindsAnyhow : Command → List (List ℕ) → Seen → Seen → Telling → Type 0
FindsAnyhow c files old new t = ((c ≡ command.Verify) × FindsFalse old new t) ⊎ BenchFindsFalse c t ⊎ AuditFinds c files

-- a command that finds a condition false, or a clause, is `verify`, `bench` or `audit`
pub finds_false :
    (c : Command) (points files : List (List ℕ)) (old new : Seen) (t : Telling) → t.ending ≡ ConditionFalse → Means c points files old new t
    → FindsAnyhow c files old new t
finds_false c points files old new t e = by (is_journalled c)
  where
    false_so : EndsOtherwise c files (said_in t) → FindsAnyhow c files old new t
    false_so (inl h) = absurd (not_scheduled ConditionFalse (λ e. cc) (λ e. cc) c t e h)
    false_so (inr (inl h)) = absurd (never_opens ConditionFalse (λ e. cc) c files t e h)
    false_so (inr (inr (inl h))) = inr (inl (bench_finds_false c t h e))
    false_so (inr (inr (inr (inl h)))) = inr (inr (audit_finds c files t e h))
    false_so (inr (inr (inr (inr h)))) = (let s : JournalRefused ≡ ConditionFalse = sym h.ending ∙ e in absurd cc)

    by : (over : Bool) → MeansBy over c points files old new t → FindsAnyhow c files old new t
    by true h =
        ⊎_elim (λ others. absurd (never_false (Rose old.faults new.faults) t others e)) (λ finds. inl (finds.0, finds.2))
        (ends_over_disk c files old new t h)
    by false h = false_so (ends_scheduled ConditionFalse (λ e. cc) (λ e. cc) (λ e. cc) c points files (said_in t) e h.2)
