-- What `recover` and `dump` tell, and what a refused journal is afterwards.
use Rattle.std.proofs.Common.{◌≡◌, ℕ, Bool, List, [], ◌∷◌, Option, Some, inl, inr, ⊎_elim, sym, ap, subst, ◌∙◌, refl, arith}
use Rattle.std.specs.Prelude.{◌≢◌, ◌⊎◌}
use Rattle.std.specs.Io.KnownBytes.{Appends}
use Rattle.std.proofs.lemmas.Option.{same_Some}
use Rattle.acc_base.specs.declared.designs.Design.{Design}
use Rattle.acc_base.specs.declared.machines.Event.{Event}
use Rattle.acc_io.specs.Causes.{Rose}
use Rattle.acc_io.specs.Shelves.{Told}
use Rattle.acc_io.specs.declared.counts.Counts.{Counts}
use Rattle.acc_base.proofs.Leasts.{some_weaker}
use Rattle.acc_commands.specs.Admissions.{IsAcceptedWith}
use Rattle.acc_commands.specs.Texts.{IsDesignText}
use Rattle.acc_print.specs.Designs.{printed}
use Rattle.acc_wal.specs.declared.errors.WalError.{WalError}
use Rattle.acc_wal.specs.declared.errors.WalError.TheVariants as wal
use Rattle.acc_recover.specs.Refusals.{IsOfOther, IsUnlawfulAt, IsDifferentAt, RefusesRecovery, IsOfJournal, IsOfBytes, CountsSame}
use Rattle.acc_recover.specs.declared.errors.RecoverError.{RecoverError}
use Rattle.acc_recover.specs.declared.errors.RecoverError.TheVariants as recovery
use Rattle.acc_journalled.specs.declared.answers.Ending.{Ending}
use Rattle.acc_journalled.specs.declared.answers.Ending.TheVariants.{Done, DesignRefused, JournalRefused, DiskFailed}
use Rattle.acc_journalled.specs.declared.answers.Wanted.TheVariants as wanted
use Rattle.acc_journalled.specs.Recovering.{SaysNotRead, SaysNotRecovered, RecoversJournal, text_of}
use Rattle.acc_recover.proofs.Sealed.{events_counted}
use Rattle.acc_journalled.specs.Tellings.{Telling}
use Rattle.acc_commands.specs.Command.{Command}
use Rattle.acc_commands.specs.Command.TheVariants as command
use Rattle.acc_commands.specs.Text.{said_in}
use Rattle.acc_commands.specs.Disks.{Seen}
use Rattle.acc_commands.specs.Words.{command_of, files_of, points_of}
use Rattle.acc_commands.specs.BookingFiles.{say_seats}
use Rattle.acc_commands.specs.Files.{AreFiles}
use Rattle.acc_commands.specs.RecoverFiles.{Saying, RecoversCertified, RecoversFiles}
use Rattle.acc_commands.specs.Means.{MeansOverDisk, Means}
use Rattle.acc_commands.proofs.JournalEndings.{refusal_ends, refusal_tells_none, refused_or_recovered}
use Rattle.acc_cli.specs.declared.status.Status.{Status}
use Rattle.acc_cli.specs.declared.status.Status.TheVariants.{File, Sink, Memory, Ran}
use Rattle.acc_cli.specs.Replies.{Reply}
use Rattle.acc_cli.specs.Status.{code_of}
use Rattle.acc_cli.specs.Meant.{MeansForm, Meant}
use Rattle.acc_cli.specs.Answered.{Answered, Ends}
use Rattle.acc_cli.specs.Causes.{FindsJournal, RefusesRecovering, RefusesMigration, RefusesAudit, StopsFollowing, RefusesJournal}
use Rattle.acc_cli.specs.Recoveries.{wanted_by, IsRecovered, IsBroken, TellsRecovery, IsJournal, LeavesRefused}
use Rattle.acc_cli.proofs.StatusLemmas.{zero_is_done, seven_is_sink}

-- ---- what a refused journal is afterwards

unrecovered_left : (error : RecoverError) (d : Design) (told told' : Option (List ℕ)) (fault : Type 0) → IsOfBytes error
    → RefusesRecovery d error told fault → (IsOfJournal error → told' ≡ told) → CountsSame told told' → LeavesRefused told told'
unrecovered_left (recovery.Journal error) d told told' fault of why same kept = inl (same tt)
unrecovered_left recovery.OtherDesign d told told' fault of why same kept =
    inr (some_weaker (λ file. IsOfOther file (printed d)) IsJournal told (λ file h. (h.base, h.events, h.counts)) why, kept)
unrecovered_left (recovery.Unlawful at) d told told' fault of why same kept =
    inr (some_weaker (λ file. IsUnlawfulAt d file at) IsJournal told (λ file h. (printed d, h.events, h.counts)) why, kept)
unrecovered_left (recovery.Differs place) d told told' fault of why same kept =
    inr (
      some_weaker (λ file. IsDifferentAt d file place) IsJournal told (λ file h. (
        printed d,
        h.events,
        events_counted file (printed d) h.version h.events h.seals h.counts,
      )) why,
      kept,
    )
unrecovered_left recovery.Disk d told told' fault of why same kept = absurd of
unrecovered_left recovery.Memory d told told' fault of why same kept = absurd of

pub left_refused : (held : List ℕ → Told) (counts counts' : Counts) (disk disk' : Seen) (words : List (List ℕ))
    → RefusesJournal held counts counts' disk disk' words → LeavesRefused disk.told disk'.told
left_refused held counts counts' disk disk' words refused = by refused.why
  where
    by : FindsJournal refused.ends.command disk disk' ⊎ RefusesRecovering refused.ends.command disk disk'
        ⊎ RefusesMigration refused.ends.command refused.ends.files disk disk'
        ⊎ RefusesAudit refused.ends.command refused.ends.files disk disk'
        ⊎ StopsFollowing refused.ends.command refused.ends.files disk disk' → LeavesRefused disk.told disk'.told
    by (inl found) = inl found.same
    by (inr (inr (inl source))) = inl source.same
    by (inr (inr (inr (inl copied)))) = inl copied.same
    by (inr (inr (inr (inr stops)))) = inl stops.same
    by (inr (inl r)) =
        unrecovered_left r.error r.d disk.told disk'.told (Rose disk.faults disk'.faults) r.of_bytes r.cause r.same r.kept

-- ---- what is refused tells no history

-- it ends otherwise than as done, and tells no history
abbrev pub TellsNone : Telling → Type 0
TellsNone t = (t.ending ≢ Done) × (t.history ≡ []) × (t.settled ≡ 0)

pub none_of : (ending : Ending) (t : Telling) → ending ≢ Done → t.ending ≡ ending → t.history ≡ [] → t.settled ≡ 0 → TellsNone t
none_of ending t other is none zero = (λ e. other (sym is ∙ e), none, zero)

not_read_none : (error : WalError) (t : Telling) → SaysNotRead error t → TellsNone t
not_read_none wal.NotJournal t says = none_of JournalRefused t (λ e. cc) says.0 says.2 says.3
not_read_none (wal.OtherVersion version) t says = none_of JournalRefused t (λ e. cc) says.0 says.2 says.3
not_read_none (wal.Damaged place) t says = none_of JournalRefused t (λ e. cc) says.0 says.2 says.3
not_read_none wal.Exists t says = absurd says
not_read_none wal.Disk t says = absurd says
not_read_none wal.Spent t says = absurd says
not_read_none wal.Memory t says = absurd says

pub unrecovered_none : (error : RecoverError) (t : Telling) → SaysNotRecovered error t → TellsNone t
unrecovered_none (recovery.Journal error) t says = not_read_none error t says
unrecovered_none recovery.OtherDesign t says = none_of JournalRefused t (λ e. cc) says.0 says.2 says.3
unrecovered_none (recovery.Unlawful at) t says = none_of JournalRefused t (λ e. cc) says.0 says.2 says.3
unrecovered_none (recovery.Differs place) t says = none_of JournalRefused t (λ e. cc) says.0 says.2 says.3
unrecovered_none recovery.Disk t says = none_of DiskFailed t (λ e. cc) says.0 says.2 says.3
unrecovered_none recovery.Memory t says = absurd says

-- ---- what is recovered is told

module _ (held : List ℕ → Told) (words : List (List ℕ)) (c : Command) (w : Saying) (disk disk' : Seen) (old new : Option (List ℕ)) where
  -- of a telling: it tells none, or what is recovered, or the disk failed behind the recovery
  abbrev OfTelling : ℕ → Telling → Type 0
  OfTelling code t = TellsNone t
      ⊎ ((t.ending ≡ Done)
      × ((code ≡ 0 → Appends old new t.text) → IsRecovered held words c w disk.told disk'.told old new code t.history t.settled))
      ⊎ (t.ending ≡ DiskFailed)

  of_files : (code : ℕ) (design certificate : List ℕ) (t : Telling)
      → AreFiles held (files_of c words) (design ∷ certificate ∷ []) → RecoversFiles w design certificate disk disk' t → OfTelling code t
  of_files code design certificate t given (inl h) =
      inl (none_of DesignRefused t (λ e. cc) (refusal_ends design (said_in t) h.2) (refusal_tells_none design (said_in t) h.2) h.0)
  of_files code design certificate t given (inr h) = certified h.says
    where
      over : (d : Design) → IsDesignText design d → IsAcceptedWith d certificate
          → RecoversJournal (w d) d disk.told disk'.told (Rose disk.faults disk'.faults) t → OfTelling code t
      over d is_text accepted (inl r) = inr (inl (
        r.says.0,
        λ says. record {
          design = design;
          certificate = certificate;
          given = given;
          d = d;
          is_text = is_text;
          accepted = accepted;
          text = t.text;
          recovers = record {
            found = r.found;
            counts = r.counts;
            sealed = r.sealed;
            last = r.last;
            recovery = r.recovery;
            idle = r.idle;
            compensated = r.compensated;
            unfinished_were = r.unfinished_were;
            holds = r.holds;
            grown = r.grown;
            says = (refl, r.says.1, r.says.2, r.says.3);
          };
          says = says;
        },
      ))
      over d is_text accepted (inr (inl r)) = inl (unrecovered_none r.error t r.says)
      over d is_text accepted (inr (inr f)) = inr (inr f.says.0)

      certified : RecoversCertified w h.d certificate disk disk' t → OfTelling code t
      certified (inl r) = inl (none_of DesignRefused t (λ e. cc) r.2.ending r.2.history r.0)
      certified (inr r) = over h.d h.is_text r.accepted r.ends

  module _ (Stops : Type 0) (fault : Type 0) (status : Status) (history : List Event) (settled : ℕ) where
    abbrev Tells : Type 0
    Tells = TellsRecovery held words c w disk.told disk'.told old new (code_of status) history settled Stops

    -- what is told where nothing was said of it
    abbrev Somehow : Type 0
    Somehow = ((history ≡ []) × (settled ≡ 0))
        ⊎ IsRecovered held words c w disk.told disk'.told old new (code_of status) history settled ⊎ Stops

    -- the call broke off
    broken_told : IsBroken (code_of status) → Somehow → Tells
    broken_told code (inl none) = inl (λ e. absurd (omega (arith, code, e)), λ e. absurd (omega (arith, code, e)), none.0, none.1)
    broken_told code (inr (inl told)) = inr (inl told)
    broken_told code (inr (inr stops)) = inr (inr (code, stops))

    -- where the command wasn't done, the program tells no history
    untold : (meant : Reply) → meant.status ≢ Ran Done → meant.status ≢ Sink → meant.history ≡ [] → meant.settled ≡ 0
        → Ends meant old new fault status history settled → Tells
    untold meant done sink none zero ends = by ends.given_is
      where
        by : (status ≡ meant.status) ⊎ ((meant.status ≡ Ran Done) × (status ≡ Sink) × fault) → Tells
        by (inl same) = inl (
          λ e. done (sym same ∙ zero_is_done status e),
          λ e. sink (sym same ∙ seven_is_sink status e),
          ends.history_is ∙ none,
          ends.settled_is ∙ zero,
        )
        by (inr sunk) = absurd (done sunk.0)

    of_telling : (meant : Reply) (ending : Ending) → meant.status ≡ Ran ending → Ends meant old new fault status history settled
        → (code_of status ≢ 0 → Somehow)
        → OfTelling (code_of status) (record { ending = ending; text = meant.text; history = meant.history; settled = meant.settled }) → Tells
    of_telling meant ending is ends lacking (inl none) =
        untold meant (λ e. none.0 (let s : Ran ending ≡ Ran Done = sym is ∙ e in cc))
        (λ e. let s : Ran ending ≡ Sink = sym is ∙ e in absurd cc) none.1 none.2 ends
    of_telling meant ending is ends lacking (inr (inl tells)) =
        inr (inl (subst (λ h. IsRecovered held words c w disk.told disk'.told old new (code_of status) h settled) (sym ends.history_is)
        (subst (λ n. IsRecovered held words c w disk.told disk'.told old new (code_of status) meant.history n) (sym ends.settled_is)
        (tells.1 (λ zero. ends.done (zero_is_done status zero))))))
    of_telling meant ending is ends lacking (inr (inr failed)) =
        let five = by ends.given_is in broken_told (inl five) (lacking (λ zero. absurd (omega (arith, five, zero))))
      where
        by : (status ≡ meant.status) ⊎ ((meant.status ≡ Ran Done) × (status ≡ Sink) × fault) → code_of status ≡ 5
        by (inl same) = ap code_of (same ∙ is ∙ ap Ran failed)
        by (inr sunk) = (let e : Ran DiskFailed ≡ Ran Done = ap Ran (sym failed) ∙ sym is ∙ sunk.0 in absurd cc)

of_command : (held : List ℕ → Told) (words : List (List ℕ)) (c : Command) (w : Saying) (disk disk' : Seen) (old new : Option (List ℕ))
    (code : ℕ) (points files : List (List ℕ)) (t : Telling) → wanted_by c ≡ Some w → AreFiles held (files_of c words) files
    → Means c points files disk disk' t → OfTelling held words c w disk disk' old new code t
unfolding MeansOverDisk
of_command held words command.Recover w disk disk' old new code points (design ∷ certificate ∷ []) t is given h =
    let same : text_of wanted.Counts ≡ w = same_Some (text_of wanted.Counts) w is in
    of_files held words command.Recover w disk disk' old new code design certificate t given
    (subst (λ x. RecoversFiles x design certificate disk disk' t) same h)
of_command held words command.Recover w disk disk' old new code points [] t is given h = absurd h
of_command held words command.Recover w disk disk' old new code points (design ∷ []) t is given h = absurd h
of_command held words command.Recover w disk disk' old new code points (design ∷ certificate ∷ more ∷ rest) t is given h = absurd h
of_command held words command.Dump w disk disk' old new code points (design ∷ certificate ∷ []) t is given h =
    let same : text_of wanted.Rows ≡ w = same_Some (text_of wanted.Rows) w is in
    of_files held words command.Dump w disk disk' old new code design certificate t given
    (subst (λ x. RecoversFiles x design certificate disk disk' t) same h)
of_command held words command.Dump w disk disk' old new code points [] t is given h = absurd h
of_command held words command.Dump w disk disk' old new code points (design ∷ []) t is given h = absurd h
of_command held words command.Dump w disk disk' old new code points (design ∷ certificate ∷ more ∷ rest) t is given h = absurd h
of_command held words command.Replies w disk disk' old new code points (design ∷ certificate ∷ []) t is given h =
    let same : text_of wanted.Replies ≡ w = same_Some (text_of wanted.Replies) w is in
    of_files held words command.Replies w disk disk' old new code design certificate t given
    (subst (λ x. RecoversFiles x design certificate disk disk' t) same h)
of_command held words command.Replies w disk disk' old new code points [] t is given h = absurd h
of_command held words command.Replies w disk disk' old new code points (design ∷ []) t is given h = absurd h
of_command held words command.Replies w disk disk' old new code points (design ∷ certificate ∷ more ∷ rest) t is given h = absurd h
of_command held words command.Verify w disk disk' old new code points files t is given h = absurd cc
of_command held words command.Migrate w disk disk' old new code points files t is given h = absurd cc
of_command held words command.BookingVerify w disk disk' old new code points (design ∷ certificate ∷ []) t is given h =
    let same : say_seats ≡ w = same_Some say_seats w is in
    subst (λ x. OfTelling held words command.BookingVerify x disk disk' old new code t) same
    (⊎_elim (λ other. inl (none_of DesignRefused t (λ e. cc) other.2.0 other.2.2 other.0))
    (λ found. of_files held words command.BookingVerify say_seats disk disk' old new code design certificate t given found)
    (refused_or_recovered disk disk' t design certificate h))
of_command held words command.BookingVerify w disk disk' old new code points [] t is given h = absurd h
of_command held words command.BookingVerify w disk disk' old new code points (design ∷ []) t is given h = absurd h
of_command held words command.BookingVerify w disk disk' old new code points (design ∷ certificate ∷ more ∷ rest) t is given h = absurd h
of_command held words (command.Advise side) w disk disk' old new code points files t is given h = absurd cc
of_command held words command.Audit w disk disk' old new code points files t is given h = absurd cc
of_command held words (command.Follow size) w disk disk' old new code points files t is given h = absurd cc
of_command held words command.TpccDesign w disk disk' old new code points files t is given h = absurd cc
of_command held words command.BookingDesign w disk disk' old new code points files t is given h = absurd cc
of_command held words (command.TpccLoad scale) w disk disk' old new code points files t is given h = absurd cc
of_command held words (command.TpccMix mix) w disk disk' old new code points files t is given h = absurd cc
of_command held words (command.Bench mix) w disk disk' old new code points files t is given h = absurd cc
of_command held words command.Init w disk disk' old new code points files t is given h = absurd cc
of_command held words command.Play w disk disk' old new code points files t is given h = absurd cc
of_command held words command.Rehearse w disk disk' old new code points files t is given h = absurd cc
of_command held words (command.Run workers) w disk disk' old new code points files t is given h = absurd cc
of_command held words command.Sched w disk disk' old new code points files t is given h = absurd cc
of_command held words command.Print w disk disk' old new code points files t is given h = absurd cc
of_command held words command.Draw w disk disk' old new code points files t is given h = absurd cc
of_command held words command.Prove w disk disk' old new code points files t is given h = absurd cc
of_command held words command.Check w disk disk' old new code points files t is given h = absurd cc
of_command held words command.Help w disk disk' old new code points files t is given h = absurd cc
of_command held words command.Version w disk disk' old new code points files t is given h = absurd cc

module _ (held : List ℕ → Told) (words : List (List ℕ)) (c : Command) (w : Saying) (disk disk' : Seen) (old new : Option (List ℕ))
    (Stops : Type 0) (fault : Type 0) (status : Status) (history : List Event) (settled : ℕ) (tells : wanted_by c ≡ Some w)
    (lacking : code_of status ≢ 0 → ((history ≡ []) × (settled ≡ 0))
    ⊎ IsRecovered held words c w disk.told disk'.told old new (code_of status) history settled ⊎ Stops) where
  of_form : (counts counts' : Counts) (meant : Reply) → MeansForm held counts counts' disk disk' words (Some c) meant
      → Ends meant old new fault status history settled
      → TellsRecovery held words c w disk.told disk'.told old new (code_of status) history settled Stops
  of_form counts counts' meant (inl refused) ends =
      untold held words c w disk disk' old new Stops fault status history settled meant
      (λ e. let s : File ≡ Ran Done = sym refused.0 ∙ e in absurd cc) (λ e. let s : File ≡ Sink = sym refused.0 ∙ e in absurd cc)
      refused.1.0 refused.1.1 ends
  of_form counts counts' meant (inr (files, given, counted, (ending, is, means))) ends =
      of_telling held words c w disk disk' old new Stops fault status history settled meant ending is ends lacking
      (of_command held words c w disk disk' old new (code_of status) (points_of c words) files
      (record { ending = ending; text = meant.text; history = meant.history; settled = meant.settled }) tells given means)

  pub tells_recovery : (over : Bool) (counts counts' : Counts) → command_of words ≡ Some c
      → Answered over (Meant held counts counts' disk disk' words) old new fault status history settled
      → TellsRecovery held words c w disk.told disk'.told old new (code_of status) history settled Stops
  tells_recovery over counts counts' form (inl none) =
      let nine : code_of status ≡ 9 = ap code_of none.0 in
      broken_told held words c w disk disk' old new Stops fault status history settled (inr nine)
      (lacking (λ zero. absurd (omega (arith, nine, zero))))
  tells_recovery over counts counts' form (inr (meant, means, ends)) =
      of_form counts counts' meant (subst (λ (o : Option Command). MeansForm held counts counts' disk disk' words o meant) form means) ends
