-- What a crash leaves of `sched` and of `run` is recovered.
use Rattle.std.proofs.Common.{◌≡◌, ◌⊎◌, inl, inr, ℕ, zero, suc, Bool, true, false, List, [], ◌∷◌, ◌++◌, length, take, drop, Option}
use Rattle.std.proofs.Common.{Some, refl, sym, ap, subst, ◌∙◌}
use Rattle.std.specs.Prelude.{option_and_then, IfSome}
use Rattle.std.specs.List.{list_any}
use Rattle.std.proofs.lemmas.List.{take-take, take-append-drop}
use Rattle.std.proofs.lemmas.Option.{none-some}
use Rattle.acc_base.specs.declared.designs.Design.{Design}
use Rattle.acc_base.specs.declared.machines.Call.{Call}
use Rattle.acc_base.specs.declared.machines.Event.{Event}
use Rattle.acc_base.specs.declared.machines.Reply.{Reply}
use Rattle.acc_base.specs.Lawful.{AreLawful}
use Rattle.acc_base.specs.Plays.{Play}
use Rattle.acc_base.specs.Machine.{World, start, world, after_events, reply_at}
use Rattle.acc_disk.specs.Crashes.{Only}
use Rattle.acc_io.specs.Causes.{Rose}
use Rattle.acc_io.specs.Shelves.{Told}
use Rattle.acc_commands.specs.Acks.{is_turn_of}
use Rattle.acc_commands.proofs.Tails.{between, events_keep, events_open}
use Rattle.acc_formed.proofs.Runs.{well_formed_runs}
use Rattle.acc_lift.specs.Acceptance.{IsAccepted}
use Rattle.acc_lift.proofs.Theorem.{lead_runs}
use Rattle.acc_print.specs.Designs.{printed}
use Rattle.acc_recover.specs.Recoveries.{IsRecovery, LeavesRecovery}
use Rattle.acc_recover.specs.Refusals.{RefusesRecovery}
use Rattle.acc_recover.specs.declared.errors.RecoverError.{RecoverError}
use Rattle.acc_recover.specs.declared.errors.RecoverError.TheVariants.{Journal, OtherDesign, Unlawful, Differs, Disk, Memory}
use Rattle.acc_wal.specs.Journals.{Counts}
use Rattle.acc_wal.proofs.Moments.{started, weaker}
use Rattle.acc_journalled.specs.Recovering.{SaysNotRecovered, RecoversJournal}
use Rattle.acc_journalled.specs.Tellings.{Telling}
use Rattle.acc_journalled.proofs.Numbered.{none_unfinished}
use Rattle.acc_commands.specs.Crashes.{IsRecoveredPart, LeavesEvents, LeavesRun, LeavesDurable, IsRecoverable, IsFrontOf, RunsOver}
use Rattle.acc_commands.specs.Running.{IsOpening, WorkersLeave}
use Rattle.acc_commands.specs.Recorded.{IsFound, Records}
use Rattle.acc_commands.proofs.Again.{recovered_leads, crash_recovers, end_recovers}
use Rattle.acc_commands.specs.Disks.{IsUntouched}
use Rattle.acc_commands.specs.Texts.{IsDesignText}
use Rattle.acc_formed.specs.WellFormed.{IsWellFormed}
use Rattle.acc_commands.specs.Admissions.{IsAcceptedWith}
use Rattle.acc_commands.specs.Command.{Command}
use Rattle.acc_commands.specs.Command.TheVariants as command
use Rattle.acc_commands.specs.Words.{files_of}
use Rattle.acc_commands.specs.Files.{AreFiles}
use Rattle.acc_cli.specs.Headline.{KeepsReplies, RecoversTo, Finds, IsOfLine, FindsSuch, AreOnTheWay, AreDurable, LeavesUntold}
use Rattle.acc_cli.specs.Headline.{CrashesRecover, SchedSurvives, RunSurvives}

-- ---- no event takes a reply back

reply_stays : (d : Design) (w later : World) (events : List Event) (t : ℕ) (reply : Reply) → after_events d w events ≡ Some later
    → reply_at t w ≡ Some reply → reply_at t later ≡ Some reply
reply_stays d w later events t reply run at = by (list_any (is_turn_of t) events) refl
  where
    by : (b : Bool) → list_any (is_turn_of t) events ≡ b → reply_at t later ≡ Some reply
    by true is = absurd (none-some reply (sym (events_open d w later events t run is) ∙ at))
    by false is = events_keep d w later events t run is ∙ at

keeps_replies : (d : Design) (earlier more : List Event) (w : World) → world d (earlier ++ more) ≡ Some w
    → KeepsReplies d earlier (earlier ++ more)
keeps_replies d earlier more w run = λ t reply at.
    let halves = between d start w earlier more run in
    let here : reply_at t halves.0 ≡ Some reply =
    subst (λ (o : Option World). option_and_then (reply_at t) o ≡ Some reply) halves.1 at in
    subst (λ (o : Option World). option_and_then (reply_at t) o ≡ Some reply) (sym run)
    (reply_stays d halves.0 w more t reply halves.2 here)

front_keeps : (d : Design) (history : List Event) (settled : ℕ) (events : List Event) → IsFrontOf history settled events
    → AreLawful d events → KeepsReplies d (take settled history) events
front_keeps d history settled events front lawful =
    let first : take settled events ≡ take settled history =
    ap (take settled) front.is ∙ take-take settled front.count history front.at_least in
    let parts : events ≡ take settled history ++ drop settled events =
    sym (take-append-drop settled events) ∙ ap (λ (es : List Event). es ++ drop settled events) first in
    let run : world d events ≡ Some lawful.0 = lead_runs d events start lawful.0 lawful.1 in
    subst (KeepsReplies d (take settled history)) (sym parts)
    (keeps_replies d (take settled history) (drop settled events) lawful.0
    (subst (λ (es : List Event). world d es ≡ Some lawful.0) parts run))

-- ---- what can be recovered is found

module _ (d : Design) (image : List ℕ) (events : List Event) (can : IsRecoverable d image events) where
  -- nothing stands against it
  no_refusal : (error : RecoverError) (before after : ℕ) (t : Telling) → ¬ Rose before after
      → RefusesRecovery d error (Some image) (Rose before after) → SaysNotRecovered error t → ⊥
  no_refusal (Journal e) before after t calm why says = can.unrefused (Journal e) before after why tt
  no_refusal OtherDesign before after t calm why says = can.unrefused OtherDesign before after why tt
  no_refusal (Unlawful at) before after t calm why says = can.unrefused (Unlawful at) before after why tt
  no_refusal (Differs place) before after t calm why says = can.unrefused (Differs place) before after why tt
  no_refusal Disk before after t calm why says = calm why
  no_refusal Memory before after t calm why says = says

  recovers_to : (accepted : IsAccepted d) (text : World → ℕ → List ℕ) (told' : Option (List ℕ)) (before after : ℕ) (t : Telling)
      → ¬ Rose before after → RecoversJournal text d (Some image) told' (Rose before after) t → RecoversTo d events told' t
  recovers_to accepted text told' before after t calm (inr (inl r)) = absurd (no_refusal r.error before after t calm r.cause r.says)
  recovers_to accepted text told' before after t calm (inr (inr f)) = absurd (calm f.failed)
  recovers_to accepted text told' before after t calm (inl r) =
      let recovery : IsRecovery d events r.last =
      subst (λ (es : List Event). IsRecovery d es r.last) (can.only r.found r.counts) r.recovery in
      let leads = recovered_leads d events r.last recovery in
      let run : world d r.last.events ≡ Some r.last = lead_runs d r.last.events start r.last leads in
      let history = r.says.2 in
      record {
        done = r.says.0;
        last = r.last;
        recovery = recovery;
        history_is = history;
        lawful = subst (AreLawful d) (sym history) (r.last, leads);
        replies =
            subst (KeepsReplies d events) (sym (history ∙ recovery.events_are))
            (keeps_replies d events recovery.more r.last
            (subst (λ (es : List Event). world d es ≡ Some r.last) recovery.events_are run));
        none_unfinished = none_unfinished d events r.last accepted recovery;
        idle = r.idle;
        all_durable = r.says.3 ∙ ap length (sym history);
        holds = subst (λ (es : List Event). IfSome told' (λ file. Counts file (printed d) es)) (sym history) r.holds;
      }

  finds : IsAccepted d → Finds d image events
  finds accepted = record { counts = can.counts; recovers = recovers_to accepted }

-- ---- where nothing is told

none_before : (xs ys zs : List Event) → [] ≡ (xs ++ ys) ++ zs → xs ≡ []
none_before [] ys zs h = refl
none_before (x ∷ xs) ys zs h = absurd cc

none_taken : (n : ℕ) (events : List Event) → events ≡ take n [] → events ≡ []
none_taken zero events is = is
none_taken (suc n) events is = is

-- a run whose history is empty leaves what its recovery does
module _ (d : Design) (file image : List ℕ) where
  untold_part : (e : LeavesEvents d file [] image) (first : World) → IsRecovery d e.found first
      → IsRecoveredPart first.events [] e.events → LeavesRecovery d file image
  untold_part e first r (inl is) =
      inr (e.base, e.found, e.counts, inr (first, r, subst (Counts image e.base) is e.left))
  untold_part e first r (inr part) =
      let none : e.found ≡ [] = none_before e.found r.more part.0.0
      (part.0.1 ∙ ap (λ (es : List Event). es ++ part.0.0) r.events_are) in
      inr (e.base, e.found, e.counts, inl (subst (Counts image e.base) (none_taken part.1.count e.events part.1.is ∙ sym none) e.left))

  untold_run : LeavesRun d file [] image → LeavesRecovery d file image
  untold_run (inl same) = inl same
  untold_run (inr e) = by e.which
    where
      by : (e.events ≡ e.found) ⊎ ((first : World) × IsRecovery d e.found first × IsRecoveredPart first.events [] e.events)
          → LeavesRecovery d file image
      by (inl is) = inr (e.base, e.found, e.counts, inl (subst (Counts image e.base) is e.left))
      by (inr (first, r, part)) = untold_part e first r part

-- ---- what a crash leaves

-- the files of a command are given, and this is so of their run, whoever took the turns
record Ran {D : Type 0} (clock : D → ℕ) (left_since : D → ℕ → List ℕ → Type 0) (told : D → Option (List ℕ)) (may_leave : D → List ℕ → Type 0)
    (held : List ℕ → Told) (words : List (List ℕ)) (c : Command) (old new : D) (history : List Event) (settled : ℕ) : Type 1 where
  design : List ℕ
  certificate : List ℕ
  others : List (List ℕ)
  given : AreFiles held (files_of c words) (design ∷ certificate ∷ others)
  d : Design
  is_text : IsDesignText design d
  formed : IsWellFormed d
  is_accepted : IsAcceptedWith d certificate
  calls : List Call
  order : List ℕ
  Opens : World → Play → Type 0
  over : RunsOver clock left_since told may_leave d calls order Opens old new history settled

module _ {D : Type 0} (clock : D → ℕ) (left_since : D → ℕ → List ℕ → Type 0) (told : D → Option (List ℕ)) (may_leave : D → List ℕ → Type 0)
    (held : List ℕ → Told) (words : List (List ℕ)) (c : Command) (file : List ℕ) (old new : D) (history : List Event) (settled : ℕ)
    (is : told old ≡ Some file) (only : Only file (may_leave old)) where
  abbrev IsLeft : List ℕ → Type 0
  IsLeft image = LeavesUntold held words c file history settled image
      ⊎ IsOfLine held words c (λ d. FindsSuch d image (AreOnTheWay d file history))

  abbrev IsLeftBehind : List ℕ → Type 0
  IsLeftBehind image = LeavesUntold held words c file history settled image
      ⊎ IsOfLine held words c (λ d. FindsSuch d image (AreDurable d history settled))

  survives_untouched : ((image : List ℕ) → left_since old (clock old) image → may_leave old image) → IsUntouched old new history settled
      → CrashesRecover clock left_since may_leave held words c file old new history settled
  survives_untouched only_now none =
      let here : (image : List ℕ) → may_leave old image → LeavesUntold held words c file history settled image =
      λ image left. record { none = none.1; none_durable = none.2; left = inl (only image left) } in
      subst (λ (x : D). CrashesRecover clock left_since may_leave held words c file old x history settled) (sym none.0) (record {
        moments = started clock left_since old IsLeft (λ image left. inl (here image (only_now image left)));
        behind = λ image left. inl (here image left);
      })

  module _ (g : Ran clock left_since told may_leave held words c old new history settled) where
    of_line : (So : Design → Type 0) → So g.d → IsOfLine held words c So
    of_line So so = record {
      design = g.design;
      certificate = g.certificate;
      others = g.others;
      given = g.given;
      d = g.d;
      is_text = g.is_text;
      accepted = g.is_accepted;
      so = so;
    }

    accepted : IsAccepted g.d
    accepted = record {
      sound = g.is_accepted.sound;
      formed = g.formed;
      runnable = well_formed_runs g.d g.formed;
    }

    untold : (image : List ℕ) → history ≡ [] → settled ≡ 0 → LeavesRecovery g.d file image
        → LeavesUntold held words c file history settled image
    untold image none none_durable left =
        record { none = none; none_durable = none_durable; left = inr (of_line (λ d. LeavesRecovery d file image) left) }

    left_behind : AreLawful g.d history → (image : List ℕ) → LeavesDurable g.d file history settled image → IsLeftBehind image
    left_behind lawful image (inl none) = inl (untold image none.none none.none_durable none.left)
    left_behind lawful image (inr front) =
        let found = end_recovers g.d history settled image lawful front in
        inr (of_line (λ d. FindsSuch d image (AreDurable d history settled)) (record {
          events = found.0;
          finds = finds g.d image found.0 found.1 accepted;
          such = (found.2, front_keeps g.d history settled found.0 found.2 found.1.lawful);
        }))

    left_during : (first : World) → IsFound g.d (Some file) first → AreLawful g.d history → (image : List ℕ)
        → LeavesRun g.d file history image → IsLeft image
    left_during first found lawful image left =
        let again = crash_recovers g.d file image history first found lawful left in
        inr (of_line (λ d. FindsSuch d image (AreOnTheWay d file history)) (record {
          events = again.0;
          finds = finds g.d image again.0 again.1 accepted;
          such = (first, found, again.2);
        }))

    survives_run : CrashesRecover clock left_since may_leave held words c file old new history settled
    survives_run = by g.over.recorded
      where
        survives_so : AreLawful g.d history → ((image : List ℕ) → LeavesRun g.d file history image → IsLeft image)
            → CrashesRecover clock left_since may_leave held words c file old new history settled
        survives_so lawful so = record {
          moments = weaker clock left_since old new (LeavesRun g.d file history) IsLeft so (g.over.moments file is only);
          behind = λ image left. left_behind lawful image (g.over.behind file is only image left);
        }

        by : Records g.d g.calls (told old) history settled
            → CrashesRecover clock left_since may_leave held words c file old new history settled
        by (inl none) =
            survives_so (subst (AreLawful g.d) (sym none.0) (start, refl))
            (λ image left. inl (untold image none.0 none.1
            (untold_run g.d file image (subst (λ (es : List Event). LeavesRun g.d file es image) none.0 left))))
        by (inr (first, found, recorded)) =
            let lawful : AreLawful g.d history = (recorded.last, recorded.lawful) in
            survives_so lawful
            (left_during first (subst (λ (o : Option (List ℕ)). IsFound g.d o first) is found) lawful)

module _ {D : Type 0} (clock : D → ℕ) (left_since : D → ℕ → List ℕ → Type 0) (told : D → Option (List ℕ)) (may_leave : D → List ℕ → Type 0)
    (only_now : (disk : D) (image : List ℕ) → left_since disk (clock disk) image → may_leave disk image) where
  pub sched_survives : SchedSurvives clock left_since told may_leave
  sched_survives held words file old new history settled (inl none) is only =
      survives_untouched clock left_since told may_leave held words command.Sched file old new history settled is only (only_now old) none
  sched_survives held words file old new history settled (inr g) is only =
      survives_run clock left_since told may_leave held words command.Sched file old new history settled is only (record {
        design = g.design;
        certificate = g.certificate;
        others = g.script ∷ g.order ∷ [];
        given = g.given;
        d = g.run.d;
        is_text = g.run.is_text;
        formed = g.run.formed;
        is_accepted = g.run.accepted;
        calls = g.run.calls;
        order = g.run.runs.numbers;
        Opens = IsOpening g.run.calls;
        over = g.run.runs.runs.over;
      })

  pub run_survives : RunSurvives clock left_since told may_leave
  run_survives held words workers file old new history settled (inl none) is only =
      survives_untouched clock left_since told may_leave held words (command.Run workers) file old new history settled is only
      (only_now old) none
  run_survives held words workers file old new history settled (inr g) is only =
      survives_run clock left_since told may_leave held words (command.Run workers) file old new history settled is only (record {
        design = g.design;
        certificate = g.certificate;
        others = g.script ∷ [];
        given = g.given;
        d = g.run.d;
        is_text = g.run.is_text;
        formed = g.run.formed;
        is_accepted = g.run.accepted;
        calls = g.run.calls;
        order = [];
        Opens = WorkersLeave g.run.d g.run.calls;
        over = g.run.runs;
      })
