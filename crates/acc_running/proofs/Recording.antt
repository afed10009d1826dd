-- What is recorded of an engine's run over a recovered state, and what is said of it.
use Rattle.std.proofs.Common.{◌≡◌, ◌≤◌, inl, inr, ℕ, List, ◌++◌, length, take, drop, Bool, true, false, Option, Some, None, refl}
use Rattle.std.proofs.Common.{sym, ap, subst, ◌∙◌, arith}
use Rattle.std.specs.Prelude.{IfSome, option_and_then}
use Rattle.std.specs.List.{flat_map, range_with_len}
use Rattle.std.proofs.lemmas.List.{take_all, drop_at}
use Rattle.acc_base.specs.declared.designs.Design.{Design}
use Rattle.acc_base.specs.declared.machines.Call.{Call}
use Rattle.acc_base.specs.declared.machines.Event.{Event}
use Rattle.acc_base.specs.Lines.{settled_line}
use Rattle.acc_base.specs.Machine.{World, start, world, reply_at}
use Rattle.acc_base.specs.Plays.{Play}
use Rattle.acc_lift.proofs.FormRules.{run_rules}
use Rattle.acc_lift.proofs.Theorem.{annotated, lead_runs}
use Rattle.acc_print.specs.Designs.{printed}
use Rattle.acc_wal.specs.Fronts.{CountsFront}
use Rattle.acc_wal.specs.Journals.{Counts}
use Rattle.acc_wal.specs.Wals.{Journal, IsOpened}
use Rattle.acc_engine.specs.Kept.{IsKept}
use Rattle.acc_engine.specs.Keeping.{Journalled, BeginsFrom}
use Rattle.acc_schedule.proofs.Closing.{idle_between}
use Rattle.acc_settling.specs.Openings.{IsFresh}
use Rattle.acc_engine.specs.Surviving.{GoesOn}
use Rattle.acc_settling.specs.Runs.{IsAckedButOne}
use Rattle.acc_settling.specs.Wholes.{IsFrontOfSchedule, TellsDurablePart}
use Rattle.acc_journalled.specs.declared.answers.Answer.{Answer}
use Rattle.acc_journalled.specs.Sealing.{SealsGrowth}
use Rattle.acc_running.specs.Engines.{SaysAll, SaysFault, SaysRun, HandsOver}
use Rattle.acc_journalled.specs.Tellings.{telling_of}
use Rattle.acc_running.specs.Recorded.{IsFound, IsRecorded, IsDurableButOne}
use Rattle.acc_running.specs.Running.{RunsThrough, BreaksOff, RunsFrom}

-- an engine over a recovered state, as it begins
pub record Begins {D : Type 0} (d : Design) (calls : List Call) (first : World) (e : Journalled D) : Type 0 where
  pub design : e.design ≡ d
  pub state : e.state ≡ first
  pub base : e.base ≡ printed d
  pub found : e.found ≡ length first.events
  pub calls_are : e.calls ≡ calls
  pub settled : e.settled ≡ length first.events

-- and as it ends
pub record Ends {D : Type 0} (e : Journalled D) : Type 0 where
  pub kept : IsKept e.design e.state
  pub begins : BeginsFrom e.calls e.begun (drop e.found e.state.events)
  pub within : e.settled ≤ length e.state.events

pub begins_so : {D : Type 0} (d : Design) (calls : List Call) (first : World) (design : Design) (wal : Journal D) (e : Journalled D)
    → design ≡ d → IsOpened (printed d) first.events wal → IsFresh e → (e.state ≡ first) × (e.design ≡ design)
    → (e.disk ≡ wal.disk) × (e.base ≡ wal.base) → e.found ≡ length e.state.events → e.calls ≡ calls → Begins d calls first e
begins_so d calls first design wal e same opened fresh state journal found are =
    let count = ap (λ (w : World). length w.events) state.0 in
    record {
      design = state.1 ∙ same;
      state = state.0;
      base = journal.1 ∙ opened.base_is;
      found = found ∙ count;
      calls_are = are;
      settled = fresh.settled ∙ count;
    }

some_of : (told : Option (List ℕ)) (P : List ℕ → Type 0) → ((file : List ℕ) → told ≡ Some file → P file) → IfSome told P
some_of None P f = tt
some_of (Some file) P f = f file refl

-- what is so of an engine is so of what it hands over, and what is so of no events is so of what was refused
pub moved : {D : Type 0} (F : D → List Event → ℕ → Type 0) (x y : D) (xs ys : List Event) (m n : ℕ) → y ≡ x → ys ≡ xs → n ≡ m → F x xs m
    → F y ys n
moved F x y xs ys m n disk history settled h =
    subst (λ (k : ℕ). F y ys k) (sym settled)
    (subst (λ (es : List Event). F y es m) (sym history) (subst (λ z. F z xs m) (sym disk) h))

pub handed : {D : Type 0} (F : D → List Event → ℕ → Type 0) (e : Journalled D) (disk : D) (history : List Event) (settled : ℕ)
    → HandsOver e disk history settled → F e.disk e.state.events e.settled → F disk history settled
handed F e disk history settled h x =
    moved F e.disk disk e.state.events history e.settled settled h.disk_is h.history_is h.settled_is x

module _ {D : Type 0} (d : Design) (calls : List Call) (first : World) (old new : Journalled D) (b : Begins d calls first old)
    (on : GoesOn old new) (more_settled : old.settled ≤ new.settled) (ends : Ends new) where
  pub design_is : new.design ≡ d
  design_is = on.design ∙ b.design

  pub calls_are : new.calls ≡ calls
  calls_are = on.calls ∙ b.calls_are

  pub history_is : new.state.events ≡ first.events ++ on.more
  history_is = on.history ∙ ap (λ (w : World). w.events ++ on.more) b.state

  pub behind : drop new.found new.state.events ≡ on.more
  behind = (λ i. drop ((on.found ∙ b.found) i) (history_is i)) ∙ drop_at first.events on.more (length first.events) refl

  pub kept : IsKept d new.state
  kept = subst (λ x. IsKept x new.state) design_is ends.kept

  pub run : world d new.state.events ≡ Some new.state
  run = lead_runs d new.state.events start new.state kept.good.lawful

  abbrev pub recorded : IsRecorded d calls first new.state.events new.settled
  recorded = record {
    more = on.more;
    history_is = history_is;
    begun = new.begun;
    begins =
        subst (λ (es : List Event). BeginsFrom calls new.begun es) behind
        (subst (λ (cs : List Call). BeginsFrom cs new.begun (drop new.found new.state.events)) calls_are ends.begins);
    last = new.state;
    lawful = kept.good.lawful;
    annotated =
        annotated d kept.accepted.sound (run_rules d kept.accepted.formed) new.state.events (new.state, kept.good.lawful);
    idle = idle_between d new.state kept.accepted kept.good;
    least = omega (arith, b.settled, more_settled);
    within = ends.within;
  }

  pub durable : IsAckedButOne new → IsDurableButOne d new.state.events new.settled
  durable one = record {
    one = one.last;
    others = λ t n.
        subst (λ x. option_and_then (reply_at t) (world x (take new.settled new.state.events)) ≡ reply_at t new.state) design_is
        (one.others t n)
        ∙ sym (ap (option_and_then (reply_at t)) run);
  }

  -- ---- what is said of it, where the order's turns begin at this play

  module _ (order : List ℕ) (Opens : World → Play → Type 0) (opened : Play) (opens : Opens first opened)
      (front : IsFrontOfSchedule d calls order opened new.state.events)
      (told told' : Option (List ℕ)) (found : IsFound d told first)
      (counts : new.failed ≡ false → (file : List ℕ) → told' ≡ Some file
      → CountsFront new.base new.state.events new.settled file)
      (grew : Bool) (grown : (s : Answer) → SaysAll d calls order opened grew new s → SealsGrowth d told told' new.state.events) where
    whole : new.failed ≡ false → new.settled ≡ length new.state.events
        → IfSome told' (λ file. Counts file (printed d) new.state.events)
    whole unfailed all =
        some_of told' (λ file. Counts file (printed d) new.state.events) (λ file is.
        let c = counts unfailed file is in
        let events : take c.count new.state.events ≡ new.state.events =
        take_all c.count new.state.events (omega (arith, c.at_least, all)) in
        subst (λ (t : List ℕ). Counts file t new.state.events) (on.base ∙ b.base)
        (subst (λ (es : List Event). Counts file new.base es) events c.counts))

    runs_through : (s : Answer) → SaysAll d calls order opened grew new s
        → RunsThrough d calls order Opens told told' (telling_of s new.state.events new.settled)
    runs_through s all = record {
      first = first;
      found = found;
      recorded = recorded;
      opened = opened;
      opens = opens;
      all_begun = all.all_begun;
      tells = all.tells;
      ending = all.ending;
      settled = all.settled;
      holds = whole all.unfailed all.settled;
      grown = grown s all;
    }

    breaks_off : (fault : Type 0) → (new.failed ≡ true → fault) → (s : Answer)
        → SaysFault d calls order opened new s → BreaksOff d calls order Opens told fault (telling_of s new.state.events new.settled)
    breaks_off fault so s f = record {
      failed = so f.failed;
      first = first;
      found = found;
      recorded = recorded;
      opened = opened;
      opens = opens;
      front = front;
      lines = f.lines;
      replies = record {
        play = f.play;
        count = f.numbers.count ∙ ap length calls_are;
        unbegun = f.numbers.unbegun;
        durable = f.replies.durable;
        run =
            subst (λ x. world x (take new.settled new.state.events) ≡ Some f.replies.durable) design_is f.replies.run;
        text_is =
            f.replies.text_is
            ∙ ap (λ (cs : List Call). flat_map (settled_line (record f.play { world = f.replies.durable }))
            (range_with_len 1 (length cs))) calls_are;
      };
      unsettled = λ ended whole.
          subst (λ x. TellsDurablePart x calls new.state.events new.settled ended f.lines) design_is
          (subst (λ (cs : List Call). TellsDurablePart new.design cs new.state.events new.settled ended f.lines) calls_are
          (f.unsettled ended whole));
      ending = f.says.0;
      text = f.says.1;
    }

    pub runs_from : (fault : Type 0) → (new.failed ≡ true → fault) → (s : Answer) → SaysRun d calls order opened grew new s
        → RunsFrom d calls order Opens told told' fault (telling_of s new.state.events new.settled)
    runs_from fault so s (inl all) = inl (runs_through s all)
    runs_from fault so s (inr f) = inr (inl (breaks_off fault so s f))
