-- The causes of the statuses, from the one clause on the answer.
use Rattle.std.proofs.Common.{◌≡◌, ℕ, Bool, List, Option, None, Some, refl, sym, ap, ◌∙◌, inl, inr}
use Rattle.std.specs.Prelude.{◌⊎◌}
use Rattle.acc_base.specs.declared.machines.Event.{Event}
use Rattle.acc_io.specs.Causes.{Rose}
use Rattle.acc_io.specs.Shelves.{Told}
use Rattle.acc_io.specs.declared.counts.Counts.{Counts}
use Rattle.acc_commands.specs.Command.{Command}
use Rattle.acc_journalled.specs.declared.answers.Ending.{Ending}
use Rattle.acc_journalled.specs.declared.answers.Ending.TheVariants.{Done, JournalRefused, DiskFailed, Unbegun, Open, ConditionFalse}
use Rattle.acc_cli.specs.declared.status.Status.{Status}
use Rattle.acc_cli.specs.declared.status.Status.TheVariants.{Usage, File, Sink, Memory, Ran}
use Rattle.acc_cli.specs.Replies.{Reply}
use Rattle.acc_commands.specs.Disks.{Seen}
use Rattle.acc_commands.specs.Words.{command_of, files_of, points_of}
use Rattle.acc_cli.specs.Meant.{Runs, MeansForm, Meant}
use Rattle.acc_cli.specs.Answered.{Answered}
use Rattle.acc_cli.specs.Causes.{EndsSo, LeavesInMemory, LeavesUnbegun, FindsJournal, RefusesRecovering, RefusesMigration, RefusesAudit, RefusesJournal}
use Rattle.acc_cli.specs.Causes.{StopsFollowing, LeavesOpen, FindsConditionFalse, HasCauses}
use Rattle.acc_journalled.proofs.Endings.{was_of_bytes}
use Rattle.acc_commands.specs.Overs.{LeavesBy, LeavesBench}
use Rattle.acc_commands.proofs.WhichCommands.{LeftAnyhow, RefusesAnyhow, leaves_unbegun, leaves_open, finds_false, refuses_journal, fails_by_disk}

module _ (held : List ℕ → Told) (counts counts' : Counts) (disk disk' : Seen) (words : List (List ℕ)) where
  -- the files were given, and the command ended so
  ends_so : (command : Command) (reply : Reply) (ending : Ending) → command_of words ≡ Some command
      → (runs : Runs held counts counts' disk disk' command (points_of command words) (files_of command words) reply) → runs.3.0 ≡ ending
      → EndsSo held counts counts' disk disk' words ending
  ends_so command reply ending is runs same = record {
    command = command;
    form = is;
    files = runs.0;
    given = runs.1;
    counted = runs.2;
    said = record { ending = runs.3.0; text = reply.text; history = reply.history; settled = reply.settled };
    ending_is = same;
    meant = runs.3.2;
  }

  -- the schedule left a place unbegun
  left_unbegun : EndsSo held counts counts' disk disk' words Unbegun → LeavesUnbegun held counts counts' disk disk' words
  left_unbegun ends =
      record { ends = ends; left = by (leaves_unbegun ends.command (points_of ends.command words) ends.files disk disk' ends.said ends.ending_is ends.meant) }
    where
      by : LeftAnyhow ends.command ends.said
          → LeavesInMemory ends.command ends.said ⊎ LeavesBy ends.command ends.said ⊎ LeavesBench ends.command ends.said
      by (inl left) = inl (record { is_rehearse = left.0; d = left.1; calls = left.2; order = left.3; tells = left.4 })
      by (inr left) = inr left

  -- a journal was there, or none is recovered
  refused_journal : EndsSo held counts counts' disk disk' words JournalRefused → RefusesJournal held counts counts' disk disk' words
  refused_journal ends =
      record { ends = ends; why = by (refuses_journal ends.command (points_of ends.command words) ends.files disk disk' ends.said ends.ending_is ends.meant) }
    where
      by : RefusesAnyhow ends.command ends.files disk disk' ends.said
          → FindsJournal ends.command disk disk' ⊎ RefusesRecovering ends.command disk disk'
          ⊎ RefusesMigration ends.command ends.files disk disk' ⊎ RefusesAudit ends.command ends.files disk disk'
          ⊎ StopsFollowing ends.command ends.files disk disk'
      by (inr (inl copied, same)) = inr (inr (inr (inl (record { copy = copied; same = ap (λ (s : Seen). s.told) same }))))
      by (inr (inr stops, same)) = inr (inr (inr (inr (record { following = stops; same = ap (λ (s : Seen). s.told) same }))))
      by (inl (inl found)) = inl (record { is_making = found.0; there = found.1.there; same = found.1.same })
      by (inl (inr (inr source))) = inr (inr (inl (record { source = source.0; same = source.1 })))
      by (inl (inr (inl refused))) =
          let cause = refused.2 in
          let of_bytes = was_of_bytes cause.error ends.said cause.says (λ e. let s : JournalRefused ≡ DiskFailed =
          sym ends.ending_is ∙ e in absurd cc) in
          inr (inl (record {
            is_over = refused.0;
            d = refused.1;
            error = cause.error;
            of_bytes = of_bytes;
            cause = cause.cause;
            same = cause.same;
            kept = cause.kept of_bytes;
          }))

  -- obligations stay open
  stays_open : EndsSo held counts counts' disk disk' words Open → LeavesOpen held counts counts' disk disk' words
  stays_open ends =
      let left = leaves_open ends.command (points_of ends.command words) ends.files disk disk' ends.said ends.ending_is ends.meant in
      record { ends = ends; is_prove = left.0; design = left.2; file = left.3; stays = left.4 }

  -- a condition is false
  is_false : EndsSo held counts counts' disk disk' words ConditionFalse → FindsConditionFalse held counts counts' disk disk' words
  is_false ends =
      record { ends = ends; finds = finds_false ends.command (points_of ends.command words) ends.files disk disk' ends.said ends.ending_is ends.meant }

  failed_disk : EndsSo held counts counts' disk disk' words DiskFailed → Rose disk.faults disk'.faults
  failed_disk ends = fails_by_disk ends.command (points_of ends.command words) ends.files disk disk' ends.said ends.ending_is ends.meant

  same_ending : (a b : Ending) (status : Status) → status ≡ Ran a → status ≡ Ran b → a ≡ b
  same_ending a b status h k = let e : Ran a ≡ Ran b = sym h ∙ k in cc

  -- the causes where the status is the one that is meant
  meant_causes : (sink_fault : Type 0) (form : Option Command) (reply : Reply)
      → command_of words ≡ form → MeansForm held counts counts' disk disk' words form reply
      → HasCauses held counts counts' disk disk' words sink_fault reply.status
  meant_causes sink_fault None reply is meant = record {
    usage = λ _. (is, meant.1);
    usage_only = λ _. inl meant.0;
    file = λ h. let e : Usage ≡ File = sym meant.0 ∙ h in cc;
    sink = λ h. let e : Usage ≡ Sink = sym meant.0 ∙ h in absurd cc;
    unbegun = λ h. let e : Usage ≡ Ran Unbegun = sym meant.0 ∙ h in absurd cc;
    journal = λ h. let e : Usage ≡ Ran JournalRefused = sym meant.0 ∙ h in absurd cc;
    unproved = λ h. let e : Usage ≡ Ran Open = sym meant.0 ∙ h in absurd cc;
    judged = λ h. let e : Usage ≡ Ran ConditionFalse = sym meant.0 ∙ h in absurd cc;
    disk_fault = λ h. let e : Usage ≡ Ran DiskFailed = sym meant.0 ∙ h in absurd cc;
    ran = λ ending h. let e : Usage ≡ Ran ending = sym meant.0 ∙ h in cc;
  }
  meant_causes sink_fault (Some command) reply is (inl refuses) = record {
    usage = λ h. let e : File ≡ Usage = sym refuses.0 ∙ h in absurd cc;
    usage_only = λ h. let e : Some command ≡ None = sym is ∙ h in cc;
    file = λ _. record {
      command = command;
      form = is;
      name = refuses.2.0;
      error = refuses.2.1;
      first = refuses.2.2;
      text = reply.text;
      printed = refuses.2.3;
    };
    sink = λ h. let e : File ≡ Sink = sym refuses.0 ∙ h in absurd cc;
    unbegun = λ h. let e : File ≡ Ran Unbegun = sym refuses.0 ∙ h in absurd cc;
    journal = λ h. let e : File ≡ Ran JournalRefused = sym refuses.0 ∙ h in absurd cc;
    unproved = λ h. let e : File ≡ Ran Open = sym refuses.0 ∙ h in absurd cc;
    judged = λ h. let e : File ≡ Ran ConditionFalse = sym refuses.0 ∙ h in absurd cc;
    disk_fault = λ h. let e : File ≡ Ran DiskFailed = sym refuses.0 ∙ h in absurd cc;
    ran = λ ending h. let e : File ≡ Ran ending = sym refuses.0 ∙ h in cc;
  }
  meant_causes sink_fault (Some command) reply is (inr runs) = record {
    usage = λ h. let e : Ran runs.3.0 ≡ Usage = sym runs.3.1 ∙ h in absurd cc;
    usage_only = λ h. let e : Some command ≡ None = sym is ∙ h in cc;
    file = λ h. let e : Ran runs.3.0 ≡ File = sym runs.3.1 ∙ h in cc;
    sink = λ h. let e : Ran runs.3.0 ≡ Sink = sym runs.3.1 ∙ h in absurd cc;
    unbegun = λ h. left_unbegun (by Unbegun h);
    journal = λ h. refused_journal (by JournalRefused h);
    unproved = λ h. stays_open (by Open h);
    judged = λ h. is_false (by ConditionFalse h);
    disk_fault = λ h. failed_disk (by DiskFailed h);
    ran = by;
  }
    where
      by : (ending : Ending) → reply.status ≡ Ran ending → EndsSo held counts counts' disk disk' words ending
      by ending h = ends_so command reply ending is runs (same_ending runs.3.0 ending reply.status runs.3.1 h)

  -- the sink's fault behind a command that was done
  done_before : (form : Option Command) (reply : Reply)
      → command_of words ≡ form → MeansForm held counts counts' disk disk' words form reply → reply.status ≡ Ran Done
      → EndsSo held counts counts' disk disk' words Done
  done_before None reply is meant done = (let e : Ran Done ≡ Usage = sym done ∙ meant.0 in absurd cc)
  done_before (Some command) reply is (inl refuses) done = (let e : Ran Done ≡ File = sym done ∙ refuses.0 in absurd cc)
  done_before (Some command) reply is (inr runs) done =
      ends_so command reply Done is runs (same_ending runs.3.0 Done reply.status runs.3.1 done)

  sink_causes : (sink_fault : Type 0) (form : Option Command) (reply : Reply)
      → command_of words ≡ form → MeansForm held counts counts' disk disk' words form reply → reply.status ≡ Ran Done → sink_fault
      → HasCauses held counts counts' disk disk' words sink_fault Sink
  sink_causes sink_fault form reply is meant done rose =
      let before : EndsSo held counts counts' disk disk' words Done = done_before form reply is meant done in
      record {
        usage = λ h. absurd cc;
        usage_only = λ h. let e : Some before.command ≡ None = sym before.form ∙ h in absurd cc;
        file = λ h. cc;
        sink = λ _. (rose, before);
        unbegun = λ h. absurd cc;
        journal = λ h. absurd cc;
        unproved = λ h. absurd cc;
        judged = λ h. absurd cc;
        disk_fault = λ h. absurd cc;
        ran = λ ending h. cc;
      }

  pub causes_of : (over : Bool) (sink_fault : Type 0) (old new : Option (List ℕ)) (status : Status) (history : List Event) (settled : ℕ)
      → Answered over (Meant held counts counts' disk disk' words) old new sink_fault status history settled
      → HasCauses held counts counts' disk disk' words sink_fault status
  causes_of over sink_fault old new status history settled (inl none) = record {
    usage = λ h. let e : Memory ≡ Usage = sym none.0 ∙ h in absurd cc;
    usage_only = λ _. inr none.0;
    file = λ h. let e : Memory ≡ File = sym none.0 ∙ h in cc;
    sink = λ h. let e : Memory ≡ Sink = sym none.0 ∙ h in absurd cc;
    unbegun = λ h. let e : Memory ≡ Ran Unbegun = sym none.0 ∙ h in absurd cc;
    journal = λ h. let e : Memory ≡ Ran JournalRefused = sym none.0 ∙ h in absurd cc;
    unproved = λ h. let e : Memory ≡ Ran Open = sym none.0 ∙ h in absurd cc;
    judged = λ h. let e : Memory ≡ Ran ConditionFalse = sym none.0 ∙ h in absurd cc;
    disk_fault = λ h. let e : Memory ≡ Ran DiskFailed = sym none.0 ∙ h in absurd cc;
    ran = λ ending h. let e : Memory ≡ Ran ending = sym none.0 ∙ h in cc;
  }
  causes_of over sink_fault old new status history settled (inr (meant, means, ends)) =
      elim ends.given_is [
        | inl same ↦ rw same (meant_causes sink_fault (command_of words) meant refl means)
        | inr sunk ↦ rw sunk.1 (sink_causes sink_fault (command_of words) meant refl means sunk.0 sunk.2)
      ]
