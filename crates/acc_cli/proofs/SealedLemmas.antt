-- In what the journal of a command ends that has recovered it.
use Rattle.std.proofs.Common.{◌≡◌, ℕ, Bool, true, List, Option, Some, inl, inr, sym, ap, subst, ◌∙◌, ⊎_elim, arith}
use Rattle.std.specs.Prelude.{◌⊎◌, ◌≢◌}
use Rattle.acc_base.specs.declared.machines.Event.{Event}
use Rattle.acc_io.specs.Shelves.{Told}
use Rattle.acc_io.specs.declared.counts.Counts.{Counts}
use Rattle.acc_journalled.specs.declared.answers.Ending.{Ending}
use Rattle.acc_journalled.specs.declared.answers.Ending.TheVariants.{Done}
use Rattle.acc_journalled.specs.Sealing.{SealsGrowth}
use Rattle.acc_commands.specs.Command.{Command}
use Rattle.acc_commands.specs.Disks.{Seen}
use Rattle.acc_commands.specs.Files.{AreFiles}
use Rattle.acc_commands.specs.Means.{MeansBy}
use Rattle.acc_commands.specs.Overs.{IsRecovering}
use Rattle.acc_commands.specs.Words.{command_of, files_of, points_of, is_journalled}
use Rattle.acc_commands.proofs.Growths.{IsStopped, Grows, growth_over}
use Rattle.acc_cli.specs.declared.status.Status.{Status}
use Rattle.acc_cli.specs.declared.status.Status.TheVariants.{File, Sink, Ran}
use Rattle.acc_cli.specs.Replies.{Reply}
use Rattle.acc_cli.specs.Status.{code_of}
use Rattle.acc_cli.specs.Meant.{MeansForm, Meant}
use Rattle.acc_cli.specs.Answered.{Answered, Ends}
use Rattle.acc_cli.specs.Sealings.{TellsSealed}

-- it goes over a journal
recovers_journal : (c : Command) → IsRecovering c → is_journalled c ≡ true
recovers_journal c (inl e) = ap is_journalled e
recovers_journal c (inr (inl e)) = ap is_journalled e
recovers_journal c (inr (inr (inl e))) = ap is_journalled e
recovers_journal c (inr (inr (inr (inl e)))) = ap is_journalled e
recovers_journal c (inr (inr (inr (inr (inl e))))) = ap is_journalled e
recovers_journal c (inr (inr (inr (inr (inr (inl e)))))) = ap is_journalled e
recovers_journal c (inr (inr (inr (inr (inr (inr (workers, e))))))) = ap is_journalled e

-- the number of the status with which it is stopped
stopped_code : (ending : Ending) → IsStopped ending
    → (code_of (Ran ending) ≡ 2) ⊎ (code_of (Ran ending) ≡ 3) ⊎ (code_of (Ran ending) ≡ 4) ⊎ (code_of (Ran ending) ≡ 5)
stopped_code ending (inl is) = inl (ap (λ (e : Ending). code_of (Ran e)) is)
stopped_code ending (inr (inl is)) = inr (inl (ap (λ (e : Ending). code_of (Ran e)) is))
stopped_code ending (inr (inr (inl is))) = inr (inr (inl (ap (λ (e : Ending). code_of (Ran e)) is)))
stopped_code ending (inr (inr (inr is))) = inr (inr (inr (ap (λ (e : Ending). code_of (Ran e)) is)))

module _ (held : List ℕ → Told) (words : List (List ℕ)) (c : Command) (recovers : IsRecovering c) (disk disk' : Seen)
    (old new : Option (List ℕ)) (fault : Type 0) (status : Status) (history : List Event) (settled : ℕ) where
  abbrev Tells : Type 0
  Tells = TellsSealed held words c disk.told disk'.told history (code_of status)

  -- under another status nothing is told of states
  untold : (n : ℕ) → code_of status ≡ n → (n ≢ 0) × (n ≢ 7) × (n ≢ 8) × (n ≢ 10) → Tells
  untold n code which = inl (
    λ e. which.0 (sym code ∙ e),
    λ e. which.1 (sym code ∙ e),
    λ e. which.2 (sym code ∙ e),
    λ e. which.3 (sym code ∙ e),
  )

  module _ (meant : Reply) (ends : Ends meant old new fault status history settled) where
    stopped_told : (ending : Ending) → meant.status ≡ Ran ending → IsStopped ending → Tells
    stopped_told ending is stopped = by ends.given_is
      where
        which : (code_of (Ran ending) ≡ 2) ⊎ (code_of (Ran ending) ≡ 3) ⊎ (code_of (Ran ending) ≡ 4) ⊎ (code_of (Ran ending) ≡ 5)
        which = stopped_code ending stopped

        by : (status ≡ meant.status) ⊎ ((meant.status ≡ Ran Done) × (status ≡ Sink) × fault) → Tells
        by (inl same) = untold (code_of (Ran ending)) (ap code_of (same ∙ is)) (omega (arith, which))
        by (inr sunk) = (let zero : code_of (Ran ending) ≡ 0 = ap code_of (sym is ∙ sunk.0) in absurd (omega (arith, which, zero)))

    grown_told : (files : List (List ℕ)) → AreFiles held (files_of c words) files → Grows files disk disk' meant.history → Tells
    grown_told files given g = inr (record {
      design = g.design;
      others = g.others;
      given = subst (AreFiles held (files_of c words)) g.are_files given;
      d = g.d;
      is_text = g.is_text;
      grown = subst (λ (h : List Event). SealsGrowth g.d disk.told disk'.told h) (sym ends.history_is) g.grown;
    })

  of_form : (counts counts' : Counts) (meant : Reply) → MeansForm held counts counts' disk disk' words (Some c) meant
      → Ends meant old new fault status history settled → Tells
  of_form counts counts' meant (inl refused) ends = by ends.given_is
    where
      by : (status ≡ meant.status) ⊎ ((meant.status ≡ Ran Done) × (status ≡ Sink) × fault) → Tells
      by (inl same) = untold 6 (ap code_of (same ∙ refused.0)) (omega arith)
      by (inr sunk) = (let e : File ≡ Ran Done = sym refused.0 ∙ sunk.0 in absurd cc)
  of_form counts counts' meant (inr (files, given, counted, (ending, is, means))) ends =
      ⊎_elim (stopped_told meant ends ending is) (grown_told meant ends files given)
      (growth_over c files disk disk' (record { ending = ending; text = meant.text; history = meant.history; settled = meant.settled }) recovers
      (subst (λ over. MeansBy over c (points_of c words) files disk disk'
      (record { ending = ending; text = meant.text; history = meant.history; settled = meant.settled })) (recovers_journal c recovers) means))

  pub tells_sealed : (over : Bool) (counts counts' : Counts) → command_of words ≡ Some c
      → Answered over (Meant held counts counts' disk disk' words) old new fault status history settled → Tells
  tells_sealed over counts counts' form (inl none) = untold 9 (ap code_of none.0) (omega arith)
  tells_sealed over counts counts' form (inr (meant, means, ends)) =
      of_form counts counts' meant (subst (λ (o : Option Command). MeansForm held counts counts' disk disk' words o meant) form means) ends
