-- What a recovery ends with.
use Rattle.std.proofs.Common.{◌≡◌, inr, ℕ, List, [], ◌∷◌, ◌++◌, length, Option, Some, None, sym, ◌∙◌, ap, subst, append_assoc}
use Rattle.std.specs.Prelude.{IfSome}
use Rattle.std.proofs.lemmas.List.{append-nil}
use Rattle.acc_base.specs.declared.tables.Row.{Row}
use Rattle.acc_base.specs.declared.designs.Design.{Design}
use Rattle.acc_base.specs.declared.machines.Frame.{Frame}
use Rattle.acc_base.specs.declared.machines.Event.{Event}
use Rattle.acc_base.specs.Machine.{World, start, unfinished}
use Rattle.acc_base.specs.Lawful.{LeadLawfully}
use Rattle.acc_base.specs.Annotated.{IsIdle}
use Rattle.acc_base.specs.Compensation.{Recovers}
use Rattle.acc_lift.specs.Acceptance.{IsAccepted}
use Rattle.acc_lift.proofs.FormRules.{run_rules}
use Rattle.acc_lift.proofs.Theorem.{event_logged, good_start, good_run, idle}
use Rattle.acc_print.specs.Designs.{printed}
use Rattle.acc_machine.specs.Running.{Running}
use Rattle.acc_wal.specs.Journals.{Counts, CountsAll}
use Rattle.acc_wal.specs.declared.items.Seal.{Seal}
use Rattle.acc_wal.specs.Wals.{Journal, IsOpened}
use Rattle.acc_machine.specs.Kept.{IsKept}
use Rattle.acc_recover.specs.Seals.{AreFrom, AreSealsOf, IsSealed}
use Rattle.acc_recover.specs.Recoveries.{IsRecovery, GoesOn, AreRowsOfRecovery}
use Rattle.acc_recover.specs.Answers.{RecoversFile, IsReplayed}
use Rattle.acc_recover.specs.Refusals.{AreRowsOnTheWay}
use Rattle.acc_recover.proofs.Ways.{on_the_way}
use Rattle.acc_recover.proofs.Comparisons.{counted_rise}

led_logged : (d : Design) (events : List Event) (w last : World) → LeadLawfully d w events last → last.events ≡ w.events ++ events
led_logged d [] w last l = ap (λ (x : World). x.events) (sym l) ∙ sym (append-nil w.events)
led_logged d (e ∷ rest) w last l =
    led_logged d rest l.0 last l.2 ∙ ap (λ (es : List Event). es ++ rest) (event_logged d w e l.0 l.1.event) ∙ append_assoc w.events
    (e ∷ []) rest

pub kept_run : (d e : Design) (events : List Event) (w : World) → IsAccepted d → e ≡ d → LeadLawfully d start events w → IsKept e w
kept_run d e events w a is l =
    subst (λ x. IsKept x w) (sym is)
    (record { accepted = a; good = good_run d a.sound (run_rules d a.formed) events start w (good_start d a.sound) l })

recovery_idle : (d : Design) (events : List Event) (w last : World) → Recovers d w events last → unfinished last ≡ []
recovery_idle d [] w last r = subst (λ (x : World). unfinished x ≡ []) r.0 r.1
recovery_idle d (e ∷ rest) w last r = recovery_idle d rest r.1.0 last r.1.2

pub is_idle : (d e : Design) (found : List Event) (w : World) → e ≡ d → IsKept e w → IsRecovery e found w → IsIdle d w.rows
is_idle d e found w is kept r = subst (λ x. IsIdle x w.rows) is (idle e w kept.good.steady (recovery_idle e r.more r.first w r.recovers))

module _ {D : Type 0} (d : Design) (old : Journal D) (state : Running) (read : IsReplayed d old state) where
  pub same_events : state.world.events ≡ old.durable
  same_events = led_logged d old.durable start state.world read.comes

  counts_text : (told : Option (List ℕ)) → IfSome told (λ file. Counts file old.base old.durable) →
      IfSome told (λ file. Counts file (printed d) old.durable)
  counts_text told counts = subst (λ (b : List ℕ). IfSome told (λ file. Counts file b old.durable)) read.text counts

  -- its states were compared with those events
  sealed : (told : Option (List ℕ)) (version : ℕ) (seals : List Seal) → version ≡ old.version → seals ≡ old.seals
      → IfSome told (λ file. CountsAll file old.base old.version old.durable old.seals)
      → (AreFrom 0 old.seals → AreSealsOf d old.durable old.seals) → IfSome told (IsSealed d version old.durable seals)
  sealed None version seals same are counts each = tt
  sealed (Some file) version seals same are counts each =
      subst (λ n. IsSealed d n old.durable seals file) (sym same)
      (subst (λ (l : List Seal). IsSealed d old.version old.durable l file) (sym are) (record {
        counts = subst (λ (b : List ℕ). CountsAll file b old.version old.durable old.seals) read.text counts;
        each = each (counted_rise file old.base old.version old.durable old.seals counts);
      }))

  pub recovers_file : (told : Option (List ℕ)) (now : Journal D) (w : World) (frames : List Frame) (count : ℕ)
      → IfSome told (λ file. Counts file old.base old.durable) → IsRecovery state.design state.world.events w
      → IsOpened old.base w.events now → frames ≡ unfinished state.world → count ≡ length frames
      → IfSome told (λ file. CountsAll file old.base old.version old.durable old.seals)
      → (now.version ≡ old.version) × (now.seals ≡ old.seals) → (AreFrom 0 old.seals → AreSealsOf d old.durable old.seals)
      → RecoversFile d told w now count
  recovers_file told now w frames count counts r opened are long counts_all states each = record {
    found = old.durable;
    counts = counts_text told counts;
    recovery = subst (λ x. IsRecovery x old.durable w) read.design
        (subst (λ (es : List Event). IsRecovery state.design es w) same_events r);
    settled = subst (λ (b : List ℕ). IsOpened b w.events now) read.text opened;
    unfinished_were = record { first = state.world; comes = read.comes; count_is = long ∙ ap length are };
    sealed = sealed told now.version now.seals states.0 states.1 counts_all each;
  }

  pub rows_on_the_way : (told : Option (List ℕ)) (e : Design) (w : World) (rows : List Row) →
      IfSome told (λ file. Counts file old.base old.durable)
      → e ≡ state.design → IsKept e w → GoesOn state.design state.world w → rows ≡ w.rows → AreRowsOnTheWay d told rows
  rows_on_the_way told e w rows counts same kept goes are = record {
    found = old.durable;
    counts = counts_text told counts;
    within =
        inr
        (subst (λ (rs : List Row). AreRowsOfRecovery d old.durable rs) (sym are)
        (subst (λ x. AreRowsOfRecovery x old.durable w.rows) read.design
        (subst (λ (es : List Event). AreRowsOfRecovery state.design es w.rows) same_events
        (on_the_way state.design state.world w read.kept.good.lawful (subst (λ x. IsKept x w) same kept) goes))));
  }
