-- The states of a journal that is recovered.
use Rattle.std.proofs.Common.{◌≡◌, ℕ, List, Option, None, Some, refl, sym, subst}
use Rattle.std.specs.Prelude.{IfSome}
use Rattle.acc_base.specs.declared.designs.Design.{Design}
use Rattle.acc_base.specs.declared.machines.Event.{Event}
use Rattle.acc_base.specs.Machine.{World}
use Rattle.acc_disk.specs.Crashes.{IsCalm}
use Rattle.acc_print.specs.Designs.{printed}
use Rattle.acc_wal.specs.Items.{seals_of}
use Rattle.acc_wal.specs.Journals.{Counts, CountsAll}
use Rattle.acc_wal.specs.declared.items.Seal.{Seal}
use Rattle.acc_wal.proofs.Once.{one_of_all}
use Rattle.acc_recover.proofs.Sealed.{counted_within, seals_go_on}
use Rattle.acc_recover.specs.Recoveries.{IsRecovery}
use Rattle.acc_recover.specs.Seals.{AreSealsOf, IsSealed, HasSeals, HasSealsOver}

-- what counts some events has some version and some states
pub all_counted : (file base : List ℕ) (events : List Event) → Counts file base events
    → (version : ℕ) × (seals : List Seal) × CountsAll file base version events seals
all_counted file base events c = (
  c.version,
  seals_of 0 c.items,
  record { items = c.items; counts = c.counts; are = record { events_are = c.events_are; seals_are = refl } },
)

module _ (d : Design) (file base : List ℕ) (version : ℕ) (found : List Event) (seals : List Seal)
    (counts : CountsAll file base version found seals) where
  -- where the file's states are right, these are
  pub seals_found : HasSealsOver base d found file → AreSealsOf d found seals
  seals_found s =
      subst (AreSealsOf d found) (one_of_all file base base s.0 version found found s.1 seals s.2.counts counts).3 s.2.each

  -- and after the recovered history too
  pub seals_recovered : (last : World) → IsRecovery d found last → AreSealsOf d found seals → AreSealsOf d last.events seals
  seals_recovered last r each =
      subst (λ (es : List Event). AreSealsOf d es seals) (sym r.events_are)
      (seals_go_on d found r.more seals (counted_within file base version found seals counts) each)

-- the states that recovery found in a calm file
pub seals_of_calm : (told : Option (List ℕ)) (may_leave : List ℕ → Type 0) (d other : Design) (version : ℕ) (found : List Event)
    (seals : List Seal) (last : World) → other ≡ d → IsCalm told may_leave → IfSome told (IsSealed d version found seals)
    → IsRecovery d found last → AreSealsOf other last.events seals
seals_of_calm None may_leave d other version found seals last same calm sealed r = absurd calm
seals_of_calm (Some file) may_leave d other version found seals last same calm sealed r =
    subst (λ (x : Design). AreSealsOf x last.events seals) (sym same)
    (seals_recovered d file (printed d) version found seals sealed.counts last r sealed.each)

-- some states of a file are the texts of the rows at their places
pub has_seals : (told : Option (List ℕ)) (d : Design) (version : ℕ) (found : List Event) (seals : List Seal)
    → IfSome told (IsSealed d version found seals) → IfSome told (HasSeals d found)
has_seals None d version found seals sealed = tt
has_seals (Some file) d version found seals sealed = (version, seals, sealed)
