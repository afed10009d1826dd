-- States of a journal that are compared one after the other.
use Rattle.std.proofs.Common.{◌≡◌, ◌≤◌, ◌<◌, ◌+◌, ℕ, suc, List, [], ◌∷◌, ◌++◌, length, get_or, drop, Option, Some, None, refl, sym}
use Rattle.std.proofs.Common.{ap, subst, ◌∙◌, arith, append_assoc, inl, inr}
use Rattle.std.specs.Prelude.{Bool, true, false, if◌then◌else◌, IsTrue, ◌↔◌, take, min, max}
use Rattle.std.proofs.lemmas.Bool.{false≢true}
use Rattle.std.proofs.Math.Seq.{take-suc, drop-cons, take-length}
use Rattle.std.proofs.lemmas.List.{take_min}
use Rattle.std.proofs.lemmas.List.Elements.{All-push}
use Rattle.acc_base.specs.declared.tables.Row.{Row}
use Rattle.acc_base.specs.declared.designs.Design.{Design}
use Rattle.acc_base.specs.declared.machines.Event.{Event}
use Rattle.acc_base.specs.Machine.{World, start, unfinished}
use Rattle.acc_base.specs.Lawful.{LeadLawfully}
use Rattle.acc_ckpt.specs.Texts.{text_of}
use Rattle.acc_print.specs.Designs.{printed}
use Rattle.acc_wal.specs.Items.{seals_of}
use Rattle.acc_wal.specs.Journals.{CountsAll}
use Rattle.acc_wal.specs.declared.items.Item.{Item}
use Rattle.acc_wal.specs.declared.items.Item.TheVariants.{Event as EventItem, State}
use Rattle.acc_wal.specs.declared.items.Seal.{Seal}
use Rattle.acc_recover.specs.Seals.{IsSealOf, IsFirstDiffering, AreFrom, TellsText, TellsFirst, KeepsFirst}
use Rattle.acc_recover.specs.Refusals.{RefusesHistory}
use Rattle.acc_recover.specs.Replaying.{StopsTaking, StopsReplaying}
use Rattle.acc_recover.specs.declared.errors.RecoverError.{RecoverError}
use Rattle.acc_recover.specs.declared.errors.RecoverError.TheVariants.{Journal, OtherDesign, Unlawful, Differs, Disk, Memory}

-- ---- places that never fall

pub from_lower : (low place : ℕ) (seals : List Seal) → low ≤ place → AreFrom place seals → AreFrom low seals
from_lower low place [] le rise = tt
from_lower low place (seal ∷ seals) le rise = (omega (arith, le, rise.0), rise.1)

-- those of a journal's states
from_items : (place : ℕ) (items : List Item) → AreFrom place (seals_of place items)
from_items place [] = tt
from_items place (EventItem event ∷ items) =
    from_lower place (suc place) (seals_of (suc place) items) (omega arith) (from_items (suc place) items)
from_items place (State text ∷ items) = (omega arith, from_items place items)

pub counted_rise : (file base : List ℕ) (version : ℕ) (events : List Event) (seals : List Seal)
    → CountsAll file base version events seals → AreFrom 0 seals
counted_rise file base version events seals c = subst (AreFrom 0) (sym c.are.seals_are) (from_items 0 c.items)

-- ---- one more state

module _ (seals : List Seal) (i : ℕ) (seal : Seal) (within : i < length seals) (is : seal ≡ get_or seals i seal) where
  pub drop_more : drop i seals ≡ seal ∷ drop (i + 1) seals
  drop_more =
      let one : suc i ≡ i + 1 = omega arith in
      drop-cons seals i seal within ∙ ap (λ (x : Seal). x ∷ drop (suc i) seals) (sym is) ∙ ap (λ n. seal ∷ drop n seals) one

  pub take_more : take (i + 1) seals ≡ take i seals ++ seal ∷ []
  take_more =
      let one : i + 1 ≡ suc i = omega arith in
      ap (λ n. take n seals) one ∙ take-suc seals i seal within ∙ ap (λ (x : Seal). take i seals ++ x ∷ []) (sym is)

  -- the places behind it don't fall below where it was compared
  pub rises_more : (at to : ℕ) → to ≤ seal.place → AreFrom at (drop i seals) → AreFrom to (drop (i + 1) seals)
  rises_more at to le rise = from_lower to seal.place (drop (i + 1) seals) le (subst (AreFrom at) drop_more rise).1

  pub rises_to : (at : ℕ) → AreFrom at (drop i seals) → at ≤ seal.place
  rises_to at rise = (subst (AreFrom at) drop_more rise).0

-- ---- what has come where it is compared

-- the events before the state
pub come_before : (d : Design) (events : List Event) (w : World) (place at to : ℕ) → at ≤ place → to ≡ min (max place at) (length events)
    → LeadLawfully d start (take to events) w → LeadLawfully d start (take place events) w
come_before d events w place at to from is come =
    let same : to ≡ min place (length events) = omega (arith, from, is) in
    subst (λ (es : List Event). LeadLawfully d start es w) (ap (λ n. take n events) same ∙ take_min place events) come

module _ (d : Design) (events : List Event) (w : World) (earlier : List Seal) (seal : Seal)
    (come : LeadLawfully d start (take seal.place events) w) where
  -- one that was found stays the first
  grown : (place : ℕ) → IsFirstDiffering d events earlier place → IsFirstDiffering d events (earlier ++ seal ∷ []) place
  grown place h = record {
    earlier = h.earlier;
    seal = h.seal;
    later = h.later ++ seal ∷ [];
    seals_are = ap (λ (l : List Seal). l ++ seal ∷ []) h.seals_are ∙ append_assoc h.earlier (h.seal ∷ h.later) (seal ∷ []);
    before = h.before;
    place_is = h.place_is;
    differs = h.differs;
  }

  pub told_more : (first now : Option ℕ) → KeepsFirst w seal first now → TellsFirst d events earlier first
      → TellsFirst d events (earlier ++ seal ∷ []) now
  told_more (Some place) now same h = subst (TellsFirst d events (earlier ++ seal ∷ [])) (sym same) (grown place h)
  told_more None None is h =
      All-push (IsSealOf d events) earlier seal h (record { here = w; comes = come; is = is })
  told_more None (Some place) other h = record {
    earlier = earlier;
    seal = seal;
    later = [];
    seals_are = refl;
    before = h;
    place_is = other.0;
    differs = record { here = w; comes = come; other = other.1 };
  }

-- ---- what is told of it

pub tells_text : (w : World) (text : List ℕ) (same : Bool) → (IsTrue same ↔ (text ≡ text_of w.rows)) → unfinished w ≡ []
    → TellsText w text same
tells_text w text true is idle = record { idle = idle; same = is.0 refl }
tells_text w text false is idle = inl (λ same. false≢true (is.1 same))

pub keeps_first : (w : World) (seal : Seal) (same : Bool) → TellsText w seal.text same
    → KeepsFirst w seal None (if same then None else Some seal.place)
keeps_first w seal true is = is
keeps_first w seal false other = (refl, other)

-- ---- all states

pub told_all : (d : Design) (events : List Event) (seals : List Seal) (count : ℕ) (first : Option ℕ) → count ≡ length seals
    → TellsFirst d events (take count seals) first → TellsFirst d events seals first
told_all d events seals count first all h =
    subst (λ (l : List Seal). TellsFirst d events l first) (ap (λ n. take n seals) all ∙ take-length seals) h

pub come_all : (d : Design) (events : List Event) (w : World) → LeadLawfully d start (take (length events) events) w
    → LeadLawfully d start events w
come_all d events w come = subst (λ (es : List Event). LeadLawfully d start es w) (take-length events) come

-- ---- why they are refused

pub stops_taking : (d : Design) (events : List Event) (seals : List Seal) (here : World) (error : RecoverError)
    → StopsTaking d events here error → StopsReplaying d events seals here error
stops_taking d events seals here (Unlawful at) why = why
stops_taking d events seals here Memory why = why
stops_taking d events seals here (Differs place) why = absurd why
stops_taking d events seals here (Journal error) why = absurd why
stops_taking d events seals here OtherDesign why = absurd why
stops_taking d events seals here Disk why = absurd why

pub refuses_history : (d : Design) (base : List ℕ) (events : List Event) (seals : List Seal) (here : World) (rows : List Row)
    (error : RecoverError)
    → base ≡ printed d → rows ≡ here.rows → StopsReplaying d events seals here error → RefusesHistory d base events seals error rows
refuses_history d base events seals here rows (Unlawful at) text are why = (text, (here, why, are))
refuses_history d base events seals here rows Memory text are why = inr (text, (here, why, are))
refuses_history d base events seals here rows (Differs place) text are why = (text, (here, why.0, are), why.1)
refuses_history d base events seals here rows (Journal error) text are why = absurd why
refuses_history d base events seals here rows OtherDesign text are why = absurd why
refuses_history d base events seals here rows Disk text are why = absurd why
