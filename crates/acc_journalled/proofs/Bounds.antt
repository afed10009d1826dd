-- What recovery makes of a journal's events fits a new journal: each number fits its field, and all are spelled in few bytes.
use Rattle.std.proofs.Common.{◌≡◌, ◌≤◌, ◌<◌, ◌+◌, ◌*◌, ◌^◌, ◌++◌, ℕ, zero, suc, List, [], ◌∷◌, length, Option, Some, None, refl, sym}
use Rattle.std.proofs.Common.{ap, subst, ◌∙◌, arith}
use Rattle.std.proofs.Common.{length-append}
use Rattle.std.specs.Prelude.{All, Bool, true, false, nat_le, if◌then◌else◌}
use Rattle.std.specs.List.{flat_map}
use Rattle.std.specs.Int.{w32, to_be_bytes}
use Rattle.std.proofs.lemmas.Bool.Decides.{nat_tests}
use Rattle.std.proofs.lemmas.Grind.{flat_map-append}
use Rattle.std.proofs.lemmas.List.Elements.{All-nil, All-cons, All-head, All-tail, All-append}
use Rattle.std.proofs.lemmas.Option.{same_Some}
use Rattle.acc_base.specs.declared.designs.Design.{Design}
use Rattle.acc_base.specs.declared.machines.Event.{Event as TheEvent}
use Rattle.acc_base.specs.declared.tables.Row.{Row}
use Rattle.acc_base.specs.Compensation.{Recovers}
use Rattle.acc_base.specs.Invariant.{IsSteady}
use Rattle.acc_base.specs.Lawful.{IsLawful}
use Rattle.acc_base.specs.Machine.{World}
use Rattle.acc_ckpt.specs.Texts.{text_of}
use Rattle.acc_engine.specs.declared.sealing.TheConstants.{LONGEST_SEAL}
use Rattle.acc_engine.specs.Sealing.{TellsShort}
use Rattle.acc_lift.proofs.FormRules.{run_rules}
use Rattle.acc_lift.proofs.Recovering.{recovers_lawfully}
use Rattle.acc_lift.specs.Acceptance.{IsAccepted}
use Rattle.acc_machine.specs.Kept.{IsKept}
use Rattle.acc_machine.proofs.Keeping.{kept_after}
use Rattle.acc_print.specs.Designs.{printed}
use Rattle.acc_wal.specs.Creating.{seals_behind}
use Rattle.acc_wal.specs.Items.{item_body, item_bytes, ItemFits, events_of, seal_bytes}
use Rattle.acc_wal.specs.Journals.{batch, front, IsBatch, Counts}
use Rattle.acc_wal.specs.Spellings.{body, event_bytes, Fits}
use Rattle.acc_wal.specs.declared.items.Item.{Item}
use Rattle.acc_wal.specs.declared.items.Item.TheVariants.{Event, State}
use Rattle.acc_wal.proofs.Places.{items_long}
use Rattle.acc_recover.proofs.Ends.{kept_run}
use Rattle.acc_recover.proofs.NextEvents.{is_brief, few}
use Rattle.acc_journalled.specs.Migrating.{text_to_put}
use Rattle.acc_journalled.specs.Recovering.{IsRecoveredFrom}
use Rattle.acc_journalled.proofs.Numbered.{recovered_steady}

-- ---- the events of a journal

events_fit : (version : ℕ) (items : List Item) → All (ItemFits version) items → All Fits (events_of items)
unfolding ItemFits
events_fit version [] fits = All-nil Fits
events_fit version (Event event ∷ items) fits =
    All-cons Fits event (events_of items) (All-head (ItemFits version) (Event event) items fits)
    (events_fit version items (All-tail (ItemFits version) (Event event) items fits))
events_fit version (State text ∷ items) fits =
    events_fit version items (All-tail (ItemFits version) (State text) items fits)

abbrev all_of : List (List Item) → List Item
all_of batches = flat_map (λ batch. batch) batches

items_fit : (version : ℕ) (batches : List (List Item)) → All (IsBatch version) batches → All (ItemFits version) (all_of batches)
items_fit version [] fits = All-nil (ItemFits version)
items_fit version (items ∷ batches) fits =
    All-append (ItemFits version) items (all_of batches) (All-head (IsBatch version) items batches fits).fits
    (items_fit version batches (All-tail (IsBatch version) items batches fits))

-- a batch's items are shorter than the batch
items_short : (batches : List (List Item)) → length (item_body (all_of batches)) ≤ length (flat_map batch batches)
unfolding item_body batch
items_short [] = omega arith
items_short (items ∷ batches) = omega (
  arith,
  items_short batches,
  ap length (flat_map-append item_bytes items (all_of batches)),
  length-append (flat_map item_bytes items) (flat_map item_bytes (all_of batches)),
  length-append (0xA5 ∷ to_be_bytes w32 (length (flat_map item_bytes items)) ++ flat_map item_bytes items) (flat_map batch batches),
  length-append (to_be_bytes w32 (length (flat_map item_bytes items))) (flat_map item_bytes items),
)

batches_short : (version : ℕ) (base : List ℕ) (batches : List (List Item)) (rest : List ℕ)
    → length (flat_map batch batches) ≤ length (front version base batches ++ rest)
unfolding front
batches_short version base batches rest = omega (
  arith,
  length-append (0xA5 ∷ version ∷ to_be_bytes w32 (length base) ++ base ++ flat_map batch batches) rest,
  length-append (0xA5 ∷ version ∷ to_be_bytes w32 (length base) ++ base) (flat_map batch batches),
)

module _ (bytes base : List ℕ) (events : List TheEvent) (c : Counts bytes base events) where
  is_all : events ≡ events_of (all_of c.counts.batches)
  is_all = c.events_are ∙ ap events_of c.counts.items_are

  counted_fit : All Fits events
  counted_fit =
      subst (All Fits) (sym is_all)
      (events_fit c.version (all_of c.counts.batches) (items_fit c.version c.counts.batches c.counts.batches_fit))

  counted_short : length (body events) ≤ length bytes
  counted_short = omega (
    arith,
    ap (λ (es : List TheEvent). length (body es)) is_all,
    items_long 0 (all_of c.counts.batches),
    items_short c.counts.batches,
    batches_short c.version base c.counts.batches c.counts.rest,
    ap length c.counts.bytes_are,
  )

-- ---- the events of a recovery

body_more : (a b : List TheEvent) → length (body (a ++ b)) ≡ length (body a) + length (body b)
unfolding body
body_more a b = ap length (flat_map-append event_bytes a b) ∙ length-append (flat_map event_bytes a) (flat_map event_bytes b)

-- so many, each fits, and they are spelled in few bytes
abbrev AreBrief : List TheEvent → Type 0
AreBrief events = All Fits events × (length (body events) ≤ 14 * length events)

brief_more : (e : TheEvent) (rest : List TheEvent) → Fits e × (length (event_bytes e) ≤ 14) → AreBrief rest → AreBrief (e ∷ rest)
unfolding body
brief_more e rest one more = (
  All-cons Fits e rest one.0 more.0,
  omega (arith, one.1, more.1, length-append (event_bytes e) (flat_map event_bytes rest)),
)

brief_none : AreBrief []
unfolding body
brief_none = (All-nil Fits, omega arith)

all_brief : (d : Design) (events : List TheEvent) (w last : World) → IsKept d w → Recovers d w events last → AreBrief events
all_brief d [] w last kept r = brief_none
all_brief d (e ∷ rest) w last kept r =
    let leads = (recovers_lawfully d kept.accepted.sound (run_rules d kept.accepted.formed) (e ∷ rest) w last kept.good.steady r).0 in
    let lawful : IsLawful d w e r.1.0 = subst (IsLawful d w e) (same_Some leads.0 r.1.0 (sym leads.1.event ∙ r.1.1)) leads.1 in
    brief_more e rest (is_brief d w kept.good.steady e r.0)
    (all_brief d rest r.1.0 last (kept_after d d w r.1.0 e kept refl lawful) r.1.2)

-- ---- the text behind them

put_by : (w : World) (b : Bool) → nat_le (length (text_of w.rows)) LONGEST_SEAL ≡ b → (n : ℕ)
    → seal_bytes (seals_behind n (if b then Some (text_of w.rows) else None)) ≤ 5 + 2 ^ 22
put_by w true e n = grind (arith, nat_tests)
put_by w false e n = omega arith

put_short : (w : World) (n : ℕ) → seal_bytes (seals_behind n (text_to_put w)) ≤ 5 + 2 ^ 22
put_short w n = put_by w (nat_le (length (text_of w.rows)) LONGEST_SEAL) refl n

-- no rows have a short text
short_by : (rows : List Row) (b : Bool) → rows ≡ [] → nat_le (length (text_of rows)) LONGEST_SEAL ≡ b → (n : ℕ)
    → 0 < length (seals_behind n (if b then Some (text_of rows) else None))
unfolding text_of
short_by [] true none e n = omega arith
short_by [] false none e n = absurd cc
short_by (row ∷ rows) b none e n = absurd cc

-- ---- all of it

pub base_short : (d : Design) (old : List ℕ) (last : World) → IsRecoveredFrom d (Some old) last → length (printed d) < 2 ^ 32
base_short d old last r = r.counts.counts.base_fits

module _ (d : Design) (old : List ℕ) (last : World) (accepted : IsAccepted d) (r : IsRecoveredFrom d (Some old) last) where
  kept_first : IsKept d r.recovery.first
  kept_first = kept_run d d r.found r.recovery.first accepted refl r.recovery.comes

  steady : IsSteady d last
  steady = recovered_steady d r.found last accepted r.recovery

  more_brief : AreBrief r.recovery.more
  more_brief = all_brief d r.recovery.more r.recovery.first last kept_first r.recovery.recovers

  pub all_fit : All Fits last.events
  all_fit =
      subst (All Fits) (sym r.recovery.events_are)
      (All-append Fits r.found r.recovery.more (counted_fit old (printed d) r.found r.counts) more_brief.0)

  pub all_short : length old ≤ 2 ^ 26
      → length (body last.events) + seal_bytes (seals_behind (length last.events) (text_to_put last)) < 2 ^ 32
  all_short short =
      let brief = more_brief.1 in
      omega (
        arith,
        short,
        brief,
        counted_short old (printed d) r.found r.counts,
        body_more r.found r.recovery.more,
        ap (λ (es : List TheEvent). length (body es)) r.recovery.events_are,
        ap length r.recovery.events_are,
        length-append r.found r.recovery.more,
        few d last steady,
        put_short last (length last.events),
      )

  -- the new journal begins with something
  pub not_empty : 0 < length last.events + length (seals_behind (length last.events) (text_to_put last))
  not_empty = by (length last.events) refl
    where
      no_rows : (rows : List Row) → length rows ≤ 0 → rows ≡ []
      no_rows [] le = refl
      no_rows (row ∷ rows) le = absurd (omega (arith, le))

      by : (n : ℕ) → length last.events ≡ n → 0 < length last.events + length (seals_behind (length last.events) (text_to_put last))
      by zero is =
          let rows = no_rows last.rows (let few_rows = steady.few in omega (arith, few_rows, is)) in
          let some = short_by last.rows (nat_le (length (text_of last.rows)) LONGEST_SEAL) rows refl (length last.events) in
          omega (arith, some)
      by (suc n) is = omega (arith, is)

-- ---- the code's text is that of the definition

pub short_told : (w : World) (text : Option (List ℕ)) → TellsShort w.rows text → text ≡ text_to_put w
short_told w text tells = by text (nat_le (length (text_of w.rows)) LONGEST_SEAL) refl tells
  where
    by : (text : Option (List ℕ)) (b : Bool) → nat_le (length (text_of w.rows)) LONGEST_SEAL ≡ b → TellsShort w.rows text
        → text ≡ (if b then Some (text_of w.rows) else None)
    by (Some t) true e tells = ap Some tells.0
    by (Some t) false e tells = let same = ap length tells.0 in let le = tells.1 in absurd (grind (arith, nat_tests))
    by None true e tells = absurd (grind (arith, nat_tests))
    by None false e tells = refl
