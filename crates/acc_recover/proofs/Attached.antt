-- What recovery does behind attaching.
use Rattle.std.proofs.Common.{◌≡◌, ◌≤◌, inl, inr, ℕ, List, [], ◌++◌, length, Option, Some, None, sym, ◌∙◌, ap, subst, refl, arith}
use Rattle.std.specs.Prelude.{IfSome}
use Rattle.std.proofs.lemmas.List.{append-nil}
use Rattle.std.proofs.Math.Seq.{take-length}
use Rattle.acc_io.specs.Causes.{Rose}
use Rattle.acc_base.specs.declared.tables.Row.{Row}
use Rattle.acc_base.specs.declared.designs.Design.{Design}
use Rattle.acc_base.specs.declared.machines.Event.{Event}
use Rattle.acc_base.specs.Lawful.{LeadLawfully}
use Rattle.acc_base.specs.Machine.{World, start}
use Rattle.acc_print.specs.Designs.{printed}
use Rattle.acc_disk.specs.Crashes.{Only, IsCalm}
use Rattle.acc_disk.specs.Moments.{AtAnyMoment}
use Rattle.acc_machine.specs.Replays.{HasCome}
use Rattle.acc_machine.specs.Running.{Running}
use Rattle.acc_wal.specs.Journals.{Counts, CountsAll}
use Rattle.acc_wal.specs.declared.items.Seal.{Seal}
use Rattle.acc_wal.specs.Wals.{Journal, CountsEither, CountsAllEither}
use Rattle.acc_wal.proofs.Moments.{weaker, together}
use Rattle.acc_wal.proofs.Keeping.{calm_is}
use Rattle.acc_wal.proofs.Once.{one_reading, one_of_all}
use Rattle.acc_recover.specs.Recoveries.{IsRecovery, CountsRecovered, CountsAllRecovered}
use Rattle.acc_recover.specs.Answers.{IsReplayed}
use Rattle.acc_recover.specs.Steps.{InStep, TailOnly}
use Rattle.acc_recover.proofs.Comparisons.{counted_rise}
use Rattle.acc_recover.proofs.Ends.{same_events}
use Rattle.acc_recover.specs.Refusals.{IsOfOther, IsUnlawfulAt, IsDifferentAt, RefusesRecovery, AreRowsOnTheWay, HandsBack}
use Rattle.acc_recover.specs.Refusals.{RefusesHistory, FailsToSettle}
use Rattle.acc_recover.specs.declared.errors.RecoverError.{RecoverError}
use Rattle.acc_recover.specs.declared.errors.RecoverError.TheVariants.{Journal as NotRead, OtherDesign, Unlawful, Differs, Disk, Memory}

if_told : (told : Option (List ℕ)) (P Q : List ℕ → Type 0) → ((file : List ℕ) → P file → Q file) → IfSome told P → IfSome told Q
if_told None P Q f p = p
if_told (Some file) P Q f p = f file p

-- ---- where the events aren't done again, or the states refused

all_come : (d : Design) (events : List Event) (last : World) → LeadLawfully d start events last → HasCome d start events last
all_come d events last leads = record {
  count = length events;
  came = subst (λ (es : List Event). LeadLawfully d start es last) (sym (take-length events)) leads;
}

module _ (d : Design) (told : Option (List ℕ)) (base : List ℕ) (version : ℕ) (events : List Event) (seals : List Seal) (rows : List Row)
    (counts : IfSome told (λ file. Counts file base events)) (counts_all : IfSome told (λ file. CountsAll file base version events seals))
  where
    of_text : base ≡ printed d → IfSome told (λ file. Counts file (printed d) events)
    of_text is = subst (λ (b : List ℕ). IfSome told (λ file. Counts file b events)) is counts

    pub history_refused : (error : RecoverError) (fault : Type 0) → RefusesHistory d base events seals error rows →
        RefusesRecovery d error told fault
    history_refused OtherDesign fault why =
        if_told told (λ file. Counts file base events) (λ file. IsOfOther file (printed d))
        (λ file c. record { base = base; events = events; counts = c; other = why.0 }) counts
    history_refused (Unlawful at) fault why =
        if_told told (λ file. Counts file (printed d) events) (λ file. IsUnlawfulAt d file at)
        (λ file c. record { events = events; counts = c; here = why.1.0; first = why.1.1 }) (of_text why.0)
    history_refused (Differs place) fault why =
        if_told told (λ file. CountsAll file base version events seals) (λ file. IsDifferentAt d file place)
        (λ file c. record {
          version = version;
          events = events;
          seals = seals;
          counts = subst (λ (b : List ℕ). CountsAll file b version events seals) why.0 c;
          lawful = (why.1.0, why.1.1);
          first = why.2 (counted_rise file base version events seals c);
        }) counts_all
    history_refused Memory fault why = tt
    history_refused (NotRead e) fault why = absurd why
    history_refused Disk fault why = absurd why

    pub history_back : (error : RecoverError) → RefusesHistory d base events seals error rows → HandsBack error d told rows
    history_back OtherDesign why = why.1
    history_back (Unlawful at) why =
        record {
          found = events;
          counts = of_text why.0;
          within = inl (why.1.0, record { count = at; came = why.1.1.before }, why.1.2);
        }
    history_back (Differs place) why =
        record {
          found = events;
          counts = of_text why.0;
          within = inl (why.1.0, all_come d events why.1.0 why.1.1, why.1.2);
        }
    history_back Memory (inl none) = inl none
    history_back Memory (inr why) = inr (record { found = events; counts = of_text why.0; within = inl why.1 })
    history_back (NotRead e) why = absurd why
    history_back Disk why = absurd why

-- ---- where ending and settling fails

pub settle_refused : (d : Design) (error : RecoverError) (told : Option (List ℕ)) (a b c : ℕ) → a ≤ b → FailsToSettle error (Rose b c) →
    RefusesRecovery d error told (Rose a c)
settle_refused d Disk told a b c le rose = omega (arith, le, rose)
settle_refused d Memory told a b c le why = tt
settle_refused d (NotRead e) told a b c le why = absurd why
settle_refused d OtherDesign told a b c le why = absurd why
settle_refused d (Unlawful at) told a b c le why = absurd why
settle_refused d (Differs place) told a b c le why = absurd why

pub settle_back : (error : RecoverError) (fault : Type 0) (d : Design) (told : Option (List ℕ)) (rows : List Row) →
    FailsToSettle error fault → AreRowsOnTheWay d told rows → HandsBack error d told rows
settle_back Disk fault d told rows why way = inr way
settle_back Memory fault d told rows why way = inr way
settle_back (NotRead e) fault d told rows why way = absurd why
settle_back OtherDesign fault d told rows why way = absurd why
settle_back (Unlawful at) fault d told rows why way = absurd why
settle_back (Differs place) fault d told rows why way = absurd why

-- ---- at any moment

-- a settling of what ends the history
module _ {D : Type 0} (clock : D → ℕ) (left_since : D → ℕ → List ℕ → Type 0) (d : Design) (found : List Event) (last : World)
    (old mid : Journal D) (was : InStep found old) (none : old.tail ≡ []) (tail : TailOnly old mid) (is : InStep last.events mid)
    (r : IsRecovery d found last) where
  found_is : mid.durable ≡ found
  found_is = tail.durable ∙ sym (append-nil old.durable) ∙ ap (λ (l : List Event). old.durable ++ l) (sym none) ∙ was.same

  either : (image : List ℕ) → CountsEither mid.base mid.durable mid.tail image → CountsRecovered d old.base found image
  either image (inl c) = inl (subst (λ (es : List Event). Counts image old.base es) found_is
      (subst (λ (b : List ℕ). Counts image b mid.durable) tail.base c))
  either image (inr c) =
      inr (
        last,
        r,
        subst (λ (es : List Event). Counts image old.base es) is.same
            (subst (λ (b : List ℕ). Counts image b (mid.durable ++ mid.tail)) tail.base c),
      )

  pub one_settling : (new : D) → AtAnyMoment clock left_since mid.disk new (CountsEither mid.base mid.durable mid.tail)
      → AtAnyMoment clock left_since old.disk new (CountsRecovered d old.base found)
  one_settling new run =
      subst (λ x. AtAnyMoment clock left_since x new (CountsRecovered d old.base found)) tail.disk
      (weaker clock left_since mid.disk new (CountsEither mid.base mid.durable mid.tail) (CountsRecovered d old.base found) either run)

  -- no state is added
  states_are : (version : ℕ) (events : List Event) (seals : List Seal) (image : List ℕ) → version ≡ mid.version → seals ≡ mid.seals
      → CountsAll image mid.base version events seals → CountsAll image old.base old.version events old.seals
  states_are version events seals image same are c =
      subst (λ (l : List Seal). CountsAll image old.base old.version events l) (are ∙ tail.seals)
      (subst (λ n. CountsAll image old.base n events seals) (same ∙ tail.version)
      (subst (λ (b : List ℕ). CountsAll image b version events seals) tail.base c))

  either_all : (image : List ℕ) → CountsAllEither mid.base mid.version mid.durable mid.seals mid.tail mid.waiting image
      → CountsAllRecovered d old.base old.version found old.seals image
  either_all image (inl c) =
      inl (subst (λ (es : List Event). CountsAll image old.base old.version es old.seals) found_is
      (states_are mid.version mid.durable mid.seals image refl refl c))
  either_all image (inr c) =
      let none : mid.seals ++ mid.waiting ≡ mid.seals = ap (λ (l : List Seal). mid.seals ++ l) is.quiet ∙ append-nil mid.seals in
      inr (
        last,
        r,
        subst (λ (es : List Event). CountsAll image old.base old.version es old.seals) is.same
            (states_are mid.version (mid.durable ++ mid.tail) (mid.seals ++ mid.waiting) image refl none c),
      )

  pub one_settling_all : (new : D)
      → AtAnyMoment clock left_since mid.disk new (CountsAllEither mid.base mid.version mid.durable mid.seals mid.tail mid.waiting)
      → AtAnyMoment clock left_since old.disk new (CountsAllRecovered d old.base old.version found old.seals)
  one_settling_all new run =
      subst (λ x. AtAnyMoment clock left_since x new (CountsAllRecovered d old.base old.version found old.seals)) tail.disk
      (weaker clock left_since mid.disk new (CountsAllEither mid.base mid.version mid.durable mid.seals mid.tail mid.waiting)
      (CountsAllRecovered d old.base old.version found old.seals) either_all run)

module _ {D : Type 0} (clock : D → ℕ) (left_since : D → ℕ → List ℕ → Type 0) (d : Design) (base : List ℕ) (found : List Event) where
  pub attached : (old new : D) → AtAnyMoment clock left_since old new (λ image. Counts image base found) →
      AtAnyMoment clock left_since old new (CountsRecovered d base found)
  attached old new run = weaker clock left_since old new (λ image. Counts image base found) (CountsRecovered d base found)
      (λ image counts. inl counts) run

  -- what was read is what anybody counts
  and_ended : (file : List ℕ) (old new : D) (wal : Journal D) (state : Running) → IsReplayed d wal state → Counts file base found
      → Counts file wal.base wal.durable → AtAnyMoment clock left_since old wal.disk (λ image. Counts image base found)
      → AtAnyMoment clock left_since wal.disk new (CountsRecovered state.design wal.base state.world.events)
      → AtAnyMoment clock left_since old new (CountsRecovered d base found)
  and_ended file old new wal state replayed c read first second =
      let same = one_reading file wal.base base wal.durable found read c in
      let at_base = subst (λ (b : List ℕ). AtAnyMoment clock left_since wal.disk new (CountsRecovered state.design b state.world.events))
      same.0 second in
      let at_found = subst (λ (es : List Event). AtAnyMoment clock left_since wal.disk new (CountsRecovered state.design base es))
      (same_events d wal state replayed ∙ same.1) at_base in
      let at_design = subst (λ (x : Design). AtAnyMoment clock left_since wal.disk new (CountsRecovered x base found)) replayed.design
      at_found in
      together clock left_since old wal.disk new (CountsRecovered d base found) (attached old wal.disk first) at_design

  -- from the calm disk that attaching leaves
  pub moments_all : (told : D → Option (List ℕ)) (may_leave : D → List ℕ → Type 0) (file : List ℕ) (old new : D) (wal : Journal D)
      (state : Running)
      → IsReplayed d wal state → Counts file base found → Counts file wal.base wal.durable
      → AtAnyMoment clock left_since old wal.disk (λ image. Counts image base found) → IsCalm (told wal.disk) (may_leave wal.disk)
      → ((now : List ℕ) → told wal.disk ≡ Some now → Counts now wal.base wal.durable)
      → ((now : List ℕ) → told wal.disk ≡ Some now → Only now (may_leave wal.disk) → Counts now wal.base state.world.events
      → AtAnyMoment clock left_since wal.disk new (CountsRecovered state.design wal.base state.world.events))
      → AtAnyMoment clock left_since old new (CountsRecovered d base found)
  moments_all told may_leave file old new wal state replayed c read first calm counts then =
      let now = calm_is (told wal.disk) (may_leave wal.disk) calm in
      let here = subst (λ (es : List Event). Counts now.0 wal.base es) (sym (same_events d wal state replayed)) (counts now.0 now.1) in
      and_ended file old new wal state replayed c read first (then now.0 now.1 now.2 here)

-- the same, with the states that were there
module _ {D : Type 0} (clock : D → ℕ) (left_since : D → ℕ → List ℕ → Type 0) (d : Design) (base : List ℕ) (version : ℕ)
    (found : List Event) (seals : List Seal) where
  pub attached_all : (old new : D) → AtAnyMoment clock left_since old new (λ image. CountsAll image base version found seals) →
      AtAnyMoment clock left_since old new (CountsAllRecovered d base version found seals)
  attached_all old new run = weaker clock left_since old new (λ image. CountsAll image base version found seals)
      (CountsAllRecovered d base version found seals) (λ image counts. inl counts) run

  and_ended_all : (file : List ℕ) (old new : D) (wal : Journal D) (state : Running) → IsReplayed d wal state
      → CountsAll file base version found seals → CountsAll file wal.base wal.version wal.durable wal.seals
      → AtAnyMoment clock left_since old wal.disk (λ image. CountsAll image base version found seals)
      → AtAnyMoment clock left_since wal.disk new (CountsAllRecovered state.design wal.base wal.version state.world.events wal.seals)
      → AtAnyMoment clock left_since old new (CountsAllRecovered d base version found seals)
  and_ended_all file old new wal state replayed c read first second =
      let same = one_of_all file wal.base base wal.version version wal.durable found wal.seals seals read c in
      let at_base = subst (λ (b : List ℕ). AtAnyMoment clock left_since wal.disk new
      (CountsAllRecovered state.design b wal.version state.world.events wal.seals)) same.0 second in
      let at_version = subst (λ n. AtAnyMoment clock left_since wal.disk new
      (CountsAllRecovered state.design base n state.world.events wal.seals)) same.1 at_base in
      let at_found = subst (λ (es : List Event). AtAnyMoment clock left_since wal.disk new
      (CountsAllRecovered state.design base version es wal.seals)) (same_events d wal state replayed ∙ same.2) at_version in
      let at_seals = subst (λ (l : List Seal). AtAnyMoment clock left_since wal.disk new
      (CountsAllRecovered state.design base version found l)) same.3 at_found in
      let at_design = subst (λ (x : Design). AtAnyMoment clock left_since wal.disk new (CountsAllRecovered x base version found seals))
      replayed.design at_seals in
      together clock left_since old wal.disk new (CountsAllRecovered d base version found seals) (attached_all old wal.disk first) at_design

  -- from the calm disk that attaching leaves
  pub states_stay : (told : D → Option (List ℕ)) (may_leave : D → List ℕ → Type 0) (file : List ℕ) (old new : D) (wal : Journal D)
      (state : Running)
      → IsReplayed d wal state → CountsAll file base version found seals → CountsAll file wal.base wal.version wal.durable wal.seals
      → AtAnyMoment clock left_since old wal.disk (λ image. CountsAll image base version found seals)
      → IsCalm (told wal.disk) (may_leave wal.disk)
      → ((now : List ℕ) → told wal.disk ≡ Some now → CountsAll now wal.base wal.version wal.durable wal.seals)
      → ((now : List ℕ) → told wal.disk ≡ Some now → Only now (may_leave wal.disk)
      → CountsAll now wal.base wal.version state.world.events wal.seals
      → AtAnyMoment clock left_since wal.disk new (CountsAllRecovered state.design wal.base wal.version state.world.events wal.seals))
      → AtAnyMoment clock left_since old new (CountsAllRecovered d base version found seals)
  states_stay told may_leave file old new wal state replayed c read first calm counts then =
      let now = calm_is (told wal.disk) (may_leave wal.disk) calm in
      let here = subst (λ (es : List Event). CountsAll now.0 wal.base wal.version es wal.seals) (sym (same_events d wal state replayed))
      (counts now.0 now.1) in
      and_ended_all file old new wal state replayed c read first (then now.0 now.1 now.2 here)
