-- What the next item of a stream makes of a replica.
use Rattle.std.proofs.Common.{◌≡◌, ◌≢◌, ℕ, List, [], ◌∷◌, ◌++◌, length, take, drop, Option, Some, None, refl, sym, ap, subst, ◌∙◌}
use Rattle.std.specs.Prelude.{Ok, Err, IfSome, IsSome, slice_get}
use Rattle.std.proofs.lemmas.List.{append-nil}
use Rattle.std.proofs.lemmas.Option.{same_Some}
use Rattle.acc_base.specs.declared.designs.Design.{Design}
use Rattle.acc_base.specs.Machine.{World, start}
use Rattle.acc_print.specs.Designs.{printed}
use Rattle.acc_machine.specs.Running.{Running}
use Rattle.acc_wal.specs.Items.{events_of}
use Rattle.acc_wal.specs.declared.items.Item.{Item}
use Rattle.acc_wal.specs.declared.items.Item.TheVariants.{Event, State}
use Rattle.acc_stream.specs.declared.faults.Fault.{Fault}
use Rattle.acc_stream.specs.declared.faults.Fault.TheVariants as faults
use Rattle.acc_stream.specs.Streams.{IsStream}
use Rattle.acc_stream.specs.Following.{Streamed, AddsItems, Follows as StreamFollows}
use Rattle.acc_replica.specs.declared.advancing.Step.TheVariants.{Passed, NotYet as NoneWaits, Refused, Lacks}
use Rattle.acc_replica.specs.declared.errors.Advanced.{Advanced}
use Rattle.acc_replica.specs.declared.errors.Advanced.TheVariants.{Event as AnEvent, Seal as ASeal, NotYet}
use Rattle.acc_replica.specs.declared.errors.ReplicaError.{ReplicaError}
use Rattle.acc_replica.specs.declared.errors.ReplicaError.TheVariants.{NotJournal, OtherVersion, OtherDesign, Damaged, Past, Unlawful}
use Rattle.acc_replica.specs.declared.errors.ReplicaError.TheVariants.{Differs, Memory}
use Rattle.acc_replica.specs.Coming.{Come}
use Rattle.acc_replica.specs.Ends.{HasAll, IsNextAt, Ends}
use Rattle.acc_replica.specs.Steps.{error_for, IsDone, IsRefusedFor, IsDueBy, IsDue, DoesFirst, DoesNext}
use Rattle.acc_replica.specs.Replicas.{Replicated, Follows, Keeps, Advances, TellsEnd}
use Rattle.acc_replica.proofs.Comings.{come_logs, come_event, come_state}
use Rattle.acc_replica.proofs.OneEnd.{finished}

-- ---- the first of some items

first_is : (items : List Item) (item : Item) → slice_get items 0 ≡ Some item → items ≡ item ∷ drop 1 items
first_is [] item is = absurd cc
first_is (x ∷ items) item is = ap (λ (i : Item). i ∷ items) (same_Some x item is)

none_first : (items : List Item) → slice_get items 0 ≡ None → items ≡ []
none_first [] is = refl
none_first (x ∷ items) is = absurd cc

first_stays : (items more : List Item) (item : Item) → slice_get items 0 ≡ Some item → slice_get (items ++ more) 0 ≡ Some item
first_stays [] more item is = absurd cc
first_stays (x ∷ items) more item is = is

-- ---- refusals

module _ (fed : List ℕ) (r : Replicated) (f : Follows fed r) where
  -- with the printed text as the base
  stream_is : IsStream (printed r.design) fed (f.done ++ r.stream.waiting) r.stream.ended
  stream_is = subst (λ (b : List ℕ). IsStream b fed (f.done ++ r.stream.waiting) r.stream.ended) f.base_is f.stream.stream

  -- the first item that waits is the next
  next_at : (item : Item) → slice_get r.stream.waiting 0 ≡ Some item → IsNextAt r.design fed f.done item r.world
  next_at item is = record {
    later = drop 1 r.stream.waiting;
    whole = (
      r.stream.ended,
      subst (λ (l : List Item). IsStream (printed r.design) fed (f.done ++ l) r.stream.ended)
          (first_is r.stream.waiting item is) stream_is,
    );
    come = f.come;
  }

  -- where none waits, all have come
  all_come : slice_get r.stream.waiting 0 ≡ None → HasAll r.design fed r.stream.ended r.world
  all_come none = record {
    items = f.done;
    stream = subst (λ (l : List Item). IsStream (printed r.design) fed l r.stream.ended)
        (ap (λ (l : List Item). f.done ++ l) (none_first r.stream.waiting none) ∙ append-nil f.done) stream_is;
    come = f.come;
  }

  places : length r.world.events ≡ length (events_of f.done)
  places = ap length (come_logs r.design f.done r.world f.come)

  -- a refusal that is due is that of the bytes
  refused_item : (item : Item) (error : ReplicaError) → slice_get r.stream.waiting 0 ≡ Some item → IsRefusedFor r.design r.world item error →
      Ends r.design fed (Some error) r.world
  refused_item (Event event) (Unlawful at) is why =
      record { done = f.done; event = event; next = next_at (Event event) is; unlawful = why.1; at_is = why.0 ∙ places }
  refused_item (State text) (Differs place) is why =
      record { done = f.done; text = text; next = next_at (State text) is; other = why.1; place_is = why.0 ∙ places }
  refused_item (Event event) NotJournal is why = absurd why
  refused_item (Event event) (OtherVersion version) is why = absurd why
  refused_item (Event event) OtherDesign is why = absurd why
  refused_item (Event event) (Damaged place) is why = absurd why
  refused_item (Event event) (Past place) is why = absurd why
  refused_item (Event event) (Differs place) is why = absurd why
  refused_item (Event event) Memory is why = absurd why
  refused_item (State text) NotJournal is why = absurd why
  refused_item (State text) (OtherVersion version) is why = absurd why
  refused_item (State text) OtherDesign is why = absurd why
  refused_item (State text) (Damaged place) is why = absurd why
  refused_item (State text) (Past place) is why = absurd why
  refused_item (State text) (Unlawful at) is why = absurd why
  refused_item (State text) Memory is why = absurd why

  due_by : (first : Option Item) (ended : Option Fault) (error : ReplicaError) → slice_get r.stream.waiting 0 ≡ first →
      r.stream.ended ≡ ended → IsDueBy r.design r.world first ended error → Ends r.design fed (Some error) r.world
  due_by (Some item) ended error is end due = refused_item item error is due
  due_by None (Some fault) error none end due =
      subst (λ (e : ReplicaError). Ends r.design fed (Some e) r.world) (sym due)
      (finished r.design fed fault r.world (subst (λ o. HasAll r.design fed o r.world) end (all_come none)))
  due_by None None error none end due = absurd due

  due_ends : (error : ReplicaError) → IsDue r.design r.world r.stream error → Ends r.design fed (Some error) r.world
  due_ends error due = due_by (slice_get r.stream.waiting 0) r.stream.ended error refl refl due

  -- where none waits and there is no fault, that is the end
  not_yet : slice_get r.stream.waiting 0 ≡ None → r.stream.ended ≡ None → Ends r.design fed None r.world
  not_yet none open_ended = subst (λ o. HasAll r.design fed o r.world) open_ended (all_come none)

-- a refusal that isn't for memory
keeps : (old new : Replicated) (error : ReplicaError) → error ≢ Memory → Keeps old new error → Advances old new (Err error)
keeps old new NotJournal lasts k = k
keeps old new (OtherVersion version) lasts k = k
keeps old new OtherDesign lasts k = k
keeps old new (Damaged place) lasts k = k
keeps old new (Past place) lasts k = k
keeps old new (Unlawful at) lasts k = k
keeps old new (Differs place) lasts k = k
keeps old new Memory lasts k = absurd (lasts refl)

tells : (d : Design) (fed : List ℕ) (here : World) (error : ReplicaError) → Ends d fed (Some error) here → TellsEnd d fed (Err error) here
tells d fed here NotJournal e = e
tells d fed here (OtherVersion version) e = e
tells d fed here OtherDesign e = e
tells d fed here (Damaged place) e = e
tells d fed here (Past place) e = e
tells d fed here (Unlawful at) e = e
tells d fed here (Differs place) e = e
tells d fed here Memory e = tt

fault_lasts : (fault : Fault) → error_for fault ≢ Memory
fault_lasts faults.NotJournal is = cc
fault_lasts (faults.OtherVersion version) is = cc
fault_lasts faults.OtherBase is = cc
fault_lasts (faults.Damaged place) is = cc
fault_lasts (faults.Past place) is = cc

refused_lasts : (d : Design) (w : World) (item : Item) → IsRefusedFor d w item Memory → ⊥
refused_lasts d w (Event event) due = due
refused_lasts d w (State text) due = due

due_lasts : (d : Design) (w : World) (first : Option Item) (ended : Option Fault) (error : ReplicaError) → IsDueBy d w first ended error →
    error ≢ Memory
due_lasts d w (Some item) ended error due is = refused_lasts d w item (subst (λ (e : ReplicaError). IsRefusedFor d w item e) is due)
due_lasts d w None (Some fault) error due is = fault_lasts fault (sym due ∙ is)
due_lasts d w None None error due is = due

-- one that is due stays so, whatever is fed
stays_by : (d : Design) (w : World) (s now : Streamed) (error : ReplicaError) (first : Option Item) (ended : Option Fault) →
    AddsItems s now → (IsSome s.ended → now ≡ s) → slice_get s.waiting 0 ≡ first → s.ended ≡ ended → IsDueBy d w first ended error →
    IsDue d w now error
stays_by d w s now error (Some item) ended adds stay is end due =
    let first : slice_get now.waiting 0 ≡ Some item =
    ap (λ (l : List Item). slice_get l 0) adds.waiting_are ∙ first_stays s.waiting adds.more item is in
    subst (λ (o : Option Item). IsDueBy d w o now.ended error) (sym first) due
stays_by d w s now error None (Some fault) adds stay is end due =
    subst (λ (z : Streamed). IsDue d w z error) (sym (stay (subst (λ (o : Option Fault). IsSome o) (sym end) refl)))
    (subst (λ (o : Option Item). IsDueBy d w o s.ended error) (sym is)
    (subst (λ o. IsDueBy d w None o error) (sym end) due))
stays_by d w s now error None None adds stay is end due = absurd due

due_stays : (d : Design) (w : World) (s now : Streamed) (refused : Option ReplicaError) → AddsItems s now → (IsSome s.ended → now ≡ s) →
    IfSome refused (IsDue d w s) → IfSome refused (IsDue d w now)
due_stays d w s now None adds stay due = tt
due_stays d w s now (Some error) adds stay due =
    stays_by d w s now error (slice_get s.waiting 0) s.ended adds stay refl refl due

-- ---- items that are done

abbrev pub running : Replicated → Running
running r = record { design = r.design; world = r.world }

-- the replica behind one
abbrev pub passed : Replicated → Running → Streamed → Replicated
passed old new stream = record { design = new.design; world = new.world; stream = stream; refused = old.refused }

-- what an item that is done leads to
item_come : (old new : Running) (item : Item) (told : Advanced) (done : List Item) → Come old.design start done old.world →
    IsDone old new item told → (new.design ≡ old.design) × Come old.design start (done ++ item ∷ []) new.world
item_come old new (Event event) AnEvent done come is = (is.0, come_event old.design done start old.world new.world event come is.1)
item_come old new (State text) ASeal done come is = (
  ap (λ (r : Running). r.design) is.0,
  subst (λ (w : World). Come old.design start (done ++ State text ∷ []) w) (sym (ap (λ (r : Running). r.world) is.0))
      (come_state old.design done start old.world text come is.1),
)
item_come old new (Event event) ASeal done come is = absurd is
item_come old new (Event event) NotYet done come is = absurd is
item_come old new (State text) AnEvent done come is = absurd is
item_come old new (State text) NotYet done come is = absurd is

module _ (old : Replicated) (new : Running) (later : Streamed) (skipped : later ≡ record old.stream { waiting = drop 1 old.stream.waiting })
  where
    waits : later.waiting ≡ drop 1 old.stream.waiting
    waits = ap (λ (s : Streamed). s.waiting) skipped

    tells_item : (item : Item) (told : Advanced) → slice_get old.stream.waiting 0 ≡ Some item → IsDone (running old) new item told →
        Advances old (passed old new later) (Ok told)
    tells_item (Event event) AnEvent is done = record {
      event = event;
      next = first_is old.stream.waiting (Event event) is ∙ ap (λ (l : List Item). Event event ∷ l) (sym waits);
      lawful = done.1;
      refused_is = refl;
    }
    tells_item (State text) ASeal is done = record {
      text = text;
      next = first_is old.stream.waiting (State text) is ∙ ap (λ (l : List Item). State text ∷ l) (sym waits);
      is = done.1;
      world_is = ap (λ (r : Running). r.world) done.0;
      refused_is = refl;
    }
    tells_item (Event event) ASeal is done = absurd done
    tells_item (Event event) NotYet is done = absurd done
    tells_item (State text) AnEvent is done = absurd done
    tells_item (State text) NotYet is done = absurd done

    tells_by : (first : Option Item) (ended : Option Fault) (told : Advanced) → slice_get old.stream.waiting 0 ≡ first →
        DoesFirst (running old) new first ended (Passed told) → Advances old (passed old new later) (Ok told)
    tells_by (Some item) ended told is done = tells_item item told is done
    tells_by None (Some fault) told is done = absurd (let e = done.1 in cc)
    tells_by None None told is done = absurd (let e = done.1 in cc)

    pub tells_passed : (told : Advanced) → DoesNext (running old) new old.stream (Passed told) →
        Advances old (passed old new later) (Ok told)
    tells_passed told done = tells_by (slice_get old.stream.waiting 0) old.stream.ended told refl done

    module _ (fed : List ℕ) (fresh : old.refused ≡ None) (f : Follows fed old)
        (on : StreamFollows fed (f.done ++ take 1 old.stream.waiting) later)
      where
        follows_item : (item : Item) (told : Advanced) → slice_get old.stream.waiting 0 ≡ Some item → IsDone (running old) new item told →
            Follows fed (passed old new later)
        follows_item item told is done =
            let come = item_come (running old) new item told f.done f.come done in
            let one : take 1 old.stream.waiting ≡ item ∷ [] = ap (take 1) (first_is old.stream.waiting item is) in
            record {
              done = f.done ++ item ∷ [];
              stream = subst (λ (l : List Item). StreamFollows fed (f.done ++ l) later) one on;
              base_is = ap (λ (s : Streamed). s.base) skipped ∙ f.base_is ∙ ap printed (sym come.0);
              come = subst (λ (d : Design). Come d start (f.done ++ item ∷ []) new.world) (sym come.0) come.1;
              refusal = subst (λ (o : Option ReplicaError). IfSome o (IsDue new.design new.world later)) (sym fresh) tt;
            }

        follows_by : (first : Option Item) (ended : Option Fault) (told : Advanced) → slice_get old.stream.waiting 0 ≡ first →
            DoesFirst (running old) new first ended (Passed told) → Follows fed (passed old new later)
        follows_by (Some item) ended told is done = follows_item item told is done
        follows_by None (Some fault) told is done = absurd (let e = done.1 in cc)
        follows_by None None told is done = absurd (let e = done.1 in cc)

        pub follows_passed : (told : Advanced) → DoesNext (running old) new old.stream (Passed told) → Follows fed (passed old new later)
        follows_passed told done = follows_by (slice_get old.stream.waiting 0) old.stream.ended told refl done

-- what an item that is done tells of the end: nothing
pub done_tells : (old new : Running) (s : Streamed) (d : Design) (fed : List ℕ) (here : World) (told : Advanced) →
    DoesNext old new s (Passed told) → TellsEnd d fed (Ok told) here
done_tells old new s d fed here told done = by (slice_get s.waiting 0) s.ended told done
  where
    by : (first : Option Item) (ended : Option Fault) (told : Advanced) → DoesFirst old new first ended (Passed told) → TellsEnd d fed (Ok told) here
    by first ended AnEvent does = tt
    by first ended ASeal does = tt
    by (Some (Event event)) ended NotYet does = absurd does
    by (Some (State text)) ended NotYet does = absurd does
    by None (Some fault) NotYet does = absurd (let e = does.1 in cc)
    by None None NotYet does = absurd (let e = does.1 in cc)

-- ---- what is told where none is done

module _ (old new : Running) (s : Streamed) where
  refused_by : (first : Option Item) (ended : Option Fault) (error : ReplicaError) → DoesFirst old new first ended (Refused error) →
      (new ≡ old) × IsDueBy old.design old.world first ended error
  refused_by (Some item) ended error does = does
  refused_by None (Some fault) error does = (does.0, let e = does.1 in cc)
  refused_by None None error does = absurd (let e = does.1 in cc)

  refused_is : (error : ReplicaError) → DoesNext old new s (Refused error) → (new ≡ old) × IsDue old.design old.world s error
  refused_is error does = refused_by (slice_get s.waiting 0) s.ended error does

  -- such a refusal isn't for memory
  pub refusal_lasts : (error : ReplicaError) → DoesNext old new s (Refused error) → error ≢ Memory
  refusal_lasts error does =
      due_lasts old.design old.world (slice_get s.waiting 0) s.ended error (refused_is error does).1

  none_by : (first : Option Item) (ended : Option Fault) → DoesFirst old new first ended NoneWaits → (new ≡ old) × (first ≡ None) × (ended ≡ None)
  none_by (Some item) ended does = absurd does
  none_by None (Some fault) does = absurd (let e = does.1 in cc)
  none_by None None does = (does.0, refl, refl)

  none_is : DoesNext old new s NoneWaits → (new ≡ old) × (slice_get s.waiting 0 ≡ None) × (s.ended ≡ None)
  none_is does = none_by (slice_get s.waiting 0) s.ended does

  lacks_by : (first : Option Item) (ended : Option Fault) → slice_get s.waiting 0 ≡ first → DoesFirst old new first ended Lacks →
      (new ≡ old) × (s.waiting ≢ [])
  lacks_by (Some item) ended is does = (does, λ none. let e = sym is ∙ ap (λ (l : List Item). slice_get l 0) none in cc)
  lacks_by None (Some fault) is does = absurd (let e = does.1 in cc)
  lacks_by None None is does = absurd (let e = does.1 in cc)

  lacks_is : DoesNext old new s Lacks → (new ≡ old) × (s.waiting ≢ [])
  lacks_is does = lacks_by (slice_get s.waiting 0) s.ended refl does

-- ---- a refusal that is kept

pub refused_again : (r : Replicated) (error : ReplicaError) → r.refused ≢ Some Memory → r.refused ≡ Some error → Advances r r (Err error)
refused_again r error lasts is =
    keeps r r error (λ same. lasts (is ∙ ap (λ (e : ReplicaError). Some e) same)) (ap (λ (o : Option ReplicaError). record r { refused = o }) is)

pub refused_end : (fed : List ℕ) (r : Replicated) (error : ReplicaError) → r.refused ≡ Some error → Follows fed r →
    TellsEnd r.design fed (Err error) r.world
refused_end fed r error is f =
    tells r.design fed r.world error
    (due_ends fed r f error (subst (λ (o : Option ReplicaError). IfSome o (IsDue r.design r.world r.stream)) is f.refusal))

-- ---- the same of a replica that is shown as another

module _ (old now : Replicated) (new : Running) (is : old ≡ now) where
  pub did_passed : (later : Streamed) (told : Advanced) → later ≡ record old.stream { waiting = drop 1 old.stream.waiting } →
      DoesNext (running old) new old.stream (Passed told) → Advances now (passed old new later) (Ok told)
  did_passed later told skipped done =
      subst (λ (r : Replicated). Advances r (passed old new later) (Ok told)) is (tells_passed old new later skipped told done)

  pub did_none : DoesNext (running old) new old.stream NoneWaits → Advances now (passed old new old.stream) (Ok NotYet)
  did_none does =
      let none = none_is (running old) new old.stream does in
      subst (λ (x : Running). Advances now (passed old x old.stream) (Ok NotYet)) (sym none.0)
      (subst (λ (r : Replicated). Advances r old (Ok NotYet)) is (refl, none_first old.stream.waiting none.1))

  pub did_lack : DoesNext (running old) new old.stream Lacks → Advances now (passed old new old.stream) (Err Memory)
  did_lack does =
      let lacks = lacks_is (running old) new old.stream does in
      subst (λ (x : Running). Advances now (passed old x old.stream) (Err Memory)) (sym lacks.0)
      (subst (λ (r : Replicated). Advances r old (Err Memory)) is (refl, lacks.1))

  pub did_refuse : (error : ReplicaError) → DoesNext (running old) new old.stream (Refused error) →
      Advances now (record (passed old new old.stream) { refused = Some error }) (Err error)
  did_refuse error does =
      let due = refused_is (running old) new old.stream error does in
      subst (λ (x : Running). Advances now (record (passed old x old.stream) { refused = Some error }) (Err error)) (sym due.0)
      (subst (λ (r : Replicated). Advances r (record old { refused = Some error }) (Err error)) is
      (keeps old (record old { refused = Some error }) error (refusal_lasts (running old) new old.stream error does) refl))

  module _ (fed : List ℕ) (f : Follows fed now) where
    follows : Follows fed old
    follows = subst (λ (r : Replicated). Follows fed r) (sym is) f

    pub still_passed : (later : Streamed) (told : Advanced) → old.refused ≡ None →
        later ≡ record old.stream { waiting = drop 1 old.stream.waiting } →
        ((taken : List Item) → StreamFollows fed taken old.stream → StreamFollows fed (taken ++ take 1 old.stream.waiting) later) →
        DoesNext (running old) new old.stream (Passed told) → Follows fed (passed old new later)
    still_passed later told fresh skipped on done =
        follows_passed old new later skipped fed fresh follows (on follows.done follows.stream) told done

    pub still_none : DoesNext (running old) new old.stream NoneWaits → Follows fed (passed old new old.stream)
    still_none does =
        subst (λ (x : Running). Follows fed (passed old x old.stream)) (sym (none_is (running old) new old.stream does).0) follows

    pub still_lacking : DoesNext (running old) new old.stream Lacks → Follows fed (passed old new old.stream)
    still_lacking does =
        subst (λ (x : Running). Follows fed (passed old x old.stream)) (sym (lacks_is (running old) new old.stream does).0) follows

    pub still_refused : (error : ReplicaError) → DoesNext (running old) new old.stream (Refused error) →
        Follows fed (record (passed old new old.stream) { refused = Some error })
    still_refused error does =
        let due = refused_is (running old) new old.stream error does in
        subst (λ (x : Running). Follows fed (record (passed old x old.stream) { refused = Some error })) (sym due.0) (record {
          done = follows.done;
          stream = follows.stream;
          base_is = follows.base_is;
          come = follows.come;
          refusal = due.1;
        })

    pub ends_none : DoesNext (running old) new old.stream NoneWaits → TellsEnd now.design fed (Ok NotYet) now.world
    ends_none does =
        let none = none_is (running old) new old.stream does in
        subst (λ (r : Replicated). TellsEnd r.design fed (Ok NotYet) r.world) is (not_yet fed old follows none.1 none.2)

    pub ends_refused : (error : ReplicaError) → DoesNext (running old) new old.stream (Refused error) →
        TellsEnd now.design fed (Err error) now.world
    ends_refused error does =
        let due = refused_is (running old) new old.stream error does in
        subst (λ (r : Replicated). TellsEnd r.design fed (Err error) r.world) is
        (tells old.design fed old.world error (due_ends fed old follows error due.1))

-- ---- a piece that is fed

pub follows_fed : (fed piece : List ℕ) (old now : Replicated) (later : Streamed) → old ≡ now → Follows fed now →
    ((taken : List Item) → StreamFollows fed taken old.stream → StreamFollows (fed ++ piece) taken later) → AddsItems old.stream later →
    (IsSome old.stream.ended → later ≡ old.stream) → later.base ≡ old.stream.base → Follows (fed ++ piece) (record old { stream = later })
follows_fed fed piece old now later is f on adds stay base =
    let follows = subst (λ (r : Replicated). Follows fed r) (sym is) f in record {
      done = follows.done;
      stream = on follows.done follows.stream;
      base_is = base ∙ follows.base_is;
      come = follows.come;
      refusal = due_stays old.design old.world old.stream later old.refused adds stay follows.refusal;
    }

-- ---- one to which nothing was fed

pub follows_new : (d e : Design) (w : World) (s : Streamed) → e ≡ d → w ≡ start → s.base ≡ printed d → StreamFollows [] [] s →
    Follows [] (record { design = e; world = w; stream = s; refused = None })
follows_new d e w s same fresh base on = record {
  done = [];
  stream = on;
  base_is = base ∙ ap printed (sym same);
  come = sym fresh;
  refusal = tt;
}
