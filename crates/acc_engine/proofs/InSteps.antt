-- An engine stays in step with its journal.
use Rattle.std.proofs.Common.{zero, suc, get_or, set, slice_get, ◌≡◌, ◌⊎◌, inl, inr, drop, take, Option, Some, None, Bool, true, false, ◌≤◌}
use Rattle.std.proofs.Common.{◌<◌, ◌+◌, ◌^◌, ◌++◌, ℕ, List, [], ◌∷◌, length, Result, Ok, Err, refl, sym, ◌∙◌, ap, subst, arith}
use Rattle.std.proofs.Common.{append_assoc, length-append}
use Rattle.std.specs.Prelude.{OnOk, OnErr, IfErr, is_err, ◌==◌, ◌≢◌, map, IsSome, IsSomeAnd}
use Rattle.std.specs.List.{filter_map, cons_option, count_by}
use Rattle.std.proofs.lemmas.Bool.Decides.{nat_tests}
use Rattle.std.proofs.lemmas.List.{append-nil, flat_map_more, drop-append-le, drop_all, take_all, take_at, get_or-set_same}
use Rattle.std.proofs.lemmas.List.{get_or-set_other}
use Rattle.std.proofs.lemmas.List.Sums.{count_by_more_yes, count_by_more_no}
use Rattle.std.proofs.lemmas.List.Elements.{All-nil, All-push, filter_map-append}
use Rattle.acc_base.specs.declared.designs.At.{At}
use Rattle.acc_base.specs.declared.designs.Design.{Design}
use Rattle.acc_base.specs.declared.machines.Call.{Call}
use Rattle.acc_base.specs.declared.machines.Cause.{Cause}
use Rattle.acc_base.specs.declared.machines.Cause.TheVariants.{Refused, Range, Limit, Asked, Victim, Crash}
use Rattle.acc_base.specs.declared.machines.Event.{Event}
use Rattle.acc_base.specs.declared.machines.Event.TheVariants.{Begin}
use Rattle.acc_base.specs.declared.machines.Turn.{Turn}
use Rattle.acc_base.specs.declared.machines.Turn.TheVariants.{Stepped, Blocked, Turned, Back, Ended}
use Rattle.acc_base.specs.declared.machines.Transaction.{Transaction}
use Rattle.acc_base.specs.Machine.{World, transaction_at, frame_in}
use Rattle.acc_lift.proofs.Transactions.{at_within}
use Rattle.acc_machine.specs.Turned.{IsUnfinished}
use Rattle.acc_base.specs.Lawful.{IsLawful}
use Rattle.acc_lift.proofs.Theorem.{event_logged}
use Rattle.acc_wal.specs.Spellings.{body, event_bytes, Fits}
use Rattle.acc_wal.specs.Wals.{Journal}
use Rattle.acc_wal.specs.Items.{seal_bytes}
use Rattle.acc_wal.specs.Settling.{IsSettled, KeepsLists, FailsSo, Pushes, PushesSeal}
use Rattle.acc_wal.specs.declared.items.Seal.{Seal}
use Rattle.acc_wal.specs.declared.errors.WalError.{WalError}
use Rattle.acc_wal.specs.declared.errors.WalError.TheVariants as wal_error
use Rattle.acc_machine.specs.declared.errors.BeginError.{BeginError}
use Rattle.acc_machine.specs.declared.errors.BeginError.TheVariants.{Full, Crowd, Memory}
use Rattle.acc_machine.specs.Begun.{Begins}
use Rattle.acc_machine.specs.Kept.{IsKept}
use Rattle.acc_machine.proofs.Keeping.{kept_after}
use Rattle.acc_machine.specs.Turns.{IsTurnEvent, step, undo, abort, AddsEvent, AddsBy}
use Rattle.acc_engine.specs.Keeping.{IsInStep, CallsFit, BeginsFrom, IsNoCrash, call_of, unbegun, is_begun, times_begun, begin_of}
use Rattle.acc_engine.specs.Lags.{AddsTurn, Lags, CatchesUp, HasSmallCause}
use Rattle.acc_engine.specs.Sealing.{AreHeld}
use Rattle.acc_engine.proofs.Sealed.{none_held, held_bytes}
use Rattle.acc_engine.proofs.Unbegun.{unbegun_set, unbegun_all}

pub few_events : (d : Design) (w : World) → IsKept d w → length w.events ≤ 2 ^ 24
few_events d w kept = omega (arith, kept.good.steady.ends)

-- the number of an unfinished transaction is small
pub small_number : (d : Design) (w : World) (t : ℕ) → IsKept d w → IsUnfinished t w → t < 2 ^ 32
small_number d w t kept open_t = by (transaction_at t w.transactions) refl open_t
  where
    by : (o : Option Transaction) → transaction_at t w.transactions ≡ o → IsSomeAnd o (λ x. IsSome (frame_in x)) → t < 2 ^ 32
    by None e k = absurd k
    by (Some x) e k = omega (arith, (at_within t w.transactions x e).1, kept.good.steady.counted, few_events d w kept)

-- ---- a settling

module _ {D : Type 0} (d : Design) (w : World) (old new : Journal D) (found : ℕ) (calls : List Call) (marks : List Bool) (lowest : ℕ)
    (k : IsInStep d w old.durable old.tail found calls marks lowest) where
  settled : IsSettled old new → IsInStep d w new.durable new.tail found calls marks lowest
  unfolding body
  settled s = record {
    state = k.state;
    same =
        ap (λ (l : List Event). l ++ new.tail) s.durable ∙ ap (λ (l : List Event). old.durable ++ old.tail ++ l) s.tail
        ∙ append-nil (old.durable ++ old.tail) ∙ k.same;
    within = k.within;
    begins = k.begins;
    fits = k.fits;
    spelled = k.spelled;
    whole = k.whole;
    sized = omega (arith, ap (λ (l : List Event). length (body l)) s.tail);
    below = k.below;
  }

  same_lists : KeepsLists old new → IsInStep d w new.durable new.tail found calls marks lowest
  same_lists e = record {
    state = k.state;
    same = ap (λ (l : List Event). l ++ new.tail) e.durable ∙ ap (λ (l : List Event). old.durable ++ l) e.tail ∙ k.same;
    within = k.within;
    begins = k.begins;
    fits = k.fits;
    spelled = k.spelled;
    whole = k.whole;
    sized = omega (arith, k.sized, ap (λ (l : List Event). length (body l)) e.tail, ap length e.tail);
    below = k.below;
  }

  pub in_step_settled : {T E : Type 0} (r : Result T E) → OnOk r (IsSettled old new) → OnErr r (KeepsLists old new)
      → IsInStep d w new.durable new.tail found calls marks lowest
  in_step_settled (Ok x) s e = settled s
  in_step_settled (Err x) s e = same_lists e

-- no state waits behind a settling, or those that did
pub held_settled : {D T E : Type 0} (d : Design) (events : List Event) (old new : Journal D) (r : Result T E) → OnOk r (IsSettled old new)
    → OnErr r (KeepsLists old new) → AreHeld d events old.waiting → AreHeld d events new.waiting
held_settled d events old new (Ok x) s e held = none_held d events new.waiting s.waiting
held_settled d events old new (Err x) s e held = subst (λ (l : List Seal). AreHeld d events l) (sym e.waiting) held

-- ---- a turn

-- after a settling it has failed just where the journal is spent
pub failed_settling : {D T : Type 0} (old new : Journal D) (r : Result T WalError) (fault : Type 0) → OnOk r (IsSettled old new)
    → IfErr r (λ error. FailsSo error old.spent new.spent fault) → (old.spent ≡ true → new ≡ old) → is_err r ≡ new.spent
failed_settling old new (Ok x) fault ok why stays = sym ok.spent
failed_settling {D} old new (Err wal_error.Spent) fault ok why stays = sym (ap (λ (j : Journal D). j.spent) (stays why) ∙ why)
failed_settling old new (Err wal_error.Disk) fault ok why stays = sym why.1
failed_settling old new (Err wal_error.Exists) fault ok why stays = absurd why
failed_settling old new (Err wal_error.NotJournal) fault ok why stays = absurd why
failed_settling old new (Err (wal_error.OtherVersion version)) fault ok why stays = absurd why
failed_settling old new (Err (wal_error.Damaged place)) fault ok why stays = absurd why
failed_settling old new (Err wal_error.Memory) fault ok why stays = absurd why

pub turn_brief : (t : ℕ) (event : Event) → IsTurnEvent t event → length (event_bytes event) ≤ 14
unfolding event_bytes
turn_brief t event step = omega arith
turn_brief t event undo = omega arith
turn_brief t event (abort c other) = omega arith

pub turn_fits : (t : ℕ) (event : Event) → IsTurnEvent t event → t < 2 ^ 32 → HasSmallCause event → Fits event
unfolding Fits
turn_fits t event step lt small = lt
turn_fits t event undo lt small = lt
turn_fits t event (abort c other) lt small = (lt, small)

turn_no_crash : (t : ℕ) (event : Event) → IsTurnEvent t event → IsNoCrash event
turn_no_crash t event step = tt
turn_no_crash t event undo = tt
turn_no_crash t event (abort (Refused n) other) = tt
turn_no_crash t event (abort Range other) = tt
turn_no_crash t event (abort Limit other) = tt
turn_no_crash t event (abort Asked other) = tt
turn_no_crash t event (abort Victim other) = tt
turn_no_crash t event (abort Crash other) = other refl

turn_no_call : (t : ℕ) (event : Event) → IsTurnEvent t event → call_of event ≡ None
turn_no_call t event step = refl
turn_no_call t event undo = refl
turn_no_call t event (abort c other) = refl

-- a turn that isn't blocked
abbrev pub IsMove : Turn → Type 0
IsMove turn = ((at : At) × (turn ≡ Stepped at)) ⊎ ((c : Cause) × (turn ≡ Turned c)) ⊎ ((at : At) × (turn ≡ Back at)) ⊎ (turn ≡ Ended)

pub lags_turns : {D : Type 0} (t : ℕ) (turn : Turn) (events : List Event) (wal : Journal D) → IsMove turn
    → Lags t turn events wal → AddsTurn t (wal.durable ++ wal.tail) events
lags_turns t turn events wal (inl (at, e)) lags = subst (λ (x : Turn). Lags t x events wal) e lags
lags_turns t turn events wal (inr (inl (c, e))) lags = subst (λ (x : Turn). Lags t x events wal) e lags
lags_turns t turn events wal (inr (inr (inl (at, e)))) lags = subst (λ (x : Turn). Lags t x events wal) e lags
lags_turns t turn events wal (inr (inr (inr e))) lags = subst (λ (x : Turn). Lags t x events wal) e lags

pub caught_up : {D : Type 0} (t : ℕ) (events : List Event) (old new : Journal D) (result : Event)
    (turns : AddsTurn t (old.durable ++ old.tail) events)
    → result ≡ turns.event → Pushes result old new → old.spent ≡ false → CatchesUp events old new
unfolding body
caught_up t events old new result turns is p unspent = record {
  same =
      ap (λ (l : List Event). l ++ new.tail) p.durable ∙ ap (λ (l : List Event). old.durable ++ l) p.tail
      ∙ sym (append_assoc old.durable old.tail (result ∷ [])) ∙ ap (λ e. old.durable ++ old.tail ++ e ∷ []) is ∙ sym turns.added;
  disk = p.disk;
  base = p.base;
  version = p.version;
  seals = p.seals;
  durable = p.durable;
  waiting = p.waiting;
  spent = p.spent ∙ sym unspent;
  brief =
      omega (
        arith,
        ap (λ (l : List Event). length (body l)) p.tail,
        ap length (flat_map_more event_bytes [] old.tail result),
        length-append (body old.tail) (event_bytes result),
        ap (λ e. length (event_bytes e)) is,
        turn_brief t turns.event turns.of_turn,
        ap length p.tail,
        length-append old.tail (result ∷ []),
      );
}

filter_map-none : (events : List Event) (event : Event) → call_of event ≡ None →
    filter_map call_of (events ++ event ∷ []) ≡ filter_map call_of events
filter_map-none events event none =
    filter_map-append call_of events (event ∷ []) ∙ ap (λ (o : Option Call). filter_map call_of events ++ cons_option o []) none
    ∙ append-nil (filter_map call_of events)

turn_begins : (calls : List Call) (marks : List Bool) (events : List Event) (t : ℕ) (event : Event) → IsTurnEvent t event →
    BeginsFrom calls marks events → BeginsFrom calls marks (events ++ event ∷ [])
turn_begins calls marks events t event of b = record {
  no_crash = All-push IsNoCrash events event b.no_crash (turn_no_crash t event of);
  places = b.places;
  are = filter_map-none events event (turn_no_call t event of) ∙ b.are;
  once = b.once;
}

pub adds_or : (t : ℕ) (turn : Turn) (old new : World) → AddsBy old new t turn → (new.events ≡ old.events) ⊎ AddsEvent t old new
adds_or t (Blocked u entry) old new a = inl (ap (λ (w : World). w.events) a)
adds_or t (Stepped at) old new a = inr a
adds_or t (Turned cause) old new a = inr a
adds_or t (Back at) old new a = inr a
adds_or t Ended old new a = inr a

pub lags : {D : Type 0} (t : ℕ) (turn : Turn) (old new : World) (wal : Journal D) → AddsBy old new t turn →
    wal.durable ++ wal.tail ≡ old.events → Lags t turn new.events wal
lags t (Blocked u entry) old new wal a is = is ∙ ap (λ (w : World). w.events) (sym a)
lags t (Stepped at) old new wal a is = record {
  event = a.event;
  of_turn = a.of_turn;
  added =
      a.added ∙ ap (λ (l : List Event). l ++ a.event ∷ []) (sym is);
}
lags t (Turned cause) old new wal a is = record {
  event = a.event;
  of_turn = a.of_turn;
  added =
      a.added ∙ ap (λ (l : List Event). l ++ a.event ∷ []) (sym is);
}
lags t (Back at) old new wal a is = record {
  event = a.event;
  of_turn = a.of_turn;
  added =
      a.added ∙ ap (λ (l : List Event). l ++ a.event ∷ []) (sym is);
}
lags t Ended old new wal a is = record {
  event = a.event;
  of_turn = a.of_turn;
  added =
      a.added ∙ ap (λ (l : List Event). l ++ a.event ∷ []) (sym is);
}

module _ {D : Type 0} (d d2 : Design) (w w2 : World) (old mid new : Journal D) (found : ℕ) (calls : List Call) (marks : List Bool)
    (lowest : ℕ)
    (k : IsInStep d w old.durable old.tail found calls marks lowest) (l : KeepsLists old mid) where
  pub turn_short : AreHeld d w.events old.waiting → length (body mid.tail) + seal_bytes mid.waiting + 14 < 2 ^ 32
  turn_short held =
      omega (
        arith,
        held_bytes d w.events old.waiting held,
        ap (λ (ss : List Seal). seal_bytes ss) l.waiting,
        k.sized,
        k.whole,
        ap (λ (es : List Event). length (body es)) l.tail,
        few_events d w k.state,
        ap length k.same,
        length-append old.durable old.tail,
      )

  pub in_step_turned : (t : ℕ) → (w2.events ≡ w.events) ⊎ AddsEvent t w w2 → d2 ≡ d → IsKept d2 w2 → CatchesUp w2.events mid new
      → IsInStep d2 w2 new.durable new.tail found calls marks lowest
  in_step_turned t (inl same) is kept up = record {
    state = kept;
    same = up.same;
    within = omega (arith, k.within, ap length same);
    begins = subst (λ (es : List Event). BeginsFrom calls marks (drop found es)) (sym same) k.begins;
    fits = subst (λ (x : Design). CallsFit x calls) (sym is) k.fits;
    spelled = k.spelled;
    whole = k.whole;
    sized = omega (arith, k.sized, up.brief, ap (λ (es : List Event). length (body es)) l.tail, ap length l.tail);
    below = k.below;
  }
  in_step_turned t (inr turns) is kept up =
      let later : drop found w2.events ≡ drop found w.events ++ turns.event ∷ [] =
      ap (drop found) turns.added ∙ drop-append-le found w.events (turns.event ∷ []) k.within in
      record {
        state = kept;
        same = up.same;
        within = omega (arith, k.within, ap length turns.added, length-append w.events (turns.event ∷ []));
        begins = subst (BeginsFrom calls marks) (sym later)
            (turn_begins calls marks (drop found w.events) t turns.event turns.of_turn k.begins);
        fits = subst (λ (x : Design). CallsFit x calls) (sym is) k.fits;
        spelled = k.spelled;
        whole = k.whole;
        sized = omega (arith, k.sized, up.brief, ap (λ (es : List Event). length (body es)) l.tail, ap length l.tail);
        below = k.below;
      }

-- ---- a state that is put

module _ {D : Type 0} (d : Design) (w : World) (old new : Journal D) (found : ℕ) (calls : List Call) (marks : List Bool) (lowest : ℕ)
    (k : IsInStep d w old.durable old.tail found calls marks lowest) where
  pub seal_short : (text : List ℕ) → old.waiting ≡ [] → length text ≤ 2 ^ 22
      → length (body old.tail) + seal_bytes old.waiting + (5 + length text) < 2 ^ 32
  seal_short text none short =
      omega (
        arith,
        ap (λ (ss : List Seal). seal_bytes ss) none,
        short,
        k.sized,
        k.whole,
        few_events d w k.state,
        ap length k.same,
        length-append old.durable old.tail,
      )

  pub in_step_sealed : (text : List ℕ) → PushesSeal text old new → IsInStep d w new.durable new.tail found calls marks lowest
  in_step_sealed text push =
      subst (λ (es : List Event). IsInStep d w new.durable es found calls marks lowest) (sym push.tail)
      (subst (λ (es : List Event). IsInStep d w es old.tail found calls marks lowest) (sym push.durable) k)

-- ---- a begin

pub keeps_more : {D : Type 0} (old mid new : Journal D) → KeepsLists old mid → KeepsLists mid new → KeepsLists old new
keeps_more old mid new a b = record {
  base = b.base ∙ a.base;
  version = b.version ∙ a.version;
  seals = b.seals ∙ a.seals;
  waiting = b.waiting ∙ a.waiting;
  durable = b.durable ∙ a.durable;
  tail = b.tail ∙ a.tail;
}

get_or-append_at : (xs : List ℕ) (x : ℕ) → get_or (xs ++ x ∷ []) (length xs) x ≡ x
get_or-append_at [] x = refl
get_or-append_at (y ∷ xs) x = get_or-append_at xs x

count_more : (f : ℕ → Bool) (xs : List ℕ) (x : ℕ) → count_by f (xs ++ x ∷ []) ≡ count_by f xs + times_begun (f x)
count_more f xs x = by (f x) refl
  where
    here : length xs < length (xs ++ x ∷ [])
    here = omega (arith, length-append xs (x ∷ []))

    item : get_or (xs ++ x ∷ []) (length xs) x ≡ x
    item = get_or-append_at xs x

    whole : take (length xs + 1) (xs ++ x ∷ []) ≡ xs ++ x ∷ []
    whole = take_all (length xs + 1) (xs ++ x ∷ []) (omega (arith, length-append xs (x ∷ [])))

    front : take (length xs) (xs ++ x ∷ []) ≡ xs
    front = take_at xs (x ∷ []) (length xs) refl

    by : (b : Bool) → f x ≡ b → count_by f (xs ++ x ∷ []) ≡ count_by f xs + times_begun b
    by true e =
        ap (count_by f) (sym whole) ∙ count_by_more_yes f (xs ++ x ∷ []) (length xs) x here (ap f item ∙ e) ∙ ap
        (λ (l : List ℕ). count_by f l + 1) front
    by false e =
        ap (count_by f) (sym whole) ∙ count_by_more_no f (xs ++ x ∷ []) (length xs) x here (ap f item ∙ e) ∙ ap (count_by f) front ∙
        sum_none
      where
        sum_none : count_by f xs ≡ count_by f xs + 0
        sum_none = omega arith

-- a place more is begun
begun_here : (marks marked : List Bool) (p q : ℕ) → is_begun marks p ≡ false → is_begun marked p ≡ true
    → ((r : ℕ) → r ≢ p → is_begun marked r ≡ is_begun marks r)
    → times_begun (is_begun marks q) + times_begun (p == q) ≡ times_begun (is_begun marked q)
begun_here marks marked p q fresh here others = by (p == q) refl
  where
    none : (n : ℕ) → n + 0 ≡ n
    none n = omega arith

    by : (b : Bool) → (p == q) ≡ b → times_begun (is_begun marks q) + times_begun b ≡ times_begun (is_begun marked q)
    by true e =
        let same : p ≡ q = grind (arith, nat_tests) in
        ap (λ x. times_begun x + 1) (subst (λ k. is_begun marks k ≡ false) same fresh)
        ∙ sym (ap times_begun (subst (λ k. is_begun marked k ≡ true) same here))
    by false e =
        let other : q ≢ p = λ s. grind (arith, nat_tests) in
        none (times_begun (is_begun marks q)) ∙ sym (ap times_begun (others q other))

still_below : (marks : List Bool) (p q : ℕ) → get_or marks q false ≡ true → get_or (set marks p true) q false ≡ true
still_below [] p q h = h
still_below (b ∷ marks) zero zero h = refl
still_below (b ∷ marks) zero (suc q) h = h
still_below (b ∷ marks) (suc p) zero h = h
still_below (b ∷ marks) (suc p) (suc q) h = still_below marks p q h

pub begin_begins : (calls : List Call) (marks marked : List Bool) (events : List Event) (p : ℕ) (call : Call) → is_begun marks p ≡ false
    → is_begun marked p ≡ true → ((q : ℕ) → q ≢ p → is_begun marked q ≡ is_begun marks q) → slice_get calls p ≡ Some call
    → BeginsFrom calls marks events → BeginsFrom calls marked (events ++ Begin call ∷ [])
begin_begins calls marks marked events p call fresh here others is b = record {
  no_crash = All-push IsNoCrash events (Begin call) b.no_crash tt;
  places = b.places ++ p ∷ [];
  are =
      filter_map-append call_of events (Begin call ∷ []) ∙ ap (λ (cs : List Call). cs ++ call ∷ []) b.are
      ∙ sym
      (filter_map-append (λ place. slice_get calls place) b.places (p ∷ [])
      ∙ ap (λ (o : Option Call). filter_map (λ place. slice_get calls place) b.places ++ cons_option o []) is);
  once = λ q.
      count_more (λ x. x == q) b.places p ∙ ap (λ n. n + times_begun (p == q)) (b.once q) ∙ begun_here marks marked p q fresh here others;
}

-- other marks of the same places
module _ {D : Type 0} (d : Design) (w : World) (old mid : Journal D) (found : ℕ) (calls : List Call) (old_marks marks : List Bool)
    (lowest : ℕ)
    (k : IsInStep d w old.durable old.tail found calls old_marks lowest) (l : KeepsLists old mid)
    (same : unbegun marks calls ≡ unbegun old_marks calls) (kept_marks : (q : ℕ) → is_begun marks q ≡ is_begun old_marks q) where
  pub in_step_widened : IsInStep d w mid.durable mid.tail found calls marks lowest
  in_step_widened = record {
    state = k.state;
    same = ap (λ (es : List Event). es ++ mid.tail) l.durable ∙ ap (λ (es : List Event). old.durable ++ es) l.tail ∙ k.same;
    within = k.within;
    begins = record {
      no_crash = k.begins.no_crash;
      places = k.begins.places;
      are = k.begins.are;
      once = λ p. k.begins.once p ∙ ap times_begun (sym (kept_marks p));
    };
    fits = k.fits;
    spelled = k.spelled;
    whole = omega (arith, k.whole, same);
    sized = omega (arith, k.sized, ap (λ (es : List Event). length (body es)) l.tail, ap length l.tail);
    below = λ p lt. kept_marks p ∙ k.below p lt;
  }

-- the place's call begins
module _ {D : Type 0} (d d2 : Design) (w w2 : World) (mid new : Journal D) (found : ℕ) (calls : List Call) (marks : List Bool)
    (lowest p : ℕ)
    (call : Call) (k : IsInStep d w mid.durable mid.tail found calls marks lowest) (lt : p < length marks)
    (fresh : get_or marks p false ≡ false) (is : slice_get calls p ≡ Some call) where
  pub begin_short : AreHeld d w.events mid.waiting
      → length (body mid.tail) + seal_bytes mid.waiting + length (event_bytes (Begin call)) < 2 ^ 32
  begin_short held =
      omega (
        arith,
        held_bytes d w.events mid.waiting held,
        k.sized,
        k.whole,
        unbegun_set p marks calls call lt fresh is,
        few_events d w k.state,
        ap length k.same,
        length-append mid.durable mid.tail,
      )

  pub in_step_begun : IsLawful d w (Begin call) w2 → d2 ≡ d → Pushes (Begin call) mid new
      → IsInStep d2 w2 new.durable new.tail found calls (set marks p true) lowest
  unfolding body
  in_step_begun lawful same push =
      let more = event_logged d w (Begin call) w2 lawful.event in
      let later : drop found w2.events ≡ drop found w.events ++ Begin call ∷ [] =
      ap (drop found) more ∙ drop-append-le found w.events (Begin call ∷ []) k.within in
      record {
        state = kept_after d d2 w w2 (Begin call) k.state same lawful;
        same =
            ap (λ (es : List Event). es ++ new.tail) push.durable ∙ ap (λ (es : List Event). mid.durable ++ es) push.tail
            ∙ sym (append_assoc mid.durable mid.tail (Begin call ∷ [])) ∙ ap (λ (es : List Event). es ++ Begin call ∷ []) k.same ∙ sym more;
        within = omega (arith, k.within, ap length more, length-append w.events (Begin call ∷ []));
        begins = subst (BeginsFrom calls (set marks p true)) (sym later)
            (begin_begins calls marks (set marks p true) (drop found w.events) p call fresh (get_or-set_same marks p true false lt)
            (λ q other. get_or-set_other marks p q true false other) is k.begins);
        fits = subst (λ (x : Design). CallsFit x calls) (sym same) k.fits;
        spelled = k.spelled + length (event_bytes (Begin call));
        whole = omega (arith, k.whole, unbegun_set p marks calls call lt fresh is);
        sized =
            omega (
              arith,
              k.sized,
              ap (λ (es : List Event). length (body es)) push.tail,
              ap length (flat_map_more event_bytes [] mid.tail (Begin call)),
              length-append (body mid.tail) (event_bytes (Begin call)),
              ap length push.tail,
              length-append mid.tail (Begin call ∷ []),
            );
        below = λ q low. still_below marks p q (k.below q low);
      }

-- ---- a new engine

pub in_step_new : (d : Design) (w : World) (durable tail : List Event) (found : ℕ) (calls : List Call) (marks : List Bool) → IsKept d w →
    durable ≡ w.events
    → tail ≡ [] → CallsFit d calls → length (body (map begin_of calls)) < 2 ^ 31 → marks ≡ [] → found ≡ length w.events
    → IsInStep d w durable tail found calls marks 0
unfolding body
in_step_new d w durable tail found calls marks kept same none fits few no_marks is =
    let rest : drop found w.events ≡ [] = drop_all found w.events (omega (arith, is)) in
    record {
      state = kept;
      same = ap (λ (l : List Event). durable ++ l) none ∙ append-nil durable ∙ same;
      within = omega (arith, is);
      begins =
          subst (BeginsFrom calls marks) (sym rest)
          (record {
            no_crash = All-nil IsNoCrash;
            places = [];
            are = refl;
            once =
                λ p. ap (λ (m : List Bool). times_begun (is_begun m p)) (sym no_marks);
          });
      fits = fits;
      spelled = 0;
      whole = omega (arith, few, unbegun_all calls, ap (λ (m : List Bool). unbegun m calls) no_marks);
      sized = omega (arith, ap (λ (l : List Event). length (body l)) none);
      below = λ p low. absurd (omega arith);
    }

-- ---- a call that doesn't begin

pub same_world : (d : Design) (old new : World) (call : Call) (error : BeginError) → Begins d old new call (Err error) → new ≡ old
same_world d old new call Full a = a.0
same_world d old new call Crowd a = a.0
same_world d old new call Memory a = a.0

pub in_step_same : (d d2 : Design) (w w2 : World) (durable tail : List Event) (found : ℕ) (calls : List Call) (marks : List Bool)
    (lowest : ℕ)
    → IsInStep d w durable tail found calls marks lowest → d2 ≡ d → w2 ≡ w → IsInStep d2 w2 durable tail found calls marks lowest
in_step_same d d2 w w2 durable tail found calls marks lowest k is same =
    subst (λ (x : Design). IsInStep x w2 durable tail found calls marks lowest) (sym is)
    (subst (λ (x : World). IsInStep d x durable tail found calls marks lowest) (sym same) k)
