-- The next place begins, and other events come.
use Rattle.std.proofs.Common.{◌≡◌, ◌≢◌, ◌<◌, ◌≤◌, ◌+◌, ◌++◌, ℕ, zero, suc, List, [], ◌∷◌, length, take, drop, Bool, true, false, Option}
use Rattle.std.proofs.Common.{Some, None, refl}
use Rattle.std.proofs.Common.{sym, ◌∙◌, ap, arith, true≢false, slice_get}
use Rattle.std.specs.Prelude.{nat_lt}
use Rattle.std.specs.List.{filter_map, cons_option}
use Rattle.std.proofs.lemmas.Bool.Decides.{nat_tests}
use Rattle.std.proofs.Math.Seq.{take-suc}
use Rattle.std.proofs.lemmas.Option.{slice_get_within, get_or_from_slice_get}
use Rattle.std.proofs.lemmas.List.{append-nil, drop-append-le, drop_all}
use Rattle.std.proofs.lemmas.List.Elements.{All-nil, All-push, filter_map-append}
use mathlib.Core.List.{IsPrefix}
use Rattle.acc_base.specs.declared.machines.Call.{Call}
use Rattle.acc_base.specs.declared.machines.Cause.TheVariants.{Refused, Range, Limit, Asked, Victim, Crash}
use Rattle.acc_base.specs.declared.machines.Event.{Event}
use Rattle.acc_base.specs.declared.machines.Event.TheVariants.{Begin}
use Rattle.acc_machine.specs.Turns.{IsTurnEvent, step, undo, abort}
use Rattle.acc_engine.specs.Keeping.{is_begun, IsLowest, IsNoCrash, call_of}
use Rattle.acc_plain.specs.Taken.{number_in}
use Rattle.acc_pass.specs.Histories.{one_for_none, begins}
use Rattle.acc_pass.proofs.Lists.{prefix_self, prefix_trans, prefix_length}
use Rattle.acc_beside.specs.Serving.{Script, since, begun_after, BeginsNext}

-- ---- counts of begins

pub begins-append : (xs ys : List Event) → begins (xs ++ ys) ≡ begins xs + begins ys
begins-append [] ys = omega arith
begins-append (x ∷ xs) ys = let r = begins-append xs ys in omega arith

pub begins_up : (xs ys : List Event) → IsPrefix xs ys → begins xs ≤ begins ys
begins_up xs ys p = let e : begins ys ≡ begins (xs ++ p.0) = ap begins (sym p.1) in let a = begins-append xs p.0 in omega arith

pub since_more : (first log own : List Event) → IsPrefix first log → since first (log ++ own) ≡ since first log ++ own
since_more first log own p = drop-append-le (length first) log own (prefix_length first log p)

pub after_more : (script : Script) (first log own : List Event) → IsPrefix first log →
    begun_after script first (log ++ own) ≡ begun_after script first log + begins own
after_more script first log own p =
    let e = ap begins (since_more first log own p) in
    let a = begins-append (since first log) own in
    omega arith

-- ---- an event of a turn

turn_no_crash : (t : ℕ) (event : Event) → IsTurnEvent t event → IsNoCrash event
turn_no_crash t event step = tt
turn_no_crash t event undo = tt
turn_no_crash t event (abort (Refused n) other) = tt
turn_no_crash t event (abort Range other) = tt
turn_no_crash t event (abort Limit other) = tt
turn_no_crash t event (abort Asked other) = tt
turn_no_crash t event (abort Victim other) = tt
turn_no_crash t event (abort Crash other) = other refl

turn_no_call : (t : ℕ) (event : Event) → IsTurnEvent t event → call_of event ≡ None
turn_no_call t event step = refl
turn_no_call t event undo = refl
turn_no_call t event (abort c other) = refl

pub turn_moves : (t : ℕ) (event : Event) → IsTurnEvent t event → number_in event ≡ Some t
turn_moves t event step = refl
turn_moves t event undo = refl
turn_moves t event (abort c other) = refl

pub no_begin : (t : ℕ) (event : Event) → number_in event ≡ Some t → begins (event ∷ []) ≡ 0
no_begin t event is = ap (λ o. one_for_none o + 0) is

pub next_turned : (script : Script) (first log : List Event) (marks : List Bool) (t : ℕ) (event : Event) → IsTurnEvent t event
    → BeginsNext script first marks log → BeginsNext script first marks (log ++ event ∷ [])
next_turned script first log marks t event of b =
    let xs = since first log in
    let more = since_more first log (event ∷ []) b.grew in
    let none = no_begin t event (turn_moves t event of) in
    let same : begins (xs ++ event ∷ []) ≡ begins xs = begins-append xs (event ∷ []) ∙ omega (arith, none) in
    record {
      grew = prefix_trans first log (log ++ event ∷ []) b.grew (event ∷ [], refl);
      no_crash = rw more (All-push IsNoCrash xs event b.no_crash (turn_no_crash t event of));
      calls_are =
          ap (filter_map call_of) more ∙ filter_map-append call_of xs (event ∷ [])
          ∙ ap (λ (o : Option Call). filter_map call_of xs ++ cons_option o []) (turn_no_call t event of)
          ∙ append-nil (filter_map call_of xs)
          ∙ b.calls_are ∙ ap (λ (n : ℕ). take n (drop script.places script.calls)) (sym (ap begins more ∙ same));
      marks_are = λ p. b.marks_are p ∙ ap (λ (n : ℕ). nat_lt p (script.places + n)) (sym (ap begins more ∙ same));
    }

-- ---- a begin

get_drop : (n k : ℕ) (xs : List Call) → slice_get (drop n xs) k ≡ slice_get xs (n + k)
get_drop zero k xs = let e : k ≡ 0 + k = omega arith in ap (slice_get xs) e
get_drop (suc n) k [] = refl
get_drop (suc n) k (x ∷ xs) = let e : suc (n + k) ≡ suc n + k = omega arith in get_drop n k xs ∙ ap (slice_get (x ∷ xs)) e

take_more : (n : ℕ) (xs : List Call) (x : Call) → slice_get xs n ≡ Some x → take (n + 1) xs ≡ take n xs ++ x ∷ []
take_more n xs x h =
    let e : n + 1 ≡ suc n = omega arith in
    ap (λ (m : ℕ). take m xs) e ∙ take-suc xs n x (slice_get_within xs n x h)
    ∙ ap (λ (z : Call). take n xs ++ z ∷ []) (get_or_from_slice_get xs n x x h)

mark_more : (m p : ℕ) (new old : Bool) → (p ≡ m → new ≡ true) → (p ≢ m → new ≡ old) → old ≡ nat_lt p m → new ≡ nat_lt p (m + 1)
mark_more m p new old here others is =
    elim (native.Mathlib.Decide.ℕ_discrete p m) [
      | yes e ↦ (let yes' : nat_lt p (m + 1) ≡ true = grind (arith, nat_tests) in here e ∙ sym yes')
      | no n ↦ (others n ∙ is ∙ same n)
    ]
  where
    same : p ≢ m → nat_lt p m ≡ nat_lt p (m + 1)
    same n = by (nat_lt p m) refl
      where
        by : (b : Bool) → nat_lt p m ≡ b → b ≡ nat_lt p (m + 1)
        by true e = let yes' : nat_lt p (m + 1) ≡ true = grind (arith, nat_tests) in sym yes'
        by false e =
            let le : m ≤ p = grind (arith, nat_tests) in
            let no' : nat_lt p (m + 1) ≡ false = grind (arith, nat_tests) in sym no'

pub next_begun : (script : Script) (first log : List Event) (marks marks' : List Bool) (call : Call)
    → slice_get script.calls (begun_after script first log) ≡ Some call → is_begun marks' (begun_after script first log) ≡ true
    → ((p : ℕ) → p ≢ begun_after script first log → is_begun marks' p ≡ is_begun marks p) → BeginsNext script first marks log
    → BeginsNext script first marks' (log ++ Begin call ∷ [])
next_begun script first log marks marks' call is here others b =
    let xs = since first log in
    let more = since_more first log (Begin call ∷ []) b.grew in
    let one : begins (xs ++ Begin call ∷ []) ≡ begins xs + 1 = begins-append xs (Begin call ∷ []) in
    let after : begun_after script first (log ++ Begin call ∷ []) ≡ begun_after script first log + 1 =
    after_more script first log (Begin call ∷ []) b.grew in
    record {
      grew = prefix_trans first log (log ++ Begin call ∷ []) b.grew (Begin call ∷ [], refl);
      no_crash = rw more (All-push IsNoCrash xs (Begin call) b.no_crash tt);
      calls_are =
          ap (filter_map call_of) more ∙ filter_map-append call_of xs (Begin call ∷ [])
          ∙ ap (λ (l : List Call). l ++ call ∷ []) b.calls_are
          ∙ sym (take_more (begins xs) (drop script.places script.calls) call (get_drop script.places (begins xs) script.calls ∙ is))
          ∙ ap (λ (n : ℕ). take n (drop script.places script.calls)) (sym (ap begins more ∙ one));
      marks_are = λ p.
          mark_more (begun_after script first log) p (is_begun marks' p) (is_begun marks p)
          (λ e. ap (is_begun marks') e ∙ here) (others p) (b.marks_are p)
          ∙ ap (nat_lt p) (sym after);
    }

-- other marks of the same places
pub next_marked : (script : Script) (first log : List Event) (marks marks' : List Bool) → ((p : ℕ) → is_begun marks' p ≡ is_begun marks p)
    → BeginsNext script first marks log → BeginsNext script first marks' log
next_marked script first log marks marks' same b =
    record { grew = b.grew; no_crash = b.no_crash; calls_are = b.calls_are; marks_are = λ p. same p ∙ b.marks_are p }

-- as an engine is shared
pub next_first : (script : Script) (first : List Event) (marks : List Bool) → ((p : ℕ) → is_begun marks p ≡ nat_lt p script.places)
    → BeginsNext script first marks first
next_first script first marks are =
    let rest : since first first ≡ [] = drop_all (length first) first (omega arith) in
    let none : begun_after script first first ≡ script.places = ap (λ (l : List Event). script.places + begins l) rest ∙ omega arith in
    record {
      grew = prefix_self first;
      no_crash = rw rest (All-nil IsNoCrash);
      calls_are = ap (filter_map call_of) rest ∙ sym (ap (λ (l : List Event). take (begins l) (drop script.places script.calls)) rest);
      marks_are = λ p. are p ∙ ap (nat_lt p) (sym none);
    }

-- ---- which place is next

on_off : (b : Bool) → b ≡ true → b ≡ false → ⊥
on_off b t f = true≢false (sym t ∙ f)

pub lowest_is : (marks : List Bool) (m place : ℕ) → ((p : ℕ) → is_begun marks p ≡ nat_lt p m) → IsLowest marks place → place ≡ m
lowest_is marks m place are low =
    let no' : nat_lt place m ≡ false = sym (are place) ∙ low.fresh in
    let le : m ≤ place = grind (arith, nat_tests) in
    elim (native.Mathlib.Decide.ℕ_discrete place m) [
      | yes e ↦ e
      | no n ↦
          (let lt : m < place = omega arith in
          let self : nat_lt m m ≡ false = grind (arith, nat_tests) in
          absurd (on_off (is_begun marks m) (low.below m lt) (are m ∙ self)))
    ]

pub all_are : (marks : List Bool) (m count : ℕ) → ((p : ℕ) → is_begun marks p ≡ nat_lt p m)
    → ((p : ℕ) → p < count → is_begun marks p ≡ true) → count ≤ m
all_are marks m count are all =
    elim (native.Mathlib.Decide.dec_le count m) [
      | yes le ↦ le
      | no n ↦
          (let lt : m < count = omega arith in
          let self : nat_lt m m ≡ false = grind (arith, nat_tests) in
          absurd (on_off (is_begun marks m) (all m lt) (are m ∙ self)))
    ]
