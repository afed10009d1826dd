-- One thing is told of a schedule.
use Rattle.std.proofs.Common.{◌≡◌, ℕ, ◌<◌, ◌++◌, Bool, true, false, List, length, Option, Some, None, get_or, refl, sym, ap, subst, ◌∙◌}
use Rattle.std.specs.Prelude.{IsSome, All, slice_get}
use Rattle.std.specs.List.{flat_map}
use Rattle.std.proofs.lemmas.Option.{same_Some, none-some, slice_get-get_or}
use Rattle.acc_base.specs.declared.designs.Design.{Design}
use Rattle.acc_base.specs.declared.machines.Call.{Call}
use Rattle.acc_base.specs.declared.machines.Event.{Event}
use Rattle.acc_base.specs.Lines.{mention_line, ending_text}
use Rattle.acc_base.specs.Plays.{Play, opening}
use Rattle.acc_lift.proofs.Transactions.{got_within}
use Rattle.acc_lock_rules.specs.LockRules.{with_locks}
use Rattle.acc_lock_rules.proofs.Orderly.{locks_are_orderly}
use Rattle.acc_player.proofs.Wholes.{one_schedule}
use Rattle.acc_schedule.specs.Schedules.{TellsBegun, TellsScheduleFrom}
use Rattle.acc_schedule.specs.Laws.{SchedulesOnce}

none_is_some : (o : Option ℕ) → o ≡ None → IsSome o → ⊥
none_is_some None e h = cc
none_is_some (Some n) e h = none-some n (sym e)

-- not each has begun where one hasn't
not_all : (numbers : List (Option ℕ)) (at : ℕ) → slice_get numbers at ≡ Some None → All IsSome numbers → ⊥
not_all numbers at unbegun all =
    let within : at < length numbers = got_within numbers at None unbegun in
    let is : get_or numbers at None ≡ None =
    same_Some (get_or numbers at None) None (sym (slice_get-get_or numbers at None within) ∙ unbegun) in
    none_is_some (get_or numbers at None) is (all at None within)

one_answer :
    (numbers : List (Option ℕ)) (history : List Event) (a b : Bool) → TellsBegun a numbers history → TellsBegun b numbers history
    → a ≡ b
one_answer numbers history true true h k = refl
one_answer numbers history true false h k = absurd (not_all numbers k.0.0 k.0.1 h)
one_answer numbers history false true h k = absurd (not_all numbers h.0.0 h.0.1 k)
one_answer numbers history false false h k = refl

-- from the same play on
pub tells_once : (d : Design) (calls : List Call) (first : Play) (order t u : List ℕ) (h k : List Event) (a b : Bool)
    → TellsScheduleFrom d calls first order t h a → TellsScheduleFrom d calls first order u k b → (t ≡ u) × (h ≡ k) × (a ≡ b)
tells_once d calls first order t u h k a b x y =
    let same =
    one_schedule (with_locks d) (locks_are_orderly d) calls first order x.mentions y.mentions x.ended y.ended x.schedules y.schedules in
    let text : t ≡ u =
    x.text_is ∙ (λ i. flat_map (mention_line d) (same.0 i) ++ ending_text calls (same.1 i)) ∙ sym y.text_is in
    let history : h ≡ k = x.history_is ∙ ap (λ (p : Play). p.world.events) same.1 ∙ sym y.history_is in
    let begun : TellsBegun a y.ended.numbers k =
    subst (λ (p : Play). TellsBegun a p.numbers k) same.1
    (subst (λ (es : List Event). TellsBegun a x.ended.numbers es) history x.begun) in
    (text, history, one_answer y.ended.numbers k a b begun y.begun)

pub schedules_once : SchedulesOnce
schedules_once d calls order t u h k a b x y = tells_once d calls (opening calls) order t u h k a b x y
