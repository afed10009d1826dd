-- What is said of each item of a script or an order holds of all.
use Rattle.std.proofs.Common.{◌≡◌, ℕ, Bool, true, false, List, [], ◌∷◌, Result, Ok, Err, subst, sym, arith}
use Rattle.std.specs.Prelude.{All, IfOk, MatchBool, slice_get}
use Rattle.std.proofs.lemmas.List.Elements.{All-append, All-cons}
use Rattle.acc_base.specs.declared.designs.Design.{Design}
use Rattle.acc_base.specs.declared.machines.Call.{Call}
use Rattle.acc_base.specs.Machine.{call_fits}
use Rattle.acc_script.specs.Pieces.{lines_of, is_skipped}
use Rattle.acc_script.specs.LineReadings.{Says, AreSaid}
use Rattle.acc_script.specs.CallLines.{SaysCall, IsScript}
use Rattle.acc_script.specs.OrderLines.{IsPlace, SaysPlaces, IsOrder}
use Rattle.acc_player.specs.Playing.{AllFit}

pub if_ok : {T E : Type 0} {P Q : T → Type 0} (r : Result T E) → ((x : T) → P x → Q x) → IfOk r P → IfOk r Q
if_ok (Ok x) f h = f x h
if_ok (Err e) f h = h

all_none : {X : Type 0} (P : X → Type 0) → All P []
all_none P = λ k d lt. absurd (omega arith)

all_said : {X : Type 0} (Line : List ℕ → List X → Type 0) (P : X → Type 0) →
    ((line : List ℕ) (here : List X) → Line line here → All P here) → (lines : List (List ℕ)) (items : List X) → AreSaid Line lines items →
    All P items
all_said Line P each [] items h = subst (All P) (sym h) (all_none P)
all_said Line P each (line ∷ lines) items h = by (is_skipped line) h (all_said Line P each lines)
  where
    by : (b : Bool) → MatchBool b (AreSaid Line lines items) (Says Line line (AreSaid Line lines) items) →
        ((rest : List _) → AreSaid Line lines rest → All P rest) → All P items
    by true k ih = ih items k
    by false k ih = subst (All P) (sym k.parts) (All-append P k.here k.behind (each line k.here k.said) (ih k.behind k.rest))

all_one : {X : Type 0} (P : X → Type 0) (x : X) → P x → All P (x ∷ [])
all_one P x h = All-cons P x [] h (all_none P)

-- each call of a script fits its type
pub calls_fit : (d : Design) (text : List ℕ) (calls : List Call) → IsScript d text calls → AllFit d calls
calls_fit d text calls h = all_said (SaysCall d) (λ call. call_fits (slice_get d.types call.ty) call ≡ true)
    (λ line here s. subst (All (λ call. call_fits (slice_get d.types call.ty) call ≡ true)) (sym s.alone)
    (all_one (λ call. call_fits (slice_get d.types call.ty) call ≡ true) s.call s.asked.fits)) (lines_of text) calls h.said

-- each number of an order is a place
pub places_within : (places : ℕ) (text numbers : List ℕ) → IsOrder places text numbers → All (IsPlace places) numbers
places_within places text numbers h = all_said (SaysPlaces places) (IsPlace places) (λ line here s. s.within) (lines_of text) numbers h.said
