-- Marks, counted.
use Rattle.std.proofs.Common.{◌≡◌, ℕ, ◌+◌, List, [], ◌∷◌, Bool, refl, ap, sym, ◌∙◌}
use Rattle.std.specs.Prelude.{◌==◌, cond}
use Rattle.std.specs.List.{count_by, flat_map}
use Rattle.std.proofs.lemmas.List.Sums.{sum_by-append, sum_by-cons}
use Rattle.acc_base.specs.declared.designs.Design.{Design}
use Rattle.acc_base.specs.declared.machines.Cause.TheVariants as cause
use Rattle.acc_base.specs.declared.machines.Turn.TheVariants as turn
use Rattle.acc_base.specs.Plays.{Play, Told, Turns, IsStuck, IsOver, IsFull}
use Rattle.acc_player.specs.declared.details.Detail.TheVariants.{Marks}
use Rattle.acc_player.specs.declared.details.TheConstants.{BLOCKED, VICTIM}
use Rattle.acc_player.specs.Details.{mention_text}
use Rattle.acc_bench.specs.Counts.{is_blocked, turns_victim}

-- what passes among the parts of each item is as many as items that pass, where an item has one such part or none
count_parts : {X Y : Type 0} (p : Y → Bool) (q : X → Bool) (f : X → List Y) → ((x : X) → count_by p (f x) ≡ cond (q x) 1 0)
    → (xs : List X) → count_by p (flat_map f xs) ≡ count_by q xs
count_parts p q f each [] = refl
count_parts p q f each (x ∷ xs) =
    sum_by-append (λ y. cond (p y) 1 0) (f x) (flat_map f xs) ∙ ap (λ (n : ℕ). n + count_by p (flat_map f xs)) (each x)
    ∙ ap (λ (n : ℕ). cond (q x) 1 0 + n) (count_parts p q f each xs) ∙ sym (sum_by-cons (λ y. cond (q y) 1 0) x xs)

module _ (d : Design) where
  one_blocked : (x : Told × Play) → count_by (λ c. c == BLOCKED) (mention_text Marks d x) ≡ cond (is_blocked x) 1 0
  one_blocked (Turns place (turn.Stepped at), p) = refl
  one_blocked (Turns place (turn.Blocked holder entry), p) = refl
  one_blocked (Turns place (turn.Turned (cause.Refused n)), p) = refl
  one_blocked (Turns place (turn.Turned cause.Range), p) = refl
  one_blocked (Turns place (turn.Turned cause.Limit), p) = refl
  one_blocked (Turns place (turn.Turned cause.Asked), p) = refl
  one_blocked (Turns place (turn.Turned cause.Victim), p) = refl
  one_blocked (Turns place (turn.Turned cause.Crash), p) = refl
  one_blocked (Turns place (turn.Back at), p) = refl
  one_blocked (Turns place turn.Ended, p) = refl
  one_blocked (IsStuck place, p) = refl
  one_blocked (IsOver place, p) = refl
  one_blocked (IsFull place, p) = refl

  one_victim : (x : Told × Play) → count_by (λ c. c == VICTIM) (mention_text Marks d x) ≡ cond (turns_victim x) 1 0
  one_victim (Turns place (turn.Stepped at), p) = refl
  one_victim (Turns place (turn.Blocked holder entry), p) = refl
  one_victim (Turns place (turn.Turned (cause.Refused n)), p) = refl
  one_victim (Turns place (turn.Turned cause.Range), p) = refl
  one_victim (Turns place (turn.Turned cause.Limit), p) = refl
  one_victim (Turns place (turn.Turned cause.Asked), p) = refl
  one_victim (Turns place (turn.Turned cause.Victim), p) = refl
  one_victim (Turns place (turn.Turned cause.Crash), p) = refl
  one_victim (Turns place (turn.Back at), p) = refl
  one_victim (Turns place turn.Ended, p) = refl
  one_victim (IsStuck place, p) = refl
  one_victim (IsOver place, p) = refl
  one_victim (IsFull place, p) = refl

  pub blocked_marks : (xs : List (Told × Play)) → count_by (λ c. c == BLOCKED) (flat_map (mention_text Marks d) xs)
      ≡ count_by is_blocked xs
  blocked_marks = count_parts (λ c. c == BLOCKED) is_blocked (mention_text Marks d) one_blocked

  pub victim_marks : (xs : List (Told × Play)) → count_by (λ c. c == VICTIM) (flat_map (mention_text Marks d) xs)
      ≡ count_by turns_victim xs
  victim_marks = count_parts (λ c. c == VICTIM) turns_victim (mention_text Marks d) one_victim
