-- Boards that are an engine's.
use Rattle.std.proofs.Common.{◌≡◌, ℕ, List, length, Bool, Option, None, Some, sym, ap, subst, ◌∙◌}
use Rattle.std.specs.Prelude.{replicate, slice_get}
use Rattle.std.proofs.lemmas.List.{length-replicate}
use Rattle.acc_base.specs.declared.machines.Call.{Call}
use Rattle.acc_base.specs.Machine.{World}
use Rattle.acc_engine.specs.Keeping.{Journalled, is_begun}
use Rattle.acc_player.specs.declared.boards.Board.{Board}
use Rattle.acc_player.specs.Boards.{play_of, IsBoardOf}
use Rattle.acc_settling.specs.Openings.{opening_at, IsFresh, CanBegin}

-- a board without numbers is the engine's, where none has begun
pub fresh_board : {D : Type 0} (e : Journalled D) (b : Board) (calls : ℕ) → IsFresh e → calls ≡ length e.calls
    → b.numbers.items ≡ replicate calls None → IsBoardOf e.calls (CanBegin e) b
fresh_board e b calls fresh many numbers = record {
  numbers = ap length numbers ∙ length-replicate calls None ∙ many;
  unbegun = λ at free. ap (λ (marks : List Bool). is_begun marks at) fresh.begun;
}

-- and with it an opening, where so many have begun before
pub opens_play : (w : World) (calls : List Call) (b : Board) (many before : ℕ) → many ≡ length calls → before ≡ length w.transactions
    → b.numbers.items ≡ replicate many None → b.places.items ≡ replicate before 0 → play_of w b ≡ opening_at w calls
opens_play w calls b many before count earlier numbers places =
    let numbers_are = numbers ∙ ap (λ (n : ℕ). replicate n None) count in
    let places_are = places ∙ ap (λ (n : ℕ). replicate n 0) earlier in
    λ i. record { world = w; numbers = numbers_are i; places = places_are i }

-- a board stays the engine's where the numbers, the calls and what has begun stay
pub board_stays : {D : Type 0} (old new : Journalled D) (b now : Board) → new.calls ≡ old.calls → new.begun ≡ old.begun
    → now.numbers.items ≡ b.numbers.items → IsBoardOf old.calls (CanBegin old) b → IsBoardOf new.calls (CanBegin new) now
board_stays old new b now calls begun same board = record {
  numbers = ap length same ∙ board.numbers ∙ sym (ap length calls);
  unbegun = λ at free.
      let was = subst (λ (numbers : List (Option ℕ)). slice_get numbers at ≡ Some None) same free in
      ap (λ (marks : List Bool). is_begun marks at) begun ∙ board.unbegun at was;
}
