-- The reply lines of the places, by the number of each place's transaction.
use Rattle.std.specs.Prelude.{ℕ, ◌++◌, List, Option, option_and_then}
use Rattle.std.specs.Fmt.{decimal}
use Rattle.acc_base.specs.Lines.{line, settled_text}
use Rattle.acc_player.specs.Schedules.{number_at}
use Rattle.acc_engine.specs.Keeping.{Journalled}
use Rattle.acc_engine.specs.Acks.{durable_reply}

-- the reply line of a place after the durable events: without a reply then, a place is unsettled
abbrev pub durable_line : {D : Type 0} → Journalled D → List (Option ℕ) → ℕ → List ℕ
durable_line e numbers place = line (decimal place ++ settled_text (option_and_then (durable_reply e) (number_at numbers place)))
