-- The lines that are printed of a play: one a mention, one a place, and the number of events.
use Rattle.std.specs.Prelude.{ℕ, ◌++◌, List, [], ◌∷◌, length, Option, Some, None, option_and_then, slice_get, ℤ, codes}
use Rattle.std.specs.List.{flat_map, range_with_len}
use Rattle.std.specs.Fmt.{decimal, signed_decimal}
use Rattle.acc_base.specs.declared.designs.At.{At}
use Rattle.acc_base.specs.declared.designs.Design.{Design}
use Rattle.acc_base.specs.declared.designs.Point.{Point}
use Rattle.acc_base.specs.declared.designs.TxType.{TxType}
use Rattle.acc_base.specs.declared.machines.Call.{Call}
use Rattle.acc_base.specs.declared.machines.Cause.{Cause}
use Rattle.acc_base.specs.declared.machines.Cause.TheVariants as cause
use Rattle.acc_base.specs.declared.machines.Outcome.{Outcome}
use Rattle.acc_base.specs.declared.machines.Outcome.TheVariants.{Committed, Compensated}
use Rattle.acc_base.specs.declared.machines.Reply.{Reply}
use Rattle.acc_base.specs.declared.machines.Turn.{Turn}
use Rattle.acc_base.specs.declared.machines.Turn.TheVariants as turn
use Rattle.acc_base.specs.Items.{item_at}
use Rattle.acc_base.specs.Machine.{World, reply_at}
use Rattle.acc_base.specs.Effects.{point_of}
use Rattle.acc_base.specs.Plays.{Play, Told, Turns, IsStuck, IsOver, IsFull, opening, number_of, play_after}

-- a text and a line feed
abbrev pub line : List ℕ → List ℕ
line text = text ++ 10 ∷ []

-- a space and a number
abbrev pub spaced : ℤ → List ℕ
spaced v = 32 ∷ signed_decimal v

-- why a transaction turned
abbrev pub cause_text : Cause → List ℕ
cause_text (cause.Refused n) = codes "refused " ++ decimal n
cause_text cause.Range = codes "range"
cause_text cause.Limit = codes "limit"
cause_text cause.Asked = codes "asked"
cause_text cause.Victim = codes "victim"
cause_text cause.Crash = codes "crash"

abbrev pub type_name : Option TxType → List ℕ
type_name None = []
type_name (Some x) = x.name

abbrev pub point_name : Option Point → List ℕ
point_name None = []
point_name (Some p) = p.name

-- a point, by its type and its own name
abbrev pub at_text : Design → At → List ℕ
at_text d at = type_name (slice_get d.types at.ty) ++ 46 ∷ point_name (point_of d at.ty at.point)

-- the place of the transaction by which another is blocked
abbrev pub holder_text : Option ℕ → List ℕ
holder_text None = []
holder_text (Some place) = decimal place

-- what a turn did; the places are those of the transactions, by number
abbrev pub turn_text : Design → List ℕ → Turn → List ℕ
turn_text d places (turn.Stepped at) = codes " stepped " ++ at_text d at
turn_text d places (turn.Blocked holder entry) =
    codes " blocked by " ++ (holder_text (item_at holder places) ++ (codes " entry " ++ decimal entry))
turn_text d places (turn.Turned c) = codes " turned " ++ cause_text c
turn_text d places (turn.Back at) = codes " back " ++ at_text d at
turn_text d places turn.Ended = codes " ended"

-- the line of a mention
abbrev pub told_line : Design → List ℕ → Told → List ℕ
told_line d places (Turns place t) = line (decimal place ++ turn_text d places t)
told_line d places (IsStuck place) = line (decimal place ++ codes " stuck")
told_line d places (IsOver place) = line (decimal place ++ codes " over")
told_line d places (IsFull place) = line (decimal place ++ codes " full")

abbrev pub mention_line : Design → Told × Play → List ℕ
mention_line d x = told_line d x.1.places x.0

-- how a transaction ended, with the locals that it returns
abbrev pub outcome_text : Outcome → List ℕ
outcome_text (Committed values) = codes " committed" ++ flat_map spaced values
outcome_text (Compensated c) = codes " compensated " ++ cause_text c

-- what became of a place's transaction, by its reply
abbrev pub rest_text : Option Reply → List ℕ
rest_text (Some reply) = outcome_text reply.outcome
rest_text None = codes " unfinished"

abbrev pub reply_text : World → Option ℕ → List ℕ
reply_text w None = codes " unbegun"
reply_text w (Some t) = rest_text (reply_at t w)

-- the reply line of a place
abbrev pub reply_line : Play → ℕ → List ℕ
reply_line p place = line (decimal place ++ reply_text p.world (number_of p place))

-- after a fault of the disk, by the state whose events are settled: a place without a reply there is unsettled
abbrev pub settled_text : Option Reply → List ℕ
settled_text (Some reply) = outcome_text reply.outcome
settled_text None = codes " unsettled"

abbrev pub settled_line : Play → ℕ → List ℕ
settled_line p place = line (decimal place ++ settled_text (option_and_then (λ t. reply_at t p.world) (number_of p place)))

-- a line each place in the order of the calls, and how many events there were
abbrev pub ending_text : List Call → Play → List ℕ
ending_text calls p = flat_map (reply_line p) (range_with_len 1 (length calls)) ++ line (codes "events " ++ decimal (length p.world.events))

-- what is printed of a play: a line each mention, and then how it ended
abbrev pub play_text : Design → List Call → List (Told × Play) → List ℕ
play_text d calls xs = flat_map (mention_line d) xs ++ ending_text calls (play_after (opening calls) xs)
