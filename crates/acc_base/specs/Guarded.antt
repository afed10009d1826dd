-- The small design of cells with an entry, by which the rules of locks are tried: where a counter has read a cell and not yet
-- written it, the entry forbids another counter to read it.
use Rattle.std.specs.Prelude.{[], List, ◌∷◌, pos}
use Rattle.acc_base.specs.declared.designs.At.{At}
use Rattle.acc_base.specs.declared.designs.Design.{Design}
use Rattle.acc_base.specs.declared.designs.Entry.{Entry}
use Rattle.acc_base.specs.declared.designs.Side.TheVariants.{Next}
use Rattle.acc_base.specs.declared.machines.Event.{Event}
use Rattle.acc_base.specs.declared.machines.Event.TheVariants.{Begin, Step}
use Rattle.acc_base.specs.Cells.{cells, call_of}

-- a counter has read its cell, and it is about to
abbrev pub has_read : At
has_read = record { ty = 1; point = 1 }

abbrev pub reads_next : At
reads_next = record { ty = 1; point = 0 }

-- for counters of the same cell
abbrev pub one_at_a_time : Entry
one_at_a_time = record { held = has_read; step = reads_next; side = Next; pairs = (0, 0) ∷ [] }

abbrev pub guarded : Design
guarded = record cells { entries = one_at_a_time ∷ [] }

-- cell 1 is made, and two counters read it before either writes it
abbrev pub both_read : List Event
both_read =
    Begin (call_of 0 (pos 1)) ∷ Step 1 ∷ Begin (call_of 1 (pos 1)) ∷ Step 2 ∷ Begin (call_of 1 (pos 1)) ∷ Step 3 ∷ Step 2 ∷ Step 3 ∷ []

-- or one after the other
abbrev pub in_turn : List Event
in_turn =
    Begin (call_of 0 (pos 1)) ∷ Step 1 ∷ Begin (call_of 1 (pos 1)) ∷ Step 2 ∷ Begin (call_of 1 (pos 1)) ∷ Step 2 ∷ Step 3 ∷ Step 3 ∷ []
