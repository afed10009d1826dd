-- How many bytes the events Begin of calls take in a journal.
-- Clause `short` of `calls` speaks of this, for the journal.
use Rattle.std.specs.Prelude.{ℕ, ◌+◌, ◌*◌, List, length}
use Rattle.std.specs.List.{sum_by}
use Rattle.acc_base.specs.declared.machines.Call.{Call}

-- one byte for the kind of event, two for the type; one for how many parameters there are, and eight for each; two for how long
-- the tape is, and eight for each of its numbers; four for the asked abort
abbrev pub begin_size : Call → ℕ
begin_size call = 1 + 2 + (1 + 8 * length call.params) + (2 + 8 * length call.tape) + 4

abbrev pub begins_size : List Call → ℕ
begins_size calls = sum_by begin_size calls
