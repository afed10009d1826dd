use Rattle.std.proofs.Common.{◌≡◌, Some, length, map, take}
use Rattle.tpcc_tables.specs.Schema.{number_in}
use Rattle.tpcc_tables.proofs.tables.numbers_in.Given as goal

-- the tables so far are found
abbrev pub invariant-loop-at : goal.invariant-loop-at
invariant-loop-at l =
    record {
      found : map Some l.numbers ≡ map (number_in l.tables) (take l.at l.schema);
      many : length l.numbers ≡ l.at;
    }
