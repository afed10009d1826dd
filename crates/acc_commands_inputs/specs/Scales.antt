-- How large a workload of TPC-C may be.
use Rattle.std.specs.Prelude.{◌≤◌, ℕ, Bool, ◌&&◌, nat_le}
use Rattle.tpcc_gen.specs.declared.bounds.TheConstants.{MOST_WAREHOUSES, MOST_ITEMS, MOST_CUSTOMERS, MOST_TRANSACTIONS, LARGEST_START}
use Rattle.acc_commands_inputs.specs.declared.scales.AskedScale.{AskedScale}
use Rattle.acc_commands_inputs.specs.declared.scales.Mix.{Mix}

-- the number is one of these
abbrev pub IsWithin : ℕ → ℕ → ℕ → Type 0
IsWithin least most n = (least ≤ n) × (n ≤ most)

abbrev pub is_within : ℕ → ℕ → ℕ → Bool
is_within least most n = nat_le least n && nat_le n most

-- so many warehouses, items, and customers of each district
abbrev pub is_scale : AskedScale → Bool
is_scale s = is_within 1 MOST_WAREHOUSES s.warehouses && is_within 1 MOST_ITEMS s.items && is_within 1 MOST_CUSTOMERS s.customers

-- so many transactions behind such a load, drawn from this number
abbrev pub is_mix : Mix → Bool
is_mix m = is_scale m.scale && nat_le m.count MOST_TRANSACTIONS && nat_le m.start LARGEST_START
