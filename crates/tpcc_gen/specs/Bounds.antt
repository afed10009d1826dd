-- How large a workload may be.
use Rattle.std.specs.Prelude.{ℕ, ◌≤◌}
use Rattle.tpcc_gen.specs.declared.bounds.TheConstants.{MOST_WAREHOUSES, MOST_ITEMS, MOST_CUSTOMERS, MOST_TRANSACTIONS, LARGEST_START}

-- so many warehouses, items, and customers of each district
pub record IsScale (warehouses items customers : ℕ) : Type 0 where
  pub some_warehouse : 1 ≤ warehouses
  pub few_warehouses : warehouses ≤ MOST_WAREHOUSES
  pub some_item : 1 ≤ items
  pub few_items : items ≤ MOST_ITEMS
  pub some_customer : 1 ≤ customers
  pub few_customers : customers ≤ MOST_CUSTOMERS

-- so many transactions behind the load, drawn from this number
abbrev pub IsMix : ℕ → ℕ → Type 0
IsMix count start = (count ≤ MOST_TRANSACTIONS) × (start ≤ LARGEST_START)
