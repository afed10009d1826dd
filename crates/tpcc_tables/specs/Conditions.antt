-- The consistency conditions 1 to 9 of TPC-C (clauses 3.3.2.1 to 3.3.2.9 of the standard), each as a test that every row of one table
-- has to pass. The greatest of no number is 0.
use Rattle.std.specs.Prelude.{◌≡◌, ℕ, ◌+◌, ◌-◌, ◌==◌, Bool, false, not, ◌&&◌, ◌||◌, if◌then◌else◌, List, [], ◌∷◌, All}
use Rattle.std.specs.Prelude.{slice_index_or, count_by, ℤ, pos, ◌+ℤ◌, ◌-ℤ◌}
use Rattle.std.specs.List.{list_any}
use Rattle.std.specs.Ordering.{int_eq}
use Rattle.std.specs.Cmp.Lexicographic.{pointwise}
use Rattle.acc_base.specs.declared.tables.Row.{Row}
use Rattle.acc_base.specs.Tables.{is_at, cell, column_of, count_of, sum_of, least_of, greatest_of}
use Rattle.tpcc_tables.specs.declared.columns.TheConstants.{YTD, NEXT_ORDER, CARRIER, LINE_COUNT, DELIVERY_DATE, AMOUNT}
use Rattle.tpcc_tables.specs.declared.kinds.Condition.{Condition}
use Rattle.tpcc_tables.specs.declared.kinds.Condition.TheVariants as condition
use Rattle.tpcc_tables.specs.declared.kinds.TheConstants.{CONDITIONS}
use Rattle.tpcc_tables.specs.declared.tables.SchemaTable.{SchemaTable}
use Rattle.tpcc_tables.specs.declared.tables.SchemaTable.TheVariants as table
use Rattle.tpcc_tables.specs.declared.tables.TableSet.{TableSet}
use Rattle.tpcc_tables.specs.Schema.{number_of}

-- ---- the orders of lines

-- a part of a key, which is 0 where the key is shorter
abbrev pub part : ℕ → List ℤ → ℤ
part n key = slice_index_or key n (pos 0)

-- the key of the order of a line: its warehouse, its district and its number
abbrev pub order_key : List ℤ → List ℤ
order_key key = part 0 key ∷ part 1 key ∷ part 3 key ∷ []

-- whether a row is a line, of the table with this number, of the order with this key
abbrev pub is_line_of : ℕ → List ℤ → Row → Bool
is_line_of line key r = (r.table == line) && pointwise int_eq key (order_key r.key.parts)

-- ---- the tests

-- both or neither
abbrev pub same : Bool → Bool → Bool
same a b = if a then b else not b

module _ (s : TableSet) (db : List Row) where
  abbrev pub neworder : ℕ
  neworder = number_of s table.NewOrder

  abbrev pub orders : ℕ
  orders = number_of s table.Orders

  abbrev pub line : ℕ
  line = number_of s table.OrderLine

  -- 1: what a warehouse took is what its districts took
  abbrev pub districts_add_up : Row → Bool
  districts_add_up r = int_eq (cell YTD r) (sum_of db (number_of s table.District) r.key.parts YTD)

  -- 2: the order before the district's next is its last, and where orders wait to be delivered it is the last of those
  abbrev pub last_order : Row → Bool
  last_order r =
      int_eq (cell NEXT_ORDER r -ℤ pos 1) (greatest_of db orders r.key.parts)
      && (int_eq (count_of db neworder r.key.parts) (pos 0) || int_eq (cell NEXT_ORDER r -ℤ pos 1) (greatest_of db neworder r.key.parts))

  -- 3: where orders of the district wait, as many do as there are numbers from the first to the last of them
  abbrev pub waiting_orders : Row → Bool
  waiting_orders r =
      int_eq (count_of db neworder r.key.parts) (pos 0)
      || int_eq ((greatest_of db neworder r.key.parts -ℤ least_of db neworder r.key.parts) +ℤ pos 1) (count_of db neworder r.key.parts)

  -- 4: the orders of the district have as many lines as they say, together
  abbrev pub district_lines : Row → Bool
  district_lines r = int_eq (sum_of db orders r.key.parts LINE_COUNT) (count_of db line r.key.parts)

  -- 5: an order has no carrier exactly where it waits
  abbrev pub carriers : Row → Bool
  carriers r = same (int_eq (cell CARRIER r) (pos 0)) (list_any (is_at neworder r.key.parts) db)

  -- 6: an order has as many lines as it says
  abbrev pub order_lines : Row → Bool
  order_lines r = int_eq (cell LINE_COUNT r) (pos (count_by (is_line_of line r.key.parts) db))

  -- 7: a line has no date exactly where its order has no carrier
  abbrev pub dates : Row → Bool
  dates r = same (int_eq (cell DELIVERY_DATE r) (pos 0)) (int_eq (column_of db orders (order_key r.key.parts) CARRIER) (pos 0))

  -- 8 and 9: what a warehouse, or a district, took is what its payments were
  abbrev pub payments_add_up : Row → Bool
  payments_add_up r = int_eq (cell YTD r) (sum_of db (number_of s table.History) r.key.parts AMOUNT)

-- ---- the conditions

-- the table that a condition speaks of
abbrev pub table_of : Condition → SchemaTable
table_of condition.WarehouseDistricts = table.Warehouse
table_of condition.LastOrders = table.District
table_of condition.WaitingOrders = table.District
table_of condition.DistrictLines = table.District
table_of condition.Carriers = table.Orders
table_of condition.OrderLines = table.Orders
table_of condition.Dates = table.OrderLine
table_of condition.WarehousePayments = table.Warehouse
table_of condition.DistrictPayments = table.District

-- the test that each row of it has to pass
abbrev pub passes : Condition → TableSet → List Row → Row → Bool
passes condition.WarehouseDistricts s db = districts_add_up s db
passes condition.LastOrders s db = last_order s db
passes condition.WaitingOrders s db = waiting_orders s db
passes condition.DistrictLines s db = district_lines s db
passes condition.Carriers s db = carriers s db
passes condition.OrderLines s db = order_lines s db
passes condition.Dates s db = dates s db
passes condition.WarehousePayments s db = payments_add_up s db
passes condition.DistrictPayments s db = payments_add_up s db

-- whether a row shows that a condition is false
abbrev pub is_wrong : Condition → TableSet → List Row → Row → Bool
is_wrong c s db r = (r.table == number_of s (table_of c)) && not (passes c s db r)

-- a condition is true of the rows
abbrev pub IsTrueOf : TableSet → List Row → Condition → Type 0
IsTrueOf s db c = All (λ r. is_wrong c s db r ≡ false) db
