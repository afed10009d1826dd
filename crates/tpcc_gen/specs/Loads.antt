-- The load of TPC-C's tables (4.3.3.1), without columns of text: a script of transactions of the types that load.
use Rattle.std.specs.Prelude.{ℕ, ◌+◌, ◌-◌, ◌*◌, ◌/◌, if◌then◌else◌, nat_le, Bool, min, List, [], ◌∷◌, codes}
use Rattle.rand_pcg.specs.Lcg.{Lcg}
use Rattle.tpcc_gen.specs.Draws.{random, each, both, words_from}
use Rattle.tpcc_gen.specs.Writing.{numbers, call_line, taped_line}
use Rattle.tpcc_gen.specs.declared.districts.Part.{Part}
use Rattle.tpcc_gen.specs.declared.districts.Part.TheVariants.{Districts, Customers, Orders}

-- `ldwh w tax` (W_TAX)
unfoldable pub warehouse_line : ℕ → Lcg → List ℕ × Lcg
warehouse_line w g =
    let tax = random 0 2000 g in
    (call_line (codes "ldwh") (w ∷ tax.0 ∷ []), tax.1)

-- `lddist w d tax` (D_TAX)
unfoldable pub district_line : ℕ → ℕ → Lcg → List ℕ × Lcg
district_line w d g =
    let tax = random 0 2000 g in
    (call_line (codes "lddist") (w ∷ d ∷ tax.0 ∷ []), tax.1)

-- into how many runs of up to 100 so many are parted
abbrev pub runs : ℕ → ℕ
runs total = (total + 99) / 100

-- the first number of run r, from 1
abbrev pub run_first : ℕ → ℕ
run_first r = 100 * r - 99

-- how many are in run r: 100, and fewer in the last
abbrev pub run_length : ℕ → ℕ → ℕ
run_length total r = min 100 (total + 1 - run_first r)

-- a number, and one from low to high that is drawn for it
unfoldable pub drawn_for : ℕ → ℕ → ℕ → Lcg → List ℕ × Lcg
drawn_for low high k g =
    let value = random low high g in
    (numbers (k ∷ value.0 ∷ []), value.1)

-- the tape of so many numbers from the first on: each of them, with one that is drawn for it
unfoldable pub run_tape : ℕ → ℕ → ℕ → ℕ → Lcg → List ℕ × Lcg
run_tape low high first count = each (drawn_for low high) count first

-- `lditem n | i price ..` (I_PRICE, from 1.00 to 100.00) of run r
unfoldable pub items_line : ℕ → ℕ → Lcg → List ℕ × Lcg
items_line items r g =
    let tape = run_tape 100 10000 (run_first r) (run_length items r) g in
    (taped_line (codes "lditem") (run_length items r ∷ []) tape.0, tape.1)

-- `ldstock w n | i quantity ..` (S_QUANTITY) of run r
unfoldable pub stock_line : ℕ → ℕ → ℕ → Lcg → List ℕ × Lcg
stock_line items w r g =
    let tape = run_tape 10 100 (run_first r) (run_length items r) g in
    (taped_line (codes "ldstock") (w ∷ run_length items r ∷ []) tape.0, tape.1)

-- `ldcust w d n | c discount ..` (C_DISCOUNT, up to a half) of run r
unfoldable pub customers_line : ℕ → ℕ → ℕ → ℕ → Lcg → List ℕ × Lcg
customers_line customers w d r g =
    let tape = run_tape 0 5000 (run_first r) (run_length customers r) g in
    (taped_line (codes "ldcust") (w ∷ d ∷ run_length customers r ∷ []) tape.0, tape.1)

-- whether order o is delivered from the beginning: the first seven tenths are
abbrev pub is_delivered : ℕ → ℕ → Bool
is_delivered customers o = nat_le (10 * o) (7 * customers)

-- O_CARRIER_ID: from 1 to 10 where the order is delivered, else none, 0
unfoldable pub carrier : Bool → Lcg → ℕ × Lcg
carrier delivered g = if delivered then random 1 10 g else (0, g)

-- whether its lines have a date of delivery
abbrev pub dated : Bool → ℕ
dated delivered = if delivered then 1 else 0

-- OL_AMOUNT: 0 where the order is delivered, else from 0.01 to 9,999.99
unfoldable pub amount : Bool → Lcg → ℕ × Lcg
amount delivered g = if delivered then (0, g) else random 1 999999 g

-- `i s amount` of an order's line: an item that is drawn, the warehouse itself as supplier, and the amount
unfoldable pub order_part : ℕ → ℕ → Bool → Lcg → List ℕ × Lcg
order_part items w delivered g =
    let item = random 1 items g in
    let cents = amount delivered item.1 in
    (numbers (item.0 ∷ w ∷ cents.0 ∷ []), cents.1)

-- the tape of an order of so many lines
unfoldable pub order_tape : ℕ → ℕ → Bool → ℕ → Lcg → List ℕ × Lcg
order_tape items w delivered count = each (λ _. order_part items w delivered) count 1

-- `ldorder w d c n 1 carrier dated | i s amount ..` of order o: it is that of the last customer but o - 1, and has 5 to 15 lines
unfoldable pub order_line : ℕ → ℕ → ℕ → ℕ → ℕ → Lcg → List ℕ × Lcg
order_line items customers w d o g =
    let delivered = is_delivered customers o in
    let count = random 5 15 g in
    let by = carrier delivered count.1 in
    let tape = order_tape items w delivered count.0 by.1 in
    (taped_line (codes "ldorder") (w ∷ d ∷ (customers + 1 - o) ∷ count.0 ∷ 1 ∷ by.0 ∷ dated delivered ∷ []) tape.0, tape.1)

-- the line or lines of a part for one district
unfoldable pub district_part : Part → ℕ → ℕ → ℕ → ℕ → Lcg → List ℕ × Lcg
district_part Districts items customers w d = district_line w d
district_part Customers items customers w d = each (customers_line customers w d) (runs customers) 1
district_part Orders items customers w d = each (order_line items customers w d) customers 1

-- a part for each district of a warehouse
unfoldable pub districts_part : Part → ℕ → ℕ → ℕ → Lcg → List ℕ × Lcg
districts_part part items customers w = each (district_part part items customers w) 10 1

-- a part for each district of each warehouse
unfoldable pub all_districts : Part → ℕ → ℕ → ℕ → Lcg → List ℕ × Lcg
all_districts part warehouses items customers = each (districts_part part items customers) warehouses 1

-- the stock of a warehouse
unfoldable pub stock_of : ℕ → ℕ → Lcg → List ℕ × Lcg
stock_of items w = each (stock_line items w) (runs items) 1

-- warehouses, districts, items, stock, customers, and the first orders of each district
unfoldable pub load : ℕ → ℕ → ℕ → Lcg → List ℕ × Lcg
load warehouses items customers =
    both (each warehouse_line warehouses 1)
    (both (all_districts Districts warehouses items customers)
    (both (each (items_line items) (runs items) 1)
    (both (each (stock_of items) warehouses 1)
    (both (all_districts Customers warehouses items customers)
    (all_districts Orders warehouses items customers)))))

-- the script of the load
abbrev pub load_text : ℕ → ℕ → ℕ → List ℕ
load_text warehouses items customers = (load warehouses items customers (words_from 1)).0
