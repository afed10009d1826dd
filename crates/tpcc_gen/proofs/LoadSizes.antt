-- How long the script of a load may be.
use Rattle.std.proofs.Common.{ℕ, ◌+◌, ◌-◌, ◌*◌, ◌<◌, ◌≤◌, Bool, true, false, [], ◌∷◌, length, codes, arith}
use Rattle.rand_pcg.specs.Lcg.{Lcg}
use Rattle.tpcc_gen.specs.Bounds.{IsScale}
use Rattle.tpcc_gen.specs.Draws.{random, each, both}
use Rattle.tpcc_gen.specs.Loads.{warehouse_line, district_line, runs, run_first, run_length, drawn_for, run_tape, items_line, stock_line}
use Rattle.tpcc_gen.specs.Loads.{customers_line, is_delivered, carrier, dated, amount, order_part, order_tape, order_line, district_part}
use Rattle.tpcc_gen.specs.Loads.{districts_part, all_districts, stock_of, load}
use Rattle.tpcc_gen.specs.declared.districts.Part.{Part}
use Rattle.tpcc_gen.specs.declared.districts.Part.TheVariants.{Districts, Customers, Orders}
use Rattle.tpcc_gen.proofs.Sizes.{numbers_short, call_line_short, taped_line_short, each_few, both_short, random_within, either}

warehouse_short : (w : ℕ) → w < 11 → (g : Lcg) → length (warehouse_line w g).0 ≤ 19
unfolding warehouse_line
warehouse_short w small g =
    let tax = random_within 0 2000 g (omega arith) in
    call_line_short (codes "ldwh") (w ∷ (random 0 2000 g).0 ∷ []) (omega arith, (omega (arith, tax), tt))

district_short : (w d : ℕ) → w < 11 → d < 11 → (g : Lcg) → length (district_line w d g).0 ≤ 28
unfolding district_line
district_short w d one other g =
    let tax = random_within 0 2000 g (omega arith) in
    call_line_short (codes "lddist") (w ∷ d ∷ (random 0 2000 g).0 ∷ []) (omega arith, (omega arith, (omega (arith, tax), tt)))

drawn_short :
    (low high k : ℕ) → low ≤ high → high < 1000000 → k < 1000000 → (g : Lcg) → length (drawn_for low high k g).0 ≤ 14
unfolding drawn_for
drawn_short low high k some small fits g =
    let value = random_within low high g some in
    numbers_short (k ∷ (random low high g).0 ∷ []) (fits, (omega (arith, value), tt))

run_within : (total r : ℕ) → r < 1001 → run_first r + run_length total r ≤ 1000000
run_within total r small = omega arith

run_few : (total r : ℕ) → run_length total r ≤ 100
run_few total r = omega arith

tape_short :
    (low high total r : ℕ) → low ≤ high → high < 1000000 → r < 1001 → (g : Lcg)
    → length (run_tape low high (run_first r) (run_length total r) g).0 ≤ 1400
unfolding run_tape
tape_short low high total r some small fits g =
    each_few (drawn_for low high) 14 1000000 100 (λ k within h. drawn_short low high k some small within h) (run_length total r)
    (run_first r) (run_within total r fits) (run_few total r) g

items_short : (items r : ℕ) → r < 1001 → (g : Lcg) → length (items_line items r g).0 ≤ 1416
unfolding items_line
items_short items r small g =
    taped_line_short (codes "lditem") (run_length items r ∷ []) _ 1400 (omega (arith, run_few items r), tt)
    (tape_short 100 10000 items r (omega arith) (omega arith) small g)

stock_short : (items w r : ℕ) → w < 11 → r < 1001 → (g : Lcg) → length (stock_line items w r g).0 ≤ 1424
unfolding stock_line
stock_short items w r home small g =
    taped_line_short (codes "ldstock") (w ∷ run_length items r ∷ []) _ 1400 (omega arith, (omega (arith, run_few items r), tt))
    (tape_short 10 100 items r (omega arith) (omega arith) small g)

customers_short :
    (customers w d r : ℕ) → w < 11 → d < 11 → r < 1001 → (g : Lcg) → length (customers_line customers w d r g).0 ≤ 1430
unfolding customers_line
customers_short customers w d r home place small g =
    taped_line_short (codes "ldcust") (w ∷ d ∷ run_length customers r ∷ []) _ 1400
    (omega arith, (omega arith, (omega (arith, run_few customers r), tt)))
    (tape_short 0 5000 customers r (omega arith) (omega arith) small g)

carrier_within : (delivered : Bool) (g : Lcg) → (carrier delivered g).0 ≤ 10
unfolding carrier
carrier_within delivered g = either (λ (x : ℕ × Lcg). x.0 ≤ 10) delivered (random 1 10 g) (0, g) (random_within 1 10 g (omega arith)) (omega arith)

amount_within : (delivered : Bool) (g : Lcg) → (amount delivered g).0 ≤ 999999
unfolding amount
amount_within delivered g =
    either (λ (x : ℕ × Lcg). x.0 ≤ 999999) delivered (0, g) (random 1 999999 g) (omega arith) (random_within 1 999999 g (omega arith))

dated_within : (delivered : Bool) → dated delivered ≤ 1
dated_within true = omega arith
dated_within false = omega arith

part_short :
    (items w : ℕ) (delivered : Bool) → 1 ≤ items → items ≤ 100000 → w < 11 → (g : Lcg)
    → length (order_part items w delivered g).0 ≤ 21
unfolding order_part
part_short items w delivered some few home g =
    let thing = random_within 1 items g some in
    let cents = amount_within delivered (random 1 items g).1 in
    numbers_short ((random 1 items g).0 ∷ w ∷ (amount delivered (random 1 items g).1).0 ∷ [])
    (omega (arith, thing), (omega arith, (omega (arith, cents), tt)))

order_tape_short :
    (items w : ℕ) (delivered : Bool) (count : ℕ) → 1 ≤ items → items ≤ 100000 → w < 11 → count ≤ 15 → (g : Lcg)
    → length (order_tape items w delivered count g).0 ≤ 315
unfolding order_tape
order_tape_short items w delivered count some few home lines g =
    each_few (λ _. order_part items w delivered) 21 16 15 (λ k within h. part_short items w delivered some few home h) count 1
    (omega arith) lines g

order_short :
    (items customers w d o : ℕ) → 1 ≤ items → items ≤ 100000 → customers ≤ 3000 → w < 11 → d < 11 → (g : Lcg)
    → length (order_line items customers w d o g).0 ≤ 374
unfolding order_line
order_short items customers w d o some few buyers home place g =
    let delivered = is_delivered customers o in
    let count = random 5 15 g in
    let by = carrier delivered count.1 in
    let lines = random_within 5 15 g (omega arith) in
    taped_line_short (codes "ldorder")
    (w ∷ d ∷ (customers + 1 - o) ∷ count.0 ∷ 1 ∷ by.0 ∷ dated delivered ∷ []) _ 315 (
      omega arith,
      (
        omega arith,
        (
          omega arith,
          (
            omega (arith, lines),
            (
              omega arith,
              (
                omega (arith, carrier_within delivered count.1),
                (omega (arith, dated_within delivered), tt),
              ),
            ),
          ),
        ),
      ),
    )
    (order_tape_short items w delivered count.0 some few home lines by.1)

-- how long a part is for one district
abbrev most_of : Part → ℕ
most_of Districts = 28
most_of Customers = 42900
most_of Orders = 1122000

part_within :
    (part : Part) (items customers w d : ℕ) → 1 ≤ items → items ≤ 100000 → customers ≤ 3000 → w < 11 → d < 11 → (g : Lcg)
    → length (district_part part items customers w d g).0 ≤ most_of part
unfolding district_part
part_within Districts items customers w d some few buyers home place g = district_short w d home place g
part_within Customers items customers w d some few buyers home place g =
    each_few (customers_line customers w d) 1430 1001 30 (λ k within h. customers_short customers w d k home place within h)
    (runs customers) 1 (omega arith) (omega arith) g
part_within Orders items customers w d some few buyers home place g =
    each_few (order_line items customers w d) 374 3001 3000
    (λ k _ h. order_short items customers w d k some few buyers home place h) customers 1 (omega arith) buyers g

parts_within :
    (part : Part) (items customers w : ℕ) → 1 ≤ items → items ≤ 100000 → customers ≤ 3000 → w < 11 → (g : Lcg)
    → length (districts_part part items customers w g).0 ≤ most_of part * 10
unfolding districts_part
parts_within part items customers w some few buyers home g =
    each_few (district_part part items customers w) (most_of part) 11 10
    (λ d place h. part_within part items customers w d some few buyers home place h) 10 1 (omega arith) (omega arith) g

all_within :
    (part : Part) (warehouses items customers : ℕ) → warehouses ≤ 10 → 1 ≤ items → items ≤ 100000 → customers ≤ 3000 → (g : Lcg)
    → length (all_districts part warehouses items customers g).0 ≤ most_of part * 10 * 10
unfolding all_districts
all_within part warehouses items customers homes some few buyers g =
    each_few (districts_part part items customers) (most_of part * 10) 11 10
    (λ w home h. parts_within part items customers w some few buyers home h) warehouses 1 (omega arith) homes g

stock_within : (items w : ℕ) → items ≤ 100000 → w < 11 → (g : Lcg) → length (stock_of items w g).0 ≤ 1424000
unfolding stock_of
stock_within items w few home g =
    each_few (stock_line items w) 1424 1001 1000 (λ r within h. stock_short items w r home within h) (runs items) 1 (omega arith)
    (omega arith) g

-- fewer than 2^27 bytes
pub load_short :
    (warehouses items customers : ℕ) → IsScale warehouses items customers → (g : Lcg)
    → length (load warehouses items customers g).0 < 134217728
unfolding load
load_short warehouses items customers scale g =
    let homes = λ (h : Lcg). each_few warehouse_line 19 11 10 (λ w home k. warehouse_short w home k) warehouses 1
    (omega (arith, scale.few_warehouses)) scale.few_warehouses h in
    let part = λ (p : Part) (h : Lcg). all_within p warehouses items customers scale.few_warehouses scale.some_item scale.few_items
    scale.few_customers h in
    let goods = λ (h : Lcg). each_few (items_line items) 1416 1001 1000 (λ r within k. items_short items r within k) (runs items) 1
    (omega (arith, scale.few_items)) (omega (arith, scale.few_items)) h in
    let stock = λ (h : Lcg). each_few (stock_of items) 1424000 11 10 (λ w home k. stock_within items w scale.few_items home k)
    warehouses 1 (omega (arith, scale.few_warehouses)) scale.few_warehouses h in
    let last = both (all_districts Customers warehouses items customers) (all_districts Orders warehouses items customers) in
    let from_stock = both (each (stock_of items) warehouses 1) last in
    let from_items = both (each (items_line items) (runs items) 1) from_stock in
    let from_districts = both (all_districts Districts warehouses items customers) from_items in
    let three = both_short (all_districts Customers warehouses items customers) (all_districts Orders warehouses items customers)
    4290000 112200000 (part Customers) (part Orders) in
    let four = both_short (each (stock_of items) warehouses 1) last 14240000 116490000 stock three in
    let five = both_short (each (items_line items) (runs items) 1) from_stock 1416000 130730000 goods four in
    let six = both_short (all_districts Districts warehouses items customers) from_items 2800 132146000 (part Districts) five in
    let all = both_short (each warehouse_line warehouses 1) from_districts 190 132148800 homes six g in
    omega (arith, all)
