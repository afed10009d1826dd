-- The mix of TPC-C's transactions (5.2.3), as a script.
use Rattle.std.specs.Prelude.{ℕ, ◌+◌, ◌-◌, ◌==◌, ◌&&◌, if◌then◌else◌, nat_le, nat_lt, List, [], ◌∷◌, codes}
use Rattle.rand_pcg.specs.Lcg.{Lcg}
use Rattle.tpcc_gen.specs.Draws.{random, uneven, each, words_from}
use Rattle.tpcc_gen.specs.Writing.{numbers, call_line, taped_line}
use Rattle.tpcc_gen.specs.declared.homes.District.{District}
use Rattle.tpcc_gen.specs.declared.kinds.Kind.{Kind}
use Rattle.tpcc_gen.specs.declared.new_orders.Lines.{Lines}
use Rattle.tpcc_gen.specs.declared.kinds.Kind.TheVariants.{NewOrder, Payment, OrderStatus, Delivery, StockLevel}

-- the kind that a number from 1 to 100 stands for: 45 stand for a New-Order, 43 for a Payment, and 4 for each other kind
abbrev pub kind_of : ℕ → Kind
kind_of x =
    if nat_le x 45 then NewOrder else
    (if nat_le x 88 then Payment else
    (if nat_le x 92 then OrderStatus else
    (if nat_le x 96 then Delivery else StockLevel)))

-- a district of a warehouse
abbrev pub district : Lcg → ℕ × Lcg
district g = random 1 10 g

-- a customer of a district (2.4.1.2, 2.5.1.2, 2.6.1.2)
abbrev pub customer : ℕ → Lcg → ℕ × Lcg
customer customers g = uneven 1023 1 customers g

-- a warehouse other than w
unfoldable pub another : ℕ → ℕ → Lcg → ℕ × Lcg
another warehouses w g =
    let v = random 1 (warehouses - 1) g in
    (if nat_lt v.0 w then v.0 else v.0 + 1, v.1)

-- the supplier of a line (2.4.1.5): another warehouse in one of 100, where there is one
unfoldable pub supplier : ℕ → ℕ → Lcg → ℕ × Lcg
supplier warehouses w g =
    let y = random 1 100 g in
    (if y.0 == 1 && nat_lt 1 warehouses then another warehouses w y.1 else (w, y.1))

-- how many lines an order has (2.4.1.3), and whether it is to fail (2.4.1.4), as one of 100 is
unfoldable pub drawn_lines : Lcg → Lines × Lcg
drawn_lines g =
    let n = random 5 15 g in
    let u = random 1 100 n.1 in
    (record { count = n.0; fails = u.0 == 1 }, u.1)

-- the item of line k (2.4.1.5); the last one is an unused item where the order is to fail (2.4.1.4), and is drawn all the same
unfoldable pub item : ℕ → Lines → ℕ → Lcg → ℕ × Lcg
item items lines k g =
    let i = uneven 8191 1 items g in
    (if lines.fails && k == lines.count then items + 1 else i.0, i.1)

-- `i s q` of a New-Order's line k: the item, its supplier, and 1 to 10 pieces
unfoldable pub new_order_part : ℕ → ℕ → ℕ → Lines → ℕ → Lcg → List ℕ × Lcg
new_order_part warehouses items w lines k g =
    let i = item items lines k g in
    let s = supplier warehouses w i.1 in
    let q = random 1 10 s.1 in
    (numbers (i.0 ∷ s.0 ∷ q.0 ∷ []), q.1)

-- `neworder w d c n place | i s q ..` (2.4.1)
unfoldable pub new_order_line : ℕ → ℕ → ℕ → ℕ → ℕ → Lcg → List ℕ × Lcg
new_order_line warehouses items customers place w g =
    let d = district g in
    let c = customer customers d.1 in
    let lines = drawn_lines c.1 in
    let tape = each (new_order_part warehouses items w lines.0) lines.0.count 1 lines.1 in
    (taped_line (codes "neworder") (w ∷ d.0 ∷ c.0 ∷ lines.0.count ∷ place ∷ []) tape.0, tape.1)

-- a district of a warehouse other than w
unfoldable pub remote : ℕ → ℕ → Lcg → District × Lcg
remote warehouses w g =
    let v = another warehouses w g in
    let d = district v.1 in
    (record { warehouse = v.0; number = d.0 }, d.1)

-- the district of the customer who pays at a district (2.5.1.2): in 15 of 100 one of another warehouse, where there is one
unfoldable pub payer : ℕ → District → Lcg → District × Lcg
payer warehouses at g =
    let y = random 1 100 g in
    (if nat_lt 85 y.0 && nat_lt 1 warehouses then remote warehouses at.warehouse y.1 else (at, y.1))

-- `payment w d cw cd c amount` (2.5.1), of 1.00 to 5,000.00
unfoldable pub payment_line : ℕ → ℕ → ℕ → Lcg → List ℕ × Lcg
payment_line warehouses customers w g =
    let d = district g in
    let home = payer warehouses (record { warehouse = w; number = d.0 }) d.1 in
    let c = customer customers home.1 in
    let cents = random 100 500000 c.1 in
    (call_line (codes "payment") (w ∷ d.0 ∷ home.0.warehouse ∷ home.0.number ∷ c.0 ∷ cents.0 ∷ []), cents.1)

-- `orderstatus w d c` (2.6.1)
unfoldable pub order_status_line : ℕ → ℕ → Lcg → List ℕ × Lcg
order_status_line customers w g =
    let d = district g in
    let c = customer customers d.1 in
    (call_line (codes "orderstatus") (w ∷ d.0 ∷ c.0 ∷ []), c.1)

-- `delivery w carrier place` (2.7.1)
unfoldable pub delivery_line : ℕ → ℕ → Lcg → List ℕ × Lcg
delivery_line place w g =
    let by = random 1 10 g in
    (call_line (codes "delivery") (w ∷ by.0 ∷ place ∷ []), by.1)

-- `stocklevel w d threshold` (2.8.1)
unfoldable pub stock_level_line : ℕ → Lcg → List ℕ × Lcg
stock_level_line w g =
    let d = district g in
    let threshold = random 10 20 d.1 in
    (call_line (codes "stocklevel") (w ∷ d.0 ∷ threshold.0 ∷ []), threshold.1)

-- the line of a kind, for a warehouse
unfoldable pub kind_line : ℕ → ℕ → ℕ → ℕ → Kind → ℕ → Lcg → List ℕ × Lcg
kind_line warehouses items customers place NewOrder w = new_order_line warehouses items customers place w
kind_line warehouses items customers place Payment w = payment_line warehouses customers w
kind_line warehouses items customers place OrderStatus w = order_status_line customers w
kind_line warehouses items customers place Delivery w = delivery_line place w
kind_line warehouses items customers place StockLevel w = stock_level_line w

-- the line of a place: its kind, and a warehouse, are drawn first
unfoldable pub place_line : ℕ → ℕ → ℕ → ℕ → Lcg → List ℕ × Lcg
place_line warehouses items customers place g =
    let x = random 1 100 g in
    let w = random 1 warehouses x.1 in
    kind_line warehouses items customers place (kind_of x.0) w.0 w.1

-- a line each place, from 1 to count
unfoldable pub mix : ℕ → ℕ → ℕ → ℕ → Lcg → List ℕ × Lcg
mix warehouses items customers count = each (place_line warehouses items customers) count 1

-- the script of the mix
abbrev pub mix_text : ℕ → ℕ → ℕ → ℕ → ℕ → List ℕ
mix_text warehouses items customers count start = (mix warehouses items customers count (words_from start)).0
