-- How long the script of a mix may be.
use Rattle.std.proofs.Common.{ℕ, ◌+◌, ◌-◌, ◌<◌, ◌≤◌, [], ◌∷◌, length, codes, arith}
use Rattle.std.specs.Prelude.{nat_lt, ◌==◌, ◌&&◌}
use Rattle.rand_pcg.specs.Lcg.{Lcg}
use Rattle.tpcc_gen.specs.Bounds.{IsScale}
use Rattle.tpcc_gen.specs.Draws.{random, uneven}
use Rattle.tpcc_gen.specs.Mixes.{kind_of, district, customer, another, supplier, drawn_lines, item, new_order_part, new_order_line}
use Rattle.tpcc_gen.specs.Mixes.{remote, payer, payment_line, order_status_line, delivery_line, stock_level_line, kind_line, place_line, mix}
use Rattle.tpcc_gen.specs.declared.homes.District.{District}
use Rattle.tpcc_gen.specs.declared.kinds.Kind.{Kind}
use Rattle.tpcc_gen.specs.declared.kinds.Kind.TheVariants.{NewOrder, Payment, OrderStatus, Delivery, StockLevel}
use Rattle.tpcc_gen.specs.declared.new_orders.Lines.{Lines}
use Rattle.tpcc_gen.proofs.Sizes.{numbers_short, call_line_short, taped_line_short, each_few, random_within, uneven_within, either}

another_within : (warehouses w : ℕ) (g : Lcg) → 1 ≤ warehouses → warehouses ≤ 10 → (another warehouses w g).0 ≤ 11
unfolding another random
another_within warehouses w g some few =
    either (λ (x : ℕ). x ≤ 11) (nat_lt (random 1 (warehouses - 1) g).0 w) (random 1 (warehouses - 1) g).0
    ((random 1 (warehouses - 1) g).0 + 1)
    (omega arith) (omega arith)

supplier_within : (warehouses w : ℕ) (g : Lcg) → 1 ≤ warehouses → warehouses ≤ 10 → w < 11 → (supplier warehouses w g).0 ≤ 11
unfolding supplier
supplier_within warehouses w g some few home =
    let y = random 1 100 g in
    either (λ (x : ℕ × Lcg). x.0 ≤ 11) (y.0 == 1 && nat_lt 1 warehouses) (another warehouses w y.1) (w, y.1)
    (another_within warehouses w y.1 some few) (omega arith)

item_within : (items : ℕ) (lines : Lines) (k : ℕ) (g : Lcg) → 1 ≤ items → items ≤ 100000 → (item items lines k g).0 ≤ 100001
unfolding item
item_within items lines k g some few =
    let drawn = uneven_within 8191 1 items g some in
    either (λ (x : ℕ). x ≤ 100001) (lines.fails && k == lines.count) (items + 1) (uneven 8191 1 items g).0 (omega arith) (omega (arith, drawn))

part_short :
    (warehouses items customers w : ℕ) (lines : Lines) (k : ℕ) → IsScale warehouses items customers → w < 11 → (g : Lcg)
    → length (new_order_part warehouses items w lines k g).0 ≤ 21
unfolding new_order_part
part_short warehouses items customers w lines k scale home g =
    let i = item items lines k g in
    let s = supplier warehouses w i.1 in
    let thing = item_within items lines k g scale.some_item scale.few_items in
    let from = supplier_within warehouses w i.1 scale.some_warehouse scale.few_warehouses home in
    let pieces = random_within 1 10 s.1 (omega arith) in
    numbers_short (i.0 ∷ s.0 ∷ (random 1 10 s.1).0 ∷ []) (omega (arith, thing), (omega (arith, from), (omega (arith, pieces), tt)))

lines_few : (g : Lcg) → (drawn_lines g).0.count ≤ 15
unfolding drawn_lines
lines_few g = random_within 5 15 g (omega arith)

customer_within : (customers : ℕ) (g : Lcg) → 1 ≤ customers → customers ≤ 3000 → (customer customers g).0 ≤ 3000
customer_within customers g some few = omega (arith, uneven_within 1023 1 customers g some)

new_order_short :
    (warehouses items customers place w : ℕ) → IsScale warehouses items customers → place < 20001 → w < 11 → (g : Lcg)
    → length (new_order_line warehouses items customers place w g).0 ≤ 361
unfolding new_order_line
new_order_short warehouses items customers place w scale here home g =
    let d = district g in
    let c = customer customers d.1 in
    let lines = drawn_lines c.1 in
    let within = random_within 1 10 g (omega arith) in
    let buyer = customer_within customers d.1 scale.some_customer scale.few_customers in
    let few = lines_few c.1 in
    taped_line_short (codes "neworder") (w ∷ d.0 ∷ c.0 ∷ lines.0.count ∷ place ∷ []) _ 315
    (omega arith, (omega (arith, within), (omega (arith, buyer), (omega (arith, few), (omega arith, tt)))))
    (each_few (new_order_part warehouses items w lines.0) 21 16 15
    (λ k _ h. part_short warehouses items customers w lines.0 k scale home h) lines.0.count 1 (omega (arith, few)) few lines.1)

-- a district whose numbers are short
record IsNear (at : District) : Type 0 where
  warehouse : at.warehouse ≤ 11
  number : at.number ≤ 11

remote_near : (warehouses w : ℕ) (g : Lcg) → 1 ≤ warehouses → warehouses ≤ 10 → IsNear (remote warehouses w g).0
unfolding remote
remote_near warehouses w g some few =
    let number = random_within 1 10 (another warehouses w g).1 (omega arith) in
    record { warehouse = another_within warehouses w g some few; number = omega (arith, number) }

payer_near :
    (warehouses : ℕ) (at : District) (g : Lcg) → 1 ≤ warehouses → warehouses ≤ 10 → IsNear at → IsNear (payer warehouses at g).0
unfolding payer
payer_near warehouses at g some few near =
    let y = random 1 100 g in
    either (λ (x : District × Lcg). IsNear x.0) (nat_lt 85 y.0 && nat_lt 1 warehouses) (remote warehouses at.warehouse y.1) (at, y.1)
    (remote_near warehouses at.warehouse y.1 some few) near

payment_short :
    (warehouses items customers w : ℕ) → IsScale warehouses items customers → w < 11 → (g : Lcg)
    → length (payment_line warehouses customers w g).0 ≤ 361
unfolding payment_line
payment_short warehouses items customers w scale place g =
    let d = district g in
    let at : District = record { warehouse = w; number = d.0 } in
    let home = payer warehouses at d.1 in
    let c = customer customers home.1 in
    let within = random_within 1 10 g (omega arith) in
    let near = payer_near warehouses at d.1 scale.some_warehouse scale.few_warehouses
    (record { warehouse = omega arith; number = omega (arith, within) }) in
    let buyer = customer_within customers home.1 scale.some_customer scale.few_customers in
    let cents = random_within 100 500000 c.1 (omega arith) in
    let line = call_line_short (codes "payment")
    (w ∷ d.0 ∷ home.0.warehouse ∷ home.0.number ∷ c.0 ∷ (random 100 500000 c.1).0 ∷ []) (
      omega arith,
      (
        omega (arith, within),
        (
          omega (arith, near.warehouse),
          (
            omega (arith, near.number),
            (
              omega (arith, buyer),
              (omega (arith, cents), tt),
            ),
          ),
        ),
      ),
    ) in
    omega (arith, line)

order_status_short :
    (customers w : ℕ) → 1 ≤ customers → customers ≤ 3000 → w < 11 → (g : Lcg) → length (order_status_line customers w g).0 ≤ 361
unfolding order_status_line
order_status_short customers w some few place g =
    let d = district g in
    let c = customer customers d.1 in
    let within = random_within 1 10 g (omega arith) in
    let buyer = customer_within customers d.1 some few in
    let line = call_line_short (codes "orderstatus") (w ∷ d.0 ∷ c.0 ∷ [])
    (omega arith, (omega (arith, within), (omega (arith, buyer), tt))) in
    omega (arith, line)

delivery_short : (place w : ℕ) → place < 20001 → w < 11 → (g : Lcg) → length (delivery_line place w g).0 ≤ 361
unfolding delivery_line
delivery_short place w here home g =
    let by = random_within 1 10 g (omega arith) in
    let line = call_line_short (codes "delivery") (w ∷ (random 1 10 g).0 ∷ place ∷ [])
    (omega arith, (omega (arith, by), (omega arith, tt))) in
    omega (arith, line)

stock_level_short : (w : ℕ) → w < 11 → (g : Lcg) → length (stock_level_line w g).0 ≤ 361
unfolding stock_level_line
stock_level_short w home g =
    let d = district g in
    let within = random_within 1 10 g (omega arith) in
    let threshold = random_within 10 20 d.1 (omega arith) in
    let line = call_line_short (codes "stocklevel") (w ∷ d.0 ∷ (random 10 20 d.1).0 ∷ [])
    (omega arith, (omega (arith, within), (omega (arith, threshold), tt))) in
    omega (arith, line)

kind_short :
    (warehouses items customers place : ℕ) (kind : Kind) (w : ℕ) → IsScale warehouses items customers → place < 20001 → w < 11
    → (g : Lcg) → length (kind_line warehouses items customers place kind w g).0 ≤ 361
unfolding kind_line
kind_short warehouses items customers place NewOrder w scale here home g =
    new_order_short warehouses items customers place w scale here home g
kind_short warehouses items customers place Payment w scale here home g = payment_short warehouses items customers w scale home g
kind_short warehouses items customers place OrderStatus w scale here home g =
    order_status_short customers w scale.some_customer scale.few_customers home g
kind_short warehouses items customers place Delivery w scale here home g = delivery_short place w here home g
kind_short warehouses items customers place StockLevel w scale here home g = stock_level_short w home g

place_short :
    (warehouses items customers place : ℕ) → IsScale warehouses items customers → place < 20001 → (g : Lcg)
    → length (place_line warehouses items customers place g).0 ≤ 361
unfolding place_line
place_short warehouses items customers place scale here g =
    let x = random 1 100 g in
    let home = random_within 1 warehouses x.1 scale.some_warehouse in
    let w = random 1 warehouses x.1 in
    kind_short warehouses items customers place (kind_of x.0) w.0 scale here (omega (arith, home, scale.few_warehouses)) w.1

-- fewer than 2^24 bytes
pub mix_short :
    (warehouses items customers count : ℕ) → IsScale warehouses items customers → count ≤ 20000 → (g : Lcg)
    → length (mix warehouses items customers count g).0 < 16777216
unfolding mix
mix_short warehouses items customers count scale few g =
    let all = each_few (place_line warehouses items customers) 361 20001 20000
    (λ k here h. place_short warehouses items customers k scale here h) count 1 (omega arith) few g in
    omega (arith, all)
