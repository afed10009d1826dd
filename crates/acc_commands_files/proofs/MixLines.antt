-- Each line of a mix asks for one call: it has no line feed within it, is no comment, and has words.
use Rattle.std.proofs.Common.{◌≡◌, ℕ, zero, suc, ◌+◌, ◌/◌, ◌%◌, Bool, true, false, cond, List, [], ◌∷◌, ◌++◌, codes, refl, ap, ◌∙◌, arith}
use Rattle.std.specs.Prelude.{◌==◌, ◌&&◌, ◌||◌, not, nat_lt, if◌then◌else◌}
use Rattle.std.specs.Fmt.{decimal, digits, digits_onto, digit_glyph}
use Rattle.std.specs.List.{list_all, onto_first}
use Rattle.std.proofs.lemmas.Bool.Decides.{nat_tests}
use Rattle.std.proofs.lemmas.List.Folds.{list_all-append}
use Rattle.acc_base.specs.Lines.{line}
use Rattle.acc_script.specs.Pieces.{is_blank, pieces, words_in, is_skipped}
use Rattle.rand_pcg.specs.Lcg.{Lcg}
use Rattle.tpcc_gen.specs.Draws.{each, random}
use Rattle.tpcc_gen.specs.Writing.{spaced, numbers, call, call_line, taped_line}
use Rattle.tpcc_gen.specs.Mixes.{kind_of, district, customer, supplier, drawn_lines, item, payer, new_order_part, new_order_line}
use Rattle.tpcc_gen.specs.Mixes.{payment_line, order_status_line, delivery_line, stock_level_line, kind_line, place_line}
use Rattle.tpcc_gen.proofs.Sizes.{either}
use Rattle.tpcc_gen.specs.declared.new_orders.Lines.{Lines}
use Rattle.tpcc_gen.specs.declared.kinds.Kind.{Kind}
use Rattle.tpcc_gen.specs.declared.kinds.Kind.TheVariants.{NewOrder, Payment, OrderStatus, Delivery, StockLevel}

-- ---- texts without a line feed

abbrev pub is_whole : List ℕ → Bool
is_whole text = list_all (λ b. not (b == 10)) text

both_true : (a b : Bool) → a ≡ true → b ≡ true → (a && b) ≡ true
both_true true true one other = refl
both_true false b one other = absurd cc
both_true true false one other = absurd cc

whole_both : (one other : List ℕ) → is_whole one ≡ true → is_whole other ≡ true → is_whole (one ++ other) ≡ true
whole_both one other h k = list_all-append (λ b. not (b == 10)) one other ∙ both_true (is_whole one) (is_whole other) h k

glyph_of : (low : Bool) (n : ℕ) → not ((if low then 48 + n else (if false then 55 + n else 87 + n)) == 10) ≡ true
glyph_of true n = grind (arith, nat_tests)
glyph_of false n = grind (arith, nat_tests)

whole_onto : (k n : ℕ) (behind : List ℕ) → is_whole behind ≡ true → is_whole (digits_onto k 10 false n behind) ≡ true
whole_onto zero n behind h = h
whole_onto (suc k) n behind h =
    let more = both_true (not (digit_glyph false (n % 10) == 10)) (is_whole behind) (glyph_of (nat_lt (n % 10) 10) (n % 10)) h in
    either (λ (text : List ℕ). is_whole text ≡ true) (n / 10 == 0) (digit_glyph false (n % 10) ∷ behind)
    (digits_onto k 10 false (n / 10) (digit_glyph false (n % 10) ∷ behind)) more
    (whole_onto k (n / 10) (digit_glyph false (n % 10) ∷ behind) more)

whole_decimal : (n : ℕ) → is_whole (decimal n) ≡ true
unfolding digits
whole_decimal n = whole_onto 64 n [] refl

pub whole_numbers : (ns : List ℕ) → is_whole (numbers ns) ≡ true
whole_numbers [] = refl
whole_numbers (n ∷ ns) = whole_both (spaced n) (numbers ns) (whole_decimal n) (whole_numbers ns)

whole_each :
    (draw : ℕ → Lcg → List ℕ × Lcg) → ((k : ℕ) (g : Lcg) → is_whole (draw k g).0 ≡ true)
    → (n k : ℕ) (g : Lcg) → is_whole (each draw n k g).0 ≡ true
unfolding each
whole_each draw whole zero k g = refl
whole_each draw whole (suc n) k g =
    whole_both (draw k g).0 (each draw n (k + 1) (draw k g).1).0 (whole k g) (whole_each draw whole n (k + 1) (draw k g).1)

-- ---- lines

-- the text is one line, which isn't skipped
pub record IsOneLine (text : List ℕ) : Type 0 where
  pub body : List ℕ
  pub is : text ≡ line body
  pub whole : is_whole body ≡ true
  pub counts : is_skipped body ≡ false

-- it begins with a byte that is neither # nor a space
counted : (b : ℕ) (behind : List ℕ) → (b == 35) ≡ false → (b == 32) ≡ false → is_skipped (b ∷ behind) ≡ false
counted b behind comment space = by (b == 35) (b == 32) comment space
  where
    first_word : (ps : List (List ℕ)) → is_blank (words_in (onto_first b ps)) ≡ false
    first_word [] = refl
    first_word (p ∷ ps) = refl

    by : (t u : Bool) → t ≡ false → u ≡ false
        → (t || is_blank (words_in (cond u ([] ∷ pieces 32 behind) (onto_first b (pieces 32 behind))))) ≡ false
    by false false one other = first_word (pieces 32 behind)
    by true u one other = absurd cc
    by false true one other = absurd cc

call_one :
    (b : ℕ) (name params : List ℕ) → (b == 35) ≡ false → (b == 32) ≡ false → is_whole (b ∷ name) ≡ true
    → IsOneLine (call_line (b ∷ name) params)
call_one b name params comment space whole = record {
  body = call (b ∷ name) params;
  is = refl;
  whole = whole_both (b ∷ name) (numbers params) whole (whole_numbers params);
  counts = counted b (name ++ numbers params) comment space;
}

taped_one :
    (b : ℕ) (name params tape : List ℕ) → (b == 35) ≡ false → (b == 32) ≡ false → is_whole (b ∷ name) ≡ true → is_whole tape ≡ true
    → IsOneLine (taped_line (b ∷ name) params tape)
taped_one b name params tape comment space whole behind = record {
  body = call (b ∷ name) params ++ (codes " |" ++ tape);
  is = refl;
  whole = whole_both (call (b ∷ name) params) (codes " |" ++ tape)
      (whole_both (b ∷ name) (numbers params) whole (whole_numbers params)) behind;
  counts = counted b ((name ++ numbers params) ++ (codes " |" ++ tape)) comment space;
}

-- ---- the lines of a mix

new_order_one :
    (warehouses items customers place w : ℕ) (g : Lcg) → IsOneLine (new_order_line warehouses items customers place w g).0
unfolding new_order_line new_order_part
new_order_one warehouses items customers place w g =
    let d = district g in
    let c = customer customers d.1 in
    let lines = drawn_lines c.1 in
    taped_one 110 (codes "eworder") (w ∷ d.0 ∷ c.0 ∷ lines.0.count ∷ place ∷ [])
    (each (new_order_part warehouses items w lines.0) lines.0.count 1 lines.1).0 refl refl refl
    (whole_each (new_order_part warehouses items w lines.0) (λ k h. part lines.0 k h) lines.0.count 1 lines.1)
  where
    part : (drawn : Lines) (k : ℕ) (h : Lcg) → is_whole (new_order_part warehouses items w drawn k h).0 ≡ true
    part drawn k h =
        let i = item items drawn k h in
        let s = supplier warehouses w i.1 in
        whole_numbers (i.0 ∷ s.0 ∷ (random 1 10 s.1).0 ∷ [])

payment_one : (warehouses customers w : ℕ) (g : Lcg) → IsOneLine (payment_line warehouses customers w g).0
unfolding payment_line
payment_one warehouses customers w g =
    let d = district g in
    let home = payer warehouses (record { warehouse = w; number = d.0 }) d.1 in
    let c = customer customers home.1 in
    call_one 112 (codes "ayment")
    (w ∷ d.0 ∷ home.0.warehouse ∷ home.0.number ∷ c.0 ∷ (random 100 500000 c.1).0 ∷ []) refl refl refl

order_status_one : (customers w : ℕ) (g : Lcg) → IsOneLine (order_status_line customers w g).0
unfolding order_status_line
order_status_one customers w g =
    let d = district g in
    call_one 111 (codes "rderstatus") (w ∷ d.0 ∷ (customer customers d.1).0 ∷ []) refl refl refl

delivery_one : (place w : ℕ) (g : Lcg) → IsOneLine (delivery_line place w g).0
unfolding delivery_line
delivery_one place w g = call_one 100 (codes "elivery") (w ∷ (random 1 10 g).0 ∷ place ∷ []) refl refl refl

stock_level_one : (w : ℕ) (g : Lcg) → IsOneLine (stock_level_line w g).0
unfolding stock_level_line
stock_level_one w g =
    let d = district g in
    call_one 115 (codes "tocklevel") (w ∷ d.0 ∷ (random 10 20 d.1).0 ∷ []) refl refl refl

kind_one :
    (warehouses items customers place : ℕ) (kind : Kind) (w : ℕ) (g : Lcg)
    → IsOneLine (kind_line warehouses items customers place kind w g).0
unfolding kind_line
kind_one warehouses items customers place NewOrder w g = new_order_one warehouses items customers place w g
kind_one warehouses items customers place Payment w g = payment_one warehouses customers w g
kind_one warehouses items customers place OrderStatus w g = order_status_one customers w g
kind_one warehouses items customers place Delivery w g = delivery_one place w g
kind_one warehouses items customers place StockLevel w g = stock_level_one w g

pub place_one :
    (warehouses items customers place : ℕ) (g : Lcg) → IsOneLine (place_line warehouses items customers place g).0
unfolding place_line
place_one warehouses items customers place g =
    let x = random 1 100 g in
    let w = random 1 warehouses x.1 in
    kind_one warehouses items customers place (kind_of x.0) w.0 w.1
