-- Keys of orders, and how a map that counts lines changes.
use Rattle.std.proofs.Common.{◌≡◌, ℕ, ◌+◌, ◌<◌, ◌≤◌, Bool, true, false, cond, List, [], ◌∷◌, length, refl, ap, sym, ◌∙◌, subst, arith, ℤ}
use Rattle.std.proofs.Common.{Some, take, get_or, unwrap_or, if◌then◌else◌}
use Rattle.std.specs.Prelude.{count_by, ◌==◌, ◌&&◌}
use Rattle.std.specs.BTreeMap.{BTreeMap, Updates, get}
use Rattle.std.specs.Ordering.{int_cmp, int_eq, is_eq}
use Rattle.std.specs.Cmp.Lexicographic.{pointwise, slice_cmp}
use Rattle.std.specs.declared.cmp.Ordering.TheVariants.{Equal}
use Rattle.std.specs.Cmp.{second_so}
use Rattle.std.proofs.lemmas.List.Sums.{count_by_more_yes, count_by_more_no, count_by-le-length}
use Rattle.std.proofs.lemmas.Bool.Decides.{Decides-eqb}
use Rattle.std.proofs.lemmas.Bool.{false≢true}
use Rattle.acc_base.specs.declared.tables.Row.{Row}
use Rattle.acc_base.specs.Equality.{ints_decide}
use Rattle.acc_base.proofs.Places.{one_place, is_equal}
use Rattle.tpcc_tables.specs.Conditions.{part, order_key, is_line_of}
use Rattle.tpcc_tables.specs.Lines.{lines_in, CountsLines}
use Rattle.tpcc_tables.proofs.RowFacts.{equal_itself, none_counted}

-- keys of a map compare alike exactly where they are one
pub same_key : (k q : List ℤ) → is_eq (slice_cmp int_cmp k q) ≡ pointwise int_eq q k
same_key k q = by (pointwise int_eq q k) refl
  where
    by : (b : Bool) → pointwise int_eq q k ≡ b → is_eq (slice_cmp int_cmp k q) ≡ b
    by true e =
        let one : q ≡ k = (ints_decide q k).0 e in
        subst (λ (x : List ℤ). is_eq (slice_cmp int_cmp k x) ≡ true) (sym one) (ap is_eq (itself k))
      where
        itself : (x : List ℤ) → slice_cmp int_cmp x x ≡ Equal
        itself x = equal_itself (0, x)
    by false e = not_equal (is_eq (slice_cmp int_cmp k q)) refl
      where
        not_equal : (c : Bool) → is_eq (slice_cmp int_cmp k q) ≡ c → c ≡ false
        not_equal false g = refl
        not_equal true g =
            let at = one_place (0, k) (0, q) (is_equal (slice_cmp int_cmp k q) g) in
            let one : q ≡ k = λ i. (sym at i).1 in
            absurd (false≢true (sym e ∙ (ints_decide q k).1 one))

-- a key of three parts
pub three_parts : (k : List ℤ) → length k ≡ 3 → part 0 k ∷ part 1 k ∷ part 2 k ∷ [] ≡ k
three_parts [] h = absurd (omega (arith, h))
three_parts (a ∷ []) h = absurd (omega (arith, h))
three_parts (a ∷ b ∷ []) h = absurd (omega (arith, h))
three_parts (a ∷ b ∷ c ∷ []) h = refl
three_parts (a ∷ b ∷ c ∷ d ∷ k) h = absurd (omega (arith, h))

-- no line is of an order whose key has more or fewer parts
none_of : (line : ℕ) (k : List ℤ) (r : Row) → (length k == 3) ≡ false → is_line_of line k r ≡ false
none_of line k r h = by (is_line_of line k r) refl
  where
    by : (b : Bool) → is_line_of line k r ≡ b → b ≡ false
    by false e = refl
    by true e =
        let its : k ≡ order_key r.key.parts =
        (ints_decide k (order_key r.key.parts)).0 (second_so (r.table == line) (pointwise int_eq k (order_key r.key.parts)) e) in
        absurd (false≢true (sym h ∙ (Decides-eqb (length k) 3).1 (ap (λ (xs : List ℤ). length xs) its)))

pub no_lines : (line : ℕ) (k : List ℤ) (rows : List Row) → (length k == 3) ≡ false → count_by (is_line_of line k) rows ≡ 0
no_lines line k rows h = none_counted (is_line_of line k) rows (λ r m t. false≢true (sym (none_of line k r h) ∙ t))

-- ---- one row more

-- the test of a line, by the key of its order
line_by : (line : ℕ) (k : List ℤ) (r : Row) → r.table ≡ line → is_line_of line k r ≡ pointwise int_eq k (order_key r.key.parts)
line_by line k r e = ap (λ b. b && pointwise int_eq k (order_key r.key.parts)) ((Decides-eqb r.table line).1 e)

-- a row of another table is no line
pub other_table : (line : ℕ) (k : List ℤ) (r : Row) → (r.table ≡ line → ⊥) → is_line_of line k r ≡ false
other_table line k r apart = by (r.table == line) refl
  where
    by : (b : Bool) → (r.table == line) ≡ b → (b && pointwise int_eq k (order_key r.key.parts)) ≡ false
    by true e = absurd (apart ((Decides-eqb r.table line).0 e))
    by false e = refl

-- a map in which one more stands at the key of a line's order
pub one_more : (line : ℕ) (r : Row) (old new : BTreeMap (List ℤ) ℕ) (order : List ℤ) (count : ℕ) → order ≡ order_key r.key.parts
    → count ≡ lines_in old order → r.table ≡ line → Updates (slice_cmp int_cmp) old new order (Some (count + 1))
    → (k : List ℤ) → lines_in new k ≡ lines_in old k + cond (is_line_of line k r) 1 0
one_more line r old new order count its many e u k =
    ap (λ o. unwrap_or o 0) (u.0 k)
    ∙ (ap (λ b. unwrap_or (cond b (Some (count + 1)) (get (slice_cmp int_cmp) old k)) 0) (same_key order k)
    ∙ (by (pointwise int_eq k order) refl
    ∙ ap (λ b. lines_in old k + cond b 1 0) (ap (λ (o : List ℤ). pointwise int_eq k o) its ∙ sym (line_by line k r e))))
  where
    by : (b : Bool) → pointwise int_eq k order ≡ b
        → unwrap_or (cond b (Some (count + 1)) (get (slice_cmp int_cmp) old k)) 0 ≡ lines_in old k + cond b 1 0
    by true g = ap (λ n. n + 1) many ∙ ap (λ (q : List ℤ). lines_in old q + 1) (sym ((ints_decide k order).0 g))
    by false g = omega arith

pub counted_next : (line : ℕ) (rows : List Row) (i : ℕ) (r : Row) (old new : BTreeMap (List ℤ) ℕ) → i < length rows → r ≡ get_or rows i r
    → CountsLines line (take i rows) old → ((k : List ℤ) → lines_in new k ≡ lines_in old k + cond (is_line_of line k r) 1 0)
    → CountsLines line (take (i + 1) rows) new
counted_next line rows i r old new l e h g k = by (is_line_of line k r) refl
  where
    by : (b : Bool) → is_line_of line k r ≡ b → lines_in new k ≡ count_by (is_line_of line k) (take (i + 1) rows)
    by true t =
        let more = count_by_more_yes (is_line_of line k) rows i r l (ap (is_line_of line k) (sym e) ∙ t) in
        g k ∙ (ap (λ b. lines_in old k + cond b 1 0) t ∙ (ap (λ n. n + 1) (h k) ∙ sym more))
    by false t =
        let same = count_by_more_no (is_line_of line k) rows i r l (ap (is_line_of line k) (sym e) ∙ t) in
        let zero : lines_in old k + 0 ≡ lines_in old k = omega arith in
        g k ∙ (ap (λ b. lines_in old k + cond b 1 0) t ∙ (zero ∙ (h k ∙ sym same)))

-- no more lines are counted than there are rows
pub few_lines : (line : ℕ) (rows : List Row) (counts : BTreeMap (List ℤ) ℕ) (k : List ℤ) → CountsLines line rows counts
    → lines_in counts k ≤ length rows
few_lines line rows counts k h = let few = count_by-le-length (is_line_of line k) rows in subst (λ n. n ≤ length rows) (sym (h k)) few

-- what stands at the key of an order with three parts, and 0 at any other, is how many lines it has
pub lines_each : (line : ℕ) (rows : List Row) (counts : BTreeMap (List ℤ) ℕ) (k : List ℤ) → CountsLines line rows counts
    → (if length k == 3 then lines_in counts k else 0) ≡ count_by (is_line_of line k) rows
lines_each line rows counts k h = by (length k == 3) refl
  where
    by : (b : Bool) → (length k == 3) ≡ b → (if b then lines_in counts k else 0) ≡ count_by (is_line_of line k) rows
    by true e = h k
    by false e = sym (no_lines line k rows e)
