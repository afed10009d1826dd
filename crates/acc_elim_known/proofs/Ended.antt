-- What an elimination ends with is what its stage of equations ends with, and the rest from there.
use Rattle.std.proofs.Common.{◌≡◌, ◌≤◌, ◌+◌, ◌-◌, ℕ, zero, suc, Bool, true, false, List, [], ◌∷◌, ◌++◌, Option, Some, None}
use Rattle.std.proofs.Common.{Ok, Err, refl, ap}
use Rattle.std.proofs.Common.{sym, ◌∙◌, arith, append-nil, append_assoc, ◌||◌, ◌⊎◌, inl, inr}
use Rattle.std.specs.Prelude.{IfOk, IfSome, reverse}
use Rattle.std.specs.List.{list_any}
use Rattle.std.proofs.lemmas.List.{reverse-append}
use Rattle.std.proofs.lemmas.List.Folds.{list_any-append}
use Rattle.acc_rows.specs.declared.rows.Row.{Row}
use Rattle.acc_elim_systems.specs.declared.systems.Reduced.{Reduced}
use Rattle.acc_elim_systems.specs.declared.systems.Bounded.{Bounded}
use Rattle.acc_base.specs.Computing.{chain, steps}
use Rattle.acc_rows.specs.Answers.{Computation}
use Rattle.acc_base.specs.Items.{numbers_from}
use Rattle.acc_elim_systems.specs.Systems.{admitted, taken, whole, set_aside, crossed, unbounded}
use Rattle.acc_elim_points.specs.Points.{Point, placed, placed_by, zeros, point_of}
use Rattle.acc_elim_points.specs.Searches.{found_by}
use Rattle.acc_elim_stages.specs.declared.stages.Step.{Step}
use Rattle.acc_elim_stages.specs.declared.stages.Stage.{Stage}
use Rattle.acc_elim_stages.specs.Followed.{listed, through}
use Rattle.acc_elim_stages.specs.Stages.{begun, aside_of, reduced, with_last}
use Rattle.acc_elim_known.specs.Ends.{placed_at, found_from, found_behind, is_equation}
use Rattle.acc_elim_stages.proofs.Lefts.{not_taken, through_same}
use Rattle.acc_elim_stages.proofs.Extended.{Laws, begun_append, aside_is}

abbrev pub rest : ℕ → Reduced → Computation Point
rest n r = found_from n r.rows r.aside r.left

pub found_parts : (n : ℕ) (rows : List Row) → found_by n rows ≡ chain (begun rows n) (rest n)
found_parts n rows = by (steps admitted [] rows)
  where
    ended : (r : Reduced) (c : Computation Bounded)
        → chain (chain c (λ b. Ok (record { aside = r.aside; bounds = b.bounds }))) (point_of n)
        ≡ chain c (λ b. point_of n (record { aside = r.aside; bounds = b.bounds }))
    ended r (Ok b) = refl
    ended r (Err e) = refl

    mid : (c : Computation Reduced)
        → chain (chain c (λ r. chain (steps crossed (unbounded r.rows) r.left) (λ b. Ok (record { aside = r.aside; bounds = b.bounds }))))
        (point_of n) ≡ chain c (rest n)
    mid (Ok r) = ended r (steps crossed (unbounded r.rows) r.left)
    mid (Err e) = refl

    by : (o : Computation (List Row))
        → chain (chain o (λ system. chain (steps set_aside (whole system) (numbers_from 0 n))
        (λ r. chain (steps crossed (unbounded r.rows) r.left) (λ b. Ok (record { aside = r.aside; bounds = b.bounds }))))) (point_of n)
        ≡ chain (chain o (λ system. steps set_aside (whole system) (numbers_from 0 n))) (rest n)
    by (Ok system) = mid (steps set_aside (whole system) (numbers_from 0 n))
    by (Err e) = refl

-- ---- more unknowns

numbers_append : (n k i : ℕ) → numbers_from i (n + k) ≡ numbers_from i n ++ numbers_from (i + n) k
numbers_append zero k i =
    let e : i ≡ i + zero = omega arith in
    let none : zero + k ≡ k = omega arith in
    ap (numbers_from i) none ∙ ap (λ j. numbers_from j k) e
numbers_append (suc n) k i =
    let e : (i + 1) + n ≡ i + suc n = omega arith in
    let one : suc n + k ≡ suc (n + k) = omega arith in
    ap (numbers_from i) one ∙ ap (λ us. i ∷ us) (numbers_append n k (i + 1) ∙ ap (λ j. numbers_from (i + 1) n ++ numbers_from j k) e)

numbers_split : (n m : ℕ) → n ≤ m → numbers_from 0 m ≡ numbers_from 0 n ++ numbers_from n (m - n)
numbers_split n m h =
    let e : m ≡ n + (m - n) = omega (arith, h) in
    let f : 0 + n ≡ n = omega arith in
    ap (numbers_from 0) e ∙ (numbers_append n (m - n) 0 ∙ ap (λ j. numbers_from 0 n ++ numbers_from j (m - n)) f)

pub begun_more : (rows : List Row) (n m : ℕ) → n ≤ m → begun rows m ≡ chain (begun rows n) (λ s. steps set_aside s (numbers_from n (m - n)))
begun_more rows n m h =
    ap (λ us. chain (steps admitted [] rows) (λ system. steps set_aside (whole system) us)) (numbers_split n m h)
    ∙ begun_append rows (numbers_from n (m - n)) (numbers_from 0 n)

-- ---- relations of which none is an equation

first_none : (a b : Bool) → (a || b) ≡ false → (a ≡ false) × (b ≡ false)
first_none false b e = (refl, e)
first_none true b e = absurd (cc)

pub none_taken : (u : ℕ) (rows : List Row) → list_any is_equation rows ≡ false → taken u rows ≡ None
none_taken u [] e = refl
none_taken u (r ∷ rs) e =
    let both = first_none r.equal (list_any is_equation rs) e in
    not_taken u r rs both.0 (none_taken u rs both.1)

all_left : (k n : ℕ) (rows : List Row) (aside : List (ℕ × Row)) (left : List ℕ) → list_any is_equation rows ≡ false
    → steps set_aside (record { rows = rows; aside = aside; left = left }) (numbers_from n k)
    ≡ Ok (record { rows = rows; aside = aside; left = left ++ numbers_from n k })
all_left zero n rows aside left none =
    ap (λ us. Ok (record { rows = rows; aside = aside; left = us })) (sym (append-nil left))
all_left (suc k) n rows aside left none =
    ap (λ o. chain o (λ s. steps set_aside s (numbers_from (n + 1) k))) one
    ∙ (all_left k (n + 1) rows aside (left ++ n ∷ []) none
    ∙ ap (λ us. Ok (record { rows = rows; aside = aside; left = us })) (append_assoc left (n ∷ []) (numbers_from (n + 1) k)))
  where
    one : set_aside (record { rows = rows; aside = aside; left = left }) n
        ≡ Ok (record { rows = rows; aside = aside; left = left ++ n ∷ [] })
    one = aside_is (record { rows = rows; aside = aside; left = left }) n None (none_taken n rows none)

-- ---- with one more relation

module _ (rows : List Row) (n m : ℕ) (g : Stage) (is : Laws rows n g) (within : n ≤ m) where
  pub found_alone : found_by n rows ≡ found_behind g n None n
  found_alone =
      let none : n - n ≡ 0 = omega arith in
      found_parts n rows
      ∙ (ap (λ o. chain o (rest n)) is.alone
      ∙ (λ i. found_from n (sym (append-nil g.rows) i) (aside_of g.path.steps)
      ((sym (append-nil g.left) ∙ ap (λ k. g.left ++ numbers_from n k) (sym none)) i)))

  module _ (t : Row) (equal : t.equal ≡ false)
      (settled : (n ≡ m) ⊎ (list_any is_equation g.rows ≡ false)) where
    none_listed : (o : Option Row) → IfSome o (λ r. r.equal ≡ false) → list_any is_equation (listed o) ≡ false
    none_listed None h = refl
    none_listed (Some r) h = ap (λ b. b || false) h

    more_left : (o : Option Row) → IfSome o (λ r. r.equal ≡ false) → (n ≡ m) ⊎ (list_any is_equation g.rows ≡ false)
        → steps set_aside (with_last (reduced g) o) (numbers_from n (m - n))
        ≡ Ok (record { rows = g.rows ++ listed o; aside = aside_of g.path.steps; left = g.left ++ numbers_from n (m - n) })
    more_left o h (inl e) =
        let none : m - n ≡ 0 = omega (arith, e) in
        ap (λ k. steps set_aside (with_last (reduced g) o) (numbers_from n k)) none
        ∙ ap (λ us. Ok (record { rows = g.rows ++ listed o; aside = aside_of g.path.steps; left = us }))
        (sym (append-nil g.left) ∙ ap (λ k. g.left ++ numbers_from n k) (sym none))
    more_left o h (inr e) =
        all_left (m - n) n (g.rows ++ listed o) (aside_of g.path.steps) g.left
        (list_any-append is_equation g.rows (listed o) ∙ (λ i. e i || none_listed o h i))

    pub found_more : found_by m (rows ++ t ∷ []) ≡ chain (through g.path t) (λ o. found_behind g n o m)
    found_more =
        found_parts m (rows ++ t ∷ [])
        ∙ (ap (λ o. chain o (rest m)) (begun_more (rows ++ t ∷ []) n m within
        ∙ ap (λ o. chain o (λ s. steps set_aside s (numbers_from n (m - n)))) (is.after t equal))
        ∙ by (through g.path t) (through_same false g.path t equal))
      where
        by : (c : Computation (Option Row)) → IfOk c (λ o. IfSome o (λ r. r.equal ≡ false))
            → chain (chain (chain c (λ o. Ok (with_last (reduced g) o))) (λ s. steps set_aside s (numbers_from n (m - n)))) (rest m)
            ≡ chain c (λ o. found_behind g n o m)
        by (Ok o) h = ap (λ c. chain c (rest m)) (more_left o h settled)
        by (Err e) h = refl

    pub found_left : (o : Option Row) → through g.path t ≡ Ok o → found_by m (rows ++ t ∷ []) ≡ found_behind g n o m
    found_left o e = found_more ∙ ap (λ c. chain c (λ o. found_behind g n o m)) e

-- ---- the values by the equations of the steps

aside_append : (xs ys : List Step) → aside_of (xs ++ ys) ≡ aside_of xs ++ aside_of ys
aside_append [] ys = refl
aside_append (x ∷ xs) ys = ap (λ zs. x.aside ∷ zs) (aside_append xs ys)

aside_reverse : (ss : List Step) → aside_of (reverse ss) ≡ reverse (aside_of ss)
aside_reverse [] = refl
aside_reverse (s ∷ ss) =
    ap aside_of (reverse-append (s ∷ []) ss)
    ∙ (aside_append (reverse ss) (s ∷ [])
    ∙ (ap (λ xs. xs ++ s.aside ∷ []) (aside_reverse ss) ∙ sym (reverse-append (s.aside ∷ []) (aside_of ss))))

placed_along : (ss : List Step) (point : Point) → steps placed_at point ss ≡ steps placed_by point (aside_of ss)
placed_along [] point = refl
placed_along (s ∷ ss) point = by (λ p. placed_along ss p) (placed_by point s.aside)
  where
    by : ((p : Point) → steps placed_at p ss ≡ steps placed_by p (aside_of ss)) → (o : Computation Point)
        → chain o (λ p. steps placed_at p ss) ≡ chain o (λ p. steps placed_by p (aside_of ss))
    by again (Ok p) = again p
    by again (Err e) = refl

pub placed_back : (ss : List Step) (point : Point) → steps placed_at point (reverse ss) ≡ steps placed_by point (reverse (aside_of ss))
placed_back ss point = placed_along (reverse ss) point ∙ ap (steps placed_by point) (aside_reverse ss)

pub found_to : (n : ℕ) (rows : List Row) (ss : List Step) (left : List ℕ) (b : Bounded) (point : Point)
    → steps crossed (unbounded rows) left ≡ Ok b → steps placed (zeros n) (reverse b.bounds) ≡ Ok point
    → found_from n rows (aside_of ss) left ≡ steps placed_at point (reverse ss)
found_to n rows ss left b point e f =
    ap (λ o. chain o (λ b. point_of n (record { aside = aside_of ss; bounds = b.bounds }))) e
    ∙ (ap (λ o. chain o (λ p. steps placed_by p (reverse (aside_of ss)))) f ∙ sym (placed_back ss point))
