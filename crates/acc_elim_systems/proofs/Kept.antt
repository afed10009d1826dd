-- What an elimination keeps: what holds of the relations that it begins with, and of each that is made of relations of which it
-- holds, holds of all that it leaves, and of the false constant that ends it.
use Rattle.std.proofs.Common.{◌≡◌, ℕ, Bool, true, false, List, [], ◌∷◌, ◌++◌, length, Option, Some, None, Ok, Err, refl, if◌then◌else◌}
use Rattle.std.specs.Prelude.{All, filter, option_map, nat_le}
use Rattle.std.specs.List.{list_any}
use Rattle.std.specs.Cmp.{first_so, second_so}
use Rattle.std.proofs.lemmas.List.Elements.{All-nil, All-head, All-tail, All-cons, All-push}
use Rattle.acc_rows.specs.declared.stops.Stop.{Stop}
use Rattle.acc_rows.specs.declared.stops.Stop.TheVariants.{Refuted, Wide, Many, Memory}
use Rattle.acc_rows.specs.declared.rows.Row.{Row}
use Rattle.acc_elim_systems.specs.declared.systems.Reduced.{Reduced}
use Rattle.acc_elim_systems.specs.declared.systems.Bounded.{Bounded}
use Rattle.acc_elim_systems.specs.declared.systems.Eliminated.{Eliminated}
use Rattle.acc_base.specs.Computing.{chain, steps}
use Rattle.acc_rows.specs.Answers.{Computation}
use Rattle.acc_rows.specs.Rows.{has, cleared, crossing}
use Rattle.acc_elim_systems.specs.declared.systems.TheConstants.{MOST_RELATIONS}
use Rattle.acc_elim_systems.specs.Systems.{is_false, repeats, is_constant, admitted, is_equation_with, taken, replaced, set_aside, whole}
use Rattle.acc_base.specs.Items.{numbers_from}
use Rattle.acc_elim_systems.specs.Systems.{is_upper, is_lower, is_without, crossed_once, crossed_with, or_else, crossed, unbounded}
use Rattle.acc_elim_systems.specs.Systems.{eliminated}
use Rattle.acc_rows.proofs.Worths.{Gives}

-- all of a list, with what a filter tested
kept_by : {X : Type 0} (P : X → Type 0) (p : X → Bool) (x : X) (xs : List X) (b : Bool) → p x ≡ b → P x → All (λ y. P y × (p y ≡ true)) xs
    → All (λ y. P y × (p y ≡ true)) (if b then (x ∷ xs) else xs)
kept_by P p x xs true e h all = All-cons (λ y. P y × (p y ≡ true)) x xs (h, e) all
kept_by P p x xs false e h all = all

all_filter : {X : Type 0} (P : X → Type 0) (p : X → Bool) (xs : List X) → All P xs → All (λ y. P y × (p y ≡ true)) (filter p xs)
all_filter P p [] all = All-nil (λ y. P y × (p y ≡ true))
all_filter P p (x ∷ xs) all =
    kept_by P p x (filter p xs) (p x) refl (All-head P x xs all) (all_filter P p xs (All-tail P x xs all))

weaker : {X : Type 0} (P Q : X → Type 0) → ((x : X) → P x → Q x) → (xs : List X) → All P xs → All Q xs
weaker P Q h [] all = All-nil Q
weaker P Q h (x ∷ xs) all = All-cons Q x xs (h x (All-head P x xs all)) (weaker P Q h xs (All-tail P x xs all))

module _ (Good : Row → Type 0) where
  -- a computation ends with a value of which this holds, or with a false constant that is good, or with no value
  abbrev pub Keeps : {A : Type 0} → Computation A → (A → Type 0) → Type 0
  Keeps (Ok x) P = P x
  Keeps (Err (Refuted r)) P = Good r × (is_constant r ≡ true) × (is_false r ≡ true)
  Keeps (Err Wide) P = Unit {0}
  Keeps (Err Many) P = Unit {0}
  Keeps (Err Memory) P = Unit {0}

  keeps_err : {A B : Type 0} (e : Stop) (P : A → Type 0) (Q : B → Type 0) → Keeps (Err e) P → Keeps (Err e) Q
  keeps_err (Refuted r) P Q h = h
  keeps_err Wide P Q h = tt
  keeps_err Many P Q h = tt
  keeps_err Memory P Q h = tt

  pub keeps_chain : {A B : Type 0} (o : Computation A) (next : A → Computation B) (P : A → Type 0) (Q : B → Type 0) → Keeps o P
      → ((x : A) → P x → Keeps (next x) Q) → Keeps (chain o next) Q
  keeps_chain (Ok x) next P Q h k = k x h
  keeps_chain (Err e) next P Q h k = keeps_err e P Q h

  pub keeps_steps : {S X : Type 0} (step : S → X → Computation S) (P : S → Type 0) (R : X → Type 0)
      → ((s : S) (x : X) → P s → R x → Keeps (step s x) P) → (xs : List X) → All R xs → (s : S) → P s → Keeps (steps step s xs) P
  keeps_steps step P R h [] all s p = p
  keeps_steps step P R h (x ∷ xs) all s p =
      keeps_chain (step s x) (λ t. steps step t xs) P P (h s x p (All-head R x xs all))
      (λ t q. keeps_steps step P R h xs (All-tail R x xs all) t q)

  from_gives : (o : Computation Row) → Gives o Good → Keeps o Good
  from_gives (Ok r) h = h
  from_gives (Err Wide) h = tt
  from_gives (Err Many) h = tt
  from_gives (Err Memory) h = tt
  from_gives (Err (Refuted r)) h = absurd h

  -- ---- one more relation

  admitted_by : (rows : List Row) (r : Row) (b c d e : Bool) → is_constant r ≡ b → is_false r ≡ c → All Good rows → Good r
      → Keeps (if b then (if c then Err (Refuted r) else Ok rows)
      else (if d then Ok rows else (if e then Err Many else Ok (rows ++ r ∷ [])))) (All Good)
  admitted_by rows r true true d e constant wrong all good = (good, constant, wrong)
  admitted_by rows r true false d e constant wrong all good = all
  admitted_by rows r false c true e constant wrong all good = all
  admitted_by rows r false c false true constant wrong all good = tt
  admitted_by rows r false c false false constant wrong all good = All-push Good rows r all good

  pub admitted_keeps : (rows : List Row) (r : Row) → All Good rows → Good r → Keeps (admitted rows r) (All Good)
  admitted_keeps rows r all good =
      admitted_by rows r (is_constant r) (is_false r) (list_any (repeats r) rows) (nat_le MOST_RELATIONS (length rows)) refl refl all good

  -- ---- an equation that is taken

  abbrev pub TakenGood : ℕ → Option (Row × List Row) → Type 0
  TakenGood u None = Unit {0}
  TakenGood u (Some t) = Good t.0 × (t.0.equal ≡ true) × (has u t.0 ≡ true) × All Good t.1

  taken_by : (u : ℕ) (r : Row) (rs : List Row) (b : Bool) → is_equation_with u r ≡ b → Good r → All Good rs → (o : Option (Row × List Row))
      → TakenGood u o → TakenGood u (if b then Some (r, rs) else option_map (λ t. (t.0, r ∷ t.1)) o)
  taken_by u r rs true e good all o h = (good, first_so r.equal (has u r) e, second_so r.equal (has u r) e, all)
  taken_by u r rs false e good all None h = tt
  taken_by u r rs false e good all (Some t) h = (h.0, h.1, h.2, All-cons Good r t.1 good h.3)

  taken_good : (u : ℕ) (rows : List Row) → All Good rows → TakenGood u (taken u rows)
  taken_good u [] all = tt
  taken_good u (r ∷ rs) all =
      taken_by u r rs (is_equation_with u r) refl (All-head Good r rs all) (All-tail Good r rs all) (taken u rs)
      (taken_good u rs (All-tail Good r rs all))

  module _ (cleared_good : (u : ℕ) (e r : Row) → Good e → e.equal ≡ true → has u e ≡ true → Good r → Gives (cleared u e r) Good)
      (crossing_good : (u : ℕ) (up low : Row) → Good up → is_upper u up ≡ true → Good low → is_lower u low ≡ true
      → Gives (crossing u up low) Good) where
    -- ---- by equations

    replaced_keeps : (u : ℕ) (e : Row) → Good e → e.equal ≡ true → has u e ≡ true → (rows : List Row) (r : Row) → All Good rows → Good r
        → Keeps (replaced u e rows r) (All Good)
    replaced_keeps u e good equal there rows r all g =
        keeps_chain (cleared u e r) (admitted rows) Good (All Good) (from_gives (cleared u e r) (cleared_good u e r good equal there g))
        (λ x h. admitted_keeps rows x all h)

    pub record ReducedGood (s : Reduced) : Type 0 where
      pub rows : All Good s.rows
      pub aside : All (λ x. Good x.1) s.aside

    aside_by : (s : Reduced) (u : ℕ) → ReducedGood s → (o : Option (Row × List Row)) → TakenGood u o
        → Keeps (elim o [
          | None ↦ Ok (record { rows = s.rows; aside = s.aside; left = s.left ++ u ∷ [] })
          | Some t ↦ chain
              (steps (replaced u t.0) [] t.1) (λ rows. Ok
              (record { rows = rows; aside = s.aside ++ (u, t.0) ∷ []; left = s.left }))
        ]) ReducedGood
    aside_by s u good None h = record { rows = good.rows; aside = good.aside }
    aside_by s u good (Some t) h =
        keeps_chain (steps (replaced u t.0) [] t.1) _ (All Good) ReducedGood
        (keeps_steps (replaced u t.0) (All Good) Good (λ rows r all g. replaced_keeps u t.0 h.0 h.1 h.2 rows r all g) t.1 h.3 []
        (All-nil Good)) (λ rows all. record { rows = all; aside = All-push (λ x. Good x.1) s.aside (u, t.0) good.aside h.0 })

    set_aside_keeps : (s : Reduced) (u : ℕ) → ReducedGood s → Keeps (set_aside s u) ReducedGood
    set_aside_keeps s u good = aside_by s u good (taken u s.rows) (taken_good u s.rows good.rows)

    -- ---- by pairs of bounds

    once_keeps : (u : ℕ) (up : Row) → Good up → is_upper u up ≡ true → (rows : List Row) (low : Row) → All Good rows
        → Good low × (is_lower u low ≡ true) → Keeps (crossed_once u up rows low) (All Good)
    once_keeps u up good upper rows low all g =
        keeps_chain (crossing u up low) (admitted rows) Good (All Good)
        (from_gives (crossing u up low) (crossing_good u up low good upper g.0 g.1)) (λ x h. admitted_keeps rows x all h)

    with_keeps : (u : ℕ) (lows : List Row) → All (λ r. Good r × (is_lower u r ≡ true)) lows → (rows : List Row) (up : Row) → All Good rows
        → Good up × (is_upper u up ≡ true) → Keeps (crossed_with u lows rows up) (All Good)
    with_keeps u lows good rows up all g =
        keeps_steps (crossed_once u up) (All Good) (λ r. Good r × (is_lower u r ≡ true))
        (λ rs low a h. once_keeps u up g.0 g.1 rs low a h) lows good rows all

    pub record BoundedGood (s : Bounded) : Type 0 where
      pub rows : All Good s.rows
      pub bounds : All (λ b. All Good b.1) s.bounds

    or_else_good : (lows ups : List Row) → All Good lows → All Good ups → All Good (or_else lows ups)
    or_else_good [] ups l u = u
    or_else_good (low ∷ lows) ups l u = l

    crossed_keeps : (s : Bounded) (u : ℕ) → BoundedGood s → Keeps (crossed s u) BoundedGood
    crossed_keeps s u good =
        let lows = all_filter Good (is_lower u) s.rows good.rows in
        let ups = all_filter Good (is_upper u) s.rows good.rows in
        let others = weaker (λ r. Good r × (is_without u r ≡ true)) Good (λ r h. h.0) (filter (is_without u) s.rows)
        (all_filter Good (is_without u) s.rows good.rows) in
        let bounds = or_else_good (filter (is_lower u) s.rows) (filter (is_upper u) s.rows)
        (weaker (λ r. Good r × (is_lower u r ≡ true)) Good (λ r h. h.0) (filter (is_lower u) s.rows) lows)
        (weaker (λ r. Good r × (is_upper u r ≡ true)) Good (λ r h. h.0) (filter (is_upper u) s.rows) ups) in
        keeps_chain (steps (crossed_with u (filter (is_lower u) s.rows)) (filter (is_without u) s.rows) (filter (is_upper u) s.rows)) _
        (All Good) BoundedGood (keeps_steps (crossed_with u (filter (is_lower u) s.rows)) (All Good)
        (λ r. Good r × (is_upper u r ≡ true)) (λ rows up all g. with_keeps u (filter (is_lower u) s.rows) lows rows up all g)
        (filter (is_upper u) s.rows) ups (filter (is_without u) s.rows) others)
        (λ rows all. record {
          rows = all;
          bounds = All-push (λ b. All Good b.1) s.bounds
              (u, or_else (filter (is_lower u) s.rows) (filter (is_upper u) s.rows)) good.bounds bounds;
        })

    -- ---- the whole elimination

    anything : (xs : List ℕ) → All (λ _. Unit {0}) xs
    anything [] = All-nil (λ _. Unit {0})
    anything (x ∷ xs) = All-cons (λ _. Unit {0}) x xs tt (anything xs)

    pub record EliminatedGood (s : Eliminated) : Type 0 where
      pub aside : All (λ x. Good x.1) s.aside
      pub bounds : All (λ b. All Good b.1) s.bounds

    pub eliminated_keeps : (n : ℕ) (rows : List Row) → All Good rows → Keeps (eliminated n rows) EliminatedGood
    eliminated_keeps n rows all =
        keeps_chain (steps admitted [] rows) _ (All Good) EliminatedGood
        (keeps_steps admitted (All Good) Good (λ rs r a g. admitted_keeps rs r a g) rows all [] (All-nil Good)) (λ system a.
        keeps_chain (steps set_aside (whole system) (numbers_from 0 n)) _ ReducedGood EliminatedGood
        (keeps_steps set_aside ReducedGood (λ _. Unit {0}) (λ s u g _. set_aside_keeps s u g) (numbers_from 0 n)
        (anything (numbers_from 0 n))
        (whole system) (record { rows = a; aside = All-nil (λ x. Good x.1) })) (λ s g.
        keeps_chain (steps crossed (unbounded s.rows) s.left) _ BoundedGood EliminatedGood
        (keeps_steps crossed BoundedGood (λ _. Unit {0}) (λ t u h _. crossed_keeps t u h) s.left (anything s.left) (unbounded s.rows)
        (record { rows = g.rows; bounds = All-nil (λ b. All Good b.1) })) (λ t h. record { aside = g.aside; bounds = h.bounds })))
