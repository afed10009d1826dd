-- The first line that passes a limit, and the lowest limit there.
use Rattle.std.proofs.Common.{◌≡◌, ◌⊎◌, ℕ, ◌<◌, ◌≤◌, List, [], ◌∷◌, ◌++◌, All, Contains, IsTrue, ◌↔◌, filter, map, ◌&&◌, Bool, true}
use Rattle.std.proofs.Common.{false}
use Rattle.std.proofs.Common.{cond, zero, suc, nat_le, nat_lt, min, refl, sym, ap, subst, ◌∙◌, inl, inr, arith}
use Rattle.std.proofs.lemmas.Bool.{cases_lt}
use Rattle.std.proofs.lemmas.Bool.Decides.{nat_tests}
use Rattle.acc_parse_syntax.specs.declared.trees.DesignTree.{DesignTree}
use Rattle.acc_parse_statements.specs.Lines.{IsLineOf}
use Rattle.acc_parse_statements.proofs.OneLine.{no_earlier}
use Rattle.acc_base.specs.declared.limits.Limit.{Limit}
use Rattle.acc_base.specs.declared.limits.Limit.TheVariants as limit
use Rattle.acc_base.specs.Numbering.{limit_number}
use Rattle.acc_parse_limits.specs.Numbers.{is_lower, is_before}
use Rattle.acc_parse_limits.specs.Faults.{limits_on, limit_faults}
use Rattle.acc_base.specs.Leasts.{IsLeast}
use Rattle.acc_parse_meaning.specs.Sizes.{size_faults}
use Rattle.acc_parse.proofs.LoneLimit.{sizes_alone}
use Rattle.acc_parse.specs.Texts.{past_limits}
use Rattle.acc_parse.specs.Faults.{IsFirstIn, PassesAt}
use Rattle.std.proofs.lemmas.List.Elements.{All-contains, All-append, All-weaker, Contains-append_left, Contains-append_right}
use Rattle.std.proofs.lemmas.List.Elements.{Contains-append_cases}

-- ---- the limits that some statements pass

abbrev on : ℕ → ℕ → ℕ × Limit → Bool
on from to f = nat_le from f.0 && nat_lt f.0 to

abbrev limit_in : ℕ × Limit → Limit
limit_in f = f.1

in_cons : {X : Type 0} (y x : X) (ys : List X) → Contains (y ∷ ys) x → (y ≡ x) ⊎ Contains ys x
in_cons y x ys (zero, lt, e) = inl e
in_cons y x ys (suc k, lt, e) = inr (k, omega (arith, lt), e)

kept_on : (b : Bool) (f : ℕ × Limit) (rest : List (ℕ × Limit)) (k : Limit) → Contains (map limit_in rest) k →
    Contains (map limit_in (cond b (f ∷ rest) rest)) k
kept_on true f rest k h = Contains-append_right (f.1 ∷ []) (map limit_in rest) k h
kept_on false f rest k h = h

here_on : (b : Bool) (f : ℕ × Limit) (rest : List (ℕ × Limit)) → b ≡ true → Contains (map limit_in (cond b (f ∷ rest) rest)) f.1
here_on true f rest e = (0, omega arith, refl)
here_on false f rest e = absurd (cc)

-- a limit that one of the statements passes
pub passed_on : (from to : ℕ) (faults : List (ℕ × Limit)) (n : ℕ) (k : Limit) → Contains faults (n, k) → from ≤ n → n < to →
    Contains (limits_on from to faults) k
passed_on from to [] n k h lo hi = absurd (omega (arith, h.1))
passed_on from to (f ∷ fs) n k h lo hi = elim (in_cons f (n, k) fs h) [
  | inl e ↦ (
      let inside : on from to f ≡ true = (λ i. on from to (e i)) ∙ grind (arith, nat_tests) in
      subst (λ (l : Limit). Contains (limits_on from to (f ∷ fs)) l) (ap limit_in e)
      (here_on (on from to f) f (filter (on from to) fs) inside))
  | inr t ↦ kept_on (on from to f) f (filter (on from to) fs) k (passed_on from to fs n k t lo hi)
]

-- one of the statements passes a limit
pub record OnePasses (from to : ℕ) (faults : List (ℕ × Limit)) (k : Limit) : Type 0 where
  pub statement : ℕ
  pub there : Contains faults (statement, k)
  pub low : from ≤ statement
  pub high : statement < to

later_on : (from to : ℕ) (f : ℕ × Limit) (fs : List (ℕ × Limit)) (k : Limit) → OnePasses from to fs k → OnePasses from to (f ∷ fs) k
later_on from to f fs k h = record {
  statement = h.statement;
  there = Contains-append_right (f ∷ []) fs (h.statement, k) h.there;
  low =
      h.low;
  high = h.high;
}

one_step : (from to : ℕ) (b : Bool) (f : ℕ × Limit) (fs : List (ℕ × Limit)) (k : Limit) → on from to f ≡ b →
    (Contains (limits_on from to fs) k → OnePasses from to fs k) →
    Contains (map limit_in (cond b (f ∷ filter (on from to) fs) (filter (on from to) fs))) k → OnePasses from to (f ∷ fs) k
one_step from to false f fs k e more h = later_on from to f fs k (more h)
one_step from to true f fs k e more h = elim (in_cons f.1 k (limits_on from to fs) h) [
  | inl is ↦ record {
    statement = f.0;
    there = (0, omega arith, λ i. (f.0, is i));
    low = grind (arith, nat_tests);
    high = grind (arith, nat_tests);
  }
  | inr t ↦ later_on from to f fs k (more t)
]

pub one_passes : (from to : ℕ) (faults : List (ℕ × Limit)) (k : Limit) → Contains (limits_on from to faults) k →
    OnePasses from to faults k
one_passes from to [] k h = absurd (omega (arith, h.1))
one_passes from to (f ∷ fs) k h = one_step from to (on from to f) f fs k refl (one_passes from to fs k) h

-- ---- numbers of limits

pub most : (l : Limit) → limit_number l ≤ 16
most limit.Tables = omega arith
most limit.KeyWidth = omega arith
most limit.Columns = omega arith
most limit.Types = omega arith
most limit.Points = omega arith
most limit.Locals = omega arith
most limit.Clauses = omega arith
most limit.Variables = omega arith
most limit.AlwaysClauses = omega arith
most limit.Paths = omega arith
most limit.GuardRelations = omega arith
most limit.Actions = omega arith
most limit.Reads = omega arith
most limit.EntriesAndHints = omega arith
most limit.NameLength = omega arith
most limit.NumberSize = omega arith

not_lower : (k l : Limit) → ¬ IsTrue (is_lower k l) → limit_number l ≤ limit_number k
unfolding is_lower
not_lower k l h = grind (arith, nat_tests)

-- ---- the statements of a line

-- these are the statements of the line
abbrev pub AreOn : List ℕ → ℕ → ℕ → ℕ → Type 0
AreOn text line from to = (m : ℕ) → IsLineOf text m line ↔ ((from ≤ m) × (m < to))

-- a statement that passes a limit is on a later line, or on this one
later_or_here : (text : List ℕ) (tree : DesignTree) (line first n at : ℕ) (k : Limit) → IsFirstIn (past_limits tree) first →
    IsLineOf text first line → Contains (past_limits tree) (n, k) → IsLineOf text n at → (line < at) ⊎ (line ≡ at)
later_or_here text tree line first n at k is p there q =
    let behind : first ≤ n = All-contains (λ (f : ℕ × Limit). first ≤ f.0) (past_limits tree) (n, k) is.first there in
    let not_before : ¬ (at < line) = no_earlier text first n at line behind q p in
    elim (cases_lt line at) [
      | inl less ↦ inl less
      | inr most ↦ inr (omega (arith, most, not_before))
    ]

number_here : (tree : DesignTree) (from to n which : ℕ) (k : Limit) → from ≤ n → n < to → which ≤ 16 →
    ((l : Limit) → Contains (limits_on from to (limit_faults tree)) l → which ≤ limit_number l) → Contains (past_limits tree) (n, k) →
    which ≤ limit_number k
number_here tree from to n which k lo hi few written there =
    elim (Contains-append_cases (limit_faults tree) (size_faults tree) (n, k) there) [
      | inl c ↦ written k (passed_on from to (limit_faults tree) n k c lo hi)
      | inr c ↦ (
          let is : k ≡ limit.NumberSize = All-contains (λ (f : ℕ × Limit). f.1 ≡ limit.NumberSize) (size_faults tree) (n, k)
          (sizes_alone tree)
          c in
          subst (λ (l : Limit). which ≤ limit_number l) (sym is) few)
    ]

-- a limit on the line of the first statement that passes one, with a number that none of the limits passed there is below
passes_here : (text : List ℕ) (tree : DesignTree) (line from to first : ℕ) (n : ℕ) (l : Limit) → IsFirstIn (past_limits tree) first →
    IsLineOf text first line → AreOn text line from to → Contains (past_limits tree) (n, l) → from ≤ n → n < to →
    ((k : Limit) → Contains (limits_on from to (limit_faults tree)) k → limit_number l ≤ limit_number k) →
    PassesAt text tree line l
passes_here text tree line from to first n l is p are there lo hi written = record {
  statement = n;
  there = there;
  on_line = (are n).1 (lo, hi);
  first = λ m k at c q. elim (later_or_here text tree line first m at k is p c q) [
    | inl less ↦ inl less
    | inr e ↦ (
        let range = (are m).0 (subst (λ (z : ℕ). IsLineOf text m z) (sym e) q) in
        inr (e, number_here tree from to m (limit_number l) k range.0 range.1 (most l) written c))
  ];
}

pub passes_lowest : (text : List ℕ) (tree : DesignTree) (line from to first : ℕ) (l : Limit) → IsFirstIn (past_limits tree) first →
    IsLineOf text first line → AreOn text line from to → IsLeast is_lower (limits_on from to (limit_faults tree)) l →
    PassesAt text tree line l
passes_lowest text tree line from to first l is p are least =
    let one = one_passes from to (limit_faults tree) l least.there in
    let written : (k : Limit) → Contains (limits_on from to (limit_faults tree)) k → limit_number l ≤ limit_number k =
    λ k c. not_lower k l (All-contains (λ (y : Limit). ¬ IsTrue (is_lower y l)) (limits_on from to (limit_faults tree)) k least.least
    c)
    in
    passes_here text tree line from to first one.statement l is p are
    (Contains-append_left (limit_faults tree) (size_faults tree) (one.statement, l) one.there) one.low one.high written

-- no limit is passed there by what is written
no_item : {X : Type 0} (x : X) → Contains [] x → ⊥
no_item x h = omega (arith, h.1)

pub passes_collected : (text : List ℕ) (tree : DesignTree) (line from to first : ℕ) → IsFirstIn (past_limits tree) first →
    IsLineOf text first line → AreOn text line from to → limits_on from to (limit_faults tree) ≡ [] →
    PassesAt text tree line limit.NumberSize
passes_collected text tree line from to first is p are none =
    let range = (are first).0 p in
    let nothing : (k : Limit) → Contains (limits_on from to (limit_faults tree)) k → ⊥ =
    λ k c. no_item k (subst (λ (ls : List Limit). Contains ls k) none c) in
    let collected : Contains (size_faults tree) (first, is.limit) =
    elim (Contains-append_cases (limit_faults tree) (size_faults tree) (first, is.limit) is.there) [
      | inl c ↦ absurd (nothing is.limit (passed_on from to (limit_faults tree) first is.limit c range.0 range.1))
      | inr c ↦ c
    ] in
    let kind : is.limit ≡ limit.NumberSize = All-contains (λ (f : ℕ × Limit). f.1 ≡ limit.NumberSize) (size_faults tree) (
      first,
      is.limit,
    )
    (sizes_alone tree) collected in
    passes_here text tree line from to first first limit.NumberSize is p are
    (subst (λ (l : Limit). Contains (past_limits tree) (first, l)) kind is.there) range.0 range.1 (λ k c. absurd (nothing k c))

-- ---- the first of two kinds of faults

not_before : (n : ℕ) (l : Limit) (f : ℕ × Limit) → ¬ IsTrue (is_before f (n, l)) → n ≤ f.0
unfolding is_before
not_before n l f h = grind (arith, nat_tests)

least_first : (fs : List (ℕ × Limit)) (f : ℕ × Limit) (n : ℕ) → n ≤ f.0 → IsLeast is_before fs f → All (λ (g : ℕ × Limit). n ≤ g.0) fs
least_first fs f n le h = All-weaker (λ (g : ℕ × Limit). ¬ IsTrue (is_before g f)) (λ (g : ℕ × Limit). n ≤ g.0)
    (λ g k. omega (arith, le, not_before f.0 f.1 g k)) fs h.least

pub first_left : (fs gs : List (ℕ × Limit)) (f g : ℕ × Limit) → IsLeast is_before fs f → IsLeast is_before gs g → f.0 ≤ g.0 →
    IsFirstIn (fs ++ gs) f.0
first_left fs gs f g h k le = record {
  limit = f.1;
  there = Contains-append_left fs gs f h.there;
  first = All-append (λ (e : ℕ × Limit). f.0 ≤ e.0) fs gs (least_first fs f f.0 (omega arith) h) (least_first gs g f.0 le k);
}

pub first_right : (fs gs : List (ℕ × Limit)) (f g : ℕ × Limit) → IsLeast is_before fs f → IsLeast is_before gs g → g.0 ≤ f.0 →
    IsFirstIn (fs ++ gs) g.0
first_right fs gs f g h k le = record {
  limit = g.1;
  there = Contains-append_right fs gs g k.there;
  first = All-append (λ (e : ℕ × Limit). g.0 ≤ e.0) fs gs (least_first fs f g.0 le h) (least_first gs g g.0 (omega arith) k);
}

pub first_both : (fs gs : List (ℕ × Limit)) (f g : ℕ × Limit) (n : ℕ) → IsLeast is_before fs f → IsLeast is_before gs g →
    n ≡ min f.0 g.0 →
    IsFirstIn (fs ++ gs) n
first_both fs gs f g n h k e = elim (cases_lt g.0 f.0) [
  | inl less ↦ (let is : n ≡ g.0 = omega (arith, e, less) in
      subst (λ (m : ℕ). IsFirstIn (fs ++ gs) m) (sym is) (first_right fs gs f g h k (omega (arith, less))))
  | inr most ↦ (let is : n ≡ f.0 = omega (arith, e, most) in
      subst (λ (m : ℕ). IsFirstIn (fs ++ gs) m) (sym is) (first_left fs gs f g h k most))
]

pub first_alone : (fs all : List (ℕ × Limit)) (f : ℕ × Limit) → IsLeast is_before fs f → all ≡ fs → IsFirstIn all f.0
first_alone fs all f h e = subst (λ (es : List (ℕ × Limit)). IsFirstIn es f.0) (sym e)
    (record { limit = f.1; there = h.there; first = least_first fs f f.0 (omega arith) h })
