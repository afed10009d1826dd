-- A step of a well-formed design has at most 512 numbers.
use Rattle.std.proofs.Common.{◌≡◌, ℕ, ◌+◌, ◌*◌, ◌/◌, ◌^◌, ◌≤◌, true, List, [], ◌∷◌, ◌++◌, map, length, set, refl, arith, Option, Some, None}
use Rattle.std.proofs.Common.{length-append}
use Rattle.std.specs.Prelude.{slice_get, count_by, nat_le}
use Rattle.std.specs.List.{AllByRecursion}
use Rattle.std.proofs.lemmas.Bool.{false≢true, and_parts, leb-true, ltb-true, eqb-true}
use Rattle.std.proofs.lemmas.List.{length-map}
use Rattle.acc_base.specs.declared.tables.Table.{Table}
use Rattle.acc_base.specs.declared.forms.Lin.{Lin}
use Rattle.acc_base.specs.declared.steps.Read.{Read}
use Rattle.acc_base.specs.declared.steps.Read.TheVariants as read
use Rattle.acc_base.specs.declared.steps.Action.{Action}
use Rattle.acc_base.specs.declared.steps.Action.TheVariants as action
use Rattle.acc_base.specs.declared.designs.Design.{Design}
use Rattle.acc_base.specs.Reads.{assigned, read_key}
use Rattle.acc_formed.specs.Widths.{is_key, is_prefix, fills, is_short_prefix, read_fits, read_leaves_a_component, action_fits}
use Rattle.acc_formed.specs.WellFormed.{IsTableFormed, IsWellFormed}
use Rattle.acc_formed.proofs.Runs.{IsTableSmall, table_is_small}
use Rattle.acc_base.specs.Soundness.{adds_to}
use Rattle.acc_oblig.specs.Settings.{with_self}
use Rattle.acc_oblig.specs.Ranges.{key_number, value_number, read_numbers, in_range, one_action_numbers, numbers_of}
use Rattle.acc_oblig.proofs.OnPath.{numbered_at}

abbrev pub SmallTables : Design → Type 0
SmallTables d = (t : ℕ) (table : Table) → slice_get d.tables t ≡ Some table → IsTableSmall table

pub small_tables : (d : Design) → IsWellFormed d → SmallTables d
small_tables d wf t table e = table_is_small table (numbered_at (IsTableFormed d.tables) d.tables t table wf.tables e).limits

module _ (d : Design) (small : SmallTables d) where
  few_key : (t : ℕ) (k : List Lin) → is_key (slice_get d.tables t) k ≡ true → length k ≤ 6
  few_key t k h = by (slice_get d.tables t) refl h
    where
      by : (o : Option Table) → slice_get d.tables t ≡ o → is_key o k ≡ true → length k ≤ 6
      by None e g = absurd (false≢true g)
      by (Some x) e g = let l = eqb-true (length k) x.width g in let m = (small t x e).width in omega (arith, l, m)

  few_prefix : (t : ℕ) (p : List Lin) → is_prefix (slice_get d.tables t) p ≡ true → length p ≤ 6
  few_prefix t p h = by (slice_get d.tables t) refl h
    where
      by : (o : Option Table) → slice_get d.tables t ≡ o → is_prefix o p ≡ true → length p ≤ 6
      by None e g = absurd (false≢true g)
      by (Some x) e g =
          let l = leb-true (length p) x.width (and_parts (nat_le 1 (length p)) (nat_le (length p) x.width) g).1 in
          let m = (small t x e).width in
          omega (arith, l, m)

  few_short : (t : ℕ) (p : List Lin) → is_short_prefix (slice_get d.tables t) p ≡ true → length p ≤ 6
  few_short t p h = by (slice_get d.tables t) refl h
    where
      by : (o : Option Table) → slice_get d.tables t ≡ o → is_short_prefix o p ≡ true → length p ≤ 6
      by None e g = absurd (false≢true g)
      by (Some x) e g = let l = ltb-true (length p) x.width g in let m = (small t x e).width in omega (arith, l, m)

  few_values : (t : ℕ) (vs : List Lin) → fills (slice_get d.tables t) vs ≡ true → length vs ≤ 12
  few_values t vs h = by (slice_get d.tables t) refl h
    where
      by : (o : Option Table) → slice_get d.tables t ≡ o → fills o vs ≡ true → length vs ≤ 12
      by None e g = absurd (false≢true g)
      by (Some x) e g = let l = eqb-true (length vs) (length x.cols) g in let m = (small t x e).columns in omega (arith, l, m)

  pub few_parts : (r : Read) → read_fits d.tables r ≡ true → read_leaves_a_component d.tables r ≡ true → length (read_key r) ≤ 6
  few_parts (read.Let y l) h g = omega arith
  few_parts (read.Col y t k c) h g = few_key t k h
  few_parts (read.Has y t k) h g = few_key t k h
  few_parts (read.Count y t p) h g = few_prefix t p h
  few_parts (read.Sum y t p c) h g = few_prefix t p h
  few_parts (read.Least y t p) h g = few_short t p g
  few_parts (read.Greatest y t p) h g = few_short t p g
  few_parts (read.Take y) h g = omega arith
  few_parts (read.Mul y u v) h g = omega arith
  few_parts (read.Div y u c) h g = omega arith

  pub few_of_action : (all : List Action) (a : Action) → action_fits d.tables a ≡ true → length (one_action_numbers all a) ≤ 18
  few_of_action all (action.Put t k vs) h =
      let p = and_parts (is_key (slice_get d.tables t) k) (fills (slice_get d.tables t) vs) h in
      let a = few_key t k p.0 in
      let b = few_values t vs p.1 in
      let c = length-append (map in_range k) (map in_range vs) in
      let e = length-map k in_range in
      let f = length-map vs in_range in
      omega (arith, a, b, c, e, f)
  few_of_action all (action.Del t k) h = let a = few_key t k h in let e = length-map k in_range in omega (arith, a, e)
  few_of_action all (action.Set t k c v) h =
      let a = few_key t k h in
      let e = length-map k in_range in
      let g = length-append (map in_range k) (in_range v ∷ []) in
      omega (arith, a, e, g)
  few_of_action all (action.Add t k c v) h =
      let a = few_key t k h in
      let e = length-map k in_range in
      let g = length-append (map in_range k) (record { value = v; most = 2 ^ 45 / count_by (adds_to t c) all } ∷ []) in
      omega (arith, a, e, g)

abbrev pub FewParts : Read → Type 0
FewParts r = length (read_key r) ≤ 6

pub few_numbers :
    (me vars : ℕ) (now : List ℕ) (x i : ℕ) (rs : List Read) → AllByRecursion FewParts rs
    → length (read_numbers me vars now x i rs) ≤ 7 * length rs
few_numbers me vars now x i [] h = omega arith
few_numbers me vars now x i (r ∷ rs) h =
    let ks = map (key_number (with_self now me (vars + 1)) i) (read_key r) in
    let rest = few_numbers me vars (set now (assigned r) x) (x + 1) (i + 1) rs h.1 in
    let a = length-append (ks ++ value_number x i r ∷ []) (read_numbers me vars (set now (assigned r) x) (x + 1) (i + 1) rs) in
    let b = length-append ks (value_number x i r ∷ []) in
    let c = length-map (read_key r) (key_number (with_self now me (vars + 1)) i) in
    let k = h.0 in
    omega (arith, rest, a, b, c, k)

pub few_action_numbers :
    (all acts : List Action) → AllByRecursion (λ a. length (one_action_numbers all a) ≤ 18) acts
    → length (numbers_of all acts) ≤ 18 * length acts
few_action_numbers all [] h = omega arith
few_action_numbers all (a ∷ rest) h =
    let more = few_action_numbers all rest h.1 in
    let b = length-append (one_action_numbers all a) (numbers_of all rest) in
    let k = h.0 in
    omega (arith, more, b, k)
