-- Along the reads of a step: their relations and hypotheses, and the bounds of their values.
use Rattle.std.proofs.Common.{◌≡◌, ℕ, suc, ◌+◌, ◌≤◌, true, List, [], ◌∷◌, ◌++◌, map, length, set, refl, ap, ◌∙◌, subst, arith, Some, ℤ, pos}
use Rattle.std.proofs.Common.{◌<ℤ◌}
use Rattle.std.specs.List.{AllByRecursion}
use Rattle.std.specs.Cmp.{first_so}
use Rattle.std.proofs.lemmas.List.{map-set, append-nil, length-map}
use Rattle.acc_base.specs.declared.tables.Row.{Row}
use Rattle.acc_base.specs.declared.forms.Rel.{Rel}
use Rattle.acc_base.specs.declared.steps.Read.{Read}
use Rattle.acc_base.specs.declared.steps.Read.TheVariants.{Let, Col, Has, Count, Sum, Least, Greatest, Take, Mul, Div}
use Rattle.acc_base.specs.declared.machines.Frame.{Frame}
use Rattle.acc_base.specs.Numbers.{is_small, IsSmall}
use Rattle.acc_base.specs.Tables.{least_of, greatest_of}
use Rattle.acc_base.specs.Linear.{var, variables, lin_value, lin_values}
use Rattle.acc_base.specs.Reads.{Reading, assigned, read_value, after_reads}
use Rattle.acc_base.specs.Truth.{rel_true, ClauseTrue}
use Rattle.acc_base.proofs.Smalls.{small_is}
use Rattle.acc_base.specs.Items.{numbers_from}
use Rattle.acc_preconditions.proofs.Alls.{all-append}
use Rattle.acc_oblig.specs.declared.naming.Naming.{Naming}
use Rattle.acc_oblig.specs.Relations.{read_rels, read_hyps, is_less}
use Rattle.acc_oblig.specs.Settings.{with_self, all_read_rels, all_read_hyps, all_bounds}
use Rattle.acc_oblig.proofs.Names.{Agrees, AgreesNear}
use Rattle.acc_oblig.proofs.Reading.{read_on, read_values, reads_on}
use Rattle.acc_oblig.proofs.FormValues.{is_at_most_bound_true, is_at_least_minus_bound_true}
use Rattle.acc_oblig.proofs.ReadRels.{HasDivisor, read_true}
use Rattle.acc_oblig.proofs.Parts.{HasPart}
use Rattle.acc_oblig.proofs.Extremes.{true_is_less, least_is, greatest_is, extreme_true}
use Rattle.acc_oblig.proofs.Carries.{Carries, self_agrees}

-- the rows below a prefix that is looked below have a component behind it
abbrev pub LooksBelow : List Row → Read → Type 0
LooksBelow db (Let y l) = Unit {0}
LooksBelow db (Col y t k c) = Unit {0}
LooksBelow db (Has y t k) = Unit {0}
LooksBelow db (Count y t p) = Unit {0}
LooksBelow db (Sum y t p c) = Unit {0}
LooksBelow db (Least y t p) = (q : List ℤ) → length q ≡ length p → AllByRecursion (HasPart t q) db
LooksBelow db (Greatest y t p) = (q : List ℤ) → length q ≡ length p → AllByRecursion (HasPart t q) db
LooksBelow db (Take y) = Unit {0}
LooksBelow db (Mul y u v) = Unit {0}
LooksBelow db (Div y u c) = Unit {0}

module _ (db : List Row) (E : List ℤ) where
  abbrev pub TrueRel : Rel → Type 0
  TrueRel r = rel_true db E r ≡ true

  -- ---- bounds

  pub bounds_true : (xs : List ℕ) → AllByRecursion IsSmall (map (var E) xs) → AllByRecursion TrueRel (all_bounds xs)
  bounds_true [] h = tt
  bounds_true (x ∷ xs) h = (is_at_most_bound_true db E x h.0, (is_at_least_minus_bound_true db E x h.0, bounds_true xs h.1))

  -- ---- one read

  module _ (n : Naming) (e tape : List ℤ) (at : ℕ) (agree : AgreesNear n E e) (x k : ℕ)
      (own_worth : (m : ℤ) → var (E ++ m ∷ []) k ≡ m) where
    pub hyps_true :
        (r : Read) → LooksBelow db r → ((own : List ℤ) → length own ≤ 1 → var (E ++ own) x ≡ read_value db tape at e r)
        → AllByRecursion (ClauseTrue db E) (read_hyps n k x r)
    hyps_true (Let y l) g h = tt
    hyps_true (Col y t q c) g h = tt
    hyps_true (Has y t q) g h = tt
    hyps_true (Count y t p) g h = tt
    hyps_true (Sum y t p c) g h = tt
    hyps_true (Least y t p) g h =
        extreme_true db E n e agree x k (least_of db t (lin_values e p)) h own_worth t p _
        (least_is db t (lin_values e p) (g (lin_values e p) (length-map p (lin_value e)))) (is_less k x)
        (λ m w. far m (true_is_less db (E ++ m ∷ []) k x w))
      where
        far : (m : ℤ) → var (E ++ m ∷ []) k <ℤ var (E ++ m ∷ []) x → m <ℤ least_of db t (lin_values e p)
        far m w = subst (λ z. m <ℤ z) (h (m ∷ []) (omega arith)) (subst (λ z. z <ℤ var (E ++ m ∷ []) x) (own_worth m) w)
    hyps_true (Greatest y t p) g h =
        extreme_true db E n e agree x k (greatest_of db t (lin_values e p)) h own_worth t p _
        (greatest_is db t (lin_values e p) (g (lin_values e p) (length-map p (lin_value e)))) (is_less x k)
        (λ m w. far m (true_is_less db (E ++ m ∷ []) x k w))
      where
        far : (m : ℤ) → var (E ++ m ∷ []) x <ℤ var (E ++ m ∷ []) k → greatest_of db t (lin_values e p) <ℤ m
        far m w = subst (λ z. z <ℤ m) (h (m ∷ []) (omega arith)) (subst (λ z. var (E ++ m ∷ []) x <ℤ z) (own_worth m) w)
    hyps_true (Take y) g h = tt
    hyps_true (Mul y u v) g h = tt
    hyps_true (Div y u c) g h = tt

-- ---- all reads

pub record ReadsTrue (db : List Row) (E : List ℤ) (me vars : ℕ) (now : List ℕ) (x : ℕ) (rs : List Read) : Type 0 where
  pub rels : AllByRecursion (TrueRel db E) (all_read_rels me vars now x rs)
  pub hyps : AllByRecursion (ClauseTrue db E) (all_read_hyps me vars now x rs)

module _ (db : List Row) (f : Frame) (vs E : List ℤ) (near : (own : List ℤ) → length own ≤ 1 → Carries f vs (E ++ own) (length E + 1))
    (own_worth : (m : ℤ) → var (E ++ m ∷ []) (length E) ≡ m) where
  pub near_agrees :
      (now : List ℕ) (locals : List ℤ) → ((own : List ℤ) → length own ≤ 1 → map (var (E ++ own)) now ≡ locals)
      → AgreesNear (with_self now (length f.locals) (length E + 1)) E (variables f.t locals)
  near_agrees now locals h own few = self_agrees f vs (E ++ own) (length E + 1) (near own few) now locals (h own few)

  pub here_agrees : (n : Naming) (e : List ℤ) → AgreesNear n E e → Agrees n E e
  here_agrees n e h = subst (λ z. Agrees n z e) (append-nil E) (h [] (omega arith))

  abbrev head : List ℤ → ℤ
  head [] = pos 0
  head (y ∷ ys) = y

  abbrev tail : List ℤ → List ℤ
  tail [] = []
  tail (y ∷ ys) = ys

  set_worth :
      (F : List ℤ) (now : List ℕ) (x : ℕ) (q : Read) (z : Reading) → map (var F) now ≡ z.locals
      → var F x ≡ read_value db f.tape z.at (variables f.t z.locals) q → map (var F) (set now (assigned q) x) ≡ (read_on db f z q).locals
  set_worth F now x q z a b = map-set (var F) now (assigned q) x ∙ (λ i. set (a i) (assigned q) (b i))

  pub reads_true :
      (now : List ℕ) (x : ℕ) (rs : List Read) (s : Reading) → ((own : List ℤ) → length own ≤ 1 → map (var (E ++ own)) now ≡ s.locals)
      → ((own : List ℤ) → length own ≤ 1 → map (var (E ++ own)) (numbers_from x (length rs)) ≡ read_values db f s rs)
      → AllByRecursion HasDivisor rs → AllByRecursion (LooksBelow db) rs → ReadsTrue db E (length f.locals) (length E) now x rs
  reads_true now x [] s h g d l = record { rels = tt; hyps = tt }
  reads_true now x (r ∷ rs) s h g d l =
      let agree = near_agrees now s.locals h in
      let n = with_self now (length f.locals) (length E + 1) in
      let here : (own : List ℤ) → length own ≤ 1
      → var (E ++ own) x ≡ read_value db f.tape s.at (variables f.t s.locals) r = λ own few. ap head (g own few) in
      let at_x : var E x ≡ read_value db f.tape s.at (variables f.t s.locals) r =
      subst (λ z. var z x ≡ read_value db f.tape s.at (variables f.t s.locals) r) (append-nil E) (here [] (omega arith)) in
      let rest = reads_true (set now (assigned r) x) (x + 1) rs (read_on db f s r)
      (λ own few. set_worth (E ++ own) now x r s (h own few) (here own few)) (λ own few. ap tail (g own few)) d.1 l.1 in
      record {
        rels =
            all-append (TrueRel db E) (read_rels n x r) _
            (read_true db E n (variables f.t s.locals) f.tape s.at x (here_agrees n (variables f.t s.locals) agree) r d.0 at_x) rest.rels;
        hyps =
            all-append (ClauseTrue db E) (read_hyps n (length E) x r) _
            (hyps_true db E n (variables f.t s.locals) f.tape s.at agree x (length E) own_worth r l.0 here) rest.hyps;
      }

-- ---- the values of the reads are small

pub values_small :
    (db : List Row) (f : Frame) (rs : List Read) (s last : Reading) → after_reads db f rs s ≡ Some last
    → AllByRecursion IsSmall (read_values db f s rs)
values_small db f [] s last e = tt
values_small db f (r ∷ rs) s last e =
    let o = reads_on db f s last r rs e in (
      small_is (read_value db f.tape s.at (variables f.t s.locals) r)
          (first_so (is_small (read_value db f.tape s.at (variables f.t s.locals) r)) _ o.small),
      values_small db f rs (read_on db f s r) last o.rest,
    )

pub values_long : (db : List Row) (f : Frame) (rs : List Read) (s : Reading) → length (read_values db f s rs) ≡ length rs
values_long db f [] s = refl
values_long db f (r ∷ rs) s = ap suc (values_long db f rs (read_on db f s r))
