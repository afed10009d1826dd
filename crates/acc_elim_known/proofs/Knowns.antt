-- What is kept of relations, and what becomes of it.
use Rattle.std.proofs.Common.{◌≡◌, ◌≤◌, ◌-◌, ◌+◌, ℕ, zero, suc, false, List, [], ◌∷◌, ◌++◌, Option, Some, None, Ok, Err, refl, ap}
use Rattle.std.proofs.Common.{sym, ◌∙◌, subst, arith, append-nil, append_assoc, ◌⊎◌, inl, inr}
use Rattle.std.specs.Prelude.{◌≢◌, reverse, true, Result, IfOk, IfSome, OnOk}
use Rattle.std.specs.Result.{is_ok}
use Rattle.std.specs.List.{list_any}
use Rattle.acc_rows.specs.declared.stops.Stop.{Stop}
use Rattle.acc_rows.specs.declared.stops.Stop.TheVariants.{Refuted, Wide, Many, Memory}
use Rattle.acc_rows.specs.declared.rows.Row.{Row}
use Rattle.acc_elim_systems.specs.declared.systems.Reduced.{Reduced}
use Rattle.acc_base.specs.Computing.{chain, steps}
use Rattle.acc_rows.specs.Answers.{Computation, StoppedBy}
use Rattle.acc_base.specs.Items.{numbers_from}
use Rattle.acc_elim_systems.specs.Systems.{admitted, taken, replaced, whole, set_aside}
use Rattle.acc_rows.proofs.Chains.{steps_append}
use Rattle.acc_elim_systems.proofs.SystemSteps.{numbers_suc}
use Rattle.acc_elim_points.specs.Searches.{found_by}
use Rattle.acc_elim_stages.specs.declared.stages.Stage.{Stage}
use Rattle.acc_elim_stages.specs.declared.stages.Path.{Path}
use Rattle.acc_elim_known.specs.declared.known.Whole.{Whole}
use Rattle.acc_elim_known.specs.declared.known.Stopped.{Stopped}
use Rattle.acc_elim_known.specs.declared.known.Known.{Known}
use Rattle.acc_elim_known.specs.declared.known.Known.TheVariants as known
use Rattle.acc_elim_stages.specs.Followed.{listed, through}
use Rattle.acc_elim_stages.specs.Stages.{aside_of, reduced, with_last, with_left, FollowsBy, IsStage}
use Rattle.acc_elim_stages.specs.Carried.{IsCarriedAlong, path_with, stage_with}
use Rattle.acc_elim_known.specs.Ends.{is_equation, found_behind, IsWhole, IsStopped, IsKnown, HasPoint}
use Rattle.acc_elim_stages.proofs.Lefts.{through_same}
use Rattle.acc_elim_stages.proofs.Extended.{laws, begun_next, aside_is, with_taken}
use Rattle.acc_elim_stages.proofs.Carried.{carried_along, left_equal}
use Rattle.acc_elim_known.proofs.Ended.{rest, found_parts, found_alone, begun_more, none_taken}

-- what stops an elimination, other than want of memory
pub stop_is : {A : Type 0} (e : Stop) (o : Computation A) → e ≢ Memory → StoppedBy e o → o ≡ Err e
stop_is (Refuted r) o some h = h
stop_is Wide o some h = h
stop_is Many o some h = h
stop_is Memory o some h = absurd (some refl)

pub stopped_by : {A : Type 0} (d e : Stop) (o : Computation A) → d ≡ e → o ≡ Err e → StoppedBy d o
stopped_by d e o same h = by d (h ∙ ap Err (sym same))
  where
    by : (d : Stop) → o ≡ Err d → StoppedBy d o
    by (Refuted r) h = h
    by Wide h = h
    by Many h = h
    by Memory h = tt

-- what a call tells where it answers a value
pub when_ok : {T : Type 0} (r : Result T Stop) (P : Type 0) → is_ok r ≡ true → OnOk r P → P
when_ok (Ok x) P told h = h
when_ok (Err e) P told h = absurd (cc)

-- ---- a stage that stops

err_of : {A B : Type 0} (c : Computation A) (f : A → B) (e : Stop) → chain c (λ x. Ok (f x)) ≡ Err e → c ≡ Err e
err_of (Ok x) f e h = absurd (cc)
err_of (Err d) f e h = cc

-- it stops so too with one more inequality behind the others
module _ (s : Reduced) (u : ℕ) (p : Option Row) (aside : List (ℕ × Row)) (left : List ℕ) (e : Stop) where
  abbrev more : Reduced
  more = record { rows = s.rows ++ listed p; aside = aside; left = left }

  pub set_stopped : IfSome p (λ r. r.equal ≡ false) → set_aside s u ≡ Err e → set_aside more u ≡ Err e
  set_stopped same stops = by (taken u s.rows) refl
    where
      by : (o : Option (Row × List Row)) → taken u s.rows ≡ o → set_aside more u ≡ Err e
      by None none = absurd (let h = sym (aside_is s u None none) ∙ stops in cc)
      by (Some t) some =
          let h = err_of (steps (replaced u t.0) [] t.1) _ e (sym (aside_is s u (Some t) some) ∙ stops) in
          aside_is more u (Some (t.0, t.1 ++ listed p)) (with_taken s u p (Some t) same some)
          ∙ ap (λ c. chain c (λ rows. Ok (record { rows = rows; aside = aside ++ (u, t.0) ∷ []; left = left })))
          (steps_append (replaced u t.0) t.1 (listed p) [] ∙ ap (λ c. chain c (λ rs. steps (replaced u t.0) rs (listed p))) h)

pub found_stopped : (rows : List Row) (n : ℕ) (s : Stopped) → IsStopped rows n s → found_by n rows ≡ Err s.stop
found_stopped rows n s is =
    let u = is.unknown in
    found_parts n rows
    ∙ ap (λ o. chain o (rest n)) (begun_more rows (suc u) n is.within
    ∙ ap (λ o. chain o (λ s. steps set_aside s (numbers_from (suc u) (n - suc u)))) (begun_next rows u
    ∙ (ap (λ o. chain o (λ s. set_aside s u)) (laws u rows is.stage is.is_stage).alone ∙ is.stops)))

pub found_stopped_with : (rows : List Row) (n m : ℕ) (s : Stopped) (t : Row) → IsStopped rows n s → n ≤ m → t.equal ≡ false
    → found_by m (rows ++ t ∷ []) ≡ chain (through s.path t) (λ _. Err s.stop)
found_stopped_with rows n m s t is within equal =
    found_parts m (rows ++ t ∷ [])
    ∙ (ap (λ o. chain o (rest m)) (begun_more (rows ++ t ∷ []) (suc is.unknown) m (omega (arith, within, is.within))
    ∙ ap (λ o. chain o (λ s. steps set_aside s (numbers_from (suc is.unknown) (m - suc is.unknown))))
    (begun_next (rows ++ t ∷ []) is.unknown
    ∙ ap (λ o. chain o (λ s. set_aside s is.unknown)) ((laws is.unknown rows is.stage is.is_stage).after t equal)))
    ∙ (by (through is.stage.path t) (through_same false is.stage.path t equal) ∙ ap (λ p. chain (through p t) (λ _. Err s.stop)) is.path))
  where
    by : (c : Computation (Option Row)) → IfOk c (λ o. IfSome o (λ r. r.equal ≡ false))
        → chain (chain (chain (chain c (λ o. Ok (with_last (reduced is.stage) o))) (λ s. set_aside s is.unknown))
        (λ s. steps set_aside s (numbers_from (suc is.unknown) (m - suc is.unknown)))) (rest m)
        ≡ chain c (λ _. Err s.stop)
    by (Ok o) same =
        ap (λ c. chain (chain c (λ s. steps set_aside s (numbers_from (suc is.unknown) (m - suc is.unknown)))) (rest m))
        (set_stopped (reduced is.stage) is.unknown o (aside_of is.stage.path.steps) is.stage.left s.stop same is.stops)
    by (Err d) same = refl

-- ---- relations that make no system

pub found_unbegun : (rows : List Row) (n : ℕ) (e : Stop) → steps admitted [] rows ≡ Err e → found_by n rows ≡ Err e
found_unbegun rows n e h =
    found_parts n rows
    ∙ ap (λ o. chain (chain o (λ system. steps set_aside (whole system) (numbers_from 0 n))) (rest n)) h

pub unbegun_with : (rows : List Row) (t : Row) (e : Stop) → steps admitted [] rows ≡ Err e → steps admitted [] (rows ++ t ∷ []) ≡ Err e
unbegun_with rows t e h = steps_append admitted rows (t ∷ []) [] ∙ ap (λ o. chain o (λ s. steps admitted s (t ∷ []))) h

-- ---- more unknowns

extended_by : (rows : List Row) (k n m : ℕ) (g : Stage) → m ≡ n + k → list_any is_equation g.rows ≡ false → IsStage rows n g
    → IsStage rows m (record { path = g.path; rows = g.rows; left = g.left ++ numbers_from n k })
extended_by rows zero n m g same none is =
    let e : n ≡ m = omega (arith, same) in
    subst (λ left. IsStage rows m (record { path = g.path; rows = g.rows; left = left })) (sym (append-nil g.left))
    (subst (λ i. IsStage rows i g) e is)
extended_by rows (suc k) n m g same none is =
    let e : m ≡ suc n + k = omega (arith, same) in
    subst (λ left. IsStage rows m (record { path = g.path; rows = g.rows; left = left }))
    (append_assoc g.left (n ∷ []) (numbers_from (suc n) k) ∙ ap (λ us. g.left ++ us) (sym (numbers_suc n k)))
    (extended_by rows k (suc n) m (with_left g n) e none
    (g, is, subst (FollowsBy g n (with_left g n)) (sym (none_taken n g.rows none)) refl))

pub extended_stage : (rows : List Row) (n m : ℕ) (g : Stage) → n ≤ m → list_any is_equation g.rows ≡ false → IsStage rows n g
    → IsStage rows m (record { path = g.path; rows = g.rows; left = g.left ++ numbers_from n (m - n) })
extended_stage rows n m g within none is =
    extended_by rows (m - n) n m g (omega (arith, within)) none is

pub stopped_longer : (rows : List Row) (n m : ℕ) (s : Stopped) → n ≤ m → IsStopped rows n s → IsStopped rows m s
stopped_longer rows n m s within is = record {
  stage = is.stage;
  unknown = is.unknown;
  within = omega (arith, within, is.within);
  is_stage = is.is_stage;
  path = is.path;
  stops = is.stops;
}

-- ---- one more inequality

pub whole_carried : (rows : List Row) (n : ℕ) (w : Whole) (t : Row) (p : Path) (o : Option Row) → t.equal ≡ false
    → IsCarriedAlong w.stage.path t p o → IsWhole rows n w → IsWhole (rows ++ t ∷ []) n (record {
      unknowns = w.unknowns;
      stage = record { path = p; rows = w.stage.rows ++ listed o; left = w.stage.left };
      point = None;
    })
whole_carried rows n w t p o equal along is = record {
  unknowns = is.unknowns;
  stage = subst (λ p. IsStage (rows ++ t ∷ []) n (record { path = p; rows = w.stage.rows ++ listed o; left = w.stage.left }))
      (sym along.path)
      (carried_along rows t equal n w.stage is.stage along.rest (along.notes, o) along.first along.trail);
  point = tt;
}

pub stopped_carried : (rows : List Row) (n : ℕ) (s : Stopped) (t : Row) (p : Path) (o : Option Row) → t.equal ≡ false
    → IsCarriedAlong s.path t p o → IsStopped rows n s → IsStopped (rows ++ t ∷ []) n (record { path = p; stop = s.stop })
stopped_carried rows n s t p o equal along is =
    let g = is.stage in
    let here : IsCarriedAlong g.path t p o = subst (λ q. IsCarriedAlong q t p o) (sym is.path) along in
    record {
      stage = stage_with g here.rest (here.notes, o);
      unknown = is.unknown;
      within = is.within;
      is_stage = carried_along rows t equal is.unknown g is.is_stage here.rest (here.notes, o) here.first here.trail;
      path = sym here.path;
      stops = set_stopped (reduced g) is.unknown o (aside_of (path_with g.path here.rest here.notes).steps) g.left s.stop
          (left_equal g.path.first (reverse g.path.steps) t here.rest (here.notes, o) equal here.first here.trail) is.stops;
    }

-- ---- what is kept

pub has_point : (rows : List Row) (n : ℕ) (k : Known) → IsKnown rows n k → HasPoint k
has_point rows n (known.Whole w) is = is.point
has_point rows n (known.Stopped s) is = tt
has_point rows n (known.Unbegun e) is = tt

pub whole_found : (rows : List Row) (n : ℕ) (w : Whole) → IsWhole rows n w
    → found_behind w.stage w.unknowns None w.unknowns ≡ found_by n rows
whole_found rows n w is =
    ap (λ u. found_behind w.stage u None u) is.unknowns ∙ sym (found_alone rows n n w.stage (laws n rows w.stage is.stage) (omega arith))

pub none_left : (n m : ℕ) (P : Type 0) → (n ≡ m) ⊎ P → n ≢ m → P
none_left n m P (inl e) other = absurd (other e)
none_left n m P (inr h) other = h

pub whole_same : (rows : List Row) (n m : ℕ) (w : Whole) → n ≡ m → IsWhole rows n w → IsWhole rows m w
whole_same rows n m w same is = subst (λ i. IsWhole rows i w) same is

pub extended_whole_by : (rows : List Row) (n m : ℕ) (w : Whole) (left : List ℕ) → n ≤ m → list_any is_equation w.stage.rows ≡ false
    → left ≡ w.stage.left ++ numbers_from w.unknowns (m - w.unknowns) → IsWhole rows n w
    → IsWhole rows m (record {
      unknowns = m;
      stage = record { path = w.stage.path; rows = w.stage.rows; left = left };
      point = None;
    })
extended_whole_by rows n m w left within none same is = record {
  unknowns = refl;
  stage = subst (λ left. IsStage rows m (record { path = w.stage.path; rows = w.stage.rows; left = left }))
      (sym (same ∙ ap (λ u. w.stage.left ++ numbers_from u (m - u)) is.unknowns))
      (extended_stage rows n m w.stage within none is.stage);
  point = tt;
}
