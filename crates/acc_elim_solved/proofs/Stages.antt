-- The two stages of an elimination, and the point that its values give backwards.
use Rattle.std.proofs.Common.{◌≡◌, ℕ, zero, suc, ◌+◌, ◌<◌, Bool, true, false, List, [], ◌∷◌, ◌++◌, Option, Some, None, Ok, refl, ap}
use Rattle.std.proofs.Common.{sym, ◌∙◌, subst, arith, ℤ, pos, if◌then◌else◌, ◌⊎◌, inl, inr, append_assoc, append-nil}
use Rattle.std.specs.Prelude.{All, reverse}
use Rattle.std.proofs.lemmas.List.{reverse-append}
use Rattle.std.proofs.lemmas.List.Elements.{All-nil, All-head, All-tail, All-cons, All-push}
use Rattle.acc_rows.specs.declared.rows.Row.{Row}
use Rattle.acc_elim_systems.specs.declared.systems.Reduced.{Reduced}
use Rattle.acc_base.specs.Computing.{chain, steps}
use Rattle.acc_rows.proofs.Chains.{steps_append}
use Rattle.acc_elim_systems.proofs.SystemSteps.{numbers_suc}
use Rattle.acc_elim_systems.specs.Made.{Rises, Ordered, IsProper}
use Rattle.acc_rows.specs.Sparse.{Sparse, at, no_numbers}
use Rattle.acc_base.specs.Items.{numbers_from}
use Rattle.acc_elim_systems.specs.Systems.{is_constant, taken, replaced, set_aside}
use Rattle.acc_elim_points.specs.Points.{Point, placed_by}
use Rattle.acc_elim_solved.proofs.Ints.{Other}
use Rattle.acc_elim_solved.proofs.Values.{Holds, holds_chain, holds_weaker}
use Rattle.acc_elim_solved.proofs.Points.{coef, at_is, test_same}
use Rattle.acc_elim_solved.proofs.Mixes.{Among}
use Rattle.acc_elim_solved.proofs.Admits.{Met, Adds}
use Rattle.acc_elim_solved.proofs.Asides.{Out, out_front, MeetsAt, Fit, TakenFacts, TakenAll, taken_facts, taken_all, at_once, last_or, So}
use Rattle.acc_elim_solved.proofs.Asides.{all_replaced, placed_meets}

-- a constant, and no unknown
pub nothing_left : (n : ℕ) (r : Row) → Ordered r → Among n r → is_constant r ≡ false → ((w : ℕ) → w < n → coef w r.terms ≡ pos 0) → ⊥
nothing_left n r o among some clear = by r.terms o.terms among some clear
  where
    by : (xs : Sparse) → Rises 0 xs → All (IsProper n) xs → no_numbers xs ≡ false → ((w : ℕ) → w < n → coef w xs ≡ pos 0) → ⊥
    by [] r all e h = cc
    by (t ∷ ts) r all e h =
        let here = All-head (IsProper n) t ts all in
        let at_here : at t.0 (t ∷ ts) ≡ t.1 = ap (λ b. if b then t.1 else at t.0 ts) (test_same t.0) in
        let none : t.1 ≡ pos 0 = sym at_here ∙ (at_is t.0 0 (t ∷ ts) r ∙ h t.0 here.0) in
        let other : Other (pos 0) = subst (λ z. Other z) none here.1 in
        omega (arith, other)

pub not_equal : (b : Bool) → (b ≡ true → ⊥) → b ≡ false
not_equal true h = absurd (h refl)
not_equal false h = refl

module _ (n : ℕ) where
  -- ---- by equations

  abbrev pub Backs : List Row → List (ℕ × Row) → List Row → Type 0
  Backs rows es new = (p : Point) → MeetsAt n p new → Holds (steps placed_by p (reverse es)) (λ q. MeetsAt n q rows)

  backs_append : (rows mid new : List Row) (es fs : List (ℕ × Row)) → Backs rows es mid → Backs mid fs new → Backs rows (es ++ fs) new
  backs_append rows mid new es fs first second p m =
      subst (λ o. Holds o (λ q. MeetsAt n q rows))
      (sym (ap (λ zs. steps placed_by p zs) (reverse-append es fs) ∙ steps_append placed_by (reverse fs) (reverse es) p)) (
      holds_chain (steps placed_by p (reverse fs)) _ (λ q. MeetsAt n q mid) (λ q. MeetsAt n q rows) (second p m) (λ q k. first q k))

  -- each unknown left stands once, and is one of n
  abbrev pub Apart : List ℕ → Type 0
  Apart [] = Unit {0}
  Apart (u ∷ us) = (u < n) × Out u us × Apart us

  apart_push : (k : ℕ) (ws : List ℕ) → k < n → All (λ w. w < k) ws → Apart ws → Apart (ws ++ k ∷ [])
  apart_push k [] l below a = (l, All-nil (λ u. u ≡ k → ⊥), tt)
  apart_push k (w ∷ ws) l below a =
      let here = All-head (λ w. w < k) w ws below in (
        a.0,
        All-push (λ u. u ≡ w → ⊥) ws k a.1 (λ e. absurd (omega (arith, e, here))),
        apart_push k ws l
            (All-tail (λ w. w < k) w ws below) a.2,
      )

  -- the state of the stage when k unknowns were looked at
  pub record Begun (k : ℕ) (s : Reduced) : Type 0 where
    pub rows : All (Fit n k s.left) s.rows
    pub left : All (λ w. w < k) s.left
    pub apart : Apart s.left

  pub record Later (k : ℕ) (s t : Reduced) : Type 0 where
    pub begun : Begun k t
    pub es : List (ℕ × Row)
    pub is : t.aside ≡ s.aside ++ es
    pub back : Backs s.rows es t.rows

  more_left : (k : ℕ) (ws : List ℕ) → All (λ w. w < k) ws → All (λ w. w < suc k) ws
  more_left k [] all = All-nil (λ w. w < suc k)
  more_left k (w ∷ ws) all = let l = All-head (λ w. w < k) w ws all in
      All-cons (λ w. w < suc k) w ws (omega (arith, l)) (more_left k ws (All-tail (λ w. w < k) w ws all))

  out_below : (k : ℕ) (ws : List ℕ) → All (λ w. w < k) ws → Out k ws
  out_below k [] all = All-nil (λ u. u ≡ k → ⊥)
  out_below k (w ∷ ws) all = let l = All-head (λ w. w < k) w ws all in
      All-cons (λ u. u ≡ k → ⊥) w ws (λ e. absurd (omega (arith, l, e))) (out_below k ws (All-tail (λ w. w < k) w ws all))

  left_fit : (k : ℕ) (left : List ℕ) (r : Row) → Fit n k left r → (r.equal ≡ true → at k r.terms ≡ pos 0) → Fit n (suc k) (left ++ k ∷ []) r
  left_fit k left r fit none =
      record {
        ordered = fit.ordered;
        among = fit.among;
        some = fit.some;
        clear = λ w l out. let parts = out_front w left (k ∷ []) out in
            clear w parts.0 (All-head (λ u. u ≡ w → ⊥) k [] parts.1) (last_or n w k l);
        equal = λ e w l. equal e w (last_or n w k l);
      }
    where
      clear : (w : ℕ) → Out w left → (k ≡ w → ⊥) → (w < k) ⊎ (w ≡ k) → coef w r.terms ≡ pos 0
      clear w out ne (inl l) = fit.clear w l out
      clear w out ne (inr e) = absurd (ne (sym e))

      equal : r.equal ≡ true → (w : ℕ) → (w < k) ⊎ (w ≡ k) → coef w r.terms ≡ pos 0
      equal e w (inl l) = fit.equal e w l
      equal e w (inr i) = ap (λ v. coef v r.terms) i ∙ (sym (at_once n k r fit.ordered) ∙ none e)

  all_left : (k : ℕ) (left : List ℕ) (rows : List Row) → All (Fit n k left) rows → All (λ r. r.equal ≡ true → at k r.terms ≡ pos 0) rows
      → All (Fit n (suc k) (left ++ k ∷ [])) rows
  all_left k left [] fits none = All-nil (Fit n (suc k) (left ++ k ∷ []))
  all_left k left (r ∷ rs) fits none =
      All-cons (Fit n (suc k) (left ++ k ∷ [])) r rs
      (left_fit k left r (All-head (Fit n k left) r rs fits) (All-head (λ r. r.equal ≡ true → at k r.terms ≡ pos 0) r rs none))
      (all_left k left rs (All-tail (Fit n k left) r rs fits) (All-tail (λ r. r.equal ≡ true → at k r.terms ≡ pos 0) r rs none))

  pub meets_along : (p : Point) (rows new : List Row) → ((f : ℕ → ℤ) (D : ℤ) → All (Met f D) rows → All (Met f D) new) → MeetsAt n p rows
      → MeetsAt n p new
  meets_along p rows new h m = record { f = m.f; D = m.D; above = m.above; worths = m.worths; long = m.long; met = h m.f m.D m.met }

  aside_by : (k : ℕ) (s : Reduced) → k < n → Begun k s → (o : Option (Row × List Row)) → TakenFacts k s.rows o
      → ((P : Row → Type 0) → TakenAll P s.rows o)
      → Holds (elim o [
        | None ↦ Ok (record { rows = s.rows; aside = s.aside; left = s.left ++ k ∷ [] })
        | Some t ↦ chain
            (steps (replaced k t.0) [] t.1) (λ rows. Ok (record { rows = rows; aside = s.aside ++ (k, t.0) ∷ []; left = s.left }))
      ])
      (Later (suc k) s)
  aside_by k s below b None facts all =
      record {
        begun = record {
          rows = all_left k s.left s.rows b.rows facts;
          left = All-push (λ w. w < suc k) s.left k
              (more_left k s.left b.left) (omega arith);
          apart = apart_push k s.left below b.left b.apart;
        };
        es = [];
        is = sym (append-nil s.aside);
        back = λ p m. m;
      }
  aside_by k s below b (Some t) facts all =
      let fits = (all (Fit n k s.left)).0 b.rows in
      holds_chain (steps (replaced k t.0) [] t.1) _ (Adds (Fit n (suc k) s.left) (So n k s.left t.0 fits.0 facts.0 facts.1) [] t.1)
      (Later (suc k) s) (all_replaced n k s.left t.0 fits.0 facts.0 facts.1 t.1 fits.1) (λ new adds.
      record {
        begun = record { rows = adds.0; left = more_left k s.left b.left; apart = b.apart };
        es = (k, t.0) ∷ [];
        is = refl;
        back = λ p m.
            holds_chain (placed_by p (k, t.0)) _ (λ q. MeetsAt n q (t.0 ∷ t.1)) (λ q. MeetsAt n q s.rows)
            (placed_meets n k s.left t.0 fits.0 facts.0 facts.1 t.1 new adds (out_below k s.left b.left) below p m)
            (λ q m'. meets_along q (t.0 ∷ t.1) s.rows
            (λ f D met. (all (Met f D)).1 (All-head (Met f D) t.0 t.1 met) (All-tail (Met f D) t.0 t.1 met)) m');
      })

  aside_holds : (k : ℕ) (s : Reduced) → k < n → Begun k s → Holds (set_aside s k) (Later (suc k) s)
  aside_holds k s below b = aside_by k s below b (taken k s.rows) (taken_facts k s.rows) (λ P. taken_all P k s.rows)

  later_later : (j k : ℕ) (s t u : Reduced) → Later j s t → Later k t u → Later k s u
  later_later j k s t u a b =
      record {
        begun = b.begun;
        es = a.es ++ b.es;
        is = b.is
            ∙ (ap (λ zs. zs ++ b.es) a.is ∙ append_assoc s.aside a.es b.es);
        back = backs_append s.rows t.rows u.rows a.es b.es a.back b.back;
      }

  pub first_stage : (j k : ℕ) (s : Reduced) → k + j ≡ n → Begun k s → Holds (steps set_aside s (numbers_from k j)) (Later n s)
  first_stage zero k s e b =
      let same : k ≡ n = omega (arith, e) in
      record { begun = subst (λ i. Begun i s) same b; es = []; is = sym (append-nil s.aside); back = λ p m. m }
  first_stage (suc j) k s e b =
      subst (λ us. Holds (steps set_aside s us) (Later n s)) (sym (numbers_suc k j))
      (holds_chain (set_aside s k) _ (Later (suc k) s) (Later n s) (aside_holds k s (omega (arith, e)) b) (λ t l.
      holds_weaker (steps set_aside t (numbers_from (suc k) j)) (Later n t) (Later n s) (λ u m. later_later (suc k) n s t u l m)
      (first_stage j (suc k) t (omega (arith, e)) l.begun)))
