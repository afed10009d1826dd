-- A stage with one more inequality carried along is the stage of the relations with that one behind them.
use Rattle.std.proofs.Common.{◌≡◌, ℕ, zero, suc, Bool, true, false, List, [], ◌∷◌, ◌++◌, length, map, Option, Some, None, Ok, Err, refl, ap}
use Rattle.std.proofs.Common.{sym, ◌∙◌, subst, ◌||◌, ◌&&◌, if◌then◌else◌, append-nil, length-append, arith}
use Rattle.std.specs.Prelude.{reverse, nat_lt, nat_le, IfOk, IfSome, MatchOption}
use Rattle.std.specs.List.{list_any}
use Rattle.std.proofs.lemmas.Bool.Decides.{nat_tests}
use Rattle.std.proofs.lemmas.List.{reverse-append}
use Rattle.std.proofs.lemmas.List.Folds.{list_any-append}
use Rattle.acc_rows.specs.declared.stops.Stop.{Stop}
use Rattle.acc_rows.specs.declared.stops.Stop.TheVariants.{Refuted, Many}
use Rattle.acc_rows.specs.declared.rows.Row.{Row}
use Rattle.acc_elim_systems.specs.declared.systems.Replaced.{Replaced}
use Rattle.acc_base.specs.Computing.{chain, steps}
use Rattle.acc_rows.specs.Answers.{Computation}
use Rattle.acc_rows.specs.Rows.{has, cleared, cleared_by}
use Rattle.acc_rows.specs.Sparse.{at}
use Rattle.acc_elim_systems.specs.declared.systems.TheConstants.{MOST_RELATIONS}
use Rattle.acc_elim_systems.specs.Systems.{is_false, repeats, is_constant, is_without, admitted, taken, replaced}
use Rattle.acc_elim_systems.specs.Repetitions.{GrowTogether, TellBehind, StillBehind}
use Rattle.acc_elim_systems.proofs.Apart.{told_stayed, told_grown}
use Rattle.acc_elim_systems.proofs.Apart.{ok_chain}
use Rattle.acc_elim_systems.proofs.Behind.{kept_behind, made_behind, ended_behind}
use Rattle.acc_rows.proofs.Chains.{steps_append}
use Rattle.acc_elim_stages.specs.declared.stages.Step.{Step}
use Rattle.acc_elim_stages.specs.declared.stages.Stage.{Stage}
use Rattle.acc_elim_stages.specs.declared.carrying.Note.{Note}
use Rattle.acc_elim_stages.specs.Followed.{listed, left_of, left_first, told, followed_at}
use Rattle.acc_elim_stages.specs.Stages.{row_form, reduced, first_stage, with_left, with_aside, FollowsBy, IsStage}
use Rattle.acc_elim_stages.specs.Carried.{has_unknown, note_of, count_with, noted, noted_once, all_noted, Noticed, noticed_at, noticed}
use Rattle.acc_elim_stages.specs.Carried.{stage_with}
use Rattle.acc_elim_stages.proofs.Lefts.{admitted_left, left_same, left_untold, at_same, step_left, step_tells}
use Rattle.acc_elim_stages.proofs.Extended.{laws, first_more, with_taken}

-- ---- what a computation that ends gives

abbrev pub done : {A : Type 0} → A → Computation A
done x = Ok x

pub ok_same : {A : Type 0} (x y : A) → done x ≡ Ok y → x ≡ y
ok_same x y e = cc

-- the value of a computation that goes on
pub before : {A B : Type 0} (o : Computation A) (next : A → Computation B) (y : B) → chain o next ≡ Ok y
    → (x : A) × (o ≡ Ok x) × (next x ≡ Ok y)
before (Ok x) next y e = (x, refl, e)
before (Err d) next y e = absurd (cc)

-- ---- what the system behind a step has of a relation that is left there

-- one that is left doesn't make the system too large
room : (a : Bool) (n : ℕ) (r : Row) → IfOk (left_of a n r) (λ o. IfSome o (λ m. (m ≡ r) × (nat_lt n MOST_RELATIONS ≡ true)))
room a n r = by (is_constant r) (is_false r) a (nat_le MOST_RELATIONS n) refl
  where
    by : (b c d e : Bool) → nat_le MOST_RELATIONS n ≡ e
        → IfOk {T = Option Row} {E = Stop}
        (if b then (if c then Err (Refuted r) else Ok None) else (if d then Ok None else (if e then Err Many else Ok (Some r))))
        (λ o. IfSome o (λ m. (m ≡ r) × (nat_lt n MOST_RELATIONS ≡ true)))
    by true true d e h = tt
    by true false d e h = tt
    by false c true e h = tt
    by false c false true h = tt
    by false c false false h = (refl, grind (arith, nat_tests, h))

left_is : (a : Bool) (n : ℕ) (r m : Row) → left_of a n r ≡ Ok (Some m) → (m ≡ r) × (nat_lt n MOST_RELATIONS ≡ true)
left_is a n r m e = subst (λ o. IfOk o (λ o. IfSome o (λ m. (m ≡ r) × (nat_lt n MOST_RELATIONS ≡ true)))) e (room a n r)

count_left : (rows : List Row) (m : Row) → nat_lt (length rows) MOST_RELATIONS ≡ true
    → count_with true (length rows) ≡ length (rows ++ m ∷ [])
count_left rows m h =
    ap (λ b. if b then suc (length rows) else length rows) h ∙ (let l = length-append rows (m ∷ []) in omega (arith, l))

count_none : (rows : List Row) → count_with false (length rows) ≡ length (rows ++ [])
count_none rows = ap length (sym (append-nil rows))

both_or : (a b c w : Bool) → ((a || (w && b)) || (w && (c || false))) ≡ (a || (w && (b || (c || false))))
both_or true b c w = refl
both_or false b c false = refl
both_or false true c true = refl
both_or false false c true = refl

module _ (u : ℕ) (others : List Row) (system : Replaced) (behind : TellBehind u others system) where
  -- with one more relation
  behind_with : (q : Row) (made kept : List Row) → StillBehind u q system.made system.rows made kept
      → TellBehind u (others ++ q ∷ []) (record { rows = kept; made = made })
  behind_with q made kept still r some =
      ended_behind u kept made (others ++ q ∷ []) r (still r (others ++ q ∷ []) [] some
      (ap (λ b. b || (is_without u r && (repeats r q || false))) (sym (behind r some))
      ∙ (both_or (list_any (repeats r) system.made) (list_any (repeats r) others) (repeats r q) (is_without u r)
      ∙ ap (λ b. list_any (repeats r) system.made || (is_without u r && b)) (sym (list_any-append (repeats r) others (q ∷ []))))))

  behind_none : TellBehind u (others ++ []) (record { rows = system.rows ++ []; made = system.made ++ [] })
  behind_none r some =
      (λ i. list_any (repeats r) (append-nil system.made i) || (is_without u r && list_any (repeats r) (append-nil others i)))
      ∙ (behind r some ∙ ap (list_any (repeats r)) (sym (append-nil system.rows)))

-- ---- one step

module _ (first : List Row) (earlier : List Step) (u : ℕ) (e : Row) (rows others : List Row) (system : Replaced)
    (taken_is : taken u rows ≡ Some (e, others))
    (tells : (r : Row) → is_constant r ≡ false → told first earlier r ≡ list_any (repeats r) rows)
    (behind : TellBehind u others system) where
  abbrev step : Step
  step = record { aside = (u, e); made = system.made; count = length system.rows }

  abbrev more : Option Row → Option Row → Replaced
  more o p = record { rows = system.rows ++ listed p; made = system.made ++ listed (note_of (has_unknown u o) p).made }

  admitted_with : (m : Row) (p : Option Row) → left_of (told first (step ∷ earlier) m) step.count m ≡ Ok p
      → admitted system.rows m ≡ Ok (system.rows ++ listed p)
  admitted_with m p left =
      admitted_left system.rows m
      ∙ (ap (λ o. chain o (λ o. Ok (system.rows ++ listed o)))
      (left_same (list_any (repeats m) system.rows) (told first (step ∷ earlier) m) (length system.rows) (length system.rows) m
      (λ some. sym (step_tells first earlier u e rows others system taken_is tells behind m some)) refl)
      ∙ ap (λ o. chain o (λ o. Ok (system.rows ++ listed o))) left)

  -- one without the unknown
  stays : (q m : Row) (p : Option Row) → has u q ≡ false → m ≡ q → admitted system.rows m ≡ Ok (system.rows ++ listed p)
      → StillBehind u q system.made system.rows (system.made ++ listed (note_of false p).made) (system.rows ++ listed p)
  stays q m p none same is =
      subst (λ made. StillBehind u q system.made system.rows made (system.rows ++ listed p)) (by p)
      (kept_behind {B = Unit {0}} (Ok tt) u system.made system.rows (system.rows ++ listed p) q none
      (ap (admitted system.rows) (sym same) ∙ is))
    where
      by : (p : Option Row) → system.made ≡ system.made ++ listed (note_of false p).made
      by None = sym (append-nil system.made)
      by (Some m) = sym (append-nil system.made)

  -- one with the unknown
  goes : (q m : Row) (p : Option Row) → has u q ≡ true → left_of (told first (step ∷ earlier) m) step.count m ≡ Ok p
      → StillBehind u q system.made system.rows (system.made ++ listed (note_of true p).made) (system.rows ++ listed p)
  goes q m None there left =
      made_behind u system.made system.rows (system.made ++ []) (system.rows ++ []) q there
      (subst (λ made. GrowTogether system.made system.rows made (system.rows ++ [])) (sym (append-nil system.made))
      (told_stayed system.made system.rows (system.rows ++ []) (append-nil system.rows)))
  goes q m (Some x) there left =
      made_behind u system.made system.rows (system.made ++ row_form x ∷ []) (system.rows ++ x ∷ []) q there
      (told_grown system.made system.rows (system.made ++ row_form x ∷ []) (system.rows ++ x ∷ []) x refl refl)

  still_by : (q m : Row) (p : Option Row) (b : Bool) → has u q ≡ b
      → (if b then cleared_by (at u e.terms) e (at u q.terms) q else Ok q) ≡ Ok m
      → left_of (told first (step ∷ earlier) m) step.count m ≡ Ok p
      → StillBehind u q system.made system.rows (system.made ++ listed (note_of b p).made) (system.rows ++ listed p)
  still_by q m p true there is left = goes q m p there left
  still_by q m p false none is left = stays q m p none (sym (ok_same q m is)) (admitted_with m p left)

  tells_with : (o p : Option Row) → followed_at first earlier step o ≡ Ok p → TellBehind u (others ++ listed o) (more o p)
  tells_with None None is = behind_none u others system behind
  tells_with None (Some m) is = absurd (cc)
  tells_with (Some q) p is =
      let at = before (cleared u e q) _ p is in
      behind_with u others system behind q (system.made ++ listed (note_of (has u q) p).made) (system.rows ++ listed p)
      (still_by q at.0 p (has u q) refl at.1 at.2)

  count_is : (o p : Option Row) → followed_at first earlier step o ≡ Ok p
      → count_with (note_of (has_unknown u o) p).is_left (length system.rows) ≡ length (system.rows ++ listed p)
  count_is o None is = count_none system.rows
  count_is None (Some x) is = absurd (cc)
  count_is (Some q) (Some x) is =
      let at = before (cleared u e q) _ (Some x) is in
      count_left system.rows x (left_is (told first (step ∷ earlier) at.0) step.count at.0 x at.2).1

  -- the step with its note is that of the system with the relation
  noted_is : (o p : Option Row) → followed_at first earlier step o ≡ Ok p
      → noted step (note_of (has_unknown u o) p)
      ≡ record { aside = (u, e); made = (more o p).made; count = length (more o p).rows }
  noted_is o p is = λ i. record { aside = (u, e); made = (more o p).made; count = count_is o p is i }

-- ---- an inequality stays one

noticed_same : (equal : Bool) (first : List Row) (earlier : List Step) (o : Option Row) → IfSome o (λ r. r.equal ≡ equal)
    → IfOk (noticed first earlier o) (λ x. IfSome x.1 (λ r. r.equal ≡ equal))
noticed_same equal first [] o h = h
noticed_same equal first (s ∷ earlier) o h =
    ok_chain (noticed first earlier o) (noticed_at first earlier s) (λ x. IfSome x.1 (λ r. r.equal ≡ equal)) _
    (noticed_same equal first earlier o h)
    (λ x same. ok_chain (followed_at first earlier s x.1) _ (λ p. IfSome p (λ r. r.equal ≡ equal)) (λ x. IfSome x.1 (λ r. r.equal ≡ equal))
    (at_same equal first earlier s x.1 same) (λ p q. q))

first_same : (equal : Bool) (first : List Row) (t : Row) (o : Option Row) → t.equal ≡ equal → left_first first t ≡ Ok o
    → IfSome o (λ r. r.equal ≡ equal)
first_same equal first t o h e =
    subst (λ c. IfOk c (λ o. IfSome o (λ r. r.equal ≡ equal))) e
    (left_untold (list_any (repeats t) first) (length first) t (λ r. r.equal ≡ equal) (λ _. h))

pub left_equal : (first : List Row) (ss : List Step) (t : Row) (o : Option Row) (x : Noticed) → t.equal ≡ false
    → left_first first t ≡ Ok o → noticed first ss o ≡ Ok x → IfSome x.1 (λ r. r.equal ≡ false)
left_equal first ss t o x equal e f =
    subst (λ c. IfOk c (λ x. IfSome x.1 (λ r. r.equal ≡ false))) f
    (noticed_same false first ss o (first_same false first t o equal e))

-- ---- all steps

forms_with : (system : List Row) (o : Option Row) → map row_form system ++ listed (note_of true o).made ≡ map row_form (system ++ listed o)
forms_with [] None = refl
forms_with [] (Some r) = refl
forms_with (r ∷ rows) o = ap (λ rs. row_form r ∷ rs) (forms_with rows o)

module _ (rows : List Row) (t : Row) (equal : t.equal ≡ false) where
  -- what is carried along of a stage
  abbrev Carries : ℕ → Stage → Type 0
  Carries n g = (o : Option Row) (x : Noticed) → left_first g.path.first t ≡ Ok o → noticed g.path.first (reverse g.path.steps) o ≡ Ok x
      → IsStage (rows ++ t ∷ []) n (stage_with g o x)

  first_carried : (system : List Row) → steps admitted [] rows ≡ Ok system → Carries 0 (first_stage system)
  first_carried system e o x left is = record {
    system = system ++ listed x.1;
    admitted = first_more rows system t e
        ∙ (ap (λ c. chain c (λ o. Ok (system ++ listed o))) left ∙ ap (λ o. Ok (system ++ listed o)) (ap (λ y. y.1) same));
    stage = λ i. record {
      path = record {
        first = (forms_with system o ∙ ap (λ y. map row_form (system ++ listed y.1)) same) i;
        steps = [];
      };
      rows = system ++ listed x.1;
      left = [];
    };
  }
    where
      same : ([], o) ≡ x
      same = ok_same ([], o) x is

  module _ (n : ℕ) (g : Stage) (is : IsStage rows n g) (carries : Carries n g) where
    left_carried : taken n g.rows ≡ None → (o : Option Row) (x : Noticed) → left_first g.path.first t ≡ Ok o
        → noticed g.path.first (reverse g.path.steps) o ≡ Ok x → IsStage (rows ++ t ∷ []) (suc n) (stage_with (with_left g n) o x)
    left_carried none o x left seen = (
      stage_with g o x,
      carries o x left seen,
      subst (FollowsBy (stage_with g o x) n (stage_with (with_left g n) o x))
          (sym (with_taken (reduced g) n x.1 None
          (left_equal g.path.first (reverse g.path.steps) t o x equal left seen) none)) refl,
    )

    module _ (e : Row) (others : List Row) (system : Replaced) (taken_is : taken n g.rows ≡ Some (e, others))
        (replaced_is : steps (replaced n e) [] others ≡ Ok system.rows) (behind : TellBehind n others system) where
      abbrev here : Step
      here = record { aside = (n, e); made = system.made; count = length system.rows }

      abbrev aside : Stage
      aside = with_aside g n e system

      last_first : reverse aside.path.steps ≡ here ∷ reverse g.path.steps
      last_first = reverse-append g.path.steps (here ∷ [])

      tells : (r : Row) → is_constant r ≡ false → told g.path.first (reverse g.path.steps) r ≡ list_any (repeats r) g.rows
      tells = (laws n rows g is).tells

      aside_by : (o : Option Row) (y : Noticed) (p : Option Row) → left_first g.path.first t ≡ Ok o
          → noticed g.path.first (reverse g.path.steps) o ≡ Ok y
          → followed_at g.path.first (reverse g.path.steps) here y.1 ≡ Ok p
          → IsStage (rows ++ t ∷ []) (suc n) (stage_with aside o (note_of (has_unknown n y.1) p ∷ y.0, p))
      aside_by o y p left seen past = (
        stage_with g o y,
        carries o y left seen,
        subst (FollowsBy (stage_with g o y) n (stage_with aside o (note_of (has_unknown n y.1) p ∷ y.0, p)))
            (sym (with_taken (reduced g) n y.1 (Some (e, others))
            (left_equal g.path.first (reverse g.path.steps) t o y equal left seen) taken_is)) (record {
              system = more g.path.first (reverse g.path.steps) n e g.rows others system taken_is tells behind y.1 p;
              rows = steps_append (replaced n e) others (listed y.1) []
                  ∙ (ap (λ c. chain c (λ rs. steps (replaced n e) rs (listed y.1))) replaced_is
                  ∙ (step_left g.path.first (reverse g.path.steps) n e g.rows others system taken_is tells behind y.1
                  ∙ ap (λ c. chain c (λ o. Ok (system.rows ++ listed o))) past));
              tells = tells_with g.path.first (reverse g.path.steps) n e g.rows others system taken_is tells behind y.1 p past;
              stage = λ i. record {
                path = record { first = g.path.first ++ listed (note_of true o).made; steps = steps_with i };
                rows = system.rows ++ listed p;
                left = g.left;
              };
            }),
      )
        where
          steps_with : reverse (all_noted (reverse aside.path.steps) (note_of (has_unknown n y.1) p ∷ y.0))
              ≡ reverse (all_noted (reverse g.path.steps) y.0) ++ (record {
                aside = (n, e);
                made = system.made ++ listed (note_of (has_unknown n y.1) p).made;
                count = length (system.rows ++ listed p);
              }) ∷ []
          steps_with =
              ap (λ ss. reverse (all_noted ss (note_of (has_unknown n y.1) p ∷ y.0))) last_first
              ∙ (reverse-append (noted here (note_of (has_unknown n y.1) p) ∷ []) (all_noted (reverse g.path.steps) y.0)
              ∙ ap (λ s. reverse (all_noted (reverse g.path.steps) y.0) ++ s ∷ [])
              (noted_is g.path.first (reverse g.path.steps) n e g.rows others system taken_is tells behind y.1 p past))

      aside_last : (o : Option Row) (x y : Noticed) (p : Option Row) → left_first g.path.first t ≡ Ok o
          → noticed g.path.first (reverse g.path.steps) o ≡ Ok y
          → followed_at g.path.first (reverse g.path.steps) here y.1 ≡ Ok p
          → (note_of (has_unknown n y.1) p ∷ y.0, p) ≡ x → IsStage (rows ++ t ∷ []) (suc n) (stage_with aside o x)
      aside_last o x y p left seen past same =
          subst (λ x. IsStage (rows ++ t ∷ []) (suc n) (stage_with aside o x)) same (aside_by o y p left seen past)

      aside_carried : Carries (suc n) aside
      aside_carried o x left seen =
          let so_far = before (noticed g.path.first (reverse g.path.steps) o)
          (noticed_at g.path.first (reverse g.path.steps) here) x
          (ap (λ ss. noticed g.path.first ss o) (sym last_first) ∙ seen) in
          let last = before (followed_at g.path.first (reverse g.path.steps) here so_far.0.1) _ x so_far.2 in
          aside_last o x so_far.0 last.0 left so_far.1 last.1 (ok_same _ x last.2)

  follows_carried : (n : ℕ) (g h : Stage) → IsStage rows n g → Carries n g → (o : Option (Row × List Row)) → taken n g.rows ≡ o
      → FollowsBy g n h o → Carries (suc n) h
  follows_carried n g h is carries None e next = subst (Carries (suc n)) (sym next) (left_carried n g is carries e)
  follows_carried n g h is carries (Some s) e next =
      subst (Carries (suc n)) (sym next.stage) (aside_carried n g is carries s.0 s.1 next.system e next.rows next.tells)

  pub carried_along : (n : ℕ) (g : Stage) → IsStage rows n g → Carries n g
  carried_along zero g is = subst (Carries 0) (sym is.stage) (first_carried is.system is.admitted)
  carried_along (suc n) h is =
      follows_carried n is.0 h is.1 (carried_along n is.0 is.1) (taken n is.0.rows) refl is.2

-- ---- the notes, one after the other

pub noticed_more : (first : List Row) (earlier : List Step) (s : Step) (o p q : Option Row) (ns : List Note) (note : Note)
    → noticed first earlier o ≡ Ok (ns, p) → followed_at first earlier s p ≡ Ok q → note ≡ note_of (has_unknown s.aside.0 p) q
    → noticed first (s ∷ earlier) o ≡ Ok (note ∷ ns, q)
noticed_more first earlier s o p q ns note so_far left is =
    ap (λ c. chain c (noticed_at first earlier s)) so_far
    ∙ (ap (λ c. chain c (λ q. Ok (note_of (has_unknown s.aside.0 p) q ∷ ns, q))) left ∙ ap (λ note. Ok (note ∷ ns, q)) (sym is))

pub noted_last : (s : Step) (ss : List Step) (o : Option Note) (old new : List Note)
    → MatchOption o ((old ≡ []) × (new ≡ [])) (λ n. old ≡ new ++ n ∷ [])
    → all_noted (s ∷ ss) (reverse old) ≡ noted_once s o ∷ all_noted ss (reverse new)
noted_last s ss None old new h =
    ap (λ ns. all_noted (s ∷ ss) (reverse ns)) h.0 ∙ ap (λ ns. s ∷ all_noted ss (reverse ns)) (sym h.1)
noted_last s ss (Some n) old new h = ap (all_noted (s ∷ ss)) (ap reverse h ∙ reverse-append new (n ∷ []))
