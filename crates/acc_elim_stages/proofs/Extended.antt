-- The stage of equations, unknown by unknown, alone and with one more inequality behind the others.
use Rattle.std.proofs.Common.{◌≡◌, ◌+◌, ℕ, zero, suc, false, List, [], ◌∷◌, ◌++◌, length, map, Option, Some, None, Ok, Err, refl, ap, Bool}
use Rattle.std.proofs.Common.{sym, ◌∙◌, subst, arith, ◌||◌}
use Rattle.std.specs.Prelude.{option_map, reverse, IfOk, IfSome}
use Rattle.std.specs.List.{list_any}
use Rattle.std.proofs.lemmas.List.{reverse-append, length-map}
use Rattle.acc_rows.specs.declared.rows.Row.{Row}
use Rattle.acc_elim_systems.specs.declared.systems.Reduced.{Reduced}
use Rattle.acc_elim_systems.specs.declared.systems.Replaced.{Replaced}
use Rattle.acc_base.specs.Computing.{chain, steps}
use Rattle.acc_rows.specs.Answers.{Computation}
use Rattle.acc_base.specs.Items.{numbers_from}
use Rattle.acc_elim_systems.specs.Systems.{repeats, is_constant, admitted, taken, replaced, whole, set_aside}
use Rattle.acc_elim_systems.specs.Repetitions.{AreApart, TellBehind}
use Rattle.acc_elim_systems.proofs.Apart.{system_apart, aside_apart}
use Rattle.acc_rows.proofs.Chains.{steps_append}
use Rattle.acc_elim_stages.specs.declared.stages.Step.{Step}
use Rattle.acc_elim_stages.specs.declared.stages.Stage.{Stage}
use Rattle.acc_elim_stages.specs.Followed.{listed, left_first, told, followed_at, followed, through}
use Rattle.acc_elim_stages.specs.Stages.{row_form, begun, aside_of, reduced, with_last, first_stage, with_left, with_aside, FollowsBy, IsStage}
use Rattle.acc_elim_stages.proofs.Lefts.{chain_ok, admitted_left, left_same, taken_with, listed_not_taken, step_tells, step_left}
use Rattle.acc_elim_stages.proofs.Lefts.{one_more, through_same}

-- ---- one unknown more

pub numbers_push : (n i : ℕ) → numbers_from i (suc n) ≡ numbers_from i n ++ (i + n) ∷ []
numbers_push zero i = let e : i ≡ i + zero = omega arith in ap (λ (j : ℕ). j ∷ []) e
numbers_push (suc n) i =
    let e : (i + 1) + n ≡ i + suc n = omega arith in
    ap (λ us. i ∷ us) (numbers_push n (i + 1) ∙ ap (λ j. numbers_from (i + 1) n ++ j ∷ []) e)

numbers_next : (n : ℕ) → numbers_from 0 (suc n) ≡ numbers_from 0 n ++ n ∷ []
numbers_next n = let e : 0 + n ≡ n = omega arith in numbers_push n 0 ∙ ap (λ j. numbers_from 0 n ++ j ∷ []) e

module _ (rows : List Row) (more : List ℕ) (us : List ℕ) where
  pub begun_append : chain (steps admitted [] rows) (λ system. steps set_aside (whole system) (us ++ more))
      ≡ chain (chain (steps admitted [] rows) (λ system. steps set_aside (whole system) us)) (λ s. steps set_aside s more)
  begun_append = by (steps admitted [] rows)
    where
      by : (o : Computation (List Row)) → chain o (λ system. steps set_aside (whole system) (us ++ more))
          ≡ chain (chain o (λ system. steps set_aside (whole system) us)) (λ s. steps set_aside s more)
      by (Ok system) = steps_append set_aside us more (whole system)
      by (Err e) = refl

pub begun_next : (rows : List Row) (n : ℕ) → begun rows (suc n) ≡ chain (begun rows n) (λ s. set_aside s n)
begun_next rows n =
    ap (λ us. chain (steps admitted [] rows) (λ system. steps set_aside (whole system) us)) (numbers_next n)
    ∙ (begun_append rows (n ∷ []) (numbers_from 0 n) ∙ by (begun rows n))
  where
    by : (o : Computation Reduced) → chain o (λ s. steps set_aside s (n ∷ [])) ≡ chain o (λ s. set_aside s n)
    by (Ok s) = chain_ok (set_aside s n)
    by (Err e) = refl

-- ---- one step with a relation behind the others

abbrev pub aside_by : Reduced → ℕ → Option (Row × List Row) → Computation Reduced
aside_by s u o =
    elim o [
      | None ↦ Ok (record { rows = s.rows; aside = s.aside; left = s.left ++ u ∷ [] })
      | Some t ↦ chain (steps (replaced u t.0) [] t.1)
          (λ rows. Ok (record { rows = rows; aside = s.aside ++ (u, t.0) ∷ []; left = s.left }))
    ]

pub aside_is : (s : Reduced) (u : ℕ) (o : Option (Row × List Row)) → taken u s.rows ≡ o → set_aside s u ≡ aside_by s u o
aside_is s u o e = ap (aside_by s u) e

pub with_taken : (s : Reduced) (u : ℕ) (o : Option Row) (t : Option (Row × List Row)) → IfSome o (λ r. r.equal ≡ false) → taken u s.rows ≡ t
    → taken u (with_last s o).rows ≡ option_map (λ t. (t.0, t.1 ++ listed o)) t
with_taken s u o t h e = taken_with u (listed o) (listed_not_taken u o h) s.rows ∙ ap (option_map (λ t. (t.0, t.1 ++ listed o))) e

pub left_with : (s : Reduced) (u : ℕ) (o : Option Row) → IfSome o (λ r. r.equal ≡ false) → taken u s.rows ≡ None
    → set_aside (with_last s o) u ≡ Ok (with_last (record { rows = s.rows; aside = s.aside; left = s.left ++ u ∷ [] }) o)
left_with s u o h none = aside_is (with_last s o) u None (with_taken s u o None h none)

-- ---- the stage

-- where a stage ends, that its path tells which relations are repeated behind it, and what becomes of one more inequality
pub record Laws (rows : List Row) (n : ℕ) (g : Stage) : Type 0 where
  pub alone : begun rows n ≡ Ok (reduced g)
  pub apart : AreApart g.rows
  pub tells : (r : Row) → is_constant r ≡ false → told g.path.first (reverse g.path.steps) r ≡ list_any (repeats r) g.rows
  pub after : (t : Row) → t.equal ≡ false → begun (rows ++ t ∷ []) n ≡ chain (through g.path t) (λ o. Ok (with_last (reduced g) o))

-- one more unknown with one more relation behind the others
module _ (rows : List Row) (n : ℕ) (g h : Stage) (t : Row) (equal : t.equal ≡ false) (is : Laws rows n g) where
  pub after_by : (next : Option Row → Computation (Option Row)) → through h.path t ≡ chain (through g.path t) next
      → ((o : Option Row) → IfSome o (λ r. r.equal ≡ false)
      → set_aside (with_last (reduced g) o) n ≡ chain (next o) (λ o. Ok (with_last (reduced h) o)))
      → begun (rows ++ t ∷ []) (suc n) ≡ chain (through h.path t) (λ o. Ok (with_last (reduced h) o))
  after_by next all one =
      begun_next (rows ++ t ∷ []) n
      ∙ (ap (λ o. chain o (λ s. set_aside s n)) (is.after t equal)
      ∙ (by (through g.path t) (through_same false g.path t equal) ∙ ap (λ o. chain o (λ o. Ok (with_last (reduced h) o))) (sym all)))
    where
      by : (c : Computation (Option Row)) → IfOk c (λ o. IfSome o (λ r. r.equal ≡ false))
          → chain (chain c (λ o. Ok (with_last (reduced g) o))) (λ s. set_aside s n)
          ≡ chain (chain c next) (λ o. Ok (with_last (reduced h) o))
      by (Ok o) same = one o same
      by (Err e) same = refl

alone_by : (rows : List Row) (n : ℕ) (g h : Stage) → Laws rows n g → set_aside (reduced g) n ≡ Ok (reduced h)
    → begun rows (suc n) ≡ Ok (reduced h)
alone_by rows n g h is e = begun_next rows n ∙ (ap (λ o. chain o (λ s. set_aside s n)) is.alone ∙ e)

-- an unknown is left
module _ (g : Stage) (u : ℕ) (none : taken u g.rows ≡ None) where
  left_laws : (rows : List Row) → Laws rows u g → Laws rows (suc u) (with_left g u)
  left_laws rows is =
      record {
        alone = alone_by rows u g (with_left g u) is (aside_is (reduced g) u None none);
        apart = is.apart;
        tells = is.tells;
        after = λ t equal.
            after_by rows u g (with_left g u) t equal is (λ o. Ok o) (sym (chain_ok (through g.path t)))
            (λ o same. left_with (reduced g) u o same none);
      }

-- an equation is set aside
module _ (g : Stage) (u : ℕ) (e : Row) (others : List Row) (system : Replaced) (taken_is : taken u g.rows ≡ Some (e, others))
    (replaced_is : steps (replaced u e) [] others ≡ Ok system.rows) (behind : TellBehind u others system) where
  abbrev one_step : Step
  one_step = record { aside = (u, e); made = system.made; count = length system.rows }

  abbrev aside : Stage
  aside = with_aside g u e system

  last_first : reverse aside.path.steps ≡ one_step ∷ reverse g.path.steps
  last_first = reverse-append g.path.steps (one_step ∷ [])

  aside_push : aside_of aside.path.steps ≡ aside_of g.path.steps ++ (u, e) ∷ []
  aside_push = by g.path.steps
    where
      by : (ss : List Step) → aside_of (ss ++ one_step ∷ []) ≡ aside_of ss ++ (u, e) ∷ []
      by [] = refl
      by (s ∷ ss) = ap (λ xs. s.aside ∷ xs) (by ss)

  same_reduced : record { rows = system.rows; aside = aside_of g.path.steps ++ (u, e) ∷ []; left = g.left } ≡ reduced aside
  same_reduced = λ i. record { rows = system.rows; aside = sym aside_push i; left = g.left }

  set_alone : set_aside (reduced g) u ≡ Ok (reduced aside)
  set_alone =
      aside_is (reduced g) u (Some (e, others)) taken_is
      ∙ (ap (λ o. chain o (λ rows. Ok (record { rows = rows; aside = aside_of g.path.steps ++ (u, e) ∷ []; left = g.left }))) replaced_is
      ∙ ap Ok same_reduced)

  module _ (rows : List Row) (is : Laws rows u g) where
    set_with : (o : Option Row) → IfSome o (λ r. r.equal ≡ false)
        → set_aside (with_last (reduced g) o) u
        ≡ chain (followed_at g.path.first (reverse g.path.steps) one_step o) (λ o. Ok (with_last (reduced aside) o))
    set_with o same =
        aside_is (with_last (reduced g) o) u (Some (e, others ++ listed o)) (with_taken (reduced g) u o (Some (e, others)) same taken_is)
        ∙ (ap (λ c. chain c end) (steps_append (replaced u e) others (listed o) []
        ∙ (ap (λ c. chain c (λ rs. steps (replaced u e) rs (listed o))) replaced_is
        ∙ step_left g.path.first (reverse g.path.steps) u e g.rows others system taken_is is.tells behind o))
        ∙ by (followed_at g.path.first (reverse g.path.steps) one_step o))
      where
        end : List Row → Computation Reduced
        end rs = Ok (record { rows = rs; aside = aside_of g.path.steps ++ (u, e) ∷ []; left = g.left })

        by : (c : Computation (Option Row)) → chain (chain c (λ o. Ok (system.rows ++ listed o))) end
            ≡ chain c (λ o. Ok (with_last (reduced aside) o))
        by (Err d) = refl
        by (Ok o) = ap (λ s. Ok (with_last s o)) same_reduced

    aside_laws : Laws rows (suc u) aside
    aside_laws =
        record {
          alone = alone_by rows u g aside is set_alone;
          apart = aside_apart (reduced g) (reduced aside) u set_alone is.apart;
          tells = λ r some. ap (λ ss. told g.path.first ss r) last_first
              ∙ step_tells g.path.first (reverse g.path.steps) u e g.rows others system taken_is is.tells behind r some;
          after = λ t equal.
              after_by rows u g aside t equal is (followed_at g.path.first (reverse g.path.steps) one_step) (all t)
              (λ o same. set_with o same);
        }
      where
        all : (t : Row) → through aside.path t ≡ chain (through g.path t) (followed_at g.path.first (reverse g.path.steps) one_step)
        all t = by (left_first g.path.first t)
          where
            by : (c : Computation (Option Row))
                → chain c (λ o. chain (steps (followed g.path.first) ([], o) (g.path.steps ++ one_step ∷ [])) (λ x. Ok x.1))
                ≡ chain (chain c (λ o. chain (steps (followed g.path.first) ([], o) g.path.steps) (λ x. Ok x.1)))
                (followed_at g.path.first (reverse g.path.steps) one_step)
            by (Err d) = refl
            by (Ok o) = one_more g.path.first g.path.steps one_step o

-- ---- the first system

forms_any : (p : Row → Bool) → ((r : Row) → p (row_form r) ≡ p r) → (rows : List Row) → list_any p (map row_form rows) ≡ list_any p rows
forms_any p h [] = refl
forms_any p h (r ∷ rows) = λ i. h r i || forms_any p h rows i

pub forms_tell : (r : Row) (rows : List Row) → list_any (repeats r) (map row_form rows) ≡ list_any (repeats r) rows
forms_tell r rows = forms_any (repeats r) (λ k. refl) rows

-- one more relation of the first system
pub first_more : (rows system : List Row) (t : Row) → steps admitted [] rows ≡ Ok system
    → steps admitted [] (rows ++ t ∷ []) ≡ chain (left_first (map row_form system) t) (λ o. Ok (system ++ listed o))
first_more rows system t e =
    steps_append admitted rows (t ∷ []) []
    ∙ (ap (λ o. chain o (λ s. steps admitted s (t ∷ []))) e ∙ (chain_ok (admitted system t) ∙ (admitted_left system t
    ∙ ap (λ o. chain o (λ o. Ok (system ++ listed o)))
    (left_same _ _ _ _ t (λ some. sym (forms_tell t system)) (sym (length-map system row_form))))))

first_laws : (rows system : List Row) → steps admitted [] rows ≡ Ok system → Laws rows 0 (first_stage system)
first_laws rows system e =
    record {
      alone = ap (λ o. chain o (λ system. Ok (whole system))) e;
      apart = system_apart rows system e;
      tells = λ r some. forms_tell r system;
      after = λ t equal.
          ap (λ o. chain o (λ system. Ok (whole system))) (first_more rows system t e) ∙ by (left_first (map row_form system) t);
    }
  where
    by : (c : Computation (Option Row)) → chain (chain c (λ o. Ok (system ++ listed o))) (λ system. Ok (whole system))
        ≡ chain (chain c (λ o. Ok o)) (λ o. Ok (with_last (whole system) o))
    by (Ok o) = refl
    by (Err d) = refl

-- ---- all unknowns

follows_laws : (rows : List Row) (n : ℕ) (g h : Stage) → Laws rows n g → (o : Option (Row × List Row)) → taken n g.rows ≡ o
    → FollowsBy g n h o → Laws rows (suc n) h
follows_laws rows n g h is None e next = subst (Laws rows (suc n)) (sym next) (left_laws g n e rows is)
follows_laws rows n g h is (Some t) e next =
    subst (Laws rows (suc n)) (sym next.stage) (aside_laws g n t.0 t.1 next.system e next.rows next.tells rows is)

pub laws : (n : ℕ) (rows : List Row) (g : Stage) → IsStage rows n g → Laws rows n g
laws zero rows g is = subst (Laws rows 0) (sym is.stage) (first_laws rows is.system is.admitted)
laws (suc n) rows h is = follows_laws rows n is.0 h (laws n rows is.0 is.1) (taken n is.0.rows) refl is.2
