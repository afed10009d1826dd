-- What is left of a relation behind others: what the system says of it, and what tells it.
use Rattle.std.proofs.Common.{◌≡◌, ℕ, Bool, true, false, List, [], ◌∷◌, ◌++◌, length, Option, Some, None, Ok, Err}
use Rattle.std.proofs.Common.{refl, ap, sym, ◌∙◌, subst}
use Rattle.std.proofs.Common.{if◌then◌else◌, ◌||◌, ◌&&◌, not, append-nil, append_assoc}
use Rattle.std.specs.Prelude.{Result, nat_le, nat_lt, option_map, reverse, IfOk, IfSome}
use Rattle.std.specs.List.{list_any}
use Rattle.std.specs.Cmp.{second_so}
use Rattle.std.proofs.lemmas.List.{reverse-append}
use Rattle.acc_rows.specs.declared.stops.Stop.{Stop}
use Rattle.acc_rows.specs.declared.stops.Stop.TheVariants.{Refuted, Many}
use Rattle.acc_rows.specs.declared.rows.Row.{Row}
use Rattle.acc_elim_systems.specs.declared.systems.Replaced.{Replaced}
use Rattle.acc_base.specs.Computing.{Answers, chain, steps}
use Rattle.acc_rows.specs.Answers.{tells, Computation}
use Rattle.acc_rows.specs.Sparse.{at, mixture, mixed}
use Rattle.acc_rows.specs.Numbers.{size}
use Rattle.acc_rows.specs.Rows.{divided, divisor_of, lowest, has, cancelling, cleared_by, cleared}
use Rattle.acc_elim_systems.specs.declared.systems.TheConstants.{MOST_RELATIONS}
use Rattle.acc_elim_systems.specs.Systems.{is_false, repeats, is_constant, is_without, is_equation_with, taken, admitted, replaced}
use Rattle.acc_elim_systems.specs.Repetitions.{TellBehind}
use Rattle.acc_elim_systems.proofs.Apart.{any_ok, ok_chain, ok_steps}
use Rattle.acc_elim_systems.proofs.Behind.{has_as}
use Rattle.acc_rows.proofs.Chains.{steps_append}
use Rattle.acc_elim_stages.specs.declared.stages.Step.{Step}
use Rattle.acc_elim_stages.specs.declared.stages.Path.{Path}
use Rattle.acc_elim_stages.specs.Followed.{listed, left_of, told, followed_at, Following, followed, followed_all, through}

-- ---- one more relation of a system

pub chain_ok : {A : Type 0} (o : Computation A) → chain o (λ x. Ok x) ≡ o
chain_ok (Ok x) = refl
chain_ok (Err e) = refl

pub admitted_left : (rows : List Row) (r : Row)
    → admitted rows r ≡ chain (left_of (list_any (repeats r) rows) (length rows) r) (λ o. Ok (rows ++ listed o))
admitted_left rows r = by (is_constant r) (is_false r) (list_any (repeats r) rows) (nat_le MOST_RELATIONS (length rows))
  where
    by : (b c d e : Bool) → (if b then (if c then Err (Refuted r) else Ok rows)
        else (if d then Ok rows else (if e then Err Many else Ok (rows ++ r ∷ []))))
        ≡ chain (if b then (if c then Err (Refuted r) else Ok None) else (if d then Ok None else (if e then Err Many else Ok (Some r))))
        (λ o. Ok (rows ++ listed o))
    by true true d e = refl
    by true false d e = ap Ok (sym (append-nil rows))
    by false c true e = ap Ok (sym (append-nil rows))
    by false c false true = refl
    by false c false false = refl

pub left_same : (a b : Bool) (m n : ℕ) (r : Row) → (is_constant r ≡ false → a ≡ b) → m ≡ n → left_of a m r ≡ left_of b n r
left_same a b m n r same count = by (is_constant r) refl
  where
    by : (c : Bool) → is_constant r ≡ c
        → (if c then (if is_false r then Err (Refuted r) else Ok None)
        else (if a then Ok None else (if nat_le MOST_RELATIONS m then Err Many else Ok (Some r))))
        ≡ (if c then (if is_false r then Err (Refuted r) else Ok None)
        else (if b then Ok None else (if nat_le MOST_RELATIONS n then Err Many else Ok (Some r))))
    by true e = refl
    by false e = λ i. if same e i then Ok None else (if nat_le MOST_RELATIONS (count i) then Err Many else Ok (Some r))

-- what is left doesn't repeat one
pub left_untold : (a : Bool) (n : ℕ) (r : Row) (P : Row → Type 0) → (a ≡ false → P r) → IfOk (left_of a n r) (λ o. IfSome o P)
left_untold a n r P h = by (is_constant r) (is_false r) a (nat_le MOST_RELATIONS n) h
  where
    by : (b c d e : Bool) → (d ≡ false → P r)
        → IfOk {T = Option Row} {E = Stop}
        (if b then (if c then Err (Refuted r) else Ok None) else (if d then Ok None else (if e then Err Many else Ok (Some r))))
        (λ o. IfSome o P)
    by true true d e h = tt
    by true false d e h = tt
    by false c true e h = tt
    by false c false true h = tt
    by false c false false h = h refl

-- ---- an equation that is taken, with relations behind that aren't taken

pub taken_with : (u : ℕ) (more : List Row) → taken u more ≡ None → (rows : List Row)
    → taken u (rows ++ more) ≡ option_map (λ t. (t.0, t.1 ++ more)) (taken u rows)
taken_with u more none [] = none
taken_with u more none (r ∷ rs) = by (taken_with u more none rs) (is_equation_with u r)
  where
    front : Row × List Row → Row × List Row
    front t = (t.0, r ∷ t.1)

    back : Row × List Row → Row × List Row
    back t = (t.0, t.1 ++ more)

    both : (o : Option (Row × List Row)) → option_map front (option_map back o) ≡ option_map back (option_map front o)
    both None = refl
    both (Some t) = refl

    by : taken u (rs ++ more) ≡ option_map back (taken u rs) → (b : Bool)
        → (if b then Some (r, rs ++ more) else option_map front (taken u (rs ++ more)))
        ≡ option_map back (if b then Some (r, rs) else option_map front (taken u rs))
    by rest true = refl
    by rest false = ap (option_map front) rest ∙ both (taken u rs)

pub not_taken : (u : ℕ) (r : Row) (rs : List Row) → r.equal ≡ false → taken u rs ≡ None → taken u (r ∷ rs) ≡ None
not_taken u r rs e none =
    ap (λ b. if b && has u r then Some (r, rs) else option_map (λ t. (t.0, r ∷ t.1)) (taken u rs)) e
    ∙ ap (option_map (λ t. (t.0, r ∷ t.1))) none

pub listed_not_taken : (u : ℕ) (o : Option Row) → IfSome o (λ r. r.equal ≡ false) → taken u (listed o) ≡ None
listed_not_taken u None h = refl
listed_not_taken u (Some r) h = not_taken u r [] h refl

-- a relation without the unknown repeats one of the others exactly where it repeats one of all
abbrev TakenTells : ℕ → (Row → Bool) → List Row → Option (Row × List Row) → Type 0
TakenTells u p rows None = Unit {0}
TakenTells u p rows (Some t) = (has u t.0 ≡ true) × (p t.0 ≡ false → list_any p rows ≡ list_any p t.1)

taken_tells : (u : ℕ) (p : Row → Bool) (rows : List Row) → TakenTells u p rows (taken u rows)
taken_tells u p [] = tt
taken_tells u p (r ∷ rs) = by (is_equation_with u r) refl (taken u rs) (taken_tells u p rs)
  where
    by : (b : Bool) → is_equation_with u r ≡ b → (o : Option (Row × List Row)) → TakenTells u p rs o
        → TakenTells u p (r ∷ rs) (if b then Some (r, rs) else option_map (λ t. (t.0, r ∷ t.1)) o)
    by true e o h = (second_so r.equal (has u r) e, λ differs. ap (λ b. b || list_any p rs) differs)
    by false e None h = tt
    by false e (Some t) h = (h.0, λ differs. ap (λ b. p r || b) (h.1 differs))

differs_by : (b : Bool) (u : ℕ) (m e : Row) → has u e ≡ true → not (has u m) ≡ true → repeats m e ≡ b → b ≡ false
differs_by false u m e there none same = refl
differs_by true u m e there none same =
    let h : true ≡ has u m = sym there ∙ has_as u m e same in
    absurd (let g = ap not h ∙ none in cc)

pub others_tell : (u : ℕ) (rows others : List Row) (e m : Row) → taken u rows ≡ Some (e, others)
    → (is_without u m && list_any (repeats m) rows) ≡ (is_without u m && list_any (repeats m) others)
others_tell u rows others e m same = by (is_without u m) refl
  where
    here : TakenTells u (repeats m) rows (Some (e, others))
    here = subst (TakenTells u (repeats m) rows) same (taken_tells u (repeats m) rows)

    by : (w : Bool) → is_without u m ≡ w → (w && list_any (repeats m) rows) ≡ (w && list_any (repeats m) others)
    by false none = refl
    by true none = here.1 (differs_by (repeats m e) u m e here.0 none refl)

-- ---- one step

module _ (first : List Row) (earlier : List Step) (u : ℕ) (e : Row) (rows others : List Row) (system : Replaced)
    (taken_is : taken u rows ≡ Some (e, others))
    (tells : (r : Row) → is_constant r ≡ false → told first earlier r ≡ list_any (repeats r) rows)
    (behind : TellBehind u others system) where
  abbrev pub step : Step
  step = record { aside = (u, e); made = system.made; count = length system.rows }

  pub step_tells : (r : Row) → is_constant r ≡ false → told first (step ∷ earlier) r ≡ list_any (repeats r) system.rows
  step_tells r some =
      ap (λ b. list_any (repeats r) system.made || (is_without u r && b)) (tells r some)
      ∙ (ap (λ b. list_any (repeats r) system.made || b) (others_tell u rows others e r taken_is) ∙ behind r some)

  pub step_left : (o : Option Row)
      → steps (replaced u e) system.rows (listed o) ≡ chain (followed_at first earlier step o) (λ o. Ok (system.rows ++ listed o))
  step_left None = ap Ok (sym (append-nil system.rows))
  step_left (Some r) = by (cleared u e r)
    where
      by : (c : Computation Row) → chain (chain c (admitted system.rows)) (λ rs. Ok rs)
          ≡ chain (chain c (λ m. left_of (told first (step ∷ earlier) m) step.count m)) (λ o. Ok (system.rows ++ listed o))
      by (Err d) = refl
      by (Ok m) =
          chain_ok (admitted system.rows m)
          ∙ (admitted_left system.rows m
          ∙ ap (λ o. chain o (λ o. Ok (system.rows ++ listed o)))
          (left_same (list_any (repeats m) system.rows) (told first (step ∷ earlier) m) (length system.rows) (length system.rows) m
          (λ some. sym (step_tells m some)) refl))

-- ---- all steps

module _ (first : List Row) where
  so_far : (ss earlier : List Step) (o : Option Row) → IfOk (steps (followed first) (earlier, o) ss) (λ x. x.0 ≡ reverse ss ++ earlier)
  so_far [] earlier o = refl
  so_far (s ∷ ss) earlier o = by (λ p. so_far ss (s ∷ earlier) p) (followed_at first earlier s o)
    where
      along : (x : Following) → x.0 ≡ reverse ss ++ s ∷ earlier → x.0 ≡ reverse (s ∷ ss) ++ earlier
      along x e = e ∙ (sym (append_assoc (reverse ss) (s ∷ []) earlier) ∙ ap (λ zs. zs ++ earlier) (sym (reverse-append (s ∷ []) ss)))

      weaker : (c : Computation Following) → IfOk c (λ x. x.0 ≡ reverse ss ++ s ∷ earlier) → IfOk c (λ x. x.0 ≡ reverse (s ∷ ss) ++ earlier)
      weaker (Ok x) h = along x h
      weaker (Err e) h = tt

      by : ((p : Option Row) → IfOk (steps (followed first) (s ∷ earlier, p) ss) (λ x. x.0 ≡ reverse ss ++ s ∷ earlier))
          → (c : Computation (Option Row))
          → IfOk (chain {B = Following} (chain {B = Following} c (λ o. Ok (s ∷ earlier, o))) (λ x. steps (followed first) x ss))
          (λ x. x.0 ≡ reverse (s ∷ ss) ++ earlier)
      by again (Err e) = tt
      by again (Ok p) = weaker (steps (followed first) (s ∷ earlier, p) ss) (again p)

  pub one_more : (ss : List Step) (s : Step) (o : Option Row)
      → chain (steps (followed first) ([], o) (ss ++ s ∷ [])) (λ x. Ok x.1)
      ≡ chain (chain (steps (followed first) ([], o) ss) (λ x. Ok x.1)) (followed_at first (reverse ss) s)
  one_more ss s o =
      ap (λ c. chain c (λ x. Ok x.1)) (steps_append (followed first) ss (s ∷ []) ([], o))
      ∙ by (steps (followed first) ([], o) ss) (so_far ss [] o)
    where
      last : (c : Computation (Option Row)) (earlier : List Step)
          → chain {A = Following} (chain {A = Following} (chain c (λ o. Ok (s ∷ earlier, o))) (λ x. Ok x)) (λ x. Ok x.1) ≡ c
      last (Ok p) earlier = refl
      last (Err e) earlier = refl

      by : (c : Computation Following) → IfOk c (λ x. x.0 ≡ reverse ss ++ [])
          → chain (chain c (λ x. steps (followed first) x (s ∷ []))) (λ x. Ok x.1)
          ≡ chain (chain c (λ x. Ok x.1)) (followed_at first (reverse ss) s)
      by (Err e) h = refl
      by (Ok x) h = last (followed_at first x.0 s x.1) x.0
          ∙ ap (λ earlier. followed_at first earlier s x.1) (h ∙ append-nil (reverse ss))

-- ---- an inequality stays one

module _ (equal : Bool) where
  abbrev pub Same : Row → Type 0
  Same r = r.equal ≡ equal

  lowest_same : (r : Row) → Same r → Same (lowest r)
  lowest_same r h = by (nat_lt 1 (divisor_of r))
    where
      by : (b : Bool) → Same (if b then divided (divisor_of r) r else r)
      by true = h
      by false = h

  cleared_same : (u : ℕ) (e r : Row) → Same r → IfOk (cleared u e r) Same
  cleared_same u e r h = by (has u r)
    where
      by : (b : Bool) → IfOk (if b then cleared_by (at u e.terms) e (at u r.terms) r else Ok r) Same
      by false = h
      by true =
          ok_chain (size (at u e.terms)) _ (λ _. Unit {0}) Same (any_ok (size (at u e.terms))) (λ p _.
          ok_chain (cancelling (at u e.terms) (at u r.terms)) _ (λ _. Unit {0}) Same
          (any_ok (cancelling (at u e.terms) (at u r.terms))) (λ q _.
          ok_chain (mixed p q r.terms e.terms) _ (λ _. Unit {0}) Same (any_ok (mixed p q r.terms e.terms)) (λ terms _.
          ok_chain (mixture p r.constant q e.constant) _ (λ _. Unit {0}) Same (any_ok (mixture p r.constant q e.constant)) (λ constant _.
          ok_chain (mixed p q r.by e.by) _ (λ _. Unit {0}) Same (any_ok (mixed p q r.by e.by)) (λ by _.
          lowest_same (record { terms = terms; constant = constant; equal = r.equal; by = by }) h)))))

  pub at_same : (first : List Row) (earlier : List Step) (s : Step) (o : Option Row) → IfSome o Same
      → IfOk (followed_at first earlier s o) (λ o. IfSome o Same)
  at_same first earlier s None h = tt
  at_same first earlier s (Some r) h =
      ok_chain (cleared s.aside.0 s.aside.1 r) _ Same (λ o. IfSome o Same) (cleared_same s.aside.0 s.aside.1 r h)
      (λ m same. left_untold (told first (s ∷ earlier) m) s.count m Same (λ _. same))

  all_same : (g : Path) (o : Option Row) → IfSome o Same → IfOk (followed_all g o) (λ o. IfSome o Same)
  all_same g o h =
      ok_chain (steps (followed g.first) ([], o) g.steps) _ (λ x. IfSome x.1 Same) (λ o. IfSome o Same)
      (ok_steps (followed g.first) (λ x. IfSome x.1 Same) (λ x s p.
      ok_chain (followed_at g.first x.0 s x.1) _ (λ o. IfSome o Same) (λ x. IfSome x.1 Same) (at_same g.first x.0 s x.1 p) (λ o q. q))
      g.steps ([], o) h) (λ x p. p)

  pub through_same : (g : Path) (r : Row) → Same r → IfOk (through g r) (λ o. IfSome o Same)
  through_same g r h =
      ok_chain (left_of (list_any (repeats r) g.first) (length g.first) r) (followed_all g) (λ o. IfSome o Same) (λ o. IfSome o Same)
      (left_untold (list_any (repeats r) g.first) (length g.first) r Same (λ _. h)) (λ o p. all_same g o p)

-- what is left behind a step doesn't repeat one of its system
pub at_untold : (first : List Row) (earlier : List Step) (s : Step) (o : Option Row)
    → IfOk (followed_at first earlier s o) (λ o. IfSome o (λ m. told first (s ∷ earlier) m ≡ false))
at_untold first earlier s None = tt
at_untold first earlier s (Some r) =
    ok_chain (cleared s.aside.0 s.aside.1 r) _ (λ _. Unit {0}) (λ o. IfSome o (λ m. told first (s ∷ earlier) m ≡ false))
    (any_ok (cleared s.aside.0 s.aside.1 r))
    (λ m _. left_untold (told first (s ∷ earlier) m) s.count m (λ m. told first (s ∷ earlier) m ≡ false) (λ e. e))

pub answers_untold : (first : List Row) (earlier : List Step) (s : Step) (o : Option Row) (r : Result (Option Row) Stop)
    → Answers tells r (followed_at first earlier s o) → IfOk r (λ o. IfSome o (λ m. told first (s ∷ earlier) m ≡ false))
answers_untold first earlier s o (Ok p) h =
    subst (λ c. IfOk c (λ o. IfSome o (λ m. told first (s ∷ earlier) m ≡ false))) h (at_untold first earlier s o)
answers_untold first earlier s o (Err e) h = tt
