-- Terms and multiples of terms that are added one after the other.
use Rattle.std.proofs.Common.{◌≡◌, ℕ, ◌+◌, ◌<◌, ◌≤◌, Bool, true, false, List, [], ◌∷◌, ◌++◌, length, get_or, drop, drop-cons, add-one}
use Rattle.std.proofs.Common.{map, refl, ap, sym, ◌∙◌, ℤ, ◌*ℤ◌, ◌||◌}
use Rattle.std.specs.List.{list_any}
use Rattle.std.proofs.lemmas.List.{drop_all}
use Rattle.std.proofs.lemmas.List.Folds.{list_any-append}
use Rattle.acc_base.specs.declared.forms.Form.{Form}
use Rattle.acc_base.specs.Bounded.{is_wide}
use Rattle.acc_base.specs.Sums.{Term, with_term, grown, with_terms, all_grown, multiple, multiples_wide, summands, terms_wide}

-- ---- a step of a loop over the terms

either : (p P g G : Bool) → ((p || P) || (g || G)) ≡ ((p || g) || (P || G))
either true P g G = refl
either false true true G = refl
either false true false G = refl
either false false g G = refl

module _ (terms : List Term) (i : ℕ) (d : Term) (within : i < length terms) (here : d ≡ get_or terms i d) where
  one_more : drop i terms ≡ d ∷ drop (i + 1) terms
  one_more =
      drop-cons terms i d within
      ∙ (ap (λ (n : ℕ). get_or terms i d ∷ drop n terms) (sym (add-one i)) ∙ ap (λ (x : Term). x ∷ drop (i + 1) terms) (sym here))

  -- a term
  module _ (n : ℤ) (number : n ≡ d.1) (sums : List Term) where
    abbrev rest : Bool
    rest = list_any is_wide (all_grown (with_term d sums) (drop (i + 1) terms))

    number_wide : is_wide (grown (d.0, n) sums) ≡ is_wide (grown d sums)
    number_wide = ap (λ (z : ℤ). is_wide (grown (d.0, z) sums)) number

    parted : list_any is_wide (all_grown sums (drop i terms)) ≡ (is_wide (grown d sums) || rest)
    parted = ap (λ (ts : List Term). list_any is_wide (all_grown sums ts)) one_more

    pub term_wide : is_wide (grown (d.0, n) sums) ≡ true → list_any is_wide (all_grown sums (drop i terms)) ≡ true
    term_wide e = parted ∙ ap (λ x. x || rest) (sym number_wide ∙ e)

    module _ (new : List Term) (added : new ≡ with_term (d.0, n) sums) where
      with_it : new ≡ with_term d sums
      with_it = added ∙ ap (λ (z : ℤ). with_term (d.0, z) sums) number

      pub terms_step : with_terms new (drop (i + 1) terms) ≡ with_terms sums (drop i terms)
      terms_step = ap (λ (ts : List Term). with_terms ts (drop (i + 1) terms)) with_it ∙ ap (with_terms sums) (sym one_more)

      pub terms_wide_step : is_wide (grown (d.0, n) sums) ≡ false
          → list_any is_wide (all_grown new (drop (i + 1) terms)) ≡ list_any is_wide (all_grown sums (drop i terms))
      terms_wide_step e =
          ap (λ (ts : List Term). list_any is_wide (all_grown ts (drop (i + 1) terms))) with_it
          ∙ (ap (λ x. x || rest) (sym e ∙ number_wide) ∙ sym parted)

  -- a multiple of a term
  module _ (by b n : ℤ) (same : b ≡ by) (number : n ≡ d.1) (sums : List Term) where
    product : b *ℤ n ≡ by *ℤ d.1
    product = ap (λ (z : ℤ). z *ℤ n) same ∙ ap (λ (z : ℤ). by *ℤ z) number

    first_wide : (is_wide (b *ℤ n) || is_wide (grown (d.0, b *ℤ n) sums)) ≡ (is_wide (by *ℤ d.1) || is_wide (grown (multiple by d) sums))
    first_wide = ap (λ (z : ℤ). is_wide z || is_wide (grown (d.0, z) sums)) product

    split : multiples_wide by sums (drop i terms) ≡ ((is_wide (b *ℤ n) || is_wide (grown (d.0, b *ℤ n) sums))
        || multiples_wide by (with_term (multiple by d) sums) (drop (i + 1) terms))
    split =
        ap (multiples_wide by sums) one_more
        ∙ (either (is_wide (by *ℤ d.1)) (list_any is_wide (map (λ t. by *ℤ t.1) (drop (i + 1) terms)))
        (is_wide (grown (multiple by d) sums))
        (list_any is_wide (all_grown (with_term (multiple by d) sums) (map (multiple by) (drop (i + 1) terms))))
        ∙ ap (λ x. x || multiples_wide by (with_term (multiple by d) sums) (drop (i + 1) terms)) (sym first_wide))

    pub wide_here : (is_wide (b *ℤ n) || is_wide (grown (d.0, b *ℤ n) sums)) ≡ true → multiples_wide by sums (drop i terms) ≡ true
    wide_here e = split ∙ ap (λ x. x || multiples_wide by (with_term (multiple by d) sums) (drop (i + 1) terms)) e

    module _ (new : List Term) (added : new ≡ with_term (d.0, b *ℤ n) sums) where
      is_added : new ≡ with_term (multiple by d) sums
      is_added = added ∙ ap (λ (z : ℤ). with_term (d.0, z) sums) product

      pub multiples_step : with_terms new (map (multiple by) (drop (i + 1) terms)) ≡ with_terms sums (map (multiple by) (drop i terms))
      multiples_step =
          ap (λ (ts : List Term). with_terms ts (map (multiple by) (drop (i + 1) terms))) is_added
          ∙ ap (λ (ts : List Term). with_terms sums (map (multiple by) ts)) (sym one_more)

      pub wide_step : (is_wide (b *ℤ n) || is_wide (grown (d.0, b *ℤ n) sums)) ≡ false
          → multiples_wide by new (drop (i + 1) terms) ≡ multiples_wide by sums (drop i terms)
      wide_step e =
          ap (λ (ts : List Term). multiples_wide by ts (drop (i + 1) terms)) is_added
          ∙ (ap (λ x. x || multiples_wide by (with_term (multiple by d) sums) (drop (i + 1) terms)) (sym e) ∙ sym split)

-- the loops' ends
module _ (terms : List Term) (i : ℕ) (past : length terms ≤ i) (first sums : List Term) where
  pub added_all : with_terms sums (drop i terms) ≡ with_terms first terms → sums ≡ with_terms first terms
  added_all e = ap (with_terms sums) (sym (drop_all i terms past)) ∙ e

  pub none_wide : list_any is_wide (all_grown sums (drop i terms)) ≡ list_any is_wide (all_grown first terms)
      → list_any is_wide (all_grown first terms) ≡ false
  none_wide e = sym e ∙ ap (λ (ts : List Term). list_any is_wide (all_grown sums ts)) (drop_all i terms past)

module _ (terms : List Term) (i : ℕ) (past : length terms ≤ i) (b by : ℤ) (same : b ≡ by) (first sums : List Term) where
  pub terms_end : with_terms sums (map (multiple b) (drop i terms)) ≡ with_terms first (map (multiple b) terms)
      → sums ≡ with_terms first (map (multiple by) terms)
  terms_end e =
      ap (λ (ts : List Term). with_terms sums (map (multiple b) ts)) (sym (drop_all i terms past))
      ∙ (e ∙ ap (λ (z : ℤ). with_terms first (map (multiple z) terms)) same)

  pub wide_end : multiples_wide b sums (drop i terms) ≡ multiples_wide b first terms → multiples_wide by first terms ≡ false
  wide_end e =
      ap (λ (z : ℤ). multiples_wide z first terms) (sym same) ∙ (sym e ∙ ap (multiples_wide b sums) (drop_all i terms past))

-- ---- terms in two parts

pub with_terms-append : (sums xs ys : List Term) → with_terms sums (xs ++ ys) ≡ with_terms (with_terms sums xs) ys
with_terms-append sums [] ys = refl
with_terms-append sums (x ∷ xs) ys = with_terms-append (with_term x sums) xs ys

all_grown-append : (sums xs ys : List Term) → all_grown sums (xs ++ ys) ≡ all_grown sums xs ++ all_grown (with_terms sums xs) ys
all_grown-append sums [] ys = refl
all_grown-append sums (x ∷ xs) ys = ap (λ ns. grown x sums ∷ ns) (all_grown-append (with_term x sums) xs ys)

grown_parts : (sums xs ys : List Term)
    → list_any is_wide (all_grown sums (xs ++ ys)) ≡ (list_any is_wide (all_grown sums xs)
    || list_any is_wide (all_grown (with_terms sums xs) ys))
grown_parts sums xs ys =
    ap (list_any is_wide) (all_grown-append sums xs ys) ∙ list_any-append is_wide (all_grown sums xs) (all_grown (with_terms sums xs) ys)

-- ---- the numbers of a sum

in_middle : (p q r : Bool) → q ≡ true → (p || (q || r)) ≡ true
in_middle true q r e = refl
in_middle false q r e = ap (λ x. x || r) e

around : (p q r : Bool) → q ≡ false → (p || (q || r)) ≡ (p || r)
around p q r e = ap (λ x. p || (x || r)) e

module _ (f : Form) (by : ℤ) (g : Form) where
  in_two : terms_wide f by g ≡ (list_any is_wide (map (λ t. by *ℤ t.1) g.terms)
      || (list_any is_wide (all_grown [] f.terms) || list_any is_wide (all_grown (with_terms [] f.terms) (map (multiple by) g.terms))))
  in_two = ap (λ x. list_any is_wide (map (λ t. by *ℤ t.1) g.terms) || x) (grown_parts [] f.terms (map (multiple by) g.terms))

  -- the first form's terms are added to none, and then the multiples of the second form's
  module _ (start xs : List Term) (none : start ≡ []) (first : xs ≡ f.terms) where
    begun : list_any is_wide (all_grown start xs) ≡ list_any is_wide (all_grown [] f.terms)
    begun =
        ap (λ (ts : List Term). list_any is_wide (all_grown ts xs)) none ∙ ap (λ (ts : List Term). list_any is_wide (all_grown [] ts)) first

    pub first_wide_is : list_any is_wide (all_grown start xs) ≡ true → terms_wide f by g ≡ true
    first_wide_is e =
        in_two ∙ in_middle (list_any is_wide (map (λ t. by *ℤ t.1) g.terms)) (list_any is_wide (all_grown [] f.terms)) _ (sym begun ∙ e)

    module _ (middle ys : List Term) (b : ℤ) (added : middle ≡ with_terms start xs) (second : ys ≡ g.terms) (same : b ≡ by) where
      is_middle : middle ≡ with_terms [] f.terms
      is_middle = added ∙ (ap (λ (ts : List Term). with_terms ts xs) none ∙ ap (with_terms []) first)

      pub collected_is : (last : List Term) → last ≡ with_terms middle (map (multiple b) ys) → last ≡ with_terms [] (summands f by g)
      collected_is last e =
          e ∙ (ap (λ (ts : List Term). with_terms ts (map (multiple b) ys)) is_middle
          ∙ (ap (λ (ts : List Term). with_terms (with_terms [] f.terms) (map (multiple b) ts)) second
          ∙ (ap (λ (z : ℤ). with_terms (with_terms [] f.terms) (map (multiple z) g.terms)) same
          ∙ sym (with_terms-append [] f.terms (map (multiple by) g.terms)))))

      pub second_wide_is : list_any is_wide (all_grown start xs) ≡ false → terms_wide f by g ≡ multiples_wide b middle ys
      second_wide_is narrow =
          in_two ∙ (around (list_any is_wide (map (λ t. by *ℤ t.1) g.terms)) (list_any is_wide (all_grown [] f.terms))
          (list_any is_wide (all_grown (with_terms [] f.terms) (map (multiple by) g.terms))) (sym begun ∙ narrow)
          ∙ (ap (λ (ts : List Term). multiples_wide by ts g.terms) (sym is_middle)
          ∙ (ap (multiples_wide by middle) (sym second) ∙ ap (λ (z : ℤ). multiples_wide z middle ys) (sym same))))
