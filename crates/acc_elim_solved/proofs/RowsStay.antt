-- Rows that were read stay as they are when more relations come: their unknowns keep their numbers.
use Rattle.std.proofs.Common.{◌≡◌, ℕ, suc, ◌+◌, ◌<◌, Bool, true, false, List, [], ◌∷◌, ◌++◌, length, Ok, Err, refl, ap, sym, ◌∙◌, subst}
use Rattle.std.proofs.Common.{arith, ℤ, pos, if◌then◌else◌, ◌⊎◌, inl, inr}
use Rattle.std.specs.Prelude.{All, Some, ◌||◌}
use Rattle.std.specs.Option.{is_some, option_map_or}
use Rattle.std.specs.List.{fold}
use Rattle.std.specs.Ordering.{int_eq}
use Rattle.std.proofs.Math.ListN.{get_or-append}
use Rattle.std.proofs.lemmas.List.Sums.{fold-append}
use Rattle.std.proofs.lemmas.List.Quantifiers.{position-Some}
use Rattle.acc_base.specs.UnknownEquality.{unknown_eq, is_bare_one}
use Rattle.std.proofs.lemmas.List.Elements.{All-head, All-tail}
use Rattle.acc_base.specs.declared.forms.Unknown.{Unknown}
use Rattle.acc_base.specs.declared.forms.Rel.{Rel}
use Rattle.acc_rows.specs.declared.rows.Row.{Row}
use Rattle.acc_base.specs.Computing.{chain, steps}
use Rattle.acc_rows.specs.Answers.{Computation}
use Rattle.acc_rows.specs.Numbers.{kept}
use Rattle.acc_rows.specs.Sparse.{Sparse}
use Rattle.acc_elim_readings.specs.Readings.{place_of, with_term, with_rel, unknowns_of, once, read_number, with_number, read_term, row_of}
use Rattle.acc_elim_readings.specs.Readings.{rows_from}
use Rattle.acc_elim_readings.proofs.Names.{Stands, Named, unknowns_stand, stands_push, placed}
use Rattle.acc_elim_solved.specs.Rows.{RowsStay}

first_is : (a b : ℕ) → (a < b → ⊥) → (b < a → ⊥) → a ≡ b
first_is a b h k = by_cases a b (lt_or a b) h k
  where
    lt_or : (a b : ℕ) → (a < b) ⊎ ((b < a) ⊎ (a ≡ b))
    lt_or a b = grind arith

    by_cases : (a b : ℕ) → (a < b) ⊎ ((b < a) ⊎ (a ≡ b)) → (a < b → ⊥) → (b < a → ⊥) → a ≡ b
    by_cases a b (inl l) h k = absurd (h l)
    by_cases a b (inr (inl l)) h k = absurd (k l)
    by_cases a b (inr (inr e)) h k = e

place_same : (us : List Unknown) (u v : Unknown) → Stands u us → place_of (us ++ v ∷ []) u ≡ place_of us u
place_same us u v s =
    let p = placed us u s in
    let q = placed (us ++ v ∷ []) u (stands_push u v us s) in
    let here = position-Some (λ w. unknown_eq w u) us p.0 u p.1 in
    let there = position-Some (λ w. unknown_eq w u) (us ++ v ∷ []) q.0 u q.1 in
    q.1 ∙ (ap Some (first_is q.0 p.0
    (λ l. both_cannot _ (sym (ap (λ w. unknown_eq w u) (get_or-append us (v ∷ []) u q.0 (before q.0 p.0 (length us) l here.0)))
    ∙ there.1) (here.2 q.0 l)) (λ l. both_cannot _ (ap (λ w. unknown_eq w u) (get_or-append us (v ∷ []) u p.0 here.0) ∙ here.1)
    (there.2 p.0 l))) ∙ sym p.1)
  where
    before : (a b n : ℕ) → a < b → b < n → a < n
    before a b n l m = omega (arith, l, m)

    both_cannot : (b : Bool) → b ≡ true → b ≡ false → ⊥
    both_cannot true e f = cc
    both_cannot false e f = cc

-- names that come later leave places as they are
abbrev Later : List Unknown → List Unknown → Type 0
Later us vs = (u : Unknown) → Stands u us → Stands u vs × (place_of vs u ≡ place_of us u)

later_same : (us : List Unknown) → Later us us
later_same us u s = (s, refl)

later_later : (us vs ws : List Unknown) → Later us vs → Later vs ws → Later us ws
later_later us vs ws a b u s =
    let x = a u s in
    let y = b u x.0 in
    (y.0, y.1 ∙ x.1)

name_later_by : (us : List Unknown) (v : Unknown) (b : Bool) → Later us (if b then us else us ++ v ∷ [])
name_later_by us v true u s = (s, refl)
name_later_by us v false u s = (stands_push u v us s, place_same us u v s)

term_later_by : (us : List Unknown) (t : Unknown × ℤ) (b c : Bool) → Later us (if b then us else (if c then us else us ++ t.0 ∷ []))
term_later_by us t true c = later_same us
term_later_by us t false c = name_later_by us t.0 c

terms_later : (ts : List (Unknown × ℤ)) (us : List Unknown) → Later us (fold with_term us ts)
terms_later [] us = later_same us
terms_later (t ∷ ts) us = later_later us (with_term us t) (fold with_term (with_term us t) ts)
    (term_later_by us t (is_bare_one t.0) (is_some (place_of us t.0))) (terms_later ts (with_term us t))

rels_later : (rs : List Rel) (us : List Unknown) → Later us (fold with_rel us rs)
rels_later [] us = later_same us
rels_later (r ∷ rs) us = later_later us (with_rel us r) (fold with_rel (with_rel us r) rs) (terms_later r.form.terms us)
    (rels_later rs (with_rel us r))

-- ---- a row

module _ (us vs : List Unknown) (later : Later us vs) where
  term_same_by : (terms : Sparse) (t : Unknown × ℤ) → Named us t → (one z : Bool) → is_bare_one t.0 ≡ one
      → (if one || z then Ok terms else option_map_or (with_number terms t.1) (place_of vs t.0) (Ok terms))
      ≡ (if one || z then Ok terms else option_map_or (with_number terms t.1) (place_of us t.0) (Ok terms))
  term_same_by terms t n true z e = refl
  term_same_by terms t n false true e = refl
  term_same_by terms t n false false e = ap (λ o. option_map_or (with_number terms t.1) o (Ok terms)) ((later t.0 (n e)).1)

  terms_same : (ts : List (Unknown × ℤ)) (terms : Sparse) → All (Named us) ts
      → steps (read_term vs) terms ts ≡ steps (read_term us) terms ts
  terms_same [] terms all = refl
  terms_same (t ∷ ts) terms all =
      ap (λ o. chain o (λ s. steps (read_term vs) s ts))
      (term_same_by terms t (All-head (Named us) t ts all) (is_bare_one t.0) (int_eq t.1 (pos 0)) refl)
      ∙ under (read_term us terms t) (λ s. terms_same ts s (All-tail (Named us) t ts all))
    where
      under : (o : Computation Sparse) → ((s : Sparse) → steps (read_term vs) s ts ≡ steps (read_term us) s ts)
          → chain o (λ s. steps (read_term vs) s ts) ≡ chain o (λ s. steps (read_term us) s ts)
      under (Ok s) h = h s
      under (Err e) h = refl

  row_same : (place : ℕ) (r : Rel) → All (Named us) r.form.terms → row_of vs place r ≡ row_of us place r
  row_same place r all =
      ap (λ o. chain (chain (kept r.form.constant) (λ first. steps read_number first r.form.terms))
      (λ constant. chain o (λ terms. Ok (record { terms = terms; constant = constant; equal = r.equal; by = once place }))))
      (terms_same r.form.terms [] all)

  rows_same : (ys xs : List Rel) (place n : ℕ) → n ≡ length xs + place → All (λ r. All (Named us) r.form.terms) xs
      → rows_from vs place (xs ++ ys) ≡ chain (rows_from us place xs) (λ rows. chain (rows_from vs n ys) (λ more. Ok (rows ++ more)))
  rows_same ys [] place n e all = last (rows_from vs place ys) ∙ ap (λ k. chain (rows_from vs k ys) (λ more. Ok more)) (first e)
    where
      last : (o : Computation (List Row)) → o ≡ chain o (λ more. Ok more)
      last (Ok rows) = refl
      last (Err d) = refl

      first : n ≡ 0 + place → place ≡ n
      first e = omega (arith, e)
  rows_same ys (x ∷ xs) place n e all =
      ap (λ o. chain o (λ row. chain (rows_from vs (suc place) (xs ++ ys)) (λ rows. Ok (row ∷ rows))))
      (row_same place x (All-head (λ r. All (Named us) r.form.terms) x xs all)) ∙ (
      ap (λ o. chain (row_of us place x) (λ row. chain o (λ rows. Ok (row ∷ rows))))
      (rows_same ys xs (suc place) n (omega (arith, e)) (All-tail (λ r. All (Named us) r.form.terms) x xs all))
      ∙ inside (row_of us place x) (rows_from us (suc place) xs) (rows_from vs n ys))
    where
      inside : (o : Computation Row) (p q : Computation (List Row))
          → chain o (λ row. chain (chain p (λ rows. chain q (λ more. Ok (rows ++ more)))) (λ rows. Ok (row ∷ rows)))
          ≡ chain (chain o (λ row. chain p (λ rows. Ok (row ∷ rows)))) (λ rows. chain q (λ more. Ok (rows ++ more)))
      inside (Ok row) (Ok rows) (Ok more) = refl
      inside (Ok row) (Ok rows) (Err d) = refl
      inside (Ok row) (Err d) q = refl
      inside (Err d) p q = refl

pub rows_stay : RowsStay
rows_stay xs ys =
    rows_same (unknowns_of xs) (unknowns_of (xs ++ ys))
    (subst (λ vs. Later (unknowns_of xs) vs) (sym (fold-append with_rel [] xs ys)) (rels_later ys (unknowns_of xs))) ys xs 0
    (length xs) (omega arith) (unknowns_stand xs)
