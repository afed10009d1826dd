-- Marks that are ends alone, part by part.
use Rattle.std.proofs.Common.{◌≡◌, ℕ, ◌+◌, ◌<◌, ◌≤◌, ◌==◌, zero, suc, Bool, true, false, not, if◌then◌else◌, List, [], ◌∷◌, ◌++◌, length}
use Rattle.std.proofs.Common.{get_or, refl, sym, subst, ◌∙◌, inl, inr, arith}
use Rattle.std.specs.List.{list_all}
use Rattle.std.proofs.lemmas.Bool.{false≢true, and_parts, and_from, cases_lt}
use Rattle.std.proofs.lemmas.Bool.Decides.{nat_tests}
use Rattle.std.proofs.lemmas.List.Folds.{list_all-append}
use Rattle.acc_base.specs.declared.rules.FormRule.{FormRule}
use Rattle.acc_form.specs.Marks.{Mark, Broken, End, asked, numbered_from, numbered}
use Rattle.acc_formed.specs.WellFormed.{EachNumbered}

abbrev pub is_end : Mark → Bool
is_end (Broken rule) = false
is_end End = true

-- no rule is broken
abbrev pub Clean : List Mark → Type 0
Clean ms = list_all is_end ms ≡ true

pub clean_parts : (xs ys : List Mark) → Clean (xs ++ ys) → Clean xs × Clean ys
clean_parts xs ys h = and_parts (list_all is_end xs) (list_all is_end ys) (sym (list_all-append is_end xs ys) ∙ h)

pub clean_from : (xs ys : List Mark) → Clean xs → Clean ys → Clean (xs ++ ys)
clean_from xs ys h g = list_all-append is_end xs ys ∙ and_from (list_all is_end xs) (list_all is_end ys) h g

-- ---- a rule that is asked

kept_of_clean : (rule : FormRule) (b : Bool) → Clean (asked rule b) → b ≡ true
kept_of_clean rule true h = refl
kept_of_clean rule false h = absurd (false≢true h)

clean_of_kept : (rule : FormRule) (b : Bool) → b ≡ true → Clean (asked rule b)
clean_of_kept rule true h = refl
clean_of_kept rule false h = absurd (false≢true h)

pub asks : (rule : FormRule) (b : Bool) (ms : List Mark) → Clean (asked rule b ++ ms) → (b ≡ true) × Clean ms
asks rule b ms h = let p = clean_parts (asked rule b) ms h in (kept_of_clean rule b p.0, p.1)

pub keeps : (rule : FormRule) (b : Bool) (ms : List Mark) → b ≡ true → Clean ms → Clean (asked rule b ++ ms)
keeps rule b ms h g = clean_from (asked rule b) ms (clean_of_kept rule b h) g

-- a statement that may be left out
pub clean_unless : (b : Bool) (ms : List Mark) → Clean ms → Clean (if b then [] else ms)
clean_unless true ms h = refl
clean_unless false ms h = h

-- ---- items with numbers

each_from : {T : Type 0} (i : ℕ) (marks : ℕ → T → List Mark) (xs : List T) → Clean (numbered_from i marks xs) →
    (k : ℕ) (d : T) → k < length xs → Clean (marks (i + k) (get_or xs k d))
each_from i marks [] h k d l = absurd (omega arith)
each_from i marks (x ∷ xs) h zero d l =
    let at : i + 0 ≡ i = omega arith in rw at (clean_parts (marks i x) (numbered_from (i + 1) marks xs) h).0
each_from {T} i marks (x ∷ xs) h (suc k) d l =
    let at : i + 1 + k ≡ i + suc k = omega arith in
    subst (λ (n : ℕ). Clean (marks n (get_or xs k d))) at
    (each_from (i + 1) marks xs (clean_parts (marks i x) (numbered_from (i + 1) marks xs) h).1 k d (omega arith))

all_from : {T : Type 0} (i : ℕ) (marks : ℕ → T → List Mark) (xs : List T) →
    ((k : ℕ) (d : T) → k < length xs → Clean (marks (i + k) (get_or xs k d))) → Clean (numbered_from i marks xs)
all_from i marks [] f = refl
all_from i marks (x ∷ xs) f =
    let at : i + 0 ≡ i = omega arith in
    clean_from (marks i x) (numbered_from (i + 1) marks xs) (rw at at (f 0 x (omega arith)))
    (all_from (i + 1) marks xs (λ k d l. let next : i + suc k ≡ i + 1 + k = omega arith in
    subst (λ (n : ℕ). Clean (marks n (get_or xs k d))) next (f (suc k) d (omega arith))))

-- marks that are clean exactly where an item isn't one too many and keeps P
pub record Asks {T : Type 0} (marks : ℕ → T → List Mark) (most : ℕ) (P : ℕ → T → Type 0) : Type 0 where
  pub opens : (i : ℕ) (x : T) → Clean (marks i x) → (not (i == most) ≡ true) × P i x
  pub shuts : (i : ℕ) (x : T) → not (i == most) ≡ true → P i x → Clean (marks i x)

-- such items are few, and each keeps P
few_of_clean : {T : Type 0} (marks : ℕ → T → List Mark) (most : ℕ) (P : ℕ → T → Type 0) → Asks marks most P → (xs : List T) →
    ((i : ℕ) (d : T) → i < length xs → Clean (marks i (get_or xs i d))) → length xs ≤ most
few_of_clean marks most P asks [] f = omega arith
few_of_clean marks most P asks (x ∷ xs) f =
    elim (cases_lt most (length (x ∷ xs))) [
      | inl l ↦ let no : not (most == most) ≡ true = (asks.opens most (get_or (x ∷ xs) most x) (f most x l)).0 in
          absurd (grind (arith, nat_tests))
      | inr l ↦ l
    ]

pub each_of_clean : {T : Type 0} (marks : ℕ → T → List Mark) (most : ℕ) (P : ℕ → T → Type 0) → Asks marks most P → (xs : List T) →
    Clean (numbered marks xs) → (length xs ≤ most) × EachNumbered P xs
each_of_clean {T} marks most P asks xs h =
    let each : (i : ℕ) (d : T) → i < length xs → Clean (marks i (get_or xs i d)) =
    λ i d l. let at : 0 + i ≡ i = omega arith in subst (λ (n : ℕ). Clean (marks n (get_or xs i d))) at (each_from 0 marks xs h i d l) in
    (few_of_clean marks most P asks xs each, λ i d l. (asks.opens i (get_or xs i d) (each i d l)).1)

pub clean_of_each : {T : Type 0} (marks : ℕ → T → List Mark) (most : ℕ) (P : ℕ → T → Type 0) → Asks marks most P → (xs : List T) →
    length xs ≤ most → EachNumbered P xs → Clean (numbered marks xs)
clean_of_each marks most P asks xs few each =
    all_from 0 marks xs (λ i d l.
    let at : i ≡ 0 + i = omega arith in
    let fits : not (i == most) ≡ true = grind (arith, nat_tests) in
    subst (λ (n : ℕ). Clean (marks n (get_or xs i d))) at (asks.shuts i (get_or xs i d) fits (each i d l)))
