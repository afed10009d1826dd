-- What tells of the relations of a system behind an equation.
use Rattle.std.proofs.Common.{◌≡◌, ◌==◌, ℕ, Bool, true, false, List, [], ◌∷◌, ◌++◌, length, Ok, Err, refl, ap, sym, ◌∙◌, subst}
use Rattle.std.proofs.Common.{if◌then◌else◌, ◌||◌, ◌&&◌, not}
use Rattle.std.specs.Prelude.{nat_le, IfOk, Result, OnOk}
use Rattle.std.specs.Bool.{Decides}
use Rattle.std.specs.Ordering.{int_eq}
use Rattle.std.specs.List.{list_any}
use Rattle.std.specs.Cmp.{first_so, second_so}
use Rattle.std.proofs.lemmas.Bool.Decides.{Decides-eqb, Decides-int_eq}
use Rattle.std.proofs.lemmas.Slice.Eq.{slice_eq-Decides}
use Rattle.std.proofs.lemmas.List.Folds.{list_any-append}
use Rattle.acc_base.specs.Pairs.{pair_decides}
use Rattle.acc_rows.specs.declared.stops.Stop.{Stop}
use Rattle.acc_rows.specs.declared.stops.Stop.TheVariants.{Refuted, Many}
use Rattle.acc_rows.specs.declared.rows.Row.{Row}
use Rattle.acc_base.specs.Computing.{Leaves}
use Rattle.acc_rows.specs.Answers.{tells}
use Rattle.acc_rows.specs.Sparse.{Sparse, same_numbers, no_numbers}
use Rattle.acc_rows.specs.Rows.{has}
use Rattle.acc_elim_systems.specs.declared.systems.TheConstants.{MOST_RELATIONS}
use Rattle.acc_elim_systems.specs.Systems.{is_false, same_bool, repeats, is_constant, is_without, admitted}
use Rattle.acc_elim_systems.specs.Repetitions.{GrowTogether, StillBehind, told_behind}

-- ---- relations that repeat one another

same_numbers_decides : (xs ys : Sparse) → Decides (same_numbers xs ys) (xs ≡ ys)
same_numbers_decides xs ys =
    slice_eq-Decides (pair_decides (λ (a b : ℕ). a == b) int_eq Decides-eqb Decides-int_eq) xs ys (same_numbers xs ys) refl

same_bool_is : (a b : Bool) → same_bool a b ≡ true → a ≡ b
same_bool_is true b e = sym e
same_bool_is false true e = absurd (cc)
same_bool_is false false e = refl

pub repeated_terms : (r k : Row) → repeats r k ≡ true → k.terms ≡ r.terms
repeated_terms r k e =
    (same_numbers_decides k.terms r.terms).0 (second_so (int_eq k.constant r.constant && same_bool k.equal r.equal) _ e)

-- what repeats one that is repeated
pub repeated_on : (other r k : Row) → repeats other r ≡ true → repeats other k ≡ repeats r k
repeated_on other r k e =
    let first = first_so (int_eq r.constant other.constant && same_bool r.equal other.equal) _ e in
    let constant = (Decides-int_eq r.constant other.constant).0 (first_so (int_eq r.constant other.constant) _ first) in
    let equal = same_bool_is r.equal other.equal (second_so (int_eq r.constant other.constant) _ first) in
    let terms = repeated_terms other r e in
    λ i. int_eq k.constant (sym constant i) && same_bool k.equal (sym equal i) && same_numbers k.terms (sym terms i)

repeated_any : (other r : Row) → repeats other r ≡ true → (rows : List Row) → list_any (repeats other) rows ≡ list_any (repeats r) rows
repeated_any other r e [] = refl
repeated_any other r e (k ∷ rows) = λ i. repeated_on other r k e i || repeated_any other r e rows i

-- ---- one more relation

or_so : (a b : Bool) → (b ≡ true → a ≡ true) → a ≡ (a || b)
or_so true b h = refl
or_so false true h = h refl
or_so false false h = refl

module _ (rows : List Row) (r other : Row) (some : is_constant other ≡ false) where
  not_constant : is_constant r ≡ true → repeats other r ≡ true → list_any (repeats other) rows ≡ true
  not_constant c e =
      let same : is_constant r ≡ is_constant other = ap no_numbers (repeated_terms other r e) in
      absurd (cc)

  tells_by : (b c d e : Bool) → is_constant r ≡ b → list_any (repeats r) rows ≡ d
      → IfOk (if b then (if c then Err (Refuted r) else Ok rows)
      else (if d then Ok rows else (if e then Err Many else Ok (rows ++ r ∷ []))))
      (λ more. list_any (repeats other) more ≡ (list_any (repeats other) rows || repeats other r))
  tells_by true true d e constant told = tt
  tells_by true false d e constant told = or_so (list_any (repeats other) rows) (repeats other r) (not_constant constant)
  tells_by false c true e constant told =
      or_so (list_any (repeats other) rows) (repeats other r) (λ so. repeated_any other r so rows ∙ told)
  tells_by false c false true constant told = tt
  tells_by false c false false constant told =
      list_any-append (repeats other) rows (r ∷ []) ∙ ap (λ b. list_any (repeats other) rows || b) (or_nothing (repeats other r))
    where
      or_nothing : (b : Bool) → (b || false) ≡ b
      or_nothing true = refl
      or_nothing false = refl

  pub admitted_tells : (more : List Row) → admitted rows r ≡ Ok more
      → list_any (repeats other) more ≡ (list_any (repeats other) rows || repeats other r)
  admitted_tells more same =
      subst (λ o. IfOk o (λ more. list_any (repeats other) more ≡ (list_any (repeats other) rows || repeats other r))) same
      (tells_by (is_constant r) (is_false r) (list_any (repeats r) rows) (nat_le MOST_RELATIONS (length rows)) refl refl)

-- ---- behind an equation

pub has_as : (u : ℕ) (r k : Row) → repeats r k ≡ true → has u k ≡ has u r
has_as u r k e = ap (λ xs. has u (record k { terms = xs })) (repeated_terms r k e)

stays_so : (t p w b : Bool) → (p ≡ true → w ≡ true) → ((t || p) || (w && b)) ≡ (t || (w && (p || b)))
stays_so true p w b h = refl
stays_so false true w b h = sym (ap (λ w. w && (true || b)) (h refl))
stays_so false false w b h = refl

-- one without the unknown stays
pub kept_behind : {B : Type 0} (result : Result B Stop) (u : ℕ) (made kept more : List Row) (row : Row) → has u row ≡ false
    → Leaves tells result more (admitted kept row) → OnOk result (StillBehind u row made kept made more)
kept_behind (Err e) u made kept more row none h = tt
kept_behind (Ok x) u made kept more row none h = λ r before rest some told.
    ap (λ b. b || (is_without u r && list_any (repeats r) rest)) (admitted_tells kept row r some more h)
    ∙ (stays_so (list_any (repeats r) kept) (repeats r row) (is_without u r) (list_any (repeats r) rest)
    (λ so. ap not (sym (has_as u r row so) ∙ none)) ∙ told)

goes_so : (t p w b : Bool) → (p ≡ true → w ≡ false) → (t || (w && (p || b))) ≡ (t || (w && b))
goes_so t true true b h = absurd (let e = h refl in cc)
goes_so t true false b h = refl
goes_so t false w b h = refl

more_so : (x t t' m m' a b : Bool) → t' ≡ (t || x) → m' ≡ (m || x) → (t || a) ≡ (m || b) → (t' || a) ≡ (m' || b)
more_so x t t' m m' a b e f h = ap (λ y. y || a) e ∙ (by x t m h ∙ sym (ap (λ y. y || b) f))
  where
    by : (x t m : Bool) → (t || a) ≡ (m || b) → ((t || x) || a) ≡ ((m || x) || b)
    by true true true h = refl
    by true true false h = refl
    by true false true h = refl
    by true false false h = refl
    by false true true h = refl
    by false true false h = h
    by false false true h = h
    by false false false h = h

-- one with the unknown goes, and what is made of it may come
pub made_behind : (u : ℕ) (made kept made' kept' : List Row) (row : Row) → has u row ≡ true → GrowTogether made kept made' kept'
    → StillBehind u row made kept made' kept'
made_behind u made kept made' kept' row there grown r before rest some told =
    let both = grown r in
    more_so both.0 (list_any (repeats r) kept) (list_any (repeats r) kept') (list_any (repeats r) made) (list_any (repeats r) made')
    (is_without u r && list_any (repeats r) rest) (is_without u r && list_any (repeats r) before) both.2 both.1
    (sym (goes_so (list_any (repeats r) kept) (repeats r row) (is_without u r) (list_any (repeats r) rest)
    (λ so. ap not (sym (has_as u r row so) ∙ there))) ∙ told)

-- ---- over all relations

or_none : (a w : Bool) → (a || (w && false)) ≡ a
or_none true w = refl
or_none false true = refl
or_none false false = refl

pub ended_behind : (u : ℕ) (kept made rows : List Row) (r : Row) → told_behind u kept [] r ≡ told_behind u made rows r
    → told_behind u made rows r ≡ list_any (repeats r) kept
ended_behind u kept made rows r told = sym told ∙ or_none (list_any (repeats r) kept) (is_without u r)
