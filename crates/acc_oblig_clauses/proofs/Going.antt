-- Obligations that are added one part behind the other.
use Rattle.std.proofs.Common.{◌≡◌, ℕ, suc, ◌+◌, ◌-◌, ◌<◌, ◌≤◌, Bool, true, false, List, [], ◌∷◌, ◌++◌, map, length, drop, get_or, refl, ap}
use Rattle.std.proofs.Common.{sym, subst, ◌∙◌, append_assoc, arith}
use Rattle.std.specs.Prelude.{Some, None, Result, Ok, Err, IsErrAnd, if◌then◌else◌}
use Rattle.std.proofs.lemmas.Result.{err_from_is_err_and}
use Rattle.std.proofs.lemmas.List.{map-append, drop_all}
use Rattle.std.proofs.Math.Seq.{drop-cons}
use Rattle.acc_base.specs.declared.sequents.Origin.{Origin}
use Rattle.acc_base.specs.declared.sequents.Sequent.{Sequent}
use Rattle.acc_oblig_assumptions.specs.Drafts.{Draft, each_from, each_number}
use Rattle.acc_oblig_goals.specs.declared.errors.ObligError.{ObligError}
use Rattle.acc_oblig_goals.specs.declared.errors.ObligError.TheVariants.{Wide, Memory}
use Rattle.acc_oblig_goals.specs.Causes.{sequents, first_wide, Adds}
use Rattle.acc_oblig_assumptions.specs.DesignPlaces.{joined}

-- ---- the first obligation with a number that is too large, in a part or behind it

pub first_behind : (xs ys : List Draft) → first_wide xs ≡ None → first_wide (xs ++ ys) ≡ first_wide ys
first_behind [] ys h = refl
first_behind (x ∷ xs) ys h = by x.wide (first_behind xs ys) h
  where
    by :
        (b : Bool) → (first_wide xs ≡ None → first_wide (xs ++ ys) ≡ first_wide ys)
        → (if b then Some x.sequent.origin else first_wide xs) ≡ None
        → (if b then Some x.sequent.origin else first_wide (xs ++ ys)) ≡ first_wide ys
    by true ih h = cc
    by false ih h = ih h

pub first_within : (xs ys : List Draft) (o : Origin) → first_wide xs ≡ Some o → first_wide (xs ++ ys) ≡ Some o
first_within [] ys o h = cc
first_within (x ∷ xs) ys o h = by x.wide (first_within xs ys o) h
  where
    by :
        (b : Bool) → (first_wide xs ≡ Some o → first_wide (xs ++ ys) ≡ Some o)
        → (if b then Some x.sequent.origin else first_wide xs) ≡ Some o
        → (if b then Some x.sequent.origin else first_wide (xs ++ ys)) ≡ Some o
    by true ih h = h
    by false ih h = ih h

-- ---- a part is added

-- some of the obligations are added to the old ones, and these are left of all
pub record Going (old now : List Sequent) (rest all : List Draft) : Type 0 where
  pub out : now ++ sequents rest ≡ old ++ sequents all
  pub wide : first_wide rest ≡ first_wide all

pub going_all : (old : List Sequent) (all : List Draft) → Going old old all all
going_all old all = record { out = refl; wide = refl }

append_nil : (xs : List Sequent) → xs ≡ xs ++ []
append_nil [] = refl
append_nil (x ∷ xs) = ap (λ z. x ∷ z) (append_nil xs)

pub none_added : (old : List Sequent) → Adds (Ok tt) old old []
none_added old = (append_nil old, refl)

pub going_past :
    (old now : List Sequent) (left all : List Draft) → left ≡ [] → Going old now left all → Adds (Ok tt) old now all
going_past old now left all e g =
    (append_nil now ∙ (ap (λ z. now ++ sequents z) (sym e) ∙ g.out), sym g.wide ∙ ap first_wide e)

module _ (old now new : List Sequent) (part rest left all : List Draft) where
  -- the next part is added
  pub going_on : left ≡ part ++ rest → Going old now left all → Adds (Ok tt) now new part → Going old new rest all
  going_on e g a =
      let parts : sequents (part ++ rest) ≡ sequents part ++ sequents rest = map-append (λ (x : Draft). x.sequent) part rest in
      let out : now ++ sequents (part ++ rest) ≡ old ++ sequents all = subst (λ z. now ++ sequents z ≡ old ++ sequents all) e g.out in
      let wide : first_wide (part ++ rest) ≡ first_wide all = subst (λ z. first_wide z ≡ first_wide all) e g.wide in
      record {
        out =
            ap (λ z. z ++ sequents rest) a.0 ∙ (append_assoc now (sequents part) (sequents rest) ∙ (ap (λ z. now ++ z) (sym parts) ∙ out));
        wide = sym (first_behind part rest a.1) ∙ wide;
      }

  refused :
      (e : ObligError) (last : List Sequent) → left ≡ part ++ rest → Going old now left all → Adds (Err e) now new part
      → Adds (Err e) old last all
  refused (Wide o) last e g a = sym g.wide ∙ (ap first_wide e ∙ first_within part rest o a)
  refused Memory last e g a = tt

  -- or it can't be
  pub going_off :
      (r : Result (Unit {0}) ObligError) (e : ObligError) (last : List Sequent) → IsErrAnd r (λ y. y ≡ e) → left ≡ part ++ rest
      → Going old now left all → Adds (Err e) now new part → Adds r old last all
  going_off r e last h f g a =
      let p = err_from_is_err_and r h in
      let same : r ≡ Err e = p.1 ∙ ap Err p.2 in
      subst (λ (x : Result (Unit {0}) ObligError). Adds x old last all) (sym same) (refused e last f g a)

-- ---- walks

-- what is made of the item with a number comes first of what is left
module _ {S T : Type 0} (see : T → S) (make : S → List Draft) where
  pub joined_next :
      (xs : List T) (i : ℕ) (x : T) → i < length xs → x ≡ get_or xs i x
      → joined make (map see (drop i xs)) ≡ make (see x) ++ joined make (map see (drop (i + 1) xs))
  joined_next xs i x l e =
      let more : i + 1 ≡ suc i = omega arith in
      ap (λ (ys : List T). joined make (map see ys)) (drop-cons xs i x l)
      ∙ (ap (λ (y : T). make (see y) ++ joined make (map see (drop (suc i) xs))) (sym e)
      ∙ ap (λ n. make (see x) ++ joined make (map see (drop n xs))) (sym more))

  pub joined_past : (xs : List T) (i : ℕ) → length xs ≤ i → joined make (map see (drop i xs)) ≡ []
  joined_past xs i l = ap (λ (ys : List T). joined make (map see ys)) (drop_all i xs l)

module _ {T : Type 0} (make : ℕ → T → List Draft) where
  pub each_next :
      (xs : List T) (i : ℕ) (x : T) → i < length xs → x ≡ get_or xs i x
      → each_from i make (drop i xs) ≡ make i x ++ each_from (i + 1) make (drop (i + 1) xs)
  each_next xs i x l e =
      let more : i + 1 ≡ suc i = omega arith in
      ap (λ (ys : List T). each_from i make ys) (drop-cons xs i x l)
      ∙ (ap (λ (y : T). make i y ++ each_from (i + 1) make (drop (suc i) xs)) (sym e)
      ∙ ap (λ n. make i x ++ each_from (i + 1) make (drop n xs)) (sym more))

  pub each_past : (xs : List T) (i : ℕ) → length xs ≤ i → each_from i make (drop i xs) ≡ []
  each_past xs i l = ap (λ (ys : List T). each_from i make ys) (drop_all i xs l)

pub number_next :
    (make : ℕ → List Draft) (n i : ℕ) → i < n → each_number i (n - i) make ≡ make i ++ each_number (i + 1) (n - (i + 1)) make
number_next make n i l =
    let less : n - i ≡ suc (n - (i + 1)) = omega arith in
    ap (λ k. each_number i k make) less

pub number_past : (make : ℕ → List Draft) (n i : ℕ) → n ≤ i → each_number i (n - i) make ≡ []
number_past make n i l =
    let none : n - i ≡ 0 = omega arith in
    ap (λ k. each_number i k make) none
