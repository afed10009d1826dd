-- The numbers of unknowns: each unknown of the relations has one, and different ones have different numbers.
use Rattle.std.proofs.Common.{◌≡◌, ℕ, ◌<◌, ◌≤◌, Bool, true, false, cond, List, [], ◌∷◌, ◌++◌, length, get_or, Option, Some, None, refl, sym}
use Rattle.std.proofs.Common.{ap, ◌∙◌, arith, ℤ, if◌then◌else◌, nat_lt}
use Rattle.std.specs.Prelude.{All}
use Rattle.std.specs.Option.{is_some, unwrap_or}
use Rattle.std.specs.List.{fold, position_or_len}
use Rattle.std.proofs.Math.ListN.{get_or-append}
use Rattle.std.proofs.Math.Seq.{get_or-append_seam}
use Rattle.std.proofs.lemmas.Bool.Decides.{nat_tests}
use Rattle.std.proofs.lemmas.List.{length-append}
use Rattle.std.proofs.lemmas.List.Sums.{fails_before_first}
use Rattle.std.proofs.lemmas.List.Quantifiers.{position-Some}
use Rattle.std.proofs.lemmas.List.Elements.{All-nil, All-cons, All-head, All-tail}
use Rattle.acc_base.specs.declared.forms.Unknown.{Unknown}
use Rattle.acc_base.specs.declared.forms.Rel.{Rel}
use Rattle.acc_base.specs.UnknownEquality.{unknown_eq, unknown_decides, is_bare_one}
use Rattle.acc_elim_readings.specs.Readings.{place_of, with_name, with_term, with_rel, unknowns_of}

-- an unknown stands among others
abbrev pub Stands : Unknown → List Unknown → Type 0
Stands u us = (i : ℕ) × (i < length us) × ((d : Unknown) → get_or us i d ≡ u)

pub stands_push : (u v : Unknown) (us : List Unknown) → Stands u us → Stands u (us ++ v ∷ [])
stands_push u v us (i, l, h) = let e = length-append us (v ∷ []) in (i, omega (arith, l, e), λ d. get_or-append us (v ∷ []) d i l ∙ h d)

stands_last : (v : Unknown) (us : List Unknown) → Stands v (us ++ v ∷ [])
stands_last v us = let e = length-append us (v ∷ []) in (length us, omega (arith, e), λ d. get_or-append_seam us v [] d)

-- ---- its place

found_by : (us : List Unknown) (u : Unknown) (o : Option ℕ) → place_of us u ≡ o → is_some o ≡ true → Stands u us
found_by us u None e h = absurd (cc)
found_by us u (Some i) e h =
    let q = position-Some (λ v. unknown_eq v u) us i u e in
    (i, q.0, λ d. (unknown_decides (get_or us i d) u).0 ((position-Some (λ v. unknown_eq v u) us i d e).1))

place_by : (us : List Unknown) (u : Unknown) (i : ℕ) → i < length us → unknown_eq (get_or us i u) u ≡ true → (b : Bool)
    → nat_lt (position_or_len (λ v. unknown_eq v u) us) (length us) ≡ b
    → (k : ℕ) × (cond b (Some (position_or_len (λ v. unknown_eq v u) us)) None ≡ Some k)
place_by us u i l h true e = (position_or_len (λ v. unknown_eq v u) us, refl)
place_by us u i l h false e =
    let past : length us ≤ position_or_len (λ v. unknown_eq v u) us = grind (arith, nat_tests) in
    let not = fails_before_first (λ v. unknown_eq v u) us i u (omega (arith, past, l)) in
    absurd (cc)

pub placed : (us : List Unknown) (u : Unknown) → Stands u us → (k : ℕ) × (place_of us u ≡ Some k)
placed us u (i, l, h) =
    place_by us u i l ((unknown_decides (get_or us i u) u).1 (h u)) (nat_lt (position_or_len (λ v. unknown_eq v u) us) (length us)) refl

-- the number of an unknown that stands among others
abbrev pub number_in : List Unknown → Unknown → ℕ
number_in us u = unwrap_or (place_of us u) 0

pub numbered_place : (us : List Unknown) (u : Unknown) → Stands u us → place_of us u ≡ Some (number_in us u)
numbered_place us u s = let p = placed us u s in p.1 ∙ ap (λ o. Some (unwrap_or o 0)) (sym p.1)

-- at its number stands the unknown
at_number : (us : List Unknown) (u d : Unknown) → Stands u us → get_or us (number_in us u) d ≡ u
at_number us u d s =
    let p = placed us u s in
    let q = position-Some (λ v. unknown_eq v u) us p.0 d p.1 in
    ap (λ o. get_or us (unwrap_or o 0) d) p.1 ∙ (unknown_decides (get_or us p.0 d) u).0 q.1

pub numbers_tell_apart : (us : List Unknown) (u w : Unknown) → Stands u us → Stands w us → number_in us u ≡ number_in us w → u ≡ w
numbers_tell_apart us u w s t e = sym (at_number us u u s) ∙ (ap (λ n. get_or us n u) e ∙ at_number us w u t)

-- ---- the unknowns of relations

name_by : (us : List Unknown) (u : Unknown) (b : Bool) → is_some (place_of us u) ≡ b → Stands u (if b then us else us ++ u ∷ [])
name_by us u true e = found_by us u (place_of us u) refl e
name_by us u false e = stands_last u us

name_new : (us : List Unknown) (u : Unknown) → Stands u (with_name us u)
name_new us u = name_by us u (is_some (place_of us u)) refl

name_old_by : (us : List Unknown) (u v : Unknown) (b : Bool) → Stands v us → Stands v (if b then us else us ++ u ∷ [])
name_old_by us u v true s = s
name_old_by us u v false s = stands_push v u us s

name_old : (us : List Unknown) (u v : Unknown) → Stands v us → Stands v (with_name us u)
name_old us u v s = name_old_by us u v (is_some (place_of us u)) s

term_old : (us : List Unknown) (t : Unknown × ℤ) (v : Unknown) → Stands v us → Stands v (with_term us t)
term_old us t v s = by (is_bare_one t.0)
  where
    by : (b : Bool) → Stands v (if b then us else with_name us t.0)
    by true = s
    by false = name_old us t.0 v s

term_new : (us : List Unknown) (t : Unknown × ℤ) → is_bare_one t.0 ≡ false → Stands t.0 (with_term us t)
term_new us t e = by (is_bare_one t.0) e
  where
    by : (b : Bool) → b ≡ false → Stands t.0 (if b then us else with_name us t.0)
    by true e = absurd (cc)
    by false e = name_new us t.0

-- an unknown that isn't the number 1 stands among others
abbrev pub Named : List Unknown → Unknown × ℤ → Type 0
Named us t = is_bare_one t.0 ≡ false → Stands t.0 us

pub terms_old : (ts : List (Unknown × ℤ)) (us : List Unknown) (v : Unknown) → Stands v us → Stands v (fold with_term us ts)
terms_old [] us v s = s
terms_old (t ∷ ts) us v s = terms_old ts (with_term us t) v (term_old us t v s)

pub terms_new : (ts : List (Unknown × ℤ)) (us : List Unknown) → All (Named (fold with_term us ts)) ts
terms_new [] us = All-nil (Named us)
terms_new (t ∷ ts) us =
    All-cons (Named (fold with_term (with_term us t) ts)) t ts (λ e. terms_old ts (with_term us t) t.0 (term_new us t e))
    (terms_new ts (with_term us t))

pub rels_old : (rs : List Rel) (us : List Unknown) (v : Unknown) → Stands v us → Stands v (fold with_rel us rs)
rels_old [] us v s = s
rels_old (r ∷ rs) us v s = rels_old rs (with_rel us r) v (terms_old r.form.terms us v s)

all_old : (rs : List Rel) (us : List Unknown) (ts : List (Unknown × ℤ)) → All (Named us) ts → All (Named (fold with_rel us rs)) ts
all_old rs us [] all = All-nil (Named (fold with_rel us rs))
all_old rs us (t ∷ ts) all =
    All-cons (Named (fold with_rel us rs)) t ts (λ e. rels_old rs us t.0 (All-head (Named us) t ts all e))
    (all_old rs us ts (All-tail (Named us) t ts all))

rels_new : (rs : List Rel) (us : List Unknown) → All (λ r. All (Named (fold with_rel us rs)) r.form.terms) rs
rels_new [] us = All-nil (λ r. All (Named us) r.form.terms)
rels_new (r ∷ rs) us =
    All-cons (λ q. All (Named (fold with_rel (with_rel us r) rs)) q.form.terms) r rs
    (all_old rs (with_rel us r) r.form.terms (terms_new r.form.terms us)) (rels_new rs (with_rel us r))

-- each unknown of the relations stands among them
pub unknowns_stand : (rels : List Rel) → All (λ r. All (Named (unknowns_of rels)) r.form.terms) rels
unknowns_stand rels = rels_new rels []

-- and each place is below their count
pub place_below : (us : List Unknown) (u : Unknown) (k : ℕ) → place_of us u ≡ Some k → k < length us
place_below us u k e = (position-Some (λ v. unknown_eq v u) us k u e).0
