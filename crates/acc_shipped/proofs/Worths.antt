-- What the truth of a clause says of its amounts.
use Rattle.std.proofs.Common.{◌≡◌, ℕ, zero, suc, Bool, true, false, List, [], ◌∷◌, ◌++◌, length, map, refl, ap, sym, ◌∙◌, subst, arith}
use Rattle.std.proofs.Common.{ℤ, pos, negsuc}
use Rattle.std.proofs.Common.{neg_ℤ, ◌+ℤ◌, ◌-ℤ◌, ◌*ℤ◌, ◌≤ℤ◌}
use Rattle.std.specs.Prelude.{int_le, ◌&&◌}
use Rattle.std.specs.List.{list_all}
use Rattle.std.specs.Ordering.{int_eq}
use Rattle.std.proofs.lemmas.Int.{ints}
use Rattle.std.proofs.lemmas.Bool.Decides.{Decides-int_eq, nat_tests}
use lib.IntN.{*ℤ_comm, *ℤ-one, zero-*ℤ, pred_ℤ-*ℤ, one}
use Rattle.acc_base.specs.declared.tables.Row.{Row}
use Rattle.acc_base.specs.declared.forms.Lin.{Lin}
use Rattle.acc_base.specs.declared.forms.Clause.{Clause}
use Rattle.acc_base.specs.Numbers.{total}
use Rattle.acc_base.specs.Tables.{has_row, column_of, count_of, sum_of}
use Rattle.acc_base.specs.Linear.{var, lin_value, lin_values, meets}
use Rattle.acc_base.specs.Truth.{atom_value, form_value, rel_true, product_value, ClauseTrue}
use Rattle.acc_shipped.specs.Amounts.{Amount, Var, Has, Col, Count, Sum, Share, Relation, Assertion, variable, key, atom_of, unknown_of}
use Rattle.acc_shipped.specs.Amounts.{rel_of, clause_of}

times_one : (x : ℤ) → x *ℤ pos 1 ≡ x
unfolding one
times_one x = *ℤ-one x

one_times : (x : ℤ) → pos 1 *ℤ x ≡ x
one_times x = *ℤ_comm (pos 1) x ∙ times_one x

minus_times : (x : ℤ) → negsuc 0 *ℤ x ≡ neg_ℤ x
minus_times x =
    let e : negsuc 0 *ℤ x ≡ pos 0 *ℤ x -ℤ x = pred_ℤ-*ℤ (pos 0) x in
    let z = zero-*ℤ x in
    e ∙ omega (arith, ints, z)

-- a number times another, without the product where it is 1 or -1
abbrev pub often : ℤ → ℤ → ℤ
often (pos zero) x = pos zero *ℤ x
often (pos (suc zero)) x = x
often (pos (suc (suc n))) x = pos (suc (suc n)) *ℤ x
often (negsuc zero) x = neg_ℤ x
often (negsuc (suc n)) x = negsuc (suc n) *ℤ x

often_is : (n x : ℤ) → n *ℤ x ≡ often n x
often_is (pos zero) x = refl
often_is (pos (suc zero)) x = one_times x
often_is (pos (suc (suc n))) x = refl
often_is (negsuc zero) x = minus_times x
often_is (negsuc (suc n)) x = refl

abbrev pub amount : List Row → List ℤ → Amount → ℤ
amount db env (Var x) = var env x
amount db env (Has t xs) = has_row db t (map (var env) xs)
amount db env (Col t xs c) = column_of db t (map (var env) xs) c
amount db env (Count t xs) = count_of db t (map (var env) xs)
amount db env (Sum t xs c) = sum_of db t (map (var env) xs) c

abbrev pub together : List Row → List ℤ → List Share → ℤ
together db env [] = pos 0
together db env (s ∷ ss) = often s.by (amount db env s.of) +ℤ together db env ss

abbrev pub Meets : Bool → ℤ → Type 0
Meets true v = v ≡ pos 0
Meets false v = v ≤ℤ pos 0

abbrev pub RelTrue : List Row → List ℤ → Relation → Type 0
RelTrue db env r = Meets r.equal (together db env r.shares +ℤ r.constant)

abbrev pub AllTrue : List Row → List ℤ → List Relation → Type 0
AllTrue db env [] = Unit {0}
AllTrue db env (r ∷ rs) = RelTrue db env r × AllTrue db env rs

lone : (v : ℤ) → (pos 1 *ℤ v +ℤ pos 0) +ℤ pos 0 ≡ v
lone v = let e = one_times v in omega (arith, ints, e)

keys_are : (env : List ℤ) (xs : List ℕ) → lin_values env (key xs) ≡ map (var env) xs
keys_are env [] = refl
keys_are env (x ∷ xs) = λ i. lone (var env x) i ∷ keys_are env xs i

amount_is : (db : List Row) (env : List ℤ) (a : Amount) → atom_value db env (atom_of a) ≡ amount db env a
amount_is db env (Var x) = refl
amount_is db env (Has t xs) = ap (has_row db t) (keys_are env xs)
amount_is db env (Col t xs c) = ap (λ k. column_of db t k c) (keys_are env xs)
amount_is db env (Count t xs) = ap (count_of db t) (keys_are env xs)
amount_is db env (Sum t xs c) = ap (λ k. sum_of db t k c) (keys_are env xs)

share_is : (db : List Row) (env : List ℤ) (s : Share) → product_value db env (unknown_of s.of, s.by) ≡ often s.by (amount db env s.of)
share_is db env s = often_is s.by (atom_value db env (atom_of s.of)) ∙ ap (often s.by) (amount_is db env s.of)

shares_are : (db : List Row) (env : List ℤ) (ss : List Share)
    → total (map (product_value db env) (map (λ (s : Share). (unknown_of s.of, s.by)) ss)) ≡ together db env ss
shares_are db env [] = refl
shares_are db env (s ∷ ss) = λ i. share_is db env s i +ℤ shares_are db env ss i

worth_is : (db : List Row) (env : List ℤ) (r : Relation) → form_value db env (rel_of r).form ≡ together db env r.shares +ℤ r.constant
worth_is db env r = ap (λ v. v +ℤ r.constant) (shares_are db env r.shares)

int_le_true : (x y : ℤ) → x ≤ℤ y → int_le x y ≡ true
int_le_true x y h = grind (arith, ints, nat_tests)

int_le_holds : (x y : ℤ) → int_le x y ≡ true → x ≤ℤ y
int_le_holds x y h = grind (arith, ints, nat_tests)

met : (equal : Bool) (v : ℤ) → Meets equal v → meets equal v ≡ true
met true v h = (Decides-int_eq v (pos 0)).1 h
met false v h = int_le_true v (pos 0) h

meant : (equal : Bool) (v : ℤ) → meets equal v ≡ true → Meets equal v
meant true v h = (Decides-int_eq v (pos 0)).0 h
meant false v h = int_le_holds v (pos 0) h

rel_met : (db : List Row) (env : List ℤ) (r : Relation) → RelTrue db env r → rel_true db env (rel_of r) ≡ true
rel_met db env r h = ap (meets r.equal) (worth_is db env r) ∙ met r.equal (together db env r.shares +ℤ r.constant) h

rel_meant : (db : List Row) (env : List ℤ) (r : Relation) → rel_true db env (rel_of r) ≡ true → RelTrue db env r
rel_meant db env r h =
    meant r.equal (together db env r.shares +ℤ r.constant) (ap (meets r.equal) (sym (worth_is db env r)) ∙ h)

all_met : (db : List Row) (env : List ℤ) (rs : List Relation) → AllTrue db env rs → list_all (rel_true db env) (map rel_of rs) ≡ true
all_met db env [] h = refl
all_met db env (r ∷ rs) h = ap (λ b. b && list_all (rel_true db env) (map rel_of rs)) (rel_met db env r h.0) ∙ all_met db env rs h.1

-- a clause that is true, at values for its variables for which its guards are
pub says : (db : List Row) (a : Assertion) (own : List ℤ) → ClauseTrue db [] (clause_of a) → length own ≡ length a.vars
    → AllTrue db own a.guards → RelTrue db own a.rel
says db a own h long guards = rel_meant db own a.rel (h own long (all_met db own a.guards guards))
