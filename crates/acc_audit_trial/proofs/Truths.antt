-- What is known of a linear value, a form or a relation is what it is; and what a trial tells of a clause.
use Rattle.std.proofs.Common.{◌≡◌, ℕ, Bool, true, false, ◌&&◌, List, [], ◌∷◌, All, Option, Some, None, refl, ap, sym, ◌∙◌, ℤ, pos, map, subst}
use Rattle.std.proofs.Common.{◌+ℤ◌, ◌*ℤ◌, arith, is_some}
use Rattle.std.specs.Prelude.{option_and_then, option_map, if◌then◌else◌, IsTrue, IsFalse}
use Rattle.std.specs.List.{list_all}
use Rattle.std.proofs.lemmas.Bool.{false≢true}
use Rattle.std.proofs.lemmas.Int.{ints}
use Rattle.std.proofs.lemmas.Option.{none-some, same_Some}
use Rattle.acc_base.specs.declared.tables.Row.{Row}
use Rattle.acc_base.specs.declared.forms.Lin.{Lin}
use Rattle.acc_base.specs.declared.forms.Form.{Form}
use Rattle.acc_base.specs.declared.forms.Rel.{Rel}
use Rattle.acc_base.specs.declared.forms.Clause.{Clause}
use Rattle.acc_base.specs.Atoms.{key_of}
use Rattle.acc_base.specs.Bounded.{is_wide}
use Rattle.acc_base.specs.Numbers.{total}
use Rattle.acc_base.specs.Linear.{term_value, lin_value, meets}
use Rattle.acc_base.specs.Sums.{Term}
use Rattle.acc_base.specs.Truth.{unknown_value, product_value, form_value, rel_true}
use Rattle.acc_audit_trial.specs.declared.trials.Trial.{Trial}
use Rattle.acc_audit_trial.specs.declared.trials.Trial.TheVariants as trial
use Rattle.acc_audit_trial.specs.Worths.{near, near_term, plus_near, summed, with_constant, lin_worth, is_near, unknown_worth, times_near}
use Rattle.acc_audit_trial.specs.Worths.{term_worth, form_worth, rel_worth}
use Rattle.acc_audit_trial.specs.Trials.{and_met, all_met, told_by, trial_of, FailsAt, HoldsAt, TellsTruth}

near_is : (x v : ℤ) → near x ≡ Some v → v ≡ x
near_is x v = by (is_wide x)
  where
    by : (b : Bool) → (if b then None else Some x) ≡ Some v → v ≡ x
    by true e = absurd (none-some v e)
    by false e = sym (same_Some x v e)

-- a sum of summands that are what they are said to be
module _ {X : Type 0} (f : X → Option ℤ) (g : X → ℤ) (is : (x : X) (v : ℤ) → f x ≡ Some v → v ≡ g x) where
  on : (s a n v rest : ℤ) → n ≡ s +ℤ a → v ≡ n +ℤ rest → v ≡ s +ℤ (a +ℤ rest)
  on s a n v rest k m = omega (arith, ints, k, m)

  along : (xs : List X) (s a v : ℤ) → ((n : ℤ) → summed n (map f xs) ≡ Some v → v ≡ n +ℤ total (map g xs)) → (o : Option ℤ)
      → near (s +ℤ a) ≡ o → option_and_then (λ n. summed n (map f xs)) o ≡ Some v → v ≡ s +ℤ (a +ℤ total (map g xs))
  along xs s a v ih None k m = absurd (none-some v m)
  along xs s a v ih (Some n) k m = on s a n v (total (map g xs)) (near_is (s +ℤ a) n k) (ih n m)

  by_first : (x : X) (xs : List X) (s v : ℤ) → ((n : ℤ) → summed n (map f xs) ≡ Some v → v ≡ n +ℤ total (map g xs)) → (o : Option ℤ)
      → f x ≡ o → option_and_then (λ n. summed n (map f xs)) (plus_near s o) ≡ Some v → v ≡ s +ℤ (g x +ℤ total (map g xs))
  by_first x xs s v ih None k m = absurd (none-some v m)
  by_first x xs s v ih (Some a) k m =
      along xs s a v ih (near (s +ℤ a)) refl m ∙ ap (λ z. s +ℤ (z +ℤ total (map g xs))) (is x a k)

  summed_is : (xs : List X) (s v : ℤ) → summed s (map f xs) ≡ Some v → v ≡ s +ℤ total (map g xs)
  summed_is [] s v e = let h = same_Some s v e in omega (arith, ints, h)
  summed_is (x ∷ xs) s v e = by_first x xs s v (λ n k. summed_is xs n v k) (f x) refl e

  pub whole_is : (xs : List X) (n v : ℤ) → with_constant n (summed (pos 0) (map f xs)) ≡ Some v → v ≡ total (map g xs) +ℤ n
  whole_is xs n v = by (summed (pos 0) (map f xs)) refl
    where
      by : (o : Option ℤ) → summed (pos 0) (map f xs) ≡ o → with_constant n o ≡ Some v → v ≡ total (map g xs) +ℤ n
      by None k e = absurd (none-some v e)
      by (Some s) k e =
          let a = summed_is xs (pos 0) s k in
          let b = near_is (s +ℤ n) v e in
          omega (arith, ints, a, b)

pub lin_is : (env : List ℤ) (l : Lin) (v : ℤ) → lin_worth env l ≡ Some v → v ≡ lin_value env l
lin_is env l v e = whole_is (near_term env) (term_value env) (λ t w k. near_is (term_value env t) w k) l.coeffs l.constant v e

module _ (db : List Row) (env : List ℤ) where
  unknown_is : (t : Term) (v : ℤ) → unknown_worth db env t.0 ≡ Some v → v ≡ unknown_value db env t.0
  unknown_is t v = by (list_all (is_near env) (key_of t.0.atom))
    where
      by : (b : Bool) → (if b then Some (unknown_value db env t.0) else None) ≡ Some v → v ≡ unknown_value db env t.0
      by true e = sym (same_Some (unknown_value db env t.0) v e)
      by false e = absurd (none-some v e)

  term_is : (t : Term) (v : ℤ) → term_worth db env t ≡ Some v → v ≡ product_value db env t
  term_is t v = by (unknown_worth db env t.0) refl
    where
      by : (o : Option ℤ) → unknown_worth db env t.0 ≡ o → times_near t.1 o ≡ Some v → v ≡ product_value db env t
      by None k e = absurd (none-some v e)
      by (Some w) k e = near_is (t.1 *ℤ w) v e ∙ ap (λ z. t.1 *ℤ z) (unknown_is t w k)

  pub form_is : (f : Form) (v : ℤ) → form_worth db env f ≡ Some v → v ≡ form_value db env f
  form_is f v e = whole_is (term_worth db env) (product_value db env) term_is f.terms f.constant v e

  pub rel_is : (r : Rel) (b : Bool) → rel_worth db env r ≡ Some b → rel_true db env r ≡ b
  rel_is r b = by (form_worth db env r.form) refl
    where
      by : (o : Option ℤ) → form_worth db env r.form ≡ o → option_map (meets r.equal) o ≡ Some b → rel_true db env r ≡ b
      by None k e = absurd (none-some b e)
      by (Some v) k e =
          ap (meets r.equal) (sym (form_is r.form v k)) ∙ same_Some (meets r.equal v) b e

  pub guards_are : (gs : List Rel) (b : Bool) → all_met db env gs ≡ Some b → list_all (rel_true db env) gs ≡ b
  guards_are [] b = λ e. same_Some true b e
  guards_are (g ∷ gs) b = by (rel_worth db env g) refl (guards_are gs b)
    where
      by : (o : Option Bool) → rel_worth db env g ≡ o → (all_met db env gs ≡ Some b → list_all (rel_true db env) gs ≡ b)
          → and_met o (all_met db env gs) ≡ Some b → (rel_true db env g && list_all (rel_true db env) gs) ≡ b
      by None k ih e = absurd (none-some b e)
      by (Some false) k ih e = ap (λ z. z && list_all (rel_true db env) gs) (rel_is g false k) ∙ same_Some false b e
      by (Some true) k ih e = ap (λ z. z && list_all (rel_true db env) gs) (rel_is g true k) ∙ ih e

  pub trial_tells : (c : Clause) → TellsTruth db env c (trial_of db env c)
  trial_tells c = by (all_met db env c.guards) refl (rel_worth db env c.rel) refl
    where
      by : (g : Option Bool) → all_met db env c.guards ≡ g → (r : Option Bool) → rel_worth db env c.rel ≡ r
          → TellsTruth db env c (told_by g r)
      by None e r k = tt
      by (Some false) e r k = λ h. absurd (false≢true (sym (guards_are c.guards false e) ∙ h))
      by (Some true) e None k = tt
      by (Some true) e (Some false) k = record { guards = guards_are c.guards true e; rel = rel_is c.rel false k }
      by (Some true) e (Some true) k = λ h. rel_is c.rel true k

-- the same of an answer
pub answer_tells : (db : List Row) (env : List ℤ) (c : Clause) (r : Trial) → r ≡ trial_of db env c → TellsTruth db env c r
answer_tells db env c r is = subst (TellsTruth db env c) (sym is) (trial_tells db env c)
