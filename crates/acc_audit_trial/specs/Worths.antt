-- What linear values, unknowns and forms are worth, where no number on the way lies beyond 2^120 on either side of 0: no product, and
-- no sum as the terms are added from the first on, the constant last.
use Rattle.std.specs.Prelude.{ℕ, Bool, List, [], ◌∷◌, map, Option, Some, None, is_some, option_and_then, option_map, if◌then◌else◌, ℤ, pos}
use Rattle.std.specs.Prelude.{◌+ℤ◌, ◌*ℤ◌}
use Rattle.std.specs.List.{list_all}
use Rattle.acc_base.specs.declared.tables.Row.{Row}
use Rattle.acc_base.specs.declared.forms.Lin.{Lin}
use Rattle.acc_base.specs.declared.forms.Unknown.{Unknown}
use Rattle.acc_base.specs.declared.forms.Form.{Form}
use Rattle.acc_base.specs.declared.forms.Rel.{Rel}
use Rattle.acc_base.specs.Atoms.{key_of}
use Rattle.acc_base.specs.Bounded.{is_wide}
use Rattle.acc_base.specs.Linear.{term_value, lin_value, meets}
use Rattle.acc_base.specs.Sums.{Term}
use Rattle.acc_base.specs.Truth.{unknown_value}

-- a number, and none where it lies beyond 2^120
abbrev pub near : ℤ → Option ℤ
near x = if is_wide x then None else Some x

-- a sum and one more summand, if that is known
abbrev pub plus_near : ℤ → Option ℤ → Option ℤ
plus_near s None = None
plus_near s (Some x) = near (s +ℤ x)

-- summands, one after the other onto a sum
abbrev pub summed : ℤ → List (Option ℤ) → Option ℤ
summed s [] = Some s
summed s (x ∷ xs) = option_and_then (λ n. summed n xs) (plus_near s x)

-- a sum, and a constant last
abbrev pub with_constant : ℤ → Option ℤ → Option ℤ
with_constant n None = None
with_constant n (Some s) = near (s +ℤ n)

-- ---- linear values

-- a coefficient times its variable
abbrev pub near_term : List ℤ → ℕ × ℤ → Option ℤ
near_term env t = near (term_value env t)

abbrev pub lin_worth : List ℤ → Lin → Option ℤ
lin_worth env l = with_constant l.constant (summed (pos 0) (map (near_term env) l.coeffs))

-- whether no number on the way to a linear value lies beyond 2^120
abbrev pub is_near : List ℤ → Lin → Bool
is_near env l = is_some (lin_worth env l)

-- ---- forms

-- an unknown, if the components of its key are known
abbrev pub unknown_worth : List Row → List ℤ → Unknown → Option ℤ
unknown_worth db env u = if list_all (is_near env) (key_of u.atom) then Some (unknown_value db env u) else None

-- a coefficient times a number, if that is known
abbrev pub times_near : ℤ → Option ℤ → Option ℤ
times_near n None = None
times_near n (Some v) = near (n *ℤ v)

abbrev pub term_worth : List Row → List ℤ → Term → Option ℤ
term_worth db env t = times_near t.1 (unknown_worth db env t.0)

abbrev pub form_worth : List Row → List ℤ → Form → Option ℤ
form_worth db env f = with_constant f.constant (summed (pos 0) (map (term_worth db env) f.terms))

-- whether a relation is true, if its form is known
abbrev pub rel_worth : List Row → List ℤ → Rel → Option Bool
rel_worth db env r = option_map (meets r.equal) (form_worth db env r.form)
