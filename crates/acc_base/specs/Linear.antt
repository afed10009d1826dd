-- Linear values of a transaction's variables, and relations between them.
use Rattle.std.specs.Prelude.{ℕ, Bool, if◌then◌else◌, List, [], ◌∷◌, ◌++◌, map, slice_index_or, ℤ, pos, ◌+ℤ◌, ◌*ℤ◌, int_le}
use Rattle.std.specs.Ordering.{int_eq}
use Rattle.acc_base.specs.declared.forms.Lin.{Lin}
use Rattle.acc_base.specs.declared.forms.LinRel.{LinRel}
use Rattle.acc_base.specs.Numbers.{total}

-- the values of a transaction's variables: its locals, and then its number, which `self` stands for
abbrev pub variables : ℕ → List ℤ → List ℤ
variables t locals = locals ++ pos t ∷ []

-- the value of variable x
abbrev pub var : List ℤ → ℕ → ℤ
var env x = slice_index_or env x (pos 0)

-- a coefficient times its variable
abbrev pub term_value : List ℤ → ℕ × ℤ → ℤ
term_value env term = term.1 *ℤ var env term.0

-- the value of a linear value: the sum of its terms, and its constant
abbrev pub lin_value : List ℤ → Lin → ℤ
lin_value env l = total (map (term_value env) l.coeffs) +ℤ l.constant

abbrev pub lin_values : List ℤ → List Lin → List ℤ
lin_values env ls = map (lin_value env) ls

-- a value is 0, or it is at most 0
abbrev pub meets : Bool → ℤ → Bool
meets equal v = if equal then int_eq v (pos 0) else int_le v (pos 0)

-- whether a relation of linear values is true
abbrev pub lin_rel_true : List ℤ → LinRel → Bool
lin_rel_true env r = meets r.equal (lin_value env r.lin)
