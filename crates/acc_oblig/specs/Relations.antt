-- The relations and hypotheses of a sequent, one by one.
use Rattle.std.specs.Prelude.{ℕ, if◌then◌else◌, List, [], ◌∷◌, ◌++◌, map, codes, ℤ, pos, negsuc, neg_ℤ, ◌+ℤ◌}
use Rattle.acc_base.specs.declared.bounds.TheConstants.{LARGEST_NUMBER}
use Rattle.acc_base.specs.declared.forms.Lin.{Lin}
use Rattle.acc_base.specs.declared.forms.LinRel.{LinRel}
use Rattle.acc_base.specs.declared.forms.Atom.{Atom}
use Rattle.acc_base.specs.declared.forms.Atom.TheVariants as atom
use Rattle.acc_base.specs.declared.forms.Form.{Form}
use Rattle.acc_base.specs.declared.forms.Rel.{Rel}
use Rattle.acc_base.specs.declared.forms.Clause.{Clause}
use Rattle.acc_base.specs.declared.steps.Read.{Read}
use Rattle.acc_base.specs.declared.steps.Read.TheVariants.{Let, Col, Has, Count, Sum, Least, Greatest, Take, Mul, Div}
use Rattle.acc_base.specs.Sums.{Term}
use Rattle.acc_base.specs.Forms.{form, at_most, is_zero}
use Rattle.acc_oblig.specs.declared.naming.Naming.{Naming}
use Rattle.acc_oblig.specs.Naming.{named, named_lin, named_lins}

-- ---- forms

-- a coefficient times an atom without condition
abbrev pub times : ℤ → Atom → Term
times m a = (record { under = []; atom = a }, m)

abbrev pub variable : ℤ → ℕ → Term
variable m x = times m (atom.Var x)

abbrev pub coefficient_term : ℕ × ℤ → Term
coefficient_term c = variable c.1 c.0

-- a linear value
abbrev pub lin_form : Lin → Form
lin_form l = form (map coefficient_term l.coeffs) l.constant

abbrev pub negated_term : Term → Term
negated_term t = (t.0, neg_ℤ t.1)

abbrev pub negated : Form → Form
negated f = form (map negated_term f.terms) (neg_ℤ f.constant)

-- a number added
abbrev pub plus_number : Form → ℤ → Form
plus_number f n = record f { constant = f.constant +ℤ n }

-- ---- bounds

abbrev pub bound : ℤ
bound = pos LARGEST_NUMBER

-- a variable is at most the largest number, and at least minus that
abbrev pub is_at_most_bound : ℕ → Rel
is_at_most_bound x = at_most (form (variable (pos 1) x ∷ []) (neg_ℤ bound))

abbrev pub is_at_least_minus_bound : ℕ → Rel
is_at_least_minus_bound x = at_most (form (variable (negsuc 0) x ∷ []) (neg_ℤ bound))

abbrev pub is_number : ℕ → Rel
is_number x = at_most (form (variable (negsuc 0) x ∷ []) (pos 1))

abbrev pub is_nothing : ℕ → Rel
is_nothing x = is_zero (form (variable (pos 1) x ∷ []) (pos 0))

-- a value within the range, on both sides
abbrev pub value_bounds : ℕ → List Rel
value_bounds x = is_at_most_bound x ∷ is_at_least_minus_bound x ∷ []

abbrev pub number_bounds : ℕ → List Rel
number_bounds x = is_at_most_bound x ∷ is_number x ∷ []

-- ---- reads

-- the variable is the atom's value
abbrev pub is_value : ℕ → Atom → Rel
is_value x a = is_zero (form (variable (pos 1) x ∷ times (negsuc 0) a ∷ []) (pos 0))

-- the variable is a linear value
abbrev pub is_lin : ℕ → Lin → Rel
is_lin x l = is_zero (form (variable (pos 1) x ∷ map negated_term (map coefficient_term l.coeffs)) (neg_ℤ l.constant))

-- c times the variable is at most y, and y is at most that and c - 1
abbrev pub is_quotient : ℕ → ℕ → ℤ → List Rel
is_quotient x y c =
    at_most (form (variable c x ∷ variable (negsuc 0) y ∷ []) (pos 0))
    ∷ at_most (form (variable (pos 1) y ∷ variable (neg_ℤ c) x ∷ []) (pos 1 +ℤ neg_ℤ c)) ∷ []

-- what a read makes true of its variable x
abbrev pub read_rels : Naming → ℕ → Read → List Rel
read_rels n x (Let y l) = is_lin x (named_lin n l) ∷ []
read_rels n x (Col y t k c) = is_value x (atom.Col t (named_lins n k) c) ∷ []
read_rels n x (Has y t k) = is_value x (atom.Has t (named_lins n k)) ∷ []
read_rels n x (Count y t p) = is_value x (atom.Count t (named_lins n p)) ∷ []
read_rels n x (Sum y t p c) = is_value x (atom.Sum t (named_lins n p) c) ∷ []
read_rels n x (Least y t p) = []
read_rels n x (Greatest y t p) = []
read_rels n x (Take y) = []
read_rels n x (Mul y u v) = []
read_rels n x (Div y u c) = is_quotient x (named n u) c

-- ---- the least and the greatest component

-- the variable alone
abbrev pub alone : ℕ → Lin
alone x = record { coeffs = (x, pos 1) ∷ []; constant = pos 0 }

abbrev pub some_rows : ℕ → List Lin → Rel
some_rows t p = at_most (form (times (negsuc 0) (atom.Count t p) ∷ []) (pos 1))

abbrev pub no_rows : ℕ → List Lin → Rel
no_rows t p = at_most (form (times (pos 1) (atom.Count t p) ∷ []) (pos 0))

abbrev pub none_there : ℕ → List Lin → Rel
none_there t p = is_zero (form (times (pos 1) (atom.Count t p) ∷ []) (pos 0))

-- x is less than y
abbrev pub is_less : ℕ → ℕ → Rel
is_less x y = at_most (form (variable (pos 1) x ∷ variable (negsuc 0) y ∷ []) (pos 1))

abbrev pub plain : List Rel → Rel → Clause
plain guards r = record { vars = []; guards = guards; rel = r }

-- x is a component behind p where there are rows, else 0, and there are none where `beyond` holds of the own variable k
abbrev pub extreme : ℕ → List Lin → ℕ → ℕ → Rel → List Clause
extreme t p x k beyond =
    let none_beyond : Clause = record {
      vars = codes "k" ∷ [];
      guards = some_rows t p ∷ beyond ∷ [];
      rel = none_there t (p ++ alone k ∷ []);
    } in
    plain (some_rows t p ∷ []) (some_rows t (p ++ alone x ∷ []))
    ∷ plain (no_rows t p ∷ []) (is_nothing x) ∷ none_beyond ∷ []

-- what a read makes true of its variable x for all numbers k
abbrev pub read_hyps : Naming → ℕ → ℕ → Read → List Clause
read_hyps n k x (Let y l) = []
read_hyps n k x (Col y t q c) = []
read_hyps n k x (Has y t q) = []
read_hyps n k x (Count y t p) = []
read_hyps n k x (Sum y t p c) = []
read_hyps n k x (Least y t p) = extreme t (named_lins n p) x k (is_less k x)
read_hyps n k x (Greatest y t p) = extreme t (named_lins n p) x k (is_less x k)
read_hyps n k x (Take y) = []
read_hyps n k x (Mul y u v) = []
read_hyps n k x (Div y u c) = []

-- ---- guards

abbrev pub guard_rel : Naming → LinRel → Rel
guard_rel n r = record { form = lin_form (named_lin n r.lin); equal = r.equal }

-- each of `under` can't be 0
abbrev pub not_all_none : List Lin → Rel
not_all_none under = is_zero (form ((record { under = under; atom = atom.One }, pos 1) ∷ []) (pos 0))

-- the negation of a relation of linear values
abbrev pub denied : Naming → LinRel → Rel
denied n r =
    if r.equal then not_all_none (named_lin n r.lin ∷ [])
    else at_most (plus_number (negated (lin_form (named_lin n r.lin))) (pos 1))

-- 1 <= 0
abbrev pub never : Rel
never = at_most (form [] (pos 1))

abbrev pub but_last : List LinRel → List LinRel
but_last [] = []
but_last (r ∷ []) = []
but_last (r ∷ s ∷ rest) = r ∷ but_last (s ∷ rest)

abbrev pub last_denied : Naming → List LinRel → Rel
last_denied n [] = never
last_denied n (r ∷ []) = denied n r
last_denied n (r ∷ s ∷ rest) = last_denied n (s ∷ rest)

-- a guard isn't true: where its relations but the last are, the last isn't
abbrev pub untaken : Naming → List LinRel → Clause
untaken n guard = plain (map (guard_rel n) (but_last guard)) (last_denied n guard)
