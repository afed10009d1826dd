-- Axioms: when one may be used, what must be shown for it, and the relations that it adds.
use Rattle.std.specs.Prelude.{ℕ, ◌-◌, Bool, true, false, ◌&&◌, ◌==◌, not, if◌then◌else◌, List, [], ◌∷◌, ◌++◌, length, map}
use Rattle.std.specs.Prelude.{take, Option, Some, None, nat_le, nat_lt, slice_get, ℤ, pos, negsuc, ◌+ℤ◌, ◌-ℤ◌, neg_ℤ}
use Rattle.acc_base.specs.declared.tables.Table.{Table}
use Rattle.acc_base.specs.declared.forms.Lin.{Lin}
use Rattle.acc_base.specs.declared.forms.Atom.{Atom}
use Rattle.acc_base.specs.declared.forms.Atom.TheVariants as atom
use Rattle.acc_base.specs.declared.forms.Unknown.{Unknown}
use Rattle.acc_base.specs.declared.forms.Form.{Form}
use Rattle.acc_base.specs.declared.forms.Rel.{Rel}
use Rattle.acc_base.specs.declared.designs.At.{At}
use Rattle.acc_base.specs.declared.designs.Design.{Design}
use Rattle.acc_base.specs.declared.designs.TxType.{TxType}
use Rattle.acc_base.specs.declared.sequents.Sequent.{Sequent}
use Rattle.acc_base.specs.declared.sequents.Rule.TheVariants.{Begins, Empty}
use Rattle.acc_base.specs.Atoms.{table_of, key_of, alike}
use Rattle.acc_base.specs.Forms.{form, at_most, is_zero}
use Rattle.acc_base.specs.SequentEquality.{rule_eq}
use Rattle.acc_base.specs.FormEquality.{lin_eq}
use Rattle.acc_base.specs.Sums.{Term}
use Rattle.acc_base.specs.PrivateRows.{is_own_table}
use Rattle.acc_axioms.specs.declared.nodes.TheConstants.{BELOW, ABOVE}
use Rattle.acc_axioms.specs.declared.nodes.Schema.{Schema}
use Rattle.acc_axioms.specs.declared.nodes.Schema.TheVariants as schema

pub record Demand : Type 0 where
  pub may : Bool
  pub facts : List Rel
  pub added : List Rel

abbrev pub demand : Bool → List Rel → List Rel → Demand
demand may facts added = record { may = may; facts = facts; added = added }

-- ---- unknowns, forms and relations

abbrev pub plain : Atom → Unknown
plain a = record { under = []; atom = a }

abbrev pub has : ℕ → List Lin → Unknown
has t k = plain (atom.Has t k)

abbrev pub col : ℕ → List Lin → ℕ → Unknown
col t k c = plain (atom.Col t k c)

abbrev pub count : ℕ → List Lin → Unknown
count t p = plain (atom.Count t p)

abbrev pub sum : ℕ → List Lin → ℕ → Unknown
sum t p c = plain (atom.Sum t p c)

abbrev pub plus : Unknown → Term
plus u = (u, pos 1)

abbrev pub minus : Unknown → Term
minus u = (u, negsuc 0)

-- u - v, and u
abbrev pub less : Unknown → Unknown → Form
less u v = form (plus u ∷ minus v ∷ []) (pos 0)

abbrev pub alone : Unknown → Form
alone u = form (plus u ∷ []) (pos 0)

-- u - its atom; the atom 1 is the number
abbrev pub less_atom : Unknown → Atom → Form
less_atom u atom.One = form (plus u ∷ []) (negsuc 0)
less_atom u (atom.Var x) = less u (plain (atom.Var x))
less_atom u (atom.Has t k) = less u (has t k)
less_atom u (atom.Col t k c) = less u (col t k c)
less_atom u (atom.Count t p) = less u (count t p)
less_atom u (atom.Sum t p c) = less u (sum t p c)

-- the variables of a linear value as terms
abbrev pub variable_term : ℕ × ℤ → Term
variable_term k = (plain (atom.Var k.0), k.1)

abbrev pub minus_variable : ℕ × ℤ → Term
minus_variable k = (plain (atom.Var k.0), neg_ℤ k.1)

abbrev pub lin_form : Lin → Form
lin_form l = form (map variable_term l.coeffs) l.constant

-- l + 1 and 1 - l
abbrev pub lin_above : Lin → Form
lin_above l = form (map variable_term l.coeffs) (l.constant +ℤ pos 1)

abbrev pub lin_below : Lin → Form
lin_below l = form (map minus_variable l.coeffs) (pos 1 -ℤ l.constant)

abbrev pub lin_difference : Lin → Lin → Form
lin_difference a b = form (map variable_term a.coeffs ++ map minus_variable b.coeffs) (a.constant -ℤ b.constant)

abbrev pub differences : List Lin → List Lin → List Rel
differences [] ks = []
differences (q ∷ qs) [] = []
differences (q ∷ qs) (k ∷ ks) = is_zero (lin_difference q k) ∷ differences qs ks

-- ---- what may be used

abbrev pub is_table : Design → ℕ → Bool
is_table d t = nat_lt t (length d.tables)

abbrev pub is_width : Option Table → ℕ → Bool
is_width None n = false
is_width (Some t) n = n == t.width

-- a key is whole: it has as many parts as its table's keys
abbrev pub is_whole : Design → ℕ → List Lin → Bool
is_whole d t k = is_width (slice_get d.tables t) (length k)

abbrev pub is_known_table : Design → Option ℕ → Bool
is_known_table d None = false
is_known_table d (Some t) = is_table d t

-- an atom of a table of the design
abbrev pub is_table_atom : Design → Atom → Bool
is_table_atom d a = is_known_table d (table_of a)

abbrev pub is_plain : Unknown → Bool
is_plain u = length u.under == 0

-- ---- the own number: the variable behind the locals of the type at the origin's point

abbrev pub locals_of : Option TxType → Option ℕ
locals_of None = None
locals_of (Some x) = Some (length x.locals)

abbrev pub own_at : Design → Option At → Option ℕ
own_at d None = None
own_at d (Some at) = locals_of (slice_get d.types at.ty)

abbrev pub own_number : Design → Sequent → Option ℕ
own_number d q = own_at d q.origin.at

abbrev pub variable : ℕ → Lin
variable x = record { coeffs = (x, pos 1) ∷ []; constant = pos 0 }

abbrev pub is_value : Lin → Option Lin → Bool
is_value l None = false
is_value l (Some k) = lin_eq k l

abbrev pub ends_in : Lin → List Lin → Bool
ends_in l k = is_value l (slice_get k (length k - 1))

abbrev pub ends_in_own : Option ℕ → List Lin → Bool
ends_in_own None k = false
ends_in_own (Some x) k = ends_in (variable x) k

-- ---- the axioms

-- a value that an unknown stands under is below or above 0; no other number is a side
abbrev pub off : Option Lin → ℕ → Unknown → Demand
off None side u = demand false [] []
off (Some l) side u =
    if side == BELOW then demand true (at_most (lin_above l) ∷ []) (is_zero (alone u) ∷ [])
    else (if side == ABOVE then demand true (at_most (lin_below l) ∷ []) (is_zero (alone u) ∷ []) else demand false [] [])

abbrev pub axiom_of : Design → Sequent → Schema → Demand
axiom_of d q (schema.Has t k) =
    demand (is_table d t) [] (at_most (form (minus (has t k) ∷ []) (pos 0)) ∷ at_most (form (plus (has t k) ∷ []) (negsuc 0)) ∷ [])
axiom_of d q (schema.Count t p) = demand (is_table d t) [] (at_most (form (minus (count t p) ∷ []) (pos 0)) ∷ [])
axiom_of d q (schema.Front t k n) =
    demand (is_table d t && nat_le n (length k)) [] (at_most (less (has t k) (count t (take n k))) ∷ [])
axiom_of d q (schema.Same u v) =
    demand (is_table_atom d u.atom && (alike u.atom v.atom && (is_plain u && is_plain v))) (differences (key_of u.atom) (key_of v.atom))
    (is_zero (less u v) ∷ [])
axiom_of d q (schema.NoCol t k c) = demand (is_table d t) (at_most (alone (has t k)) ∷ []) (is_zero (alone (col t k c)) ∷ [])
axiom_of d q (schema.NoSum t p c) = demand (is_table d t) (at_most (alone (count t p)) ∷ []) (is_zero (alone (sum t p c)) ∷ [])
axiom_of d q (schema.OneCount t k) = demand (is_whole d t k) [] (is_zero (less (count t k) (has t k)) ∷ [])
axiom_of d q (schema.OneSum t k c) = demand (is_whole d t k) [] (is_zero (less (sum t k c) (col t k c)) ∷ [])
axiom_of d q (schema.Opened u) =
    demand (not (is_plain u)) (map (λ l. is_zero (lin_form l)) u.under) (is_zero (less_atom u u.atom) ∷ [])
axiom_of d q (schema.Shut u n side) = off (slice_get u.under n) side u
axiom_of d q (schema.Empty u) = demand (rule_eq q.origin.rule Empty && is_table_atom d u.atom) [] (is_zero (alone u) ∷ [])
axiom_of d q (schema.Fresh t k) =
    demand (rule_eq q.origin.rule Begins && (is_own_table (slice_get d.tables t) && (is_whole d t k && ends_in_own (own_number d q) k))) []
    (is_zero (alone (has t k)) ∷ [])
