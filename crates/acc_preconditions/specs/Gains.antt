-- What a form gains by an action, so that it is worth before the action what it was worth after it.
use Rattle.std.specs.Prelude.{Bool, false, ◌||◌, if◌then◌else◌, List, [], ◌∷◌, ◌++◌, map, ℤ}
use Rattle.std.specs.List.{list_any}
use Rattle.acc_base.specs.declared.forms.Lin.{Lin}
use Rattle.acc_base.specs.declared.forms.Atom.{Atom}
use Rattle.acc_base.specs.declared.forms.Form.{Form}
use Rattle.acc_base.specs.declared.steps.Action.{Action}
use Rattle.acc_base.specs.Atoms.{key_of as atom_key}
use Rattle.acc_base.specs.Sums.{Term}
use Rattle.acc_instanced.specs.Summands.{Part, part_summand, with_summands, are_summands_wide}
use Rattle.acc_preconditions.specs.Unders.{differences, are_long, is_false, lengthened}
use Rattle.acc_preconditions.specs.Changes.{key_of, change}

-- ---- the summands of a term

-- all parts, which fall away where one of the linear values is a constant other than 0
abbrev pub under_summands : List Lin → ℤ → List Part → List Term
under_summands under m parts = if list_any is_false under then [] else map (part_summand under m) parts

-- the parts of a change, where there are some, under the term's linear values and the differences of the keys
abbrev pub changed_summands : List Lin → Term → List Part → List Term
changed_summands key t [] = []
changed_summands key t (p ∷ ps) =
    under_summands (lengthened t.0.under (differences (atom_key t.0.atom) key)) t.1 (p ∷ ps)

-- what a term gains
abbrev pub term_summands : Action → Term → List Term
term_summands a t = changed_summands (key_of a) t (change a t.0.atom)

-- what terms gain, one after the other
abbrev pub summands : Action → List Term → List Term
summands a [] = []
summands a (t ∷ ts) = term_summands a t ++ summands a ts

-- ---- the form that a form gains

-- the constant that a form begins with, and what its terms gain
abbrev pub gained : Action → Form → Form
gained a f = with_summands (summands a f.terms) (record { terms = []; constant = f.constant })

-- ---- the numbers that this computes

-- the differences of keys, which are computed where there is a change
abbrev pub is_change_long : List Lin → Atom → List Part → Bool
is_change_long key atom [] = false
is_change_long key atom (p ∷ ps) = are_long (atom_key atom) key

abbrev pub is_term_long : Action → Term → Bool
is_term_long a t = is_change_long (key_of a) t.0.atom (change a t.0.atom)

-- whether a number of the gains is too large: one of a difference of keys beyond 64 bits, or another one beyond 2^120
abbrev pub is_gained_wide : Action → Form → Bool
is_gained_wide a f =
    list_any (is_term_long a) f.terms || are_summands_wide (summands a f.terms) (record { terms = []; constant = f.constant })
