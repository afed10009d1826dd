-- The targets of a sequent: the tables and the keys, or the prefixes, of its atoms.
use Rattle.std.specs.Prelude.{◌==◌, ℕ, Bool, ◌&&◌, List, ◌++◌, Option, flat_map, filter_map}
use Rattle.std.specs.Cmp.Lexicographic.{pointwise}
use Rattle.std.specs.Option.{option_map}
use Rattle.acc_base.specs.declared.forms.Lin.{Lin}
use Rattle.acc_base.specs.declared.forms.Rel.{Rel}
use Rattle.acc_base.specs.declared.sequents.Sequent.{Sequent}
use Rattle.acc_base.specs.Atoms.{table_of, key_of}
use Rattle.acc_base.specs.FormEquality.{lin_eq}
use Rattle.acc_base.specs.Sums.{Term}
use Rattle.acc_prover_choices.specs.declared.targets.Target.{Target}
use Rattle.acc_prover_choices.specs.Parts.{firsts}

abbrev pub same_lins : List Lin → List Lin → Bool
same_lins xs ys = pointwise lin_eq xs ys

abbrev pub same_target : Target → Target → Bool
same_target s t = (s.table == t.table) && same_lins s.key t.key

-- the table atom of a term, if it is one
abbrev pub target_of : Term → Option Target
target_of t = option_map (λ (table : ℕ). record { table = table; key = key_of t.0.atom }) (table_of t.0.atom)

abbrev pub targets_in : List Term → List Target
targets_in ts = filter_map target_of ts

abbrev pub rel_targets : List Rel → List Target
rel_targets rs = flat_map (λ (r : Rel). targets_in r.form.terms) rs

-- the table atoms of the relations and the goal, in the order in which they first appear
abbrev pub targets_of : Sequent → List Target
targets_of q = firsts same_target (rel_targets q.rels ++ targets_in q.goal.terms)
