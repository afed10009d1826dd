-- An instance: the guards and the relation of a hypothesis at linear values for its own variables.
use Rattle.std.specs.Prelude.{◌≡◌, ℕ, Bool, false, ◌||◌, true, List, [], length, map, Option, Some, None, slice_get, pos}
use Rattle.std.specs.List.{list_any}
use Rattle.acc_base.specs.declared.forms.Lin.{Lin}
use Rattle.acc_base.specs.declared.forms.Rel.{Rel}
use Rattle.acc_base.specs.declared.forms.Clause.{Clause}
use Rattle.acc_base.specs.declared.sequents.Sequent.{Sequent}
use Rattle.acc_instanced.specs.Instances.{fact_at}
use Rattle.acc_inst.specs.declared.making.Instance.{Instance}

-- a hypothesis's number, and values for its own variables
abbrev pub Chosen : Type 0
Chosen = ℕ × List Lin

abbrev pub rel_at : ℕ → List Lin → Rel → Rel
rel_at n ls r = (fact_at n ls r).rel

abbrev pub is_rel_wide : ℕ → List Lin → Rel → Bool
is_rel_wide n ls r = (fact_at n ls r).wide

abbrev pub clause_at : ℕ → Chosen → Clause → Instance
clause_at n i c =
    record { hypothesis = i.0; values = i.1; guards = map (rel_at n i.1) c.guards; rel = rel_at n i.1 c.rel }

-- whether a number of it is too large
abbrev pub is_clause_wide : ℕ → List Lin → Clause → Bool
is_clause_wide n ls c = list_any (is_rel_wide n ls) c.guards || is_rel_wide n ls c.rel

-- a hypothesis that isn't there says nothing
abbrev pub nowhere : Chosen → Instance
nowhere i =
    record { hypothesis = i.0; values = i.1; guards = []; rel = record { form = record { terms = []; constant = pos 0 }; equal = true } }

abbrev pub clause_or : ℕ → Chosen → Option Clause → Instance
clause_or n i None = nowhere i
clause_or n i (Some c) = clause_at n i c

abbrev pub is_wide_or : ℕ → List Lin → Option Clause → Bool
is_wide_or n ls None = false
is_wide_or n ls (Some c) = is_clause_wide n ls c

abbrev pub instance_of : Sequent → Chosen → Instance
instance_of q i = clause_or q.vars i (slice_get q.hyps i.0)

abbrev pub is_instance_wide : Sequent → Chosen → Bool
is_instance_wide q i = is_wide_or q.vars i.1 (slice_get q.hyps i.0)

-- a hypothesis has this number, and as many own variables as there are values
abbrev pub IsOf : Sequent → Chosen → Type 0
IsOf q i = (c : Clause) × (slice_get q.hyps i.0 ≡ Some c) × (length i.1 ≡ length c.vars)
