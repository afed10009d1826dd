-- The two passes of a branch: instances whose guards are shown, and then axioms. A pass sees what it has itself just added.
use Rattle.std.specs.Prelude.{◌==◌, ◌+◌, ℕ, Bool, if◌then◌else◌, List, [], ◌∷◌, ◌++◌, Option, Some, None, Ok}
use Rattle.std.specs.List.{list_any}
use Rattle.acc_base.specs.declared.forms.Rel.{Rel}
use Rattle.acc_base.specs.declared.designs.Design.{Design}
use Rattle.acc_base.specs.declared.sequents.Sequent.{Sequent}
use Rattle.acc_farkas.specs.declared.refuting.Mults.{Mults}
use Rattle.acc_axioms.specs.declared.nodes.Node.TheVariants as node
use Rattle.acc_inst.specs.declared.making.Instance.{Instance}
use Rattle.acc_base.specs.Computing.{chain, steps}
use Rattle.acc_prover_branch.specs.Courses.{Course}
use Rattle.acc_prover_branch.specs.Known.{Known, State, shows_all}
use Rattle.acc_prover_branch.specs.AxiomPasses.{axioms_pass}

-- ---- instances, by their places

abbrev pub is_place : ℕ → ℕ → Bool
is_place i j = j == i

abbrev pub knowing_instance : Known → ℕ → Rel → Known
knowing_instance s i r = record { rels = s.rels ++ r ∷ []; insts = s.insts ++ i ∷ []; axioms = s.axioms }

-- an instance whose guards these multipliers show is added, with its node
abbrev pub with_instance : State → ℕ → Instance → Option (List Mults) → State
with_instance s i x None = s
with_instance s i x (Some ms) = (knowing_instance s.0 i x.rel, s.1 ++ node.Inst x.hypothesis x.values ms ∷ [])

abbrev pub try_instance : State → ℕ → Instance → Course State
try_instance s i x =
    if list_any (is_place i) s.0.insts then Ok s else chain (shows_all s.0.rels [] x.guards) (λ o. Ok (with_instance s i x o))

abbrev pub try_next : ℕ × State → Instance → Course (ℕ × State)
try_next s x = chain (try_instance s.1 s.0 x) (λ t. Ok (s.0 + 1, t))

-- each instance that isn't added
abbrev pub instances_pass : List Instance → State → Course State
instances_pass made s = chain (steps try_next (0, s) made) (λ t. Ok t.1)

-- both passes
abbrev pub passes : Design → Sequent → List Instance → State → Course State
passes d q made s = chain (instances_pass made s) (axioms_pass d q)
