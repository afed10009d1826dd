-- The pass over axioms: each of which is shown what it demands is added. It sees what it has itself just added.
use Rattle.std.specs.Prelude.{if◌then◌else◌, List, [], ◌∷◌, ◌++◌, Option, Some, None, Ok}
use Rattle.std.specs.List.{list_any}
use Rattle.acc_base.specs.declared.forms.Rel.{Rel}
use Rattle.acc_base.specs.declared.designs.Design.{Design}
use Rattle.acc_base.specs.declared.sequents.Sequent.{Sequent}
use Rattle.acc_base.specs.Computing.{chain, steps}
use Rattle.acc_farkas.specs.declared.refuting.Mults.{Mults}
use Rattle.acc_elim_readings.specs.Readings.{unknowns_of}
use Rattle.acc_axioms.specs.declared.nodes.Node.TheVariants as node
use Rattle.acc_axioms.specs.declared.nodes.Schema.{Schema}
use Rattle.acc_axioms.specs.Axioms.{Demand, axiom_of}
use Rattle.acc_axioms.specs.SchemaEquality.{schema_eq}
use Rattle.acc_axioms.specs.declared.kinds.AxiomKind.{AxiomKind}
use Rattle.acc_prover_branch.specs.Courses.{Course}
use Rattle.acc_prover_branch.specs.Known.{Known, State, shows_all}
use Rattle.acc_prover_candidates.specs.Candidates.{candidates}
use Rattle.acc_prover_candidates.specs.Kinds.{kinds}

abbrev pub knowing_axiom : Known → Schema → List Rel → Known
knowing_axiom s a added = record { rels = s.rels ++ added; insts = s.insts; axioms = s.axioms ++ a ∷ [] }

abbrev pub with_axiom : State → Schema → List Rel → Option (List Mults) → State
with_axiom s a added None = s
with_axiom s a added (Some ms) = (knowing_axiom s.0 a added, s.1 ++ node.Axiom a ms ∷ [])

-- what an axiom demands is shown, where it may be used
abbrev pub try_demand : State → Schema → Demand → Course State
try_demand s a x =
    if x.may then chain (shows_all s.0.rels [] x.facts) (λ o. Ok (with_axiom s a x.added o)) else Ok s

module _ (d : Design) (q : Sequent) where
  abbrev pub try_axiom : State → Schema → Course State
  try_axiom s a = if list_any (schema_eq a) s.0.axioms then Ok s else try_demand s a (axiom_of d q a)

  -- those of a kind for the unknowns that are known when its turn comes
  abbrev pub try_kind : State → AxiomKind → Course State
  try_kind s kind = steps try_axiom s (candidates (unknowns_of s.0.rels) kind)

  -- each axiom that isn't added
  abbrev pub axioms_pass : State → Course State
  axioms_pass s = steps try_kind s kinds
