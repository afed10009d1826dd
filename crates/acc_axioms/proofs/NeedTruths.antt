-- What is answered for an axiom adds what is true.
use Rattle.std.proofs.Common.{sym, ap, ◌∙◌, Option, Some, None, Result, Ok, Err}
use Rattle.std.specs.Prelude.{IfOk, IfSome}
use Rattle.acc_base.specs.declared.designs.Design.{Design}
use Rattle.acc_base.specs.declared.sequents.Sequent.{Sequent}
use Rattle.acc_axioms.specs.declared.axioms.Need.{Need}
use Rattle.acc_axioms.specs.declared.nodes.Schema.{Schema}
use Rattle.acc_axioms.specs.Axioms.{Demand, axiom_of}
use Rattle.acc_axioms.specs.Needs.{AnswersDemand}
use Rattle.acc_axioms.specs.Truths.{all_true, AddsTrue}
use Rattle.acc_axioms.proofs.AxiomTruths.{axiom_true}

answer_true : (d : Design) (q : Sequent) (x : Schema) (o : Option Need) → AnswersDemand o (axiom_of d q x) → IfSome o (AddsTrue d q)
answer_true d q x None h = tt
answer_true d q x (Some n) h = λ db env asked facts.
    let may = ap (λ (y : Demand). y.may) h in
    let shown = ap (λ (y : Demand). all_true db env y.facts) h ∙ facts in
    sym (ap (λ (y : Demand). all_true db env y.added) h) ∙ axiom_true d q db env asked x may shown

pub law_holds : {E : Type 0} (d : Design) (q : Sequent) (x : Schema) (r : Result (Option Need) E)
    → IfOk r (λ o. AnswersDemand o (axiom_of d q x)) → IfOk r (λ o. IfSome o (AddsTrue d q))
law_holds d q x (Ok o) h = answer_true d q x o h
law_holds d q x (Err e) h = tt
