-- What the answers of a search show.
use Rattle.std.proofs.Common.{List, Result, Ok, Err, sym, subst}
use Rattle.std.specs.Prelude.{IfOk, IsTrue}
use Rattle.acc_base.specs.declared.forms.Lin.{Lin}
use Rattle.acc_base.specs.declared.designs.Design.{Design}
use Rattle.acc_base.specs.declared.sequents.Sequent.{Sequent}
use Rattle.acc_base.specs.TrueSequents.{SequentTrue}
use Rattle.acc_axioms.specs.declared.nodes.Node.{Node}
use Rattle.acc_cert_bounds.specs.InBounds.{nodes_near}
use Rattle.acc_proof.proofs.Implied.{proofs_imply}
use Rattle.acc_prover_searched.specs.BranchCourses.{Course, AnswersCourse}
use Rattle.acc_prover_searched.specs.Searches.{course}
use Rattle.acc_prover_searched.specs.Courses.{IsProof}
use Rattle.acc_prover_searched.specs.OpenLeaves.{IsOpenLeaf}
use Rattle.acc_prover_searched.proofs.Ends.{ended_proof, leaf_open}
use Rattle.acc_prover_searched.proofs.NearNodes.{nodes_near_at_end}
use Rattle.acc_prover.specs.declared.found.Found.{Found}
use Rattle.acc_prover.specs.declared.found.Found.TheVariants.{Proved, Unproved}
use Rattle.acc_prover.specs.declared.found.SearchError.{SearchError}
use Rattle.acc_prover.specs.declared.found.SearchError.TheVariants as found
use Rattle.acc_prover.specs.Tellings.{Closes, Tells, IfProved, IfUnproved, KeepsProof}

module _ (d : Design) (q : Sequent) where
  -- the kind is that of the search
  pub kind_told : (r : Result Found SearchError) (end o : Course (List Node)) → Tells r end → AnswersCourse end o → Tells r o
  kind_told (Ok (Proved p)) (Ok nodes) o t h = subst Closes (sym h) tt
  kind_told (Ok (Proved p)) (Err e) o t h = absurd t
  kind_told (Ok (Unproved leaf point)) end o t h = subst (λ (e : Course (List Node)). AnswersCourse e o) t h
  kind_told (Err found.Crowded) end o t h = subst (λ (e : Course (List Node)). AnswersCourse e o) t h
  kind_told (Err found.Wide) end o t h = subst (λ (e : Course (List Node)). AnswersCourse e o) t h
  kind_told (Err found.Many) end o t h = subst (λ (e : Course (List Node)). AnswersCourse e o) t h
  kind_told (Err found.Memory) end o t h = tt

  pub near_told : (hints : List Lin) (end : Course (List Node)) → AnswersCourse end (course d q hints)
      → IfOk end (λ nodes. IsTrue (nodes_near nodes))
  near_told hints (Ok nodes) h = nodes_near_at_end d q hints nodes h
  near_told hints (Err e) h = tt

  pub proof_told : (hints : List Lin) (r : Result Found SearchError) (end : Course (List Node)) → Tells r end → KeepsProof d q end r
      → AnswersCourse end (course d q hints) → IfProved r (IsProof d q)
  proof_told hints r (Ok nodes) t k h = k (ended_proof d q hints nodes h)
  proof_told hints (Ok (Proved p)) (Err e) t k h = absurd t
  proof_told hints (Ok (Unproved leaf point)) (Err e) t k h = tt
  proof_told hints (Err x) (Err e) t k h = tt

  pub truth_told : (r : Result Found SearchError) → IfProved r (IsProof d q) → IfProved r (λ nodes. SequentTrue d q)
  truth_told (Ok (Proved p)) h = proofs_imply d q p.nodes h
  truth_told (Ok (Unproved leaf point)) h = tt
  truth_told (Err x) h = tt

  pub leaf_told : (hints : List Lin) (r : Result Found SearchError) → Tells r (course d q hints) → IfUnproved r (IsOpenLeaf q hints)
  leaf_told hints (Ok (Proved p)) h = tt
  leaf_told hints (Ok (Unproved leaf point)) h = leaf_open d q hints leaf point h
  leaf_told hints (Err x) h = tt
