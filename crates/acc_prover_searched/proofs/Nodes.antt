-- Nodes so far that leave branches open, and one node more.
use Rattle.std.proofs.Common.{◌≡◌, ℕ, ◌+◌, false, List, [], ◌∷◌, ◌++◌, length, map, ap, sym, ◌∙◌, append_assoc}
use Rattle.std.proofs.Common.{append-nil, arith}
use Rattle.std.proofs.Common.{if◌then◌else◌}
use Rattle.std.proofs.lemmas.List.{length-append}
use Rattle.acc_base.specs.declared.forms.Rel.{Rel}
use Rattle.acc_base.specs.declared.designs.Design.{Design}
use Rattle.acc_base.specs.declared.sequents.Sequent.{Sequent}
use Rattle.acc_axioms.specs.declared.nodes.Node.{Node}
use Rattle.acc_proof.specs.Checked.{Gives}
use Rattle.acc_proof.specs.Facts.{is_above_wide}
use Rattle.acc_proof.specs.Proofs.{Branches, node_of, go_on, walked, known_first, verdict, Proved, WideAt}

module _ (d : Design) (q : Sequent) where
  -- after these nodes these branches are open, the next one first
  abbrev pub Walks : List Node → List (List Rel) → Type 0
  Walks nodes open_ = (rest : List Node) → walked d q 0 (nodes ++ rest) (known_first q ∷ []) ≡ walked d q (length nodes) rest open_

  pub walks_on : (nodes : List Node) (n : Node) (known : List Rel) (open_ : List (List Rel)) (bs : Branches)
      → Walks nodes (known ∷ open_) → node_of d q known n ≡ Gives bs → Walks (nodes ++ n ∷ []) (map (λ b. known ++ b) bs ++ open_)
  walks_on nodes n known open_ bs w g rest =
      let long : length nodes + 1 ≡ length (nodes ++ n ∷ []) = omega (arith, length-append nodes (n ∷ [])) in
      ap (λ ns. walked d q 0 ns (known_first q ∷ [])) (append_assoc nodes (n ∷ []) rest)
      ∙ (w (n ∷ rest)
      ∙ (ap (go_on (length nodes) (λ x. walked d q (length nodes + 1) rest (map (λ b. known ++ b) x ++ open_))) g
      ∙ ap (λ (i : ℕ). walked d q i rest (map (λ b. known ++ b) bs ++ open_)) long))

  -- nodes that leave no branch open are a proof
  pub walks_all : (nodes : List Node) → is_above_wide q.goal ≡ false → Walks nodes [] → verdict d q nodes ≡ Proved
  walks_all nodes narrow w =
      ap (λ b. if b then WideAt 0 else walked d q 0 nodes (known_first q ∷ [])) narrow
      ∙ (ap (λ ns. walked d q 0 ns (known_first q ∷ [])) (sym (append-nil nodes)) ∙ w [])
