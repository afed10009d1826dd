-- Where what a branch knows isn't refuted, its first split is opened.
use Rattle.std.proofs.Common.{◌≡◌, ◌≤◌, ◌-◌, List, [], ◌∷◌, length, get_or, take, drop, Option, Some, Result, Ok}
use Rattle.std.proofs.Common.{ap, sym, ◌∙◌, subst, arith}
use Rattle.std.proofs.lemmas.List.{take_rest}
use Rattle.acc_base.specs.declared.forms.Form.{Form}
use Rattle.acc_base.specs.declared.designs.Design.{Design}
use Rattle.acc_base.specs.declared.sequents.Sequent.{Sequent}
use Rattle.acc_elim_points.specs.Points.{Point}
use Rattle.acc_axioms.specs.declared.nodes.Node.{Node}
use Rattle.acc_inst.specs.declared.making.Instance.{Instance}
use Rattle.acc_prover_branch.specs.declared.halts.Halt.{Halt}
use Rattle.acc_base.specs.Computing.{chain}
use Rattle.acc_prover_branch.specs.Courses.{LeavesCourse}
use Rattle.acc_prover_branch.specs.Known.{State}
use Rattle.acc_prover_course.specs.Searches.{closing, split_end, three, branch}

pub opened : (d : Design) (q : Sequent) (made : List Instance) (splits : List Form) (e : Form) (s t : State) (o : Option Point) (p : Point)
    (r : Result (Unit {0}) Halt) (nodes : List Node) → 1 ≤ length splits → e ≡ get_or splits 0 e
    → closing d q made s ≡ Ok (t, o) → o ≡ Some p
    → LeavesCourse r nodes (three (branch d q made (take (length splits - 1) (drop 1 splits))) e t)
    → LeavesCourse r nodes (branch d q made splits s)
opened d q made [] e s t o p r nodes some first closed open_ h = absurd (omega arith)
opened d q made (x ∷ xs) e s t o p r nodes some first closed open_ h =
    let goes = ap (λ c. chain c (split_end (three (branch d q made xs) x))) (closed ∙ ap (λ p. Ok (t, p)) open_) in
    let rest = ap (λ es. three (branch d q made es) e t) (take_rest (x ∷ xs) 1) in
    let form = ap (λ f. three (branch d q made xs) f t) first in
    subst (λ c. LeavesCourse r nodes c) ((rest ∙ form) ∙ sym goes) h
