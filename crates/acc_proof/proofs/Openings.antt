-- The open branches as they are kept, and a step of the walk.
use Rattle.std.proofs.Common.{◌≡◌, ℕ, zero, suc, ◌+◌, ◌≤◌, ◌<◌, Bool, true, false, List, [], ◌∷◌, ◌++◌, length, map, take, drop}
use Rattle.std.proofs.Common.{reverse, get_or, refl, ap, sym, ◌∙◌, subst, arith, if◌then◌else◌, append_assoc, ◌==◌, Result, Ok, Err}
use Rattle.std.specs.Prelude.{IfOk, IsTrue}
use Rattle.std.proofs.lemmas.List.{drop_more, take-append-le, length-append, length-take-le, length-reverse, reverse-append}
use Rattle.std.proofs.Math.Seq.{take-length}
use Rattle.std.proofs.lemmas.Bool.Decides.{Decides-eqb}
use Rattle.acc_base.specs.declared.forms.Rel.{Rel}
use Rattle.acc_base.specs.declared.designs.Design.{Design}
use Rattle.acc_base.specs.declared.sequents.Sequent.{Sequent}
use Rattle.acc_base.specs.TrueSequents.{SequentTrue}
use Rattle.acc_axioms.specs.declared.nodes.Node.{Node}
use Rattle.acc_proof.specs.declared.checks.Pending.{Pending}
use Rattle.acc_proof.specs.declared.errors.ProofError.{ProofError}
use Rattle.acc_proof.specs.Checked.{Gives}
use Rattle.acc_proof.specs.Proofs.{Branches, node_of, Proved, NotProved, go_on, walked, verdict}
use Rattle.acc_proof.specs.Opened.{opened, AreNested, pending}
use Rattle.acc_proof.proofs.Implied.{proofs_imply}

nested_less : (k m : ℕ) (ps : List Pending) → k ≤ m → AreNested k ps → AreNested m ps
nested_less k m [] h g = tt
nested_less k m (p ∷ ps) h g = (omega (arith, h, g.0), g.1)

nested_all : (m : ℕ) (bs : List (List Rel)) (ps : List Pending) → AreNested m ps → AreNested m (map (pending m) bs ++ ps)
nested_all m [] ps h = h
nested_all m (b ∷ bs) ps h = (omega arith, nested_all m bs ps h)

take_twice : (j k : ℕ) (more : List Rel) → j ≤ k → take j (take k more) ≡ take j more
take_twice zero k more h = refl
take_twice (suc j) zero more h = absurd (omega (arith, h))
take_twice (suc j) (suc k) [] h = refl
take_twice (suc j) (suc k) (r ∷ more) h = ap (λ l. r ∷ l) (take_twice j k more (omega (arith, h)))

take_less : (j k : ℕ) (more added : List Rel) → j ≤ k → k ≤ length more → take j (take k more ++ added) ≡ take j more
take_less j k more added h g =
    let long : j ≤ length (take k more) = omega (arith, h, length-take-le k more g) in
    take-append-le j (take k more) added long ∙ take_twice j k more h

opened_same : (rels more added : List Rel) (k : ℕ) (ps : List Pending) → k ≤ length more → AreNested k ps
    → opened rels (take k more ++ added) ps ≡ opened rels more ps
opened_same rels more added k [] g h = refl
opened_same rels more added k (p ∷ ps) g h =
    let here = ap (λ (l : List Rel). rels ++ (l ++ p.added)) (take_less p.known k more added h.0 g) in
    let rest = opened_same rels more added k ps g (nested_less p.known k ps h.0 h.1) in
    λ i. here i ∷ rest i

opened_all : (rels more : List Rel) (bs : List (List Rel)) (ps : List Pending) → opened rels more (map (pending (length more)) bs ++ ps)
    ≡ map (λ b. (rels ++ more) ++ b) bs ++ opened rels more ps
opened_all rels more [] ps = refl
opened_all rels more (b ∷ bs) ps =
    let here = ap (λ (l : List Rel). rels ++ (l ++ b)) (take-length more) ∙ sym (append_assoc rels more b) in
    let rest = opened_all rels more bs ps in
    λ i. here i ∷ rest i

reversed : (open_ : List Pending) (p : Pending) → reverse (open_ ++ p ∷ []) ≡ p ∷ reverse open_
reversed open_ p = reverse-append open_ (p ∷ [])

module _ (d : Design) (q : Sequent) (nodes : List Node) (i : ℕ) (node : Node) (within : i < length nodes)
    (here : node ≡ get_or nodes i node) (more : List Rel) (open_ left : List Pending) (branch : Pending)
    (popped : open_ ≡ left ++ branch ∷ []) (nested : AreNested (length more) (reverse open_)) (new : List Rel)
    (resumed : new ≡ take branch.known more ++ branch.added) (bs : Branches) (gives : node_of d q (q.rels ++ new) node ≡ Gives bs)
    (after : List Pending) (n : ℕ) (known : n ≡ length new) (opens : reverse after ≡ map (pending n) bs ++ reverse left) where
  front_is : reverse open_ ≡ branch ∷ reverse left
  front_is = ap reverse popped ∙ reversed left branch

  parts : (branch.known ≤ length more) × AreNested branch.known (reverse left)
  parts = subst (AreNested (length more)) front_is nested

  long : branch.known ≤ length new
  long =
      let e = ap length resumed in
      let f = length-append (take branch.known more) branch.added in
      let g = length-take-le branch.known more parts.0 in
      omega (arith, e, f, g)

  opens_there : reverse after ≡ map (pending (length new)) bs ++ reverse left
  opens_there = opens ∙ ap (λ (m : ℕ). map (pending m) bs ++ reverse left) known

  pub nested_after : AreNested (length new) (reverse after)
  nested_after =
      subst (AreNested (length new)) (sym opens_there)
      (nested_all (length new) bs (reverse left) (nested_less branch.known (length new) (reverse left) long parts.1))

  before : opened q.rels more (reverse open_) ≡ (q.rels ++ new) ∷ opened q.rels more (reverse left)
  before =
      ap (opened q.rels more) front_is ∙ ap (λ (l : List Rel). (q.rels ++ l) ∷ opened q.rels more (reverse left)) (sym resumed)

  later : opened q.rels new (reverse after) ≡ map (λ b. (q.rels ++ new) ++ b) bs ++ opened q.rels more (reverse left)
  later =
      ap (opened q.rels new) opens_there
      ∙ (opened_all q.rels new bs (reverse left)
      ∙ ap (λ ks. map (λ b. (q.rels ++ new) ++ b) bs ++ ks)
      (ap (λ (l : List Rel). opened q.rels l (reverse left)) resumed
      ∙ opened_same q.rels more branch.added branch.known (reverse left) parts.0 parts.1))

  one_more : drop i nodes ≡ node ∷ drop (i + 1) nodes
  one_more = drop_more nodes i node within ∙ ap (λ (x : Node). x ∷ drop (i + 1) nodes) (sym here)

  pub walked_on : walked d q (i + 1) (drop (i + 1) nodes) (opened q.rels new (reverse after))
      ≡ walked d q i (drop i nodes) (opened q.rels more (reverse open_))
  walked_on =
      ap (walked d q (i + 1) (drop (i + 1) nodes)) later
      ∙ (sym (ap (go_on i (λ x. walked d q (i + 1) (drop (i + 1) nodes)
      (map (λ b. (q.rels ++ new) ++ b) x ++ opened q.rels more (reverse left)))) gives)
      ∙ sym (ap (λ ns. walked d q i ns (opened q.rels more (reverse open_))) one_more
      ∙ ap (walked d q i (node ∷ drop (i + 1) nodes)) before))

-- the end of the walk
pub ended : (d : Design) (q : Sequent) (i : ℕ) (more : List Rel) (open_ : List Pending) (b : Bool) → b ≡ (length open_ == 0)
    → walked d q i [] (opened q.rels more (reverse open_)) ≡ (if b then Proved else NotProved)
ended d q i more open_ b e = by (reverse open_) b (e ∙ ap (λ n. n == 0) (sym (length-reverse open_)))
  where
    by : (ps : List Pending) (x : Bool) → x ≡ (length ps == 0) → walked d q i [] (opened q.rels more ps) ≡ (if x then Proved else NotProved)
    by [] x f = ap (λ y. if y then Proved else NotProved) (sym (f ∙ (Decides-eqb 0 0).1 refl))
    by (p ∷ ps) true f = let z = (Decides-eqb (length (p ∷ ps)) 0).0 (sym f) in absurd (omega (arith, z))
    by (p ∷ ps) false f = refl

pub law_holds : (d : Design) (q : Sequent) (nodes : List Node) (r : Result Bool ProofError)
    → IfOk r (λ yes. verdict d q nodes ≡ (if yes then Proved else NotProved)) → IfOk r (λ yes. IsTrue yes → SequentTrue d q)
law_holds d q nodes (Ok true) h = λ yes. proofs_imply d q nodes h
law_holds d q nodes (Ok false) h = λ yes. absurd (cc)
law_holds d q nodes (Err e) h = tt
