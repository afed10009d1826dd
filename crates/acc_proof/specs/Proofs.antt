-- When a list of nodes is a proof of a sequent.
use Rattle.std.specs.Prelude.{ℕ, ◌+◌, false, ◌||◌, ◌==◌, if◌then◌else◌, List, [], ◌∷◌, ◌++◌, length, map, Option, Some, None}
use Rattle.std.specs.Prelude.{slice_get}
use Rattle.acc_base.specs.declared.forms.Lin.{Lin}
use Rattle.acc_base.specs.declared.forms.Form.{Form}
use Rattle.acc_base.specs.declared.forms.Rel.{Rel}
use Rattle.acc_base.specs.declared.forms.Clause.{Clause}
use Rattle.acc_base.specs.declared.designs.Design.{Design}
use Rattle.acc_base.specs.declared.sequents.Sequent.{Sequent}
use Rattle.acc_base.specs.Forms.{is_zero}
use Rattle.acc_farkas.specs.declared.refuting.Mults.{Mults}
use Rattle.acc_axioms.specs.declared.nodes.Node.{Node}
use Rattle.acc_axioms.specs.declared.nodes.Node.TheVariants.{Split, Inst, Axiom, Leaf}
use Rattle.acc_instanced.specs.Instances.{Fact, fact_at}
use Rattle.acc_proof.specs.Checked.{Checked, Gives, Fails, TooWide, and_then}
use Rattle.acc_proof.specs.Facts.{below_zero, is_below_wide, above_zero, is_above_wide, refuted, all_shown, used_up}
use Rattle.acc_axioms.specs.Axioms.{Demand, axiom_of}

-- what each branch behind a node adds to what is known
abbrev pub Branches : Type 0
Branches = List (List Rel)

abbrev pub only : Fact → Checked Branches
only f = if f.wide then TooWide else Gives ((f.rel ∷ []) ∷ [])

-- facts are shown, by all the multipliers, and then it goes on
abbrev pub after_facts : List Rel → List Fact → List Mults → Checked Branches → Checked Branches
after_facts known fs ms o = and_then (used_up o) (all_shown known fs ms)

-- a hypothesis at linear values
abbrev pub instance_of : ℕ → List Rel → Option Clause → List Lin → List Mults → Checked Branches
instance_of n known None ls ms = Fails
instance_of n known (Some c) ls ms =
    if length ls == length c.vars then after_facts known (map (fact_at n ls) c.guards) ms (only (fact_at n ls c.rel)) else Fails

abbrev pub sure : Rel → Fact
sure r = record { rel = r; wide = false }

abbrev pub use_axiom : List Rel → Demand → List Mults → Checked Branches
use_axiom known x ms =
    if x.may then after_facts known (map sure x.facts) ms (Gives (x.added ∷ [])) else Fails

abbrev pub leaf_of : List Rel → Mults → Checked Branches
leaf_of known m = and_then (used_up (Gives [])) (refuted known (m ∷ []))

abbrev pub split_of : Form → Checked Branches
split_of e =
    if is_below_wide e || is_above_wide e then TooWide else Gives ((below_zero e ∷ []) ∷ (is_zero e ∷ []) ∷ (above_zero e ∷ []) ∷ [])

abbrev pub node_of : Design → Sequent → List Rel → Node → Checked Branches
node_of d q known (Split e) = split_of e
node_of d q known (Inst h ls ms) = instance_of q.vars known (slice_get q.hyps h) ls ms
node_of d q known (Axiom x ms) = use_axiom known (axiom_of d q x) ms
node_of d q known (Leaf m) = leaf_of known m

-- ---- the nodes one after the other

pub data Verdict : Type 0 where
  Proved : Verdict
  NotProved : Verdict
  WideAt : (node : ℕ) → Verdict

abbrev pub go_on : ℕ → (Branches → Verdict) → Checked Branches → Verdict
go_on i f (Gives bs) = f bs
go_on i f Fails = NotProved
go_on i f TooWide = WideAt i

-- the nodes from node i on, where branches are open: what is known in each, the next one first
abbrev pub walked : Design → Sequent → ℕ → List Node → List (List Rel) → Verdict
walked d q i [] [] = Proved
walked d q i [] (known ∷ rest) = NotProved
walked d q i (n ∷ ns) [] = NotProved
walked d q i (n ∷ ns) (known ∷ rest) =
    go_on i (λ bs. walked d q (i + 1) ns (map (λ b. known ++ b) bs ++ rest)) (node_of d q known n)

-- what is known at first: the relations, and that the goal isn't met
abbrev pub known_first : Sequent → List Rel
known_first q = q.rels ++ above_zero q.goal ∷ []

abbrev pub verdict : Design → Sequent → List Node → Verdict
verdict d q nodes = if is_above_wide q.goal then WideAt 0 else walked d q 0 nodes (known_first q ∷ [])
