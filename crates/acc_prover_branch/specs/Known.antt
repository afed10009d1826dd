-- What a branch knows, and what elimination shows there.
use Rattle.std.specs.Prelude.{ℕ, if◌then◌else◌, List, [], ◌∷◌, ◌++◌, Option, Some, None, Ok, Err}
use Rattle.acc_base.specs.declared.forms.Form.{Form}
use Rattle.acc_base.specs.declared.forms.Rel.{Rel}
use Rattle.acc_base.specs.Computing.{chain}
use Rattle.acc_farkas.specs.declared.refuting.Mults.{Mults}
use Rattle.acc_elim.specs.Verdict.{Verdict}
use Rattle.acc_elim.specs.Verdict.TheVariants.{Refuted, Solved}
use Rattle.acc_elim.specs.Decisions.{decision}
use Rattle.acc_axioms.specs.declared.nodes.Node.{Node}
use Rattle.acc_axioms.specs.declared.nodes.Schema.{Schema}
use Rattle.acc_proof.specs.Facts.{below_zero, is_below_wide, above_zero, is_above_wide}
use Rattle.acc_prover_branch.specs.declared.known.Branch.{Branch}
use Rattle.acc_prover_branch.specs.declared.halts.Halt.TheVariants.{Wide}
use Rattle.acc_prover_branch.specs.Courses.{Course, of_elimination}

-- the relations that are known, in order, and which instances and axioms were added to them
pub record Known : Type 0 where
  pub rels : List Rel
  pub insts : List ℕ
  pub axioms : List Schema

abbrev pub known_of : Branch → Known
known_of b = record { rels = b.rels; insts = b.insts.items; axioms = b.axioms.items }

-- what a branch knows, and the nodes of the proof so far, in preorder
abbrev pub State : Type 0
State = Known × List Node

-- ---- relations made of a form: it is below 0, it is above 0; unless a number of them is too large

abbrev pub try_below_zero : Form → Course Rel
try_below_zero f = if is_below_wide f then Err Wide else Ok (below_zero f)

abbrev pub try_above_zero : Form → Course Rel
try_above_zero f = if is_above_wide f then Err Wide else Ok (above_zero f)

-- ---- what elimination tells

abbrev pub verdict : List Rel → Course Verdict
verdict rels = of_elimination (decision rels)

-- multipliers that refute relations, where they have no solution
abbrev pub multipliers_in : Verdict → Option Mults
multipliers_in (Refuted ms) = Some ms
multipliers_in (Solved point) = None

abbrev pub refuting : List Rel → Course (Option Mults)
refuting rels = chain (verdict rels) (λ v. Ok (multipliers_in v))

-- ---- what is shown, with the multipliers that show it behind those so far; None where it isn't shown

abbrev pub with_next : List Mults → Option Mults → Option (List Mults)
with_next found None = None
with_next found (Some ms) = Some (found ++ ms ∷ [])

abbrev pub if_shown : {A B : Type 0} → Option A → (A → Course (Option B)) → Course (Option B)
if_shown None next = Ok None
if_shown (Some x) next = next x

-- what is known refutes a relation
abbrev pub excludes : List Rel → List Mults → Rel → Course (Option (List Mults))
excludes rels found contrary = chain (refuting (rels ++ contrary ∷ [])) (λ o. Ok (with_next found o))

abbrev pub shows_at_most : List Rel → List Mults → Form → Course (Option (List Mults))
shows_at_most rels found f = chain (try_above_zero f) (excludes rels found)

abbrev pub shows_at_least : List Rel → List Mults → Form → Course (Option (List Mults))
shows_at_least rels found f = chain (try_below_zero f) (excludes rels found)

-- an equation is shown from both sides
abbrev pub shows_rest : List Rel → Rel → List Mults → Course (Option (List Mults))
shows_rest rels r found = if r.equal then shows_at_least rels found r.form else Ok (Some found)

abbrev pub shows : List Rel → List Mults → Rel → Course (Option (List Mults))
shows rels found r = chain (shows_at_most rels found r.form) (λ o. if_shown o (shows_rest rels r))

-- relations one after the other, up to the first that isn't shown
abbrev pub shows_all : List Rel → List Mults → List Rel → Course (Option (List Mults))
shows_all rels found [] = Ok (Some found)
shows_all rels found (r ∷ rs) = chain (shows rels found r) (λ o. if_shown o (λ more. shows_all rels more rs))
