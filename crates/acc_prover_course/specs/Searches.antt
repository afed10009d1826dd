-- The search: branches, depth first, and how it ends. It notes the nodes of its proof on the way; they decide nothing.
use Rattle.std.specs.Prelude.{List, [], ◌∷◌, ◌++◌, map, Result, Ok, Err, Option, Some, None}
use Rattle.acc_base.specs.declared.forms.Lin.{Lin}
use Rattle.acc_base.specs.declared.forms.Form.{Form}
use Rattle.acc_base.specs.declared.forms.Rel.{Rel}
use Rattle.acc_base.specs.declared.designs.Design.{Design}
use Rattle.acc_base.specs.declared.sequents.Sequent.{Sequent}
use Rattle.acc_elim_points.specs.Points.{Point}
use Rattle.acc_prover_branch.specs.Verdict.{Verdict}
use Rattle.acc_prover_branch.specs.Verdict.TheVariants.{Refuted, Solved}
use Rattle.acc_axioms.specs.declared.nodes.Node.{Node}
use Rattle.acc_axioms.specs.declared.nodes.Node.TheVariants.{Split, Leaf}
use Rattle.acc_base.specs.Forms.{is_zero}
use Rattle.acc_prover_choices.specs.declared.listing.InstError.{InstError}
use Rattle.acc_prover_choices.specs.declared.listing.InstError.TheVariants as listing
use Rattle.acc_inst.specs.declared.making.Instance.{Instance}
use Rattle.acc_inst.specs.Making.{instance_of}
use Rattle.acc_inst.specs.Lists.{lists_of}
use Rattle.acc_prover_branch.specs.declared.halts.Halt.{Halt}
use Rattle.acc_prover_branch.specs.declared.halts.Halt.TheVariants.{Open, Crowded, Wide, Memory}
use Rattle.acc_base.specs.Computing.{chain}
use Rattle.acc_prover_branch.specs.Courses.{Course}
use Rattle.acc_prover_branch.specs.Known.{Known, State, try_below_zero, try_above_zero, verdict}
use Rattle.acc_prover_course.specs.declared.branches.Sign.{Sign}
use Rattle.acc_prover_course.specs.declared.branches.Sign.TheVariants.{Below, Zero, Above}
use Rattle.acc_prover_course.specs.Passes.{passes}

-- one more relation is known
abbrev pub knowing : Known → Rel → Known
knowing s r = record { rels = s.rels ++ r ∷ []; insts = s.insts; axioms = s.axioms }

-- ---- how a branch ends: it is refuted, or there is a point

abbrev pub point_in : Verdict → Option Point
point_in (Refuted ms) = None
point_in (Solved point) = Some point

abbrev pub nodes_ended : List Node → Verdict → List Node
nodes_ended nodes (Refuted ms) = nodes ++ Leaf ms ∷ []
nodes_ended nodes (Solved point) = nodes

abbrev pub ended : State → Verdict → State × Option Point
ended s v = ((s.0, nodes_ended s.1 v), point_in v)

-- a branch without splits left is open, where it isn't refuted
abbrev pub leaf_end : State × Option Point → Course (List Node)
leaf_end (s, None) = Ok s.1
leaf_end (s, Some point) = Err (Open s.0.rels point)

abbrev pub split_end : (State → Course (List Node)) → State × Option Point → Course (List Node)
split_end split (s, None) = Ok s.1
split_end split (s, Some point) = split s

-- ---- the three branches of a split, one after the other

abbrev pub relation : Sign → Form → Course Rel
relation Below e = try_below_zero e
relation Zero e = Ok (is_zero e)
relation Above e = try_above_zero e

abbrev pub under : Sign → Known → Form → Course Known
under sign s e = chain (relation sign e) (λ r. Ok (knowing s r))

abbrev pub branch_under : (State → Course (List Node)) → Sign → Form → State → Course (List Node)
branch_under branch sign e s = chain (under sign s.0 e) (λ known. branch (known, s.1))

abbrev pub three : (State → Course (List Node)) → Form → State → Course (List Node)
three branch e s =
    chain (branch_under branch Below e (s.0, s.1 ++ Split e ∷ [])) (λ nodes.
    chain (branch_under branch Zero e (s.0, nodes)) (λ more. branch_under branch Above e (s.0, more)))

module _ (d : Design) (q : Sequent) (made : List Instance) where
  -- what is known after both passes, and a point where that isn't refuted
  abbrev pub tried : State → Course (State × Option Point)
  tried s = chain (passes d q made s) (λ t. chain (verdict t.0.rels) (λ v. Ok (ended t v)))

  abbrev pub closing_by : State → Verdict → Course (State × Option Point)
  closing_by s (Refuted ms) = Ok (ended s (Refuted ms))
  closing_by s (Solved point) = tried s

  -- the same where nothing is added to what is refuted at the beginning
  abbrev pub closing : State → Course (State × Option Point)
  closing s = chain (verdict s.0.rels) (closing_by s)

  -- a branch with these splits left: the nodes where it is closed, or what ends the search
  abbrev pub branch : List Form → State → Course (List Node)
  branch [] s = chain (closing s) leaf_end
  branch (e ∷ es) s = chain (closing s) (split_end (three (branch es) e))

-- ---- the whole search

abbrev pub halted_lists : InstError → Halt
halted_lists listing.Crowded = Crowded
halted_lists listing.Wide = Wide
halted_lists listing.Memory = Memory

abbrev pub of_lists : {A : Type 0} → Result A InstError → Course A
of_lists (Ok x) = Ok x
of_lists (Err e) = Err (halted_lists e)

abbrev pub starting : Sequent → Rel → Known
starting q contrary = record { rels = q.rels ++ contrary ∷ []; insts = []; axioms = [] }

-- what is known at first: the relations, and that the goal isn't met
abbrev pub started : Design → Sequent → List Instance → List Form → Course (List Node)
started d q made splits = chain (try_above_zero q.goal) (λ contrary. branch d q made splits (starting q contrary, []))

-- Ok where all branches are closed; else what ends the search first
abbrev pub course : Design → Sequent → List Lin → Course (List Node)
course d q hints =
    chain (of_lists (lists_of q hints)) (λ l. started d q (map (instance_of q) l.insts) l.splits)
