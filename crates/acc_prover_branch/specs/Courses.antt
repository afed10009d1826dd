-- Parts of a search, any of which may end it, and what a call's answer tells of a part.
use Rattle.std.specs.Prelude.{◌≡◌, Bool, true, false, Option, Some, None, Result, Ok, Err}
use Rattle.acc_base.specs.Computing.{StopsBy, Answers, Leaves}
use Rattle.acc_elim.specs.ElimError.{ElimError}
use Rattle.acc_elim.specs.ElimError.TheVariants as stopped
use Rattle.acc_prover_branch.specs.declared.halts.Halt.{Halt}
use Rattle.acc_prover_branch.specs.declared.halts.Halt.TheVariants.{Open, Crowded, Wide, Many, Memory}

-- a value, or what ends the search. No definition gives Memory
abbrev pub Course : Type 0 → Type 0
Course A = Result A Halt

-- an elimination that stops ends the search
abbrev pub halted : ElimError → Halt
halted stopped.Wide = Wide
halted stopped.Many = Many
halted stopped.Memory = Memory

abbrev pub of_elimination : {A : Type 0} → Result A ElimError → Course A
of_elimination (Ok x) = Ok x
of_elimination (Err e) = Err (halted e)

-- ---- what a call's answer tells of a part

-- each cause but want of memory tells how the search ends
abbrev pub halt_tells : Halt → Bool
halt_tells (Open rels point) = true
halt_tells Crowded = true
halt_tells Wide = true
halt_tells Many = true
halt_tells Memory = false

abbrev pub StoppedBy : {A : Type 0} → Halt → Course A → Type 0
StoppedBy e o = StopsBy (halt_tells e) e o

abbrev pub AnswersCourse : {A : Type 0} → Result A Halt → Course A → Type 0
AnswersCourse = Answers halt_tells

-- a call that leaves a value behind
abbrev pub LeavesCourse : {A B : Type 0} → Result B Halt → A → Course A → Type 0
LeavesCourse = Leaves halt_tells

-- a call that leaves a value and answers another
abbrev pub LeavesWith : {A B : Type 0} → Result B Halt → A → Course (A × B) → Type 0
LeavesWith (Ok y) x o = o ≡ Ok (x, y)
LeavesWith (Err e) x o = StoppedBy e o

-- a call that leaves a value where it answers yes
abbrev pub LeavesIf : {A : Type 0} → Result Bool Halt → A → Course (Option A) → Type 0
LeavesIf (Ok true) x o = o ≡ Ok (Some x)
LeavesIf (Ok false) x o = o ≡ Ok None
LeavesIf (Err e) x o = StoppedBy e o
