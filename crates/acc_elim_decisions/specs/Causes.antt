-- What an answer tells: of a verdict, of a number that is too large, and of what stops a decision.
use Rattle.std.specs.Prelude.{Bool, true, false, IsTrue, IsFalse, List, Result, Ok, Err}
use Rattle.acc_farkas.specs.declared.errors.FarkasError.{FarkasError}
use Rattle.acc_farkas.specs.declared.errors.FarkasError.TheVariants as farkas
use Rattle.acc_farkas.specs.Sums.{Pair}
use Rattle.acc_elim_points.specs.Points.{Point}
use Rattle.acc_elim_decisions.specs.declared.verdicts.ElimError.{ElimError}
use Rattle.acc_elim_decisions.specs.declared.verdicts.ElimError.TheVariants.{Wide, Many, Memory}
use Rattle.acc_elim_decisions.specs.declared.verdicts.Verdict.{Verdict}
use Rattle.acc_elim_decisions.specs.declared.verdicts.Verdict.TheVariants.{Refuted, Solved}

-- the same cause, of multipliers
abbrev pub cause : FarkasError → ElimError
cause farkas.Wide = Wide
cause farkas.Memory = Memory

-- Ok where no number is too large, Wide where one is, and want of memory says nothing
abbrev pub TellsWide : {T : Type 0} → Result T ElimError → Bool → Type 0
TellsWide (Ok x) wide = IsFalse wide
TellsWide (Err Wide) wide = IsTrue wide
TellsWide (Err Many) wide = ⊥
TellsWide (Err Memory) wide = Unit {0}

-- whether an error tells what stops a decision: want of memory tells nothing
abbrev pub tells : ElimError → Bool
tells Wide = true
tells Many = true
tells Memory = false

-- the multipliers of an answer that refutes, and the point of one that solves
abbrev pub IfRefuted : Result Verdict ElimError → (List Pair → Type 0) → Type 0
IfRefuted (Ok (Refuted ms)) P = P ms.of
IfRefuted (Ok (Solved point)) P = Unit {0}
IfRefuted (Err e) P = Unit {0}

abbrev pub IfSolved : Result Verdict ElimError → (Point → Type 0) → Type 0
IfSolved (Ok (Refuted ms)) P = Unit {0}
IfSolved (Ok (Solved point)) P = P point
IfSolved (Err e) P = Unit {0}
