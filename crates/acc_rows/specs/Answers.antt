-- Computations of an elimination, which may stop before their end, and what a call's answer tells of one.
use Rattle.std.specs.Prelude.{Bool, true, false, List, ◌++◌, Result, Ok}
use Rattle.acc_base.specs.Computing.{chain, StopsBy}
use Rattle.acc_rows.specs.declared.stops.Stop.{Stop}
use Rattle.acc_rows.specs.declared.stops.Stop.TheVariants.{Refuted, Wide, Many, Memory}

-- a value, or what stopped the computation. No definition stops with Memory
abbrev pub Computation : Type 0 → Type 0
Computation A = Result A Stop

-- whether a call that stopped tells how the computation stops: want of memory tells nothing
abbrev pub tells : Stop → Bool
tells (Refuted r) = true
tells Wide = true
tells Many = true
tells Memory = false

-- what a call that stopped so tells of the computation
abbrev pub StoppedBy : {A : Type 0} → Stop → Computation A → Type 0
StoppedBy e computed = StopsBy (tells e) e computed

-- the items that a computation gives, behind others
abbrev pub behind : {X : Type 0} → List X → Computation (List X) → Computation (List X)
behind xs r = chain r (λ ys. Ok (xs ++ ys))
