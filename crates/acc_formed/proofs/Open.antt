-- A step of a well-formed design has a path that is taken, whatever the values of its variables.
use Rattle.std.proofs.Common.{◌≡◌, ℕ, ◌+◌, ◌-◌, ◌<◌, zero, suc, Bool, true, false, if◌then◌else◌, List, [], ◌∷◌, length, get_or, Some, ℤ}
use Rattle.std.proofs.Common.{refl, ap, arith}
use Rattle.std.specs.List.{list_all}
use Rattle.acc_base.specs.declared.tables.Table.{Table}
use Rattle.acc_base.specs.declared.steps.Path.{Path}
use Rattle.acc_base.specs.declared.steps.Step.{Step}
use Rattle.acc_base.specs.declared.designs.Side.{Side}
use Rattle.acc_base.specs.declared.designs.TxType.{TxType}
use Rattle.acc_base.specs.Linear.{lin_rel_true}
use Rattle.acc_base.specs.Effects.{first_from, taken_path}
use Rattle.acc_formed.specs.WellFormed.{IsStepFormed}
use Rattle.acc_formed.proofs.Uses.{last_unguarded}

-- where one item passes, there is a first one that does
first_of_some : {X : Type 0} (test : X → Bool) (i : ℕ) (xs : List X) (k : ℕ) (d : X) → k < length xs → test (get_or xs k d) ≡ true →
    (n : ℕ) × (first_from test i xs ≡ Some n)
first_of_some test i [] k d l h = absurd (omega arith)
first_of_some test i (x ∷ xs) zero d l h = (i, rw h refl)
first_of_some test i (x ∷ xs) (suc k) d l h =
    elim (test x) as (λ b. (n : ℕ) × ((if b then Some i else first_from test (i + 1) xs) ≡ Some n)) [
      | true ↦ (i, refl)
      | false ↦ first_of_some test (i + 1) xs k d (omega arith) h
    ]

path_of_some : (env : List ℤ) (paths : List Path) → 0 < length paths →
    ((d : Path) → (get_or paths (length paths - 1) d).guard ≡ []) → (n : ℕ) × (taken_path env paths ≡ Some n)
path_of_some env [] some last = absurd (omega arith)
path_of_some env (p ∷ rest) some last =
    first_of_some (λ (q : Path). list_all (lin_rel_true env) q.guard) 0 (p ∷ rest) (length (p ∷ rest) - 1) p (omega arith)
    (ap (list_all (lin_rel_true env)) (last p))

pub some_path_taken : (tables : List Table) (t : TxType) (side : Side) (is_bare : Bool) (s : Step) (env : List ℤ) →
    IsStepFormed tables t side is_bare s → 0 < length s.paths → (n : ℕ) × (taken_path env s.paths ≡ Some n)
some_path_taken tables t side is_bare s env f some =
    path_of_some env s.paths some (λ d. last_unguarded tables t side is_bare s d f some)
