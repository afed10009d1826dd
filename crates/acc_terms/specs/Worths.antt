-- What terms are worth, where each unknown is worth what f gives.
use Rattle.std.specs.Prelude.{◌≡◌, Bool, List, map, Some, None, ℤ, ◌+ℤ◌, ◌*ℤ◌}
use Rattle.acc_base.specs.Numbers.{total}
use Rattle.acc_base.specs.Collecting.{worth}
use Rattle.acc_terms.specs.declared.parts.Part.{Part}
use Rattle.acc_terms.specs.Parts.{constant_of}
use Rattle.acc_terms.specs.Collected.{collected}

-- a term: a constant is worth its number
abbrev pub part_worth : {K : Type 0} → (K → ℤ) → Part K → ℤ
part_worth f p = elim p.of [ None ↦ p.number | Some x ↦ p.number *ℤ f x ]

-- whatever the unknowns are worth, collected terms and the constant are worth what the terms are worth
abbrev pub CollectingKeepsWorth : (K : Type 0) → (K → K → Bool) → Type 0
CollectingKeepsWorth K E =
    (f : K → ℤ) (parts : List (Part K)) → worth f (collected E parts) +ℤ constant_of parts ≡ total (map (part_worth f) parts)
