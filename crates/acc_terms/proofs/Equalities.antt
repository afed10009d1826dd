-- Two tests that decide which unknowns are the same collect alike.
use Rattle.std.proofs.Common.{◌≡◌, Bool, List, ap}
use Rattle.std.specs.Prelude.{Decides}
use Rattle.std.proofs.lemmas.Bool.Decides.{same_from_decides}
use Rattle.acc_terms.specs.declared.parts.Part.{Part}
use Rattle.acc_terms.specs.Collected.{collected}

same_test : {K : Type 0} (E F : K → K → Bool) → ((x y : K) → Decides (E x y) (x ≡ y)) → ((x y : K) → Decides (F x y) (x ≡ y)) → E ≡ F
same_test E F e f = λ i x y. same_from_decides (E x y) (F x y) (e x y) (f x y) i

pub collected_alike : {K : Type 0} (E F : K → K → Bool) → ((x y : K) → Decides (E x y) (x ≡ y)) → ((x y : K) → Decides (F x y) (x ≡ y))
    → (parts : List (Part K)) → collected E parts ≡ collected F parts
collected_alike E F e f parts = ap (λ test. collected test parts) (same_test E F e f)
