-- What is added part by part.
use Rattle.std.proofs.Common.{ℕ, List, ◌++◌, ap, ◌∙◌, append_assoc}
use Rattle.acc_page.specs.Written.{Written, Adds}

-- what adds one part and then another adds both
pub adds_both : (old middle new : Written) (a b : List ℕ) → Adds old middle a → Adds middle new b → Adds old new (a ++ b)
adds_both old middle new a b first second = λ whole. (
  (first (second whole).0).0,
  (second whole).1 ∙ ap (λ (z : List ℕ). z ++ b) (first (second whole).0).1 ∙ append_assoc old.text a b,
)
