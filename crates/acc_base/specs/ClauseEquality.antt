-- The tests of equality of relations and clauses decide equality.
use Rattle.std.specs.Prelude.{◌≡◌, ◌==◌, Bool, ◌&&◌, List, ℕ, Decides}
use Rattle.std.specs.Cmp.{booleans_Decides}
use Rattle.std.specs.Cmp.Lexicographic.{pointwise, pointwise_decides}
use Rattle.std.proofs.Common.{ap}
use Rattle.std.proofs.Math.Bool.{beq}
use Rattle.std.proofs.lemmas.Bool.Decides.{Decides-like, Decides-eqb}
use Rattle.acc_base.specs.declared.forms.Rel.{Rel}
use Rattle.acc_base.specs.declared.forms.Clause.{Clause}
use Rattle.acc_base.specs.Pairs.{both}
use Rattle.acc_base.specs.UnknownEquality.{form_eq, form_decides}

abbrev pub rel_eq : Rel → Rel → Bool
rel_eq x y = form_eq x.form y.form && beq x.equal y.equal

pub rel_decides : (x y : Rel) → Decides (rel_eq x y) (x ≡ y)
rel_decides x y =
    Decides-like (rel_eq x y)
    (λ h. λ i. record { form = h.0 i; equal = h.1 i })
    (λ e. (ap (λ r. r.form) e, ap (λ r. r.equal) e))
    (both (form_decides x.form y.form) (booleans_Decides x.equal y.equal))

abbrev pub texts_eq : List (List ℕ) → List (List ℕ) → Bool
texts_eq xs ys = pointwise (pointwise ◌==◌) xs ys

abbrev pub clause_eq : Clause → Clause → Bool
clause_eq x y = texts_eq x.vars y.vars && (pointwise rel_eq x.guards y.guards && rel_eq x.rel y.rel)

pub clause_decides : (x y : Clause) → Decides (clause_eq x y) (x ≡ y)
clause_decides x y =
    Decides-like (clause_eq x y)
    (λ h. λ i. record { vars = h.0 i; guards = h.1.0 i; rel = h.1.1 i })
    (λ e. (ap (λ c. c.vars) e, (ap (λ c. c.guards) e, ap (λ c. c.rel) e)))
    (both (pointwise_decides (pointwise_decides Decides-eqb) x.vars y.vars)
    (both (pointwise_decides rel_decides x.guards y.guards) (rel_decides x.rel y.rel)))
