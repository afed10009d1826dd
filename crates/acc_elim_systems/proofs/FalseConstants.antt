-- The false constant that ends an elimination.
use Rattle.std.proofs.Common.{◌≡◌, ℕ, true, [], ◌∷◌, Err, refl, subst, arith, ℤ, pos}
use Rattle.std.proofs.lemmas.Int.{ints}
use Rattle.acc_rows.specs.declared.stops.Stop.TheVariants.{Refuted}
use Rattle.acc_rows.specs.declared.rows.Row.{Row}
use Rattle.acc_rows.specs.Answers.{Computation}
use Rattle.acc_rows.specs.Sparse.{Sparse, no_numbers}
use Rattle.acc_elim_systems.specs.Systems.{is_constant, is_false, eliminated}
use Rattle.acc_base.specs.Collecting.{worth}
use Rattle.acc_elim_systems.specs.Made.{Sums, Signed, Ordered, FalseConstantIsASum, MultipliersAreSigned, MultipliersRise}
use Rattle.acc_elim_systems.proofs.Kept.{Keeps}
use Rattle.acc_elim_systems.proofs.Divisions.{eliminated_sums}
use Rattle.acc_elim_systems.proofs.Signs.{eliminated_signed}
use Rattle.acc_elim_systems.proofs.Orders.{eliminated_ordered}

nothing : (f : ℕ → ℤ) (xs : Sparse) → no_numbers xs ≡ true → worth f xs ≡ pos 0
nothing f [] e = refl
nothing f (t ∷ ts) e = absurd (cc)

pub at_end : {A : Type 0} (Good : Row → Type 0) (o : Computation A) (P : A → Type 0) (r : Row) → o ≡ Err (Refuted r) → Keeps Good o P
    → Good r × (is_constant r ≡ true) × (is_false r ≡ true)
at_end Good o P r e h = subst (λ x. Keeps Good x P) e h

pub a_sum : FalseConstantIsASum
a_sum f base n rows r all e =
    let h = at_end (Sums f base) (eliminated n rows) _ r e (eliminated_sums f base n rows all) in
    let sum = h.0 in
    let none = nothing f r.terms h.1 in
    (omega (arith, ints, sum, none), h.2)

pub signed : MultipliersAreSigned
signed is_equation n rows r all e =
    (at_end (Signed is_equation) (eliminated n rows) _ r e (eliminated_signed is_equation n rows all)).0

pub rising : MultipliersRise
rising n rows r all e = (at_end Ordered (eliminated n rows) _ r e (eliminated_ordered n rows all)).0.by
