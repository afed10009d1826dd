-- The lower of the least numbers of two kinds is the least number of either.
use Rattle.std.proofs.Common.{◌≡◌, ℕ, ◌<◌, ◌≤◌, ◌⊎◌, inl, inr, Bool, true, false, if◌then◌else◌, refl, arith, Option, Some, None}
use Rattle.std.specs.Prelude.{nat_lt}
use Rattle.std.proofs.lemmas.Bool.Decides.{nat_tests}
use Rattle.acc_table.specs.Entries.{TellsLowest}
use Rattle.acc_machine.specs.Blocked.{lower}

module _ (P Q : ℕ → Type 0) where
  neither : (n : ℕ) → ¬ P n → ¬ Q n → ¬ (P n ⊎ Q n)
  neither n p q (inl h) = p h
  neither n p q (inr h) = q h

  pub lower_tells : (a b : Option ℕ) → TellsLowest P a → TellsLowest Q b → TellsLowest (λ n. P n ⊎ Q n) (lower a b)
  lower_tells None None p q = λ n. neither n (p n) (q n)
  lower_tells None (Some n) p q = (inr q.0, λ m l. neither m (p m) (q.1 m l))
  lower_tells (Some m) None p q = (inl p.0, λ n l. neither n (p.1 n l) (q n))
  lower_tells (Some m) (Some n) p q = by (nat_lt n m) refl
    where
      by : (b : Bool) → nat_lt n m ≡ b → TellsLowest (λ k. P k ⊎ Q k) (if b then Some n else Some m)
      by true e = let l : n < m = grind (arith, nat_tests) in (inr q.0, λ k h. neither k (p.1 k (omega arith)) (q.1 k h))
      by false e = let l : m ≤ n = grind (arith, nat_tests) in (inl p.0, λ k h. neither k (p.1 k h) (q.1 k (omega arith)))
