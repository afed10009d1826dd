-- How many statements end among the marks of the form rules; behind each rule that is broken its statement's end follows.
use Rattle.std.proofs.Common.{◌≡◌, ◌≤◌, ℕ, suc, ◌+◌, Bool, true, false, List, [], ◌∷◌, ◌++◌, refl, sym, ap, subst, arith}
use Rattle.std.specs.Prelude.{if◌then◌else◌}
use Rattle.acc_base.specs.declared.rules.FormRule.{FormRule}
use Rattle.acc_form.specs.Marks.{Mark, Broken, End, ending, asked}

-- how many statements end
abbrev pub ends_of : List Mark → ℕ
ends_of [] = 0
ends_of (Broken rule ∷ ms) = ends_of ms
ends_of (End ∷ ms) = suc (ends_of ms)

-- each statement at hand ends
abbrev pub AreEnded : List Mark → Type 0
AreEnded [] = Unit {0}
AreEnded (Broken rule ∷ ms) = (1 ≤ ends_of ms) × AreEnded ms
AreEnded (End ∷ ms) = AreEnded ms

-- the marks are those of so many statements
pub record Counts (ms : List Mark) (n : ℕ) : Type 0 where
  pub ends : ends_of ms ≡ n
  pub ended : AreEnded ms

pub recounted : {ms : List Mark} {n m : ℕ} → Counts ms n → n ≡ m → Counts ms m
recounted {ms} c e = subst (Counts ms) e c

pub no_statement : Counts [] 0
no_statement = record { ends = refl; ended = tt }

pub one_statement : Counts ending 1
one_statement = record { ends = refl; ended = tt }

-- ---- one after the other

ends_both : (a b : List Mark) → ends_of (a ++ b) ≡ ends_of a + ends_of b
ends_both [] b = omega arith
ends_both (Broken rule ∷ ms) b = ends_both ms b
ends_both (End ∷ ms) b = let e = ends_both ms b in omega (arith, e)

ended_both : (a b : List Mark) → AreEnded a → AreEnded b → AreEnded (a ++ b)
ended_both [] b h g = g
ended_both (Broken rule ∷ ms) b h g = let e = ends_both ms b in let some = h.0 in (omega (arith, e, some), ended_both ms b h.1 g)
ended_both (End ∷ ms) b h g = ended_both ms b h g

pub both : {a b : List Mark} {n m : ℕ} → Counts a n → Counts b m → Counts (a ++ b) (n + m)
both {a} {b} c e =
    let sum = ends_both a b in
    let first = c.ends in
    let second = e.ends in record { ends = omega (arith, sum, first, second); ended = ended_both a b c.ended e.ended }

-- a statement, and those behind it
pub one_more : {ms : List Mark} {n : ℕ} → Counts ms n → Counts (ending ++ ms) (suc n)
one_more c = record { ends = ap suc c.ends; ended = c.ended }

-- a rule is asked of a statement that ends behind it
pub asks : {ms : List Mark} {n : ℕ} (rule : FormRule) (b : Bool) → Counts ms (suc n) → Counts (asked rule b ++ ms) (suc n)
asks rule true c = c
asks rule false c = let e = c.ends in record { ends = c.ends; ended = (omega (arith, e), c.ended) }

-- a statement that may be left out
pub unless : {ms : List Mark} {m : ℕ} (b : Bool) → (b ≡ true → m ≡ 0) → (b ≡ false → Counts ms m) → Counts (if b then [] else ms) m
unless true none some = recounted no_statement (sym (none refl))
unless false none some = some refl
