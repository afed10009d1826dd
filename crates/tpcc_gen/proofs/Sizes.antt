-- How long the texts may be: each number that is written has at most six digits.
use Rattle.std.proofs.Common.{ℕ, zero, suc, ◌+◌, ◌-◌, ◌*◌, ◌%◌, ◌<◌, ◌≤◌, Bool, true, false, List, [], ◌∷◌, ◌++◌, length, codes, arith}
use Rattle.std.specs.Prelude.{if◌then◌else◌, bit_or}
use Rattle.std.specs.Fmt.{decimal}
use Rattle.std.proofs.lemmas.Fmt.{length-decimal-le}
use Rattle.std.proofs.lemmas.List.{length-append}
use Rattle.std.proofs.Math.Nat.{mul-le-mul_left}
use Rattle.rand_pcg.specs.Lcg.{Lcg}
use Rattle.rand_pcg.specs.Pcg.{pcg32}
use Rattle.tpcc_gen.specs.Draws.{random, uneven, each, both}
use Rattle.tpcc_gen.specs.Writing.{spaced, numbers, call, call_line, taped_line}

-- numbers of at most six digits
abbrev pub AreShort : List ℕ → Type 0
AreShort [] = Unit {0}
AreShort (n ∷ ns) = (n < 1000000) × AreShort ns

spaced_short : (n : ℕ) → n < 1000000 → length (spaced n) ≤ 7
spaced_short n small =
    let digits : length (decimal n) ≤ 6 = length-decimal-le 6 n (omega arith) small (omega arith) in
    omega arith

pub numbers_short : (ns : List ℕ) → AreShort ns → length (numbers ns) ≤ 7 * length ns
numbers_short [] h = omega arith
numbers_short (n ∷ ns) h =
    omega (arith, spaced_short n h.0, numbers_short ns h.1, length-append (spaced n) (numbers ns))

pub call_line_short :
    (name params : List ℕ) → AreShort params → length (call_line name params) ≤ length name + 7 * length params + 1
call_line_short name params h =
    omega (arith, numbers_short params h, length-append name (numbers params), length-append (call name params) (10 ∷ []))

pub taped_line_short :
    (name params tape : List ℕ) (most : ℕ) → AreShort params → length tape ≤ most
    → length (taped_line name params tape) ≤ length name + 7 * length params + most + 3
taped_line_short name params tape most h few =
    omega (
      arith,
      numbers_short params h,
      length-append name (numbers params),
      length-append (call name params) (codes " |" ++ tape),
      length-append (call name params ++ (codes " |" ++ tape)) (10 ∷ []),
    )

-- where each is short, so are all
each_short :
    (draw : ℕ → Lcg → List ℕ × Lcg) (most bound : ℕ)
    → ((k : ℕ) → k < bound → (g : Lcg) → length (draw k g).0 ≤ most)
    → (n k : ℕ) → k + n ≤ bound → (g : Lcg) → length (each draw n k g).0 ≤ most * n
unfolding each
each_short draw most bound ok zero k within g = omega arith
each_short draw most bound ok (suc n) k within g =
    let here = ok k (omega arith) g in
    let behind = each_short draw most bound ok n (k + 1) (omega arith) (draw k g).1 in
    omega (arith, here, behind, length-append (draw k g).0 (each draw n (k + 1) (draw k g).1).0)

-- so many at most
pub each_few :
    (draw : ℕ → Lcg → List ℕ × Lcg) (most bound count : ℕ)
    → ((k : ℕ) → k < bound → (g : Lcg) → length (draw k g).0 ≤ most)
    → (n k : ℕ) → k + n ≤ bound → n ≤ count → (g : Lcg) → length (each draw n k g).0 ≤ most * count
each_few draw most bound count ok n k within few g =
    omega (arith, each_short draw most bound ok n k within g, mul-le-mul_left most few)

pub both_short :
    (first second : Lcg → List ℕ × Lcg) (a b : ℕ) → ((g : Lcg) → length (first g).0 ≤ a) → ((g : Lcg) → length (second g).0 ≤ b)
    → (g : Lcg) → length (both first second g).0 ≤ a + b
both_short first second a b one other g =
    omega (arith, one g, other (first g).1, length-append (first g).0 (second (first g).1).0)

remainder_within : (w low high : ℕ) → low ≤ high → low + w % (high - low + 1) ≤ high
remainder_within w low high some = omega arith

pub random_within : (low high : ℕ) (g : Lcg) → low ≤ high → (random low high g).0 ≤ high
unfolding random
random_within low high g some = remainder_within (pcg32 g).0 low high some

pub uneven_within : (most low high : ℕ) (g : Lcg) → low ≤ high → (uneven most low high g).0 ≤ high
unfolding uneven
uneven_within most low high g some =
    omega (
      arith,
      remainder_within
          (bit_or (random 0 most g).0 (random low high (random 0 most g).1).0 + 77) low high some,
    )

-- what is true of both is true of the one that is chosen
pub either : {A : Type 0} (P : A → Type 0) (chosen : Bool) (a b : A) → P a → P b → P (if chosen then a else b)
either P true a b one other = one
either P false a b one other = other
