-- What is drawn from the words of a generator. Each draw gives a value, and the generator behind it; draws follow one another, and
-- none takes a word twice.
use Rattle.std.specs.Prelude.{ℕ, zero, suc, ◌+◌, ◌-◌, ◌%◌, bit_or, List, [], ◌++◌}
use Rattle.rand_pcg.specs.Lcg.{Lcg, started, increment_of}
use Rattle.rand_pcg.specs.Pcg.{multiplier_64, pcg32}

-- draws values of a kind
abbrev pub Draw : Type 0 → Type 0
Draw A = Lcg → A × Lcg

-- PCG32, started at a number, with the stream 1
abbrev pub words_from : ℕ → Lcg
words_from start = started 64 multiplier_64 start (increment_of 64 1)

-- a number from low to high (2.1.4), by one word of 32 bits
unfoldable pub random : ℕ → ℕ → Lcg → ℕ × Lcg
random low high g = (low + (pcg32 g).0 % (high - low + 1), (pcg32 g).1)

-- the constant C of NURand (2.1.6)
abbrev pub run_time_constant : ℕ
run_time_constant = 77

-- a number from low to high that isn't drawn evenly (2.1.6): NURand(most, low, high)
unfoldable pub uneven : ℕ → ℕ → ℕ → Lcg → ℕ × Lcg
uneven most low high g =
    let left = random 0 most g in
    let right = random low high left.1 in
    ((bit_or left.0 right.0 + run_time_constant) % (high - low + 1) + low, right.1)

-- what is drawn by turns for so many numbers from k on, one behind the other
unfoldable pub each : {A : Type 0} → (ℕ → Lcg → List A × Lcg) → ℕ → ℕ → Lcg → List A × Lcg
each draw zero k g = ([], g)
each draw (suc left) k g =
    let here = draw k g in
    let behind = each draw left (k + 1) here.1 in
    (here.0 ++ behind.0, behind.1)

-- what one draws, and behind it what another does
abbrev pub both : {A : Type 0} → (Lcg → List A × Lcg) → (Lcg → List A × Lcg) → Lcg → List A × Lcg
both first second g =
    let here = first g in
    let behind = second here.1 in
    (here.0 ++ behind.0, behind.1)
