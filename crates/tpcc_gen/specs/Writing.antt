-- Lines of a script, and what it is to draw and write.
use Rattle.std.specs.Prelude.{◌≡◌, ℕ, List, ◌∷◌, ◌++◌, codes}
use Rattle.std.specs.Fmt.{decimal}
use Rattle.std.specs.List.{flat_map}
use Rattle.acc_base.specs.Lines.{line}
use Rattle.acc_page.specs.Written.{Written, Adds}
use Rattle.rand_pcg.specs.Lcg.{Lcg}

-- a number behind a space
abbrev pub spaced : ℕ → List ℕ
spaced n = 32 ∷ decimal n

-- numbers, each behind a space
abbrev pub numbers : List ℕ → List ℕ
numbers ns = flat_map spaced ns

-- a type's name and its parameters
abbrev pub call : List ℕ → List ℕ → List ℕ
call name params = name ++ numbers params

-- the line of a call without a tape
abbrev pub call_line : List ℕ → List ℕ → List ℕ
call_line name params = line (call name params)

-- the line of a call with a tape, whose numbers are written out already
abbrev pub taped_line : List ℕ → List ℕ → List ℕ → List ℕ
taped_line name params tape = line (call name params ++ (codes " |" ++ tape))

-- From the page and the generator there were, a text was drawn and written: the page has it behind what it had, unless memory lacked,
-- and the generator is the one behind its draws.
abbrev pub Writes : Written → Lcg → Written → Lcg → (Lcg → List ℕ × Lcg) → Type 0
Writes old before new after text = Adds old new (text before).0 × (after ≡ (text before).1)
