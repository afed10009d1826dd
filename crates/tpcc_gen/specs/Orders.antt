-- An order for the mix, in which its transactions take their turns a few at a time.
use Rattle.std.specs.Prelude.{ℕ, ◌+◌, ◌*◌, ◌/◌, min, List, [], ◌∷◌}
use Rattle.rand_pcg.specs.Lcg.{Lcg}
use Rattle.tpcc_gen.specs.Draws.{random, each, words_from}
use Rattle.tpcc_gen.specs.Mixes.{mix}

-- number j of the order, from 0: each 32 numbers mention one more place as the lowest, and the seven behind it
unfoldable pub mention : ℕ → ℕ → Lcg → List ℕ × Lcg
mention count j g =
    let ahead = random 0 7 g in
    (min count (1 + j / 32 + ahead.0) ∷ [], ahead.1)

-- 32 numbers a place
unfoldable pub mentions : ℕ → Lcg → List ℕ × Lcg
mentions count = each (mention count) (32 * count) 0

-- the order, drawn behind the mix
abbrev pub order_list : ℕ → ℕ → ℕ → ℕ → ℕ → List ℕ
order_list warehouses items customers count start =
    (mentions count (mix warehouses items customers count (words_from start)).1).0
