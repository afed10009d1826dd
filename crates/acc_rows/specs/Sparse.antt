-- Lists of numbers, each at a place, in order of place and without zeros.
use Rattle.std.specs.Prelude.{◌==◌, ℕ, nat_lt, Bool, true, false, ◌&&◌, if◌then◌else◌, List, [], ◌∷◌, Ok, ℤ, pos}
use Rattle.std.specs.Ordering.{int_eq}
use Rattle.std.specs.Cmp.Lexicographic.{pointwise}
use Rattle.acc_base.specs.Computing.{chain}
use Rattle.acc_rows.specs.Answers.{Computation}
use Rattle.acc_rows.specs.Numbers.{product, sum}

abbrev pub Sparse : Type 0
Sparse = List (ℕ × ℤ)

-- the number at a place, 0 where none stands
abbrev pub at : ℕ → Sparse → ℤ
at u [] = pos 0
at u (t ∷ ts) = if t.0 == u then t.1 else at u ts

-- a number in front of others
abbrev pub put : ℕ → Computation ℤ → Computation Sparse → Computation Sparse
put u number others = chain number (λ n. chain others (λ rest. Ok ((u, n) ∷ rest)))

-- the same, where the number may be 0
abbrev pub put_left : ℕ → Computation ℤ → Computation Sparse → Computation Sparse
put_left u number others =
    chain number (λ n. chain others (λ rest. Ok (if int_eq n (pos 0) then rest else ((u, n) ∷ rest))))

-- p times a list
abbrev pub scaled : ℤ → Sparse → Computation Sparse
scaled p [] = Ok []
scaled p (t ∷ ts) = put t.0 (product p t.1) (scaled p ts)

-- p times a number and q times another
abbrev pub mixture : ℤ → ℤ → ℤ → ℤ → Computation ℤ
mixture p m q n = chain (product p m) (λ a. chain (product q n) (λ b. sum a b))

-- p times a list that begins with s, and q times another; `others` is the rest of the first, mixed
abbrev pub mixed_after : ℤ → ℤ → ℕ × ℤ → (Sparse → Computation Sparse) → Sparse → Computation Sparse
mixed_after p q s others [] = put s.0 (product p s.1) (others [])
mixed_after p q s others (t ∷ ts) =
    if nat_lt s.0 t.0 then put s.0 (product p s.1) (others (t ∷ ts))
    else (if nat_lt t.0 s.0 then put t.0 (product q t.1) (mixed_after p q s others ts)
    else put_left s.0 (mixture p s.1 q t.1) (others ts))

-- p times a list and q times another, place by place
abbrev pub mixed : ℤ → ℤ → Sparse → Sparse → Computation Sparse
mixed p q [] ys = scaled q ys
mixed p q (s ∷ ss) ys = mixed_after p q s (mixed p q ss) ys

-- whether two lists are the same
abbrev pub same_numbers : Sparse → Sparse → Bool
same_numbers xs ys = pointwise (λ s t. (s.0 == t.0) && int_eq s.1 t.1) xs ys

abbrev pub no_numbers : Sparse → Bool
no_numbers [] = true
no_numbers (t ∷ ts) = false
