-- One more item of a list whose items have numbers.
use Rattle.std.proofs.Common.{◌≡◌, ℕ, ◌+◌, ◌<◌, List, [], ◌∷◌, ◌++◌, length, take, get_or, arith}
use Rattle.std.proofs.lemmas.Grind.{common_steps}
use Rattle.acc_form.specs.declared.walks.Walk.{Walk}
use Rattle.acc_form.specs.Marks.{Mark, numbered_from, numbered}
use Rattle.acc_form.specs.Walks.{after}

numbered_from_push : {T : Type 0} (i n : ℕ) (marks : ℕ → T → List Mark) (xs : List T) (x : T) →
    n ≡ i + length xs → numbered_from i marks (xs ++ x ∷ []) ≡ numbered_from i marks xs ++ marks n x
numbered_from_push i n marks [] x e =
    let here : n ≡ i = omega arith in rw here (grind (arith, common_steps))
numbered_from_push i n marks (y ∷ ys) x e =
    rw (numbered_from_push (i + 1) n marks ys x (omega arith)) (grind (arith, common_steps))

numbered_push : {T : Type 0} (marks : ℕ → T → List Mark) (xs : List T) (x : T) (n : ℕ) →
    n ≡ length xs → numbered marks (xs ++ x ∷ []) ≡ numbered marks xs ++ marks n x
numbered_push marks xs x n e = numbered_from_push 0 n marks xs x (omega arith)

-- the walk that has met one more item of a list
pub numbered_next : {T : Type 0} (marks : ℕ → T → List Mark) (xs : List T) (i : ℕ) (x : T) (start before behind : Walk) →
    before ≡ after start (numbered marks (take i xs)) → behind ≡ after before (marks i x) →
    i < length xs → x ≡ get_or xs i x → behind ≡ after start (numbered marks (take (i + 1) xs))
numbered_next marks xs i x start before behind e f l h =
    let more = numbered_push marks (take i xs) x i (grind (arith, common_steps)) in
    grind (arith, common_steps, more)
