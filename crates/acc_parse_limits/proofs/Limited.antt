-- One more item of a list of which there may be so many.
use Rattle.std.proofs.Common.{◌≡◌, ℕ, ◌+◌, ◌<◌, ◌==◌, List, [], ◌∷◌, ◌++◌, length, take, get_or, arith}
use Rattle.std.proofs.lemmas.Grind.{common_steps}
use Rattle.acc_base.specs.declared.limits.Limit.{Limit}
use Rattle.acc_parse_limits.specs.declared.walks.Walk.{Walk}
use Rattle.acc_parse_limits.specs.Marks.{Mark, past, limited_from, limited}
use Rattle.acc_parse_limits.specs.Walks.{after}

limited_from_push : {T : Type 0} (i n : ℕ) (limit : Limit) (most : ℕ) (marks : T → List Mark) (xs : List T) (x : T) →
    n ≡ i + length xs → limited_from i limit most marks (xs ++ x ∷ []) ≡ limited_from i limit most marks xs ++
    (past limit (n == most) ++ marks x)
limited_from_push i n limit most marks [] x e =
    let here : n ≡ i = omega arith in rw here (grind (arith, common_steps))
limited_from_push i n limit most marks (y ∷ ys) x e =
    rw (limited_from_push (i + 1) n limit most marks ys x (omega arith)) (grind (arith, common_steps))

-- the item behind the others passes the limit where it has the number `most`
pub limited_push : {T : Type 0} (limit : Limit) (most : ℕ) (marks : T → List Mark) (xs : List T) (x : T) (n : ℕ) →
    n ≡ length xs → limited limit most marks (xs ++ x ∷ []) ≡ limited limit most marks xs ++ (past limit (n == most) ++ marks x)
limited_push limit most marks xs x n e = limited_from_push 0 n limit most marks xs x (omega arith)

-- the walk that has met one more item of a list
pub limited_next : {T : Type 0} (limit : Limit) (most : ℕ) (marks : T → List Mark) (xs : List T) (i : ℕ) (x : T)
    (start before within behind : Walk) →
    before ≡ after start (limited limit most marks (take i xs)) → within ≡ after before (past limit (i == most)) →
    behind ≡ after within (marks x) →
    i < length xs → x ≡ get_or xs i x → behind ≡ after start (limited limit most marks (take (i + 1) xs))
limited_next limit most marks xs i x start before within behind e f g l h =
    let more = limited_push limit most marks (take i xs) x i (grind (arith, common_steps)) in
    grind (arith, common_steps, more)
