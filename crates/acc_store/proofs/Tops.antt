-- A prefix that is filled up to six parts.
use Rattle.std.proofs.Common.{◌≡◌, ◌-◌, ◌≤◌, List, ◌++◌, length, take, drop, replicate, ap, ◌∙◌, arith, length-append, ℤ}
use Rattle.std.proofs.lemmas.List.{drop-replicate, length-replicate, take_all}

pub filled : (p : List ℤ) (x : ℤ) → length p ≤ 6 → take 6 (p ++ drop (length p) (replicate 6 x)) ≡ p ++ replicate (6 - length p) x
filled p x short =
    let rest = replicate (6 - length p) x in
    let fits : length (p ++ rest) ≤ 6 = omega (arith, length-append p rest, length-replicate (6 - length p) x) in
    ap (λ ys. take 6 (p ++ ys)) (drop-replicate (length p) 6 x) ∙ take_all 6 (p ++ rest) fits
