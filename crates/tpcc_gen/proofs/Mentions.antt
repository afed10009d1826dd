-- The numbers of an order, drawn one behind the other.
use Rattle.std.proofs.Common.{◌≡◌, ℕ, zero, suc, ◌+◌, ◌-◌, ◌*◌, ◌<◌, ◌≤◌, List, [], ◌∷◌, ◌++◌, ap, sym, subst, ◌∙◌, append_assoc, arith}
use Rattle.std.specs.Prelude.{All}
use Rattle.std.proofs.lemmas.List.Elements.{All-nil, All-cons, All-append}
use Rattle.std.proofs.lemmas.List.{append-nil}
use Rattle.rand_pcg.specs.Lcg.{Lcg}
use Rattle.acc_script.specs.OrderLines.{IsPlace}
use Rattle.tpcc_gen.specs.Draws.{each}
use Rattle.tpcc_gen.specs.Orders.{mention, mentions}

-- number k is drawn: what is left makes of the list what it did before
pub mentions_on :
    (now : List ℕ) (here there : Lcg) (draw : ℕ → Lcg → List ℕ × Lcg) (x m k : ℕ) (whole : List ℕ) → k < m
    → now ++ (each draw (m - k) k here).0 ≡ whole → (draw k here).0 ≡ x ∷ [] → there ≡ (draw k here).1
    → (now ++ x ∷ []) ++ (each draw (m - (k + 1)) (k + 1) there).0 ≡ whole
unfolding each
mentions_on now here there draw x m k whole more owed one moved =
    let left : m - k ≡ suc (m - (k + 1)) = omega arith in
    let all : now ++ (each draw (suc (m - (k + 1))) k here).0 ≡ whole =
    subst (λ (z : ℕ). now ++ (each draw z k here).0 ≡ whole) left owed in
    let rest = λ (g : Lcg). (each draw (m - (k + 1)) (k + 1) g).0 in
    append_assoc now (x ∷ []) (rest there)
    ∙ (ap (λ (z : List ℕ). now ++ (z ++ rest there)) (sym one)
    ∙ (ap (λ (g : Lcg). now ++ ((draw k here).0 ++ rest g)) moved ∙ all))

-- none is left
pub mentions_past :
    (now : List ℕ) (here : Lcg) (draw : ℕ → Lcg → List ℕ × Lcg) (m k : ℕ) (whole : List ℕ) → m ≤ k
    → now ++ (each draw (m - k) k here).0 ≡ whole → now ≡ whole
unfolding each
mentions_past now here draw m k whole past owed =
    let left : m - k ≡ zero = omega arith in
    sym (append-nil now) ∙ subst (λ (z : ℕ). now ++ (each draw z k here).0 ≡ whole) left owed

-- what is true of each number that is drawn is true of all
each_all :
    (P : ℕ → Type 0) (draw : ℕ → Lcg → List ℕ × Lcg) → ((k : ℕ) (g : Lcg) → All P (draw k g).0)
    → (n k : ℕ) (g : Lcg) → All P (each draw n k g).0
unfolding each
each_all P draw ok zero k g = All-nil P
each_all P draw ok (suc n) k g =
    All-append P (draw k g).0 (each draw n (k + 1) (draw k g).1).0 (ok k g) (each_all P draw ok n (k + 1) (draw k g).1)

mention_place : (count j : ℕ) (g : Lcg) → 1 ≤ count → All (IsPlace count) (mention count j g).0
unfolding mention
mention_place count j g some = All-cons (IsPlace count) _ [] (omega arith, omega arith) (All-nil (IsPlace count))

-- the numbers of an order are places of its mix
pub mentions_places : (count : ℕ) (g : Lcg) → All (IsPlace count) (mentions count g).0
unfolding mentions each
mentions_places zero g = All-nil (IsPlace zero)
mentions_places (suc count) g =
    each_all (IsPlace (suc count)) (mention (suc count)) (λ k h. mention_place (suc count) k h (omega arith)) (32 * suc count) 0 g
