-- Computations that may stop before their end, one after the other, and what a call's answer tells of one.
use Rattle.std.specs.Prelude.{◌≡◌, ⊤, Bool, true, false, List, [], ◌∷◌, Result, Ok, Err}

-- one computation after the other: the first that stops ends both
abbrev pub chain : {A B E : Type 0} → Result A E → (A → Result B E) → Result B E
chain (Ok x) next = next x
chain (Err e) next = Err e

-- a step for each item, from the first on
abbrev pub steps : {S X E : Type 0} → (S → X → Result S E) → S → List X → Result S E
steps step s [] = Ok s
steps step s (x ∷ xs) = chain (step s x) (λ t. steps step t xs)

-- ---- what a call's answer tells of a computation, where some causes tell how it stops, and others, as want of memory, tell nothing

abbrev pub StopsBy : {A E : Type 0} → Bool → E → Result A E → Type 0
StopsBy true e computed = computed ≡ Err e
StopsBy false e computed = ⊤

-- a call that answers a value tells that it is the computation's
abbrev pub Answers : {A E : Type 0} → (E → Bool) → Result A E → Result A E → Type 0
Answers tells (Ok x) computed = computed ≡ Ok x
Answers tells (Err e) computed = StopsBy (tells e) e computed

-- the same of a call that leaves the value in place of what was there
abbrev pub Leaves : {A B E : Type 0} → (E → Bool) → Result B E → A → Result A E → Type 0
Leaves tells (Ok _) x computed = computed ≡ Ok x
Leaves tells (Err e) x computed = StopsBy (tells e) e computed
