-- Statements that have no fault.
use Rattle.std.proofs.Common.{◌≡◌, ℕ, Bool, true, false, ◌||◌, List, [], ◌∷◌, ◌++◌, length, map, None, refl, arith, nat_lt}
use Rattle.std.specs.Prelude.{position}
use Rattle.std.specs.List.{flat_map, list_any, position_or_len}
use Rattle.std.proofs.lemmas.Bool.Decides.{nat_tests}
use Rattle.acc_grammar.specs.Readers.{AllIn}
use Rattle.acc_grammar.proofs.Exact.{AllIn-append}

-- ---- single faults

pub neither : (a b : Bool) → a ≡ false → b ≡ false → (a || b) ≡ false
neither true b h g = h
neither false b h g = g

pub not_either : (a b : Bool) → (a || b) ≡ false → (a ≡ false) × (b ≡ false)
not_either true b h = absurd cc
not_either false b h = (refl, h)

pub none_any : {X : Type 0} (fault : X → Bool) (xs : List X) → AllIn (λ x. fault x ≡ false) xs → list_any fault xs ≡ false
none_any fault [] h = refl
none_any fault (x ∷ xs) h = neither (fault x) (list_any fault xs) h.0 (none_any fault xs h.1)

-- ---- lists of faults

abbrev pub IsFalse : Bool → Type 0
IsFalse b = b ≡ false

abbrev pub AreFalse : List Bool → Type 0
AreFalse bs = AllIn IsFalse bs

pub false_both : (bs cs : List Bool) → AreFalse bs → AreFalse cs → AreFalse (bs ++ cs)
false_both bs cs h g = AllIn-append (λ b. b ≡ false) bs cs h g

pub false_each : {X : Type 0} (faults : X → List Bool) (xs : List X) → AllIn (λ x. AreFalse (faults x)) xs → AreFalse (flat_map faults xs)
false_each faults [] h = tt
false_each faults (x ∷ xs) h = false_both (faults x) (flat_map faults xs) h.0 (false_each faults xs h.1)

-- items, by their trees
pub false_mapped : {X Y : Type 0} (P : X → Type 0) (fault : Y → Bool) (tree : X → Y) → ((x : X) → P x → fault (tree x) ≡ false) →
    (xs : List X) → AllIn P xs → AreFalse (map fault (map tree xs))
false_mapped P fault tree each [] h = tt
false_mapped P fault tree each (x ∷ xs) h = (each x h.0, false_mapped P fault tree each xs h.1)

past_all : (bs : List Bool) → AreFalse bs → position_or_len (λ fault. fault) bs ≡ length bs
past_all [] h = refl
past_all (b ∷ bs) h = rw (h.0, past_all bs h.1) (omega arith)

none_within : (n m : ℕ) → n ≡ m → nat_lt n m ≡ false
none_within n m h = grind (arith, nat_tests)

pub none_first : (bs : List Bool) → AreFalse bs → position (λ fault. fault) bs ≡ None
none_first bs h = rw (none_within (position_or_len (λ fault. fault) bs) (length bs) (past_all bs h)) refl
