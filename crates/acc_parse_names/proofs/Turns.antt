-- A turn of a loop over a list: what is taken, and what is left.
use Rattle.std.proofs.Common.{◌≡◌, ℕ, ◌+◌, ◌<◌, Bool, true, false, List, [], ◌∷◌, ◌++◌, length, take, drop, map, get_or, refl, sym, ap, ◌∙◌}
use Rattle.std.specs.Prelude.{◌||◌}
use Rattle.std.proofs.lemmas.List.{append_assoc, drop_more, take_more, map_push}
use Rattle.acc_parse_names.specs.Names.{stands_in, defines_again}

pub left_at : {T : Type 0} (xs : List T) (i : ℕ) (x : T) → i < length xs → x ≡ get_or xs i x → drop i xs ≡ x ∷ drop (i + 1) xs
left_at xs i x lt is = drop_more xs i x lt ∙ ap (λ y. y ∷ drop (i + 1) xs) (sym is)

pub taken_at : {T : Type 0} (xs : List T) (i : ℕ) (x : T) → i < length xs → x ≡ get_or xs i x → take (i + 1) xs ≡ take i xs ++ x ∷ []
taken_at xs i x lt is = take_more xs i x lt ∙ ap (λ y. take i xs ++ y ∷ []) (sym is)

pub or_assoc : (a b c : Bool) → ((a || b) || c) ≡ (a || (b || c))
or_assoc true b c = refl
or_assoc false b c = refl

pub or_false : (a : Bool) → (a || false) ≡ a
or_false true = refl
or_false false = refl

pub again_at : (earlier later names : List (List ℕ)) (i : ℕ) (x : List ℕ) (again found : Bool) → i < length names → x ≡ get_or names i x →
    found ≡ stands_in x earlier
    → later ≡ earlier ++ x ∷ [] → ((again || found) || defines_again later (drop (i + 1) names)) ≡
    (again || defines_again earlier (drop i names))
again_at earlier later names i x again found lt is f l =
    or_assoc again found _ ∙ (λ k. again || (f k || defines_again (l k) (drop (i + 1) names))) ∙ ap (λ z. again || defines_again earlier z)
    (sym (left_at names i x lt is))

-- what is gathered, one item further
pub gathered_at : {T : Type 0} (first now later xs : List T) (i : ℕ) (x : T) → i < length xs → x ≡ get_or xs i x →
    now ≡ first ++ take i xs → later ≡ now ++ x ∷ [] → later ≡ first ++ take (i + 1) xs
gathered_at first now later xs i x lt is n l =
    l ∙ ap (λ z. z ++ x ∷ []) n ∙ append_assoc first (take i xs) (x ∷ []) ∙ ap (λ z. first ++ z) (sym (taken_at xs i x lt is))

-- what is written and what is left, one part further
pub written : {T : Type 0} (now later part left rest all : List T) → later ≡ now ++ part → left ≡ part ++ rest → now ++ left ≡ all →
    later ++ rest ≡ all
written now later part left rest all l is n = ap (λ z. z ++ rest) l ∙ append_assoc now part rest ∙ ap (λ z. now ++ z) (sym is) ∙ n

pub mapped_at : {T U : Type 0} (f : T → U) (xs : List T) (i : ℕ) (x : T) (now later : List U) → i < length xs → x ≡ get_or xs i x →
    now ≡ map f (take i xs) → later ≡ now ++ f x ∷ [] → later ≡ map f (take (i + 1) xs)
mapped_at f xs i x now later lt is n l = l ∙ ap (λ z. z ++ f x ∷ []) n ∙ sym (map_push f (take i xs) x) ∙ ap (map f)
    (sym (taken_at xs i x lt is))

-- three parts, one behind another
pub three_parts : {T : Type 0} (f0 f1 f2 f3 a b c : List T) → f1 ≡ f0 ++ a → f2 ≡ f1 ++ b → f3 ≡ f2 ++ c → f3 ≡ f0 ++ (a ++ (b ++ c))
three_parts f0 f1 f2 f3 a b c e1 e2 e3 =
    e3 ∙ ap (λ z. z ++ c) e2 ∙ append_assoc f1 b c ∙ ap (λ z. z ++ (b ++ c)) e1 ∙ append_assoc f0 a (b ++ c)
