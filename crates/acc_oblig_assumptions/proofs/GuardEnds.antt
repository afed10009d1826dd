-- The last relation of a guard, and those before it.
use Rattle.std.proofs.Common.{◌≡◌, ◌-◌, ◌<◌, List, [], ◌∷◌, length, take, get_or, refl, ap, ◌∙◌, arith}
use Rattle.acc_base.specs.declared.forms.LinRel.{LinRel}
use Rattle.acc_oblig.specs.declared.naming.Naming.{Naming}
use Rattle.acc_oblig.specs.Relations.{denied, but_last, last_denied}

front : (x : LinRel) (xs : List LinRel) → take (length xs) (x ∷ xs) ≡ but_last (x ∷ xs)
front x [] = refl
front x (y ∷ xs) = ap (λ z. x ∷ z) (front y xs)

pub front_is : (xs : List LinRel) → take (length xs - 1) xs ≡ but_last xs
front_is [] = refl
front_is (x ∷ xs) = let e : length (x ∷ xs) - 1 ≡ length xs = omega arith in ap (λ n. take n (x ∷ xs)) e ∙ front x xs

last_at : (n : Naming) (x : LinRel) (xs : List LinRel) (d : LinRel) → denied n (get_or (x ∷ xs) (length xs) d) ≡ last_denied n (x ∷ xs)
last_at n x [] d = refl
last_at n x (y ∷ xs) d = last_at n y xs d

pub last_is :
    (n : Naming) (xs : List LinRel) (x : LinRel) → 0 < length xs → x ≡ get_or xs (length xs - 1) x → denied n x ≡ last_denied n xs
last_is n [] x h e = absurd (omega arith)
last_is n (y ∷ xs) x h e =
    let f : length (y ∷ xs) - 1 ≡ length xs = omega arith in
    ap (denied n) e ∙ (ap (λ m. denied n (get_or (y ∷ xs) m x)) f ∙ last_at n y xs x)
