-- Marks that a walk meets one after the other.
use Rattle.std.proofs.Common.{◌≡◌, ◌∙◌, ◌+◌, ◌<◌, ℕ, List, [], ◌∷◌, ◌++◌, length, take, get_or, map, ap, sym, arith}
use Rattle.std.specs.List.{flat_map}
use Rattle.std.proofs.lemmas.List.{map_more}
use Rattle.std.proofs.lemmas.Grind.{common_steps}
use Rattle.acc_parse_limits.specs.declared.walks.Walk.{Walk}
use Rattle.acc_parse_limits.specs.Marks.{Mark}
use Rattle.acc_parse_limits.specs.Walks.{after}

-- three lists of marks
pub walked_thrice : (ks ls ms : List Mark) (w u v x : Walk) → u ≡ after w ks → v ≡ after u ls → x ≡ after v ms →
    x ≡ after w (ks ++ (ls ++ ms))
walked_thrice ks ls ms w u v x e f g = grind (arith, common_steps)

-- one more item: what is made of it, and the walk that has met its marks
pub made_next : {T U : Type 0} (f : T → U) (xs : List T) (i : ℕ) (x : T) (made more : List U) → made ≡ map f (take i xs) →
    more ≡ made ++ f x ∷ [] → i < length xs → x ≡ get_or xs i x → more ≡ map f (take (i + 1) xs)
made_next f xs i x made more e g l h = g ∙ ap (λ ys. ys ++ f x ∷ []) e ∙ ap (λ z. map f (take i xs) ++ f z ∷ []) h ∙ sym
    (map_more f xs i x l)

pub walked_next : {T : Type 0} (marks : T → List Mark) (xs : List T) (i : ℕ) (x : T) (w u v : Walk) →
    u ≡ after w (flat_map marks (take i xs)) → v ≡ after u (marks x) → i < length xs → x ≡ get_or xs i x →
    v ≡ after w (flat_map marks (take (i + 1) xs))
walked_next marks xs i x w u v e f l h = grind (arith, common_steps)
