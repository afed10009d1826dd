-- Marks, and the bytes of what isn't begun.
use Rattle.std.proofs.Common.{zero, suc, take, get_or, set, replicate, slice_get, ◌≡◌, Some, true, false, ◌≤◌, ◌<◌, ◌+◌, ◌++◌, ℕ, Bool}
use Rattle.std.proofs.Common.{List, [], ◌∷◌, length, refl, ◌∙◌, ap, arith, length-append}
use Rattle.std.specs.Prelude.{if◌then◌else◌, map}
use Rattle.std.proofs.lemmas.List.{take_all}
use Rattle.std.proofs.lemmas.Option.{same_Some, none-some}
use Rattle.acc_base.specs.declared.machines.Call.{Call}
use Rattle.acc_base.specs.declared.machines.Event.TheVariants.{Begin}
use Rattle.acc_wal.specs.Spellings.{body, event_bytes}
use Rattle.acc_engine.specs.Keeping.{unbegun, begin_of}

unbegun_padded : (marks : List Bool) (n : ℕ) (calls : List Call) → unbegun (marks ++ replicate n false) calls ≡ unbegun marks calls
unfolding unbegun
unbegun_padded marks n [] = refl
unbegun_padded [] zero (call ∷ calls) = refl
unbegun_padded [] (suc n) (call ∷ calls) = ap (λ k. length (event_bytes (Begin call)) + k) (unbegun_padded [] n calls)
unbegun_padded (true ∷ marks) n (call ∷ calls) = unbegun_padded marks n calls
unbegun_padded (false ∷ marks) n (call ∷ calls) = ap (λ k. length (event_bytes (Begin call)) + k) (unbegun_padded marks n calls)

pub unbegun_widened : (ok : Bool) (old new : List Bool) (count n : ℕ) (calls : List Call) → length old ≤ count
    → new ≡ (if ok then take count old ++ replicate n false else old) → unbegun new calls ≡ unbegun old calls
unbegun_widened true old new count n calls le is =
    ap (λ (l : List Bool). unbegun l calls) (is ∙ ap (λ (l : List Bool). l ++ replicate n false) (take_all count old le)) ∙ unbegun_padded
    old n calls
unbegun_widened false old new count n calls le is = ap (λ (l : List Bool). unbegun l calls) is

pub unbegun_set : (p : ℕ) (marks : List Bool) (calls : List Call) (call : Call) → p < length marks → get_or marks p false ≡ false
    → slice_get calls p ≡ Some call → unbegun marks calls ≡ length (event_bytes (Begin call)) + unbegun (set marks p true) calls
unfolding unbegun
unbegun_set p [] calls call lt fresh is = absurd (omega (arith, lt))
unbegun_set zero (b ∷ marks) [] call lt fresh is = absurd (none-some call is)
unbegun_set (suc p) (b ∷ marks) [] call lt fresh is = absurd (none-some call is)
unbegun_set zero (true ∷ marks) (c ∷ calls) call lt fresh is = absurd cc
unbegun_set zero (false ∷ marks) (c ∷ calls) call lt fresh is =
    ap (λ x. length (event_bytes (Begin x)) + unbegun marks calls) (same_Some c call is)
unbegun_set (suc p) (true ∷ marks) (c ∷ calls) call lt fresh is = unbegun_set p marks calls call (omega (arith, lt)) fresh is
unbegun_set (suc p) (false ∷ marks) (c ∷ calls) call lt fresh is =
    omega (arith, unbegun_set p marks calls call (omega (arith, lt)) fresh is)

-- where none is begun
pub unbegun_all : (calls : List Call) → unbegun [] calls ≡ length (body (map begin_of calls))
unfolding unbegun body
unbegun_all [] = refl
unbegun_all (call ∷ calls) = omega (arith, unbegun_all calls, length-append (event_bytes (Begin call)) (body (map begin_of calls)))
