-- Lines that are written part by part.
use Rattle.std.proofs.Common.{◌≡◌, ℕ, Bool, List, [], ◌∷◌, ◌++◌, subst, append_assoc, codes}
use Rattle.acc_page.specs.Written.{Written, Adds}
use Rattle.acc_page.proofs.Adding.{adds_both}
use Rattle.rand_pcg.specs.Lcg.{Lcg}
use Rattle.tpcc_gen.specs.Draws.{random}
use Rattle.tpcc_gen.specs.Loads.{carrier, dated, order_tape}
use Rattle.tpcc_gen.specs.Writing.{call, taped_line}

-- what stands before the numbers of a tape, the numbers, and the line feed
pub adds_taped :
    (old headed taped new : Written) (name params tape : List ℕ) → Adds old headed (call name params ++ codes " |")
    → Adds headed taped tape → Adds taped new (10 ∷ []) → Adds old new (taped_line name params tape)
adds_taped old headed taped new name params tape head numbers feed =
    let whole = adds_both old taped new ((call name params ++ codes " |") ++ tape) (10 ∷ [])
    (adds_both old headed taped (call name params ++ codes " |") tape head numbers) feed in
    subst (λ (z : List ℕ). Adds old new (z ++ 10 ∷ [])) (append_assoc (call name params) (codes " |") tape) whole

-- what is drawn of an order before its tape, and its tape
pub order_drawn :
    (items w : ℕ) (delivered due : Bool) (g one two : Lcg) (count by flag : ℕ) → delivered ≡ due → count ≡ (random 5 15 g).0
    → one ≡ (random 5 15 g).1 → by ≡ (carrier delivered one).0 → two ≡ (carrier delivered one).1 → flag ≡ dated delivered
    → (count ∷ 1 ∷ by ∷ flag ∷ [] ≡ (random 5 15 g).0 ∷ 1 ∷ (carrier due (random 5 15 g).1).0 ∷ dated due ∷ [])
    × (order_tape items w delivered count two ≡ order_tape items w due (random 5 15 g).0 (carrier due (random 5 15 g).1).1)
order_drawn items w delivered due g one two count by flag is counted passed carried moved flagged = (cc, cc)
