-- The line of an obligation that isn't proved, as it is written.
use Rattle.std.proofs.Common.{◌≡◌, ℕ, List, [], ◌∷◌, ◌++◌, codes, ap, subst, ◌∙◌, append_assoc}
use Rattle.acc_base.specs.declared.designs.Design.{Design}
use Rattle.acc_base.specs.declared.sequents.Origin.{Origin}
use Rattle.acc_page.specs.Written.{Written, Adds}
use Rattle.acc_page.proofs.Adding.{adds_both}
use Rattle.acc_oblig_origins.specs.Origins.{origin_text}
use Rattle.acc_cert_prove.specs.Lines.{line_of}

-- where the obligation comes from, how its search ended, and a line feed
pub line_added :
    (d : Design) (o : Origin) (end : List ℕ) (old opened told new : Written)
    → Adds old opened (codes "open " ++ (origin_text d o ++ codes " ")) → Adds opened told end → Adds told new (10 ∷ [])
    → Adds old new (line_of d o end)
line_added d o end old opened told new first second third =
    let head : List ℕ = codes "open " ++ (origin_text d o ++ codes " ") in
    let same : (head ++ end) ++ 10 ∷ [] ≡ line_of d o end =
    ap (λ (z : List ℕ). z ++ 10 ∷ [])
    (append_assoc (codes "open ") (origin_text d o ++ codes " ") end
    ∙ ap (λ (z : List ℕ). codes "open " ++ z) (append_assoc (origin_text d o) (codes " ") end)) in
    let P : List ℕ → Type 0 = λ text. Adds old new text in
    subst P same (adds_both old told new (head ++ end) (10 ∷ []) (adds_both old opened told head end first second) third)
