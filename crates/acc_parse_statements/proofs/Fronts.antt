-- A front of whole lines, and a line behind it.
use Rattle.std.proofs.Common.{◌≡◌, ℕ, zero, suc, ◌+◌, ◌<◌, List, [], ◌∷◌, ◌++◌, refl, sym, ap, ◌∙◌, arith, append_assoc}
use Rattle.acc_lex.proofs.LineFronts.{IsFed}
use Rattle.acc_parse_statements.specs.Lines.{feeds, first_lines}
use Rattle.acc_parse_statements.proofs.FirstLines.{next, next_more, feeds_both, lines_of}

-- a line stands at the front of what is left
abbrev pub Comes : List ℕ → List ℕ → List ℕ → Type 0
Comes rest l behind = (rest ≡ l ++ (10 ∷ behind)) × (feeds l ≡ 0)

-- the lines so far, and one more
abbrev pub longer : List ℕ → List ℕ → List ℕ
longer f l = f ++ (l ++ (10 ∷ []))

pub longer_whole : (text f rest l behind : List ℕ) → text ≡ f ++ rest → rest ≡ l ++ (10 ∷ behind) → text ≡ longer f l ++ behind
longer_whole text f rest l behind e s =
    e ∙ ap (λ (z : List ℕ). f ++ z) (s ∙ sym (append_assoc l (10 ∷ []) behind)) ∙ sym (append_assoc f (l ++ (10 ∷ [])) behind)

pub longer_feeds : (f l : List ℕ) → feeds l ≡ 0 → feeds (longer f l) ≡ feeds f + 1
longer_feeds f l e = let whole = feeds_both f (l ++ (10 ∷ [])) in let one = feeds_both l (10 ∷ []) in omega (arith, whole, one, e)

-- the lines so far are the first of the text
pub first_are : (text f rest : List ℕ) → IsFed f → text ≡ f ++ rest → first_lines (feeds f) text ≡ f
first_are text f rest h e = ap (first_lines (feeds f)) e ∙ lines_of (feeds f) f rest h refl

pub feeds_front : (text f rest : List ℕ) → text ≡ f ++ rest → feeds text ≡ feeds f + feeds rest
feeds_front text f rest e = ap feeds e ∙ feeds_both f rest

-- more lines than there are line feeds are the whole text
pub all_lines : (n : ℕ) (text : List ℕ) → feeds text < n → first_lines n text ≡ text
all_lines zero text h = absurd (omega (arith, h))
all_lines (suc n) [] h = refl
all_lines (suc n) (b ∷ bs) h = (λ i. b ∷ all_lines (next b n) bs (next_more b n bs h) i)
