-- What a page of text holds, and what writing adds to it.
use Rattle.std.specs.Prelude.{◌≡◌, Bool, false, ℕ, List, ◌++◌}

-- what a page shows: its text, and whether memory lacked for a part of it
pub record Written : Type 0 where
  pub text : List ℕ
  pub cut : Bool

-- unless it is cut, the new page has this part behind the old one's text, and the old one wasn't cut
abbrev pub Adds : Written → Written → List ℕ → Type 0
Adds old new part = new.cut ≡ false → (old.cut ≡ false) × (new.text ≡ old.text ++ part)

-- the same in midst of a loop: what is to be added still makes of the text what adding the whole makes of the old one's
abbrev pub Owes : Written → Written → List ℕ → List ℕ → Type 0
Owes old now rest whole = now.cut ≡ false → (old.cut ≡ false) × (now.text ++ rest ≡ old.text ++ whole)
