-- What the lines of a text say, one after the other, where it is known what a line by itself may say.
use Rattle.std.specs.Prelude.{◌≡◌, ℕ, ◌+◌, ◌<◌, ◌≤◌, false, List, [], ◌∷◌, ◌++◌, length, MatchBool}
use Rattle.acc_script.specs.Pieces.{lines_of, is_skipped}

-- the items are what a line says, and then those of which the rest holds
pub record Says {X : Type 0} (Line : List ℕ → List X → Type 0) (line : List ℕ) (Rest : List X → Type 0) (items : List X) : Type 0 where
  pub here : List X
  pub behind : List X
  pub parts : items ≡ here ++ behind
  pub said : Line line here
  pub rest : Rest behind

-- lines say these items: a skipped line says nothing, and each other line says some
abbrev pub AreSaid : {X : Type 0} → (List ℕ → List X → Type 0) → List (List ℕ) → List X → Type 0
AreSaid Line [] items = items ≡ []
AreSaid Line (line ∷ lines) items = MatchBool (is_skipped line) (AreSaid Line lines items) (Says Line line (AreSaid Line lines) items)

-- a text says these items, and they are at most so many
pub record IsSaid {X : Type 0} (Line : List ℕ → List X → Type 0) (most : ℕ) (text : List ℕ) (items : List X) : Type 0 where
  pub said : AreSaid Line (lines_of text) items
  pub few : length items ≤ most

-- whatever a line may say is too much behind so many items
abbrev pub IsTooMuch : {X : Type 0} → (List ℕ → List X → Type 0) → ℕ → List ℕ → ℕ → Type 0
IsTooMuch {X} Line most line n = (here : List X) → Line line here → most < n + length here

-- Line number n, from 1, is the first that is refused: the lines before it say few enough items, it isn't skipped, and whatever
-- it may say is too much behind those.
pub record Refuses {X : Type 0} (Line : List ℕ → List X → Type 0) (most : ℕ) (text : List ℕ) (n : ℕ) : Type 0 where
  pub before : List (List ℕ)
  pub line : List ℕ
  pub behind : List (List ℕ)
  pub parts : lines_of text ≡ before ++ line ∷ behind
  pub number : n ≡ length before + 1
  pub items : List X
  pub said : AreSaid Line before items
  pub few : length items ≤ most
  pub counts : is_skipped line ≡ false
  pub wrong : IsTooMuch Line most line (length items)

-- the new items are the old ones and then what a line says, and they are few enough
pub record AddsSaid {X : Type 0} (Line : List ℕ → List X → Type 0) (most : ℕ) (line : List ℕ) (old new : List X) : Type 0 where
  pub here : List X
  pub parts : new ≡ old ++ here
  pub said : Line line here
  pub few : length new ≤ most
