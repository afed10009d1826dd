-- The words of an order's line, read one after the other.
use Rattle.std.proofs.Common.{◌≡◌, ◌≢◌, ℕ, suc, ◌<◌, ◌≤◌, ◌^◌, List, [], ◌∷◌, ◌++◌, length, map, refl, sym, ap, ◌∙◌, arith, append_assoc}
use Rattle.std.proofs.Common.{length-append}
use Rattle.std.specs.Prelude.{All}
use Rattle.std.specs.Fmt.{decimal}
use Rattle.std.proofs.lemmas.Fmt.{decimal_injective}
use Rattle.std.proofs.lemmas.List.{map-append}
use Rattle.std.proofs.lemmas.List.Elements.{All-append, All-nil, All-cons, All-head, All-tail}
use Rattle.acc_script.specs.Pieces.{words_of}
use Rattle.acc_script.specs.LineReadings.{IsTooMuch}
use Rattle.acc_script.specs.OrderLines.{IsPlace, SaysPlaces, most_numbers}
use Rattle.acc_script.proofs.LineSteps.{SaysOne}

-- The first words of a line are read as numbers, which stand behind the old ones; the other words are left.
pub record PlacesSoFar (places : ℕ) (line : List ℕ) (left : List (List ℕ)) (old new : List ℕ) : Type 0 where
  pub here : List ℕ
  pub parts : new ≡ old ++ here
  pub words : words_of line ≡ map decimal here ++ left
  pub within : All (IsPlace places) here
  pub few : length new ≤ most_numbers

pub one_read : (places : ℕ) (line word : List ℕ) (left : List (List ℕ)) (old new : List ℕ) (k : ℕ) →
    PlacesSoFar places line (word ∷ left) old new → IsPlace places k → word ≡ decimal k → length new < most_numbers →
    PlacesSoFar places line left old (new ++ k ∷ [])
one_read places line word left old new k h place spelled few = record {
  here = h.here ++ k ∷ [];
  parts = ap (λ xs. xs ++ k ∷ []) h.parts ∙ append_assoc old h.here (k ∷ []);
  words = h.words ∙ (ap (λ w. map decimal h.here ++ w ∷ left) spelled ∙
      (sym (append_assoc (map decimal h.here) (map decimal (k ∷ [])) left) ∙ ap (λ ws. ws ++ left)
      (sym (map-append decimal h.here (k ∷ [])))));
  within = All-append (IsPlace places) h.here (k ∷ []) h.within (All-cons (IsPlace places) k [] place (All-nil _));
  few = simp length-append (omega arith);
}

-- a word behind those of some numbers is that of a further number
word_among : (here xs : List ℕ) (word : List ℕ) (left : List (List ℕ)) (P : ℕ → Type 0) → All P xs →
    map decimal here ++ word ∷ left ≡ map decimal xs → (k : ℕ) × P k × (word ≡ decimal k) × (length here < length xs)
word_among [] [] word left P all e = cc
word_among [] (x ∷ xs) word left P all e = (x, all 0 x (omega arith), (let f : word ≡ decimal x = cc in f), omega arith)
word_among (h ∷ here) [] word left P all e = cc
word_among (h ∷ here) (x ∷ xs) word left P all e =
    let rest : map decimal here ++ word ∷ left ≡ map decimal xs = cc in
    let w = word_among here xs word left P (λ i d g. all (suc i) d (omega arith)) rest in
    (w.0, w.1, w.2, omega arith)

-- the same of a line that is read so far
among : (places : ℕ) (line word : List ℕ) (left : List (List ℕ)) (old new xs : List ℕ) →
    (h : PlacesSoFar places line (word ∷ left) old new) → SaysPlaces places line xs → (k : ℕ) × IsPlace places k × (word ≡ decimal k) ×
    (length h.here < length xs)
among places line word left old new xs h says = word_among h.here xs word left (IsPlace places) says.within (sym h.words ∙ says.spelled)

-- a word that is no place's number refuses the line
pub no_place : (places : ℕ) (line word : List ℕ) (left : List (List ℕ)) (old new : List ℕ) → PlacesSoFar places line (word ∷ left) old new →
    ((k : ℕ) → IsPlace places k → word ≢ decimal k) → IsTooMuch (SaysPlaces places) most_numbers line (length old)
no_place places line word left old new h other = λ xs says. let w = among places line word left old new xs h says in
    absurd (other w.0 w.1 w.2)

-- and so does one that is too many
pub too_many : (places : ℕ) (line word : List ℕ) (left : List (List ℕ)) (old new : List ℕ) → PlacesSoFar places line (word ∷ left) old new →
    length new ≡ most_numbers → IsTooMuch (SaysPlaces places) most_numbers line (length old)
too_many places line word left old new h full = λ xs says.
    let w = among places line word left old new xs h says in omega (arith, ap length h.parts, length-append old h.here, w.3, full)

-- a line says its numbers in one way
same_places : (places : ℕ) → places < 2 ^ 64 → (xs ys : List ℕ) → All (IsPlace places) xs → All (IsPlace places) ys →
    map decimal xs ≡ map decimal ys → xs ≡ ys
same_places places fits [] [] p q e = refl
same_places places fits [] (y ∷ ys) p q e = cc
same_places places fits (x ∷ xs) [] p q e = cc
same_places places fits (x ∷ xs) (y ∷ ys) p q e =
    let px : IsPlace places x = All-head (IsPlace places) x xs p in
    let py : IsPlace places y = All-head (IsPlace places) y ys q in
    let first : decimal x ≡ decimal y = cc in
    let rest : map decimal xs ≡ map decimal ys = cc in
    let a : x ≡ y = decimal_injective x y (omega arith) (omega arith) first in
    let b : xs ≡ ys = same_places places fits xs ys (All-tail (IsPlace places) x xs p) (All-tail (IsPlace places) y ys q) rest in cc

pub says_one : (places : ℕ) → places < 2 ^ 64 → SaysOne (SaysPlaces places)
says_one places fits line xs ys h g = same_places places fits xs ys h.within g.within (sym h.spelled ∙ g.spelled)
