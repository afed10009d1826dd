-- Orders: each line has numbers of places.
use Rattle.std.specs.Prelude.{◌≡◌, ℕ, ◌≤◌, ◌^◌, List, map, All}
use Rattle.std.specs.Fmt.{decimal}
use Rattle.acc_script.specs.Pieces.{words_of}
use Rattle.acc_script.specs.LineReadings.{IsSaid, Refuses}

-- how many numbers an order may have
abbrev pub most_numbers : ℕ
most_numbers = 2 ^ 20

-- the number of one of so many places, which are counted from 1
abbrev pub IsPlace : ℕ → ℕ → Type 0
IsPlace places k = (1 ≤ k) × (k ≤ places)

-- the words of a line are these numbers of places
pub record SaysPlaces (places : ℕ) (line : List ℕ) (numbers : List ℕ) : Type 0 where
  pub spelled : words_of line ≡ map decimal numbers
  pub within : All (IsPlace places) numbers

-- the text is an order of these numbers
abbrev pub IsOrder : ℕ → List ℕ → List ℕ → Type 0
IsOrder places = IsSaid (SaysPlaces places) most_numbers

-- line number n, from 1, is the first by which the text is no order: a word isn't a place's number, or the numbers become too many
abbrev pub RefusesOrderLine : ℕ → List ℕ → ℕ → Type 0
RefusesOrderLine places = Refuses (SaysPlaces places) most_numbers
