-- The first piece of a text.
use Rattle.std.proofs.Common.{◌≡◌, ℕ, ◌+◌, ◌≤◌, Bool, true, false, cond, List, [], ◌∷◌, length, take, drop, refl, ap, arith, suc, Option}
use Rattle.std.proofs.Common.{Some, None}
use Rattle.std.specs.Prelude.{◌==◌, not}
use Rattle.std.specs.List.{prefix_len, onto_first}
use Rattle.std.proofs.lemmas.List.Sums.{count_by-le-length}
use Rattle.std.proofs.lemmas.List.Splits.{length-slice_split}
use Rattle.acc_script.specs.Pieces.{pieces, pieces_left}

-- how many bytes stand before the first byte c
abbrev pub before : ℕ → List ℕ → ℕ
before c text = prefix_len (λ b. not (b == c)) text

-- what stands behind the first byte, if there is one
abbrev pub behind : List ℕ → Option (List ℕ)
behind [] = None
behind (b ∷ rest) = Some rest

pub pieces_cut : (c : ℕ) (text : List ℕ) → pieces c text ≡ take (before c text) text ∷ pieces_left c (behind (drop (before c text) text))
pieces_cut c [] = refl
pieces_cut c (b ∷ text) = by (b == c) (pieces_cut c text)
  where
    longer : (n : ℕ) → 1 + n ≡ suc n
    longer n = omega arith

    by : (t : Bool) → pieces c text ≡ take (before c text) text ∷ pieces_left c (behind (drop (before c text) text)) →
        cond t ([] ∷ pieces c text) (onto_first b (pieces c text)) ≡ take (cond (not t) (1 + before c text) 0) (b ∷ text) ∷ pieces_left c
        (behind (drop (cond (not t) (1 + before c text) 0) (b ∷ text)))
    by true ih = refl
    by false ih = rw (longer (before c text)) (ap (onto_first b) ih)

pub cut_by : (c n : ℕ) (text piece back : List ℕ) → n ≡ before c text → piece ≡ take n text → back ≡ drop n text →
    pieces c text ≡ piece ∷ pieces_left c (behind back)
cut_by c n text piece back count front rest = let e = pieces_cut c text in cc

-- a text has at most one piece more than bytes
pub length_pieces : (c : ℕ) (text : List ℕ) → length (pieces c text) ≤ length text + 1
length_pieces c text =
    omega (arith, length-slice_split (λ (b : ℕ). b == c) text, count_by-le-length (λ (b : ℕ). b == c) text)
