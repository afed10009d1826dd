use Rattle.std.proofs.Common.{◌≡◌, List, [], ◌∷◌, length, ap, ◌∙◌, arith, ℕ}
use Rattle.std.proofs.lemmas.List.Sums.{prefix_len-le-length}
use Rattle.acc_script.specs.Pieces.{pieces_left}
use Rattle.acc_script.proofs.Cutting.{behind, cut_by}
use Rattle.acc_script.proofs.cuts.cut.Goals as goal

pub split_at-requires : goal.split_at-requires
split_at-requires c = rw c.piece_len.ensures (prefix_len-le-length _ _)

empty : (xs : List ℕ) → length xs ≡ 0 → xs ≡ []
empty [] h = λ i. []
empty (x ∷ xs) h = absurd (omega arith)

pub returns-in-Some : goal.returns-in-Some
returns-in-Some c =
    cut_by c.args.at c.piece_len.result c.args.text.now c.split_at.result.0.now c.split_at.result.1.now c.piece_len.ensures
    c.split_at.ensures.front c.split_at.ensures.back ∙ ap
    (λ (back : List ℕ). c.split_at.result.0.now ∷ pieces_left c.args.at (behind back)) c.in-Some.ensures.cases.0

pub returns-in-None : goal.returns-in-None
returns-in-None c =
    cut_by c.args.at c.piece_len.result c.args.text.now c.split_at.result.0.now c.split_at.result.1.now c.piece_len.ensures
    c.split_at.ensures.front c.split_at.ensures.back ∙ ap
    (λ (back : List ℕ). c.split_at.result.0.now ∷ pieces_left c.args.at (behind back))
    (empty c.split_at.result.1.now c.in-None.ensures.cases)
