-- The items so far are read, and the others are still to be read.
use Rattle.std.proofs.Common.{◌≡◌, ◌++◌, drop}
use Rattle.serde_json.specs.View.{items_view}
use Rattle.acc_cert_read.specs.Parts.{gives, items_from}
use Rattle.acc_cert_read.proofs.parts.SeqPart.read.Given as goal

abbrev pub invariant-loop-place : goal.invariant-loop-place
invariant-loop-place g l =
    items_from g.A.Part.shape 0 (items_view l.item-items) ≡ gives (λ xs. l.list ++ xs)
    (items_from g.A.Part.shape l.place (items_view (drop l.place l.item-items)))
