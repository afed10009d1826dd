use Rattle.std.proofs.Common.{◌≡◌, true, List, [], ◌∷◌, ℕ, ap, sym, ◌∙◌}
use Rattle.std.specs.Prelude.{Some, None, if◌then◌else◌}
use Rattle.std.specs.List.{list_any}
use Rattle.acc_oblig.specs.Spares.{pairs_differ}
use Rattle.acc_oblig_clauses.specs.Seen.{seen}
use Rattle.acc_oblig_paths.proofs.Kept.{some_pairs}
use Rattle.acc_oblig_paths.proofs.entries.open_by_entry.Goals as goal

pub returns : goal.returns
returns c =
    let pairs = c.args.e.now.pairs in
    let s = seen c.args.s.now in
    let some : list_any (λ (p : ℕ × ℕ). true) pairs ≡ true = some_pairs pairs c.is_empty.result c.if-is_empty.false c.is_empty.ensures in
    ap Some (c.in_ok-only_pairs.ensures ∙ ap (λ (z : List (ℕ × ℕ)). pairs_differ s c.args.side z ∷ []) c.as_slice.ensures)
    ∙ ap (λ b. if b then Some (pairs_differ s c.args.side pairs ∷ []) else None) (sym some)
