use Rattle.std.proofs.Common.{◌++◌, ℕ, List, [], ◌∷◌, ◌∙◌, ap, append_assoc}
use Rattle.std.specs.Prelude.{codes}
use Rattle.std.specs.Fmt.{decimal}
use Rattle.acc_audit_journal.proofs.lines.push_clean.Goals as goal

pub returns : goal.returns
returns c whole =
    let last = c.push.ensures whole in
    let first = c.push_labelled.ensures last.0 in (
      first.0,
      last.1 ∙ ap (λ (t : List ℕ). t ++ 10 ∷ []) first.1
          ∙ append_assoc c.args.out.now.text (codes "clean events " ++ decimal c.args.events) (10 ∷ []),
    )
