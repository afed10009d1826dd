use Rattle.std.proofs.Common.{◌++◌, ◌∙◌, ap, List, ℕ}
use Rattle.acc_page.proofs.Adding.{adds_both}
use Rattle.acc_commands_files.specs.Following.{counts_text}
use Rattle.acc_commands_files.proofs.follows.state_page.Goals as goal

pub returns : goal.returns
returns c whole =
    let counts = counts_text c.args.events c.args.unfinished in
    let added = adds_both c.new-text.result c.push_counts.new.out c.push.new.self counts c.args.rows.now c.push_counts.ensures c.push.ensures in
    (added whole).1 ∙ ap (λ (t : List ℕ). t ++ (counts ++ c.args.rows.now)) c.new-text.ensures.empty
