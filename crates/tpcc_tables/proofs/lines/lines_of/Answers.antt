use Rattle.std.proofs.Common.{◌≡◌, ◌==◌, rules, ap, sym, ◌∙◌, length, if◌then◌else◌}
use Rattle.std.proofs.lemmas.Bool.Decides.{Decides-eqb}
use Rattle.tpcc_tables.specs.Lines.{lines_in}
use Rattle.tpcc_tables.proofs.LineFacts.{three_parts}
use Rattle.tpcc_tables.proofs.lines.lines_of.Goals as goal

pub returns-then-key-eq3 : goal.returns-then-key-eq3
returns-then-key-eq3 c =
    let k = c.args.key.now in
    let three : length k ≡ 3 = search rules in
    c.count_at.ensures ∙ ap (lines_in c.args.counts.now) (c.front_of.ensures ∙ three_parts k three)
    ∙ sym (ap (λ b. if b then lines_in c.args.counts.now k else 0) ((Decides-eqb (length k) 3).1 three))
