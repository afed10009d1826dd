use Rattle.std.proofs.Common.{◌++◌, length, ap, ◌∙◌, List, ℕ}
use Rattle.acc_page.proofs.Adding.{adds_both}
use Rattle.acc_bench.specs.Answers.{counts_text, conditions_line}
use Rattle.acc_bench.proofs.answers.bench_answer.Goals as goal

pub returns-in-Some-clause-text : goal.returns-in-Some-clause-text
returns-in-Some-clause-text c =
    let b = c.args.benched.now in
    let counts = counts_text b.loaded b.mixed c.len-events.result in
    let added = adds_both c.new-out.result c.push_counts.new.out c.push_conditions.new.out counts (conditions_line b.against)
    c.push_counts.ensures c.push_conditions.ensures in
    c.in-Some.ensures.text ∙ (added c.in-Some.ensures.whole).1
    ∙ ap (λ (t : List ℕ). t ++ (counts ++ conditions_line b.against)) c.new-out.ensures.empty
    ∙ ap (λ (n : ℕ). counts_text b.loaded b.mixed n ++ conditions_line b.against) c.len-events.ensures
