use Rattle.std.proofs.Common.{◌∙◌, sym, ap, ◌++◌, append_assoc}
use Rattle.acc_store.specs.Rows.{live}
use Rattle.acc_store.specs.Runs.{joined, seen}
use Rattle.acc_store.proofs.Changed.{live_both}
use Rattle.acc_store.proofs.maps.rows_of.Goals as goal

pub loop-run-preserved : goal.loop-run-preserved
loop-run-preserved c =
    let items = c.loop-run.rows.items in
    let run = c.in-Some.run'.now.entries in
    let rest = joined (seen c.next.new.self) in
    ap (λ l. l ++ live rest) c.in_ok-push_rows.ensures ∙ append_assoc items (live run) (live rest) ∙
    ap (λ l. items ++ l) (sym (live_both run rest) ∙ sym (ap (λ l. live (joined (seen l))) c.in-Some.ensures.steps)) ∙ c.loop-run.invariant
