use Rattle.std.proofs.Common.{◌≡◌, ◌∙◌, ◌++◌, drop, ap, sym}
use Rattle.std.specs.Prelude.{◌||◌}
use Rattle.std.proofs.lemmas.List.{drop_all, take_all}
use Rattle.acc_parse_names.specs.Names.{defines_again}
use Rattle.acc_parse_names.proofs.Turns.{again_at, gathered_at, or_false}
use Rattle.acc_parse_names.proofs.names.NameIndex.add_all.Goals as goal

pub loop-name-preserved : goal.loop-name-preserved
loop-name-preserved c =
    let names = c.args.names.now in
    let i = c.loop-name.name-index in
    let e = c.in_ok-again.ensures in
    record {
      again = again_at c.loop-name.self c.add.new.self names i c.name-item.result c.loop-name.again c.in_ok-again.field-0
          c.loop-name-test.true c.name-item.is e.again e.names ∙ c.loop-name.invariant.again;
      names = gathered_at c.args.self.now c.loop-name.self c.add.new.self names i c.name-item.result c.loop-name-test.true c.name-item.is
          c.loop-name.invariant.names e.names;
    }

pub returns-clause-again : goal.returns-clause-again
returns-clause-again c =
    let end : drop c.loop-name.name-index c.args.names.now ≡ _ = drop_all _ c.args.names.now c.loop-name-test.false in
    sym (or_false c.loop-name.again) ∙ ap (λ z. c.loop-name.again || defines_again c.loop-name.self z) (sym end) ∙
    c.loop-name.invariant.again

pub returns-clause-names : goal.returns-clause-names
returns-clause-names c =
    c.loop-name.invariant.names ∙ ap (λ z. c.args.self.now ++ z) (take_all _ c.args.names.now c.loop-name-test.false)
