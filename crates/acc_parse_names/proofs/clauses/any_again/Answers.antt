use Rattle.std.proofs.Common.{◌∙◌, ◌+◌, ◌++◌, [], ◌∷◌, drop, ap, sym}
use Rattle.std.specs.Prelude.{◌||◌}
use Rattle.std.specs.List.{list_any}
use Rattle.std.specs.Str.{bytes_eq}
use Rattle.std.proofs.lemmas.List.{append_assoc}
use Rattle.std.proofs.lemmas.List.Folds.{list_any-append}
use Rattle.acc_parse_names.specs.Names.{defines_again}
use Rattle.acc_parse_names.proofs.Turns.{again_at, gathered_at, or_assoc}
use Rattle.acc_parse_names.proofs.clauses.any_again.Goals as goal

pub loop-name-preserved : goal.loop-name-preserved
loop-name-preserved c =
    let names = c.args.names.now in
    let i = c.loop-name.name-index in
    let x = c.name-item.result in
    let locals = c.args.locals.now in
    let own = c.loop-name.own in
    let e = c.in_ok-again.ensures in
    let found = ap (λ z. z || c.in_ok-again.field-0) c.has.ensures ∙ ap (λ z. list_any (bytes_eq x) locals || z) e.again ∙ sym
    (list_any-append (bytes_eq x) locals own) in
    let later = ap (λ z. locals ++ z) e.names ∙ sym (append_assoc locals own (x ∷ [])) in
    record {
      again = ap (λ z. z || defines_again (locals ++ c.add.new.self) (drop (i + 1) names))
          (or_assoc c.loop-name.again c.has.result c.in_ok-again.field-0) ∙ again_at (locals ++ own) (locals ++ c.add.new.self) names i x
          c.loop-name.again (c.has.result || c.in_ok-again.field-0) c.loop-name-test.true c.name-item.is found later ∙
          c.loop-name.invariant.again;
      own = gathered_at c.args.own.now own c.add.new.self names i x c.loop-name-test.true c.name-item.is c.loop-name.invariant.own e.names;
    }
