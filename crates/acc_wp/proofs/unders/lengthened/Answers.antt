use Rattle.std.proofs.Common.{◌≡◌, rules, min, length, sym, ap, ◌∙◌}
use Rattle.std.proofs.lemmas.Slice.Zip.{zip_end}
use Rattle.acc_preconditions.specs.Unders.{lengthened}
use Rattle.acc_wp.proofs.UnderLoops.{differences_end, long_end}
use Rattle.acc_wp.proofs.unders.lengthened.Goals as goal

pub returns-clause-value : goal.returns-clause-value
returns-clause-value c =
    let many : length c.loop-q.yielded ≡ min (length c.args.place.now) (length c.args.key.now) =
    zip_end c.args.place.now c.args.key.now c.loop-q.yielded c.into_iter-q-iterator.result c.loop-q.q-iterator c.next.new.self
    c.next.result (search rules) (search rules) c.loop-q.yielded_by c.in-None.is c.next.ensures.steps in
    ap (lengthened c.loop-q.longer) (sym (differences_end _ c.args.place.now c.args.key.now many)) ∙ c.loop-q.invariant.value

pub returns-clause-wide : goal.returns-clause-wide
returns-clause-wide c =
    let many : length c.loop-q.yielded ≡ min (length c.args.place.now) (length c.args.key.now) =
    zip_end c.args.place.now c.args.key.now c.loop-q.yielded c.into_iter-q-iterator.result c.loop-q.q-iterator c.next.new.self
    c.next.result (search rules) (search rules) c.loop-q.yielded_by c.in-None.is c.next.ensures.steps in
    sym c.loop-q.invariant.wide ∙ long_end _ c.args.place.now c.args.key.now many
