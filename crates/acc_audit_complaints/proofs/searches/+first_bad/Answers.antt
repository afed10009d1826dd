use Rattle.std.proofs.Common.{rules, refl, sym, ap, ◌∙◌, pos, get_or, ◌++◌, ◌∷◌, [], take, ◌-◌}
use Rattle.std.specs.Prelude.{FitsSigned}
use Rattle.std.specs.Int.{w64}
use Rattle.std.proofs.lemmas.Int.{to_z-of_z}
use Rattle.acc_audit_complaints.specs.Tuples.{tuples}
use Rattle.acc_audit_complaints.proofs.Searching.{search_more, search_found, search_whole, popped, none_is}
use Rattle.acc_audit_complaints.proofs.searches.+first_bad.Goals as goal

pub returns-then-is_some-clause-found : goal.returns-then-is_some-clause-found
returns-then-is_some-clause-found g t c =
    let db = g.S.Store.rows c.args.s.now in
    let values = c.args.values.now.items in
    let rest = tuples c.in-Some.others.now in
    let items = c.as_slice-x-items.result.now in
    let x = get_or items c.loop-x.x-index (pos 0) in
    let fits : FitsSigned w64 x = search rules in
    let pushed = c.in_ok-push.ensures.items ∙ (λ i. c.loop-x.invariant.values i ++ to_z-of_z w64 x fits i ∷ []) in
    search_whole db c.args.clause.now c.args.outside values c.in-Some.range.now items c.in-Some.others.now c.args.ranges.now
    c.in_ok-found.found c.as_slice-x-items.ensures c.in-Some.ensures.cases.0
    (search_found db c.args.clause.now c.args.outside values rest items c.loop-x.x-index x (pos 0) c.loop-x-test.true refl
    c.push.new.self.items pushed c.in_ok-found.found c.in_ok-found.ensures.found (sym c.is_some.ensures ∙ c.if-is_some.true)
    ∙ c.loop-x.invariant.rest)

pub loop-x-preserved : goal.loop-x-preserved
loop-x-preserved g t c =
    let db = g.S.Store.rows c.args.s.now in
    let values = c.args.values.now.items in
    let rest = tuples c.in-Some.others.now in
    let items = c.as_slice-x-items.result.now in
    let x = get_or items c.loop-x.x-index (pos 0) in
    let fits : FitsSigned w64 x = search rules in
    let pushed = c.in_ok-push.ensures.items ∙ (λ i. c.loop-x.invariant.values i ++ to_z-of_z w64 x fits i ∷ []) in
    let none = sym c.is_some.ensures ∙ c.if-is_some.false in
    record {
      values = popped values c.push.new.self.items c.first_bad.new.values.items c.pop.new.self.items x pushed
          (c.in_ok-found.ensures.kept (none_is c.in_ok-found.found none))
          (c.pop.ensures.rest ∙ ap (λ n. take (n - 1) c.first_bad.new.values.items) c.first_bad.new.values.ok.0);
      rest = search_more db c.args.clause.now c.args.outside values rest items c.loop-x.x-index x (pos 0) c.loop-x-test.true refl
          c.push.new.self.items pushed c.in_ok-found.found c.in_ok-found.ensures.found none ∙ c.loop-x.invariant.rest;
    }
