use Rattle.std.proofs.Common.{◌≡◌, List, [], length, refl, sym, subst, arith}
use Rattle.std.proofs.lemmas.List.{length-map}
use Rattle.acc_advise.specs.declared.passes.Tried.{Tried}
use Rattle.acc_advise.specs.Advices.{Settles}
use Rattle.acc_advise.specs.Steps.{reasons, tried_pairs}
use Rattle.acc_advise.proofs.Growing.{few_same, passes_small, leads_first, leads_on, led}
use Rattle.acc_advise.proofs.Nothing.{backed_first}
use Rattle.acc_advise.proofs.passes.settled.Goals as goal

counted : (ts : List Tried) → length (reasons ts) ≡ length ts
counted ts = length-map ts (λ (t : Tried). t.beyond)

pub first_pass-requires-clause-set : goal.first_pass-requires-clause-set
first_pass-requires-clause-set g c = few_same c.new.result c.new.ensures

pub loop-passed-init : goal.loop-passed-init
loop-passed-init g c =
    let case = c.args.case.now in
    let start = c.new.result in
    let first = c.in_ok-left.ensures in
    let bs = reasons c.in_ok-left.left in
    let small = passes_small case.d.now case.question start c.args.candidates.now c.first_pass.new.grown.pairs bs first.passes
    (few_same c.new.result c.new.ensures) c.requires.few in
    record {
      few = small.0;
      others = small.1;
      known = first.known;
      backed = first.backed (backed_first case (record { pairs = start; proofs = c.new-2.result }) c.new.ensures c.new-2.ensures);
      leads =
          leads_first case c.args.candidates.now start c.first_pass.new.grown (length c.args.candidates.now) bs c.new.ensures refl
          first.passes;
    }

pub loop-passed-preserved : goal.loop-passed-preserved
loop-passed-preserved g c =
    let case = c.args.case.now in
    let now = c.loop-passed.grown in
    let ts = c.loop-passed.left in
    let before = c.loop-passed.invariant in
    let new = c.pass.new.grown in
    let all = c.in_ok-left-2.left in
    let h = c.in_ok-left-2.ensures in
    let count = counted ts in
    let small = passes_small case.d.now case.question now.pairs (tried_pairs ts) new.pairs (reasons all) h.passes before.few
    before.others in
    record {
      few = small.0;
      others = small.1;
      known = h.known;
      backed = h.backed before.backed;
      leads =
          leads_on case c.args.candidates.now c.loop-passed.passed c.len-passed.result now new (reasons ts) (reasons all) (tried_pairs ts)
          (omega (arith, c.loop-passed-test.true, c.len.ensures, c.len-passed.ensures)) (omega (arith, c.len-passed.ensures, count)) refl
          before.leads h.passes;
    }

pub returns : goal.returns
returns g c =
    let before = c.loop-passed.invariant in
    let ts = c.loop-passed.left in
    let count = counted ts in
    let (n, settles) = led c.args.case.now c.args.candidates.now c.loop-passed.passed c.loop-passed.grown (reasons ts)
    (omega (arith, c.loop-passed-test.false, c.len.ensures, count)) before.leads in (
      (
        n,
        subst (Settles c.args.case.now.d.now c.args.case.now.question n [] c.args.candidates.now c.loop-passed.grown.pairs)
            (sym c.in_ok-beyond.ensures) settles,
      ),
      before.backed,
    )
