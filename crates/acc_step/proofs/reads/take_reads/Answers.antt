use Rattle.std.proofs.Common.{◌≡◌, ◌∙◌, sym, ap, Some, set, length, length-set, subst, drop, ◌+◌, rules, FitsSigned, w64}
use Rattle.std.proofs.lemmas.Int.{to_z-of_z}
use Rattle.acc_base.specs.Numbers.{IsSmall}
use Rattle.acc_base.specs.Reads.{Reading, assigned, at_after, after_reads, read_key, read_value}
use Rattle.acc_base.specs.Linear.{variables, lin_values}
use Rattle.acc_step.specs.Variables.{values_of}
use Rattle.acc_step.specs.ReadValues.{read_of}
use Rattle.acc_step.proofs.ReadSteps.{read_goes, read_small}
use Rattle.acc_step.proofs.reads.take_reads.Goals as goal

pub assign-requires : goal.assign-requires
assign-requires g c =
    let db = g.S.Store.rows c.args.s.now in
    let f = c.args.f.now in
    let inv = c.loop-read.invariant in
    let r = c.read-item.result in
    let x = c.in_ok-value.value in
    let at = c.loop-read.at in
    let env = values_of c.loop-read.variables in
    let read : read_of db f.tape at env r ≡ Some x =
    (λ j. read_of db (sym inv.tape j) at env r) ∙ sym c.read_one.ensures ∙ c.in_ok-value.was in
    let fits : FitsSigned w64 x = search rules in
    subst IsSmall (sym (to_z-of_z w64 x fits)) (read_small (lin_values env (read_key r)) (read_value db f.tape at env r) x read)

pub loop-read-preserved : goal.loop-read-preserved
loop-read-preserved g c =
    let db = g.S.Store.rows c.args.s.now in
    let f = c.args.f.now in
    let inv = c.loop-read.invariant in
    let r = c.read-item.result in
    let x = c.in_ok-value.value in
    let s : Reading = record { locals = c.loop-read.variables.locals; at = c.loop-read.at } in
    let read : read_of db f.tape s.at (variables f.t s.locals) r ≡ Some x =
    (λ j. read_of db (sym inv.tape j) s.at (variables (sym inv.number j) s.locals) r) ∙ sym c.read_one.ensures ∙ c.in_ok-value.was in
    let goes = read_goes db f s r c.args.reads.now c.loop-read.read-index c.loop-read-test.true c.read-item.is x read in
    let fits : FitsSigned w64 x = search rules in
    let locals : c.assign.new.self.locals ≡ set s.locals (assigned r) x =
    c.assign.ensures.locals ∙ (λ j. set s.locals (c.assigned.ensures j) (to_z-of_z w64 x fits j)) in
    let at : c.place_after-at.result ≡ at_after (length f.tape) s.at r =
    c.place_after-at.ensures ∙ ap (λ t. at_after (length t) s.at r) inv.tape in
    let next : record { locals = c.assign.new.self.locals; at = c.place_after-at.result } ≡ record {
      locals = set s.locals (assigned r) x;
      at = at_after (length f.tape) s.at r;
    } = λ j. record { locals = locals j; at = at j } in
    record {
      rest = ap (after_reads db f (drop (c.loop-read.read-index + 1) c.args.reads.now)) next ∙ sym goes ∙ inv.rest;
      number = c.assign.ensures.number ∙ inv.number;
      kept = ap length locals ∙ length-set s.locals (assigned r) x ∙ inv.kept;
      tape = inv.tape;
    }
