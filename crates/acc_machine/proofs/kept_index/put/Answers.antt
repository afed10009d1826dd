use Rattle.std.proofs.Common.{refl, sym, subst}
use Rattle.acc_table.specs.Entries.{IsPointOf}
use Rattle.acc_lock_index.specs.Indexed.{StandsFor, IsPrepared}
use Rattle.acc_machine.proofs.Following.{on_ok_then, put_with, not_so}
use Rattle.acc_machine.proofs.kept_index.put.Goals as goal

pub enter-requires-clause-point : goal.enter-requires-clause-point
enter-requires-clause-point c = subst (λ a. IsPointOf c.args.d.now a.ty a.point) (sym c.at-at.ensures) c.requires.point

pub enter-requires-clause-new : goal.enter-requires-clause-new
enter-requires-clause-new c = not_so c.has.result c.if-not-has.true c.has.ensures

pub returns-then-not-has : goal.returns-then-not-has
returns-then-not-has c =
    let d = c.args.d.now in
    let f = c.args.f.now in
    let none = not_so c.has.result c.if-not-has.true c.has.ensures in
    on_ok_then c.enter.result c.enter.ensures.ok (λ k old frames stand put. k old frames f stand
    (record { number = refl; at_is = sym c.at-at.ensures; locals_are = sym c.as_slice.ensures })
    (put_with d old frames c.args.index.now.standings stand f none put))

pub prepare-requires-clause-point : goal.prepare-requires-clause-point
prepare-requires-clause-point c = subst (λ a. IsPointOf c.args.d.now a.ty a.point) (sym c.at-at.ensures) c.requires.point

pub prepare-requires-clause-there : goal.prepare-requires-clause-there
prepare-requires-clause-there c = c.has.ensures.0 c.if-not-has.false

pub returns : goal.returns
returns c =
    let d = c.args.d.now in
    let f = c.args.f.now in
    let prepared = subst (λ a. IsPrepared d f.t a f.locals c.prepare.new.self.prepared) c.at-at.ensures
    (subst (λ l. IsPrepared d f.t c.at-at.result l c.prepare.new.self.prepared) c.as_slice-2.ensures c.in_ok-prepare.ensures.ok) in
    λ old frames stand put. c.change.ensures.put d old frames f (subst (StandsFor d old) (sym c.in_ok-prepare.ensures.same) stand) prepared put
