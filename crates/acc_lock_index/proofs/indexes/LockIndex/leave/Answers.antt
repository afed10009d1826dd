use Rattle.std.proofs.Common.{◌≡◌, ◌∙◌, ap, sym, subst, None}
use Rattle.acc_lock_index.specs.Indexed.{Indexed, StandsFor, IsWithout}
use Rattle.acc_lock_index.proofs.Keepers.{kept_none, apart_taken}
use Rattle.acc_lock_index.proofs.Lists.{stands_drop}
use Rattle.acc_lock_index.proofs.indexes.LockIndex.leave.Goals as goal

pub invariant_of-self : goal.invariant_of-self
invariant_of-self c =
    let none : c.self.inside.prepared ≡ None = ap (λ (v : Indexed). v.prepared) c.self.view_is ∙ c.forget_prepared.ensures.none in
    kept_none c.take_one_out.new.holders.entries c.take_one_out.new.standings.items c.self.inside.prepared none c.take_one_out.ensures.under
    (apart_taken c.self.inside.standings.items c.take_one_out.new.standings.items c.args.t c.take_one_out.ensures.taken
    c.self.invariant.apart)

pub returns-clause-dropped : goal.returns-clause-dropped
returns-clause-dropped c = λ d old frames stand without.
    let ss = c.self.inside.standings.items in
    let p = c.take_one_out.ensures.taken in
    let items : ss ≡ c.args.self.now.standings = ap (λ (v : Indexed). v.standings) c.self.view_is ∙ c.forget_prepared.ensures.same in
    subst (StandsFor d frames) (sym p.without)
    (stands_drop d old frames ss (subst (StandsFor d old) (sym items) stand) p.place p.gone c.self.invariant.apart p.was
    (subst (λ t. IsWithout t old frames) (sym p.number) without))
