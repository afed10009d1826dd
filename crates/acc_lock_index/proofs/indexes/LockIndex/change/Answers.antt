use Rattle.std.proofs.Common.{◌≡◌, ◌∙◌, ap, sym, subst, Some}
use Rattle.acc_base.specs.Entries.{at_of}
use Rattle.acc_lock_index.specs.Indexed.{Indexed, StandsFor, IsPrepared}
use Rattle.acc_lock_index.proofs.Lists.{stands_put}
use Rattle.acc_lock_index.proofs.indexes.LockIndex.change.Goals as goal

pub returns-in-Some-clause-put : goal.returns-in-Some-clause-put
returns-in-Some-clause-put c = λ d old frames f stand is put.
    let ss = c.self.inside.standings.items in
    let next = c.in-Some.next in
    let p = c.put_one.ensures.put in
    let ready : c.args.self.now.prepared ≡ Some next =
    sym (ap (λ (v : Indexed). v.prepared) c.self.view_is) ∙ (sym c.take.ensures.value ∙ c.in-Some.is) in
    let stood = subst (StandsFor d old) (sym (ap (λ (v : Indexed). v.standings) c.self.view_is)) stand in
    subst (StandsFor d frames) (sym p.changed)
    (stands_put d old frames ss stood p.place p.gone next f c.self.invariant.apart p.was (sym p.number)
    (subst (IsPrepared d f.t (at_of f) f.locals) ready is) put)
