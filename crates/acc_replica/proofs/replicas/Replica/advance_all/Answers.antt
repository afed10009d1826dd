use Rattle.std.proofs.Common.{None, sym, ap, subst}
use Rattle.std.specs.Prelude.{Ok}
use Rattle.acc_base.specs.declared.designs.Design.{Design}
use Rattle.acc_base.specs.Machine.{World}
use Rattle.acc_replica.specs.declared.errors.Advanced.{Advanced}
use Rattle.acc_replica.specs.Ends.{HasAll}
use Rattle.acc_replica.specs.Replicas.{Replicated, Advances, TellsEnd}
use Rattle.acc_replica.proofs.replicas.Replica.advance_all.Goals as goal

pub returns-in-NotYet-clause-ends : goal.returns-in-NotYet-clause-ends
returns-in-NotYet-clause-ends g c = λ fed f.
    let now = c.loop.self in
    let did = subst (λ (a : Advanced). Advances now c.advance.new.self (Ok a)) c.in-NotYet.is c.in_ok-advance.ensures.told in
    let ends = subst (λ (a : Advanced). TellsEnd now.design fed (Ok a) now.world) c.in-NotYet.is
    (c.in_ok-advance.ensures.ends fed (c.loop.invariant.follows fed f)) in
    subst (λ (d : Design). HasAll d fed None c.advance.new.self.world) c.loop.invariant.design
    (subst (λ (w : World). HasAll now.design fed None w) (sym (ap (λ (r : Replicated). r.world) did.0)) ends)
