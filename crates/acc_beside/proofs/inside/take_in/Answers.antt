use Rattle.std.proofs.Common.{◌≡◌, ℕ, List, ◌++◌, sym, ap, subst, ◌∙◌}
use Rattle.acc_base.specs.declared.machines.Event.{Event}
use Rattle.acc_base.specs.Machine.{world}
use Rattle.acc_pass.specs.Histories.{Owns, Closed}
use Rattle.acc_pass.proofs.Owning.{owns_up}
use Rattle.acc_pass.proofs.Worlds.{stays}
use Rattle.acc_engine.proofs.Turned.{open_of, is_open}
use Rattle.acc_beside.proofs.inside.take_in.Goals as goal

pub returns-clause-live : goal.returns-clause-live
returns-clause-live g c d t w run may =
    let j = c.join-joined.ensures in
    let pass = c.args.pass in
    let joined = c.join-joined.result in
    let mine : joined.mine ≡ pass.mine = j.mine ∙ ap (λ (l : List (ℕ × Event)). l ++ pass.mine) c.requires.keeper.1 in
    let seen : joined.seen ≡ c.args.keeper.seen = (j.first.2 c.requires.keeper.0).2 in
    let closed = subst (Closed joined.seen) mine c.knows-2.ensures.closed in
    let own = owns_up pass.seen joined.seen pass.mine t j.second.0 c.knows.ensures.placed may.0 in
    let o = open_of t may.1.state may.1.unfinished in
    let at = stays d pass.seen joined.seen pass.mine t may.1.state w o.x j.second.0 c.knows.ensures.placed closed may.0 may.1.run
    (ap (world d) seen ∙ run) o.at in
    (subst (λ (l : List (ℕ × Event)). Owns joined.seen l t) (sym mine) own, is_open t w o.x at o.frame)
