use Rattle.std.proofs.Common.{List, sym, ap, subst, ◌∙◌}
use Rattle.acc_base.specs.declared.designs.Design.{Design}
use Rattle.acc_base.specs.declared.machines.Event.{Event}
use Rattle.acc_base.specs.Lawful.{LeadLawfully}
use Rattle.acc_base.specs.Machine.{start}
use Rattle.acc_print.specs.Designs.{printed}
use Rattle.acc_recover.proofs.Ends.{kept_run}
use Rattle.acc_recover.proofs.recovered.replayed.Goals as goal

pub returns-in-Ok-take_all-clause-ok : goal.returns-in-Ok-take_all-clause-ok
returns-in-Ok-take_all-clause-ok g c =
    let now = c.take_all.new.state in
    let design = c.take_all.ensures.design ∙ c.in-Ok.ensures.design in
    let comes = subst (λ (d : Design). LeadLawfully d start c.args.wal.now.durable now.world) design
    (subst (λ (es : List Event). LeadLawfully now.design start es now.world) c.durable.ensures.events c.in-Ok-take_all.ensures.come) in
    record {
      text = sym c.base.ensures ∙ c.in_default.ensures.ok ∙ ap printed c.design.ensures.design;
      design = design;
      comes = comes;
      kept = kept_run c.args.d.now now.design c.args.wal.now.durable now.world c.design.ensures.accepted design comes;
    }
