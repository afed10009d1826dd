use Rattle.std.proofs.Common.{sym, subst}
use Rattle.tpcc_tables.specs.Schema.{IsSchemaOf}
use Rattle.acc_bench.specs.declared.results.Loaded.{Loaded}
use Rattle.acc_bench.specs.declared.results.Mixed.{Mixed}
use Rattle.acc_bench.specs.Conditions.{IsLowest}
use Rattle.acc_bench.specs.Benches.{ComesTo}
use Rattle.acc_bench.proofs.benches.bench.Goals as goal

pub judge-requires : goal.judge-requires
judge-requires g c = record { schema = subst (IsSchemaOf c.args.tables.now) (sym c.in_ok-ran.ensures.design) c.requires.schema }

pub returns : goal.returns
returns g c =
    let d = c.args.accepted.now in
    let w = c.in_ok-ran.ran.state.world in
    let parts = c.benched.ensures.parts in
    record {
      world = w;
      comes = subst (λ (l : Loaded). ComesTo d c.args.load.now c.args.mix.now c.args.order.now l c.benched.result.mixed w) (sym parts.0)
          (subst (λ (m : Mixed). ComesTo d c.args.load.now c.args.mix.now c.args.order.now c.in_ok-ran.ran.loaded m w) (sym parts.1)
          c.in_ok-ran.ensures.comes);
      history = c.benched.ensures.history;
      against = subst (IsLowest c.args.tables.now w.rows) (sym parts.2) c.in_ok-against.ensures;
    }
