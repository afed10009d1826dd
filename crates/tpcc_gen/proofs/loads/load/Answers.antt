use Rattle.std.proofs.Common.{ℕ, ◌<◌, List, length, sym, subst}
use Rattle.std.proofs.lemmas.Result.{IfOk-weaker}
use Rattle.tpcc_gen.specs.Draws.{words_from}
use Rattle.tpcc_gen.proofs.LoadSizes.{load_short}
use Rattle.tpcc_gen.proofs.loads.load.Goals as goal

pub returns-clause-short : goal.returns-clause-short
returns-clause-short c =
    IfOk-weaker c.written.result _ _
    (λ text is. subst (λ (z : List ℕ). length z < 134217728) (sym is)
    (load_short c.args.warehouses c.args.items c.args.customers c.requires (words_from 1)))
    c.written.ensures
