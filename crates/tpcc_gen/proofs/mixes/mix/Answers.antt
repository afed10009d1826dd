use Rattle.std.proofs.Common.{ℕ, ◌<◌, List, length, sym, subst}
use Rattle.std.proofs.lemmas.Result.{IfOk-weaker}
use Rattle.tpcc_gen.specs.Draws.{words_from}
use Rattle.tpcc_gen.proofs.MixSizes.{mix_short}
use Rattle.tpcc_gen.proofs.mixes.mix.Goals as goal

pub returns-clause-short : goal.returns-clause-short
returns-clause-short c =
    IfOk-weaker c.written.result _ _
    (λ text is. subst (λ (z : List ℕ). length z < 16777216) (sym is)
    (mix_short c.args.warehouses c.args.items c.args.customers c.args.count c.requires.scale c.requires.mix.0 (words_from c.args.start)))
    c.written.ensures
