use Rattle.std.proofs.Common.{ℕ, List, [], ◌∷◌, codes, subst}
use Rattle.acc_page.specs.Written.{Adds}
use Rattle.tpcc_gen.specs.Loads.{customers_line, run_tape}
use Rattle.tpcc_gen.proofs.Lines.{adds_taped}
use Rattle.tpcc_gen.proofs.districts.push_customers.Goals as goal

pub returns : goal.returns
unfolding customers_line
returns c =
    let run = c.run_of-run.result in
    let done = adds_taped c.args.out.now c.push_head.new.out c.push_run.new.out c.push.new.self (codes "ldcust")
    (c.args.w ∷ c.args.d ∷ run.count ∷ []) (run_tape 0 5000 run.first run.count c.args.words.now).0 c.push_head.ensures
    c.push_run.ensures.0 c.push.ensures in
    (subst (λ (z : List ℕ). Adds c.args.out.now c.push.new.self z) (cc) done, cc)
