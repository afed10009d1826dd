use Rattle.std.proofs.Common.{◌≡◌, ◌<◌, length, IfSome, subst, rules}
use Rattle.std.specs.Prelude.{position}
use Rattle.acc_parse_names.specs.Faults.{statement_faults}
use Rattle.acc_parse_names.proofs.Firsts.{least_is}
use Rattle.acc_parse_names.proofs.Lengths.{each_told}
use Rattle.acc_parse_names.proofs.designs.names_of.Goals as goal

pub returns-clause-least : goal.returns-clause-least
returns-clause-least c =
    let first : c.map.result ≡ position (λ b. b) (statement_faults c.args.tree.now) = search rules in
    least_is (statement_faults c.args.tree.now) c.map.result first

pub returns-clause-within : goal.returns-clause-within
returns-clause-within c =
    let below : IfSome c.map.result (λ n. n < length (statement_faults c.args.tree.now)) = search rules in
    subst (λ k. IfSome c.map.result (λ n. n < k)) (each_told c.args.tree.now) below
