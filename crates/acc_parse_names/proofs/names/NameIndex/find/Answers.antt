use Rattle.std.proofs.Common.{◌≡◌, ◌<◌, length, IfSome, rules, sym, subst}
use Rattle.acc_parse_names.specs.Places.{place_of}
use Rattle.acc_parse_names.proofs.Placed.{placed_within}
use Rattle.acc_parse_names.proofs.names.NameIndex.find.Goals as goal

pub returns-clause-within : goal.returns-clause-within
returns-clause-within c =
    let names = c.args.self.now in
    let place : c.copied.result ≡ place_of c.args.name.now names = search rules in
    subst (λ o. IfSome o (λ p. p < length names)) (sym place) (placed_within c.args.name.now names)
