use Rattle.std.proofs.Common.{◌≡◌, rules, sym, ap, ◌∙◌, subst, ℕ, ◌+◌, List, [], ◌∷◌, ◌++◌, length, map, get_or, None, Some}
use Rattle.std.proofs.lemmas.List.{length_push}
use Rattle.tpcc_tables.specs.declared.tables.SchemaTable.TheVariants.{Warehouse}
use Rattle.tpcc_tables.specs.Schema.{number_in, IsFirstLacking}
use Rattle.tpcc_tables.proofs.SchemaFacts.{first_lacking, found_next}
use Rattle.tpcc_tables.proofs.tables.numbers_in.Goals as goal

pub returns-in_default-clause-lacks : goal.returns-in_default-clause-lacks
returns-in_default-clause-lacks c =
    let tables = c.args.tables.now in
    let schema = c.args.schema.now in
    let none : number_in tables (get_or schema c.loop-at.at Warehouse) ≡ None = search rules in
    subst (λ (k : ℕ). IsFirstLacking tables schema (k + 1)) (sym c.len.ensures)
    (first_lacking tables schema c.loop-at.numbers c.loop-at.at Warehouse c.loop-at-test.true c.loop-at.invariant.found
    c.loop-at.invariant.many none)

pub loop-at-preserved : goal.loop-at-preserved
loop-at-preserved c =
    let tables = c.args.tables.now in
    let schema = c.args.schema.now in
    let its : Some c.in-Ok.number ≡ number_in tables (get_or schema c.loop-at.at Warehouse) = search rules in
    let pushed : c.push.new.self ≡ c.loop-at.numbers ++ c.in-Ok.number ∷ [] = c.in_ok-push.ensures.ok in
    record {
      found = ap (λ (ns : List ℕ). map Some ns) pushed
          ∙ found_next (number_in tables) c.loop-at.numbers schema c.loop-at.at Warehouse c.in-Ok.number c.loop-at-test.true
          c.loop-at.invariant.found its;
      many = ap length pushed ∙ (length_push c.loop-at.numbers c.in-Ok.number ∙ ap (λ n. n + 1) c.loop-at.invariant.many);
    }
