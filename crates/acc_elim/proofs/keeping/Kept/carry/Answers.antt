use Rattle.std.proofs.Common.{◌∙◌}
use Rattle.acc_elim.proofs.Keepings.{place_within, kept_on}
use Rattle.acc_elim.proofs.keeping.Kept.carry.Goals as goal

pub carried-requires : goal.carried-requires
carried-requires c =
    let old = c.args.self.now.reading in
    place_within c.args.rels.now old c.catch_up.new.self c.len-before.result c.requires.read c.in_ok-catch_up.ensures.all
    (c.len-before.ensures ∙ old.rows.ok.0)

pub returns-clause-kept : goal.returns-clause-kept
returns-clause-kept c =
    let old = c.args.self.now.reading in
    record {
      read = c.in_ok-catch_up.ensures.read;
      known = kept_on c.args.rels.now old c.catch_up.new.self c.len-before.result c.args.known c.carried.result c.requires.read
          c.in_ok-catch_up.ensures.all (c.len-before.ensures ∙ old.rows.ok.0) c.requires.known c.carried.ensures;
    }
