use Rattle.std.proofs.Common.{◌∙◌, sym, None}
use Rattle.acc_index_store.proofs.Finding.{rewrites, same_gone}
use Rattle.acc_index_store.proofs.totals.forget_at.Goals as goal

pub returns-then-is_blank : goal.returns-then-is_blank
returns-then-is_blank c =
    let old = c.args.totals.now.entries in
    let q = c.args.prefix.now in
    let new = c.remove.new.self.entries in
    record {
      same = same_gone old new q (sym c.is_blank.ensures ∙ c.if-is_blank.true) c.requires.none
          (rewrites old new q None c.remove.ensures.updates.1 c.remove.ensures.updates.3);
    }
