use Rattle.std.proofs.Common.{◌≡◌, ◌∙◌, sym, ap, length, ◌-◌, arith}
use Rattle.std.specs.BTreeMap.{is_at as at}
use Rattle.acc_base.specs.Tables.{place_cmp}
use Rattle.acc_store.specs.Runs.{all_of}
use Rattle.acc_store.proofs.Laid.{length_removed, removed_none}
use Rattle.acc_store.proofs.entries.Entries.remove.Goals as goal

pub invariant_of-self : goal.invariant_of-self
invariant_of-self c =
    let es = all_of c.self.inside.runs in
    let gone = ap length c.remove_at.ensures.entries in
    let less = length_removed (at (place_cmp c.args.place.now)) es (sym c.remove_at.ensures.there ∙ c.if-remove_at.true) in
    let count : c.self.inside.len ≡ length es = c.self.invariant.1 in
    let left : c.self.inside.len - 1 ≡ length (all_of c.remove_at.new.runs) = omega arith in
    (c.remove_at.ensures.laid, left)

pub invariant_of-self-else-remove_at : goal.invariant_of-self-else-remove_at
invariant_of-self-else-remove_at c =
    let es = all_of c.self.inside.runs in (
      c.remove_at.ensures.laid,
      c.self.invariant.1 ∙ sym (ap length (c.remove_at.ensures.entries ∙ removed_none (at (place_cmp c.args.place.now)) es
          (sym c.remove_at.ensures.there ∙ c.if-remove_at.false))),
    )
