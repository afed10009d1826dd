use Rattle.std.proofs.Common.{◌∙◌, sym}
use Rattle.std.specs.BTreeMap.{is_at as at}
use Rattle.acc_base.specs.Tables.{place_cmp}
use Rattle.acc_store.specs.Changes.{HasChanged}
use Rattle.acc_store.specs.Runs.{all_of}
use Rattle.acc_store.proofs.Laid.{length_changed}
use Rattle.acc_store.proofs.entries.Entries.change.Goals as goal

pub invariant_of-self : goal.invariant_of-self
invariant_of-self c = (
  c.change_at.ensures.laid,
  c.self.invariant.1 ∙ sym (length_changed (at (place_cmp c.args.place.now)) (HasChanged c.args.change.now c.change_at.result)
      (all_of c.self.inside.runs) (all_of c.change_at.new.runs)
      c.change_at.ensures.altered),
)
