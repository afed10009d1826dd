use Rattle.std.proofs.Common.{List, inl, inr, sym, ap, subst, length, ◌∙◌}
use Rattle.acc_base.specs.declared.tables.Row.{Row}
use Rattle.acc_ckpt.specs.Texts.{IsCounted}
use Rattle.acc_wal.specs.declared.items.Seal.{Seal}
use Rattle.acc_recover.proofs.Counting.{are_counted}
use Rattle.acc_engine.specs.Sealing.{IsSealedAt}
use Rattle.acc_engine.proofs.Sealings.{sealed_at}
use Rattle.acc_engine.proofs.sealing.due_text.Goals as goal
use Rattle.acc_engine.proofs.sealing.due_text.Goals.{then-version-ne2-via-then-version-ne2}
use Rattle.acc_engine.proofs.sealing.due_text.Goals.{then-version-ne2-via-else-version-ne2+then-is_sealed_at}

pub returns-then-version-ne2 : goal.returns-then-version-ne2
returns-then-version-ne2 g c =
    let place = c.len-place.ensures ∙ ap length c.events.ensures.events in
    elim c.then-version-ne2.branch [
      | then-version-ne2-via-then-version-ne2 w ↦ inl (λ is. w.if-version-ne2.true (c.version.ensures ∙ is))
      | then-version-ne2-via-else-version-ne2+then-is_sealed_at w ↦
          inr
          (inr
          (subst (λ (l : List Seal). IsSealedAt (length c.args.state.now.world.events) l) w.seals.ensures.seals
          (sealed_at w.seals.result.now c.len-place.result (length c.args.state.now.world.events) place
          (sym w.is_sealed_at.ensures ∙ w.if-is_sealed_at.true))))
    ]

pub short_text-requires-clause-counts : goal.short_text-requires-clause-counts
short_text-requires-clause-counts g c =
    let s = c.args.state.now in
    subst (λ (rs : List Row). IsCounted rs) (sym (c.in-Ok.ensures ∙ c.store.ensures))
    (are_counted s.design s.world (record { accepted = c.events.ensures.accepted; good = c.events.ensures.good }))
