use Rattle.std.proofs.Common.{◌≡◌, ◌-◌, ◌+◌, ◌^◌, ◌<◌, ◌∙◌, List, [], ◌∷◌, Bool, Some, false, true, length, get_or}
use Rattle.std.proofs.Common.{slice_get, ap, subst, sym, arith}
use Rattle.std.specs.Prelude.{All}
use Rattle.std.proofs.lemmas.Option.{same_Some}
use Rattle.std.proofs.lemmas.List.{append-nil, get_or-set_same, get_or-set_other}
use Rattle.acc_base.specs.declared.designs.Design.{Design}
use Rattle.acc_base.specs.declared.machines.Call.{Call}
use Rattle.acc_base.specs.declared.machines.Event.{Event}
use Rattle.acc_base.specs.declared.machines.Event.TheVariants.{Begin}
use Rattle.acc_base.specs.Machine.{World, next_number, after_event}
use Rattle.acc_base.proofs.Items.{got}
use Rattle.acc_lift.proofs.Theorem.{event_logged}
use Rattle.acc_wal.specs.Spellings.{body, event_bytes, Fits}
use Rattle.acc_wal.specs.Items.{seal_bytes}
use Rattle.acc_wal.specs.Settling.{Pushes}
use Rattle.acc_wal.specs.declared.items.Seal.{Seal}
use Rattle.acc_engine.specs.Keeping.{Journalled}
use Rattle.acc_engine.specs.Sealing.{AreHeld}
use Rattle.acc_engine.proofs.CallFields.{all_fields}
use Rattle.acc_engine.proofs.Sealed.{still_held}
use Rattle.acc_engine.proofs.InSteps.{in_step_widened, begin_short, in_step_begun, in_step_same, same_world}
use Rattle.acc_engine.proofs.engines.Engine.begin_with_room.Goals as goal

pub prepare-requires-clause-fits : goal.prepare-requires-clause-fits
prepare-requires-clause-fits g c =
    let inside = c.self.inside in
    subst (λ (l : List Call). All (λ (call : Call). Fits (Begin call)) l) (sym c.as_slice.ensures)
    (all_fields inside.state.design inside.calls c.self.invariant.0.state.accepted.formed c.self.invariant.0.fits)

pub put-requires-clause-short : goal.put-requires-clause-short
put-requires-clause-short g c =
    let inside = c.self.inside in
    let p = c.args.place - 1 in
    let marks = c.prepare.new.begun.items in
    let begun : inside.begun.items ≡ c.args.self.now.begun = ap (λ (j : Journalled g.row.D.Denot). j.begun) c.self.view_is in
    let calls : inside.calls ≡ c.args.self.now.calls = ap (λ (j : Journalled g.row.D.Denot). j.calls) c.self.view_is in
    let found = c.in_ok-event.ensures.event in
    let is : slice_get inside.calls p ≡ Some found.call = ap (λ (l : List Call). slice_get l p) (sym c.as_slice.ensures) ∙ found.is_call in
    let lt : p < length marks = omega (
      arith,
      c.in_ok-event.ensures.long,
      ap length c.as_slice.ensures,
      ap length calls,
      c.requires.high,
      c.requires.low,
    ) in
    let fresh : get_or marks p false ≡ false = c.prepare.ensures.marks p ∙ ap (λ (l : List Bool). get_or l p false) begun ∙
    c.requires.fresh in
    let wide = in_step_widened inside.state.design inside.state.world inside.wal c.prepare.new.wal inside.found inside.calls
    inside.begun.items marks inside.lowest c.self.invariant.0 c.prepare.ensures.lists.lists (c.prepare.ensures.same inside.calls)
    c.prepare.ensures.marks in
    let short = begin_short inside.state.design inside.state.design inside.state.world inside.state.world c.prepare.new.wal
    c.prepare.new.wal inside.found inside.calls marks inside.lowest p found.call wide lt fresh is
    (subst (λ (l : List Seal). AreHeld inside.state.design inside.state.world.events l) (sym c.prepare.ensures.lists.lists.waiting)
    c.self.invariant.1) in
    subst (λ (e : Event). length (body c.prepare.new.wal.tail) + seal_bytes c.prepare.new.wal.waiting + length (event_bytes e) < 2 ^ 32)
    (sym found.event_is) short

pub invariant_of-self-in-Ok : goal.invariant_of-self-in-Ok
invariant_of-self-in-Ok g c =
    let inside = c.self.inside in
    let p = c.args.place - 1 in
    let marks = c.prepare.new.begun.items in
    let begun : inside.begun.items ≡ c.args.self.now.begun = ap (λ (j : Journalled g.row.D.Denot). j.begun) c.self.view_is in
    let calls : inside.calls ≡ c.args.self.now.calls = ap (λ (j : Journalled g.row.D.Denot). j.calls) c.self.view_is in
    let found = c.in_ok-event.ensures.event in
    let is : slice_get inside.calls p ≡ Some found.call = ap (λ (l : List Call). slice_get l p) (sym c.as_slice.ensures) ∙ found.is_call in
    let lt : p < length marks = omega (
      arith,
      c.in_ok-event.ensures.long,
      ap length c.as_slice.ensures,
      ap length calls,
      c.requires.high,
      c.requires.low,
    ) in
    let inner : p < length c.as_slice-2.result.now =
    omega (arith, ap length c.as_slice-2.ensures, ap length calls, c.requires.high, c.requires.low) in
    let fresh : get_or marks p false ≡ false = c.prepare.ensures.marks p ∙ ap (λ (l : List Bool). get_or l p false) begun ∙
    c.requires.fresh in
    let wide = in_step_widened inside.state.design inside.state.world inside.wal c.prepare.new.wal inside.found inside.calls
    inside.begun.items marks inside.lowest c.self.invariant.0 c.prepare.ensures.lists.lists (c.prepare.ensures.same inside.calls)
    c.prepare.ensures.marks in
    let call = c.index-as_slice-index.result in
    let again : slice_get inside.calls p ≡ Some call =
    ap (λ (l : List Call). slice_get l p) (sym c.as_slice-2.ensures) ∙ got c.as_slice-2.result.now p call inner
    c.index-as_slice-index.is in
    let same : found.call ≡ call = same_Some found.call call (sym is ∙ again) in
    let event : c.in_ok-event.event ≡ Begin call = found.event_is ∙ ap (λ (x : Call). Begin x) same in
    let answer = c.in-Ok.ensures.answer in (
      in_step_begun inside.state.design c.begin.new.self.design inside.state.world c.begin.new.self.world c.prepare.new.wal c.put.new.wal
          inside.found inside.calls marks inside.lowest p call wide lt fresh again
          (record { leave = answer.2; event = answer.1 }) c.begin.ensures.design
          (subst (λ (e : Event). Pushes e c.prepare.new.wal c.put.new.wal) event c.put.ensures),
      still_held inside.state.design c.begin.new.self.design inside.state.world.events c.begin.new.self.world.events (Begin call ∷ [])
          inside.wal.waiting c.put.new.wal.waiting c.begin.ensures.design
          (event_logged inside.state.design inside.state.world (Begin call) c.begin.new.self.world answer.1)
          (c.put.ensures.waiting ∙ c.prepare.ensures.lists.lists.waiting) c.self.invariant.1,
      c.self.invariant.2 ∙ ap (λ (j : Journalled g.row.D.Denot). j.failed) c.self.view_is ∙ c.requires.unfailed ∙ sym c.put.ensures.spent,
    )

pub returns-in-Ok-clause-ok : goal.returns-in-Ok-clause-ok
returns-in-Ok-clause-ok g c =
    let inside = c.self.inside in
    let p = c.args.place - 1 in
    let marks = c.prepare.new.begun.items in
    let begun : inside.begun.items ≡ c.args.self.now.begun = ap (λ (j : Journalled g.row.D.Denot). j.begun) c.self.view_is in
    let calls : inside.calls ≡ c.args.self.now.calls = ap (λ (j : Journalled g.row.D.Denot). j.calls) c.self.view_is in
    let design : inside.state.design ≡ c.args.self.now.design = ap (λ (j : Journalled g.row.D.Denot). j.design) c.self.view_is in
    let state : inside.state.world ≡ c.args.self.now.state = ap (λ (j : Journalled g.row.D.Denot). j.state) c.self.view_is in
    let lt : p < length marks = omega (
      arith,
      c.in_ok-event.ensures.long,
      ap length c.as_slice.ensures,
      ap length calls,
      c.requires.high,
      c.requires.low,
    ) in
    let inner : p < length c.as_slice-2.result.now =
    omega (arith, ap length c.as_slice-2.ensures, ap length calls, c.requires.high, c.requires.low) in
    let call = c.index-as_slice-index.result in
    let again : slice_get inside.calls p ≡ Some call =
    ap (λ (l : List Call). slice_get l p) (sym c.as_slice-2.ensures) ∙ got c.as_slice-2.result.now p call inner
    c.index-as_slice-index.is in
    let answer = c.in-Ok.ensures.answer in
    let after = c.begin.new.self.world in
    record {
      call = call;
      is_call = ap (λ (l : List Call). slice_get l p) (sym calls) ∙ again;
      begins =
          subst (λ (x : Design). after_event x c.args.self.now.state (Begin call) ≡ Some after) design
          (subst (λ (w : World). after_event inside.state.design w (Begin call) ≡ Some after) state answer.1);
      number = answer.0 ∙ ap next_number state;
      here = get_or-set_same marks p true false lt;
      others = λ q other. get_or-set_other marks p q true false other ∙ c.prepare.ensures.marks q ∙ ap
          (λ (l : List Bool). get_or l q false) begun;
    }

pub invariant_of-self-in-Err-Memory-2 : goal.invariant_of-self-in-Err-Memory-2
invariant_of-self-in-Err-Memory-2 g c =
    let inside = c.self.inside in
    let old = inside.state in
    let now = c.begin.new.self in
    let wal = c.prepare.new.wal in
    let marks = c.prepare.new.begun.items in
    let wide =
    in_step_widened old.design old.world inside.wal wal inside.found inside.calls inside.begun.items marks inside.lowest c.self.invariant.0
    c.prepare.ensures.lists.lists (c.prepare.ensures.same inside.calls) c.prepare.ensures.marks in
    let same =
    same_world old.design old.world now.world c.index-as_slice-index.result c.in-Err-Memory.field-0 c.in-Err-Memory.ensures.answer in (
      in_step_same old.design now.design old.world now.world wal.durable wal.tail inside.found inside.calls marks inside.lowest wide
          c.begin.ensures.design same,
      still_held old.design now.design old.world.events now.world.events [] inside.wal.waiting wal.waiting c.begin.ensures.design
          (ap (λ (w : World). w.events) same ∙ sym (append-nil old.world.events)) c.prepare.ensures.lists.lists.waiting
          c.self.invariant.1,
      c.self.invariant.2 ∙ sym c.prepare.ensures.lists.spent,
    )
