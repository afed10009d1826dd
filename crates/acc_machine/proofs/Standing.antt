-- What the calls below ask of a state that is kept.
use Rattle.std.proofs.Common.{◌≡◌, ℕ, ◌<◌, ◌^◌, [], length, get_or, sym, ap, subst, refl, ◌∙◌, arith, Option, Some, None}
use Rattle.std.specs.Prelude.{IfSome, IsSomeAnd, IsSome, slice_get, option_and_then}
use Rattle.std.proofs.lemmas.Option.{same_Some, slice_get-get_or}
use Rattle.acc_base.specs.declared.designs.Design.{Design}
use Rattle.acc_base.specs.declared.designs.TxType.{TxType}
use Rattle.acc_base.specs.declared.designs.Side.TheVariants.{Next}
use Rattle.acc_base.specs.declared.machines.Frame.{Frame}
use Rattle.acc_base.specs.declared.machines.Transaction.TheVariants.{Forward}
use Rattle.acc_base.specs.Effects.{Effect, Goes, Refuses, OutOfRange, effect_of}
use Rattle.acc_base.specs.Machine.{World, start, frame_in, unfinished}
use Rattle.acc_base.specs.Runnable.{IsSmallFrame}
use Rattle.acc_base.specs.Tables.{IsInOrder}
use Rattle.acc_store.specs.Bounds.{AreWithin}
use Rattle.acc_plain.specs.Outlooks.{outlook_of}
use Rattle.acc_plain.specs.Reached.{IsReached}
use Rattle.acc_plain.proofs.Ready.{ready}
use Rattle.acc_base.specs.Annotated.{IsAnnotated, IsIdle}
use Rattle.acc_base.specs.Invariant.{IsSteady}
use Rattle.acc_lift.proofs.Becoming.{stands_at}
use Rattle.acc_lift.proofs.Stepping.{typed}
use Rattle.acc_lift.proofs.Theorem.{lead_runs, annotated, idle}
use Rattle.acc_lift.proofs.FormRules.{run_rules}
use Rattle.acc_machine.specs.Kept.{IsKept}
use Rattle.acc_machine.specs.Blocked.{AreAtPoints}
use Rattle.acc_machine.specs.HeldUp.{locals_of, TellsHeldUp}
use Rattle.acc_machine.specs.Holders.{IsForward, TellsHolder}
use Rattle.acc_machine.proofs.Places.{of_number}
use Rattle.acc_machine.proofs.FirstBlockers.{Agrees, unblocked, lowest_blocker}
use Rattle.acc_machine.proofs.Stops.{there}

module _ (d : Design) (w : World) (kept : IsKept d w) where
  steady : IsSteady d w
  steady = kept.good.steady

  pub reached : IsReached d w
  reached = record { runnable = kept.accepted.runnable; run = lead_runs d w.events start w kept.good.lawful }

  -- ---- what is promised of it

  pub noted : IsAnnotated d w.events
  noted = annotated d kept.accepted.sound (run_rules d kept.accepted.formed) w.events (w, kept.good.lawful)

  pub rests : unfinished w ≡ [] → IsIdle d w.rows
  rests = idle d w steady

  -- ---- what calls ask

  pub room : length w.events < 2 ^ 30
  room = let e = steady.ends in omega arith

  pub record Fits (f : Frame) : Type 0 where
    pub fits : IsSmallFrame f
    pub order : IsInOrder w.rows
    pub within : AreWithin (2 ^ 120) w.rows

  pub forward_fits : (f : Frame) → IsForward w f → Fits f
  forward_fits f at =
      let open_t = subst (λ o. IsSomeAnd o (λ x. IsSome (frame_in x))) (sym at) refl in
      let r = ready d w f.t reached room open_t in
      let x : r.x ≡ Forward f = same_Some r.x (Forward f) (sym r.at ∙ at) in
      record { fits = subst (λ z. IfSome (frame_in z) IsSmallFrame) x r.fits; order = r.order; within = r.within }

  pub at_points : AreAtPoints d (unfinished w)
  at_points k x l =
      let g = get_or (unfinished w) k x in
      let o = of_number d w steady k g (slice_get-get_or (unfinished w) k x l) in
      let s = stands_at d w steady g.t g o.frame in
      let t = typed d g s.stands.frame in
      let p = there t.type.points g.point t.frame.point in
      record { point = p.0; is_point = ap (option_and_then (λ (y : TxType). slice_get y.points g.point)) t.is_type ∙ p.1 }

  agrees : (E : Effect) → Agrees E (locals_of E)
  agrees (Goes db s i to) = refl
  agrees (Refuses s n) = refl
  agrees OutOfRange = tt

  pub tells_holder : (f : Frame) (r : Option (ℕ × ℕ)) → TellsHeldUp d w.rows (unfinished w) f r → TellsHolder d w f r
  tells_holder f None h = λ q. unblocked d w steady f (locals_of (effect_of d w.rows f Next)) (outlook_of (effect_of d w.rows f Next))
      refl (agrees (effect_of d w.rows f Next)) (h q)
  tells_holder f (Some x) h = (
    h.0,
    lowest_blocker d w steady f (locals_of (effect_of d w.rows f Next)) (outlook_of (effect_of d w.rows f Next)) refl
        (agrees (effect_of d w.rows f Next)) x.0 x.1 h.1,
  )
