-- A transaction that begins keeps a state steady.
use Rattle.std.proofs.Common.{◌≡◌, ℕ, ◌+◌, ◌-◌, ◌*◌, ◌<◌, ◌≤◌, ◌^◌, ◌⊎◌, inl, inr, [], ◌∷◌, ◌++◌, length, replicate, true, sym, subst, refl}
use Rattle.std.proofs.Common.{ap, ◌∙◌, arith, Option, Some, None, pos, length-append}
use Rattle.std.proofs.lemmas.List.{length-replicate}
use Rattle.std.specs.Prelude.{◌≢◌, ◌&&◌, ◌==◌, nat_le, IsTrue, slice_get, sum_by}
use Rattle.std.specs.List.{list_all}
use Rattle.std.proofs.lemmas.Int.{ints}
use Rattle.std.proofs.lemmas.Bool.{and_parts, eqb-true}
use Rattle.std.proofs.lemmas.Option.{same_Some}
use Rattle.std.proofs.lemmas.List.Sums.{sum_by_push}
use Rattle.std.proofs.lemmas.List.Elements.{All-append, All-replicate, All-weaker, All-from_recursion, recursion_from_All}
use Rattle.acc_base.specs.declared.tables.Row.{Row}
use Rattle.acc_base.specs.declared.designs.Design.{Design}
use Rattle.acc_base.specs.declared.designs.TxType.{TxType}
use Rattle.acc_base.specs.declared.designs.Side.TheVariants.{Undo as UndoSide}
use Rattle.acc_base.specs.declared.machines.Frame.{Frame}
use Rattle.acc_base.specs.declared.machines.Call.{Call}
use Rattle.acc_base.specs.declared.machines.Event.TheVariants.{Begin}
use Rattle.acc_base.specs.declared.machines.Transaction.{Transaction}
use Rattle.acc_base.specs.declared.machines.Transaction.TheVariants.{Forward, Undoing, Ended}
use Rattle.acc_base.specs.Numbers.{IsSmall, is_small}
use Rattle.acc_base.specs.Assertions.{Holds}
use Rattle.acc_base.specs.Machine.{World, transaction_at, frame_in, unfinished, next_number, limit_of, call_fits, ask_fits, locals_in}
use Rattle.acc_base.specs.Machine.{begun, with_begun}
use Rattle.acc_base.proofs.Smalls.{all_small}
use Rattle.acc_base.specs.Fits.{IsFrame}
use Rattle.acc_base.specs.Entries.{at_of}
use Rattle.acc_base.specs.PrivateRows.{IsPrivateOf, HasNoPrivate}
use Rattle.acc_base.specs.Soundness.{variant_of, IsSound}
use Rattle.acc_lift.specs.RunRules.{HasRunRules}
use Rattle.acc_base.specs.Locks.{frame_at, AreCompatibleFrames}
use Rattle.acc_base.specs.Invariant.{IsKept, rest_of, IsOwned, IsWithin, IsSteady}
use Rattle.acc_lift.proofs.Transactions.{at_within, at_number, at_push, pushed_old, IsOpen, opened, frame_from, sum_most}
use Rattle.acc_lift.proofs.Reserved.{compatible_start, compatible_turned}
use Rattle.acc_lift.proofs.Owners.{last_unique}
use Rattle.acc_lift.proofs.Becoming.{longer, weaker_bound}
use Rattle.acc_lift.proofs.Stepping.{typed, frame_to, ready}
use Rattle.acc_lift.proofs.Falls.{forward_most, undo_most}

-- ---- a call that fits

record CallParts (x : TxType) (call : Call) : Type 0 where
  params : length call.params ≡ x.params
  small : list_all is_small call.params ≡ true
  tape : list_all is_small call.tape ≡ true

call_parts : (x : TxType) (call : Call) → call_fits (Some x) call ≡ true → CallParts x call
call_parts x call h =
    let a = and_parts ((length call.params == x.params) && list_all is_small call.params && list_all is_small call.tape && nat_le
    (length call.tape) 4096) (ask_fits call.ask) h in
    let b = and_parts ((length call.params == x.params) && list_all is_small call.params && list_all is_small call.tape)
    (nat_le (length call.tape) 4096) a.0 in
    let c = and_parts ((length call.params == x.params) && list_all is_small call.params) (list_all is_small call.tape) b.0 in
    let e = and_parts (length call.params == x.params) (list_all is_small call.params) c.0 in
    record { params = eqb-true (length call.params) x.params e.0; small = e.1; tape = c.1 }

typed_call : (call : Call) (o : Option TxType) → call_fits o call ≡ true → (x : TxType) × (o ≡ Some x) × CallParts x call
typed_call call None h = cc
typed_call call (Some x) h = (x, refl, call_parts x call h)

module _ (d : Design) (sound : IsSound d) (well : HasRunRules d) (w : World) (steady : IsSteady d w) where
  -- ---- the measure

  limit_most : (f : Frame) → IsFrame d f → limit_of (slice_get d.types f.ty) ≤ 65536
  limit_most f h = let k = typed d f h in subst (λ o. limit_of o ≤ 65536) (sym k.is_type) (well.types f.ty k.type k.is_type).limit

  rest_most : (t : ℕ) (x : Transaction) → IsKept d w.rows t x → rest_of d x ≤ 131074
  rest_most t (Forward f) k = forward_most (limit_of (slice_get d.types f.ty)) f.steps (limit_most f k.frame)
  rest_most t (Undoing f c) k = let v = sound.variant w.rows f (ready d w steady t UndoSide f k) in undo_most (variant_of d f) v.0 v.1
  rest_most t (Ended r) k = omega arith

  ended_none : (x : Transaction) → frame_in x ≡ None → rest_of d x ≤ 0
  ended_none (Forward f) e = cc
  ended_none (Undoing f c) e = cc
  ended_none (Ended r) e = omega arith

  pub rests_most : sum_by (rest_of d) w.transactions ≤ length (unfinished w) * 131074
  rests_most =
      sum_most (rest_of d) 131074 ended_none w.transactions
      (λ i x h. rest_most (i + 1) x (steady.each (i + 1) x (at_number w.transactions i ∙ h)))

  module _ (call : Call) (events : length w.events < 2 ^ 20) (few : length (unfinished w) < 64)
      (fit : IsTrue (call_fits (slice_get d.types call.ty) call)) where
    abbrev new : Frame
    new = begun d (next_number w) call

    abbrev after : World
    after = with_begun d w call

    number : next_number w ≤ 2 ^ 45
    number = let k = steady.counted in omega arith

    below : (u : ℕ) (g : Frame) → frame_at u w ≡ Some g → u < next_number w
    below u g m = let o = opened u w g m in let k = (at_within u w.transactions o.x o.at).1 in omega arith

    none_private : (r : Row) → IsOwned d w r → IsPrivateOf d (pos (next_number w)) r → ⊥
    none_private r h p =
        let o = h p.own in
        let l = below o.t o.owner o.is_owner in
        let e : pos o.t ≡ pos (next_number w) = last_unique (pos o.t) (pos (next_number w)) (slice_get r.key.parts (length r.key.parts - 1))
        o.ends.ends p.ends in
        omega (arith, ints)

    no_private : HasNoPrivate d (pos (next_number w)) w.rows
    no_private = All-weaker (IsOwned d w) (λ r. ¬ IsPrivateOf d (pos (next_number w)) r) none_private w.rows steady.owned

    the_call : (x : TxType) × (slice_get d.types call.ty ≡ Some x) × CallParts x call
    the_call = typed_call call (slice_get d.types call.ty) fit

    new_frame : IsFrame d new
    new_frame =
        let k = the_call in
        let t = well.types call.ty k.0 k.1 in
        let l : locals_in (slice_get d.types call.ty) ≡ length k.0.locals = ap locals_in k.1 in
        frame_to d new k.0 k.1 (record {
          point = t.start;
          each =
              let a = length-append call.params (replicate (locals_in (slice_get d.types call.ty) - length call.params) (pos 0)) in
              let b = length-replicate (locals_in (slice_get d.types call.ty) - length call.params) (pos 0) in
              let c = t.params in let q = k.2.params in omega arith;
          locals =
              All-append IsSmall call.params (replicate (locals_in (slice_get d.types call.ty) - length call.params) (pos 0))
              (all_small call.params k.2.small) (All-replicate IsSmall (locals_in (slice_get d.types call.ty) - length call.params) (pos 0)
              (omega (arith, ints)));
          tape = all_small call.tape k.2.tape;
          first = omega arith;
          number = number;
          steps = omega arith;
          at = omega arith;
        })

    new_holds : Holds d w.rows new
    new_holds = sound.begins w.rows (next_number w) call steady.rows steady.always fit (omega arith) number no_private

    each_after : (u : ℕ) (x : Transaction) → transaction_at u after.transactions ≡ Some x → IsKept d w.rows u x
    each_after u x h = by (at_push u w.transactions (Forward new) x h)
      where
        by : ((u ≡ length w.transactions + 1) × (x ≡ Forward new)) ⊎ (transaction_at u w.transactions ≡ Some x) → IsKept d w.rows u x
        by (inl k) =
            let here : IsKept d w.rows u (Forward new) =
            record { number = sym k.0; side_is = refl; frame = new_frame; holds = new_holds } in
            subst (IsKept d w.rows u) (sym k.1) here
        by (inr k) = steady.each u x k

    frame_cases : (u : ℕ) (g : Frame) → frame_at u after ≡ Some g → ((u ≡ next_number w) × (new ≡ g)) ⊎ (frame_at u w ≡ Some g)
    frame_cases u g h = let o = opened u after g h in by o (at_push u w.transactions (Forward new) o.x o.at)
      where
        by :
            (o : IsOpen u after g) → ((u ≡ length w.transactions + 1) × (o.x ≡ Forward new)) ⊎ (transaction_at u w.transactions ≡ Some o.x)
            → ((u ≡ next_number w) × (new ≡ g)) ⊎ (frame_at u w ≡ Some g)
        by o (inl k) = inl (k.0, same_Some new g (ap frame_in (sym k.1) ∙ o.frame))
        by o (inr k) = inr (frame_from u w g o.x k o.frame)

    compatible_after : (u v : ℕ) (g h : Frame) → frame_at u after ≡ Some g → frame_at v after ≡ Some h → u ≢ v → AreCompatibleFrames d g h
    compatible_after u v g h a b n = by (frame_cases u g a) (frame_cases v h b)
      where
        by :
            ((u ≡ next_number w) × (new ≡ g)) ⊎ (frame_at u w ≡ Some g) → ((v ≡ next_number w) × (new ≡ h)) ⊎ (frame_at v w ≡ Some h)
            → AreCompatibleFrames d g h
        by (inl p) (inl q) = absurd (n (p.0 ∙ sym q.0))
        by (inl p) (inr q) = subst (λ z. AreCompatibleFrames d z h) p.1 (compatible_start d well call.ty new.locals (at_of h) h.locals)
        by (inr p) (inl q) =
            subst (λ z. AreCompatibleFrames d g z) q.1
            (compatible_turned d (at_of new) (at_of g) new.locals g.locals (compatible_start d well call.ty new.locals (at_of g) g.locals))
        by (inr p) (inr q) = steady.compatible u v g h p q n

    owned_after : (r : Row) → IsOwned d w r → IsOwned d after r
    owned_after r h p =
        let o = h p in
        let z = opened o.t w o.owner o.is_owner in
        record {
          t = o.t;
          owner = o.owner;
          is_owner = frame_from o.t after o.owner z.x (pushed_old o.t w.transactions (Forward new) z.x z.at) z.frame;
          ends = o.ends;
          puts = o.puts;
        }

    pub begin_steady : IsSteady d after
    begin_steady = record {
      rows = steady.rows;
      few = let a = steady.few in let b = longer w.events (Begin call) in omega arith;
      counted =
          let a = steady.counted in
          let b = longer w.events (Begin call) in let c = length-append w.transactions (Forward new ∷ []) in omega arith;
      each = each_after;
      always = steady.always;
      compatible = compatible_after;
      owned = All-weaker (IsOwned d w) (IsOwned d after) owned_after w.rows steady.owned;
      bounded =
          let l = longer w.events (Begin call) in
          All-from_recursion (IsWithin (2 ^ 45 * (1 + length (w.events ++ Begin call ∷ [])))) w.rows
          (weaker_bound (2 ^ 45 * (1 + length w.events)) (2 ^ 45 * (1 + length (w.events ++ Begin call ∷ []))) w.rows (omega arith)
          (recursion_from_All (IsWithin (2 ^ 45 * (1 + length w.events))) w.rows steady.bounded));
      ends =
          let a = sum_by_push (rest_of d) w.transactions (Forward new) in
          let b = rests_most in
          let c = longer w.events (Begin call) in
          let n : rest_of d (Forward new) ≤ 131074 =
          forward_most (limit_of (slice_get d.types new.ty)) new.steps (limit_most new new_frame) in
          omega arith;
    }
