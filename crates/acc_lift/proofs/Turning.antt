-- A forward step, an undo step and a turn keep a state steady.
use Rattle.std.proofs.Common.{◌≡◌, ℕ, ◌+◌, ◌*◌, ◌<◌, ◌^◌, ◌⊎◌, inl, inr, List, [], ◌∷◌, length, Bool, true, false, sym, subst, refl, ap}
use Rattle.std.proofs.Common.{◌∙◌, if◌then◌else◌, arith, Option, Some, None, pos, ◌≤ℤ◌, ◌<ℤ◌, ℤ, get_or, set}
use Rattle.std.specs.Prelude.{All, ◌≢◌, IsTrue, nat_lt, slice_get}
use Rattle.std.specs.List.{list_all}
use Rattle.std.proofs.lemmas.Option.{same_Some, none-some, cond_some}
use Rattle.std.specs.Prelude.{option_and_then}
use Rattle.std.proofs.lemmas.Bool.Decides.{nat_tests}
use Rattle.std.proofs.lemmas.List.Elements.{All-head, All-tail, recursion_from_All}
use Rattle.acc_base.specs.declared.tables.Row.{Row}
use Rattle.acc_base.specs.declared.steps.Read.{Read}
use Rattle.acc_base.specs.declared.steps.Target.{Target}
use Rattle.acc_base.specs.declared.steps.Target.TheVariants.{Point as ToPoint, Commit, Undone}
use Rattle.acc_base.specs.declared.designs.Design.{Design}
use Rattle.acc_base.specs.declared.designs.Side.TheVariants.{Next, Undo as UndoSide}
use Rattle.acc_base.specs.declared.machines.Frame.{Frame}
use Rattle.acc_base.specs.declared.machines.Cause.{Cause}
use Rattle.acc_base.specs.declared.machines.Cause.TheVariants.{Limit, Asked}
use Rattle.acc_base.specs.declared.machines.Event.{Event}
use Rattle.acc_base.specs.declared.machines.Reply.{Reply}
use Rattle.acc_base.specs.declared.machines.Transaction.TheVariants.{Forward, Undoing, Ended}
use Rattle.acc_base.specs.Linear.{var, variables, lin_values}
use Rattle.acc_base.specs.Numbers.{is_small}
use Rattle.acc_base.specs.Reads.{Reading, unread, assigned, read_key, read_value, at_after, after_read, after_reads}
use Rattle.acc_base.specs.Effects.{Goes, effect_of}
use Rattle.acc_base.specs.Machine.{World, transaction_at, became, moved, limit_of, is_asked, stop_by, stop_of}
use Rattle.acc_base.proofs.EffectParts.{parts}
use Rattle.acc_base.specs.Entries.{at_of, IsFree}
use Rattle.acc_base.specs.PrivateRows.{type_puts}
use Rattle.acc_base.specs.Soundness.{WhereGoes, variant_of, FallsAt, IsSound}
use Rattle.acc_lift.specs.RunRules.{HasRunRules, IsUnassigned}
use Rattle.acc_base.specs.Locks.{frame_at, LeadsBack, ClashesAfter, BlocksEffect, IsUnblocked, AreCompatibleFrames}
use Rattle.acc_base.specs.Invariant.{Stands, IsWithin, IsSteady}
use Rattle.acc_lift.proofs.Transactions.{frame_from}
use Rattle.acc_lift.proofs.Kept.{set_read}
use Rattle.acc_lift.proofs.Reserved.{compatible_undo, undo_free, compatible_locals}
use Rattle.acc_lift.proofs.Becoming.{becomes_steady, stands_at, weaker_bound}
use Rattle.acc_lift.proofs.Stepping.{typed, frame_to, ready, Left, left, forward_stands, undo_stands}
use Rattle.acc_lift.proofs.Falls.{forward_falls, undo_falls, turn_falls}

-- ---- a local that no read assigns keeps its value

module _ (db : List Row) (f : Frame) (x : ℕ) where
  one_keeps : (s next : Reading) (r : Read) → after_read db f s r ≡ Some next → assigned r ≢ x → var next.locals x ≡ var s.locals x
  one_keeps s next r e n =
      let v = read_value db f.tape s.at (variables f.t s.locals) r in
      let k = cond_some (list_all is_small (v ∷ lin_values (variables f.t s.locals) (read_key r)))
      (record { locals = set s.locals (assigned r) v; at = at_after (length f.tape) s.at r }) next e in
      ap (λ z. var z.locals x) (sym k.1) ∙ by v (set_read s.locals (assigned r) x v (pos 0))
    where
      by :
          (v : ℤ) → ((x ≡ assigned r) × (get_or (set s.locals (assigned r) v) x (pos 0) ≡ v))
          ⊎ (get_or (set s.locals (assigned r) v) x (pos 0) ≡ get_or s.locals x (pos 0))
          → get_or (set s.locals (assigned r) v) x (pos 0) ≡ get_or s.locals x (pos 0)
      by v (inl h) = absurd (n (sym h.0))
      by v (inr h) = h

  pub reads_keep :
      (rs : List Read) (s last : Reading) → after_reads db f rs s ≡ Some last → All (λ r. assigned r ≢ x) rs
      → var last.locals x ≡ var s.locals x
  reads_keep [] s last e h = ap (λ z. var z.locals x) (sym (same_Some s last e))
  reads_keep (r ∷ rs) s last e h = by (after_read db f s r) refl (λ y g. reads_keep rs y last g (All-tail (λ z. assigned z ≢ x) r rs h)) e
    where
      by :
          (o : Option Reading) → after_read db f s r ≡ o
          → ((y : Reading) → after_reads db f rs y ≡ Some last → var last.locals x ≡ var y.locals x)
          → option_and_then (after_reads db f rs) o ≡ Some last → var last.locals x ≡ var s.locals x
      by None k ih g = absurd (none-some last g)
      by (Some y) k ih g = ih y g ∙ one_keeps s y r k (All-head (λ z. assigned z ≢ x) r rs h)

-- ---- forward

-- what holds where nothing stops a step
pub below_limit : (d : Design) (db : List Row) (f : Frame) → stop_of d db f ≡ None → f.steps < limit_of (slice_get d.types f.ty)
below_limit d db f goes = by (is_asked f.ask f.steps) (nat_lt f.steps (limit_of (slice_get d.types f.ty))) refl goes
  where
    by :
        (a b : Bool) → nat_lt f.steps (limit_of (slice_get d.types f.ty)) ≡ b
        → (if a then Some Asked else (if b then stop_by (effect_of d db f Next) else Some Limit)) ≡ None
        → f.steps < limit_of (slice_get d.types f.ty)
    by true b e h = cc
    by false true e h = grind (arith, nat_tests)
    by false false e h = cc

module _ (d : Design) (sound : IsSound d) (well : HasRunRules d) (w : World) (steady : IsSteady d w) (e : Event) (t : ℕ) (f : Frame) where
  module _ (at : transaction_at t w.transactions ≡ Some (Forward f)) (goes : stop_of d w.rows f ≡ None) (unblocked : IsUnblocked d w f)
      (after : List Row) (s : Reading) (i : ℕ) (to : Target) (effect : effect_of d w.rows f Next ≡ Goes after s i to) where
    stands : Stands d w.rows t Next f
    stands = steady.each t (Forward f) at

    leaves : Left d w t f Next after s to
    leaves = left d sound well w steady t f (frame_from t w f (Forward f) at refl) Next stands Next after s i to effect

    apart : (u : ℕ) → u ≢ t → u ≢ f.t
    apart u n q = n (q ∙ stands.number)

    free : (u : ℕ) (g : Frame) → frame_at u w ≡ Some g → u ≢ t → IsFree d g f Next s
    free u g m n k forbids =
        unblocked u k
        (record { holder = g; is_holder = m; other = apart u n; blocks = subst (BlocksEffect d f g k) (sym effect) (inl forbids) })

    fresh : (p : ℕ) → to ≡ ToPoint p → (u : ℕ) (h : Frame) → frame_at u w ≡ Some h → u ≢ t → AreCompatibleFrames d (moved Next f s p) h
    fresh p q u h m n k clash =
        unblocked u k
        (record {
          holder = h;
          is_holder = m;
          other = apart u n;
          blocks = subst (BlocksEffect d f h k) (sym effect) (inr (subst (ClashesAfter d f h k s) (sym q) clash));
        })

    pub forward_point : (p : ℕ) → to ≡ ToPoint p → IsSteady d (became w e t (after, Forward (moved Next f s p)))
    forward_point p q =
        let below = below_limit d w.rows f goes in
        becomes_steady d w steady e t (Forward f) (Forward (moved Next f s p)) at after (record {
          rows = leaves.rows;
          few = leaves.few;
          always = leaves.always;
          kept = forward_stands d w t f after s to p q stands leaves below;
          others = λ u g m n. leaves.spared u g m n (free u g m n);
          fresh = λ g m u h k n. subst (λ z. AreCompatibleFrames d z h) (same_Some (moved Next f s p) g m) (fresh p q u h k n);
          owned = leaves.owned;
          owner =
              λ r m b g k puts. (
                moved Next f s p,
                refl,
                subst (λ z. IsTrue (type_puts r.table (slice_get d.types z.ty))) (sym (same_Some f g k)) puts,
              );
          bounded = leaves.bounded;
          falls = forward_falls (limit_of (slice_get d.types f.ty)) f.steps below;
        })

    pub forward_end : to ≡ Commit → (reply : Reply) → reply.t ≡ f.t → IsSteady d (became w e t (after, Ended reply))
    forward_end q reply number =
        becomes_steady d w steady e t (Forward f) (Ended reply) at after (record {
          rows = leaves.rows;
          few = leaves.few;
          always = leaves.always;
          kept = number ∙ stands.number;
          others = λ u g m n. leaves.spared u g m n (free u g m n);
          fresh = λ g m. cc;
          owned = leaves.owned;
          owner =
              λ r m b g k puts. absurd (leaves.cleared (inl q) r m b
              (subst (λ z. IsTrue (type_puts r.table (slice_get d.types z.ty))) (sym (same_Some f g k)) puts));
          bounded = leaves.bounded;
          falls = omega arith;
        })

  -- ---- on the undo side

  module _ (c : Cause) (at : transaction_at t w.transactions ≡ Some (Undoing f c)) where
    back : Stands d w.rows t UndoSide f
    back = steady.each t (Undoing f c) at

    here : frame_at t w ≡ Some f
    here = frame_from t w f (Undoing f c) at refl

    -- no other transaction forbids the step
    pub undo_unforbidden : (s : Reading) (u : ℕ) (g : Frame) → frame_at u w ≡ Some g → u ≢ t → IsFree d g f UndoSide s
    undo_unforbidden s u g m n k forbids =
        undo_free d (at_of f) (at_of g) f.locals g.locals (steady.compatible t u f g here m (λ q. n (sym q))) k forbids

    module _ (after : List Row) (s : Reading) (i : ℕ) (to : Target) (effect : effect_of d w.rows f UndoSide ≡ Goes after s i to) where
      goes_back : Left d w t f UndoSide after s to
      goes_back = left d sound well w steady t f here UndoSide back UndoSide after s i to effect

      kept : (x : ℕ) → IsUnassigned d f.ty x → var s.locals x ≡ var f.locals x
      kept x u =
          let by = parts after s i to d w.rows f UndoSide effect in
          reads_keep w.rows f x by.step.reads (unread f) s by.reads (u f.point by.step by.is_step)

      leads : (p : ℕ) → to ≡ ToPoint p → LeadsBack d f.ty f.point p
      leads p q =
          let by = parts after s i to d w.rows f UndoSide effect in
          record { step = by.step; is_step = by.is_step; place = i; path = by.path; is_path = by.is_path; target = by.target ∙ q }

      undo_fresh :
          (p : ℕ) → to ≡ ToPoint p → (u : ℕ) (h : Frame) → frame_at u w ≡ Some h → u ≢ t → AreCompatibleFrames d (moved UndoSide f s p) h
      undo_fresh p q u h m n =
          compatible_locals d well f.ty f.locals s.locals kept p (at_of h) h.locals
          (compatible_undo d f.ty f.point p (at_of h) f.locals h.locals (leads p q) (steady.compatible t u f h here m (λ z. n (sym z))))

      pub variant_falls : (p : ℕ) → to ≡ ToPoint p → variant_of d (moved UndoSide f s p) <ℤ variant_of d f
      variant_falls p q =
          let k = subst (WhereGoes (λ rows z j target. FallsAt d f z target)) effect
          (sound.falls w.rows f (ready d w steady t UndoSide f back)) in
          subst (FallsAt d f s) q k

      pub variant_from : (p : ℕ) → to ≡ ToPoint p → pos 0 ≤ℤ variant_of d (moved UndoSide f s p)
      variant_from p q =
          let k = undo_stands d w t f after s to p q back goes_back in
          (sound.variant after (moved UndoSide f s p)
          (record { rows = goes_back.rows; always = goes_back.always; frame = k.frame; holds = k.holds })).0

      pub undo_point : (p : ℕ) → to ≡ ToPoint p → IsSteady d (became w e t (after, Undoing (moved UndoSide f s p) c))
      undo_point p q =
          becomes_steady d w steady e t (Undoing f c) (Undoing (moved UndoSide f s p) c) at after (record {
            rows = goes_back.rows;
            few = goes_back.few;
            always = goes_back.always;
            kept = undo_stands d w t f after s to p q back goes_back;
            others = λ u g m n. goes_back.spared u g m n (undo_unforbidden s u g m n);
            fresh = λ g m u h k n. subst (λ z. AreCompatibleFrames d z h) (same_Some (moved UndoSide f s p) g m) (undo_fresh p q u h k n);
            owned = goes_back.owned;
            owner =
                λ r m b g k puts. (
                  moved UndoSide f s p,
                  refl,
                  subst (λ z. IsTrue (type_puts r.table (slice_get d.types z.ty))) (sym (same_Some f g k)) puts,
                );
            bounded = goes_back.bounded;
            falls = undo_falls (variant_of d f) (variant_of d (moved UndoSide f s p)) (variant_from p q) (variant_falls p q);
          })

      pub undo_end : to ≡ Undone → (reply : Reply) → reply.t ≡ f.t → IsSteady d (became w e t (after, Ended reply))
      undo_end q reply number =
          becomes_steady d w steady e t (Undoing f c) (Ended reply) at after (record {
            rows = goes_back.rows;
            few = goes_back.few;
            always = goes_back.always;
            kept = number ∙ back.number;
            others = λ u g m n. goes_back.spared u g m n (undo_unforbidden s u g m n);
            fresh = λ g m. cc;
            owned = goes_back.owned;
            owner =
                λ r m b g k puts. absurd (goes_back.cleared (inr q) r m b
                (subst (λ z. IsTrue (type_puts r.table (slice_get d.types z.ty))) (sym (same_Some f g k)) puts));
            bounded = goes_back.bounded;
            falls = omega arith;
          })

  -- ---- a turn

  module _ (c : Cause) (at : transaction_at t w.transactions ≡ Some (Forward f)) where
    abbrev turned_frame : Frame
    turned_frame = record f { side = UndoSide }

    pub turn_steady : IsSteady d (became w e t (w.rows, Undoing turned_frame c))
    turn_steady =
        let k : Stands d w.rows t Next f = steady.each t (Forward f) at in
        let own = typed d f k.frame in
        let here : frame_at t w ≡ Some f = frame_from t w f (Forward f) at refl in
        let v = sound.variant w.rows f (ready d w steady t Next f k) in
        becomes_steady d w steady e t (Forward f) (Undoing turned_frame c) at w.rows (record {
          rows = steady.rows;
          few = let a = steady.few in omega arith;
          always = steady.always;
          kept =
              record {
                number = k.number;
                side_is = refl;
                frame = frame_to d turned_frame own.type own.is_type
                    (record {
                      point = own.frame.point;
                      each = own.frame.each;
                      locals = own.frame.locals;
                      tape = own.frame.tape;
                      first = own.frame.first;
                      number = own.frame.number;
                      steps = own.frame.steps;
                      at = own.frame.at;
                    });
                holds = k.holds;
              };
          others = λ u g m n. (stands_at d w steady u g m).stands.holds;
          fresh =
              λ g m u h q n. subst (λ z. AreCompatibleFrames d z h) (same_Some turned_frame g m)
              (steady.compatible t u f h here q (λ z. n (sym z)));
          owned = steady.owned;
          owner =
              λ r m b g q puts. (
                turned_frame,
                refl,
                subst (λ z. IsTrue (type_puts r.table (slice_get d.types z.ty))) (sym (same_Some f g q)) puts,
              );
          bounded =
              weaker_bound (2 ^ 45 * (1 + length w.events)) (2 ^ 45 * (1 + length w.events) + 2 ^ 45) w.rows (omega arith)
              (recursion_from_All (IsWithin (2 ^ 45 * (1 + length w.events))) w.rows steady.bounded);
          falls = turn_falls (limit_of (slice_get d.types f.ty)) f.steps (variant_of d f) v.0 v.1;
        })
