-- Recovery compensates each unfinished transaction.
use Rattle.std.proofs.Common.{◌≡◌, ℕ, suc, ◌+◌, ◌-◌, ◌⊎◌, inl, inr, List, [], ◌∷◌, length, true, Option, Some, None}
use Rattle.std.proofs.Common.{refl, sym, ap, subst, ◌∙◌, arith, cond}
use Rattle.std.specs.Prelude.{Bool, ◌≢◌, ◌&&◌, is_some, slice_get, count_by, zip}
use Rattle.std.specs.List.{filter_map, cons_option}
use Rattle.std.proofs.lemmas.Option.{same_Some, none-some}
use Rattle.std.proofs.lemmas.List.Sums.{sum_by-cons}
use Rattle.acc_base.specs.declared.tables.Row.{Row}
use Rattle.acc_base.specs.declared.designs.Design.{Design}
use Rattle.acc_base.specs.declared.designs.Side.TheVariants.{Undo as UndoSide}
use Rattle.acc_base.specs.declared.steps.Target.{Target}
use Rattle.acc_base.specs.declared.steps.Target.TheVariants.{Point as ToPoint, Commit, Undone, Refuse}
use Rattle.acc_base.specs.declared.machines.Cause.{Cause}
use Rattle.acc_base.specs.declared.machines.Cause.TheVariants.{Crash}
use Rattle.acc_base.specs.declared.machines.Frame.{Frame}
use Rattle.acc_base.specs.declared.machines.Event.{Event}
use Rattle.acc_base.specs.declared.machines.Event.TheVariants.{Abort, Undo}
use Rattle.acc_base.specs.declared.machines.Outcome.TheVariants.{Compensated}
use Rattle.acc_base.specs.declared.machines.Transaction.{Transaction}
use Rattle.acc_base.specs.declared.machines.Transaction.TheVariants.{Forward, Undoing, Ended}
use Rattle.acc_base.specs.Reads.{Reading}
use Rattle.acc_base.specs.Effects.{Effect, Goes, Refuses, OutOfRange, effect_of}
use Rattle.acc_base.specs.Machine.{World, transaction_at, frame_in, unfinished, moved, back_to, back_by, with_rows, turned, undone, changed}
use Rattle.acc_base.specs.Machine.{became, becomes, after_event}
use Rattle.acc_base.specs.Compensation.{IsNext, crash, undo, Recovers}
use Rattle.acc_lift.proofs.Transactions.{at_place, at_number, set_new, none_open}
use Rattle.acc_lift.proofs.Becoming.{number_cases}
use Rattle.acc_lift.proofs.Undoing.{abort_other, undo_other}
use Rattle.acc_recover.specs.Compensations.{is_compensated, compensated_between}

-- unfinished, or compensated
abbrev IsBound : Transaction → Type 0
IsBound x = ((f : Frame) × (frame_in x ≡ Some f)) ⊎ (is_compensated x ≡ true)

-- ---- an event of a recovery leaves each such transaction so

turned_bound : (d : Design) (db : List Row) (f : Frame) (z : List Row × Transaction) → turned d db Crash (Some (Forward f)) ≡ Some z
    → IsBound z.1
turned_bound d db f z h =
    subst (λ (p : List Row × Transaction). IsBound p.1) (same_Some (db, Undoing (record f { side = UndoSide }) Crash) z h)
    (inl (record f { side = UndoSide }, refl))

to_bound : (f : Frame) (c : Cause) (db : List Row) (s : Reading) (to : Target) (z : List Row × Transaction)
    → with_rows db (back_to f c s to) ≡ Some z → IsBound z.1
to_bound f c db s (ToPoint p) z h =
    subst (λ (q : List Row × Transaction). IsBound q.1) (same_Some (db, Undoing (moved UndoSide f s p) c) z h)
    (inl (moved UndoSide f s p, refl))
to_bound f c db s Commit z h = absurd (none-some z h)
to_bound f c db s Undone z h =
    subst (λ (q : List Row × Transaction). IsBound q.1)
    (same_Some (db, Ended (record { t = f.t; outcome = Compensated c })) z h) (inr refl)
to_bound f c db s (Refuse n) z h = absurd (none-some z h)

back_bound : (f : Frame) (c : Cause) (e : Effect) (z : List Row × Transaction) → back_by f c e ≡ Some z → IsBound z.1
back_bound f c (Goes db s i to) z h = to_bound f c db s to z h
back_bound f c (Refuses s n) z h = absurd (none-some z h)
back_bound f c OutOfRange z h = absurd (none-some z h)

undone_bound : (d : Design) (db : List Row) (x : Transaction) (z : List Row × Transaction) → undone d db (Some x) ≡ Some z → IsBound z.1
undone_bound d db (Forward f) z h = absurd (none-some z h)
undone_bound d db (Undoing f c) z h = back_bound f c (effect_of d db f UndoSide) z h
undone_bound d db (Ended r) z h = absurd (none-some z h)

-- transaction u in a state, unfinished or compensated
record Bound (u : ℕ) (w : World) : Type 0 where
  x : Transaction
  at : transaction_at u w.transactions ≡ Some x
  bound : IsBound x

module _ (d : Design) (w next : World) where
  own : (e : Event) (t : ℕ) (x : Transaction) (o : Option (List Row × Transaction)) → transaction_at t w.transactions ≡ Some x
      → becomes w e t o ≡ Some next → ((z : List Row × Transaction) → o ≡ Some z → IsBound z.1) → Bound t next
  own e t x None at h good = absurd (none-some next h)
  own e t x (Some z) at h good = record {
    x = z.1;
    at = subst (λ (v : World). transaction_at t v.transactions ≡ Some z.1) (same_Some (became w e t z) next h)
        (set_new t w.transactions x z.1 at);
    bound = good z refl;
  }

  stays : (e : Event) → IsNext w e → after_event d w e ≡ Some next → (u : ℕ) → Bound u w → Bound u next
  stays e (crash t f there least) h u b = by (number_cases t u)
    where
      by : (t ≡ u) ⊎ (t ≢ u) → Bound u next
      by (inl m) =
          subst (λ n. Bound n next) m
          (own (Abort t Crash) t (Forward f) (changed d w.rows (Abort t Crash) (transaction_at t w.transactions)) there h
          (λ z q. turned_bound d w.rows f z (sym (ap (turned d w.rows Crash) there) ∙ q)))
      by (inr n) = record { x = b.x; at = abort_other d w next u b.x b.at t Crash h n; bound = b.bound }
  stays e (undo t f there none least) h u b = by (number_cases t u)
    where
      by : (t ≡ u) ⊎ (t ≢ u) → Bound u next
      by (inl m) =
          let at = subst (λ n. transaction_at n w.transactions ≡ Some b.x) (sym m) b.at in
          subst (λ n. Bound n next) m
          (own (Undo t) t b.x (changed d w.rows (Undo t) (transaction_at t w.transactions)) at h
          (λ z q. undone_bound d w.rows b.x z (sym (ap (undone d w.rows) at) ∙ q)))
      by (inr n) = record { x = b.x; at = undo_other d w next u b.x b.at t h n; bound = b.bound }

-- ---- and in the end none is unfinished

-- transaction u in a state, compensated
record Over (u : ℕ) (w : World) : Type 0 where
  x : Transaction
  at : transaction_at u w.transactions ≡ Some x
  compensated : is_compensated x ≡ true

idle_over : (w : World) → unfinished w ≡ [] → (u : ℕ) → Bound u w → Over u w
idle_over w idle u b = by b.bound
  where
    by : IsBound b.x → Over u w
    by (inl had) = absurd (none_open w.transactions idle (u - 1) b.x had.0 (at_place u w.transactions b.x b.at).1 had.1)
    by (inr over) = record { x = b.x; at = b.at; compensated = over }

ends_over : (d : Design) (events : List Event) (w last : World) → Recovers d w events last → (u : ℕ) → Bound u w → Over u last
ends_over d [] w last r u b = subst (λ (x : World). Over u x) r.0 (idle_over w r.1 u b)
ends_over d (e ∷ rest) w last r u b = ends_over d rest r.1.0 last r.1.2 u (stays d w r.1.0 e r.0 r.1.1 u b)

-- ---- so as many are compensated as were unfinished

-- place k of a list, compensated
record OverAt (k : ℕ) (ts : List Transaction) : Type 0 where
  x : Transaction
  at : slice_get ts k ≡ Some x
  compensated : is_compensated x ≡ true

abbrev is_both : Transaction × Transaction → Bool
is_both p = is_some (frame_in p.0) && is_compensated p.1

-- a list whose places are over where the other's are unfinished
abbrev EndsEach : List Transaction → List Transaction → Type 0
EndsEach xs ys = (k : ℕ) (x : Transaction) (f : Frame) → slice_get xs k ≡ Some x → frame_in x ≡ Some f → OverAt k ys

rest_over : (k : ℕ) (y : Transaction) (ys : List Transaction) → OverAt (suc k) (y ∷ ys) → OverAt k ys
rest_over k y ys o = record { x = o.x; at = o.at; compensated = o.compensated }

none_over : (k : ℕ) → OverAt k [] → ⊥
none_over k o = none-some o.x o.at

all_counted : (xs ys : List Transaction) → EndsEach xs ys → count_by is_both (zip xs ys) ≡ length (filter_map frame_in xs)
all_counted [] ys each = refl
all_counted (x ∷ xs) [] each = by (frame_in x) refl (all_counted xs [] (λ k z f a e. absurd (none_over (suc k) (each (suc k) z f a e))))
  where
    nothing : (zs : List Transaction) → count_by is_both (zip zs []) ≡ 0
    nothing [] = refl
    nothing (z ∷ zs) = refl

    by : (o : Option Frame) → frame_in x ≡ o → count_by is_both (zip xs []) ≡ length (filter_map frame_in xs)
        → 0 ≡ length (cons_option o (filter_map frame_in xs))
    by None e ih = sym (nothing xs) ∙ ih
    by (Some f) e ih = absurd (none_over 0 (each 0 x f refl e))
all_counted (x ∷ xs) (y ∷ ys) each =
    sum_by-cons (λ p. cond (is_both p) 1 0) (x, y) (zip xs ys)
    ∙ by (frame_in x) refl (all_counted xs ys (λ k z f a e. rest_over k y ys (each (suc k) z f a e)))
  where
    over : (o : OverAt 0 (y ∷ ys)) → is_compensated y ≡ true
    over o = ap is_compensated (same_Some y o.x o.at) ∙ o.compensated

    part : ℕ
    part = cond (is_some (frame_in x) && is_compensated y) 1 0

    none_counts : frame_in x ≡ None → part ≡ 0
    none_counts e = ap (λ (o : Option Frame). cond (is_some o && is_compensated y) 1 0) e

    one_counts : (f : Frame) → frame_in x ≡ Some f → part ≡ 1
    one_counts f e =
        ap (λ (o : Option Frame). cond (is_some o && is_compensated y) 1 0) e ∙ ap (λ b. cond b 1 0) (over (each 0 x f refl e))

    by : (o : Option Frame) → frame_in x ≡ o → count_by is_both (zip xs ys) ≡ length (filter_map frame_in xs)
        → part + count_by is_both (zip xs ys) ≡ length (cons_option o (filter_map frame_in xs))
    by None e ih = let a = none_counts e in omega arith
    by (Some f) e ih = let a = one_counts f e in omega arith

pub all_compensated : (d : Design) (w : World) (events : List Event) (last : World) → Recovers d w events last
    → length (unfinished w) ≡ compensated_between w.transactions last.transactions
all_compensated d w events last r = sym (all_counted w.transactions last.transactions each)
  where
    each : EndsEach w.transactions last.transactions
    each k x f at is =
        let o = ends_over d events w last r (k + 1)
        (record { x = x; at = at_number w.transactions k ∙ at; bound = inl (f, is) }) in
        record { x = o.x; at = sym (at_number last.transactions k) ∙ o.at; compensated = o.compensated }
