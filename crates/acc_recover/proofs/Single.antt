-- A history has one recovered state at most.
use Rattle.std.proofs.Common.{◌≡◌, ℕ, ◌≤◌, ◌-◌, List, [], ◌∷◌, refl, sym, ◌∙◌, ap, subst, arith}
use Rattle.std.proofs.lemmas.Option.{same_Some}
use Rattle.acc_base.specs.declared.designs.Design.{Design}
use Rattle.acc_base.specs.declared.machines.Cause.TheVariants.{Crash}
use Rattle.acc_base.specs.declared.machines.Event.{Event}
use Rattle.acc_base.specs.declared.machines.Event.TheVariants.{Abort, Undo}
use Rattle.acc_base.specs.declared.machines.Transaction.TheVariants.{Forward}
use Rattle.acc_base.specs.Machine.{World, start, unfinished}
use Rattle.acc_base.specs.Compensation.{IsNext, crash, undo, Recovers}
use Rattle.acc_lift.proofs.Transactions.{at_place, opened, none_open}
use Rattle.acc_lift.proofs.Theorem.{lead_runs}
use Rattle.acc_recover.specs.Recoveries.{IsRecovery}

equal : (t u : ℕ) → t ≤ u → u ≤ t → t ≡ u
equal t u a b = omega arith

next_same : (w : World) (e f : Event) → IsNext w e → IsNext w f → e ≡ f
next_same w e f (crash t g at least) (crash u h there low) = ap (λ n. Abort n Crash) (equal t u (least u h there) (low t g at))
next_same w e f (crash t g at least) (undo u h there none low) = absurd (none t g at)
next_same w e f (undo t g at none least) (crash u h there low) = absurd (none u h there)
next_same w e f (undo t g at none least) (undo u h there nobody low) = ap (λ n. Undo n) (equal t u (least u h there) (low t g at))

-- where nothing is unfinished, no event is next
nothing_next : (w : World) (e : Event) → unfinished w ≡ [] → IsNext w e → ⊥
nothing_next w e idle (crash t f at least) = none_open w.transactions idle (t - 1) (Forward f) f
    (at_place t w.transactions (Forward f) at).1 refl
nothing_next w e idle (undo t f at none least) =
    let o = opened t w f at in none_open w.transactions idle (t - 1) o.x f (at_place t w.transactions o.x o.at).1 o.frame

one_end : (d : Design) (xs ys : List Event) (w a b : World) → Recovers d w xs a → Recovers d w ys b → a ≡ b
one_end d [] [] w a b r s = sym r.0 ∙ s.0
one_end d [] (f ∷ ys) w a b r s = absurd (nothing_next w f r.1 s.0)
one_end d (e ∷ xs) [] w a b r s = absurd (nothing_next w e s.1 r.0)
one_end d (e ∷ xs) (f ∷ ys) w a b r s =
    let event = next_same w e f r.0 s.0 in
    let there = subst (λ (x : Event). Recovers d w (x ∷ ys) b) (sym event) s in
    let next : there.1.0 ≡ r.1.0 = same_Some there.1.0 r.1.0 (sym there.1.1 ∙ r.1.1) in
    one_end d xs ys r.1.0 a b r.1.2 (subst (λ (x : World). Recovers d x ys b) next there.1.2)

pub one_recovery : (d : Design) (found : List Event) (one other : World) → IsRecovery d found one → IsRecovery d found other → one ≡ other
one_recovery d found one other r s =
    let first : s.first ≡ r.first = same_Some s.first r.first
    (sym (lead_runs d found start s.first s.comes) ∙ lead_runs d found start r.first r.comes) in
    one_end d r.more s.more r.first one other r.recovers (subst (λ (x : World). Recovers d x s.more other) first s.recovers)
