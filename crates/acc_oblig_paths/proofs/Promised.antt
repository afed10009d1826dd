-- The obligation on a promised clause, from the clause.
use Rattle.std.proofs.Common.{◌≡◌, ℕ, ◌++◌, List, [], ◌∷◌, length, get_or, refl, sym, subst, arith, Bor}
use Rattle.std.specs.Prelude.{Result, Option, Some, None, All, slice_get, option_copied, is_some, nat_lt, IfSome}
use Rattle.std.proofs.lemmas.Bool.Decides.{nat_tests}
use Rattle.std.proofs.lemmas.Option.{slice_get_past, slice_get_read}
use Rattle.acc_base.specs.declared.forms.Clause.{Clause}
use Rattle.acc_base.specs.declared.steps.Target.{Target}
use Rattle.acc_base.specs.declared.steps.Target.TheVariants.{Point as ToPoint, Commit, Undone, Refuse}
use Rattle.acc_base.specs.declared.designs.Point.{Point}
use Rattle.acc_base.specs.declared.designs.TxType.{TxType}
use Rattle.acc_base.specs.declared.designs.Design.{Design}
use Rattle.acc_base.specs.declared.sequents.Sequent.{Sequent}
use Rattle.acc_base.specs.declared.sequents.Rule.TheVariants.{Promises}
use Rattle.acc_oblig.specs.Settings.{last_now}
use Rattle.acc_oblig.specs.Drafts.{of_some, path_drafts}
use Rattle.acc_oblig.specs.PathPromises.{point_clauses, promised, promise_at}
use Rattle.acc_oblig.proofs.OnPath.{all_at}
use Rattle.acc_oblig_goals.specs.declared.errors.ObligError.{ObligError}
use Rattle.acc_oblig_goals.specs.Causes.{Adds}
use Rattle.acc_oblig_places.specs.Rooms.{HasFewVars, IsSmallPoint, IsSmallType}
use Rattle.acc_oblig_places.specs.DesignPlaces.{PathPlace, at_path_place}
use Rattle.acc_oblig_paths.proofs.Kept.{setting_at}

all_small : (x : TxType) → IsSmallType x → (t : Target) → All HasFewVars (promised x t)
all_small x s (ToPoint p) = by (slice_get x.points p) refl
  where
    by : (o : Option Point) → slice_get x.points p ≡ o → All HasFewVars (point_clauses o)
    by None e = λ k c l. absurd (omega arith)
    by (Some z) e = (all_at IsSmallPoint x.points p z s.points e).clauses
all_small x s Commit = s.posts
all_small x s Undone = s.repairs
all_small x s (Refuse n) = λ k c l. absurd (omega arith)

pub promise_small :
    (x : TxType) (t : Target) (k : ℕ) (c : Clause) → IsSmallType x → slice_get (promised x t) k ≡ Some c → HasFewVars c
promise_small x t k c s e = all_at HasFewVars (promised x t) k c (all_small x s t) e

pub promise_added :
    (r : Result (Unit {0}) ObligError) (old new : List Sequent) (d : Design) (k : ℕ) (q : PathPlace) (o : Option Clause)
    → o ≡ slice_get (promised q.x q.path.target) k
    → Adds r old new (of_some (path_drafts Promises (setting_at d q) k q.w (last_now (setting_at d q) ++ (setting_at d q).locals ∷ [])) o)
    → Adds r old new (at_path_place (promise_at d k) q)
promise_added r old new d k q o e a =
    subst (λ o. Adds r old new (of_some (path_drafts Promises (setting_at d q) k q.w
    (last_now (setting_at d q) ++ (setting_at d q).locals ∷ []))
    o)) e a

pub got_at :
    {X : Type 0} (xs : List X) (i : ℕ) (r : Option (Bor X)) → is_some r ≡ nat_lt i (length xs) → IfSome r (λ x. x.now ≡ get_or xs i x.now)
    → option_copied r ≡ slice_get xs i
got_at xs i None h e = sym (slice_get_past xs i (grind (arith, nat_tests)))
got_at xs i (Some x) h e = sym (slice_get_read xs (length xs) i x.now refl (grind (arith, nat_tests)) e)
