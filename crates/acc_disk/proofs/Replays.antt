-- One more change joins those of a file in memory.
use Rattle.std.proofs.Common.{◌<◌, ◌≤◌, nat_le, take, cond, arith, ◌≡◌, Bool, true, false, List, [], ◌∷◌, ◌++◌, ℕ, ap, ◌∙◌, refl, sym}
use Rattle.std.proofs.Common.{subst}
use Rattle.std.proofs.lemmas.Bool.Decides.{nat_tests}
use Rattle.std.specs.List.{prefix_len}
use Rattle.acc_disk.specs.Standings.{Standing, settled, IsInOrder}
use Rattle.acc_disk.specs.Changes.{after_change, after_all}
use Rattle.acc_disk.specs.declared.history.Recorded.{Recorded}
use Rattle.acc_disk.specs.declared.history.FileChange.TheVariants.{Synced}
use Rattle.acc_disk.proofs.Orders.{settled_in_order}

pub after_all-push : (past : List Recorded) (last : Recorded) (standing : Standing) →
    after_all (past ++ last ∷ []) standing ≡ after_change last.change (after_all past standing)
after_all-push [] last standing = refl
after_all-push (recorded ∷ past) last standing = after_all-push past last (after_change recorded.change standing)

-- what stands after the last change
pub stands_after : (start : List ℕ) (past later : List Recorded) (last : Recorded) → later ≡ past ++ last ∷ [] →
    after_all later (settled start) ≡ after_change last.change (after_all past (settled start))
stands_after start past later last is = ap (λ changes. after_all changes (settled start)) is ∙ after_all-push past last (settled start)

module _ (start bytes : List ℕ) (past later : List Recorded) (number : ℕ) where
  -- a sync that is noted, or isn't for want of room, changes no byte
  pub kept_by_sync : (is_noted : Bool) → later ≡ cond is_noted (past ++ (record { number = number; change = Synced }) ∷ []) past →
      (after_all past (settled start)).bytes ≡ bytes → (after_all later (settled start)).bytes ≡ bytes
  kept_by_sync true is kept = ap (λ standing. standing.bytes) (stands_after start past later _ is) ∙ kept
  kept_by_sync false is kept = ap (λ changes. (after_all changes (settled start)).bytes) is ∙ kept

  pub in_order_by_sync : (is_noted : Bool) → later ≡ cond is_noted (past ++ (record { number = number; change = Synced }) ∷ []) past →
      IsInOrder (after_all past (settled start)) → IsInOrder (after_all later (settled start))
  in_order_by_sync true is order = subst IsInOrder (sym (stands_after start past later _ is))
      (settled_in_order (after_all past (settled start)).bytes)
  in_order_by_sync false is order = subst (λ changes. IsInOrder (after_all changes (settled start))) (sym is) order

-- after those of the changes that stand before the first call with a larger number
abbrev pub after_by : ℕ → Standing → List Recorded → Standing
after_by calls standing past = after_all (take (prefix_len (λ recorded. nat_le recorded.number calls) past) past) standing

pub after_by-next : (calls : ℕ) (standing : Standing) (recorded : Recorded) (rest : List Recorded) → recorded.number ≤ calls →
    after_by calls standing (recorded ∷ rest) ≡ after_by calls (after_change recorded.change standing) rest
after_by-next calls standing recorded rest le = grind (arith, nat_tests)

pub after_by-later : (calls : ℕ) (standing : Standing) (recorded : Recorded) (rest : List Recorded) → calls < recorded.number →
    after_by calls standing (recorded ∷ rest) ≡ standing
after_by-later calls standing recorded rest lt = grind (arith, nat_tests)
