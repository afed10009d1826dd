-- The numbers under keys, as one of the list is dropped, put in place of another, or added.
use Rattle.std.proofs.Common.{◌≡◌, ◌≢◌, ℕ, zero, suc, ◌<◌, ◌≤◌, ◌⊎◌, inl, inr, List, [], ◌∷◌, ◌++◌, length, set, sym, ap, subst, ◌∙◌}
use Rattle.std.proofs.Common.{arith, Some}
use Rattle.std.specs.Prelude.{slice_get, slice_index_or, remove}
use Rattle.std.proofs.lemmas.Option.{same_Some, none-some}
use Rattle.acc_lock_holders.specs.Numbers.{with_number, without_number}
use Rattle.acc_lock_holders.specs.Entries.{Entries, ChangesAll, IsSame}
use Rattle.acc_lift.proofs.Transactions.{got_set, set_got, set_other, got_push, push_old}
use Rattle.acc_lock_index.specs.Indexed.{Standing, IsIn, AreUnder, AreApart}
use Rattle.acc_lock_index.proofs.Keeping.{AreUnderBy, same_by, leave_by, enter_by, alike_by}
use Rattle.acc_lock_index.proofs.Lists.{got_remove, removed, push_new}

to_by : (ss : List Standing) (es : Entries) → AreUnder ss es → AreUnderBy (IsIn ss) es
to_by ss es are k t = (
  λ c. let h = (are k t).0 c in record { standing = h.standing; there = h.there; number = h.number; key = h.key },
  λ h. (are k t).1 (record { standing = h.standing; there = h.there; number = h.number; key = h.key }),
)

from_by : (ss : List Standing) (es : Entries) → AreUnderBy (IsIn ss) es → AreUnder ss es
from_by ss es are k t = (
  λ c. let h = (are k t).0 c in record { standing = h.standing; there = h.there; number = h.number; key = h.key },
  λ h. (are k t).1 (record { standing = h.standing; there = h.there; number = h.number; key = h.key }),
)

module _ (ss : List Standing) (i : ℕ) (g : Standing) (at : slice_get ss i ≡ Some g) (apart : AreApart ss) (es : Entries)
    (are : AreUnder ss es) where
  here : (j : ℕ) (s : Standing) → slice_get ss j ≡ Some s → j ≡ i → s ≡ g
  here j s h e = same_Some s g (sym h ∙ (ap (slice_get ss) e ∙ at))

  one : (s : Standing) → IsIn ss s → s.t ≡ g.t → s ≡ g
  one s is e = here is.0 s is.1 (apart is.0 i s g is.1 at e)

  elsewhere : (j : ℕ) (s : Standing) → slice_get ss j ≡ Some s → s.t ≢ g.t → j ≢ i
  elsewhere j s h n e = n (ap (λ (z : Standing). z.t) (here j s h e))

  abbrev Rest : Standing → Type 0
  Rest s = IsIn ss s × (s.t ≢ g.t)

  rest : (fs : Entries) → ChangesAll (without_number g.t) g.keys es fs → AreUnderBy Rest fs
  rest fs changes = leave_by (IsIn ss) es fs (to_by ss es are) g (i, at) one changes

  pub left_out : (fs last : Entries) → ChangesAll (without_number g.t) g.keys es fs → IsSame fs last → AreUnder (remove ss i) last
  left_out fs last changes same =
      from_by (remove ss i) last (alike_by Rest (IsIn (remove ss i)) last to from (same_by Rest fs last (rest fs changes) same))
    where
      to : (s : Standing) → Rest s → IsIn (remove ss i) s
      to s r = removed ss i r.0.0 s (elsewhere r.0.0 s r.0.1 r.1) r.0.1

      apart_from : (j k : ℕ) → k ≡ i → ((k ≡ j) × (j < i)) ⊎ ((k ≡ suc j) × (i ≤ j)) → ⊥
      apart_from j k e (inl a) = let a0 = a.0 in let a1 = a.1 in absurd (omega (arith, e, a0, a1))
      apart_from j k e (inr a) = let a0 = a.0 in let a1 = a.1 in absurd (omega (arith, e, a0, a1))

      from : (s : Standing) → IsIn (remove ss i) s → Rest s
      from s is =
          let r = got_remove ss i is.0 s is.1 in
          ((r.place, r.got), λ e. apart_from is.0 r.place (apart r.place i s g r.got at e) r.moved)

  pub put_in : (p : Standing) → p.t ≡ g.t → (fs gs last : Entries) → ChangesAll (without_number p.t) g.keys es fs
      → ChangesAll (with_number p.t) p.keys fs gs → IsSame gs last → AreUnder (set ss i p) last
  put_in p number fs gs last out changes same =
      from_by (set ss i p) last (alike_by Both (IsIn (set ss i p)) last to from (same_by Both gs last
      (enter_by Rest fs gs (rest fs (subst (λ n. ChangesAll (without_number n) g.keys es fs) number out)) p changes) same))
    where
      Both : Standing → Type 0
      Both s = Rest s ⊎ (s ≡ p)

      to : (s : Standing) → Rest s ⊎ (s ≡ p) → IsIn (set ss i p) s
      to s (inl r) = (r.0.0, set_other ss i r.0.0 p (elsewhere r.0.0 s r.0.1 r.1) ∙ r.0.1)
      to s (inr e) = (i, set_got ss i g p at ∙ ap Some (sym e))

      from : (s : Standing) → IsIn (set ss i p) s → Rest s ⊎ (s ≡ p)
      from s is = by (got_set ss i is.0 p s is.1)
        where
          by : ((is.0 ≡ i) × (s ≡ p)) ⊎ ((is.0 ≢ i) × (slice_get ss is.0 ≡ Some s)) → Rest s ⊎ (s ≡ p)
          by (inl a) = inr a.1
          by (inr a) = inl ((is.0, a.1), λ e. a.0 (apart is.0 i s g a.1 at e))

pub added : (ss : List Standing) (es fs : Entries) (p : Standing) → AreUnder ss es → ChangesAll (with_number p.t) p.keys es fs
    → AreUnder (ss ++ p ∷ []) fs
added ss es fs p are changes =
    from_by (ss ++ p ∷ []) fs (alike_by (λ s. IsIn ss s ⊎ (s ≡ p)) (IsIn (ss ++ p ∷ [])) fs to from
    (enter_by (IsIn ss) es fs (to_by ss es are) p changes))
  where
    to : (s : Standing) → IsIn ss s ⊎ (s ≡ p) → IsIn (ss ++ p ∷ []) s
    to s (inl is) = (is.0, push_old ss is.0 p s is.1)
    to s (inr e) = (length ss, push_new ss p ∙ ap Some (sym e))

    from : (s : Standing) → IsIn (ss ++ p ∷ []) s → IsIn ss s ⊎ (s ≡ p)
    from s is = by (got_push ss is.0 p s is.1)
      where
        by : ((is.0 ≡ length ss) × (s ≡ p)) ⊎ (slice_get ss is.0 ≡ Some s) → IsIn ss s ⊎ (s ≡ p)
        by (inr a) = inl (is.0, a)
        by (inl a) = inr a.1

-- an item that was read at a place
pub gone_is : (ss : List Standing) (i : ℕ) (g gone : Standing) → slice_get ss i ≡ Some g → gone ≡ slice_index_or ss i gone → gone ≡ g
gone_is [] i g gone at is = absurd (none-some g at)
gone_is (s ∷ ss) zero g gone at is = is ∙ same_Some s g at
gone_is (s ∷ ss) (suc i) g gone at is = gone_is ss i g gone at is
