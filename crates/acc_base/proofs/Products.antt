-- Products of whole numbers and of sums.
use Rattle.std.proofs.Common.{◌≡◌, ap, sym, ◌∙◌, arith, ℤ, pos, ◌+ℤ◌, ◌-ℤ◌, ◌*ℤ◌, neg_ℤ}
use Rattle.std.proofs.lemmas.Int.{ints}
use lib.IntN.{+ℤ_one, -ℤ_one, suc_ℤ-*ℤ, pred_ℤ-*ℤ, *ℤ_comm, zero-*ℤ, ℤ_ind}

one_more : (x v : ℤ) → (x +ℤ pos 1) *ℤ v ≡ x *ℤ v +ℤ v
one_more x v = ap (λ z. z *ℤ v) (+ℤ_one x) ∙ suc_ℤ-*ℤ x v

one_less : (x v : ℤ) → (x +ℤ neg_ℤ (pos 1)) *ℤ v ≡ x *ℤ v -ℤ v
one_less x v = ap (λ z. z *ℤ v) (-ℤ_one x) ∙ pred_ℤ-*ℤ x v

-- what holds of 0, and of one more and one less than what it holds of, holds of all
module _ (P : ℤ → Type 0) (here : P (pos 0)) (up : (k : ℤ) → P k → P (k +ℤ pos 1)) (down : (k : ℤ) → P k → P (k +ℤ neg_ℤ (pos 1))) where
  by_steps : (k : ℤ) → P k
  by_steps k = ℤ_ind P here (λ n h. up (pos n) h) (λ n h. down (neg_ℤ (pos n)) h) k

pub sum_times : (a b v : ℤ) → (a +ℤ b) *ℤ v ≡ a *ℤ v +ℤ b *ℤ v
sum_times a b v = by_steps (λ x. (x +ℤ b) *ℤ v ≡ x *ℤ v +ℤ b *ℤ v) here up down a
  where
    here : (pos 0 +ℤ b) *ℤ v ≡ pos 0 *ℤ v +ℤ b *ℤ v
    here =
        let e : pos 0 +ℤ b ≡ b = omega (arith, ints) in
        let z = zero-*ℤ v in
        ap (λ x. x *ℤ v) e ∙ omega (arith, ints, z)

    up : (k : ℤ) → (k +ℤ b) *ℤ v ≡ k *ℤ v +ℤ b *ℤ v → ((k +ℤ pos 1) +ℤ b) *ℤ v ≡ (k +ℤ pos 1) *ℤ v +ℤ b *ℤ v
    up k h =
        let e : (k +ℤ pos 1) +ℤ b ≡ (k +ℤ b) +ℤ pos 1 = omega (arith, ints) in
        let l = one_more (k +ℤ b) v in
        let r = one_more k v in
        ap (λ x. x *ℤ v) e ∙ omega (arith, ints, h, l, r)

    down : (k : ℤ) → (k +ℤ b) *ℤ v ≡ k *ℤ v +ℤ b *ℤ v → ((k +ℤ neg_ℤ (pos 1)) +ℤ b) *ℤ v ≡ (k +ℤ neg_ℤ (pos 1)) *ℤ v +ℤ b *ℤ v
    down k h =
        let e : (k +ℤ neg_ℤ (pos 1)) +ℤ b ≡ (k +ℤ b) +ℤ neg_ℤ (pos 1) = omega (arith, ints) in
        let l = one_less (k +ℤ b) v in
        let r = one_less k v in
        ap (λ x. x *ℤ v) e ∙ omega (arith, ints, h, l, r)

difference_times : (a b v : ℤ) → (a -ℤ b) *ℤ v ≡ a *ℤ v -ℤ b *ℤ v
difference_times a b v =
    let e : (a -ℤ b) +ℤ b ≡ a = omega (arith, ints) in
    let h = sym (sum_times (a -ℤ b) b v) ∙ ap (λ x. x *ℤ v) e in
    omega (arith, ints, h)

pub times_sum : (x a b : ℤ) → x *ℤ (a +ℤ b) ≡ x *ℤ a +ℤ x *ℤ b
times_sum x a b =
    let e = *ℤ_comm x (a +ℤ b) in
    let f = *ℤ_comm x a in
    let g = *ℤ_comm x b in
    let h = sum_times a b x in
    omega (arith, ints, e, f, g, h)

pub times_times : (x c v : ℤ) → (x *ℤ c) *ℤ v ≡ x *ℤ (c *ℤ v)
times_times x c v = by_steps (λ k. (k *ℤ c) *ℤ v ≡ k *ℤ (c *ℤ v)) here up down x
  where
    here : (pos 0 *ℤ c) *ℤ v ≡ pos 0 *ℤ (c *ℤ v)
    here = ap (λ z. z *ℤ v) (zero-*ℤ c) ∙ (zero-*ℤ v ∙ sym (zero-*ℤ (c *ℤ v)))

    up : (k : ℤ) → (k *ℤ c) *ℤ v ≡ k *ℤ (c *ℤ v) → ((k +ℤ pos 1) *ℤ c) *ℤ v ≡ (k +ℤ pos 1) *ℤ (c *ℤ v)
    up k h =
        ap (λ z. z *ℤ v) (one_more k c) ∙ (sum_times (k *ℤ c) c v ∙ (ap (λ z. z +ℤ c *ℤ v) h ∙ sym (one_more k (c *ℤ v))))

    down : (k : ℤ) → (k *ℤ c) *ℤ v ≡ k *ℤ (c *ℤ v) → ((k +ℤ neg_ℤ (pos 1)) *ℤ c) *ℤ v ≡ (k +ℤ neg_ℤ (pos 1)) *ℤ (c *ℤ v)
    down k h =
        ap (λ z. z *ℤ v) (one_less k c) ∙ (difference_times (k *ℤ c) c v ∙ (ap (λ z. z -ℤ c *ℤ v) h ∙ sym (one_less k (c *ℤ v))))
