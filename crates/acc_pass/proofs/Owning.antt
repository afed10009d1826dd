-- Who owns a transaction, over a longer or a shorter history.
use Rattle.std.proofs.Common.{◌≡◌, ◌≢◌, ℕ, zero, suc, ◌+◌, List, [], ◌∷◌, ◌++◌, length, take, Some, None, refl, sym, ap, ◌∙◌, subst}
use Rattle.std.proofs.Common.{⊎_elim, arith}
use Rattle.std.specs.Prelude.{slice_get}
use Rattle.std.specs.List.{Contains}
use Rattle.std.proofs.Math.Seq.{take-append_seam}
use Rattle.std.proofs.lemmas.List.Elements.{Contains-append_left, Contains-append_right, Contains-append_cases, Contains-push}
use Rattle.std.proofs.lemmas.Option.{same_Some, none-some}
use mathlib.Core.List.{IsPrefix}
use Rattle.acc_base.specs.declared.machines.Event.{Event}
use Rattle.acc_plain.specs.Taken.{number_in}
use Rattle.acc_pass.specs.Histories.{one_for_none, begins, Owns, Closed, Placed, MayAppendBy, MayAppend}
use Rattle.acc_pass.proofs.Lists.{in_one, prefix_get, prefix_take, prefix_snoc, get_last, get_snoc}

-- an event that has no number counts
counts : (x y : Event) → Some x ≡ Some y → number_in y ≡ None → one_for_none (number_in x) ≡ 1
counts x y e n = ap (λ (z : Event). one_for_none (number_in z)) (same_Some x y e) ∙ ap one_for_none n

-- a begin has a number that no other begin has
pub same_begin :
    (log : List Event) (i j : ℕ) (x y : Event) → slice_get log i ≡ Some x → number_in x ≡ None → slice_get log j ≡ Some y
    → number_in y ≡ None → begins (take i log) ≡ begins (take j log) → i ≡ j
same_begin [] i j x y a n b m e = absurd (none-some x a)
same_begin (z ∷ zs) zero zero x y a n b m e = refl
same_begin (z ∷ zs) zero (suc j) x y a n b m e = let c = counts z x a n in absurd (omega arith)
same_begin (z ∷ zs) (suc i) zero x y a n b m e = let c = counts z y b m in absurd (omega arith)
same_begin (z ∷ zs) (suc i) (suc j) x y a n b m e = ap suc (same_begin zs i j x y a n b m (omega arith))

pub owns_up : (xs ys : List Event) (mine : List (ℕ × Event)) (t : ℕ) → IsPrefix xs ys → Placed xs mine → Owns xs mine t → Owns ys mine t
owns_up xs ys mine t p placed o = record {
  place = o.place;
  event = o.event;
  stands = o.stands;
  is_begin = o.is_begin;
  number = ap (λ (l : List Event). begins l + 1) (prefix_take xs ys o.place o.event p (placed o.place o.event o.stands)) ∙ o.number;
}

pub owns_down : (xs ys : List Event) (mine : List (ℕ × Event)) (t : ℕ) → IsPrefix xs ys → Placed xs mine → Owns ys mine t → Owns xs mine t
owns_down xs ys mine t p placed o = record {
  place = o.place;
  event = o.event;
  stands = o.stands;
  is_begin = o.is_begin;
  number = ap (λ (l : List Event). begins l + 1) (sym (prefix_take xs ys o.place o.event p (placed o.place o.event o.stands))) ∙ o.number;
}

-- the same place in a longer `mine`
pub owns_in : (seen : List Event) (xs ys : List (ℕ × Event)) (t : ℕ) (o : Owns seen xs t) → Contains ys (o.place, o.event) → Owns seen ys t
owns_in seen xs ys t o i = record { place = o.place; event = o.event; stands = i; is_begin = o.is_begin; number = o.number }

pub placed_up : (xs ys : List Event) (mine : List (ℕ × Event)) → IsPrefix xs ys → Placed xs mine → Placed ys mine
placed_up xs ys mine p placed k e i = prefix_get xs ys k e p (placed k e i)

pub closed_down : (xs ys : List Event) (mine : List (ℕ × Event)) → IsPrefix xs ys → Placed xs mine → Closed ys mine → Closed xs mine
closed_down xs ys mine p placed closed t j e o at m = closed t j e (owns_up xs ys mine t p placed o) (prefix_get xs ys j e p at) m

owns_at : (log : List Event) (mine : List (ℕ × Event)) (e : Event) (t : ℕ) → MayAppend log mine e → number_in e ≡ Some t → Owns log mine t
owns_at log mine e t may is = subst (MayAppendBy log mine) is may

no_move :
    (log : List Event) (mine : List (ℕ × Event)) (e f : Event) (j : ℕ) → MayAppend log mine e → number_in e ≡ None
    → slice_get log j ≡ Some f → number_in f ≢ Some (begins log + 1)
no_move log mine e f j may is at = subst (MayAppendBy log mine) is may j f at

-- what stands behind the list is the one event
pub last_is : (k n : ℕ) (f e : Event) → Contains {X = ℕ × Event} ((n, e) ∷ []) (k, f) → (k ≡ n) × (f ≡ e)
last_is k n f e i =
    let same : (n, e) ≡ (k, f) = in_one (n, e) (k, f) i in
    (sym (ap (λ (y : ℕ × Event). y.0) same), sym (ap (λ (y : ℕ × Event). y.1) same))

-- an append of one keeps the other's `mine` closed
pub closed_other :
    (log : List Event) (e : Event) (own other : List (ℕ × Event)) → Placed log own → Placed log other → MayAppend log own e
    → ((k : ℕ) (x y : Event) → Contains own (k, x) → Contains other (k, y) → ⊥) → Closed log other → Closed (log ++ e ∷ []) other
closed_other log e own other placed placed' may apart closed t j f o at m =
    let o' = owns_down log (log ++ e ∷ []) other t (prefix_snoc log e) placed' o in
    ⊎_elim
    (λ (a : slice_get log j ≡ Some f). closed t j f o' a m)
    (λ (b : (j ≡ length log) × (e ≡ f)).
    let p = owns_at log own e t may (ap number_in b.1 ∙ m) in
    let same : p.place ≡ o'.place =
    same_begin log p.place o'.place p.event o'.event (placed p.place p.event p.stands) p.is_begin
    (placed' o'.place o'.event o'.stands) o'.is_begin (let x = p.number in let y = o'.number in omega arith) in
    absurd (apart o'.place p.event o'.event (subst (λ (k : ℕ). Contains own (k, p.event)) same p.stands) o'.stands))
    (get_snoc log e f j at)

-- and its own
pub closed_own :
    (log : List Event) (e : Event) (own : List (ℕ × Event)) → Placed log own → MayAppend log own e → Closed log own
    → Closed (log ++ e ∷ []) (own ++ (length log, e) ∷ [])
closed_own log e own placed may closed t j f o at m =
    ⊎_elim
    (λ (a : slice_get log j ≡ Some f).
    ⊎_elim
    (λ (i : Contains own (o.place, o.event)).
    let whole = owns_in (log ++ e ∷ []) (own ++ (length log, e) ∷ []) own t o i in
    let o' = owns_down log (log ++ e ∷ []) own t (prefix_snoc log e) placed whole in
    Contains-append_left own ((length log, e) ∷ []) (j, f) (closed t j f o' a m))
    (λ (i : Contains ((length log, e) ∷ []) (o.place, o.event)).
    let is = last_is o.place (length log) o.event e i in
    let none : number_in e ≡ None = ap number_in (sym is.1) ∙ o.is_begin in
    let n : begins log + 1 ≡ t =
    ap (λ (l : List Event). begins l + 1) (sym (ap (λ (k : ℕ). take k (log ++ e ∷ [])) is.0 ∙ take-append_seam log (e ∷ []))) ∙ o.number in
    absurd (no_move log own e f j may none a (m ∙ ap Some (sym n))))
    (Contains-append_cases own ((length log, e) ∷ []) (o.place, o.event) o.stands))
    (λ (b : (j ≡ length log) × (e ≡ f)).
    subst (λ (x : ℕ × Event). Contains (own ++ (length log, e) ∷ []) x) (λ i. (sym b.0 i, b.1 i)) (Contains-push own (length log, e)))
    (get_snoc log e f j at)

pub placed_own :
    (log : List Event) (e : Event) (own : List (ℕ × Event)) → Placed log own → Placed (log ++ e ∷ []) (own ++ (length log, e) ∷ [])
placed_own log e own placed k f i =
    ⊎_elim
    (λ (a : Contains own (k, f)). prefix_get log (log ++ e ∷ []) k f (prefix_snoc log e) (placed k f a))
    (λ (b : Contains ((length log, e) ∷ []) (k, f)).
    let is = last_is k (length log) f e b in
    ap (slice_get (log ++ e ∷ [])) is.0 ∙ (get_last log e ∙ ap Some (sym is.1)))
    (Contains-append_cases own ((length log, e) ∷ []) (k, f) i)

pub closed_both : (log : List Event) (xs ys : List (ℕ × Event)) → Closed log xs → Closed log ys → Closed log (xs ++ ys)
closed_both log xs ys p q t j e o at m =
    ⊎_elim
    (λ (a : Contains xs (o.place, o.event)). Contains-append_left xs ys (j, e) (p t j e (owns_in log (xs ++ ys) xs t o a) at m))
    (λ (b : Contains ys (o.place, o.event)). Contains-append_right xs ys (j, e) (q t j e (owns_in log (xs ++ ys) ys t o b) at m))
    (Contains-append_cases xs ys (o.place, o.event) o.stands)
