-- The values of a sequent's variables in a step: the locals, the number, what the reads assign, and others behind them.
use Rattle.std.proofs.Common.{◌≡◌, ℕ, ◌+◌, ◌≤◌, List, [], ◌∷◌, ◌++◌, map, length, refl, ap, sym, ◌∙◌, subst, arith, ℤ, pos, append_assoc}
use Rattle.std.proofs.Common.{length-append}
use Rattle.std.proofs.Math.Seq.{get_or-append_seam}
use Rattle.std.proofs.lemmas.List.{map-append, get_or_past}
use Rattle.acc_base.specs.declared.machines.Frame.{Frame}
use Rattle.acc_base.specs.Linear.{var, variables}
use Rattle.acc_base.specs.Items.{numbers_from}
use Rattle.acc_oblig.specs.Settings.{with_self}
use Rattle.acc_oblig.proofs.Names.{Agrees, agrees_at}

-- the variables from one on, so many of them, are worth these
pub in_between : (xs ys zs : List ℤ) → map (var (xs ++ (ys ++ zs))) (numbers_from (length xs) (length ys)) ≡ ys
in_between xs [] zs = refl
in_between xs (y ∷ ys) zs =
    let here : var (xs ++ (y ∷ (ys ++ zs))) (length xs) ≡ y = get_or-append_seam xs y (ys ++ zs) (pos 0) in
    let long : length (xs ++ y ∷ []) ≡ length xs + 1 = length-append xs (y ∷ []) in
    let same : (xs ++ y ∷ []) ++ (ys ++ zs) ≡ xs ++ (y ∷ (ys ++ zs)) = append_assoc xs (y ∷ []) (ys ++ zs) in
    let rest : map (var (xs ++ (y ∷ (ys ++ zs)))) (numbers_from (length xs + 1) (length ys)) ≡ ys =
    subst (λ z. map (var z) (numbers_from (length xs + 1) (length ys)) ≡ ys) same
    (subst (λ n. map (var ((xs ++ y ∷ []) ++ (ys ++ zs))) (numbers_from n (length ys)) ≡ ys) long (in_between (xs ++ y ∷ []) ys zs)) in
    λ i. here i ∷ rest i

pub record Carries (f : Frame) (vs E : List ℤ) (past : ℕ) : Type 0 where
  pub locals : map (var E) (numbers_from 0 (length f.locals)) ≡ f.locals
  pub me : var E (length f.locals) ≡ pos f.t
  pub values : map (var E) (numbers_from (length f.locals + 1) (length vs)) ≡ vs
  pub none : (j : ℕ) → past ≤ j → var E j ≡ pos 0

abbrev pub carried : Frame → List ℤ → List ℤ → List ℤ
carried f vs more = f.locals ++ (pos f.t ∷ (vs ++ more))

pub carried_long : (f : Frame) (vs more : List ℤ) → length (carried f vs more) ≡ length f.locals + 1 + length vs + length more
carried_long f vs more =
    let e = length-append f.locals (pos f.t ∷ (vs ++ more)) in
    let g = length-append vs more in
    omega (arith, e, g)

pub carries : (f : Frame) (vs more : List ℤ) (past : ℕ) → length (carried f vs more) ≤ past → Carries f vs (carried f vs more) past
carries f vs more past h =
    let same : (f.locals ++ pos f.t ∷ []) ++ (vs ++ more) ≡ carried f vs more = append_assoc f.locals (pos f.t ∷ []) (vs ++ more) in
    let long : length (f.locals ++ pos f.t ∷ []) ≡ length f.locals + 1 = length-append f.locals (pos f.t ∷ []) in
    record {
      locals = in_between [] f.locals (pos f.t ∷ (vs ++ more));
      me = get_or-append_seam f.locals (pos f.t) (vs ++ more) (pos 0);
      values =
          subst (λ z. map (var z) (numbers_from (length f.locals + 1) (length vs)) ≡ vs) same
          (subst (λ n. map (var ((f.locals ++ pos f.t ∷ []) ++ (vs ++ more))) (numbers_from n (length vs)) ≡ vs) long
          (in_between (f.locals ++ pos f.t ∷ []) vs more));
      none = λ j l. get_or_past (carried f vs more) j (pos 0) (omega (arith, h, l));
    }

pub carried_more : (f : Frame) (vs more own : List ℤ) → carried f vs more ++ own ≡ carried f vs (more ++ own)
carried_more f vs more own =
    append_assoc f.locals (pos f.t ∷ (vs ++ more)) own ∙ ap (λ z. f.locals ++ (pos f.t ∷ z)) (append_assoc vs more own)

-- also with one more value
pub carries_near :
    (f : Frame) (vs more : List ℤ) (own : List ℤ) → length own ≤ 1
    → Carries f vs (carried f vs more ++ own) (length (carried f vs more) + 1)
carries_near f vs more own few =
    let long = carried_long f vs more in
    let longer = carried_long f vs (more ++ own) in
    let both = length-append more own in
    subst (λ z. Carries f vs z (length (carried f vs more) + 1)) (sym (carried_more f vs more own))
    (carries f vs (more ++ own) (length (carried f vs more) + 1) (omega (arith, long, longer, both, few)))

-- and with any others
pub carries_more :
    (f : Frame) (vs more : List ℤ) (own : List ℤ) → Carries f vs (carried f vs more ++ own) (length (carried f vs (more ++ own)))
carries_more f vs more own =
    subst (λ z. Carries f vs z (length (carried f vs (more ++ own)))) (sym (carried_more f vs more own))
    (carries f vs (more ++ own) (length (carried f vs (more ++ own))) (omega arith))

-- ---- names

-- the names of locals and that of the number
pub with_number :
    (f : Frame) (vs E : List ℤ) (past : ℕ) → Carries f vs E past → (now : List ℕ) (locals : List ℤ) → map (var E) now ≡ locals
    → map (var E) (now ++ length f.locals ∷ []) ≡ variables f.t locals
with_number f vs E past c now locals h = map-append (var E) now (length f.locals ∷ []) ∙ (λ i. h i ++ c.me i ∷ [])

-- names of locals that are worth these locals, and the own number's
pub self_agrees :
    (f : Frame) (vs E : List ℤ) (past : ℕ) → Carries f vs E past → (now : List ℕ) (locals : List ℤ) → map (var E) now ≡ locals
    → Agrees (with_self now (length f.locals) past) E (variables f.t locals)
self_agrees f vs E past c now locals h =
    let names : map (var E) (now ++ length f.locals ∷ []) ≡ variables f.t locals = map-append (var E) now (length f.locals ∷ [])
    ∙ (λ i. h i ++ c.me i ∷ []) in
    agrees_at (now ++ length f.locals ∷ []) past E (variables f.t locals) names (c.none past (omega arith))
