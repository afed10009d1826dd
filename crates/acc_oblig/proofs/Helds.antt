-- The values of the variables of a held transaction, behind those of a step.
use Rattle.std.proofs.Common.{◌≡◌, ℕ, ◌+◌, ◌<◌, List, [], ◌∷◌, ◌++◌, map, length, ap, sym, ◌∙◌, subst, arith, ℤ, pos, append_assoc}
use Rattle.std.proofs.Common.{length-append}
use Rattle.std.proofs.Math.Seq.{get_or-append_seam}
use Rattle.std.proofs.lemmas.List.{get_or-append-add, get_or_append_left}
use Rattle.acc_base.specs.declared.machines.Frame.{Frame}
use Rattle.acc_base.specs.Linear.{var, variables}
use Rattle.acc_base.specs.Items.{numbers_from}
use Rattle.acc_oblig.proofs.Carries.{in_between, carried, carried_long, carried_more}

module _ (f : Frame) (ws : List ℤ) (g : Frame) (own : List ℤ) (base : ℕ) (long : length f.locals + 1 + length ws ≡ base) where
  abbrev pub F : List ℤ
  F = carried f ws (variables g.t g.locals ++ own)

  front : length (carried f ws []) ≡ base
  front = let all = carried_long f ws [] in omega (arith, all, long)

  pub held_long : length (variables g.t g.locals) ≡ length g.locals + 1
  held_long = length-append g.locals (pos g.t ∷ [])

  whole : carried f ws [] ++ (variables g.t g.locals ++ own) ≡ F
  whole = carried_more f ws [] (variables g.t g.locals ++ own)

  -- the held variables are worth the held locals and number
  pub held_worth : map (var F) (numbers_from base (length g.locals + 1)) ≡ variables g.t g.locals
  held_worth =
      subst (λ n. map (var F) (numbers_from n (length g.locals + 1)) ≡ variables g.t g.locals) front
      (subst (λ n. map (var F) (numbers_from (length (carried f ws [])) n) ≡ variables g.t g.locals) held_long
      (subst (λ z. map (var z) (numbers_from (length (carried f ws [])) (length (variables g.t g.locals))) ≡ variables g.t g.locals) whole
      (in_between (carried f ws []) (variables g.t g.locals) own)))

  pub held_locals : map (var F) (numbers_from base (length g.locals)) ≡ g.locals
  held_locals =
      let same : carried f ws [] ++ (g.locals ++ (pos g.t ∷ own)) ≡ F =
      ap (λ z. carried f ws [] ++ z) (sym (append_assoc g.locals (pos g.t ∷ []) own)) ∙ whole in
      subst (λ n. map (var F) (numbers_from n (length g.locals)) ≡ g.locals) front
      (subst (λ z. map (var z) (numbers_from (length (carried f ws [])) (length g.locals)) ≡ g.locals) same
      (in_between (carried f ws []) g.locals (pos g.t ∷ own)))

  behind_step : (i : ℕ) → var F (base + i) ≡ var (variables g.t g.locals ++ own) i
  behind_step i =
      subst (λ n. var F (n + i) ≡ var (variables g.t g.locals ++ own) i) front
      (subst (λ z. var z (length (carried f ws []) + i) ≡ var (variables g.t g.locals ++ own) i) whole
      (get_or-append-add (carried f ws []) (variables g.t g.locals ++ own) i (pos 0)))

  pub held_local : (i : ℕ) → i < length g.locals → var F (base + i) ≡ var g.locals i
  held_local i l =
      let m = held_long in
      let k : i < length (variables g.t g.locals) = omega (arith, l, m) in
      behind_step i ∙ (get_or_append_left (variables g.t g.locals) own (pos 0) i k ∙ get_or_append_left g.locals (pos g.t ∷ []) (pos 0) i l)

  pub held_me : var F (base + length g.locals) ≡ pos g.t
  held_me =
      let m = held_long in
      let k : length g.locals < length (variables g.t g.locals) = omega (arith, m) in
      behind_step (length g.locals) ∙ (get_or_append_left (variables g.t g.locals) own (pos 0) (length g.locals) k
      ∙ get_or-append_seam g.locals (pos g.t) [] (pos 0))

  pub held_own : (j : ℕ) → var F (base + (length g.locals + 1) + j) ≡ var own j
  held_own j =
      let m = held_long in
      let n : base + (length g.locals + 1) + j ≡ base + (length (variables g.t g.locals) + j) = omega (arith, m) in
      ap (var F) n ∙ (behind_step (length (variables g.t g.locals) + j) ∙ get_or-append-add (variables g.t g.locals) own j (pos 0))

  pub whole_long : length F ≡ base + (length g.locals + 1) + length own
  whole_long =
      let all = carried_long f ws (variables g.t g.locals ++ own) in
      let both = length-append (variables g.t g.locals) own in
      let m = held_long in
      omega (arith, all, both, m, long)
