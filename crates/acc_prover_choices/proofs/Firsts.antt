-- Items that are listed once.
use Rattle.std.proofs.Common.{◌≡◌, ◌+◌, ◌≤◌, Bool, true, false, List, [], ◌∷◌, ◌++◌, length, map, refl, ap, sym, ◌∙◌, subst, arith}
use Rattle.std.proofs.Common.{if◌then◌else◌, inl, inr, ◌⊎◌}
use Rattle.std.specs.Prelude.{Decides, ◌||◌, flat_map}
use Rattle.std.specs.List.{list_any}
use Rattle.std.proofs.lemmas.Bool.{or_cases}
use Rattle.std.proofs.lemmas.List.{append-nil, length-append}
use Rattle.std.proofs.lemmas.List.Concat.{flat_map-append}
use Rattle.std.proofs.lemmas.List.Folds.{list_any-append}
use Rattle.std.proofs.lemmas.List.Sums.{fold-append}
use Rattle.acc_prover_choices.specs.Parts.{with_first, with_firsts, firsts}

or_true : (b : Bool) → (b || true) ≡ true
or_true true = refl
or_true false = refl

or_false : (b : Bool) → (b || false) ≡ b
or_false true = refl
or_false false = refl

module _ {X : Type 0} (same : X → X → Bool) (decides : (x y : X) → Decides (same x y) (x ≡ y)) where
  abbrev pub Among : List X → X → Type 0
  Among xs x = list_any (same x) xs ≡ true

  itself : (x : X) → same x x ≡ true
  itself x = (decides x x).1 refl

  among_left : (xs ys : List X) (x : X) → Among xs x → Among (xs ++ ys) x
  among_left xs ys x h = list_any-append (same x) xs ys ∙ ap (λ b. b || list_any (same x) ys) h

  among_right : (xs ys : List X) (x : X) → Among ys x → Among (xs ++ ys) x
  among_right xs ys x h =
      list_any-append (same x) xs ys ∙ (ap (λ b. list_any (same x) xs || b) h ∙ or_true (list_any (same x) xs))

  among_last : (xs : List X) (x : X) → Among (xs ++ x ∷ []) x
  among_last xs x = among_right xs (x ∷ []) x (ap (λ b. b || false) (itself x))

  -- one more item
  with_among : (xs : List X) (x y : X) → Among xs y → Among (with_first same xs x) y
  with_among xs x y h = by (list_any (same x) xs)
    where
      by : (b : Bool) → Among (if b then xs else xs ++ x ∷ []) y
      by true = h
      by false = among_left xs (x ∷ []) y h

  with_itself : (xs : List X) (x : X) → Among (with_first same xs x) x
  with_itself xs x = by (list_any (same x) xs) refl
    where
      by : (b : Bool) → list_any (same x) xs ≡ b → Among (if b then xs else xs ++ x ∷ []) x
      by true e = e
      by false e = among_last xs x

  with_cases : (xs : List X) (x y : X) → Among (with_first same xs x) y → Among xs y ⊎ (y ≡ x)
  with_cases xs x y = by (list_any (same x) xs)
    where
      by : (b : Bool) → Among (if b then xs else xs ++ x ∷ []) y → Among xs y ⊎ (y ≡ x)
      by true h = inl h
      by false h =
          elim (or_cases (list_any (same y) xs) (same y x || false) (sym (list_any-append (same y) xs (x ∷ [])) ∙ h)) as
          (λ _. Among xs y ⊎ (y ≡ x)) [ inl g ↦ inl g | inr g ↦ inr ((decides y x).0 (sym (or_false (same y x)) ∙ g)) ]

  -- further items
  all_among : (found more : List X) (y : X) → Among found y → Among (with_firsts same found more) y
  all_among found [] y h = h
  all_among found (x ∷ more) y h = all_among (with_first same found x) more y (with_among found x y h)

  pub each_among : (found more : List X) (y : X) → Among more y → Among (with_firsts same found more) y
  each_among found [] y h = absurd (cc)
  each_among found (x ∷ more) y h =
      elim (or_cases (same y x) (list_any (same y) more) h) as (λ _. Among (with_firsts same found (x ∷ more)) y) [
        | inl g ↦ all_among (with_first same found x) more y
            (subst (Among (with_first same found x)) (sym ((decides y x).0 g)) (with_itself found x))
        | inr g ↦ each_among (with_first same found x) more y g
      ]

  -- items that are all there already
  pub absorb : (more found : List X) → ((y : X) → Among more y → Among found y) → with_firsts same found more ≡ found
  absorb [] found h = refl
  absorb (x ∷ more) found h =
      let here : with_first same found x ≡ found = ap (λ b. if b then found else found ++ x ∷ [])
      (h x (ap (λ b. b || list_any (same x) more) (itself x))) in
      ap (λ f. with_firsts same f more) here ∙ absorb more found
      (λ y g. h y (ap (λ b. same y x || b) g ∙ or_true (same y x)))

  -- ---- what lists of items give

  among_flat : (g : X → List X) (xs : List X) (x y : X) → Among xs x → Among (g x) y → Among (flat_map g xs) y
  among_flat g [] x y h k = absurd (cc)
  among_flat g (z ∷ xs) x y h k =
      elim (or_cases (same x z) (list_any (same x) xs) h) as (λ _. Among (flat_map g (z ∷ xs)) y) [
        | inl e ↦ among_left (g z) (flat_map g xs) y (subst (λ (w : X). Among (g w) y) ((decides x z).0 e) k)
        | inr e ↦ among_right (g z) (flat_map g xs) y (among_flat g xs x y e k)
      ]

  flat_from : (g : X → List X) (xs seen : List X)
      → firsts same (flat_map g (with_firsts same seen xs)) ≡ with_firsts same (firsts same (flat_map g seen)) (flat_map g xs)
  flat_from g [] seen = refl
  flat_from g (x ∷ xs) seen =
      flat_from g xs (with_first same seen x)
      ∙ (ap (λ f. with_firsts same f (flat_map g xs)) (by (list_any (same x) seen) refl)
      ∙ sym (fold-append (with_first same) (firsts same (flat_map g seen)) (g x) (flat_map g xs)))
    where
      by : (b : Bool) → list_any (same x) seen ≡ b
          → firsts same (flat_map g (if b then seen else seen ++ x ∷ [])) ≡ with_firsts same (firsts same (flat_map g seen)) (g x)
      by true e =
          sym (absorb (g x) (firsts same (flat_map g seen))
          (λ y h. each_among [] (flat_map g seen) y (among_flat g seen x y e h)))
      by false e =
          ap (firsts same) (flat_map-append g seen (x ∷ []) ∙ ap (λ ys. flat_map g seen ++ ys) (append-nil (g x)))
          ∙ fold-append (with_first same) [] (flat_map g seen) (g x)

  -- it is the same whether equal items were listed once before
  pub flat_firsts : (g : X → List X) (xs : List X) → firsts same (flat_map g (firsts same xs)) ≡ firsts same (flat_map g xs)
  flat_firsts g xs = flat_from g xs []

  -- ---- how many there are

  one_longer : (xs : List X) (x : X) → length (xs ++ x ∷ []) ≡ length xs + 1
  one_longer xs x = length-append xs (x ∷ [])

  pub grows : (found more : List X) → length found ≤ length (with_firsts same found more)
  grows found [] = omega arith
  grows found (x ∷ more) =
      let rest = grows (with_first same found x) more in
      let here = by (list_any (same x) found) in
      omega (arith, rest, here)
    where
      by : (b : Bool) → length found ≤ length (if b then found else found ++ x ∷ [])
      by true = omega arith
      by false = let h = one_longer found x in omega (arith, h)

  -- what items become isn't more
  shrinks : (f : X → X) (xs found mapped : List X) → ((y : X) → Among found y → Among mapped (f y)) → length mapped ≤ length found
      → length (with_firsts same mapped (map f xs)) ≤ length (with_firsts same found xs)
  shrinks f [] found mapped among short = short
  shrinks f (x ∷ xs) found mapped among short =
      shrinks f xs (with_first same found x) (with_first same mapped (f x)) still
      (by (list_any (same x) found) (list_any (same (f x)) mapped) refl refl)
    where
      still : (y : X) → Among (with_first same found x) y → Among (with_first same mapped (f x)) (f y)
      still y h = elim (with_cases found x y h) as (λ _. Among (with_first same mapped (f x)) (f y)) [
        | inl g ↦ with_among mapped (f x) (f y) (among y g)
        | inr e ↦ subst (λ (z : X). Among (with_first same mapped (f x)) (f z)) (sym e) (with_itself mapped (f x))
      ]

      by : (b c : Bool) → list_any (same x) found ≡ b → list_any (same (f x)) mapped ≡ c
          → length (if c then mapped else mapped ++ f x ∷ []) ≤ length (if b then found else found ++ x ∷ [])
      by true true e h = short
      by true false e h = let k = among x e in absurd (cc)
      by false true e h = let n = one_longer found x in omega (arith, n)
      by false false e h =
          let n = one_longer found x in
          let m = one_longer mapped (f x) in
          omega (arith, n, m)

  module _ {Y : Type 0} (y : Y) (ys : List Y) where
    repeated : (zs : List Y) (found : List X) (x : X) → Among found x → with_firsts same found (map (λ _. x) zs) ≡ found
    repeated [] found x h = refl
    repeated (z ∷ zs) found x h =
        ap (λ b. with_firsts same (if b then found else found ++ x ∷ []) (map (λ _. x) zs)) h ∙ repeated zs found x h

    -- items that stand there several times each
    times : (xs found : List X) → with_firsts same found (flat_map (λ x. map (λ _. x) (y ∷ ys)) xs) ≡ with_firsts same found xs
    times [] found = refl
    times (x ∷ xs) found =
        fold-append (with_first same) found (map (λ _. x) (y ∷ ys)) (flat_map (λ x. map (λ _. x) (y ∷ ys)) xs)
        ∙ (ap (λ f. with_firsts same f (flat_map (λ x. map (λ _. x) (y ∷ ys)) xs)) (repeated ys (with_first same found x) x
        (with_itself found x)) ∙ times xs (with_first same found x))

    -- items of which each gives some others that lead back to it are no more than those
    pub no_more : (back : X → X) (xs all : List X) → map back all ≡ flat_map (λ x. map (λ _. x) (y ∷ ys)) xs
        → length (firsts same xs) ≤ length (firsts same all)
    no_more back xs all e =
        let short : length (firsts same (map back all)) ≤ length (firsts same all) = shrinks back all [] [] (λ z h. absurd (cc))
        (omega arith) in
        let same_number = ap length (ap (firsts same) e ∙ times xs []) in
        omega (arith, short, same_number)
