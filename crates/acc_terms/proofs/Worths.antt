-- What collected terms are worth.
use Rattle.std.proofs.Common.{◌≡◌, Bool, List, [], ◌∷◌, ◌++◌, map, Option, Some, None, ap, sym, subst, ◌∙◌, refl, arith, append_assoc, ℤ}
use Rattle.std.proofs.Common.{◌+ℤ◌}
use Rattle.std.specs.Prelude.{Decides}
use Rattle.std.specs.List.{filter_map}
use Rattle.std.proofs.lemmas.Int.{ints}
use Rattle.std.proofs.lemmas.List.{map-append, append-nil}
use Rattle.acc_base.specs.Numbers.{total}
use Rattle.acc_base.specs.Collecting.{worth}
use Rattle.acc_base.proofs.CollectedWorths.{worth-with_term, worth-left}
use Rattle.acc_terms.specs.declared.parts.Part.{Part}
use Rattle.acc_terms.specs.Parts.{constant_in, constant_of}
use Rattle.acc_terms.specs.Collected.{with_unknown, totals}
use Rattle.acc_terms.specs.Sums.{with_part}
use Rattle.acc_terms.specs.Worths.{part_worth, CollectingKeepsWorth}
use Rattle.acc_terms.proofs.Totals.{total-append, one_part}

module _ {K : Type 0} (E : K → K → Bool) (decides : (x y : K) → Decides (E x y) (x ≡ y)) (f : K → ℤ) where
  worth-with_part : (o : Option K) (n : ℤ) (ts : List (K × ℤ))
      → worth f (with_part E (record { of = o; number = n }) ts) +ℤ constant_in (record { of = o; number = n })
      ≡ worth f ts +ℤ part_worth f (record { of = o; number = n })
  worth-with_part None n ts = refl
  worth-with_part (Some x) n ts = let h = worth-with_term f E decides x n ts in omega (arith, ints, h)

  abbrev Keeps : List (Part K) → Type 0
  Keeps parts = worth f (totals E (filter_map with_unknown parts)) +ℤ constant_of parts ≡ total (map (part_worth f) parts)

  one_more : (g : Part K → ℤ) (parts : List (Part K)) (p : Part K) → total (map g (parts ++ p ∷ [])) ≡ total (map g parts) +ℤ g p
  one_more g parts p =
      let e = ap total (map-append g parts (p ∷ [])) in
      let t = total-append (map g parts) (g p ∷ []) in omega (arith, ints, e, t)

  pushed : (parts : List (Part K)) (p : Part K) → Keeps parts → Keeps (parts ++ p ∷ [])
  pushed parts p h =
      let a = ap (worth f) (one_part E decides parts p) in
      let b = worth-with_part p.of p.number (totals E (filter_map with_unknown parts)) in
      let c = one_more constant_in parts p in
      let d = one_more (part_worth f) parts p in omega (arith, ints, a, b, c, d, h)

  grown : (parts more : List (Part K)) → Keeps parts → Keeps (parts ++ more)
  grown parts [] h = subst Keeps (sym (append-nil parts)) h
  grown parts (p ∷ more) h =
      subst Keeps (append_assoc parts (p ∷ []) more) (grown (parts ++ p ∷ []) more (pushed parts p h))

pub keeps_worth : {K : Type 0} (E : K → K → Bool) → ((x y : K) → Decides (E x y) (x ≡ y)) → CollectingKeepsWorth K E
keeps_worth E decides f parts =
    ap (λ z. z +ℤ constant_of parts) (worth-left f (totals E (filter_map with_unknown parts))) ∙ grown E decides f [] parts refl
