-- Instances that were added to what is known, and instances that were tried.
use Rattle.std.proofs.Common.{◌≡◌, ℕ, Bool, true, false, List, [], ◌∷◌, ◌++◌, Some, refl, subst, inl, inr, ◌==◌}
use Rattle.std.specs.Prelude.{All, ◌⊎◌, ◌||◌, slice_get}
use Rattle.std.specs.List.{list_any, Contains}
use Rattle.std.proofs.lemmas.Bool.Decides.{Decides-eqb}
use Rattle.std.proofs.lemmas.List.Elements.{All-weaker, Contains-append_left, Contains-push}
use Rattle.acc_base.specs.declared.forms.Rel.{Rel}
use Rattle.acc_inst.specs.declared.making.Instance.{Instance}
use Rattle.acc_prover_course.specs.Passes.{is_place}
use Rattle.acc_prover_searched.proofs.Showing.{UnshownAny}

pub last_there : (rels : List Rel) (r : Rel) → Contains (rels ++ r ∷ []) r
last_there rels r = Contains-push rels r

-- the relation of each instance that was added is known
abbrev pub Added : List Instance → List Rel → List ℕ → Type 0
Added made rels insts =
    (i : ℕ) (x : Instance) → list_any (is_place i) insts ≡ true → slice_get made i ≡ Some x → Contains rels x.rel

pub added_more : (made : List Instance) (rels more : List Rel) (insts : List ℕ) → Added made rels insts → Added made (rels ++ more) insts
added_more made rels more insts h i x there at = Contains-append_left rels more x.rel (h i x there at)

any_last : (i : ℕ) (insts : List ℕ) (j : ℕ) → list_any (is_place i) (insts ++ j ∷ []) ≡ true
    → (list_any (is_place i) insts ≡ true) ⊎ (j ≡ i)
any_last i [] j h = by (j == i) refl h
  where
    by : (b : Bool) → (j == i) ≡ b → (b || false) ≡ true → (false ≡ true) ⊎ (j ≡ i)
    by true e k = inr ((Decides-eqb j i).0 e)
    by false e k = absurd (cc)
any_last i (n ∷ insts) j h = by (any_last i insts j) (is_place i n) h
  where
    by : (list_any (is_place i) (insts ++ j ∷ []) ≡ true → (list_any (is_place i) insts ≡ true) ⊎ (j ≡ i)) → (b : Bool)
        → (b || list_any (is_place i) (insts ++ j ∷ [])) ≡ true → ((b || list_any (is_place i) insts) ≡ true) ⊎ (j ≡ i)
    by rest true k = inl refl
    by rest false k = rest k

pub added_one : (made : List Instance) (rels : List Rel) (insts : List ℕ) (j : ℕ) (y : Instance) → slice_get made j ≡ Some y
    → Added made rels insts → Added made (rels ++ y.rel ∷ []) (insts ++ j ∷ [])
added_one made rels insts j y here h i x there at = by (any_last i insts j there)
  where
    by : (list_any (is_place i) insts ≡ true) ⊎ (j ≡ i) → Contains (rels ++ y.rel ∷ []) x.rel
    by (inl k) = Contains-append_left rels (y.rel ∷ []) x.rel (h i x k at)
    by (inr e) =
        let moved = subst (λ (n : ℕ). slice_get made n ≡ Some y) e here in
        let same : y ≡ x = cc in
        subst (λ (z : Instance). Contains (rels ++ y.rel ∷ []) z.rel) same (last_there rels y.rel)

-- the relation of an instance is known, or one of its guards wasn't shown by relations, of which this holds, that are known now too
abbrev pub Tried : (List Rel → Type 0) → List Rel → Instance → Type 0
Tried E rels x =
    Contains rels x.rel ⊎ ((R : List Rel) × ((r : Rel) → Contains R r → Contains rels r) × E R × UnshownAny R x.guards)

pub tried_more : (E : List Rel → Type 0) (rels more : List Rel) (x : Instance) → Tried E rels x → Tried E (rels ++ more) x
tried_more E rels more x (inl h) = inl (Contains-append_left rels more x.rel h)
tried_more E rels more x (inr h) = inr (h.0, λ r k. Contains-append_left rels more r (h.1 r k), h.2, h.3)

pub all_tried_more : (E : List Rel → Type 0) (xs : List Instance) (rels more : List Rel) → All (Tried E rels) xs
    → All (Tried E (rels ++ more)) xs
all_tried_more E xs rels more all = All-weaker (Tried E rels) (Tried E (rels ++ more)) (λ x h. tried_more E rels more x h) xs all
