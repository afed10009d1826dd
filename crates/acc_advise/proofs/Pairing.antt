-- The pairs that an entry may have, one local after the other.
use Rattle.std.proofs.Common.{◌≡◌, ℕ, suc, ◌+◌, ◌<◌, ◌≤◌, Bool, true, false, List, [], ◌∷◌, ◌++◌, length, drop, get_or, sym, ap, ◌∙◌}
use Rattle.std.proofs.Common.{append_assoc, subst, arith, Option}
use Rattle.std.specs.Prelude.{◌&&◌, if◌then◌else◌}
use Rattle.std.specs.List.{AllByRecursion}
use Rattle.std.specs.Str.{bytes_eq}
use Rattle.std.proofs.Math.Seq.{drop-cons}
use Rattle.std.proofs.lemmas.List.{append-nil, drop_all}
use Rattle.acc_base.specs.declared.designs.TxType.{TxType}
use Rattle.acc_formed.specs.Entries.{pair_stays}
use Rattle.acc_preconditions.proofs.Alls.{all-append}
use Rattle.acc_oblig.specs.Drafts.{each_from, each, of_some}
use Rattle.acc_oblig_places.specs.Rooms.{HasFewLocals}
use Rattle.acc_oblig_places.specs.SeenPlaces.{point_place}
use Rattle.acc_oblig_places.specs.DesignPlaces.{PointPlace}
use Rattle.acc_advise.specs.declared.advice.Question.{Question}
use Rattle.acc_advise.specs.declared.spares.Inquiry.{Inquiry}
use Rattle.acc_advise.specs.TriedDesigns.{keyed, point_place_at}
use Rattle.acc_advise.specs.Candidates.{pair_of, pairs_in, candidates}
use Rattle.acc_advise.specs.Cases.{IsCase}
use Rattle.acc_advise.proofs.Entering.{case_held}

-- ---- walks

module _ {T U : Type 0} (make : ℕ → T → List U) (xs : List T) (i : ℕ) where
  pub made_on :
      (x : T) (now new all : List U) → i < length xs → x ≡ get_or xs i x → new ≡ now ++ make i x
      → now ++ each_from i make (drop i xs) ≡ all → new ++ each_from (i + 1) make (drop (i + 1) xs) ≡ all
  made_on x now new all l e added before =
      let more : suc i ≡ i + 1 = omega arith in
      let next : each_from i make (drop i xs) ≡ make i x ++ each_from (i + 1) make (drop (i + 1) xs) =
      ap (λ (ys : List T). each_from i make ys) (drop-cons xs i x l)
      ∙ (ap (λ (y : T). make i y ++ each_from (i + 1) make (drop (suc i) xs)) (sym e)
      ∙ ap (λ n. make i x ++ each_from (i + 1) make (drop n xs)) more) in
      ap (λ z. z ++ each_from (i + 1) make (drop (i + 1) xs)) added
      ∙ (append_assoc now (make i x) (each_from (i + 1) make (drop (i + 1) xs)) ∙ (ap (λ z. now ++ z) (sym next) ∙ before))

  pub made_all : (now all : List U) → length xs ≤ i → now ++ each_from i make (drop i xs) ≡ all → now ≡ all
  made_all now all l before =
      sym (append-nil now) ∙ (ap (λ (ys : List T). now ++ each_from i make ys) (sym (drop_all i xs l)) ∙ before)

-- ---- small pairs

few_of_each :
    {T : Type 0} (make : ℕ → T → List (ℕ × ℕ)) (most i : ℕ) (xs : List T) → i + length xs ≤ most
    → ((k : ℕ) (x : T) → k ≤ most → AllByRecursion HasFewLocals (make k x)) → AllByRecursion HasFewLocals (each_from i make xs)
few_of_each make most i [] l h = tt
few_of_each make most i (x ∷ xs) l h =
    all-append HasFewLocals (make i x) (each_from (i + 1) make xs) (h i x (omega (arith, l)))
    (few_of_each make most (i + 1) xs (omega (arith, l)) h)

module _ (types : List TxType) (q : Question) where
  pair_small : (i : ℕ) (name : List ℕ) (j : ℕ) (other : List ℕ) → i ≤ 48 → AllByRecursion HasFewLocals (pair_of types q i name j other)
  pair_small i name j other few = by (bytes_eq name other && pair_stays types (keyed q []) (i, j))
    where
      by : (b : Bool) → AllByRecursion HasFewLocals (if b then (i, j) ∷ [] else [])
      by true = (few, tt)
      by false = tt

  pairs_small : (held step : List (List ℕ)) → length held ≤ 48 → AllByRecursion HasFewLocals (pairs_in types q held step)
  pairs_small held step few =
      few_of_each (λ i name. each (pair_of types q i name) step) 48 0 held (omega (arith, few))
      (λ i name l. few_of_each (pair_of types q i name) (length step) 0 step (omega arith) (λ j other m. pair_small i name j other l))

module _ (c : Inquiry) (h : IsCase c) where
  -- those of a case
  pub candidates_are :
      pairs_in c.d.now.types c.question c.held.ty.now.locals c.taken.place.ty.now.locals ≡ candidates c.d.now c.question
  candidates_are =
      let d = c.d.now in
      let held : PointPlace = point_place c.held in
      ap (λ (o : Option PointPlace). of_some (λ (s : PointPlace). pairs_in d.types c.question held.x.locals s.x.locals) o) (sym h.place)
      ∙ ap (λ (o : Option PointPlace). of_some (λ (x : PointPlace). of_some (λ (s : PointPlace).
      pairs_in d.types c.question x.x.locals s.x.locals) (point_place_at d c.question.step)) o) (sym h.held)

  pub candidates_small : AllByRecursion HasFewLocals (candidates c.d.now c.question)
  candidates_small =
      subst (AllByRecursion HasFewLocals) candidates_are
      (pairs_small c.d.now.types c.question c.held.ty.now.locals c.taken.place.ty.now.locals (case_held c h).x.locals)
