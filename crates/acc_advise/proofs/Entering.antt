-- The obligations of a case depend on its own entry alone, and its points are small.
use Rattle.std.proofs.Common.{◌≡◌, ℕ, Bool, true, false, List, [], ◌∷◌, length, Option, Some, None, refl, sym, ap, subst, ◌∙◌, arith, cond}
use Rattle.std.specs.Prelude.{find, filter, not, slice_get, option_and_then, option_map, if◌then◌else◌, ◌&&◌, ◌==◌}
use Rattle.std.proofs.lemmas.Bool.{eq-eqb}
use Rattle.std.proofs.lemmas.Option.{none-some, same_Some, slice_get_within}
use Rattle.acc_base.specs.declared.designs.At.{At}
use Rattle.acc_base.specs.declared.designs.Side.{Side}
use Rattle.acc_base.specs.declared.designs.Side.TheVariants.{Next, Undo}
use Rattle.acc_base.specs.declared.designs.Entry.{Entry}
use Rattle.acc_base.specs.declared.designs.Point.{Point}
use Rattle.acc_base.specs.declared.designs.TxType.{TxType}
use Rattle.acc_base.specs.declared.designs.Design.{Design}
use Rattle.acc_base.specs.declared.sequents.Rule.TheVariants.{Spares}
use Rattle.acc_base.specs.Effects.{step_at}
use Rattle.acc_base.proofs.Items.{at_slice_get}
use Rattle.acc_formed.specs.Entries.{same_point, same_side}
use Rattle.acc_oblig.specs.Drafts.{Draft, each, of_some, path_origin, setting_of}
use Rattle.acc_oblig.specs.PathPromises.{clause_names}
use Rattle.acc_oblig.specs.Spares.{is_for, entry_for, by_entry}
use Rattle.acc_oblig_places.specs.ManyEntries.{with_entries}
use Rattle.acc_oblig_places.specs.Rooms.{IsSmallDesign, IsSmallPoint, IsSmallPointPlace, IsSmallStep, IsSmallType}
use Rattle.acc_oblig_places.specs.SeenPlaces.{point_place}
use Rattle.acc_oblig_places.specs.DesignPlaces.{PointPlace}
use Rattle.acc_oblig_places.proofs.ManyEntries.{formed_but_entries}
use Rattle.acc_oblig_places.proofs.Small.{design_small}
use Rattle.acc_advise.specs.declared.advice.Question.{Question}
use Rattle.acc_advise.specs.declared.spares.Inquiry.{Inquiry}
use Rattle.acc_advise.specs.TriedDesigns.{put_entry, keyed, point_in, point_place_at, spares_of, spares_in, free_drafts}
use Rattle.acc_advise.specs.TriedDesigns.{keyed_drafts}
use Rattle.acc_advise.specs.Cases.{IsCase}

-- ---- the entry that is found

both : (a b : Bool) → a ≡ true → b ≡ true → (a && b) ≡ true
both a b h k = ap (λ t. t && b) h ∙ k

own_point : (a : At) → same_point a a ≡ true
own_point a = both (a.ty == a.ty) (a.point == a.point) (eq-eqb a.ty a.ty refl) (eq-eqb a.point a.point refl)

own_side : (s : Side) → same_side s s ≡ true
own_side Next = refl
own_side Undo = refl

own : (e : Entry) → is_for e.held e.step e.side e ≡ true
own e =
    both (same_point e.held e.held && same_point e.step e.step) (same_side e.side e.side)
    (both (same_point e.held e.held) (same_point e.step e.step) (own_point e.held) (own_point e.step)) (own_side e.side)

pub finds_own : (e : Entry) (es : List Entry) → entry_for (e ∷ es) e.held e.step e.side ≡ Some e
finds_own e es = ap (λ t. cond t (Some e) (entry_for es e.held e.step e.side)) (own e)

finds_put : (e : Entry) (es : List Entry) → entry_for (put_entry e es) e.held e.step e.side ≡ Some e
finds_put e [] = finds_own e []
finds_put e (x ∷ xs) = by (is_for e.held e.step e.side x) refl (finds_put e xs)
  where
    by :
        (b : Bool) → is_for e.held e.step e.side x ≡ b → entry_for (put_entry e xs) e.held e.step e.side ≡ Some e
        → entry_for (if b then e ∷ xs else x ∷ put_entry e xs) e.held e.step e.side ≡ Some e
    by true f more = finds_own e xs
    by false f more = ap (λ t. cond t (Some x) (entry_for (put_entry e xs) e.held e.step e.side)) f ∙ more

finds_none : (test : Entry → Bool) (es : List Entry) → find test (filter (λ e. not (test e)) es) ≡ None
finds_none test [] = refl
finds_none test (x ∷ xs) = by (test x) refl (finds_none test xs)
  where
    by :
        (b : Bool) → test x ≡ b → find test (filter (λ e. not (test e)) xs) ≡ None
        → find test (cond (not b) (x ∷ filter (λ e. not (test e)) xs) (filter (λ e. not (test e)) xs)) ≡ None
    by true f more = more
    by false f more = ap (λ t. cond t (Some x) (find test (filter (λ e. not (test e)) xs))) f ∙ more

-- ---- a relation of the obligations with two lists of entries, point by point

module _ (d : Design) (q : Question) (P : List Draft → List Draft → Type 0) (nothing : P [] []) (es fs : List Entry) where
  abbrev pub spares_with : List Entry → TxType → Point → TxType → Point → List Draft
  spares_with xs x p y r =
      spares_of (with_entries d xs) q.side (record { at = q.held; x = x; p = p }) (record { at = q.step; x = y; p = r }) (step_at q.side r)

  module _ (points : (x : TxType) (p : Point) (y : TxType) (r : Point) → P (spares_with es x p y r) (spares_with fs x p y r)) where
    abbrev of_step : List Entry → PointPlace → Option PointPlace → List Draft
    of_step xs h o = of_some (λ (s : PointPlace). spares_of (with_entries d xs) q.side h s (step_at q.side s.p)) o

    step_point :
        (x : TxType) (p : Point) (y : TxType) (o : Option Point)
        → P (of_step es (record { at = q.held; x = x; p = p }) (option_map (λ (r : Point). record { at = q.step; x = y; p = r }) o))
        (of_step fs (record { at = q.held; x = x; p = p }) (option_map (λ (r : Point). record { at = q.step; x = y; p = r }) o))
    step_point x p y None = nothing
    step_point x p y (Some r) = points x p y r

    step_type :
        (x : TxType) (p : Point) (o : Option TxType)
        → P (of_step es (record { at = q.held; x = x; p = p }) (option_and_then (point_in q.step) o))
        (of_step fs (record { at = q.held; x = x; p = p }) (option_and_then (point_in q.step) o))
    step_type x p None = nothing
    step_type x p (Some y) = step_point x p y (slice_get y.points q.step.point)

    held_point :
        (x : TxType) (o : Option Point)
        → P (of_some (λ (h : PointPlace). of_step es h (point_place_at d q.step))
        (option_map (λ (p : Point). record { at = q.held; x = x; p = p }) o))
        (of_some (λ (h : PointPlace). of_step fs h (point_place_at d q.step))
        (option_map (λ (p : Point). record { at = q.held; x = x; p = p }) o))
    held_point x None = nothing
    held_point x (Some p) = step_type x p (slice_get d.types q.step.ty)

    held_type :
        (o : Option TxType)
        → P (of_some (λ (h : PointPlace). of_step es h (point_place_at d q.step)) (option_and_then (point_in q.held) o))
        (of_some (λ (h : PointPlace). of_step fs h (point_place_at d q.step)) (option_and_then (point_in q.held) o))
    held_type None = nothing
    held_type (Some x) = held_point x (slice_get x.points q.held.point)

    pub all_points : P (spares_in (with_entries d es) q) (spares_in (with_entries d fs) q)
    all_points = held_type (slice_get d.types q.held.ty)

-- ---- the obligations by the entry that is found

-- of two points with an entry or without
abbrev pub spares_by : Design → Question → TxType → Point → TxType → Point → Option Entry → List Draft
spares_by d q x p y r o =
    each (λ k c. each (λ j path. if clause_names path.actions c
    then by_entry (path_origin Spares (Some q.held) k (record { at = q.step; side = q.side; path = j }))
    (setting_of d y r (step_at q.side r) j path) q.side p.clauses (length x.locals) c o
    else []) (step_at q.side r).paths) p.clauses

module _ (d : Design) (q : Question) (es fs : List Entry) where
  same_entries :
      entry_for es q.held q.step q.side ≡ entry_for fs q.held q.step q.side
      → spares_in (with_entries d es) q ≡ spares_in (with_entries d fs) q
  same_entries e = all_points d q (λ xs ys. xs ≡ ys) refl es fs (λ x p y r. ap (spares_by d q x p y r) e)

pub keyed_is : (d : Design) (q : Question) (pairs : List (ℕ × ℕ)) → spares_in (with_entries d (keyed q pairs ∷ [])) q ≡ keyed_drafts d q pairs
keyed_is d q pairs =
    let e = keyed q pairs in
    same_entries d q (e ∷ []) (put_entry e d.entries) (finds_own e [] ∙ sym (finds_put e d.entries))

pub free_is : (d : Design) (q : Question) → spares_in (with_entries d []) q ≡ free_drafts d q
free_is d q =
    same_entries d q [] (filter (λ e. not (is_for q.held q.step q.side e)) d.entries)
    (sym (finds_none (is_for q.held q.step q.side) d.entries))

-- ---- the points of a case

place_small :
    (d : Design) → IsSmallDesign d → (at : At) (q : PointPlace) → point_place_at d at ≡ Some q → IsSmallPointPlace q
place_small d small at q e = by (slice_get d.types at.ty) refl e
  where
    by_point :
        (x : TxType) → slice_get d.types at.ty ≡ Some x → (o : Option Point) → slice_get x.points at.point ≡ o
        → option_map (λ (p : Point). record { at = at; x = x; p = p }) o ≡ Some q → IsSmallPointPlace q
    by_point x f None g e = absurd (none-some q e)
    by_point x f (Some p) g e =
        let is_small : IsSmallType x = at_slice_get IsSmallType d.types at.ty x small.types f in
        let few = small.few_types in
        let few_points = is_small.few_points in
        let type_there = slice_get_within d.types at.ty x f in
        let point_there = slice_get_within x.points at.point p g in
        subst IsSmallPointPlace (same_Some _ q e) (
        record {
          at = record { ty = omega (arith, few, type_there); point = omega (arith, few_points, point_there) };
          x = is_small;
          p = at_slice_get IsSmallPoint x.points at.point p is_small.points g;
        }
        )

    by : (o : Option TxType) → slice_get d.types at.ty ≡ o → option_and_then (point_in at) o ≡ Some q → IsSmallPointPlace q
    by None f e = absurd (none-some q e)
    by (Some x) f e = by_point x f (slice_get x.points at.point) refl e

step_small : (side : Side) (p : Point) → IsSmallPoint p → IsSmallStep (step_at side p)
step_small Next p h = h.next
step_small Undo p h = h.undo

module _ (c : Inquiry) (h : IsCase c) where
  pub case_design : IsSmallDesign c.d.now
  case_design = design_small c.d.now (formed_but_entries c.d.now h.formed)

  pub case_held : IsSmallPointPlace (point_place c.held)
  case_held = place_small c.d.now case_design c.question.held (point_place c.held) h.held

  pub case_place : IsSmallPointPlace (point_place c.taken.place)
  case_place = place_small c.d.now case_design c.question.step (point_place c.taken.place) h.place

  pub case_step : IsSmallStep c.taken.step.now
  case_step = subst IsSmallStep (sym h.step) (step_small c.question.side c.taken.place.point.now case_place.p)

  -- its obligations are those of its points
  pub case_spares :
      (es : List Entry) → spares_of (with_entries c.d.now es) c.taken.side (point_place c.held) (point_place c.taken.place) c.taken.step.now
      ≡ spares_in (with_entries c.d.now es) c.question
  case_spares es =
      let d = with_entries c.d.now es in
      let h' : PointPlace = point_place c.held in
      let s : PointPlace = point_place c.taken.place in
      (λ i. spares_of d (h.side i) h' s (h.step i))
      ∙ (ap (λ (o : Option PointPlace). of_some (λ (x : PointPlace). spares_of d c.question.side h' x (step_at c.question.side x.p)) o) (sym h.place)
      ∙ ap (λ (o : Option PointPlace). of_some (λ (y : PointPlace). of_some (λ (x : PointPlace).
      spares_of d c.question.side y x (step_at c.question.side x.p)) (point_place_at d c.question.step)) o) (sym h.held))
