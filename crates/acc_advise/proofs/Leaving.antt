-- An entry for what is asked leaves the obligations that come from elsewhere as they are.
use Rattle.std.proofs.Common.{◌≡◌, ℕ, Bool, true, false, List, [], ◌∷◌, ◌++◌, length, Option, Some, refl, sym, ap, subst, ◌∙◌, cond, inl, inr}
use Rattle.std.specs.Prelude.{◌⊎◌, ◌&&◌, ◌==◌, slice_get, filter, not, if◌then◌else◌}
use Rattle.std.specs.List.{AllByRecursion, Contains}
use Rattle.std.proofs.lemmas.Bool.{false≢true, eqb-true}
use Rattle.std.proofs.lemmas.List.Elements.{All-contains_itself, recursion_from_All}
use Rattle.acc_base.specs.declared.forms.Clause.{Clause}
use Rattle.acc_base.specs.declared.steps.Path.{Path}
use Rattle.acc_base.specs.declared.designs.At.{At}
use Rattle.acc_base.specs.declared.designs.Side.{Side}
use Rattle.acc_base.specs.declared.designs.Side.TheVariants.{Next, Undo}
use Rattle.acc_base.specs.declared.designs.Entry.{Entry}
use Rattle.acc_base.specs.declared.designs.Point.{Point}
use Rattle.acc_base.specs.declared.designs.TxType.{TxType}
use Rattle.acc_base.specs.declared.designs.Design.{Design}
use Rattle.acc_base.specs.declared.sequents.Rule.TheVariants.{Spares}
use Rattle.acc_base.specs.Effects.{step_at}
use Rattle.acc_preconditions.proofs.Alls.{all-append}
use Rattle.acc_formed.specs.Entries.{same_point, same_side}
use Rattle.acc_oblig.specs.Drafts.{Draft, Place, each, each_path, path_origin, setting_of}
use Rattle.acc_oblig.specs.PathPromises.{clause_names, promise_drafts, always_drafts}
use Rattle.acc_oblig.specs.PointRules.{begin_drafts}
use Rattle.acc_oblig.specs.Spares.{is_for, entry_for, by_entry, spare_at, held_drafts, all_spare_drafts}
use Rattle.acc_oblig.specs.Laws.{drafts_of}
use Rattle.acc_oblig.proofs.Listed.{all_front, all_back, each_at, path_at}
use Rattle.acc_oblig_places.specs.ManyEntries.{with_entries}
use Rattle.acc_advise.specs.declared.advice.Question.{Question}
use Rattle.acc_advise.specs.TriedDesigns.{keyed, put_entry}
use Rattle.acc_advise.specs.Laws.{IsAsked, LeavesOthers}
use Rattle.acc_advise.proofs.Owning.{FromIt, of_path, all_each, all_paths, spare_from}
use Rattle.acc_advise.proofs.Owned.{later, own_spares}

-- ---- entries that are for something else

parts : (a b : Bool) → (a && b) ≡ true → (a ≡ true) × (b ≡ true)
parts true b h = (refl, h)
parts false b h = absurd (false≢true h)

point_is : (a b : At) → same_point a b ≡ true → a ≡ b
point_is a b h =
    let both = parts (a.ty == b.ty) (a.point == b.point) h in
    let ty : a.ty ≡ b.ty = eqb-true a.ty b.ty both.0 in
    let point : a.point ≡ b.point = eqb-true a.point b.point both.1 in
    (λ i. record { ty = ty i; point = point i })

side_is : (a b : Side) → same_side a b ≡ true → a ≡ b
side_is Next Next h = refl
side_is Undo Undo h = refl
side_is Next Undo h = absurd (false≢true h)
side_is Undo Next h = absurd (false≢true h)

-- what an entry is for
abbrev about : Entry → Question
about e = record { held = e.held; step = e.step; side = e.side }

about_is : (q : Question) (e : Entry) → is_for q.held q.step q.side e ≡ true → about e ≡ q
about_is q e h =
    let all = parts (same_point e.held q.held && same_point e.step q.step) (same_side e.side q.side) h in
    let points = parts (same_point e.held q.held) (same_point e.step q.step) all.0 in
    let held : e.held ≡ q.held = point_is e.held q.held points.0 in
    let step : e.step ≡ q.step = point_is e.step q.step points.1 in
    let side : e.side ≡ q.side = side_is e.side q.side all.1 in
    (λ i. record { held = held i; step = step i; side = side i })

-- where a question isn't this one
abbrev is_it : Question → Question → Bool
is_it z q = is_for z.held z.step z.side (keyed q [])

other_entry : (z q : Question) (e : Entry) → is_it z q ≡ false → about e ≡ q → is_for z.held z.step z.side e ≡ false
other_entry z q e other is = ap (λ (t : Question). is_it z t) is ∙ other

module _ (z q : Question) (other : is_it z q ≡ false) where
  abbrev found : List Entry → Option Entry
  found xs = entry_for xs z.held z.step z.side

  passed_over : (x : Entry) (xs : List Entry) → about x ≡ q → found (x ∷ xs) ≡ found xs
  passed_over x xs is = ap (λ t. cond t (Some x) (found xs)) (other_entry z q x other is)

  put_leaves : (pairs : List (ℕ × ℕ)) (xs : List Entry) → found (put_entry (keyed q pairs) xs) ≡ found xs
  put_leaves pairs [] = passed_over (keyed q pairs) [] refl
  put_leaves pairs (x ∷ xs) = by (is_for q.held q.step q.side x) refl (put_leaves pairs xs)
    where
      by :
          (b : Bool) → is_for q.held q.step q.side x ≡ b → found (put_entry (keyed q pairs) xs) ≡ found xs
          → found (if b then keyed q pairs ∷ xs else x ∷ put_entry (keyed q pairs) xs) ≡ found (x ∷ xs)
      by true is more = passed_over (keyed q pairs) xs refl ∙ sym (passed_over x xs (about_is q x is))
      by false is more = ap (λ o. cond (is_for z.held z.step z.side x) (Some x) o) more

  taken_leaves : (xs : List Entry) → found (filter (λ e. not (is_for q.held q.step q.side e)) xs) ≡ found xs
  taken_leaves [] = refl
  taken_leaves (x ∷ xs) = by (is_for q.held q.step q.side x) refl (taken_leaves xs)
    where
      by :
          (b : Bool) → is_for q.held q.step q.side x ≡ b → found (filter (λ e. not (is_for q.held q.step q.side e)) xs) ≡ found xs
          → found (cond (not b) (x ∷ filter (λ e. not (is_for q.held q.step q.side e)) xs) (filter (λ e. not (is_for q.held q.step q.side e)) xs))
          ≡ found (x ∷ xs)
      by true is more = more ∙ sym (passed_over x xs (about_is q x is))
      by false is more = ap (λ o. cond (is_for z.held z.step z.side x) (Some x) o) more

-- ---- designs whose entries agree but for a question

abbrev pub Agrees : Question → List Entry → List Entry → Type 0
Agrees q es fs = (z : Question) → (z ≡ q) ⊎ (entry_for es z.held z.step z.side ≡ entry_for fs z.held z.step z.side)

agrees_if : (q : Question) (es fs : List Entry)
    → ((z : Question) → is_it z q ≡ false → entry_for es z.held z.step z.side ≡ entry_for fs z.held z.step z.side) → Agrees q es fs
agrees_if q es fs h z = by (is_it z q) refl
  where
    by : (b : Bool) → is_it z q ≡ b → (z ≡ q) ⊎ (entry_for es z.held z.step z.side ≡ entry_for fs z.held z.step z.side)
    by true is = inl (sym (about_is z (keyed q []) is))
    by false is = inr (h z is)

pub put_agrees : (q : Question) (pairs : List (ℕ × ℕ)) (xs : List Entry) → Agrees q (put_entry (keyed q pairs) xs) xs
put_agrees q pairs xs = agrees_if q (put_entry (keyed q pairs) xs) xs (λ z other. put_leaves z q other pairs xs)

pub taken_agrees : (q : Question) (xs : List Entry) → Agrees q (filter (λ e. not (is_for q.held q.step q.side e)) xs) xs
taken_agrees q xs =
    agrees_if q (filter (λ e. not (is_for q.held q.step q.side e)) xs) xs (λ z other. taken_leaves z q other xs)

pub agrees_back : (q : Question) (es fs : List Entry) → Agrees q es fs → Agrees q fs es
agrees_back q es fs h z = by (h z)
  where
    by :
        (z ≡ q) ⊎ (entry_for es z.held z.step z.side ≡ entry_for fs z.held z.step z.side)
        → (z ≡ q) ⊎ (entry_for fs z.held z.step z.side ≡ entry_for es z.held z.step z.side)
    by (inl is) = inl is
    by (inr same) = inr (sym same)

-- ---- their obligations

-- of a held clause and a path, by the entry that is found
abbrev by_found : Design → At → TxType → Point → ℕ → Clause → Place → TxType → Point → Path → Option Entry → List Draft
by_found d held x p k c w y r path o =
    if clause_names path.actions c
    then by_entry (path_origin Spares (Some held) k w) (setting_of d y r (step_at w.side r) w.path path) w.side p.clauses (length x.locals) c o
    else []

module _ (d : Design) (q : Question) (es fs : List Entry) (agree : Agrees q es fs) where
  abbrev one : Design
  one = with_entries d es

  abbrev two : Design
  two = with_entries d fs

  abbrev Has : Draft → Type 0
  Has = Contains (drafts_of two)

  abbrev Left : Draft → Type 0
  Left x = IsAsked q x.sequent.origin ⊎ Has x

  left_if : (xs : List Draft) → AllByRecursion Has xs → AllByRecursion Left xs
  left_if [] h = tt
  left_if (x ∷ xs) h = (inr h.0, left_if xs h.1)

  asked_if : (xs : List Draft) → AllByRecursion (FromIt q) xs → AllByRecursion Left xs
  asked_if [] h = tt
  asked_if (x ∷ xs) h = (inl h.0, asked_if xs h.1)

  spare_left :
      (held : At) (x : TxType) (p : Point) (k : ℕ) (c : Clause) (w : Place) (y : TxType) (r : Point) (path : Path)
      → slice_get d.types held.ty ≡ Some x → slice_get x.points held.point ≡ Some p → slice_get p.clauses k ≡ Some c
      → slice_get d.types w.at.ty ≡ Some y → slice_get y.points w.at.point ≡ Some r → slice_get (step_at w.side r).paths w.path ≡ Some path
      → AllByRecursion Left (spare_at one held x p k c w y r (step_at w.side r) path)
  spare_left held x p k c w y r path a b g e f m = by (agree (of_path held w))
    where
      by :
          (of_path held w ≡ q) ⊎ (entry_for es held w.at w.side ≡ entry_for fs held w.at w.side)
          → AllByRecursion Left (by_found d held x p k c w y r path (entry_for es held w.at w.side))
      by (inl is) =
          asked_if (by_found d held x p k c w y r path (entry_for es held w.at w.side))
          (subst (λ (z : Question). AllByRecursion (FromIt z) (by_found d held x p k c w y r path (entry_for es held w.at w.side))) is
          (spare_from one held x p k c w y r (step_at w.side r) path))
      by (inr same) =
          left_if (by_found d held x p k c w y r path (entry_for es held w.at w.side))
          (subst (λ (o : Option Entry). AllByRecursion Has (by_found d held x p k c w y r path o)) (sym same)
          (path_at Has two (spare_at two held x p k c)
          (each_at Has (λ n t. each_path two (spare_at two held x p n t)) p.clauses k c
          (each_at Has (held_drafts two held.ty x) x.points held.point p
          (each_at Has (λ ty t. each (held_drafts two ty t) t.points) d.types held.ty x (own_spares two) a) b) g)
          w.at.ty w.at.point y r w.side w.path path e f m))

  spares_left : AllByRecursion Left (all_spare_drafts one)
  spares_left =
      all_each Left (λ ty x. each (held_drafts one ty x) x.points) d.types (λ ty x a.
      all_each Left (held_drafts one ty x) x.points (λ i p b.
      all_each Left (λ k c. each_path one (spare_at one (record { ty = ty; point = i }) x p k c)) p.clauses (λ k c g.
      all_paths Left one (spare_at one (record { ty = ty; point = i }) x p k c) (λ w y r path e f m.
      spare_left (record { ty = ty; point = i }) x p k c w y r path a b g e f m))))

  abbrev behind_promises : List Draft
  behind_promises = always_drafts two ++ (all_spare_drafts two ++ later two)

  has_all : AllByRecursion Has (drafts_of two)
  has_all = recursion_from_All Has (drafts_of two) (All-contains_itself (drafts_of two))

  has_promises : AllByRecursion Has (promise_drafts two ++ behind_promises)
  has_promises = all_back Has (begin_drafts two) (promise_drafts two ++ behind_promises) has_all

  has_behind : AllByRecursion Has behind_promises
  has_behind = all_back Has (promise_drafts two) behind_promises has_promises

  has_spares : AllByRecursion Has (all_spare_drafts two ++ later two)
  has_spares = all_back Has (always_drafts two) (all_spare_drafts two ++ later two) has_behind

  pub leaves : LeavesOthers one two q
  leaves =
      let spares = all_spare_drafts one in
      all-append Left (begin_drafts two) (promise_drafts two ++ (always_drafts two ++ (spares ++ later two)))
      (left_if (begin_drafts two) (all_front Has (begin_drafts two) (promise_drafts two ++ behind_promises) has_all))
      (all-append Left (promise_drafts two) (always_drafts two ++ (spares ++ later two))
      (left_if (promise_drafts two) (all_front Has (promise_drafts two) behind_promises has_promises))
      (all-append Left (always_drafts two) (spares ++ later two)
      (left_if (always_drafts two) (all_front Has (always_drafts two) (all_spare_drafts two ++ later two) has_behind))
      (all-append Left spares (later two) spares_left (left_if (later two) (all_back Has (all_spare_drafts two) (later two) has_spares)))))
