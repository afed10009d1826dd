-- Entries that are kept, and whose places are fit.
use Rattle.std.proofs.Common.{◌≡◌, ℕ, ◌<◌, ◌≤◌, Bool, true, false, cond, List, [], ◌∷◌, length, get_or, ap, sym, ◌∙◌, refl, arith, Option}
use Rattle.std.proofs.Common.{Some, None, is_some}
use Rattle.std.specs.List.{list_all}
use Rattle.std.specs.Cmp.Derive.{both_true}
use Rattle.std.specs.Cmp.{first_so, second_so}
use Rattle.std.proofs.lemmas.List.Folds.{list_all_at}
use Rattle.std.specs.declared.cmp.Ordering.{Ordering}
use Rattle.std.specs.declared.cmp.Ordering.TheVariants.{Less, Equal, Greater}
use Rattle.std.specs.Ordering.{match_ordering}
use Rattle.std.specs.Map.{remove_entry}
use Rattle.std.proofs.lemmas.Bool.{leb-true, le-leb}
use Rattle.std.specs.BTreeMap.{insert_entry, is_at as at}
use Rattle.acc_base.specs.Tables.{Place, place_of, place_cmp}
use Rattle.acc_base.proofs.Places.{one_place, is_equal}
use Rattle.acc_store.specs.declared.writes.Write.{Write}
use Rattle.acc_store.specs.declared.writes.Write.TheVariants.{Row as Puts, Gone}
use Rattle.acc_store.specs.Contents.{Content}
use Rattle.acc_store.specs.Rows.{Entry, IsFit, AreFit, entry_at, has_entry, can_hold, has_room_at, has_room, KeepsRoom}

pub fit_insert : (p : Place) (v : Content) (es : List Entry) → IsFit p → AreFit es → AreFit (insert_entry place_cmp es p v)
fit_insert p v [] f a = (f, tt)
fit_insert p v (e ∷ es) f a = by (place_cmp p e.0) (fit_insert p v es f a.1)
  where
    by : (o : Ordering) → AreFit (insert_entry place_cmp es p v) →
        AreFit (match_ordering o ((p, v) ∷ e ∷ es) ((e.0, v) ∷ es) (e ∷ insert_entry place_cmp es p v))
    by Less ih = (f, a)
    by Equal ih = a
    by Greater ih = (a.0, ih)

pub fit_remove : (test : Place → Bool) (es : List Entry) → AreFit es → AreFit (remove_entry test es)
fit_remove test [] a = tt
fit_remove test (e ∷ es) a = by (test e.0) (fit_remove test es a.1)
  where
    by : (b : Bool) → AreFit (remove_entry test es) → AreFit (cond b es (e ∷ remove_entry test es))
    by true ih = a.1
    by false ih = (a.0, ih)

-- a change at one place keeps the room if it does so there
pub kept_by : (es fs : List Entry) (p : Place) (t : Content) → ((n : ℕ) → has_room_at es p n ≡ true → can_hold n (Some t) ≡ true) →
    ((q : Place) → entry_at q fs ≡ cond (at (place_cmp p) q) (Some t) (entry_at q es)) → KeepsRoom es fs
kept_by es fs p t wide new q n room = by (at (place_cmp p) q) refl (new q)
  where
    by : (b : Bool) → at (place_cmp p) q ≡ b → entry_at q fs ≡ cond b (Some t) (entry_at q es) → has_room_at fs q n ≡ true
    by true e f =
        let same : p ≡ q = one_place p q (is_equal (place_cmp p q) e) in
        ap (can_hold n) f ∙ wide n (ap (λ x. has_room_at es x n) same ∙ room)
    by false e f = ap (can_hold n) f ∙ room

-- a place without an entry has no room
pub none_absent : (es : List Entry) (p : Place) (n : ℕ) → has_entry es p ≡ false → has_room_at es p n ≡ true → ⊥
none_absent es p n absent room = by (entry_at p es) absent room
  where
    by : (o : Option Content) → is_some o ≡ false → can_hold n o ≡ true → ⊥
    by None g h = cc
    by (Some s) g h = cc

pub wide_absent : (es : List Entry) (p : Place) (t : Content) → has_entry es p ≡ false → (n : ℕ) → has_room_at es p n ≡ true →
    can_hold n (Some t) ≡ true
wide_absent es p t absent n room = absurd (none_absent es p n absent room)

-- the room of an entry that is there
pub room_there : (es : List Entry) (p : Place) (s : Content) (n : ℕ) → entry_at p es ≡ Some s → has_room_at es p n ≡ true → n ≤ s.room
room_there es p s n there room = leb-true n s.room (sym (ap (can_hold n) there) ∙ room)

pub wide_there : (es : List Entry) (p : Place) (s t : Content) → entry_at p es ≡ Some s → s.room ≤ t.room → (n : ℕ) →
    has_room_at es p n ≡ true → can_hold n (Some t) ≡ true
wide_there es p s t there more n room = let few = room_there es p s n there room in le-leb n t.room (omega arith)

pub room_kept : (es fs : List Entry) → KeepsRoom es fs → (w : Write) → has_room es w ≡ true → has_room fs w ≡ true
room_kept es fs kept (Puts r) h = kept (place_of r) (length r.cols) h
room_kept es fs kept (Gone t k) h = refl

pub rooms_kept : (es fs : List Entry) → KeepsRoom es fs → (ws : List Write) → list_all (has_room es) ws ≡ true →
    list_all (has_room fs) ws ≡ true
rooms_kept es fs kept [] h = refl
rooms_kept es fs kept (w ∷ ws) h =
    both_true (room_kept es fs kept w (first_so (has_room es w) (list_all (has_room es) ws) h))
    (rooms_kept es fs kept ws (second_so (has_room es w) (list_all (has_room es) ws) h))

pub passes_at : {X : Type 0} (p : X → Bool) (xs : List X) (i : ℕ) (x : X) → list_all p xs ≡ true → i < length xs → x ≡ get_or xs i x →
    p x ≡ true
passes_at p xs i x all within here = by (p x) refl
  where
    by : (b : Bool) → p x ≡ b → b ≡ true
    by true e = refl
    by false e = let f : list_all p xs ≡ false = list_all_at p xs i x within (ap p (sym here) ∙ e) in let g : true ≡ false = sym all ∙ f in
        cc
