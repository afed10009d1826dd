-- How transactions are kept: where the frame of one stands, and what is kept after a change of it.
use Rattle.std.proofs.Common.{◌≡◌, ℕ, zero, suc, ◌+◌, ◌-◌, ◌<◌, ◌≤◌, List, [], ◌∷◌, ◌++◌, length, map, Option, Some, None, refl, sym, ap}
use Rattle.std.proofs.Common.{subst, ◌∙◌, arith, set, get_or, remove, filter_map, IfSome, IsSome, IsSomeAnd, slice_get}
use Rattle.std.specs.List.{cons_option}
use Rattle.std.specs.Prelude.{option_and_then}
use Rattle.std.proofs.lemmas.List.{map-set, map-append, length-map}
use Rattle.std.proofs.lemmas.List.Elements.{filter_map-append}
use Rattle.std.proofs.lemmas.Option.{get_or_from_slice_get, slice_get_within}
use Rattle.acc_base.specs.declared.machines.Cause.{Cause}
use Rattle.acc_base.specs.declared.machines.Frame.{Frame}
use Rattle.acc_base.specs.declared.machines.Reply.{Reply}
use Rattle.acc_base.specs.declared.machines.Transaction.{Transaction}
use Rattle.acc_base.specs.declared.machines.Transaction.TheVariants.{Forward, Undoing, Ended}
use Rattle.acc_base.specs.Machine.{frame_in, transaction_at}
use Rattle.acc_plain.specs.declared.changes.Becomes.TheVariants.{Turns, Stands, Ends}
use Rattle.acc_plain.specs.declared.changes.Standing.{Standing}
use Rattle.acc_plain.specs.declared.transactions.Progress.{Progress}
use Rattle.acc_plain.specs.declared.transactions.Progress.TheVariants as progress
use Rattle.acc_plain.specs.Change.{turned_back, standing_at, left_by}
use Rattle.acc_plain.specs.Kept.{IsRising, IsAt, Holds, progress_of, joined, IsNumbered, AreNumbered, AreKept}
use Rattle.acc_plain.proofs.Turning.{at_place}

-- ---- what is kept of transactions tells them

joined_again : (ts : List Transaction) → joined (map progress_of ts) (filter_map frame_in ts) ≡ ts
joined_again [] = refl
joined_again (Forward f ∷ ts) = ap (λ (z : List Transaction). Forward f ∷ z) (joined_again ts)
joined_again (Undoing f c ∷ ts) = ap (λ (z : List Transaction). Undoing f c ∷ z) (joined_again ts)
joined_again (Ended reply ∷ ts) = ap (λ (z : List Transaction). Ended reply ∷ z) (joined_again ts)

-- these transactions are kept so
pub record KeepsThem (progresses : List Progress) (frames : List Frame) (ts : List Transaction) : Type 0 where
  pub kept : AreKept progresses frames
  pub are : joined progresses frames ≡ ts

pub keeps_them : (ps : List Progress) (fs : List Frame) (ts : List Transaction) → ps ≡ map progress_of ts → fs ≡ filter_map frame_in ts →
    AreNumbered 1 ts → KeepsThem ps fs ts
keeps_them ps fs ts p f n =
    let same : joined ps fs ≡ ts = (λ i. joined (p i) (f i)) ∙ joined_again ts in
    record {
      kept = record {
        progresses = ap (map progress_of) same ∙ sym p;
        frames = ap (filter_map frame_in) same ∙ sym f;
        numbered =
            subst (AreNumbered 1) (sym same) n;
      };
      are = same;
    }

-- ---- numbers

numbered_push : (n : ℕ) (xs : List Transaction) (y : Transaction) → AreNumbered n xs → IsNumbered (n + length xs) y →
    AreNumbered n (xs ++ y ∷ [])
numbered_push n [] y h k = let e : n + 0 ≡ n = omega arith in (subst (λ (m : ℕ). IsNumbered m y) e k, tt)
numbered_push n (x ∷ xs) y h k =
    let e : n + length (x ∷ xs) ≡ (n + 1) + length xs = omega arith in
    (h.0, numbered_push (n + 1) xs y h.1 (subst (λ (m : ℕ). IsNumbered m y) e k))

numbered_set : (n : ℕ) (xs : List Transaction) (i : ℕ) (y : Transaction) → AreNumbered n xs → IsNumbered (n + i) y →
    AreNumbered n (set xs i y)
numbered_set n [] i y h k = tt
numbered_set n (x ∷ xs) zero y h k = let e : n + 0 ≡ n = omega arith in (subst (λ (m : ℕ). IsNumbered m y) e k, h.1)
numbered_set n (x ∷ xs) (suc i) y h k =
    let e : n + suc i ≡ (n + 1) + i = omega arith in
    (h.0, numbered_set (n + 1) xs i y h.1 (subst (λ (m : ℕ). IsNumbered m y) e k))

numbered_get : (n : ℕ) (xs : List Transaction) (i : ℕ) (x : Transaction) → AreNumbered n xs → slice_get xs i ≡ Some x → IsNumbered (n + i) x
numbered_get n [] i x h e = absurd cc
numbered_get n (y ∷ xs) zero x h e =
    let same : y ≡ x = cc in
    let k : n ≡ n + 0 = omega arith in
    subst (λ (m : ℕ). IsNumbered m x) k (subst (IsNumbered n) same h.0)
numbered_get n (y ∷ xs) (suc i) x h e =
    let k : (n + 1) + i ≡ n + suc i = omega arith in
    subst (λ (m : ℕ). IsNumbered m x) k (numbered_get (n + 1) xs i x h.1 e)

from_on : (n : ℕ) (ts : List Transaction) → AreNumbered n ts → (i : ℕ) (d : Frame) → i < length (filter_map frame_in ts) →
    n ≤ (get_or (filter_map frame_in ts) i d).t
from_on n [] h i d lt = absurd (omega arith)
from_on n (x ∷ ts) h i d lt = by (frame_in x) h.0 i lt (from_on (n + 1) ts h.1)
  where
    by : (o : Option Frame) → IfSome o (λ f. f.t ≡ n) → (i : ℕ) → i < length (cons_option o (filter_map frame_in ts)) →
        ((i : ℕ) (d : Frame) → i < length (filter_map frame_in ts) → n + 1 ≤ (get_or (filter_map frame_in ts) i d).t) →
        n ≤ (get_or (cons_option o (filter_map frame_in ts)) i d).t
    by None k i lt rest = let m = rest i d lt in omega arith
    by (Some f) k zero lt rest = omega (arith, k)
    by (Some f) k (suc i) lt rest = let m = rest i d (omega arith) in omega arith

pub rising : (n : ℕ) (ts : List Transaction) → AreNumbered n ts → IsRising (filter_map frame_in ts)
rising n [] h i j d lt within = absurd (omega arith)
rising n (x ∷ ts) h i j d lt within = by (frame_in x) h.0 i j lt within (rising (n + 1) ts h.1)
  where
    by : (o : Option Frame) → IfSome o (λ f. f.t ≡ n) → (i j : ℕ) → i < j → j < length (cons_option o (filter_map frame_in ts)) →
        IsRising (filter_map frame_in ts) → (get_or (cons_option o (filter_map frame_in ts)) i d).t <
        (get_or (cons_option o (filter_map frame_in ts)) j d).t
    by None k i j lt within rest = rest i j d lt within
    by (Some f) k i zero lt within rest = absurd (omega arith)
    by (Some f) k zero (suc j) lt within rest = let m = from_on (n + 1) ts h.1 j d (omega arith) in omega (arith, k)
    by (Some f) k (suc i) (suc j) lt within rest = rest i j d (omega arith) (omega arith)

-- ---- the place of a frame

-- the frame of the transaction at place i stands at a place of its own
record IsKeptAt (ts : List Transaction) (i : ℕ) (f : Frame) : Type 0 where
  place : ℕ
  found : slice_get (filter_map frame_in ts) place ≡ Some f
  stays : (y : Transaction) (g : Frame) → frame_in y ≡ Some g → filter_map frame_in (set ts i y) ≡ set (filter_map frame_in ts) place g
  ends : (y : Transaction) → frame_in y ≡ None → filter_map frame_in (set ts i y) ≡ remove (filter_map frame_in ts) place

first_kept : (z : Transaction) (ts : List Transaction) (f : Frame) → frame_in z ≡ Some f → IsKeptAt (z ∷ ts) zero f
first_kept z ts f e = record {
  place = zero;
  found = ap (λ (o : Option Frame). slice_get (cons_option o (filter_map frame_in ts)) zero) e;
  stays = λ y g is. ap (λ (o : Option Frame). cons_option o (filter_map frame_in ts)) is ∙ sym
      (ap (λ (o : Option Frame). set (cons_option o (filter_map frame_in ts)) zero g) e);
  ends = λ y is. ap (λ (o : Option Frame). cons_option o (filter_map frame_in ts)) is ∙ sym
      (ap (λ (o : Option Frame). remove (cons_option o (filter_map frame_in ts)) zero) e);
}

more_kept : (z : Transaction) (ts : List Transaction) (i : ℕ) (f : Frame) (o : Option Frame) → frame_in z ≡ o → IsKeptAt ts i f →
    IsKeptAt (z ∷ ts) (suc i) f
more_kept z ts i f None e k = record {
  place = k.place;
  found = rw e k.found;
  stays = λ y g is. rw e (k.stays y g is);
  ends =
      λ y is. rw e (k.ends y is);
}
more_kept z ts i f (Some h) e k = record {
  place = suc k.place;
  found = rw e k.found;
  stays = λ y g is. rw e (ap (λ (fs : List Frame). h ∷ fs) (k.stays y g is));
  ends = λ y is. rw e (ap (λ (fs : List Frame). h ∷ fs) (k.ends y is));
}

kept_at : (ts : List Transaction) (i : ℕ) (x : Transaction) (f : Frame) → slice_get ts i ≡ Some x → frame_in x ≡ Some f → IsKeptAt ts i f
kept_at [] i x f got is = absurd cc
kept_at (z ∷ ts) zero x f got is = let same : z ≡ x = cc in first_kept z ts f (ap frame_in same ∙ is)
kept_at (z ∷ ts) (suc i) x f got is = more_kept z ts i f (frame_in z) refl (kept_at ts i x f got is)

-- no two frames have the same number
same_place : (fs : List Frame) (t i j : ℕ) → IsRising fs → IsAt fs t i → IsAt fs t j → i ≡ j
same_place [] t i j up a b = let k = a.within in absurd (omega arith)
same_place (f ∷ fs) t i j up a b =
    let first = a.number f in
    let second = b.number f in
    let no_less : i < j → ⊥ = λ l. let k = up i j f l b.within in omega arith in
    let no_more : j < i → ⊥ = λ l. let k = up j i f l a.within in omega arith in
    grind (arith, no_less, no_more)

set_as_is : {X : Type 0} (xs : List X) (i : ℕ) (x : X) → slice_get xs i ≡ Some x → set xs i x ≡ xs
set_as_is [] i x h = refl
set_as_is (y ∷ xs) zero x h = let same : y ≡ x = cc in ap (λ (z : _). z ∷ xs) (sym same)
set_as_is (y ∷ xs) (suc i) x h = ap (λ (zs : List _). y ∷ zs) (set_as_is xs i x h)

-- ---- an unfinished transaction

-- transaction t and its frame, which stands at this place
pub record IsOpen (ps : List Progress) (fs : List Frame) (t : ℕ) : Type 0 where
  pub x : Transaction
  pub f : Frame
  pub from_one : 0 < t
  pub is : transaction_at t (joined ps fs) ≡ Some x
  pub got : slice_get (joined ps fs) (t - 1) ≡ Some x
  pub frame : frame_in x ≡ Some f
  pub number : f.t ≡ t
  pub place : ℕ
  pub found : slice_get fs place ≡ Some f
  pub stays : (y : Transaction) (g : Frame) → frame_in y ≡ Some g → set fs place g ≡ filter_map frame_in (set (joined ps fs) (t - 1) y)
  pub ends : (y : Transaction) → frame_in y ≡ None → remove fs place ≡ filter_map frame_in (set (joined ps fs) (t - 1) y)

record HasFrame (t : ℕ) (ts : List Transaction) : Type 0 where
  x : Transaction
  f : Frame
  is : transaction_at t ts ≡ Some x
  frame : frame_in x ≡ Some f

frame_of : (t : ℕ) (ts : List Transaction) (o : Option Transaction) → transaction_at t ts ≡ o → IsSomeAnd o (λ x. IsSome (frame_in x)) →
    HasFrame t ts
frame_of t ts None e h = absurd h
frame_of t ts (Some x) e h = by (frame_in x) refl h
  where
    by : (o : Option Frame) → frame_in x ≡ o → IsSome o → HasFrame t ts
    by None is k = absurd cc
    by (Some f) is k = record { x = x; f = f; is = e; frame = is }

pub opened : (ps : List Progress) (fs : List Frame) (t : ℕ) → AreKept ps fs →
    IsSomeAnd (transaction_at t (joined ps fs)) (λ x. IsSome (frame_in x)) → IsOpen ps fs t
opened ps fs t kept h =
    let ts = joined ps fs in
    let k = frame_of t ts (transaction_at t ts) refl h in
    let x = k.x in
    let f = k.f in
    let place = at_place t ts x k.is in
    let at = kept_at ts (t - 1) x f place.1 k.frame in
    let numbered = numbered_get 1 ts (t - 1) x kept.numbered place.1 in
    let own : f.t ≡ 1 + (t - 1) = subst (λ (o : Option Frame). IfSome o (λ g. g.t ≡ 1 + (t - 1))) k.frame numbered in
    let from = place.0 in
    let same : 1 + (t - 1) ≡ t = omega arith in
    record {
      x = x;
      f = f;
      from_one = place.0;
      is = k.is;
      got = place.1;
      frame = k.frame;
      number = own ∙ same;
      place = at.place;
      found = subst (λ (zs : List Frame). slice_get zs at.place ≡ Some f) kept.frames at.found;
      stays = λ y g e. ap (λ (zs : List Frame). set zs at.place g) (sym kept.frames) ∙ sym (at.stays y g e);
      ends = λ y e. ap (λ (zs : List Frame). remove zs at.place) (sym kept.frames) ∙ sym (at.ends y e);
    }

module _ (ps : List Progress) (fs : List Frame) (t : ℕ) (kept : AreKept ps fs) (o : IsOpen ps fs t) where
  pub frames_rise : IsRising fs
  frames_rise = subst IsRising kept.frames (rising 1 (joined ps fs) kept.numbered)

  stands_at : IsAt fs t o.place
  stands_at = record {
    within = slice_get_within fs o.place o.f o.found;
    number =
        λ d. ap (λ (f : Frame). f.t) (get_or_from_slice_get fs o.place o.f d o.found) ∙ o.number;
  }

  pub is_held : Holds fs t
  is_held = record { place = o.place; at = stands_at }

  -- where the number is found, there is the frame
  pub place_is : (at : ℕ) → IsAt fs t at → at ≡ o.place
  place_is at h = same_place fs t at o.place frames_rise h stands_at

  pub found_at : (at : ℕ) → IsAt fs t at → slice_get fs at ≡ Some o.f
  found_at at h = subst (λ (i : ℕ). slice_get fs i ≡ Some o.f) (sym (place_is at h)) o.found

  -- ---- what is kept after a change of it

  after : (ps2 : List Progress) (fs2 : List Frame) (y : Transaction) → ps2 ≡ map progress_of (set (joined ps fs) (t - 1) y) →
      fs2 ≡ filter_map frame_in (set (joined ps fs) (t - 1) y) → IsNumbered t y → KeepsThem ps2 fs2 (set (joined ps fs) (t - 1) y)
  after ps2 fs2 y p f n =
      let from = o.from_one in
      let same : t ≡ 1 + (t - 1) = omega arith in
      keeps_them ps2 fs2 (set (joined ps fs) (t - 1) y) p f
      (numbered_set 1 (joined ps fs) (t - 1) y kept.numbered (subst (λ (m : ℕ). IsNumbered m y) same n))

  progress_set : (y : Transaction) (p : Progress) → progress_of y ≡ p → set ps (t - 1) p ≡ map progress_of (set (joined ps fs) (t - 1) y)
  progress_set y p is =
      (λ i. set (sym kept.progresses i) (t - 1) (sym is i)) ∙ sym (map-set progress_of (joined ps fs) (t - 1) y)

  pub turns_kept : (at : ℕ) (c : Cause) (fs2 : List Frame) (x : Transaction) → IsAt fs t at →
      ((f : Frame) → slice_get fs at ≡ Some f → fs2 ≡ set fs at (turned_back f)) → x ≡ o.x →
      KeepsThem (set ps (t - 1) (progress.Undoing c)) fs2 (set (joined ps fs) (t - 1) (left_by (Turns c) x))
  turns_kept at c fs2 x h turned is =
      let frame : frame_in (left_by (Turns c) x) ≡ Some (turned_back o.f) = turned_frame x c o.f (ap frame_in is ∙ o.frame) in
      let frames : fs2 ≡ set fs o.place (turned_back o.f) =
      turned o.f (found_at at h) ∙ ap (λ (i : ℕ). set fs i (turned_back o.f)) (place_is at h) in
      after (set ps (t - 1) (progress.Undoing c)) fs2 (left_by (Turns c) x)
      (progress_set (left_by (Turns c) x) (progress.Undoing c) (turned_progress x c o.f (ap frame_in is ∙ o.frame)))
      (frames ∙ o.stays (left_by (Turns c) x) (turned_back o.f) frame)
      (subst (λ (z : Option Frame). IfSome z (λ f. f.t ≡ t)) (sym frame) o.number)
    where
      turned_frame : (x : Transaction) (c : Cause) (f : Frame) → frame_in x ≡ Some f → frame_in (left_by (Turns c) x) ≡ Some (turned_back f)
      turned_frame (Forward g) c f e = let k : g ≡ f = cc in ap (λ (z : Frame). Some (turned_back z)) k
      turned_frame (Undoing g b) c f e = let k : g ≡ f = cc in ap (λ (z : Frame). Some (turned_back z)) k
      turned_frame (Ended reply) c f e = absurd cc

      turned_progress : (x : Transaction) (c : Cause) (f : Frame) → frame_in x ≡ Some f →
          progress_of (left_by (Turns c) x) ≡ progress.Undoing c
      turned_progress (Forward g) c f e = refl
      turned_progress (Undoing g b) c f e = refl
      turned_progress (Ended reply) c f e = absurd cc

  pub stands_kept : (at : ℕ) (s : Standing) (fs2 : List Frame) (x : Transaction) → IsAt fs t at →
      ((f : Frame) → slice_get fs at ≡ Some f → fs2 ≡ set fs at (standing_at s f)) → x ≡ o.x →
      KeepsThem ps fs2 (set (joined ps fs) (t - 1) (left_by (Stands s) x))
  stands_kept at s fs2 x h stood is =
      let frame : frame_in (left_by (Stands s) x) ≡ Some (standing_at s o.f) = stood_frame x s o.f (ap frame_in is ∙ o.frame) in
      let frames : fs2 ≡ set fs o.place (standing_at s o.f) =
      stood o.f (found_at at h) ∙ ap (λ (i : ℕ). set fs i (standing_at s o.f)) (place_is at h) in
      let got : slice_get (joined ps fs) (t - 1) ≡ Some x = o.got ∙ ap (λ (z : Transaction). Some z) (sym is) in
      after ps fs2 (left_by (Stands s) x)
      (sym kept.progresses ∙ ap (map progress_of) (sym (set_as_is (joined ps fs) (t - 1) x got)) ∙ map-set progress_of (joined ps fs)
      (t - 1) x ∙ ap (set (map progress_of (joined ps fs)) (t - 1)) (stood_progress x s o.f (ap frame_in is ∙ o.frame)) ∙ sym
      (map-set progress_of (joined ps fs) (t - 1) (left_by (Stands s) x)))
      (frames ∙ o.stays (left_by (Stands s) x) (standing_at s o.f) frame)
      (subst (λ (z : Option Frame). IfSome z (λ f. f.t ≡ t)) (sym frame) o.number)
    where
      stood_frame : (x : Transaction) (s : Standing) (f : Frame) → frame_in x ≡ Some f →
          frame_in (left_by (Stands s) x) ≡ Some (standing_at s f)
      stood_frame (Forward g) s f e = let k : g ≡ f = cc in ap (λ (z : Frame). Some (standing_at s z)) k
      stood_frame (Undoing g b) s f e = let k : g ≡ f = cc in ap (λ (z : Frame). Some (standing_at s z)) k
      stood_frame (Ended reply) s f e = absurd cc

      stood_progress : (x : Transaction) (s : Standing) (f : Frame) → frame_in x ≡ Some f →
          progress_of x ≡ progress_of (left_by (Stands s) x)
      stood_progress (Forward g) s f e = refl
      stood_progress (Undoing g b) s f e = refl
      stood_progress (Ended reply) s f e = absurd cc

  pub ends_kept : (at : ℕ) (reply : Reply) (fs2 : List Frame) (x : Transaction) → IsAt fs t at → fs2 ≡ remove fs at → x ≡ o.x →
      KeepsThem (set ps (t - 1) (progress.Ended reply)) fs2 (set (joined ps fs) (t - 1) (left_by (Ends reply) x))
  ends_kept at reply fs2 x h removed is =
      subst (λ (z : Transaction). KeepsThem (set ps (t - 1) (progress.Ended reply)) fs2 (set (joined ps fs) (t - 1) z)) (sym (left_over x))
      (after (set ps (t - 1) (progress.Ended reply)) fs2 (Ended reply) (progress_set (Ended reply) (progress.Ended reply) refl)
      (removed ∙ ap (remove fs) (place_is at h) ∙ o.ends (Ended reply) refl) tt)
    where
      left_over : (z : Transaction) → left_by (Ends reply) z ≡ Ended reply
      left_over (Forward f) = refl
      left_over (Undoing f c) = refl
      left_over (Ended before) = refl

-- what is read of an unfinished transaction
pub frame_read : (ps : List Progress) (fs : List Frame) (t : ℕ) (kept : AreKept ps fs) (o : IsOpen ps fs t) (at : ℕ) (f : Frame) →
    IsAt fs t at → f ≡ get_or fs at f → option_and_then frame_in (transaction_at t (joined ps fs)) ≡ Some f
frame_read ps fs t kept o at f h read =
    ap (option_and_then frame_in) o.is ∙ o.frame ∙ ap (λ (z : Frame). Some z)
    (sym (get_or_from_slice_get fs at o.f f (found_at ps fs t kept o at h)) ∙ sym read)

-- it is one of those that are kept
pub number_within : (ps : List Progress) (fs : List Frame) (t : ℕ) (kept : AreKept ps fs) (o : IsOpen ps fs t) → t ≤ length ps
number_within ps fs t kept o =
    let within = slice_get_within (joined ps fs) (t - 1) o.x o.got in
    let from = o.from_one in
    let long = ap length kept.progresses in
    let mapped = length-map (joined ps fs) progress_of in
    omega arith

-- a transaction that begins
pub begins_kept : (ps : List Progress) (fs : List Frame) (f : Frame) → AreKept ps fs → f.t ≡ length (joined ps fs) + 1 →
    KeepsThem (ps ++ progress.Forward ∷ []) (fs ++ f ∷ []) (joined ps fs ++ Forward f ∷ [])
begins_kept ps fs f kept number =
    let ts = joined ps fs in
    let own : f.t ≡ 1 + length ts = omega (arith, number) in
    keeps_them (ps ++ progress.Forward ∷ []) (fs ++ f ∷ []) (ts ++ Forward f ∷ [])
    (ap (λ (qs : List Progress). qs ++ progress.Forward ∷ []) (sym kept.progresses) ∙ sym (map-append progress_of ts (Forward f ∷ [])))
    (ap (λ (gs : List Frame). gs ++ f ∷ []) (sym kept.frames) ∙ sym (filter_map-append frame_in ts (Forward f ∷ [])))
    (numbered_push 1 ts (Forward f) kept.numbered own)

-- the transaction of that number is the one that is open
pub same_open : (ps : List Progress) (fs : List Frame) (t : ℕ) (o : IsOpen ps fs t) (x : Transaction) →
    transaction_at t (joined ps fs) ≡ Some x → x ≡ o.x
same_open ps fs t o x at = let e : Some x ≡ Some o.x = sym at ∙ o.is in cc
