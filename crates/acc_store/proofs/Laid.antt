-- Runs one behind the other: the run where a place belongs, and what a change of it is to all entries.
use Rattle.std.proofs.Common.{◌≡◌, suc, ◌+◌, ◌≤◌, Bool, true, false, cond, not, ◌&&◌, List, [], ◌∷◌, ◌++◌, length, ap, sym, ◌∙◌, refl}
use Rattle.std.proofs.Common.{subst, Option, Some, None}
use Rattle.std.proofs.Common.{append_assoc, append-nil, arith}
use Rattle.std.specs.Prelude.{filter, MatchOption, is_some, Result, OnErr, OnOk}
use Rattle.std.specs.Prelude.{Ok, Err}
use Rattle.std.specs.BTreeMap.Range.{range_contains}
use Rattle.std.specs.declared.ops.Bound.TheVariants.{Included}
use Rattle.std.proofs.lemmas.List.Elements.{filter-append}
use Rattle.std.proofs.lemmas.Map.{length-set_value}
use Rattle.std.specs.List.{AllByRecursion}
use Rattle.std.specs.List.Sorted.{IsStrictlySortedBy}
use Rattle.std.specs.declared.cmp.Ordering.{Ordering}
use Rattle.std.specs.declared.cmp.Ordering.TheVariants.{Less, Equal, Greater}
use Rattle.std.specs.Ordering.{is_eq, is_gt, is_lt, is_le, match_ordering, ordering_reverse}
use Rattle.std.specs.Cmp.{IsTotalOrder}
use Rattle.std.specs.Cmp.{tied_itself, tied_back}
use Rattle.std.specs.Map.{keys_of, lookup, remove_entry, set_value}
use Rattle.std.specs.BTreeMap.{BTreeMap, insert_entry, is_at as at}
use Rattle.acc_store.specs.Runs.{RunOf, seen, joined, AreBelow, AreFrom, ArePast, IsLaid, IsRunFor}

-- ---- all of two lists of entries

module _ {K X : Type 0} (P : K → Type 0) where
  pub all_both : (es fs : List (K × X)) → AllByRecursion P (keys_of es) → AllByRecursion P (keys_of fs) → AllByRecursion P
      (keys_of (es ++ fs))
  all_both [] fs a b = b
  all_both (e ∷ es) fs a b = (a.0, all_both es fs a.1 b)

  pub all_first : (es fs : List (K × X)) → AllByRecursion P (keys_of (es ++ fs)) → AllByRecursion P (keys_of es)
  all_first [] fs a = tt
  all_first (e ∷ es) fs a = (a.0, all_first es fs a.1)

  pub all_last : (es fs : List (K × X)) → AllByRecursion P (keys_of (es ++ fs)) → AllByRecursion P (keys_of fs)
  all_last [] fs a = a
  all_last (e ∷ es) fs a = all_last es fs a.1

  pub all_weaker : (Q : K → Type 0) → ((k : K) → P k → Q k) → (es : List (K × X)) → AllByRecursion P (keys_of es) → AllByRecursion Q
      (keys_of es)
  all_weaker Q h [] a = tt
  all_weaker Q h (e ∷ es) a = (h e.0 a.0, all_weaker Q h es a.1)

  pub all_kept : (test : K × X → Bool) (es : List (K × X)) → AllByRecursion P (keys_of es) → AllByRecursion P (keys_of (filter test es))
  all_kept test [] a = tt
  all_kept test (e ∷ es) a = by (test e) (all_kept test es a.1)
    where
      by : (b : Bool) → AllByRecursion P (keys_of (filter test es)) → AllByRecursion P
          (keys_of (cond b (e ∷ filter test es) (filter test es)))
      by true ih = (a.0, ih)
      by false ih = ih

  pub all_inserted : (cmp : K → K → Ordering) (k : K) (v : X) → P k → (es : List (K × X)) → AllByRecursion P (keys_of es) → AllByRecursion P
      (keys_of (insert_entry cmp es k v))
  all_inserted cmp k v p [] a = (p, tt)
  all_inserted cmp k v p (e ∷ es) a = by (cmp k e.0) (all_inserted cmp k v p es a.1)
    where
      by : (o : Ordering) → AllByRecursion P (keys_of (insert_entry cmp es k v)) →
          AllByRecursion P (keys_of (match_ordering o ((k, v) ∷ e ∷ es) ((e.0, v) ∷ es) (e ∷ insert_entry cmp es k v)))
      by Less ih = (p, a)
      by Equal ih = a
      by Greater ih = (a.0, ih)

  pub all_removed : (test : K → Bool) (es : List (K × X)) → AllByRecursion P (keys_of es) → AllByRecursion P
      (keys_of (remove_entry test es))
  all_removed test [] a = tt
  all_removed test (e ∷ es) a = by (test e.0) (all_removed test es a.1)
    where
      by : (b : Bool) → AllByRecursion P (keys_of (remove_entry test es)) → AllByRecursion P
          (keys_of (cond b es (e ∷ remove_entry test es)))
      by true ih = a.1
      by false ih = (a.0, ih)

  pub all_set : (test : K → Bool) (es : List (K × X)) (w : X) → AllByRecursion P (keys_of es) → AllByRecursion P
      (keys_of (set_value test es w))
  all_set test [] w a = tt
  all_set test (e ∷ es) w a = by (test e.0) (all_set test es w a.1)
    where
      by : (b : Bool) → AllByRecursion P (keys_of (set_value test es w)) → AllByRecursion P
          (keys_of (cond b ((e.0, w) ∷ es) (e ∷ set_value test es w)))
      by true ih = a
      by false ih = (a.0, ih)

-- ---- maps of maps, seen as runs

module _ {K X : Type 0} where
  pub seen_set : (test : K → Bool) (rs : List (K × BTreeMap K X)) (w : BTreeMap K X) → seen (set_value test rs w) ≡ set_value test (seen rs)
      w.entries
  seen_set test [] w = refl
  seen_set test (r ∷ rs) w = by (test r.0) (seen_set test rs w)
    where
      by : (b : Bool) → seen (set_value test rs w) ≡ set_value test (seen rs) w.entries →
          seen (cond b ((r.0, w) ∷ rs) (r ∷ set_value test rs w)) ≡ cond b ((r.0, w.entries) ∷ seen rs)
          ((r.0, r.1.entries) ∷ set_value test (seen rs) w.entries)
      by true ih = refl
      by false ih = ap (λ l. (r.0, r.1.entries) ∷ l) ih

  pub seen_insert : (cmp : K → K → Ordering) (rs : List (K × BTreeMap K X)) (k : K) (w : BTreeMap K X) → seen (insert_entry cmp rs k w) ≡
      insert_entry cmp (seen rs) k w.entries
  seen_insert cmp [] k w = refl
  seen_insert cmp (r ∷ rs) k w = by (cmp k r.0) (seen_insert cmp rs k w)
    where
      by : (o : Ordering) → seen (insert_entry cmp rs k w) ≡ insert_entry cmp (seen rs) k w.entries →
          seen (match_ordering o ((k, w) ∷ r ∷ rs) ((r.0, w) ∷ rs) (r ∷ insert_entry cmp rs k w)) ≡
          match_ordering o ((k, w.entries) ∷ (r.0, r.1.entries) ∷ seen rs) ((r.0, w.entries) ∷ seen rs)
          ((r.0, r.1.entries) ∷ insert_entry cmp (seen rs) k w.entries)
      by Less ih = refl
      by Equal ih = refl
      by Greater ih = ap (λ l. (r.0, r.1.entries) ∷ l) ih

  pub seen_remove : (test : K → Bool) (rs : List (K × BTreeMap K X)) → seen (remove_entry test rs) ≡ remove_entry test (seen rs)
  seen_remove test [] = refl
  seen_remove test (r ∷ rs) = by (test r.0) (seen_remove test rs)
    where
      by : (b : Bool) → seen (remove_entry test rs) ≡ remove_entry test (seen rs) →
          seen (cond b rs (r ∷ remove_entry test rs)) ≡ cond b (seen rs) ((r.0, r.1.entries) ∷ remove_entry test (seen rs))
      by true ih = refl
      by false ih = ap (λ l. (r.0, r.1.entries) ∷ l) ih

  pub seen_append : (rs ss : List (K × BTreeMap K X)) → seen (rs ++ ss) ≡ seen rs ++ seen ss
  seen_append [] ss = refl
  seen_append (r ∷ rs) ss = ap (λ l. (r.0, r.1.entries) ∷ l) (seen_append rs ss)

  pub seen_filter : (test : K → Bool) (rs : List (K × BTreeMap K X)) → seen (filter (λ r. test r.0) rs) ≡ filter (λ r. test r.0) (seen rs)
  seen_filter test [] = refl
  seen_filter test (r ∷ rs) = by (test r.0) (seen_filter test rs)
    where
      by : (b : Bool) → seen (filter (λ r. test r.0) rs) ≡ filter (λ r. test r.0) (seen rs) →
          seen (cond b (r ∷ filter (λ r. test r.0) rs) (filter (λ r. test r.0) rs)) ≡ cond b
          ((r.0, r.1.entries) ∷ filter (λ r. test r.0) (seen rs)) (filter (λ r. test r.0) (seen rs))
      by true ih = ap (λ l. (r.0, r.1.entries) ∷ l) ih
      by false ih = ih

  pub seen_keys : (P : K → Type 0) (rs : List (K × BTreeMap K X)) → AllByRecursion P (keys_of rs) → AllByRecursion P (keys_of (seen rs))
  seen_keys P [] a = tt
  seen_keys P (r ∷ rs) a = (a.0, seen_keys P rs a.1)

  pub seen_sorted : (cmp : K → K → Ordering) (rs : List (K × BTreeMap K X)) → IsStrictlySortedBy cmp (keys_of rs) → IsStrictlySortedBy cmp
      (keys_of (seen rs))
  unfolding IsStrictlySortedBy
  seen_sorted cmp [] s = tt
  seen_sorted cmp (r ∷ rs) s = (seen_keys (λ q. cmp r.0 q ≡ Less) rs s.0, seen_sorted cmp rs s.1)

  -- a run that a look-up finds
  pub seen_found : (test : K → Bool) (rs : List (K × BTreeMap K X)) (m : BTreeMap K X) → lookup test rs ≡ Some m → lookup test (seen rs) ≡
      Some m.entries
  seen_found test [] m h = cc
  seen_found test (r ∷ rs) m h = by (test r.0) h (seen_found test rs m)
    where
      by : (b : Bool) → cond b (Some r.1) (lookup test rs) ≡ Some m → (lookup test rs ≡ Some m → lookup test (seen rs) ≡ Some m.entries) →
          cond b (Some r.1.entries) (lookup test (seen rs)) ≡ Some m.entries
      by true h ih = let e : r.1 ≡ m = cc in ap (λ x. Some x.entries) e
      by false h ih = ih h

  pub seen_none : (test : K → Bool) (rs : List (K × BTreeMap K X)) → lookup test rs ≡ None → lookup test (seen rs) ≡ None
  seen_none test [] h = refl
  seen_none test (r ∷ rs) h = by (test r.0) h (seen_none test rs)
    where
      by : (b : Bool) → cond b (Some r.1) (lookup test rs) ≡ None → (lookup test rs ≡ None → lookup test (seen rs) ≡ None) →
          cond b (Some r.1.entries) (lookup test (seen rs)) ≡ None
      by true h ih = cc
      by false h ih = ih h

  pub joined_append : (rs ss : List (RunOf K X)) → joined (rs ++ ss) ≡ joined rs ++ joined ss
  joined_append [] ss = refl
  joined_append (r ∷ rs) ss = ap (λ l. r.1 ++ l) (joined_append rs ss) ∙ sym (append_assoc r.1 (joined rs) (joined ss))

-- ---- the order of keys

module _ {K : Type 0} {cmp : K → K → Ordering} (o : IsTotalOrder cmp) where
  pub turned : (x y : K) → cmp x y ≡ Less → cmp y x ≡ Greater
  turned x y h = o.antisymm y x ∙ ap ordering_reverse h

  -- from x ≤ y and y < z
  pub le_lt : (x y z : K) → is_gt (cmp x y) ≡ false → cmp y z ≡ Less → cmp x z ≡ Less
  le_lt x y z h g = by (cmp x y) refl h
    where
      by : (r : Ordering) → cmp x y ≡ r → is_gt r ≡ false → cmp x z ≡ Less
      by Less e h = o.trans x y z e g
      by Equal e h = o.congr x y z e ∙ g
      by Greater e h = cc

  -- from x < y and y ≤ z
  pub lt_le : (x y z : K) → cmp x y ≡ Less → is_gt (cmp y z) ≡ false → cmp x z ≡ Less
  lt_le x y z g h = by (cmp y z) refl h
    where
      by : (r : Ordering) → cmp y z ≡ r → is_gt r ≡ false → cmp x z ≡ Less
      by Less e h = o.trans x y z g e
      by Equal e h = back (cmp x z) refl
        where
          same : cmp y x ≡ cmp z x
          same = o.congr y z x e

          back : (r : Ordering) → cmp x z ≡ r → cmp x z ≡ Less
          back r f = o.antisymm x z ∙ ap ordering_reverse (sym same ∙ turned x y g)
      by Greater e h = cc

  below_missed : (p x : K) → cmp x p ≡ Less → is_eq (cmp p x) ≡ false
  below_missed p x h = ap is_eq (turned x p h)

  pub not_past : (x y : K) → cmp y x ≡ Less → is_lt (cmp x y) ≡ false
  not_past x y h = ap is_lt (turned y x h)

  pub le_le : (x y z : K) → is_gt (cmp x y) ≡ false → is_gt (cmp y z) ≡ false → is_gt (cmp x z) ≡ false
  le_le x y z h g = by (cmp x y) refl h
    where
      by : (r : Ordering) → cmp x y ≡ r → is_gt r ≡ false → is_gt (cmp x z) ≡ false
      by Less e h = ap is_gt (lt_le x y z e g)
      by Equal e h = ap is_gt (o.congr x y z e) ∙ g
      by Greater e h = cc

-- ---- an entry list in three parts, of which the middle one is where a place belongs

module _ {K X : Type 0} {cmp : K → K → Ordering} (o : IsTotalOrder cmp) (p : K) where
  pub past_missed : (es : List (K × X)) → ArePast cmp p es → lookup (at (cmp p)) es ≡ None
  past_missed [] a = refl
  past_missed (e ∷ es) a = ap (λ c. cond (is_eq c) (Some e.1) (lookup (at (cmp p)) es)) a.0 ∙ past_missed es a.1

  pub past_inserted : (v : X) (es : List (K × X)) → ArePast cmp p es → insert_entry cmp es p v ≡ (p, v) ∷ es
  past_inserted v [] a = refl
  past_inserted v (e ∷ es) a = ap (λ c. match_ordering c ((p, v) ∷ e ∷ es) ((e.0, v) ∷ es) (e ∷ insert_entry cmp es p v)) a.0

  past_removed : (es : List (K × X)) → ArePast cmp p es → remove_entry (at (cmp p)) es ≡ es
  past_removed [] a = refl
  past_removed (e ∷ es) a = ap (λ c. cond (is_eq c) es (e ∷ remove_entry (at (cmp p)) es)) a.0 ∙ ap (λ l. e ∷ l) (past_removed es a.1)

  past_set : (w : X) (es : List (K × X)) → ArePast cmp p es → set_value (at (cmp p)) es w ≡ es
  past_set w [] a = refl
  past_set w (e ∷ es) a = ap (λ c. cond (is_eq c) ((e.0, w) ∷ es) (e ∷ set_value (at (cmp p)) es w)) a.0 ∙ ap (λ l. e ∷ l)
      (past_set w es a.1)

  -- before what is past it
  module _ (back : List (K × X)) (past : ArePast cmp p back) where
    lookup_before : (m : List (K × X)) → lookup (at (cmp p)) (m ++ back) ≡ lookup (at (cmp p)) m
    lookup_before [] = past_missed back past
    lookup_before (e ∷ m) = ap (cond (is_eq (cmp p e.0)) (Some e.1)) (lookup_before m)

    insert_before : (v : X) (m : List (K × X)) → insert_entry cmp (m ++ back) p v ≡ insert_entry cmp m p v ++ back
    insert_before v [] = past_inserted v back past
    insert_before v (e ∷ m) = by (cmp p e.0) (insert_before v m)
      where
        by : (c : Ordering) → insert_entry cmp (m ++ back) p v ≡ insert_entry cmp m p v ++ back →
            match_ordering c ((p, v) ∷ e ∷ (m ++ back)) ((e.0, v) ∷ (m ++ back)) (e ∷ insert_entry cmp (m ++ back) p v) ≡
            match_ordering c ((p, v) ∷ e ∷ m) ((e.0, v) ∷ m) (e ∷ insert_entry cmp m p v) ++ back
        by Less ih = refl
        by Equal ih = refl
        by Greater ih = ap (λ l. e ∷ l) ih

    remove_before : (m : List (K × X)) → remove_entry (at (cmp p)) (m ++ back) ≡ remove_entry (at (cmp p)) m ++ back
    remove_before [] = past_removed back past
    remove_before (e ∷ m) = by (is_eq (cmp p e.0)) (remove_before m)
      where
        by : (b : Bool) → remove_entry (at (cmp p)) (m ++ back) ≡ remove_entry (at (cmp p)) m ++ back →
            cond b (m ++ back) (e ∷ remove_entry (at (cmp p)) (m ++ back)) ≡ cond b m (e ∷ remove_entry (at (cmp p)) m) ++ back
        by true ih = refl
        by false ih = ap (λ l. e ∷ l) ih

    set_before : (w : X) (m : List (K × X)) → set_value (at (cmp p)) (m ++ back) w ≡ set_value (at (cmp p)) m w ++ back
    set_before w [] = past_set w back past
    set_before w (e ∷ m) = by (is_eq (cmp p e.0)) (set_before w m)
      where
        by : (b : Bool) → set_value (at (cmp p)) (m ++ back) w ≡ set_value (at (cmp p)) m w ++ back →
            cond b ((e.0, w) ∷ (m ++ back)) (e ∷ set_value (at (cmp p)) (m ++ back) w) ≡ cond b ((e.0, w) ∷ m)
            (e ∷ set_value (at (cmp p)) m w) ++ back
        by true ih = refl
        by false ih = ap (λ l. e ∷ l) ih

  -- behind what is below it
  lookup_behind : (front es : List (K × X)) → AreBelow cmp p front → lookup (at (cmp p)) (front ++ es) ≡ lookup (at (cmp p)) es
  lookup_behind [] es a = refl
  lookup_behind (e ∷ front) es a = ap (λ b. cond b (Some e.1) (lookup (at (cmp p)) (front ++ es))) (below_missed o p e.0 a.0) ∙
      lookup_behind front es a.1

  pub insert_behind : (v : X) (front es : List (K × X)) → AreBelow cmp p front → insert_entry cmp (front ++ es) p v ≡ front ++ insert_entry
      cmp es p v
  insert_behind v [] es a = refl
  insert_behind v (e ∷ front) es a =
      ap (λ c. match_ordering c ((p, v) ∷ e ∷ (front ++ es)) ((e.0, v) ∷ (front ++ es)) (e ∷ insert_entry cmp (front ++ es) p v))
      (turned o e.0 p a.0) ∙
      ap (λ l. e ∷ l) (insert_behind v front es a.1)

  pub remove_behind : (front es : List (K × X)) → AreBelow cmp p front → remove_entry (at (cmp p)) (front ++ es) ≡ front ++ remove_entry
      (at (cmp p)) es
  remove_behind [] es a = refl
  remove_behind (e ∷ front) es a = ap (λ b. cond b (front ++ es) (e ∷ remove_entry (at (cmp p)) (front ++ es))) (below_missed o p e.0 a.0) ∙
      ap (λ l. e ∷ l) (remove_behind front es a.1)

  pub set_behind : (w : X) (front es : List (K × X)) → AreBelow cmp p front → set_value (at (cmp p)) (front ++ es) w ≡ front ++ set_value
      (at (cmp p)) es w
  set_behind w [] es a = refl
  set_behind w (e ∷ front) es a = ap (λ b. cond b ((e.0, w) ∷ (front ++ es)) (e ∷ set_value (at (cmp p)) (front ++ es) w))
      (below_missed o p e.0 a.0) ∙ ap (λ l. e ∷ l) (set_behind w front es a.1)

  -- es is front, m and back, where p belongs into m
  pub record Holds (front m back es : List (K × X)) : Type 0 where
    pub parts : es ≡ front ++ (m ++ back)
    pub before : AreBelow cmp p front
    pub past : ArePast cmp p back

  module _ (front m back es : List (K × X)) (h : Holds front m back es) where
    pub lookup_held : lookup (at (cmp p)) es ≡ lookup (at (cmp p)) m
    lookup_held = ap (lookup (at (cmp p))) h.parts ∙ lookup_behind front (m ++ back) h.before ∙ lookup_before back h.past m

    pub insert_held : (v : X) → insert_entry cmp es p v ≡ front ++ (insert_entry cmp m p v ++ back)
    insert_held v = ap (λ l. insert_entry cmp l p v) h.parts ∙ insert_behind v front (m ++ back) h.before ∙ ap (λ l. front ++ l)
        (insert_before back h.past v m)

    pub remove_held : remove_entry (at (cmp p)) es ≡ front ++ (remove_entry (at (cmp p)) m ++ back)
    remove_held = ap (remove_entry (at (cmp p))) h.parts ∙ remove_behind front (m ++ back) h.before ∙ ap (λ l. front ++ l)
        (remove_before back h.past m)

    pub set_held : (w : X) → set_value (at (cmp p)) es w ≡ front ++ (set_value (at (cmp p)) m w ++ back)
    set_held w = ap (λ l. set_value (at (cmp p)) l w) h.parts ∙ set_behind w front (m ++ back) h.before ∙ ap (λ l. front ++ l)
        (set_before back h.past w m)

-- ---- runs

module _ {K X : Type 0} {cmp : K → K → Ordering} (o : IsTotalOrder cmp) where
  -- entries of runs with later keys
  pub runs_past : (p : K) (es : List (K × X)) (rs : List (RunOf K X)) → IsLaid cmp es rs → ArePast cmp p rs → ArePast cmp p (joined rs)
  runs_past p es [] laid a = tt
  runs_past p es (r ∷ rs) laid a =
      all_both (λ q. cmp p q ≡ Less) r.1 (joined rs)
      (all_weaker (λ q. is_gt (cmp r.0 q) ≡ false) (λ q. cmp p q ≡ Less) (λ q g. lt_le o p r.0 q a.0 g) r.1 laid.1)
      (runs_past p (es ++ r.1) rs laid.2 a.1)

  -- the runs behind some others
  pub laid_rest : (es : List (K × X)) (rs ss : List (RunOf K X)) → IsLaid cmp es (rs ++ ss) → IsLaid cmp (es ++ joined rs) ss
  laid_rest es [] ss laid = subst (λ l. IsLaid cmp l ss) (sym (append-nil es)) laid
  laid_rest es (r ∷ rs) ss laid = subst (λ l. IsLaid cmp l ss) (append_assoc es r.1 (joined rs)) (laid_rest (es ++ r.1) rs ss laid.2)

  -- the first ones
  pub laid_both : (es : List (K × X)) (rs ss ts : List (RunOf K X)) → IsLaid cmp es (rs ++ ss) → IsLaid cmp (es ++ joined rs) ts → IsLaid
      cmp es (rs ++ ts)
  laid_both es [] ss ts laid more = subst (λ l. IsLaid cmp l ts) (append-nil es) more
  laid_both es (r ∷ rs) ss ts laid more =
      (laid.0, laid.1, laid_both (es ++ r.1) rs ss ts laid.2 (subst (λ l. IsLaid cmp l ts) (sym (append_assoc es r.1 (joined rs))) more))

  -- other entries before runs past p, where each is below what the first ones were below, if that is past p
  pub laid_other : (p : K) (es fs : List (K × X)) (rs : List (RunOf K X)) →
      ((q : K) → cmp p q ≡ Less → AreBelow cmp q es → AreBelow cmp q fs) →
      ArePast cmp p rs → IsLaid cmp es rs → IsLaid cmp fs rs
  laid_other p es fs [] h a laid = tt
  laid_other p es fs (r ∷ rs) h a laid = (
    h r.0 a.0 laid.0,
    laid.1,
    laid_other p (es ++ r.1) (fs ++ r.1) rs
        (λ q g b. all_both (λ x. cmp x q ≡ Less) fs r.1 (h q g (all_first (λ x. cmp x q ≡ Less) es r.1 b))
        (all_last (λ x. cmp x q ≡ Less) es r.1 b))
        a.1 laid.2,
  )

  module _ (p : K) (rs : List (RunOf K X)) (k : K) (m : List (K × X)) (laid : IsLaid cmp [] rs) (r : IsRunFor cmp p rs k m) where
    here : IsLaid cmp (joined r.front) ((k, m) ∷ r.back)
    here = laid_rest [] r.front ((k, m) ∷ r.back) (subst (IsLaid cmp []) r.parts laid)

    -- the entries around it
    pub run_holds : Holds o p (joined r.front) m (joined r.back) (joined rs)
    run_holds = record {
      parts = ap joined r.parts ∙ joined_append r.front ((k, m) ∷ r.back);
      before = all_weaker (λ q. cmp q k ≡ Less) (λ q. cmp q p ≡ Less) (λ q g. lt_le o q k p g r.from) (joined r.front) here.0;
      past = runs_past p (joined r.front ++ m) r.back here.2 r.past;
    }

    -- with other entries in it
    pub run_set : (w : List (K × X)) → set_value (at (cmp k)) rs w ≡ r.front ++ (k, w) ∷ r.back
    run_set w =
        ap (λ l. set_value (at (cmp k)) l w) r.parts ∙ set_behind o k w r.front ((k, m) ∷ r.back) r.before ∙
        ap (λ c. r.front ++ cond (is_eq c) ((k, w) ∷ r.back) ((k, m) ∷ set_value (at (cmp k)) r.back w)) (tied_itself o k)

    pub run_removed : remove_entry (at (cmp k)) rs ≡ r.front ++ r.back
    run_removed =
        ap (remove_entry (at (cmp k))) r.parts ∙ remove_behind o k r.front ((k, m) ∷ r.back) r.before ∙
        ap (λ c. r.front ++ cond (is_eq c) r.back ((k, m) ∷ remove_entry (at (cmp k)) r.back)) (tied_itself o k)

    pub run_found : lookup (at (cmp k)) rs ≡ Some m
    run_found = ap (lookup (at (cmp k))) r.parts ∙ found r.front r.before
      where
        found : (front : List (RunOf K X)) → AreBelow cmp k front → lookup (at (cmp k)) (front ++ (k, m) ∷ r.back) ≡ Some m
        found [] a = ap (λ c. cond (is_eq c) (Some m) (lookup (at (cmp k)) r.back)) (tied_itself o k)
        found (e ∷ front) a = ap (λ c. cond (is_eq c) (Some e.1) (lookup (at (cmp k)) (front ++ (k, m) ∷ r.back))) (turned o e.0 k a.0) ∙
            found front a.1

    module _ (w : List (K × X)) (spans : (P : K → Type 0) → P p → AllByRecursion P (keys_of m) → AllByRecursion P (keys_of w)) where
      pub set_laid : IsLaid cmp [] (set_value (at (cmp k)) rs w)
      set_laid =
          let front = joined r.front in
          subst (IsLaid cmp []) (sym (run_set w))
          (laid_both [] r.front ((k, m) ∷ r.back) ((k, w) ∷ r.back) (subst (IsLaid cmp []) r.parts laid) (
            here.0,
            spans (λ q. is_gt (cmp k q) ≡ false) r.from here.1,
            laid_other p (front ++ m) (front ++ w) r.back
                (λ q g b. all_both (λ x. cmp x q ≡ Less) front w (all_first (λ x. cmp x q ≡ Less) front m b)
                (spans (λ x. cmp x q ≡ Less) g (all_last (λ x. cmp x q ≡ Less) front m b))) r.past here.2,
          ))

      pub set_joined : joined (set_value (at (cmp k)) rs w) ≡ joined r.front ++ (w ++ joined r.back)
      set_joined = ap joined (run_set w) ∙ joined_append r.front ((k, w) ∷ r.back)

-- ---- the run where a place belongs, by a range of the map of runs

module _ {K : Type 0} {cmp : K → K → Ordering} (o : IsTotalOrder cmp) (p : K) where
  upto_none : {Y : Type 0} (rs : List (K × Y)) → ArePast cmp p rs → filter (λ e. not (is_lt (cmp p e.0))) rs ≡ []
  upto_none [] a = refl
  upto_none (r ∷ rs) a = ap (λ c. cond (not (is_lt c)) (r ∷ filter (λ e. not (is_lt (cmp p e.0))) rs)
      (filter (λ e. not (is_lt (cmp p e.0))) rs)) a.0 ∙ upto_none rs a.1

  later_all : {Y : Type 0} (r : K × Y) (rs : List (K × Y)) → cmp p r.0 ≡ Less → IsStrictlySortedBy cmp (keys_of (r ∷ rs)) → ArePast cmp p rs
  unfolding IsStrictlySortedBy
  later_all r rs h s = all_weaker (λ q. cmp r.0 q ≡ Less) (λ q. cmp p q ≡ Less) (λ q g. o.trans p r.0 q h g) rs s.0

  pub parts_sorted : {Y : Type 0} (rs : List (K × Y)) → IsStrictlySortedBy cmp (keys_of rs) →
      rs ≡ filter (λ e. not (is_lt (cmp p e.0))) rs ++ filter (λ e. is_lt (cmp p e.0)) rs
  unfolding IsStrictlySortedBy
  parts_sorted [] s = refl
  parts_sorted {Y} (r ∷ rs) s = by (cmp p r.0) refl (parts_sorted rs s.1)
    where
      first : List (K × Y)
      first = filter (λ e. not (is_lt (cmp p e.0))) rs

      second : List (K × Y)
      second = filter (λ e. is_lt (cmp p e.0)) rs

      by : (c : Ordering) → cmp p r.0 ≡ c → rs ≡ first ++ second → r ∷ rs ≡ cond (not (is_lt c)) (r ∷ first) first ++ cond (is_lt c)
          (r ∷ second) second
      by Less e ih =
          let none : first ≡ [] = upto_none rs (all_weaker (λ q. cmp r.0 q ≡ Less) (λ q. cmp p q ≡ Less) (λ q g. o.trans p r.0 q e g) rs
          s.0) in
          ap (λ l. r ∷ l) (ih ∙ ap (λ l. l ++ second) none) ∙ sym (ap (λ l. l ++ r ∷ second) none)
      by Equal e ih = ap (λ l. r ∷ l) ih
      by Greater e ih = ap (λ l. r ∷ l) ih

  pub second_past : {Y : Type 0} (rs : List (K × Y)) → ArePast cmp p (filter (λ e. is_lt (cmp p e.0)) rs)
  second_past [] = tt
  second_past (r ∷ rs) = by (cmp p r.0) refl (second_past rs)
    where
      by : (c : Ordering) → cmp p r.0 ≡ c → ArePast cmp p (filter (λ e. is_lt (cmp p e.0)) rs) →
          ArePast cmp p (cond (is_lt c) (r ∷ filter (λ e. is_lt (cmp p e.0)) rs) (filter (λ e. is_lt (cmp p e.0)) rs))
      by Less e ih = (e, ih)
      by Equal e ih = ih
      by Greater e ih = ih

  first_upto : {Y : Type 0} (rs : List (K × Y)) → AllByRecursion (λ q. is_gt (cmp q p) ≡ false)
      (keys_of (filter (λ e. not (is_lt (cmp p e.0))) rs))
  first_upto [] = tt
  first_upto (r ∷ rs) = by (cmp p r.0) refl (first_upto rs)
    where
      by : (c : Ordering) → cmp p r.0 ≡ c → AllByRecursion (λ q. is_gt (cmp q p) ≡ false)
          (keys_of (filter (λ e. not (is_lt (cmp p e.0))) rs)) →
          AllByRecursion (λ q. is_gt (cmp q p) ≡ false) (keys_of (cond (not (is_lt c)) (r ∷ filter (λ e. not (is_lt (cmp p e.0))) rs)
          (filter (λ e. not (is_lt (cmp p e.0))) rs)))
      by Less e ih = ih
      by Equal e ih = (ap is_gt (o.antisymm r.0 p ∙ ap ordering_reverse e), ih)
      by Greater e ih = (ap is_gt (o.antisymm r.0 p ∙ ap ordering_reverse e), ih)

  sorted_before : {Y : Type 0} (k : K) (y : Y) (front back : List (K × Y)) → IsStrictlySortedBy cmp (keys_of (front ++ (k, y) ∷ back)) →
      AreBelow cmp k front
  unfolding IsStrictlySortedBy
  sorted_before k y [] back s = tt
  sorted_before k y (e ∷ front) back s = ((all_last (λ q. cmp e.0 q ≡ Less) front ((k, y) ∷ back) s.0).0, sorted_before k y front back s.1)

  module _ {X : Type 0} (rs : List (K × BTreeMap K X)) (s : IsStrictlySortedBy cmp (keys_of rs)) where
    pub run_in_range : (t : List (K × BTreeMap K X)) (k : K) (w : BTreeMap K X) → filter (λ e. not (is_lt (cmp p e.0))) rs ≡ t ++ (k, w) ∷
        [] →
        IsRunFor cmp p (seen rs) k w.entries
    run_in_range t k w is =
        let back = filter (λ e. is_lt (cmp p e.0)) rs in
        let parts : rs ≡ t ++ (k, w) ∷ back = parts_sorted rs s ∙ ap (λ l. l ++ back) is ∙ append_assoc t ((k, w) ∷ []) back in
        record {
          front = seen t;
          back = seen back;
          parts = ap seen parts ∙ seen_append t ((k, w) ∷ back);
          before = seen_keys (λ q. cmp q k ≡ Less) t (sorted_before k w t back (subst (λ l. IsStrictlySortedBy cmp (keys_of l)) parts s));
          from = (all_last (λ q. is_gt (cmp q p) ≡ false) t ((k, w) ∷ [])
              (subst (λ l. AllByRecursion (λ q. is_gt (cmp q p) ≡ false) (keys_of l)) is (first_upto rs))).0;
          past = seen_keys (λ q. cmp p q ≡ Less) back (second_past rs);
        }

    pub none_in_range : filter (λ e. not (is_lt (cmp p e.0))) rs ≡ [] → ArePast cmp p (seen rs)
    none_in_range is =
        let back = filter (λ e. is_lt (cmp p e.0)) rs in
        let parts : rs ≡ back = parts_sorted rs s ∙ ap (λ l. l ++ back) is in
        seen_keys (λ q. cmp p q ≡ Less) rs (subst (λ l. ArePast cmp p l) (sym parts) (second_past rs))

-- ---- look-ups and changes by the run where a place belongs

module _ {K X : Type 0} {cmp : K → K → Ordering} (o : IsTotalOrder cmp) (p : K) (rs : List (RunOf K X)) where
  pub found_nowhere : IsLaid cmp [] rs → ArePast cmp p rs → lookup (at (cmp p)) (joined rs) ≡ None
  found_nowhere laid a = past_missed o p (joined rs) (runs_past o p [] rs laid a)

  pub removed_nowhere : IsLaid cmp [] rs → ArePast cmp p rs → remove_entry (at (cmp p)) (joined rs) ≡ joined rs
  removed_nowhere laid a = past_removed o p (joined rs) (runs_past o p [] rs laid a)

  module _ (k : K) (m : List (K × X)) (laid : IsLaid cmp [] rs) (r : IsRunFor cmp p rs k m) where
    pub found_in_run : lookup (at (cmp p)) (joined rs) ≡ lookup (at (cmp p)) m
    found_in_run = lookup_held o p (joined r.front) m (joined r.back) (joined rs) (run_holds o p rs k m laid r)

    pub inserted_in_run : (v : X) → insert_entry cmp (joined rs) p v ≡ joined (set_value (at (cmp k)) rs (insert_entry cmp m p v))
    inserted_in_run v =
        insert_held o p (joined r.front) m (joined r.back) (joined rs) (run_holds o p rs k m laid r) v ∙
        sym (set_joined o p rs k m laid r (insert_entry cmp m p v) (λ P h a. all_inserted P cmp p v h m a))

    pub inserted_laid : (v : X) → IsLaid cmp [] (set_value (at (cmp k)) rs (insert_entry cmp m p v))
    inserted_laid v = set_laid o p rs k m laid r (insert_entry cmp m p v) (λ P h a. all_inserted P cmp p v h m a)

    pub removed_in_run : remove_entry (at (cmp p)) (joined rs) ≡ joined (set_value (at (cmp k)) rs (remove_entry (at (cmp p)) m))
    removed_in_run =
        remove_held o p (joined r.front) m (joined r.back) (joined rs) (run_holds o p rs k m laid r) ∙
        sym (set_joined o p rs k m laid r (remove_entry (at (cmp p)) m) (λ P h a. all_removed P (at (cmp p)) m a))

    pub removed_laid : IsLaid cmp [] (set_value (at (cmp k)) rs (remove_entry (at (cmp p)) m))
    removed_laid = set_laid o p rs k m laid r (remove_entry (at (cmp p)) m) (λ P h a. all_removed P (at (cmp p)) m a)

    -- what a change of the run's entry at p is to all entries
    pub changed_in_run : (P : X → X → Type 0) (w : List (K × X)) →
        MatchOption (lookup (at (cmp p)) m) (w ≡ m) (λ s. (t : X) × P s t × (w ≡ set_value (at (cmp p)) m t)) →
        MatchOption (lookup (at (cmp p)) (joined rs)) (joined (set_value (at (cmp k)) rs w) ≡ joined rs)
        (λ s. (t : X) × P s t × (joined (set_value (at (cmp k)) rs w) ≡ set_value (at (cmp p)) (joined rs) t)) × IsLaid cmp []
        (set_value (at (cmp k)) rs w)
    changed_in_run P w h = by (lookup (at (cmp p)) m) refl h
      where
        held : Holds o p (joined r.front) m (joined r.back) (joined rs)
        held = run_holds o p rs k m laid r

        same : List (K × X) → Type 1
        same v = (Q : K → Type 0) → Q p → AllByRecursion Q (keys_of m) → AllByRecursion Q (keys_of v)

        Goal : Option X → Type 0
        Goal f = MatchOption f (joined (set_value (at (cmp k)) rs w) ≡ joined rs)
            (λ s. (t : X) × P s t × (joined (set_value (at (cmp k)) rs w) ≡ set_value (at (cmp p)) (joined rs) t)) × IsLaid cmp []
            (set_value (at (cmp k)) rs w)

        by : (f : Option X) → lookup (at (cmp p)) m ≡ f → MatchOption f (w ≡ m) (λ s. (t : X) × P s t × (w ≡ set_value (at (cmp p)) m t)) →
            Goal (lookup (at (cmp p)) (joined rs))
        by None e g =
            let spans : same w = λ Q q a. subst (λ v. AllByRecursion Q (keys_of v)) (sym g) a in
            subst Goal (sym (found_in_run ∙ e)) (
              set_joined o p rs k m laid r w spans ∙ ap (λ v. joined r.front ++ (v ++ joined r.back)) g ∙ sym held.parts,
              set_laid o p rs k m
                  laid r w spans,
            )
        by (Some s) e g =
            let spans : same w = λ Q q a. subst (λ v. AllByRecursion Q (keys_of v)) (sym g.2) (all_set Q (at (cmp p)) m g.0 a) in
            subst Goal (sym (found_in_run ∙ e)) (
              (
                g.0,
                g.1,
                set_joined o p rs k m laid r w spans ∙ ap (λ v. joined r.front ++ (v ++ joined r.back)) g.2 ∙
                    sym (set_held o p (joined r.front) m (joined r.back) (joined rs) held g.0),
              ),
              set_laid o p rs k m laid r w spans,
            )

-- a run without entries goes
module _ {K X : Type 0} (cmp : K → K → Ordering) (test : K → Bool) where
  pub empty_joined : (rs : List (RunOf K X)) → lookup test rs ≡ Some [] → joined (remove_entry test rs) ≡ joined rs
  empty_joined [] h = refl
  empty_joined (r ∷ rs) h = by (test r.0) h (empty_joined rs)
    where
      by : (b : Bool) → cond b (Some r.1) (lookup test rs) ≡ Some [] → (lookup test rs ≡ Some [] → joined (remove_entry test rs) ≡ joined
          rs) →
          joined (cond b rs (r ∷ remove_entry test rs)) ≡ r.1 ++ joined rs
      by true h ih = let e : r.1 ≡ [] = cc in sym (ap (λ l. l ++ joined rs) e)
      by false h ih = ap (λ l. r.1 ++ l) (ih h)

  pub empty_laid : (es : List (K × X)) (rs : List (RunOf K X)) → lookup test rs ≡ Some [] → IsLaid cmp es rs → IsLaid cmp es
      (remove_entry test rs)
  empty_laid es [] h laid = tt
  empty_laid es (r ∷ rs) h laid = by (test r.0) h (empty_laid (es ++ r.1) rs)
    where
      by : (b : Bool) → cond b (Some r.1) (lookup test rs) ≡ Some [] → (lookup test rs ≡ Some [] → IsLaid cmp (es ++ r.1) rs → IsLaid cmp
          (es ++ r.1) (remove_entry test rs)) →
          IsLaid cmp es (cond b rs (r ∷ remove_entry test rs))
      by true h ih = let e : r.1 ≡ [] = cc in subst (λ l. IsLaid cmp l rs) (ap (λ l. es ++ l) e ∙ append-nil es) laid.2
      by false h ih = (laid.0, laid.1, ih h laid.2)

-- ---- a change of the map of runs

module _ {K X : Type 0} where
  set_none : (test : K → Bool) (es : List (K × X)) (w : X) → lookup test es ≡ None → set_value test es w ≡ es
  set_none test [] w h = refl
  set_none test (e ∷ es) w h = by (test e.0) h (set_none test es w)
    where
      by : (b : Bool) → cond b (Some e.1) (lookup test es) ≡ None → (lookup test es ≡ None → set_value test es w ≡ es) →
          cond b ((e.0, w) ∷ es) (e ∷ set_value test es w) ≡ e ∷ es
      by true h ih = cc
      by false h ih = ap (λ l. e ∷ l) (ih h)

  pub set_again : (test : K → Bool) (es : List (K × X)) (v : X) → lookup test es ≡ Some v → set_value test es v ≡ es
  set_again test [] v h = refl
  set_again test (e ∷ es) v h = by (test e.0) h (set_again test es v)
    where
      by : (b : Bool) → cond b (Some e.1) (lookup test es) ≡ Some v → (lookup test es ≡ Some v → set_value test es v ≡ es) →
          cond b ((e.0, v) ∷ es) (e ∷ set_value test es v) ≡ e ∷ es
      by true h ih = let same : e.1 ≡ v = cc in ap (λ (x : X). (e.0, x) ∷ es) (sym same)
      by false h ih = ap (λ l. e ∷ l) (ih h)

module _ {K X : Type 0} where
  -- a run that was written to, and one that stayed as it was
  pub seen_written : (test : K → Bool) (rs ss : List (K × BTreeMap K X)) (w : BTreeMap K X) → ss ≡ set_value test rs w → seen ss ≡ set_value
      test (seen rs) w.entries
  seen_written test rs ss w is = ap seen is ∙ seen_set test rs w

  pub seen_same : (test : K → Bool) (rs ss : List (K × BTreeMap K X)) (m w : BTreeMap K X) → ss ≡ set_value test rs w → lookup test rs ≡
      Some m → w.entries ≡ m.entries → seen ss ≡ seen rs
  seen_same test rs ss m w is there same =
      seen_written test rs ss w is ∙ ap (set_value test (seen rs)) same ∙ set_again test (seen rs) m.entries (seen_found test rs m there)

  pub written_nowhere : (test : K → Bool) (rs : List (K × BTreeMap K X)) (es : List (K × X)) → lookup test rs ≡ None → set_value test
      (seen rs) es ≡ seen rs
  written_nowhere test rs es none = set_none test (seen rs) es (seen_none test rs none)

  -- the run that a look-up finds in the map is the one that stands among the runs
  pub same_run : (test : K → Bool) (rs : List (K × BTreeMap K X)) (m : List (K × X)) (w : BTreeMap K X) → lookup test (seen rs) ≡ Some m →
      lookup test rs ≡ Some w → m ≡ w.entries
  same_run test rs m w h there = by (sym h ∙ seen_found test rs w there)
    where
      by : Some m ≡ Some w.entries → m ≡ w.entries
      by e = cc

  pub no_run : (test : K → Bool) (rs : List (K × BTreeMap K X)) (m : List (K × X)) → lookup test (seen rs) ≡ Some m → lookup test rs ≡ None
      → ⊥
  no_run test rs m h none = by (sym h ∙ seen_none test rs none)
    where
      by : Some m ≡ None → ⊥
      by e = cc

module _ {K X : Type 0} {cmp : K → K → Ordering} (o : IsTotalOrder cmp) where
  -- a run without entries before all others
  pub first_added : (f p : K) (rs ss : List (K × BTreeMap K X)) (w : BTreeMap K X) → is_gt (cmp f p) ≡ false → ArePast cmp p (seen rs) →
      w.entries ≡ [] → ss ≡ insert_entry cmp rs f w → seen ss ≡ (f, []) ∷ seen rs
  first_added f p rs ss w h a empty is =
      ap seen is ∙ seen_insert cmp rs f w ∙ ap (insert_entry cmp (seen rs) f) empty ∙
      past_inserted o f [] (seen rs) (all_weaker (λ q. cmp p q ≡ Less) (λ q. cmp f q ≡ Less) (λ q g. le_lt o f p q h g) (seen rs) a)

  pub below_from_split : (a : K) (es : List (K × X)) → AllByRecursion (λ q. is_gt (cmp a q) ≡ true) (keys_of es) → AreBelow cmp a es
  below_from_split a es = all_weaker (λ q. is_gt (cmp a q) ≡ true) (λ q. cmp q a ≡ Less)
      (λ q g. o.antisymm q a ∙ ap ordering_reverse (greater (cmp a q) g)) es
    where
      greater : (c : Ordering) → is_gt c ≡ true → c ≡ Greater
      greater Less h = cc
      greater Equal h = cc
      greater Greater h = refl

  -- from entries that stand before runs to the keys of the runs
  pub later_keys : (p a : K) (es : List (K × X)) (rs : List (RunOf K X)) → ((q : K) → AreBelow cmp q es → cmp p q ≡ Less → cmp a q ≡ Less) →
      ArePast cmp p rs → IsLaid cmp es rs → ArePast cmp a rs
  later_keys p a es [] h past laid = tt
  later_keys p a es (r ∷ rs) h past laid =
      (h r.0 laid.0 past.0, later_keys p a (es ++ r.1) rs (λ q b g. h q (all_first (λ x. cmp x q ≡ Less) es r.1 b) g) past.1 laid.2)

  -- where a run is parted it still belongs
  pub parted_for : (p a k : K) (rs : List (RunOf K X)) (m : List (K × X)) → IsLaid cmp [] rs → IsRunFor cmp p rs k m → is_gt (cmp p a) ≡
      false →
      ((q : K) → AreBelow cmp q m → cmp p q ≡ Less → cmp a q ≡ Less) → IsRunFor cmp a rs k m
  parted_for p a k rs m laid r least most =
      let here = laid_rest o [] r.front ((k, m) ∷ r.back) (subst (IsLaid cmp []) r.parts laid) in
      record {
        front = r.front;
        back = r.back;
        parts = r.parts;
        before = r.before;
        from = le_le o k p a r.from least;
        past = later_keys p a (joined r.front ++ m) r.back (λ q b g. most q (all_last (λ x. cmp x q ≡ Less) (joined r.front) m b) g) r.past
            here.2;
      }

  module _ (a k : K) (rs : List (RunOf K X)) (m : List (K × X)) (laid : IsLaid cmp [] rs) (r : IsRunFor cmp a rs k m)
      (none : lookup (at (cmp a)) rs ≡ None) where
    front_below : AreBelow cmp a r.front
    front_below = all_weaker (λ q. cmp q k ≡ Less) (λ q. cmp q a ≡ Less) (λ q g. lt_le o q k a g r.from) r.front r.before

    apart : cmp k a ≡ Less
    apart = by (cmp k a) refl r.from
      where
        clash : (front : List (RunOf K X)) → AreBelow cmp a front → is_eq (cmp a k) ≡ true → lookup (at (cmp a)) (front ++ (k, m) ∷ r.back)
            ≡ None → ⊥
        clash [] b e h = let g : Some m ≡ None = sym (ap (λ c. cond c (Some m) (lookup (at (cmp a)) r.back)) e) ∙ h in cc
        clash (x ∷ front) b e h = clash front b.1 e (sym (ap (λ c. cond c (Some x.1) (lookup (at (cmp a)) (front ++ (k, m) ∷ r.back)))
            (below_missed o a x.0 b.0)) ∙ h)

        by : (c : Ordering) → cmp k a ≡ c → is_gt c ≡ false → cmp k a ≡ Less
        by Less e h = e
        by Equal e h = absurd (clash r.front front_below (ap is_eq (tied_back o k a e)) (sym (ap (lookup (at (cmp a))) r.parts) ∙ none))
        by Greater e h = cc

    pub part_added : insert_entry cmp rs a [] ≡ r.front ++ (k, m) ∷ (a, []) ∷ r.back
    part_added =
        ap (λ l. insert_entry cmp l a []) r.parts ∙ insert_behind o a [] r.front ((k, m) ∷ r.back) front_below ∙
        ap (λ c. r.front ++ match_ordering c ((a, []) ∷ (k, m) ∷ r.back) ((k, []) ∷ r.back) ((k, m) ∷ insert_entry cmp r.back a []))
        (turned o k a apart) ∙
        ap (λ l. r.front ++ (k, m) ∷ l) (past_inserted o a [] r.back r.past)

    pub part_undone : remove_entry (at (cmp a)) (insert_entry cmp rs a []) ≡ rs
    part_undone =
        ap (remove_entry (at (cmp a))) part_added ∙ remove_behind o a r.front ((k, m) ∷ (a, []) ∷ r.back) front_below ∙
        ap (λ c. r.front ++ cond (is_eq c) ((a, []) ∷ r.back) ((k, m) ∷ remove_entry (at (cmp a)) ((a, []) ∷ r.back))) (turned o k a apart)
        ∙
        ap (λ c. r.front ++ (k, m) ∷ cond (is_eq c) r.back ((a, []) ∷ remove_entry (at (cmp a)) r.back)) (tied_itself o a) ∙ sym r.parts

    pub part_found : lookup (at (cmp k)) (insert_entry cmp rs a []) ≡ Some m
    part_found = ap (lookup (at (cmp k))) part_added ∙ found r.front r.before
      where
        found : (front : List (RunOf K X)) → AreBelow cmp k front → lookup (at (cmp k)) (front ++ (k, m) ∷ (a, []) ∷ r.back) ≡ Some m
        found [] b = ap (λ c. cond (is_eq c) (Some m) (lookup (at (cmp k)) ((a, []) ∷ r.back))) (tied_itself o k)
        found (x ∷ front) b = ap (λ c. cond c (Some x.1) (lookup (at (cmp k)) (front ++ (k, m) ∷ (a, []) ∷ r.back)))
            (below_missed o k x.0 b.0) ∙ found front b.1

    module _ (below rest : List (K × X)) (halves : m ≡ below ++ rest) (lower : AreBelow cmp a below) (upper : AreFrom cmp a rest) where
      parted : set_value (at (cmp a)) (set_value (at (cmp k)) (insert_entry cmp rs a []) below) rest ≡ r.front ++ (k, below) ∷ (a, rest) ∷
          r.back
      parted =
          ap (λ l. set_value (at (cmp a)) (set_value (at (cmp k)) l below) rest) part_added ∙
          ap (λ l. set_value (at (cmp a)) l rest) (set_behind o k below r.front ((k, m) ∷ (a, []) ∷ r.back) r.before ∙
          ap (λ c. r.front ++ cond (is_eq c) ((k, below) ∷ (a, []) ∷ r.back) ((k, m) ∷ set_value (at (cmp k)) ((a, []) ∷ r.back) below))
          (tied_itself o k)) ∙
          set_behind o a rest r.front ((k, below) ∷ (a, []) ∷ r.back) front_below ∙
          ap (λ c. r.front ++ cond (is_eq c) ((k, rest) ∷ (a, []) ∷ r.back) ((k, below) ∷ set_value (at (cmp a)) ((a, []) ∷ r.back) rest))
          (turned o k a apart) ∙
          ap (λ c. r.front ++ (k, below) ∷ cond (is_eq c) ((a, rest) ∷ r.back) ((a, []) ∷ set_value (at (cmp a)) r.back rest))
          (tied_itself o a)

      pub parted_joined : joined (set_value (at (cmp a)) (set_value (at (cmp k)) (insert_entry cmp rs a []) below) rest) ≡ joined rs
      parted_joined =
          ap joined parted ∙ joined_append r.front ((k, below) ∷ (a, rest) ∷ r.back) ∙
          ap (λ l. joined r.front ++ l) (sym (append_assoc below rest (joined r.back)) ∙ ap (λ l. l ++ joined r.back) (sym halves)) ∙
          sym (ap joined r.parts ∙ joined_append r.front ((k, m) ∷ r.back))

      pub parted_laid : IsLaid cmp [] (set_value (at (cmp a)) (set_value (at (cmp k)) (insert_entry cmp rs a []) below) rest)
      parted_laid =
          let whole = subst (IsLaid cmp []) r.parts laid in
          let here = laid_rest o [] r.front ((k, m) ∷ r.back) whole in
          let front = joined r.front in
          subst (IsLaid cmp []) (sym parted)
          (laid_both o [] r.front ((k, m) ∷ r.back) ((k, below) ∷ (a, rest) ∷ r.back) whole (
            here.0,
            all_first (λ q. is_gt (cmp k q) ≡ false) below rest (subst (AreFrom cmp k) halves here.1),
            (
              all_both (λ q. cmp q a ≡ Less) front below (all_weaker (λ q. cmp q k ≡ Less) (λ q. cmp q a ≡ Less)
                  (λ q g. o.trans q k a g apart) front here.0) lower,
              upper,
              subst (λ l. IsLaid cmp l r.back) (ap (λ l. front ++ l) halves ∙ sym (append_assoc front below rest)) here.2,
            ),
          ))

-- ---- answers by their case

pub on_err : {T E P : Type 0} (r : Result T E) → P → OnErr r P
on_err (Ok x) h = tt
on_err (Err e) h = h

pub on_ok : {T E P Q : Type 0} (r : Result T E) → (P → Q) → OnOk r P → OnOk r Q
on_ok (Ok x) f h = f h
on_ok (Err e) f h = tt

pub none_from : {A : Type 0} (f : Option A) → is_some f ≡ false → f ≡ None
none_from None h = refl
none_from (Some x) h = cc

pub match_none : {A P : Type 0} (Q : A → Type 0) (f : Option A) → f ≡ None → P → MatchOption f P Q
match_none Q None e h = h
match_none Q (Some x) e h = cc

-- ---- the entries between two places

module _ {K : Type 0} {cmp : K → K → Ordering} (o : IsTotalOrder cmp) where
  drop_below : {Y : Type 0} (a b : K) (front es : List (K × Y)) → AreBelow cmp a front →
      filter (λ e. range_contains cmp (Included a) (Included b) e.0) (front ++ es) ≡ filter
      (λ e. range_contains cmp (Included a) (Included b) e.0) es
  drop_below a b [] es h = refl
  drop_below {Y} a b (e ∷ front) es h =
      let kept : List (K × Y) = filter (λ e. range_contains cmp (Included a) (Included b) e.0) (front ++ es) in
      ap (λ c. cond (is_le c && not (is_lt (cmp b e.0))) (e ∷ kept) kept) (turned o e.0 a h.0) ∙ drop_below a b front es h.1

  drop_past : {Y : Type 0} (a b : K) (es : List (K × Y)) → ArePast cmp b es → filter (λ e. range_contains cmp (Included a) (Included b) e.0)
      es ≡ []
  drop_past a b [] h = refl
  drop_past {Y} a b (e ∷ es) h =
      let kept : List (K × Y) = filter (λ e. range_contains cmp (Included a) (Included b) e.0) es in
      ap (λ c. cond (is_le (cmp a e.0) && not (is_lt c)) (e ∷ kept) kept) h.0 ∙ never (is_le (cmp a e.0)) ∙ drop_past a b es h.1
    where
      never : (c : Bool) → cond (c && false) (e ∷ filter (λ e. range_contains cmp (Included a) (Included b) e.0) es)
          (filter (λ e. range_contains cmp (Included a) (Included b) e.0) es) ≡
          filter (λ e. range_contains cmp (Included a) (Included b) e.0) es
      never true = refl
      never false = refl

  le_is : (c : Ordering) → is_gt c ≡ false → is_le c ≡ true
  le_is Less h = refl
  le_is Equal h = refl
  le_is Greater h = cc

  module _ {X : Type 0} (a b k : K) where
    abbrev kept_runs : List (RunOf K X) → List (RunOf K X)
    kept_runs rs = filter (λ r. range_contains cmp (Included k) (Included b) r.0) rs

    abbrev kept_entries : List (K × X) → List (K × X)
    kept_entries es = filter (λ e. range_contains cmp (Included a) (Included b) e.0) es

    runs_kept : (es : List (K × X)) (rs : List (RunOf K X)) → IsLaid cmp es rs → AreFrom cmp k rs → kept_entries (joined (kept_runs rs)) ≡
        kept_entries (joined rs)
    runs_kept es [] laid from = refl
    runs_kept es (r ∷ rs) laid from = by (cmp b r.0) refl (runs_kept (es ++ r.1) rs laid.2 from.1)
      where
        test : Ordering → Bool
        test c = is_le (cmp k r.0) && not (is_lt c)

        within : (c : Ordering) → is_lt c ≡ false → kept_entries (joined (kept_runs rs)) ≡ kept_entries (joined rs) →
            kept_entries (joined (cond (test c) (r ∷ kept_runs rs) (kept_runs rs))) ≡ kept_entries (r.1 ++ joined rs)
        within c h ih =
            ap (λ t. kept_entries (joined (cond (is_le (cmp k r.0) && not t) (r ∷ kept_runs rs) (kept_runs rs)))) h ∙
            ap (λ t. kept_entries (joined (cond (t && true) (r ∷ kept_runs rs) (kept_runs rs)))) (le_is (cmp k r.0) from.0) ∙
            filter-append (λ e. range_contains cmp (Included a) (Included b) e.0) r.1 (joined (kept_runs rs)) ∙
            ap (λ l. kept_entries r.1 ++ l) ih ∙ sym (filter-append (λ e. range_contains cmp (Included a) (Included b) e.0) r.1 (joined rs))

        never : (t : Bool) → cond (t && false) (r ∷ kept_runs rs) (kept_runs rs) ≡ kept_runs rs
        never true = refl
        never false = refl

        by : (c : Ordering) → cmp b r.0 ≡ c → kept_entries (joined (kept_runs rs)) ≡ kept_entries (joined rs) →
            kept_entries (joined (cond (test c) (r ∷ kept_runs rs) (kept_runs rs))) ≡ kept_entries (r.1 ++ joined rs)
        by Less e ih =
            let past : ArePast cmp b r.1 = all_weaker (λ q. is_gt (cmp r.0 q) ≡ false) (λ q. cmp b q ≡ Less) (λ q g. lt_le o b r.0 q e g)
            r.1 laid.1 in
            ap (λ l. kept_entries (joined l)) (never (is_le (cmp k r.0))) ∙ ih ∙
            sym (filter-append (λ e. range_contains cmp (Included a) (Included b) e.0) r.1 (joined rs) ∙ ap
            (λ l. l ++ kept_entries (joined rs)) (drop_past a b r.1 past))
        by Equal e ih = within Equal refl ih
        by Greater e ih = within Greater refl ih

    pub between_runs : (rs : List (RunOf K X)) (m : List (K × X)) → IsLaid cmp [] rs → IsRunFor cmp a rs k m → kept_entries
        (joined (kept_runs rs)) ≡ kept_entries (joined rs)
    between_runs rs m laid r =
        let tail : List (RunOf K X) = (k, m) ∷ r.back in
        let here = laid_rest o [] r.front tail (subst (IsLaid cmp []) r.parts laid) in
        let from : AreFrom cmp k tail = (
          ap is_gt (tied_itself o k),
          all_weaker (λ q. cmp a q ≡ Less) (λ q. is_gt (cmp k q) ≡ false)
              (λ q g. ap is_gt (le_lt o k a q r.from g)) r.back r.past,
        ) in
        ap (λ l. kept_entries (joined (kept_runs l))) r.parts ∙ ap (λ l. kept_entries (joined l)) (drop_below k b r.front tail r.before) ∙
        runs_kept (joined r.front) tail here from ∙
        sym (ap (λ l. kept_entries (joined l)) r.parts ∙ ap kept_entries (joined_append r.front tail) ∙ drop_below a b (joined r.front)
        (joined tail) (run_holds o a rs k m laid r).before)

  pub between_past : {X : Type 0} (a b : K) (rs : List (RunOf K X)) → IsLaid cmp [] rs → ArePast cmp a rs →
      filter (λ e. range_contains cmp (Included a) (Included b) e.0) (joined
      (filter (λ r. range_contains cmp (Included a) (Included b) r.0) rs)) ≡
      filter (λ e. range_contains cmp (Included a) (Included b) e.0) (joined rs)
  between_past a b rs laid past = runs_kept a b a [] rs laid (all_weaker (λ q. cmp a q ≡ Less) (λ q. is_gt (cmp a q) ≡ false)
      (λ q g. ap is_gt g) rs past)

-- ---- how many entries there are

module _ {K X : Type 0} where
  pub length_inserted : (cmp : K → K → Ordering) (k : K) (v : X) (es : List (K × X)) → lookup (at (cmp k)) es ≡ None → length
      (insert_entry cmp es k v) ≡ length es + 1
  length_inserted cmp k v [] h = refl
  length_inserted cmp k v (e ∷ es) h = by (cmp k e.0) h (length_inserted cmp k v es)
    where
      by : (c : Ordering) → cond (is_eq c) (Some e.1) (lookup (at (cmp k)) es) ≡ None →
          (lookup (at (cmp k)) es ≡ None → length (insert_entry cmp es k v) ≡ length es + 1) →
          length (match_ordering c ((k, v) ∷ e ∷ es) ((e.0, v) ∷ es) (e ∷ insert_entry cmp es k v)) ≡ suc (length es) + 1
      by Less h ih = omega arith
      by Equal h ih = cc
      by Greater h ih = let more = ih h in omega arith

  pub length_removed : (test : K → Bool) (es : List (K × X)) → is_some (lookup test es) ≡ true → length (remove_entry test es) + 1 ≡ length
      es
  length_removed test [] h = cc
  length_removed test (e ∷ es) h = by (test e.0) h (length_removed test es)
    where
      by : (b : Bool) → is_some (cond b (Some e.1) (lookup test es)) ≡ true →
          (is_some (lookup test es) ≡ true → length (remove_entry test es) + 1 ≡ length es) →
          length (cond b es (e ∷ remove_entry test es)) + 1 ≡ suc (length es)
      by true h ih = omega arith
      by false h ih = let less = ih h in omega arith

  pub removed_none : (test : K → Bool) (es : List (K × X)) → is_some (lookup test es) ≡ false → remove_entry test es ≡ es
  removed_none test [] h = refl
  removed_none test (e ∷ es) h = by (test e.0) h (removed_none test es)
    where
      by : (b : Bool) → is_some (cond b (Some e.1) (lookup test es)) ≡ false →
          (is_some (lookup test es) ≡ false → remove_entry test es ≡ es) →
          cond b es (e ∷ remove_entry test es) ≡ e ∷ es
      by true h ih = cc
      by false h ih = ap (λ l. e ∷ l) (ih h)

  pub length_changed : (test : K → Bool) (P : X → X → Type 0) (es fs : List (K × X)) →
      MatchOption (lookup test es) (fs ≡ es) (λ s. (t : X) × P s t × (fs ≡ set_value test es t)) → length fs ≡ length es
  length_changed test P es fs h = by (lookup test es) h
    where
      by : (f : Option X) → MatchOption f (fs ≡ es) (λ s. (t : X) × P s t × (fs ≡ set_value test es t)) → length fs ≡ length es
      by None g = ap length g
      by (Some s) g = ap length g.2 ∙ length-set_value test es g.0

-- the last run, opened from its end
pub stepped_back : {K X : Type 0} (test : K × X → Bool) (o n : List (K × X)) (rs ss : List (K × BTreeMap K X)) (k : K) (w : BTreeMap K X) →
    o ≡ [] → rs ≡ ss ++ (k, w) ∷ [] → n ≡ filter test w.entries → filter test (joined (seen ss)) ++ n ≡ filter test (joined (seen rs)) ++ o
stepped_back test o n rs ss k w none parts new =
    let front = filter test (joined (seen ss)) in
    let whole : filter test (joined (seen rs)) ≡ front ++ filter test w.entries =
    ap (λ l. filter test (joined l)) (ap seen parts ∙ seen_append ss ((k, w) ∷ [])) ∙ ap (filter test)
    (joined_append (seen ss) ((k, w.entries) ∷ [])) ∙
    filter-append test (joined (seen ss)) (w.entries ++ []) ∙ ap (λ l. front ++ filter test l) (append-nil w.entries) in
    ap (λ l. front ++ l) new ∙ sym whole ∙ sym (append-nil (filter test (joined (seen rs)))) ∙ ap (λ l. filter test (joined (seen rs)) ++ l)
    (sym none)

pub length_kept : {Y : Type 0} (test : Y → Bool) (es : List Y) → length (filter test es) ≤ length es
length_kept test [] = omega arith
length_kept {Y} test (e ∷ es) = by (test e) (length_kept test es)
  where
    by : (b : Bool) → length (filter test es) ≤ length es → length (cond b (e ∷ filter test es) (filter test es)) ≤ suc (length es)
    by true ih = omega arith
    by false ih = omega arith
