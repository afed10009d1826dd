-- Entries in runs: each run has a key, which is above no entry of its own and above each of the runs before it.
use Rattle.std.specs.Prelude.{◌≡◌, false, List, [], ◌∷◌, ◌++◌, map, Option, None, Some, MatchOption, ⊤}
use Rattle.std.specs.List.{AllByRecursion}
use Rattle.std.specs.Ordering.{is_gt}
use Rattle.std.specs.declared.cmp.Ordering.{Ordering}
use Rattle.std.specs.declared.cmp.Ordering.TheVariants.{Less}
use Rattle.std.specs.Map.{keys_of, set_value, lookup}
use Rattle.std.specs.BTreeMap.Range.{entries_between}
use Rattle.std.specs.declared.ops.Bound.TheVariants.{Included}
use Rattle.acc_store.specs.declared.walks.Walk.{Walk}
use Rattle.std.specs.BTreeMap.{BTreeMap, is_at as at}
use Rattle.acc_base.specs.Tables.{Place, place_cmp}
use Rattle.acc_store.specs.Contents.{Content}
use Rattle.acc_store.specs.Rows.{Entry, entry_at}

-- what a store keeps: its entries, in order
pub record Kept : Type 0 where
  pub entries : List Entry

-- a run's key, and its entries
abbrev pub RunOf : Type 0 → Type 0 → Type 0
RunOf K X = K × List (K × X)

module _ {K X : Type 0} (cmp : K → K → Ordering) where
  -- each key is below k
  abbrev pub AreBelow : K → List (K × X) → Type 0
  AreBelow k es = AllByRecursion (λ q. cmp q k ≡ Less) (keys_of es)

  -- none is below k
  abbrev pub AreFrom : K → List (K × X) → Type 0
  AreFrom k es = AllByRecursion (λ q. is_gt (cmp k q) ≡ false) (keys_of es)

  -- each is past k
  abbrev pub ArePast : K → List (K × X) → Type 0
  ArePast k es = AllByRecursion (λ q. cmp k q ≡ Less) (keys_of es)

module _ {K X : Type 0} where
  -- runs, as the keys and entries of the maps that they stand in
  abbrev pub seen : List (K × BTreeMap K X) → List (RunOf K X)
  seen rs = map (λ r. (r.0, r.1.entries)) rs

  -- the entries of runs, one run behind the other
  abbrev pub joined : List (RunOf K X) → List (K × X)
  joined [] = []
  joined (r ∷ rs) = r.1 ++ joined rs

  module _ (cmp : K → K → Ordering) where
    -- behind the entries es, the key of each run is above what stands before it, and above no entry of its own
    abbrev pub IsLaid : List (K × X) → List (RunOf K X) → Type 0
    IsLaid es [] = ⊤
    IsLaid es (r ∷ rs) = AreBelow cmp r.0 es × AreFrom cmp r.0 r.1 × IsLaid (es ++ r.1) rs

    -- m is the run where p belongs, and k its key
    pub record IsRunFor (p : K) (rs : List (RunOf K X)) (k : K) (m : List (K × X)) : Type 0 where
      pub front : List (RunOf K X)
      pub back : List (RunOf K X)
      pub parts : rs ≡ front ++ (k, m) ∷ back
      pub before : AreBelow cmp k front
      pub from : is_gt (cmp k p) ≡ false
      pub past : ArePast cmp p back

    -- k is the key of the run where p belongs, or p is before all runs
    abbrev pub IsRunKey : K → List (RunOf K X) → Option K → Type 0
    IsRunKey p rs r = MatchOption r (ArePast cmp p rs) (λ k. (m : List (K × X)) × IsRunFor p rs k m)

    -- m is that run
    abbrev pub IsRun : K → List (RunOf K X) → Option (BTreeMap K X) → Type 0
    IsRun p rs r = MatchOption r (ArePast cmp p rs) (λ m. (k : K) × IsRunFor p rs k m.entries)

-- ---- the entries of a store

-- of the run at key k, what isn't before a went to the run at key a
abbrev pub IsMoved : Place → Place → List (RunOf Place Content) → List (RunOf Place Content) → Type 0
IsMoved k a rs ss = (m : List Entry) → lookup (at (place_cmp k)) rs ≡ Some m →
    (below : List Entry) × (rest : List Entry) × (m ≡ below ++ rest) × AreBelow place_cmp a below × AreFrom place_cmp a rest ×
    (ss ≡ set_value (at (place_cmp a)) (set_value (at (place_cmp k)) rs below) rest)

abbrev pub AreLaid : BTreeMap Place (BTreeMap Place Content) → Type 0
AreLaid m = IsLaid place_cmp [] (seen m.entries)

-- the entries of all runs
abbrev pub all_of : BTreeMap Place (BTreeMap Place Content) → List Entry
all_of m = joined (seen m.entries)

-- the entry at p, if there is one, changed as P says
abbrev pub Alters : Place → (Content → Content → Type 0) → List Entry → List Entry → Type 0
Alters p P es fs = MatchOption (entry_at p es) (fs ≡ es) (λ s. (t : Content) × P s t × (fs ≡ set_value (at (place_cmp p)) es t))

-- ---- a walk over entries

abbrev pub opened : Option (List Entry) → List Entry
opened None = []
opened (Some es) = es

-- the entries from one place to another
abbrev pub between : Place → Place → List Entry → List Entry
between a b es = entries_between place_cmp (Included a) (Included b) es

-- what a walk has left, from the front: the rest of the run that is open, and what lies between its ends in the other runs
abbrev pub left : Walk → List Entry
left w = opened w.open ++ between w.start w.last (joined (seen w.runs))

-- the same from the back
abbrev pub left_behind : Walk → List Entry
left_behind w = between w.start w.last (joined (seen w.runs)) ++ opened w.open

abbrev pub IsForward : Walk → Type 0
IsForward w = is_gt (place_cmp w.start w.last) ≡ false

-- a walk keeps its ends
abbrev pub KeepsEnds : Walk → Walk → Type 0
KeepsEnds v w = (w.start ≡ v.start) × (w.last ≡ v.last)
