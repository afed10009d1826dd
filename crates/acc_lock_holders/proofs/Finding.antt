-- What a change at one key makes of the numbers under each.
use Rattle.std.proofs.Common.{◌≡◌, ℕ, Bool, true, false, ◌&&◌, ◌||◌, cond, List, [], ◌∷◌, ◌++◌, if◌then◌else◌}
use Rattle.std.proofs.Common.{sym, ap, refl, ◌∙◌, Option, Some, None}
use Rattle.std.specs.Prelude.{Decides, ◌==◌}
use Rattle.std.specs.Ordering.{int_eq}
use Rattle.std.specs.Cmp.{signed_Decides, unsigned_Decides}
use Rattle.std.specs.Cmp.Lexicographic.{pointwise, pointwise_decides}
use Rattle.std.specs.Cmp.Derive.{both_true}
use Rattle.std.proofs.lemmas.Bool.{and_parts}
use Rattle.std.proofs.lemmas.Option.{none-some}
use Rattle.acc_lock_holders.specs.declared.keys.Role.{Role}
use Rattle.acc_lock_holders.specs.declared.keys.Role.TheVariants.{Standing, Coming, Undoing}
use Rattle.acc_lock_holders.specs.Keys.{Key, role_eq, key_eq}
use Rattle.acc_lock_holders.specs.Numbers.{Numbers, has_room, is_among, with_number}
use Rattle.acc_lock_holders.specs.Entries.{Entries, items_in, room_in, found, under, HasRoom, KeepsRoom, can_take, CanTakeAll, IsSame}
use Rattle.acc_lock_holders.specs.Entries.{Changes, IsBlank, MakesNoBlank}

role_decides : (a b : Role) → Decides (role_eq a b) (a ≡ b)
role_decides Standing Standing = (λ h. refl, λ e. refl)
role_decides Standing Coming = (λ h. cc, λ e. cc)
role_decides Standing Undoing = (λ h. cc, λ e. cc)
role_decides Coming Standing = (λ h. cc, λ e. cc)
role_decides Coming Coming = (λ h. refl, λ e. refl)
role_decides Coming Undoing = (λ h. cc, λ e. cc)
role_decides Undoing Standing = (λ h. cc, λ e. cc)
role_decides Undoing Coming = (λ h. cc, λ e. cc)
role_decides Undoing Undoing = (λ h. refl, λ e. refl)

pub key_decides : (a b : Key) → Decides (key_eq a b) (a ≡ b)
key_decides a b = (to, from)
  where
    values : Decides (pointwise int_eq a.values b.values) (a.values ≡ b.values)
    values = pointwise_decides signed_Decides a.values b.values

    to : key_eq a b ≡ true → a ≡ b
    to h =
        let p = and_parts ((role_eq a.role b.role) && (a.entry == b.entry)) (pointwise int_eq a.values b.values) h in
        let q = and_parts (role_eq a.role b.role) (a.entry == b.entry) p.0 in
        let role = (role_decides a.role b.role).0 q.0 in
        let entry = (unsigned_Decides a.entry b.entry).0 q.1 in
        let vs = values.0 p.1 in
        λ i. record { role = role i; entry = entry i; values = vs i }

    from : a ≡ b → key_eq a b ≡ true
    from e =
        both_true (both_true ((role_decides a.role b.role).1 (ap (λ k. k.role) e))
        ((unsigned_Decides a.entry b.entry).1 (ap (λ k. k.entry) e)))
        (values.1 (ap (λ k. k.values) e))

-- the entries, where one key has other numbers
abbrev pub Rewrites : Key → Option Numbers → Entries → Entries → Type 0
Rewrites key w es fs = (q : Key) → found q fs ≡ cond (key_eq key q) w (found q es)

module _ (es fs : Entries) (key : Key) where
  pub changes_there : (n w : Numbers) (change : List ℕ → List ℕ) → found key es ≡ Some n → w.items ≡ change n.items
      → Rewrites key (Some w) es fs → Changes change key es fs
  changes_there n w change there items new q = by (key_eq key q) refl (new q)
    where
      by : (b : Bool) → key_eq key q ≡ b → found q fs ≡ cond b (Some w) (found q es)
          → under q fs ≡ cond b (change (under q es)) (under q es)
      by true e f =
          let same : key ≡ q = (key_decides key q).0 e in
          let old : found q es ≡ Some n = ap (λ k. found k es) (sym same) ∙ there in
          ap items_in f ∙ (items ∙ sym (ap (λ o. change (items_in o)) old))
      by false e f = ap items_in f

  pub keeps_there : (n w : Numbers) → found key es ≡ Some n → (has_room n ≡ true → has_room w ≡ true)
      → Rewrites key (Some w) es fs → KeepsRoom es fs
  keeps_there n w there room new q old = by (key_eq key q) refl (new q)
    where
      by : (b : Bool) → key_eq key q ≡ b → found q fs ≡ cond b (Some w) (found q es) → room_in (found q fs) ≡ true
      by true e f =
          let same : key ≡ q = (key_decides key q).0 e in
          let here : found q es ≡ Some n = ap (λ k. found k es) (sym same) ∙ there in
          ap room_in f ∙ room (sym (ap room_in here) ∙ old)
      by false e f = ap room_in f ∙ old

  pub room_there : (w : Numbers) → has_room w ≡ true → Rewrites key (Some w) es fs → HasRoom fs key
  room_there w room new = ap room_in (new key ∙ ap (λ b. cond b (Some w) (found key es)) ((key_decides key key).1 refl)) ∙ room

  -- a key without an entry gets one without numbers
  pub same_made : (w : Numbers) → found key es ≡ None → w.items ≡ [] → Rewrites key (Some w) es fs → IsSame es fs
  same_made w none items new q = by (key_eq key q) refl (new q)
    where
      by : (b : Bool) → key_eq key q ≡ b → found q fs ≡ cond b (Some w) (found q es) → under q fs ≡ under q es
      by true e f =
          let same : key ≡ q = (key_decides key q).0 e in
          ap items_in f ∙ (items ∙ sym (ap items_in (ap (λ k. found k es) (sym same) ∙ none)))
      by false e f = ap items_in f

  pub keeps_made : (w : Numbers) → found key es ≡ None → Rewrites key (Some w) es fs → KeepsRoom es fs
  keeps_made w none new q old = by (key_eq key q) refl (new q)
    where
      by : (b : Bool) → key_eq key q ≡ b → found q fs ≡ cond b (Some w) (found q es) → room_in (found q fs) ≡ true
      by true e f =
          let same : key ≡ q = (key_decides key q).0 e in
          let no : false ≡ true = sym (ap room_in (ap (λ k. found k es) (sym same) ∙ none)) ∙ old in cc
      by false e f = ap room_in f ∙ old

  -- a key without numbers loses its entry
  pub same_gone : under key es ≡ [] → Rewrites key None es fs → IsSame es fs
  same_gone none new q = by (key_eq key q) refl (new q)
    where
      by : (b : Bool) → key_eq key q ≡ b → found q fs ≡ cond b None (found q es) → under q fs ≡ under q es
      by true e f =
          let same : key ≡ q = (key_decides key q).0 e in
          ap items_in f ∙ sym (ap (λ k. under k es) (sym same) ∙ none)
      by false e f = ap items_in f

  pub no_blank_there : Rewrites key None es fs → IsBlank fs key → ⊥
  no_blank_there new b =
      none-some b.numbers (sym (new key ∙ ap (λ t. cond t None (found key es)) ((key_decides key key).1 refl)) ∙ b.is_found)

  pub no_blank_more : Rewrites key None es fs → MakesNoBlank es fs
  no_blank_more new q b = by (key_eq key q) (new q)
    where
      by : (t : Bool) → found q fs ≡ cond t None (found q es) → IsBlank es q
      by true f = absurd (none-some b.numbers (sym f ∙ b.is_found))
      by false f = record { numbers = b.numbers; is_found = sym f ∙ b.is_found; none = b.none }

  pub same_items : (n w : Numbers) → found key es ≡ Some n → w.items ≡ n.items → Rewrites key (Some w) es fs → IsSame es fs
  same_items n w there items new q =
      changes_there n w (λ ts. ts) there items new q ∙ either (key_eq key q)
    where
      either : (b : Bool) → cond b (under q es) (under q es) ≡ under q es
      either true = refl
      either false = refl

  -- a number that was added is there
  pub takes_there : (n w : Numbers) (t : ℕ) → found key es ≡ Some n → (is_among t w.items ≡ true) → Rewrites key (Some w) es fs
      → CanTakeAll t es fs
  takes_there n w t there among new q old = by (key_eq key q) refl (new q)
    where
      by : (b : Bool) → key_eq key q ≡ b → found q fs ≡ cond b (Some w) (found q es) → can_take t q fs ≡ true
      by true e f = ap (λ o. is_among t (items_in o) || room_in o) f ∙ ap (λ b. b || has_room w) among
      by false e f = ap (λ o. is_among t (items_in o) || room_in o) f ∙ old

pub blank_under : (es : Entries) (key : Key) → IsBlank es key → under key es ≡ []
blank_under es key b = ap items_in b.is_found ∙ b.none

pub true_not_false : (b : Bool) → b ≡ true → b ≡ false → ⊥
true_not_false true e f = cc
true_not_false false e f = cc

-- where nothing is written, a change that leaves no numbers is none
pub unchanged : (es : Entries) (key : Key) (change : List ℕ → List ℕ) → found key es ≡ None → change [] ≡ [] → Changes change key es es
unchanged es key change none empty q = by (key_eq key q) refl
  where
    by : (b : Bool) → key_eq key q ≡ b → under q es ≡ cond b (change (under q es)) (under q es)
    by true e =
        let same : key ≡ q = (key_decides key q).0 e in
        let nothing : under q es ≡ [] = ap items_in (ap (λ k. found k es) (sym same) ∙ none) in
        nothing ∙ sym (ap change nothing ∙ empty)
    by false e = refl

-- ---- numbers that were added

with_among : (t : ℕ) (ts : List ℕ) → is_among t (with_number t ts) ≡ true
with_among t ts = by (is_among t ts) refl
  where
    itself : (t == t) ≡ true
    itself = (unsigned_Decides t t).1 refl

    last : (us : List ℕ) → is_among t (us ++ t ∷ []) ≡ true
    last [] = ap (λ b. b || false) itself
    last (u ∷ us) = ap (λ b. (u == t) || b) (last us) ∙ either (u == t)
      where
        either : (b : Bool) → (b || true) ≡ true
        either true = refl
        either false = refl

    by : (b : Bool) → is_among t ts ≡ b → is_among t (if b then ts else ts ++ t ∷ []) ≡ true
    by true e = e
    by false e = last ts

pub with_is_among : (t : ℕ) (ts : List ℕ) (w : Numbers) → w.items ≡ with_number t ts → is_among t w.items ≡ true
with_is_among t ts w e = ap (is_among t) e ∙ with_among t ts

pub room_takes : (es : Entries) (k : Key) (t : ℕ) → HasRoom es k → can_take t k es ≡ true
room_takes es k t h = ap (λ b. is_among t (under k es) || b) h ∙ either (is_among t (under k es))
  where
    either : (b : Bool) → (b || true) ≡ true
    either true = refl
    either false = refl
