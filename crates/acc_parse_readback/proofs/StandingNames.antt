-- Names that stand among others: by their number, in a scope with `self` and without it, and items whose names are new.
use Rattle.std.proofs.Common.{◌≡◌, ℕ, zero, suc, Bool, true, false, ◌||◌, List, [], ◌∷◌, ◌++◌, map, Some, refl, sym, ap, subst, ◌∙◌, cond}
use Rattle.std.proofs.Math.Bool.{or-false}
use Rattle.std.specs.Prelude.{slice_get, codes}
use Rattle.std.specs.List.{find}
use Rattle.std.specs.Str.{bytes_eq}
use Rattle.std.proofs.lemmas.List.Folds.{list_any-append}
use Rattle.std.proofs.lemmas.Slice.Eq.{bytes_eq-Decides}
use Rattle.acc_grammar.specs.Readers.{AllIn}
use Rattle.acc_parse_names.specs.Names.{stands_in, defines_again}
use Rattle.acc_print.specs.Names.{name_at, names_within}
use Rattle.acc_parse_readback.specs.Printable.{IsName}
use Rattle.acc_parse_readback.proofs.ValueParts.{not_self}
use Rattle.acc_parse_readback.proofs.Faultless.{not_either}

-- ---- names by their numbers

pub itself : (x : List ℕ) → bytes_eq x x ≡ true
itself x = (bytes_eq-Decides x x).1 refl

or_first : (a b : Bool) → a ≡ true → (a || b) ≡ true
or_first true b h = refl
or_first false b h = absurd cc

or_second : (a b : Bool) → b ≡ true → (a || b) ≡ true
or_second true b h = refl
or_second false b h = h

-- a name with a number is among the names
pub stands_at : (names : List (List ℕ)) (n : ℕ) → IsName (name_at names n) → stands_in (name_at names n) names ≡ true
stands_at [] n h = absurd h.0
stands_at (y ∷ ys) zero h = or_first (bytes_eq y y) (stands_in y ys) (itself y)
stands_at (y ∷ ys) (suc n) h = or_second (bytes_eq (name_at ys n) y) (stands_in (name_at ys n) ys) (stands_at ys n h)

-- so is a name that stands at a number
pub stands_there : (names : List (List ℕ)) (n : ℕ) (x : List ℕ) → slice_get names n ≡ Some x → stands_in x names ≡ true
stands_there [] n x at = absurd cc
stands_there (y ∷ ys) zero x at = let is : y ≡ x = cc in or_first (bytes_eq x y) (stands_in x ys) (ap (bytes_eq x) is ∙ itself x)
stands_there (y ∷ ys) (suc n) x at = or_second (bytes_eq x y) (stands_in x ys) (stands_there ys n x at)

-- ---- the same names, whether with `self` or without

abbrev pub AreSame : List (List ℕ) → List (List ℕ) → Type 0
AreSame names variables = (x : List ℕ) → IsName x → stands_in x names ≡ stands_in x variables

pub same_within : (locals : List (List ℕ)) → AreSame (names_within locals) locals
same_within locals x h =
    list_any-append (bytes_eq x) locals (codes "self" ∷ []) ∙ ap (λ (b : Bool). stands_in x locals || (b || false)) (not_self x h.1) ∙
    or-false (stands_in x locals)

pub same_with : (names variables own : List (List ℕ)) → AreSame names variables → AreSame (names ++ own) (variables ++ own)
same_with names variables own same x h =
    list_any-append (bytes_eq x) names own ∙ ap (λ (b : Bool). b || stands_in x own) (same x h) ∙ sym
    (list_any-append (bytes_eq x) variables own)

-- what is new behind the one is new behind the other
pub same_new : (names variables own : List (List ℕ)) → AreSame names variables → AllIn IsName own →
    defines_again names own ≡ defines_again variables own
same_new names variables [] same h = refl
same_new names variables (x ∷ xs) same h =
    ap (λ (b : Bool). b || defines_again (names ++ x ∷ []) xs) (same x h.0)
    ∙ ap (λ (b : Bool). stands_in x variables || b)
    (same_new (names ++ x ∷ []) (variables ++ x ∷ []) xs (same_with names variables (x ∷ []) same) h.1)

-- ---- items whose names are new

-- a later name is none of the earlier ones
not_among : (earlier names : List (List ℕ)) (n : ℕ) (x : List ℕ) → defines_again earlier names ≡ false → slice_get names n ≡ Some x →
    stands_in x earlier ≡ false
not_among earlier [] n x new at = absurd cc
not_among earlier (y ∷ ys) zero x new at =
    let is : y ≡ x = cc in subst (λ (z : List ℕ). stands_in z earlier ≡ false) is
    (not_either (stands_in y earlier) (defines_again (earlier ++ y ∷ []) ys) new).0
not_among earlier (y ∷ ys) (suc n) x new at =
    let later = not_among (earlier ++ y ∷ []) ys n x (not_either (stands_in y earlier) (defines_again (earlier ++ y ∷ []) ys) new).1 at in
    (not_either (stands_in x earlier) (stands_in x (y ∷ [])) (sym (list_any-append (bytes_eq x) earlier (y ∷ [])) ∙ later)).0

-- a later name isn't the one before it
not_before : (earlier names : List (List ℕ)) (n : ℕ) (x y : List ℕ) → defines_again earlier (y ∷ names) ≡ false →
    slice_get names n ≡ Some x → bytes_eq x y ≡ false
not_before earlier names n x y new at =
    let later = not_among (earlier ++ y ∷ []) names n x (not_either (stands_in y earlier) (defines_again (earlier ++ y ∷ []) names) new).1
    at in
    let last = (not_either (stands_in x earlier) (stands_in x (y ∷ [])) (sym (list_any-append (bytes_eq x) earlier (y ∷ [])) ∙ later)).1 in
    (not_either (bytes_eq x y) false last).0

pub named_at : {T : Type 0} (name : T → List ℕ) (ts : List T) (n : ℕ) (t : T) → slice_get ts n ≡ Some t →
    slice_get (map name ts) n ≡ Some (name t)
named_at name [] n t at = absurd cc
named_at name (s ∷ ts) zero t at = let is : s ≡ t = cc in ap (λ z. Some (name z)) is
named_at name (s ∷ ts) (suc n) t at = named_at name ts n t at

-- the item with a number is the first of its name
pub found_new : {T U : Type 0} (name : T → List ℕ) (title : U → List ℕ) (tree : T → U) → ((t : T) → title (tree t) ≡ name t) →
    (earlier : List (List ℕ)) (ts : List T) (n : ℕ) (t : T) → defines_again earlier (map name ts) ≡ false → slice_get ts n ≡ Some t →
    find (λ u. bytes_eq (name t) (title u)) (map tree ts) ≡ Some (tree t)
found_new name title tree titled earlier [] n t new at = absurd cc
found_new {T} {U} name title tree titled earlier (s ∷ ts) zero t new at =
    let is : s ≡ t = cc in
    let same : bytes_eq (name t) (title (tree s)) ≡ true = ap (bytes_eq (name t)) (titled s ∙ ap name is) ∙ itself (name t) in
    ap (λ (b : Bool). cond b (Some (tree s)) (find (λ u. bytes_eq (name t) (title u)) (map tree ts))) same ∙ ap (λ z. Some (tree z)) is
found_new name title tree titled earlier (s ∷ ts) (suc n) t new at =
    let other : bytes_eq (name t) (title (tree s)) ≡ false =
    ap (bytes_eq (name t)) (titled s) ∙ not_before earlier (map name ts) n (name t) (name s) new (named_at name ts n t at) in
    ap (λ (b : Bool). cond b (Some (tree s)) (find (λ u. bytes_eq (name t) (title u)) (map tree ts))) other
    ∙ found_new name title tree titled (earlier ++ name s ∷ []) ts n t
    (not_either (stands_in (name s) earlier) (defines_again (earlier ++ name s ∷ []) (map name ts)) new).1 at
