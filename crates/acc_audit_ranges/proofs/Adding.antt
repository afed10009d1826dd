-- What is added to a set of numbers, one after the other.
use Rattle.std.proofs.Common.{◌≡◌, ℕ, zero, suc, ◌+◌, ◌<◌, ◌≤◌, arith, slice_get, None, Bool, true, false, cond, ◌||◌, List, [], ◌∷◌, length, take, get_or}
use Rattle.std.proofs.Common.{refl, sym, ap, ◌∙◌, ℤ}
use Rattle.std.specs.List.{list_any}
use Rattle.std.specs.Ordering.{int_cmp}
use Rattle.std.specs.BTreeSet.{BTreeSet, contains, Updates}
use Rattle.std.proofs.lemmas.List.Folds.{list_any_more}
use Rattle.acc_audit_ranges.specs.Ranges.{Adds, same}

pub or_assoc : (a b c : Bool) → ((a || b) || c) ≡ (a || (b || c))
or_assoc true b c = refl
or_assoc false b c = refl

pub or_false : (b : Bool) → (b || false) ≡ b
or_false true = refl
or_false false = refl

cond_or : (b c : Bool) → cond b true c ≡ (c || b)
cond_or true true = refl
cond_or true false = refl
cond_or false true = refl
cond_or false false = refl

pub adds_one : (x : ℤ) (old new : BTreeSet ℤ) → Updates int_cmp old new x true → Adds (same x) old new
adds_one x old new u q = u.0 q ∙ cond_or (same x q) (contains int_cmp old q)

pub adds_none : (test : ℤ → Bool) (s : BTreeSet ℤ) → ((q : ℤ) → test q ≡ false) → Adds test s s
adds_none test s none q = sym (ap (λ b. contains int_cmp s q || b) (none q) ∙ or_false (contains int_cmp s q))

pub adds_both : (one two : ℤ → Bool) (a b c : BTreeSet ℤ) → Adds one a b → Adds two b c → Adds (λ q. one q || two q) a c
adds_both one two a b c first second q =
    second q ∙ ap (λ x. x || two q) (first q) ∙ or_assoc (contains int_cmp a q) (one q) (two q)

pub adds_like : (one two : ℤ → Bool) (a b : BTreeSet ℤ) → ((q : ℤ) → one q ≡ two q) → Adds one a b → Adds two a b
adds_like one two a b like adds q = adds q ∙ ap (λ x. contains int_cmp a q || x) (like q)

module _ {X : Type 0} (test : X → ℤ → Bool) where
  pub adds_more : (xs : List X) (i : ℕ) (x d : X) (a b c : BTreeSet ℤ) → i < length xs → x ≡ get_or xs i d →
      Adds (λ q. list_any (λ y. test y q) (take i xs)) a b → Adds (test x) b c →
      Adds (λ q. list_any (λ y. test y q) (take (i + 1) xs)) a c
  adds_more xs i x d a b c within here before added q =
      adds_both (λ q. list_any (λ y. test y q) (take i xs)) (test x) a b c before added q
      ∙ ap (λ z. contains int_cmp a q || z)
      (ap (λ y. list_any (λ z. test z q) (take i xs) || test y q) here ∙ sym (list_any_more (λ y. test y q) xs i d within))

-- ---- an item that is there, or isn't

pub none_past : {X : Type 0} (xs : List X) (i : ℕ) → length xs ≤ i → slice_get xs i ≡ None
none_past [] i h = refl
none_past (x ∷ xs) zero h = absurd (omega arith)
none_past (x ∷ xs) (suc i) h = none_past xs i (omega arith)

-- ---- a walk over items

pub walk_more : {X : Type 0} (g : X → Bool) (a b : Bool) (x : X) (rest all : List X) → b ≡ (a || g x) → all ≡ x ∷ rest →
    (b || list_any g rest) ≡ (a || list_any g all)
walk_more g a b x rest all more step =
    ap (λ z. z || list_any g rest) more ∙ or_assoc a (g x) (list_any g rest) ∙ ap (λ l. a || list_any g l) (sym step)

pub walk_end : {X : Type 0} (g : X → Bool) (a whole : Bool) (rest : List X) → rest ≡ [] → (a || list_any g rest) ≡ whole → a ≡ whole
walk_end g a whole rest none is = sym (or_false a) ∙ ap (λ l. a || list_any g l) (sym none) ∙ is
