-- What is added to a list, one after the other.
use Rattle.std.proofs.Common.{◌≡◌, ℕ, ◌+◌, ◌<◌, Bool, true, false, ◌&&◌, ◌||◌, List, [], ◌∷◌, ◌++◌, length, take, get_or, refl, sym}
use Rattle.std.proofs.Common.{ap, ◌∙◌}
use Rattle.std.specs.Prelude.{◌==◌}
use Rattle.std.specs.Cmp.{unsigned_Decides}
use Rattle.std.specs.List.{list_any}
use Rattle.std.proofs.lemmas.Bool.{and_parts}
use Rattle.std.proofs.lemmas.List.Folds.{list_any_more, list_any-append}
use Rattle.acc_index_store.specs.declared.prefixes.Prefixes.{Prefixes}
use Rattle.acc_index_store.specs.Asked.{is_alike, Adds}

or_assoc : (a b c : Bool) → ((a || b) || c) ≡ (a || (b || c))
or_assoc true b c = refl
or_assoc false b c = refl

or_false : (b : Bool) → (b || false) ≡ b
or_false true = refl
or_false false = refl

or_same : (a b : Bool) → (b ≡ true → a ≡ true) → a ≡ (a || b)
or_same true b h = refl
or_same false true h = h refl
or_same false false h = refl

alike_is : (a b : Prefixes) → is_alike a b ≡ true → a ≡ b
alike_is a b h =
    let all = and_parts ((a.table == b.table) && (a.parts == b.parts)) (a.col == b.col) h in
    let both = and_parts (a.table == b.table) (a.parts == b.parts) all.0 in
    let table = (unsigned_Decides a.table b.table).0 both.0 in
    let parts = (unsigned_Decides a.parts b.parts).0 both.1 in
    let col = (unsigned_Decides a.col b.col).0 all.1 in
    λ i. record { table = table i; parts = parts i; col = col i }

-- what is there need not be added
pub adds_there : (ks : List Prefixes) (l : Prefixes) → list_any (is_alike l) ks ≡ true → Adds (λ k. is_alike k l) ks ks
adds_there ks l h k = or_same (list_any (is_alike k) ks) (is_alike k l) (λ e. ap (λ x. list_any (is_alike x) ks) (alike_is k l e) ∙ h)

pub adds_new : (ks ls : List Prefixes) (l : Prefixes) → ls ≡ ks ++ l ∷ [] → Adds (λ k. is_alike k l) ks ls
adds_new ks ls l e k =
    ap (list_any (is_alike k)) e ∙ list_any-append (is_alike k) ks (l ∷ []) ∙ ap (λ b. list_any (is_alike k) ks || b) (or_false
    (is_alike k l))

pub adds_none : (test : Prefixes → Bool) (ks : List Prefixes) → ((k : Prefixes) → test k ≡ false) → Adds test ks ks
adds_none test ks h k = sym (ap (λ b. list_any (is_alike k) ks || b) (h k) ∙ or_false (list_any (is_alike k) ks))

pub adds_both : (one two : Prefixes → Bool) (ks ls ms : List Prefixes) → Adds one ks ls → Adds two ls ms → Adds (λ k. one k || two k) ks ms
adds_both one two ks ls ms first second k =
    second k ∙ ap (λ b. b || two k) (first k) ∙ or_assoc (list_any (is_alike k) ks) (one k) (two k)

module _ {X : Type 0} (test : Prefixes → X → Bool) where
  pub adds_more : (xs : List X) (i : ℕ) (x : X) (ks ls ms : List Prefixes) → i < length xs → x ≡ get_or xs i x →
      Adds (λ k. list_any (test k) (take i xs)) ks ls → Adds (λ k. test k x) ls ms → Adds (λ k. list_any (test k) (take (i + 1) xs)) ks ms
  adds_more xs i x ks ls ms within here before added k =
      adds_both (λ k. list_any (test k) (take i xs)) (λ k. test k x) ks ls ms before added k ∙
      ap (λ b. list_any (is_alike k) ks || b)
      (sym (list_any_more (test k) xs i x within ∙ ap (λ y. list_any (test k) (take i xs) || test k y) (sym here)))
