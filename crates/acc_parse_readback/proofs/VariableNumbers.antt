-- Variables by their names: the variable that a name stands for is the one that has the name.
use Rattle.std.proofs.Common.{◌≡◌, ◌<◌, ◌≤◌, ◌+◌, ◌-◌, ℕ, zero, suc, Bool, true, false, List, [], ◌∷◌, ◌++◌, length, Option, refl, sym, ap}
use Rattle.std.proofs.Common.{subst, ◌∙◌, inl, inr, arith, append-nil, length-append}
use Rattle.std.specs.Prelude.{if◌then◌else◌, unwrap_or, codes}
use Rattle.std.specs.Str.{bytes_eq}
use Rattle.std.proofs.lemmas.Bool.{or_parts, cases_lt}
use Rattle.std.proofs.lemmas.List.Folds.{list_any-append}
use Rattle.acc_grammar.specs.Readers.{AllIn}
use Rattle.acc_parse_syntax.specs.declared.trees.Variable.TheVariants.{Named, Oneself}
use Rattle.acc_parse_names.specs.Names.{stands_in}
use Rattle.acc_parse_names.specs.Places.{place_of}
use Rattle.acc_parse_clauses.specs.Scopes.{Variables, fitted, first_own, named, variable_of}
use Rattle.acc_print.specs.Names.{name_at}
use Rattle.acc_parse_readback.specs.Trees.{variable_named, variable_tree}
use Rattle.acc_parse_readback.specs.Printable.{IsName, IsVariable, AreNew}
use Rattle.acc_parse_readback.proofs.NamePlaces.{new_apart, place_new, place_none, fitted_small}
use Rattle.acc_parse_readback.proofs.ValueParts.{not_self}

-- ---- names in a row

name_in_front : (xs ys : List (List ℕ)) (n : ℕ) → n < length xs → name_at (xs ++ ys) n ≡ name_at xs n
name_in_front [] ys n lt = absurd (omega arith)
name_in_front (x ∷ xs) ys zero lt = refl
name_in_front (x ∷ xs) ys (suc n) lt = name_in_front xs ys n (omega arith)

name_behind : (xs ys : List (List ℕ)) (n k : ℕ) → n ≡ length xs + k → name_at (xs ++ ys) n ≡ name_at ys k
name_behind [] ys n k e = ap (name_at ys) (let same : n ≡ k = omega arith in same)
name_behind (x ∷ xs) ys zero k e = absurd (omega arith)
name_behind (x ∷ xs) ys (suc n) k e = name_behind xs ys n k (omega arith)

pub is_name_at : (xs : List (List ℕ)) (n : ℕ) → AllIn IsName xs → n < length xs → IsName (name_at xs n)
is_name_at [] n all lt = absurd (omega arith)
is_name_at (x ∷ xs) zero all lt = all.0
is_name_at (x ∷ xs) (suc n) all lt = is_name_at xs n all.1 (omega arith)

-- a variable that can be spelled is there
pub variable_there : (names : List (List ℕ)) (n : ℕ) → IsVariable (name_at names n) → n < length names
variable_there [] n (inl h) = absurd h.0
variable_there [] n (inr e) = absurd cc
variable_there (x ∷ xs) zero h = omega arith
variable_there (x ∷ xs) (suc n) h = let e = variable_there xs n h in omega arith

-- ---- the names of variables

-- `self`, within types
abbrev itself : Bool → List (List ℕ)
itself b = if b then codes "self" ∷ [] else []

-- what stands before a clause's own variables
abbrev pub front : Variables → List (List ℕ)
front v = v.locals ++ itself v.in_type

-- the variables have these names
pub record Fits (names : List (List ℕ)) (v : Variables) : Type 0 where
  pub all : names ≡ front v ++ v.own
  pub first : length (front v) ≡ first_own v
  pub locals : AllIn IsName v.locals
  pub own : AllIn IsName v.own
  pub new_locals : AreNew [] v.locals
  pub new_own : AreNew (front v) v.own
  pub few_locals : length v.locals ≤ 48
  pub few_own : length v.own ≤ 8

itself_at : (b : Bool) (k : ℕ) → k < length (itself b) → (name_at (itself b) k ≡ codes "self") × (k ≡ 0)
itself_at true zero lt = (refl, refl)
itself_at true (suc k) lt = absurd (omega arith)
itself_at false k lt = absurd (omega arith)

itself_short : (b : Bool) → length (itself b) ≤ 1
itself_short true = omega arith
itself_short false = omega arith

by_name : (v : Variables) (x : List ℕ) → IsName x → variable_of v (variable_named x) ≡ fitted (named v x (place_of x v.locals))
by_name v x h = ap (λ (b : Bool). variable_of v (if b then Oneself else Named x)) (not_self x h.1)

by_self : (v : Variables) (x : List ℕ) → x ≡ codes "self" → variable_of v (variable_named x) ≡ fitted (length v.locals)
by_self v x e = ap (λ (y : List ℕ). variable_of v (variable_named y)) e

module _ (names : List (List ℕ)) (v : Variables) (f : Fits names v) (n : ℕ) where
  local_back : n < length v.locals → variable_of v (variable_named (name_at (front v ++ v.own) n)) ≡ n
  local_back lt =
      let x = name_at v.locals n in
      let same = name_in_front (front v) v.own n (omega (arith, length-append v.locals (itself v.in_type))) ∙ name_in_front v.locals
      (itself v.in_type) n lt in
      ap (λ (y : List ℕ). variable_of v (variable_named y)) same ∙ (by_name v x (is_name_at v.locals n f.locals lt)
      ∙ (ap (λ (o : Option ℕ). fitted (named v x o)) (place_new [] v.locals n f.new_locals lt) ∙ fitted_small n
      (omega (arith, f.few_locals))))

  self_back : length v.locals ≤ n → n < length (front v) → variable_of v (variable_named (name_at (front v ++ v.own) n)) ≡ n
  self_back le lt =
      let long = length-append v.locals (itself v.in_type) in
      let at = itself_at v.in_type (n - length v.locals) (omega (arith, long)) in
      let same = name_in_front (front v) v.own n lt ∙
      (name_behind v.locals (itself v.in_type) n (n - length v.locals) (omega arith) ∙ at.0) in
      let last : n ≡ length v.locals = omega (arith, at.1) in
      by_self v (name_at (front v ++ v.own) n) same ∙ (fitted_small (length v.locals) (omega (arith, f.few_locals)) ∙ sym last)

  own_back : length (front v) ≤ n → n < length (front v ++ v.own) → variable_of v (variable_named (name_at (front v ++ v.own) n)) ≡ n
  own_back le lt =
      let k = n - length (front v) in
      let x = name_at v.own k in
      let within : k < length v.own = omega (arith, length-append (front v) v.own) in
      let apart = sym (list_any-append (bytes_eq x) v.locals (itself v.in_type)) ∙ new_apart (front v) v.own k f.new_own within in
      let none = place_none x v.locals (or_parts (stands_in x v.locals) (stands_in x (itself v.in_type)) apart).0 in
      let there : first_own v + k ≡ n = omega (arith, f.first) in
      let few : first_own v ≤ 49 = omega (
        arith,
        f.first,
        length-append v.locals (itself v.in_type),
        itself_short v.in_type,
        f.few_locals,
      ) in
      ap (λ (y : List ℕ). variable_of v (variable_named y)) (name_behind (front v) v.own n k (omega arith)) ∙
      (by_name v x (is_name_at v.own k f.own within)
      ∙ (ap (λ (o : Option ℕ). fitted (named v x o)) none
      ∙ (ap (λ (o : Option ℕ). fitted (first_own v + unwrap_or o 0)) (place_new (front v) v.own k f.new_own within)
      ∙ (fitted_small (first_own v + k) (omega (arith, f.few_own)) ∙ there))))

pub variable_back : (names : List (List ℕ)) (v : Variables) → Fits names v → (n : ℕ) → IsVariable (name_at names n) →
    variable_of v (variable_tree names n) ≡ n
variable_back names v f n h =
    let lt : n < length (front v ++ v.own) = subst (λ (xs : List (List ℕ)). n < length xs) f.all (variable_there names n h) in
    ap (λ (xs : List (List ℕ)). variable_of v (variable_tree xs n)) f.all ∙ elim (cases_lt n (length v.locals)) [
      | inl before ↦ local_back names v f n before
      | inr le ↦ elim (cases_lt n (length (front v))) [
        | inl before ↦ self_back names v f n le before
        | inr behind ↦ own_back names v f n behind lt
      ]
    ]

-- the variables with a clause's own behind them
abbrev pub with_names : Variables → List (List ℕ) → Variables
with_names v own = record { in_type = v.in_type; locals = v.locals; own = own }

pub fits_own : (names : List (List ℕ)) (v : Variables) (own : List (List ℕ)) → Fits names v → v.own ≡ [] → AllIn IsName own →
    AreNew names own → length own ≤ 8 → Fits (names ++ own) (with_names v own)
fits_own names v own f none spelled new few =
    let same : names ≡ front v = f.all ∙ (ap (λ (xs : List (List ℕ)). front v ++ xs) none ∙ append-nil (front v)) in
    record {
      all = ap (λ (xs : List (List ℕ)). xs ++ own) same;
      first = f.first;
      locals = f.locals;
      own = spelled;
      new_locals = f.new_locals;
      new_own = subst (λ (xs : List (List ℕ)). AreNew xs own) same new;
      few_locals = f.few_locals;
      few_own = few;
    }
