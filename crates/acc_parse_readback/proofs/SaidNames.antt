-- The names of a tree that is a design's can be spelled, and the number of a variable has its name.
use Rattle.std.proofs.Common.{◌≡◌, ℕ, ◌+◌, ◌^◌, ◌<◌, ◌≤◌, Bool, true, false, List, [], ◌∷◌, ◌++◌, length, get_or, Option, Some, None, refl}
use Rattle.std.proofs.Common.{ap, sym, ◌∙◌, subst, inl, inr, arith, append_assoc, length-append}
use Rattle.std.specs.Prelude.{◌||◌, not, nat_lt, unwrap_or, codes, slice_get, is_some, if◌then◌else◌}
use Rattle.std.specs.Str.{bytes_eq}
use Rattle.std.proofs.lemmas.Bool.Decides.{nat_tests}
use Rattle.std.proofs.lemmas.List.{get_or_append_left, get_or-append-add}
use Rattle.std.proofs.Math.Seq.{get_or-append_seam}
use Rattle.std.proofs.lemmas.List.Folds.{list_any-append}
use Rattle.std.proofs.lemmas.Option.{unwrap_or-slice_get, get_or_from_slice_get}
use Rattle.acc_grammar.specs.Readers.{AllIn}
use Rattle.acc_lex.specs.declared.words.Word.{Word}
use Rattle.acc_lex.specs.declared.words.Word.TheVariants as word
use Rattle.acc_lex.specs.declared.words.Sign.TheVariants as sign
use Rattle.acc_lex.specs.Words.{CanSpell}
use Rattle.acc_parse_syntax.specs.declared.trees.Variable.{Variable}
use Rattle.acc_parse_syntax.specs.declared.trees.Variable.TheVariants.{Named, Oneself}
use Rattle.acc_parse_syntax.specs.declared.trees.TableTree.{TableTree}
use Rattle.acc_parse_syntax.specs.Spelling.{name, variable}
use Rattle.acc_parse_names.specs.Names.{stands_in}
use Rattle.acc_parse_names.specs.Places.{place_of}
use Rattle.acc_parse_names.specs.Faults.{variable_fault}
use Rattle.acc_parse_names.proofs.Placed.{placed_stands}
use Rattle.acc_base.specs.declared.limits.Limit.TheVariants as limit
use Rattle.acc_parse_limits.specs.Words.{name_marks, variable_marks}
use Rattle.acc_parse_clauses.specs.Scopes.{Variables, fitted, first_own, named, variable_of}
use Rattle.acc_print.specs.Names.{name_at, names_within}
use Rattle.acc_parse_readback.specs.Printable.{IsName, IsVariable}
use Rattle.acc_parse_readback.proofs.OnlyEnds.{AreEnds}
use Rattle.acc_parse_readback.proofs.SaidParts.{not_past, all_by_two}
use Rattle.acc_parse_readback.proofs.SaidPlaces.{IsPlacedAt, stands_there, fitted_same}

-- ---- words

-- `self`
abbrev pub is_oneself : Word → Bool
is_oneself (word.Sign sign.Oneself) = true
is_oneself w = false

-- the word can be spelled, and isn't `self` where that may not stand
abbrev pub IsHeard : Bool → Word → Type 0
IsHeard own w = CanSpell w × (own ≡ false → is_oneself w ≡ false)

abbrev pub AreHeard : Bool → List Word → Type 0
AreHeard own words = AllIn (IsHeard own) words

-- ---- names

pub is_name : (own : Bool) (x : List ℕ) → AreHeard own (name x) → AreEnds (name_marks x) → IsName x
is_name own x heard marks =
    let short : nat_lt 32 (length x) ≡ false = not_past limit.NameLength (nat_lt 32 (length x)) marks in
    let few : length x ≤ 32 = grind (arith, nat_tests) in
    (heard.0.0.0, heard.0.0.1, few)

pub are_names : (own : Bool) (xs : List (List ℕ)) → AllIn (λ x. AreHeard own (name x)) xs → AllIn (λ x. AreEnds (name_marks x)) xs →
    AllIn IsName xs
are_names own xs heard marks = all_by_two (λ x. AreHeard own (name x)) (λ x. AreEnds (name_marks x)) IsName xs (is_name own) heard marks

-- ---- variables

-- how a variable is written
abbrev pub written : Variable → List ℕ
written (Named x) = x
written Oneself = codes "self"

pub is_variable : (own : Bool) (x : Variable) → AreHeard own (variable x) → AreEnds (variable_marks x) → IsVariable (written x)
is_variable own (Named x) heard marks = inl (is_name own x heard marks)
is_variable own Oneself heard marks = inr refl

-- where `self` may not stand, the variable has a name
pub is_named : (x : Variable) → AreHeard false (variable x) → AreEnds (variable_marks x) → IsName (written x)
is_named (Named x) heard marks = is_name false x heard marks
is_named Oneself heard marks = absurd (let wrong = heard.0.1 refl in cc)

-- ---- what can be named

-- the names by their numbers: within a type the locals, `self`, and a clause's own variables; outside types the last alone
abbrev pub names_by : Bool → List (List ℕ) → List (List ℕ) → List (List ℕ)
names_by true locals mine = names_within locals ++ mine
names_by false locals mine = mine

-- where a value stands: whether `self` may stand there, whether it is within a type, the tables, the locals and a clause's own variables;
-- the names as they are printed, and those that are known
pub record Setting : Type 0 where
  pub own : Bool
  pub in_type : Bool
  pub trees : List TableTree
  pub locals : List (List ℕ)
  pub mine : List (List ℕ)
  pub names : List (List ℕ)
  pub known : List (List ℕ)
  pub names_are : names ≡ names_by in_type locals mine
  pub known_are : known ≡ locals ++ mine
  pub no_self : in_type ≡ false → own ≡ false
  pub no_locals : in_type ≡ false → locals ≡ []
  pub few_tables : length trees ≤ 64
  pub few_columns : AllIn (λ (t : TableTree). length t.columns ≤ 12) trees
  pub few_locals : length locals ≤ 48
  pub few_mine : length mine ≤ 8

abbrev pub variables_of : Setting → Variables
variables_of a = record { in_type = a.in_type; locals = a.locals; own = a.mine }

name_got : (names : List (List ℕ)) (n : ℕ) → name_at names n ≡ get_or names n []
name_got names n = unwrap_or-slice_get names n []

got_there : (x : List ℕ) (names : List (List ℕ)) (i : ℕ) → slice_get names i ≡ Some x → get_or names i [] ≡ x
got_there x names i h = get_or_from_slice_get names i x [] h

self_there : (locals mine : List (List ℕ)) → length locals ≤ 48 →
    name_at (names_by true locals mine) (fitted (length locals)) ≡ codes "self"
self_there locals mine few =
    let small : length locals < 2 ^ 32 = omega (arith, few) in
    ap (name_at (names_by true locals mine)) (fitted_same (length locals) small)
    ∙ ap (λ (names : List (List ℕ)). name_at names (length locals)) (append_assoc locals (codes "self" ∷ []) mine)
    ∙ (name_got (locals ++ (codes "self" ∷ mine)) (length locals) ∙ get_or-append_seam locals (codes "self") mine [])

local_there : (b : Bool) (locals mine : List (List ℕ)) (x : List ℕ) (p : IsPlacedAt x locals) → (b ≡ false → locals ≡ []) →
    length locals ≤ 48 → name_at (names_by b locals mine) (fitted p.number) ≡ x
local_there true locals mine x p h few =
    let within = p.within in
    let small : p.number < 2 ^ 32 = omega (arith, few, within) in
    ap (name_at (names_by true locals mine)) (fitted_same p.number small)
    ∙ (ap (λ (names : List (List ℕ)). name_at names p.number) (append_assoc locals (codes "self" ∷ []) mine)
    ∙ (name_got (locals ++ (codes "self" ∷ mine)) p.number ∙
    (get_or_append_left locals (codes "self" ∷ mine) [] p.number within ∙ got_there x locals p.number p.there)))
local_there false locals mine x p h few =
    absurd (let within = subst (λ (names : List (List ℕ)). p.number < length names) (h refl) p.within in omega (arith, within))

mine_there : (b : Bool) (locals mine : List (List ℕ)) (x : List ℕ) (p : IsPlacedAt x mine) → length locals ≤ 48 → length mine ≤ 8 →
    name_at (names_by b locals mine) (fitted ((if b then length locals + 1 else 0) + p.number)) ≡ x
mine_there true locals mine x p few fewer =
    let within = p.within in
    let small : length locals + 1 + p.number < 2 ^ 32 = omega (arith, few, fewer, within) in
    let long : length (locals ++ codes "self" ∷ []) ≡ length locals + 1 = length-append locals (codes "self" ∷ []) in
    ap (name_at (names_by true locals mine)) (fitted_same (length locals + 1 + p.number) small)
    ∙ (name_got (names_within locals ++ mine) (length locals + 1 + p.number)
    ∙ (ap (λ (n : ℕ). get_or (names_within locals ++ mine) (n + p.number) []) (sym long)
    ∙ (get_or-append-add (names_within locals) mine p.number [] ∙ got_there x mine p.number p.there)))
mine_there false locals mine x p few fewer =
    let within = p.within in
    let small : 0 + p.number < 2 ^ 32 = omega (arith, fewer, within) in
    let none : 0 + p.number ≡ p.number = omega arith in
    ap (name_at mine) (fitted_same (0 + p.number) small) ∙
    (ap (name_at mine) none ∙ (name_got mine p.number ∙ got_there x mine p.number p.there))

no_place : (x : List ℕ) (names : List (List ℕ)) → place_of x names ≡ None → stands_in x names ≡ false
no_place x names h = sym (placed_stands x names) ∙ ap is_some h

the_number : (x : List ℕ) (names : List (List ℕ)) (i : ℕ) (p : IsPlacedAt x names) → place_of x names ≡ Some i → i ≡ p.number
the_number x names i p h = let same : Some i ≡ Some p.number = sym h ∙ p.is in cc

or_second : (a b : Bool) → (a || b) ≡ true → a ≡ false → b ≡ true
or_second true b h e = absurd cc
or_second false b h e = h

pub stands_true : (x : List ℕ) (names : List (List ℕ)) → not (stands_in x names) ≡ false → stands_in x names ≡ true
stands_true x names h = by (stands_in x names) h
  where
    by : (b : Bool) → not b ≡ false → b ≡ true
    by true e = refl
    by false e = absurd cc

-- the number of a name has the name
named_again : (a : Setting) (x : List ℕ) (o : Option ℕ) → place_of x a.locals ≡ o → stands_in x (a.locals ++ a.mine) ≡ true →
    name_at (names_by a.in_type a.locals a.mine) (fitted (named (variables_of a) x o)) ≡ x
named_again a x (Some i) e h =
    let p = stands_there x a.locals (sym (placed_stands x a.locals) ∙ ap is_some e) in
    ap (λ (n : ℕ). name_at (names_by a.in_type a.locals a.mine) (fitted n)) (the_number x a.locals i p e) ∙ local_there a.in_type a.locals
    a.mine x p a.no_locals a.few_locals
named_again a x None e h =
    let second = or_second (stands_in x a.locals) (stands_in x a.mine) (sym (list_any-append (bytes_eq x) a.locals a.mine) ∙ h)
    (no_place x a.locals e) in
    let p = stands_there x a.mine second in
    ap (λ (o : Option ℕ). name_at (names_by a.in_type a.locals a.mine) (fitted (first_own (variables_of a) + unwrap_or o 0))) p.is ∙
    mine_there a.in_type a.locals a.mine x p a.few_locals a.few_mine

self_again : (a : Setting) (b : Bool) → a.in_type ≡ b → AreHeard a.own (variable Oneself) →
    name_at (names_by a.in_type a.locals a.mine) (fitted (length a.locals)) ≡ codes "self"
self_again a true e heard = ap (λ (b : Bool). name_at (names_by b a.locals a.mine) (fitted (length a.locals))) e ∙ self_there a.locals
    a.mine a.few_locals
self_again a false e heard = absurd (let wrong = heard.0.1 (a.no_self e) in cc)

pub name_again : (a : Setting) (x : Variable) → AreHeard a.own (variable x) → variable_fault a.known x ≡ false →
    name_at a.names (variable_of (variables_of a) x) ≡ written x
name_again a (Named x) heard known =
    ap (λ (names : List (List ℕ)). name_at names (variable_of (variables_of a) (Named x))) a.names_are
    ∙ named_again a x (place_of x a.locals) refl (ap (stands_in x) (sym a.known_are) ∙ stands_true x a.known known)
name_again a Oneself heard known =
    ap (λ (names : List (List ℕ)). name_at names (fitted (length a.locals))) a.names_are ∙ self_again a a.in_type refl heard

-- a variable that is known can be spelled
pub variable_said : (a : Setting) (x : Variable) → AreHeard a.own (variable x) → variable_fault a.known x ≡ false →
    AreEnds (variable_marks x) → IsVariable (name_at a.names (variable_of (variables_of a) x))
variable_said a x heard known marks = subst IsVariable (sym (name_again a x heard known)) (is_variable a.own x heard marks)

-- where `self` may not stand, it has a name
pub name_said : (a : Setting) (x : Variable) → a.own ≡ false → AreHeard a.own (variable x) → variable_fault a.known x ≡ false →
    AreEnds (variable_marks x) → IsName (name_at a.names (variable_of (variables_of a) x))
name_said a x e heard known marks = subst IsName (sym (name_again a x heard known))
    (is_named x (subst (λ (b : Bool). AreHeard b (variable x)) e heard) marks)
