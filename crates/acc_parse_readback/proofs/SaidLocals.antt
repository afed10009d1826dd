-- The names of a type of a tree that is a design's can be spelled: its own, its locals, and those that it returns.
use Rattle.std.proofs.Common.{◌≡◌, ℕ, ◌+◌, ◌≤◌, ◌^◌, Bool, true, false, List, [], ◌∷◌, ◌++◌, length, map, Option, Some, None, refl, ap, sym}
use Rattle.std.proofs.Common.{◌∙◌, subst, arith, append_assoc, length-append}
use Rattle.std.specs.Prelude.{◌||◌, not, nat_lt, unwrap_or}
use Rattle.std.specs.List.{flat_map}
use Rattle.std.proofs.lemmas.Bool.Decides.{nat_tests}
use Rattle.std.proofs.lemmas.List.{append-nil}
use Rattle.acc_grammar.specs.Readers.{AllIn}
use Rattle.acc_lex.specs.declared.words.Sign.{Sign}
use Rattle.acc_lex.specs.declared.words.Sign.TheVariants as sign
use Rattle.acc_parse_syntax.specs.declared.trees.Names.{Names}
use Rattle.acc_parse_syntax.specs.declared.trees.TableTree.{TableTree}
use Rattle.acc_parse_syntax.specs.declared.trees.TypeTree.{TypeTree}
use Rattle.acc_parse_syntax.specs.Spelling.{just, names, names_statement}
use Rattle.acc_parse_names.specs.Names.{stands_in, defines_again, listed, listed_or_none}
use Rattle.acc_parse_names.specs.Scopes.{locals_of}
use Rattle.acc_parse_names.specs.Faults.{returns_faults, locals_faults}
use Rattle.acc_base.specs.declared.limits.Limit.TheVariants as limit
use Rattle.acc_parse_limits.specs.Marks.{past, ending}
use Rattle.acc_parse_limits.specs.Words.{name_marks, names_marks, small_number_marks}
use Rattle.acc_parse_limits.specs.Statements.{returns_marks, locals_marks, head_marks}
use Rattle.acc_parse_clauses.specs.Scopes.{number_of}
use Rattle.acc_print.specs.Names.{name_at, names_within}
use Rattle.acc_parse_readback.specs.Printable.{IsName}
use Rattle.acc_parse_readback.proofs.OnlyEnds.{AreEnds, IsEnd}
use Rattle.acc_parse_readback.proofs.Faultless.{IsFalse, neither}
use Rattle.acc_parse_readback.proofs.SaidParts.{not_past, all_parts, none_false}
use Rattle.acc_parse_readback.proofs.SaidPlaces.{named_there}
use Rattle.acc_parse_readback.proofs.SaidNames.{AreHeard, IsHeard, Setting, stands_true}
use Rattle.acc_parse_readback.proofs.SaidClauses.{names_said}

-- ---- within a type

-- within a type, whatever holds outside
pub not_outside : {A : Type 0} → true ≡ false → A
not_outside e = absurd cc

-- the setting within a type, where `self` may stand or not
abbrev pub within_type : (own : Bool) (trees : List TableTree) (locals : List (List ℕ)) → length trees ≤ 64 →
    AllIn (λ (t : TableTree). length t.columns ≤ 12) trees → length locals ≤ 48 → Setting
within_type own trees locals few columns few_locals = record {
  own = own;
  in_type = true;
  trees = trees;
  locals = locals;
  mine = [];
  names = names_within locals;
  known = locals;
  names_are = sym (append-nil (names_within locals));
  known_are = sym (append-nil locals);
  no_self = not_outside;
  no_locals = not_outside;
  few_tables = few;
  few_columns = columns;
  few_locals = few_locals;
  few_mine = omega arith;
}

-- ---- locals

few_params : (t : TypeTree) → AreEnds (head_marks t) → length t.params ≤ 48
few_params t marks =
    let ends = all_parts IsEnd (past limit.Locals (nat_lt 48 (length t.params)))
    (name_marks t.name ++ (flat_map name_marks t.params ++ (ending ++ (small_number_marks t.limit ++ ending)))) marks in
    let short : nat_lt 48 (length t.params) ≡ false = not_past limit.Locals (nat_lt 48 (length t.params)) ends.0 in
    grind (arith, nat_tests)

few_by : (params : List (List ℕ)) (ls : Option Names) → length params ≤ 48 → AreEnds (locals_marks (length params) ls) →
    length (params ++ listed_or_none ls) ≤ 48
few_by params None few marks = let same = length-append params [] in omega (arith, few, same)
few_by params (Some ns) few marks =
    let ends = all_parts IsEnd (past limit.Locals (nat_lt 47 (length params + length ns.others))) (names_marks ns ++ ending) marks in
    let short : nat_lt 47 (length params + length ns.others) ≡ false =
    not_past limit.Locals (nat_lt 47 (length params + length ns.others)) ends.0 in
    let fewer : length params + length ns.others ≤ 47 = grind (arith, nat_tests) in
    let same : length (params ++ listed ns) ≡ length params + length (listed ns) = length-append params (listed ns) in
    omega (arith, fewer, same)

-- a type has at most 48 locals
pub few_locals : (t : TypeTree) → AreEnds (head_marks t) → AreEnds (locals_marks (length t.params) t.locals) → length (locals_of t) ≤ 48
few_locals t head marks = few_by t.params t.locals (few_params t head) marks

-- the names of a statement that may be left out
pub listed_said : (own : Bool) (s : Sign) (ns : Option Names) → AreHeard own (names_statement s ns) → AreEnds (returns_marks ns) →
    AllIn IsName (listed_or_none ns)
listed_said own s None heard marks = tt
listed_said own s (Some ns) heard marks = names_said own ns (all_parts (IsHeard own) (names ns) (just sign.End) heard.1).0
    (all_parts IsEnd (names_marks ns) ending marks).0

pub locals_said : (own : Bool) (params : ℕ) (ns : Option Names) → AreHeard own (names_statement sign.Local ns) →
    AreEnds (locals_marks params ns) → AllIn IsName (listed_or_none ns)
locals_said own params None heard marks = tt
locals_said own params (Some ns) heard marks =
    let ends = all_parts IsEnd (past limit.Locals (nat_lt 47 (params + length ns.others))) (names_marks ns ++ ending) marks in
    names_said own ns (all_parts (IsHeard own) (names ns) (just sign.End) heard.1).0 (all_parts IsEnd (names_marks ns) ending ends.1).0

or_assoc : (a b c : Bool) → (a || (b || c)) ≡ ((a || b) || c)
or_assoc true b c = refl
or_assoc false b c = refl

defines_both : (earlier xs ys : List (List ℕ)) →
    defines_again earlier (xs ++ ys) ≡ (defines_again earlier xs || defines_again (earlier ++ xs) ys)
defines_both earlier [] ys = ap (λ (zs : List (List ℕ)). defines_again zs ys) (sym (append-nil earlier))
defines_both earlier (x ∷ xs) ys =
    ap (λ (b : Bool). stands_in x earlier || b) (defines_both (earlier ++ x ∷ []) xs ys)
    ∙ (ap (λ (zs : List (List ℕ)). stands_in x earlier || (defines_again (earlier ++ x ∷ []) xs || defines_again zs ys))
    (append_assoc earlier (x ∷ []) xs)
    ∙ or_assoc (stands_in x earlier) (defines_again (earlier ++ x ∷ []) xs) (defines_again (earlier ++ (x ∷ xs)) ys))

others_new : (params : List (List ℕ)) (ns : Option Names) → AllIn IsFalse (locals_faults params ns) →
    defines_again params (listed_or_none ns) ≡ false
others_new params None h = refl
others_new params (Some ns) h = h.0

-- no local is defined a second time
pub new_locals : (t : TypeTree) → defines_again [] t.params ≡ false → AllIn IsFalse (locals_faults t.params t.locals) →
    defines_again [] (locals_of t) ≡ false
new_locals t first faults =
    defines_both [] t.params (listed_or_none t.locals) ∙ neither (defines_again [] t.params)
    (defines_again t.params (listed_or_none t.locals)) first (others_new t.params t.locals faults)

-- ---- what is returned

listed_stand : (locals : List (List ℕ)) (ns : Option Names) → AllIn IsFalse (returns_faults locals ns) →
    AllIn (λ x. not (stands_in x locals) ≡ false) (listed_or_none ns)
listed_stand locals None h = tt
listed_stand locals (Some ns) h = none_false (λ x. not (stands_in x locals)) (listed ns) h.0

returned_names : (locals xs : List (List ℕ)) → length locals ≤ 48 → AllIn IsName xs → AllIn (λ x. not (stands_in x locals) ≡ false) xs →
    AllIn IsName (map (name_at locals) (map (λ (x : List ℕ). number_of x locals) xs))
returned_names locals [] few h stand = tt
returned_names locals (x ∷ xs) few h stand =
    let fewer : length locals ≤ 2 ^ 32 = omega (arith, few) in
    let there = named_there x locals (stands_true x locals stand.0) fewer in
    (subst IsName (sym (ap (λ (o : Option (List ℕ)). unwrap_or o []) there)) h.0, returned_names locals xs few h.1 stand.1)

pub returned_said : (own : Bool) (locals : List (List ℕ)) (ns : Option Names) → length locals ≤ 48 →
    AreHeard own (names_statement sign.Returns ns) → AreEnds (returns_marks ns) → AllIn IsFalse (returns_faults locals ns)
    → AllIn IsName (map (name_at locals) (map (λ (x : List ℕ). number_of x locals) (listed_or_none ns)))
returned_said own locals ns few heard marks faults =
    returned_names locals (listed_or_none ns) few (listed_said own sign.Returns ns heard marks) (listed_stand locals ns faults)
