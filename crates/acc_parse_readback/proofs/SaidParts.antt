-- What holds of each part of a whole: each of some words or marks, each statement's freedom from faults, each item that is counted.
use Rattle.std.proofs.Common.{◌≡◌, ℕ, ◌+◌, ◌≤◌, Bool, true, false, List, [], ◌∷◌, ◌++◌, length, map, None, refl, sym, arith}
use Rattle.std.specs.Prelude.{◌==◌, position}
use Rattle.std.specs.List.{flat_map, list_any}
use Rattle.std.proofs.lemmas.Bool.{or_parts}
use Rattle.std.proofs.lemmas.Bool.Decides.{nat_tests}
use Rattle.acc_grammar.specs.Readers.{AllIn, joined}
use Rattle.acc_parse_names.specs.Least.{marked_from}
use Rattle.acc_parse_names.proofs.Firsts.{least_is}
use Rattle.acc_base.specs.declared.limits.Limit.{Limit}
use Rattle.acc_parse_limits.specs.Marks.{Mark, Past, End, past, limited_from, limited}
use Rattle.acc_parse_limits.specs.Faults.{placed}
use Rattle.acc_parse_readback.proofs.OnlyEnds.{IsEnd, AreEnds}
use Rattle.acc_parse_readback.proofs.Faultless.{IsFalse}

-- ---- lists

pub all_parts : {T : Type 0} (P : T → Type 0) (xs ys : List T) → AllIn P (xs ++ ys) → AllIn P xs × AllIn P ys
all_parts P [] ys h = (tt, h)
all_parts P (x ∷ xs) ys h = let parts = all_parts P xs ys h.1 in ((h.0, parts.0), parts.1)

pub all_joined : {S T : Type 0} (P : S → Type 0) (spell : T → List S) (ts : List T) → AllIn P (joined spell ts) →
    AllIn (λ t. AllIn P (spell t)) ts
all_joined P spell [] h = tt
all_joined P spell (t ∷ ts) h = let parts = all_parts P (spell t) (joined spell ts) h in (parts.0, all_joined P spell ts parts.1)

pub all_flat : {S T : Type 0} (P : S → Type 0) (f : T → List S) (ts : List T) → AllIn P (flat_map f ts) → AllIn (λ t. AllIn P (f t)) ts
all_flat P f [] h = tt
all_flat P f (t ∷ ts) h = let parts = all_parts P (f t) (flat_map f ts) h in (parts.0, all_flat P f ts parts.1)

pub all_map : {T U : Type 0} (P : U → Type 0) (f : T → U) (ts : List T) → AllIn (λ t. P (f t)) ts → AllIn P (map f ts)
all_map P f [] h = tt
all_map P f (t ∷ ts) h = (h.0, all_map P f ts h.1)

pub all_mapped : {T U : Type 0} (P : U → Type 0) (f : T → U) (ts : List T) → AllIn P (map f ts) → AllIn (λ t. P (f t)) ts
all_mapped P f [] h = tt
all_mapped P f (t ∷ ts) h = (h.0, all_mapped P f ts h.1)

pub all_weaker : {T : Type 0} (P Q : T → Type 0) (ts : List T) → ((t : T) → P t → Q t) → AllIn P ts → AllIn Q ts
all_weaker P Q [] f h = tt
all_weaker P Q (t ∷ ts) f h = (f t h.0, all_weaker P Q ts f h.1)

-- what follows of each item from two, three or four things that hold of it
pub all_by_two : {T : Type 0} (P Q R : T → Type 0) (ts : List T) → ((t : T) → P t → Q t → R t) → AllIn P ts → AllIn Q ts → AllIn R ts
all_by_two P Q R [] f p q = tt
all_by_two P Q R (t ∷ ts) f p q = (f t p.0 q.0, all_by_two P Q R ts f p.1 q.1)

pub all_by_three : {T : Type 0} (P Q R S : T → Type 0) (ts : List T) → ((t : T) → P t → Q t → R t → S t) → AllIn P ts → AllIn Q ts →
    AllIn R ts → AllIn S ts
all_by_three P Q R S [] f p q r = tt
all_by_three P Q R S (t ∷ ts) f p q r = (f t p.0 q.0 r.0, all_by_three P Q R S ts f p.1 q.1 r.1)

pub all_by_four : {T : Type 0} (P Q R S U : T → Type 0) (ts : List T) → ((t : T) → P t → Q t → R t → S t → U t) → AllIn P ts → AllIn Q ts →
    AllIn R ts → AllIn S ts → AllIn U ts
all_by_four P Q R S U [] f p q r s = tt
all_by_four P Q R S U (t ∷ ts) f p q r s = (f t p.0 q.0 r.0 s.0, all_by_four P Q R S U ts f p.1 q.1 r.1 s.1)

-- ---- faults of names

pub none_false : {T : Type 0} (test : T → Bool) (ts : List T) → list_any test ts ≡ false → AllIn (λ t. test t ≡ false) ts
none_false test [] h = tt
none_false test (t ∷ ts) h = let parts = or_parts (test t) (list_any test ts) h in (parts.0, none_false test ts parts.1)

none_marked : (n : ℕ) (bs : List Bool) → marked_from n bs ≡ [] → AllIn IsFalse bs
none_marked n [] h = tt
none_marked n (true ∷ bs) h = absurd cc
none_marked n (false ∷ bs) h = (refl, none_marked (n + 1) bs h)

-- where none is first, none is
pub none_first : (bs : List Bool) → position (λ b. b) bs ≡ None → AllIn IsFalse bs
none_first bs h = none_marked 0 bs (least_is bs None (sym h))

-- ---- marks

-- no limit is passed
pub none_placed : (n : ℕ) (ms : List Mark) → placed n ms ≡ [] → AreEnds ms
none_placed n [] h = tt
none_placed n (Past limit ∷ ms) h = absurd cc
none_placed n (End ∷ ms) h = (tt, none_placed (n + 1) ms h)

pub not_past : (limit : Limit) (b : Bool) → AreEnds (past limit b) → b ≡ false
not_past limit true h = absurd h.0
not_past limit false h = refl

module _ {T : Type 0} (limit : Limit) (most : ℕ) (marks : T → List Mark) where
  counted_each : (i : ℕ) (ts : List T) → AreEnds (limited_from i limit most marks ts) → AllIn (λ t. AreEnds (marks t)) ts
  counted_each i [] h = tt
  counted_each i (t ∷ ts) h =
      let behind = (all_parts IsEnd (past limit (i == most)) (marks t ++ limited_from (i + 1) limit most marks ts) h).1 in
      let parts = all_parts IsEnd (marks t) (limited_from (i + 1) limit most marks ts) behind in
      (parts.0, counted_each (i + 1) ts parts.1)

  few_counted : (i : ℕ) (ts : List T) → i ≤ most → AreEnds (limited_from i limit most marks ts) → i + length ts ≤ most
  few_counted i [] le h = omega arith
  few_counted i (t ∷ ts) le h =
      let parts = all_parts IsEnd (past limit (i == most)) (marks t ++ limited_from (i + 1) limit most marks ts) h in
      let behind = (all_parts IsEnd (marks t) (limited_from (i + 1) limit most marks ts) parts.1).1 in
      let less : (i == most) ≡ false = not_past limit (i == most) parts.0 in
      let one_more : i + 1 ≤ most = grind (arith, nat_tests) in
      let rest = few_counted (i + 1) ts one_more behind in omega (arith, rest)

  pub each_counted : (ts : List T) → AreEnds (limited limit most marks ts) → AllIn (λ t. AreEnds (marks t)) ts
  each_counted ts h = counted_each 0 ts h

  pub at_most_counted : (ts : List T) → AreEnds (limited limit most marks ts) → length ts ≤ most
  at_most_counted ts h = let all = few_counted 0 ts (omega arith) h in omega (arith, all)
