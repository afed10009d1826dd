-- The marks on a type are ends alone exactly where it is well-formed.
use Rattle.std.proofs.Common.{◌≡◌, ℕ, ◌≤◌, ◌==◌, zero, suc, true, false, ◌&&◌, not, nat_le, if◌then◌else◌, List, [], ◌∷◌, ◌++◌, length}
use Rattle.std.proofs.Common.{take, drop, refl, sym, ap, ◌∙◌, arith}
use Rattle.std.specs.List.{list_all, slice_get}
use Rattle.std.proofs.lemmas.Bool.{and_parts, and_from, leb-true, le-leb}
use Rattle.std.proofs.lemmas.List.{take-append-drop, drop_all}
use Rattle.std.proofs.lemmas.List.Folds.{list_all-append}
use Rattle.std.proofs.lemmas.List.Sums.{list_all-from_AllPass}
use Rattle.acc_base.specs.declared.rules.FormRule.TheVariants as rules
use Rattle.acc_base.specs.declared.tables.Table.{Table}
use Rattle.acc_base.specs.declared.designs.TxType.{TxType}
use Rattle.acc_form.specs.Marks.{Mark, ending, asked, numbered}
use Rattle.acc_formed.specs.Sizes.{is_short, is_short_or_none, returns_small}
use Rattle.acc_formed.specs.Names.{are_distinct, are_new, names_type}
use Rattle.acc_formed.specs.Ends.{is_limit}
use Rattle.acc_form.specs.Statements.{clause_marks, point_marks, head_marks, returns_marks, locals_marks, type_marks}
use Rattle.acc_formed.specs.WellFormed.{IsPointFormed, IsTypeFormed}
use Rattle.acc_form.proofs.Clean.{Clean, clean_unless, Asks, asks, keeps, clean_parts, clean_from, each_of_clean, clean_of_each}
use Rattle.acc_form.proofs.FormedPoints.{point_asks}
use Rattle.acc_form.proofs.FormedSteps.{clauses_open, clauses_shut}

-- ---- the locals of a type

-- what holds of all of a list's front and back holds of the whole list, and the other way round
all_of_parts : (n : ℕ) (xs : List (List ℕ)) → list_all is_short (take n xs) ≡ true → list_all is_short (drop n xs) ≡ true →
    list_all is_short xs ≡ true
all_of_parts n xs h g =
    ap (list_all is_short) (sym (take-append-drop n xs)) ∙ list_all-append is_short (take n xs) (drop n xs) ∙ and_from _ _ h g

parts_of_all : (n : ℕ) (xs : List (List ℕ)) → list_all is_short xs ≡ true → (list_all is_short (take n xs) ≡ true) ×
    (list_all is_short (drop n xs) ≡ true)
parts_of_all n xs h =
    and_parts _ _ (sym (list_all-append is_short (take n xs) (drop n xs)) ∙ ap (list_all is_short) (take-append-drop n xs) ∙ h)

-- what `local` asks
record HasLocals (t : TxType) : Type 0 where
  few : length t.locals ≤ 48
  others : list_all is_short (drop t.params t.locals) ≡ true
  new : are_new (take t.params t.locals) (drop t.params t.locals) ≡ true

locals_rest : TxType → List Mark
locals_rest t =
    asked rules.Limits (nat_le (length t.locals) 48 && list_all is_short (drop t.params t.locals)) ++ (
    asked rules.Names (are_new (take t.params t.locals) (drop t.params t.locals)) ++ ending)

no_others : (t : TxType) → t.params ≤ 48 → length t.locals ≤ t.params → HasLocals t
no_others t few l =
    let none : drop t.params t.locals ≡ [] = drop_all t.params t.locals l in
    record { few = omega arith; others = rw none refl; new = rw none refl }

some_others : (t : TxType) → Clean (locals_rest t) → HasLocals t
unfolding locals_rest
some_others t h =
    let a = asks rules.Limits (nat_le (length t.locals) 48 && list_all is_short (drop t.params t.locals)) _ h in
    let b = asks rules.Names (are_new (take t.params t.locals) (drop t.params t.locals)) ending a.1 in
    let l = and_parts (nat_le (length t.locals) 48) (list_all is_short (drop t.params t.locals)) a.0 in
    record { few = leb-true (length t.locals) 48 l.0; others = l.1; new = b.0 }

locals_open : (t : TxType) → t.params ≤ 48 → Clean (locals_marks t) → HasLocals t
unfolding locals_rest
locals_open t few h =
    elim (nat_le (length t.locals) t.params) as (λ b. nat_le (length t.locals) t.params ≡ b → Clean (if b then [] else locals_rest t) →
    HasLocals t) [
      | true ↦ λ e g. no_others t few (leb-true (length t.locals) t.params e)
      | false ↦ λ e g. some_others t g
    ] refl h

locals_shut : (t : TxType) → HasLocals t → Clean (locals_marks t)
unfolding locals_rest
locals_shut t f =
    clean_unless (nat_le (length t.locals) t.params) (locals_rest t) (
    keeps rules.Limits (nat_le (length t.locals) 48 && list_all is_short (drop t.params t.locals)) _
    (and_from _ _ (le-leb (length t.locals) 48 f.few) f.others) (
    keeps rules.Names (are_new (take t.params t.locals) (drop t.params t.locals)) ending f.new refl))

-- a returned name is one of the locals'
short_at : (names : List (List ℕ)) (x : ℕ) → list_all is_short names ≡ true → is_short_or_none (slice_get names x) ≡ true
short_at [] x h = refl
short_at (n ∷ ns) zero h = (and_parts (is_short n) (list_all is_short ns) h).0
short_at (n ∷ ns) (suc x) h = short_at ns x (and_parts (is_short n) (list_all is_short ns) h).1

returns_shut : (t : TxType) → list_all is_short t.locals ≡ true → Clean (returns_marks t)
returns_shut t h =
    clean_unless (length t.returns == 0) (asked rules.Limits (returns_small t.locals t.returns) ++ ending) (
    keeps rules.Limits (returns_small t.locals t.returns) ending
    (list_all-from_AllPass (λ x. is_short_or_none (slice_get t.locals x)) t.returns (λ k d l. short_at t.locals _ h)) refl)

-- ---- types

type_opens : (tables : List Table) (types : List TxType) (i : ℕ) (t : TxType) →
    Clean (type_marks tables types i t) → (not (i == 64) ≡ true) × IsTypeFormed tables types i t
type_opens tables types i t h =
    let params = take t.params t.locals in
    let a = clean_parts (head_marks types i t) _ h in
    let b = clean_parts (returns_marks t) _ a.1 in
    let e = clean_parts (locals_marks t) _ b.1 in
    let f = clean_parts (numbered (clause_marks tables t.locals 64) t.posts) _ e.1 in
    let g = clean_parts (numbered (clause_marks tables t.locals 64) t.repairs) (numbered (point_marks tables t) t.points) f.1 in
    let points = each_of_clean (point_marks tables t) 32 (IsPointFormed tables t) (point_asks tables t) t.points g.1 in
    let k = asks rules.Limits (not (i == 64) && is_short t.name && nat_le t.params 48 && list_all is_short params) _ a.0 in
    let m = asks rules.Names (not (names_type (take i types) t.name) && are_distinct params) _ k.1 in
    let n = asks rules.Numbers (is_limit t.limit) ending m.1 in
    let names = and_parts (not (names_type (take i types) t.name)) (are_distinct params) m.0 in
    let p = and_parts (not (i == 64) && is_short t.name && nat_le t.params 48) (list_all is_short params) k.0 in
    let q = and_parts (not (i == 64) && is_short t.name) (nat_le t.params 48) p.0 in
    let r = and_parts (not (i == 64)) (is_short t.name) q.0 in
    let few = leb-true t.params 48 q.1 in
    let locals = locals_open t few e.0 in (
      r.0,
      record {
        name = r.1;
        new = names.0;
        limit = n.0;
        few_params = few;
        few_locals = locals.few;
        locals = all_of_parts t.params t.locals p.1 locals.others;
        params_distinct = names.1;
        others_new = locals.new;
        posts = clauses_open tables t.locals 64 t.posts f.0;
        repairs = clauses_open tables t.locals 64 t.repairs g.0;
        few_points = points.0;
        points = points.1;
      },
    )

type_shuts : (tables : List Table) (types : List TxType) (i : ℕ) (t : TxType) →
    not (i == 64) ≡ true → IsTypeFormed tables types i t → Clean (type_marks tables types i t)
type_shuts tables types i t n f =
    let params = take t.params t.locals in
    let parts = parts_of_all t.params t.locals f.locals in
    let locals : HasLocals t = record { few = f.few_locals; others = parts.1; new = f.others_new } in
    let limits : (not (i == 64) && is_short t.name && nat_le t.params 48 && list_all is_short params) ≡ true =
    and_from _ _ (and_from _ _ (and_from _ _ n f.name) (le-leb t.params 48 f.few_params)) parts.0 in
    clean_from (head_marks types i t) _ (
    keeps rules.Limits (not (i == 64) && is_short t.name && nat_le t.params 48 && list_all is_short params) _ limits (
    keeps rules.Names (not (names_type (take i types) t.name) && are_distinct params) _ (and_from _ _ f.new f.params_distinct) (
    keeps rules.Numbers (is_limit t.limit) ending f.limit refl))) (
    clean_from (returns_marks t) _ (returns_shut t f.locals) (
    clean_from (locals_marks t) _ (locals_shut t locals) (
    clean_from (numbered (clause_marks tables t.locals 64) t.posts) _ (clauses_shut tables t.locals 64 t.posts f.posts) (
    clean_from (numbered (clause_marks tables t.locals 64) t.repairs) (numbered (point_marks tables t) t.points)
    (clauses_shut tables t.locals 64 t.repairs f.repairs)
    (clean_of_each (point_marks tables t) 32 (IsPointFormed tables t) (point_asks tables t) t.points f.few_points f.points)))))

pub type_asks : (tables : List Table) (types : List TxType) → Asks (type_marks tables types) 64 (IsTypeFormed tables types)
type_asks tables types = record { opens = type_opens tables types; shuts = type_shuts tables types }
