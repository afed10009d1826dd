-- Relations of which none repeats an earlier one: what an elimination by equations keeps so, and what tells of repetitions.
use Rattle.std.proofs.Common.{◌≡◌, ◌≤◌, ◌<◌, ℕ, Bool, true, false, List, [], ◌∷◌, ◌++◌, length, Option, Some, None, Ok, Err}
use Rattle.std.proofs.Common.{refl, ap, sym, ◌∙◌}
use Rattle.std.proofs.Common.{subst, if◌then◌else◌, ◌||◌, arith, length-append}
use Rattle.std.specs.Prelude.{All, Result, option_map, nat_le, IfOk, IfSome, OnOk}
use Rattle.std.specs.List.{list_any}
use Rattle.std.proofs.lemmas.List.Elements.{All-nil, All-head, All-tail, All-cons, All-push}
use Rattle.std.proofs.lemmas.List.Folds.{list_any-append}
use Rattle.acc_rows.specs.declared.stops.Stop.{Stop}
use Rattle.acc_rows.specs.declared.stops.Stop.TheVariants.{Refuted, Many}
use Rattle.acc_rows.specs.declared.rows.Row.{Row}
use Rattle.acc_elim_systems.specs.declared.systems.Reduced.{Reduced}
use Rattle.acc_base.specs.Computing.{chain, steps, Leaves}
use Rattle.acc_rows.specs.Answers.{tells, Computation}
use Rattle.acc_rows.specs.Rows.{cleared}
use Rattle.acc_elim_systems.specs.declared.systems.TheConstants.{MOST_RELATIONS}
use Rattle.acc_elim_systems.specs.Systems.{is_false, repeats, is_constant, admitted, is_equation_with, taken, replaced, set_aside}
use Rattle.acc_elim_systems.specs.Repetitions.{Differs, AreApart, TellsOf, StillTellsOf, GrowTogether}

-- ---- what holds of a value that is computed

pub any_ok : {A : Type 0} (o : Computation A) → IfOk o (λ _. Unit {0})
any_ok (Ok x) = tt
any_ok (Err e) = tt

pub ok_chain : {A B : Type 0} (o : Computation A) (next : A → Computation B) (P : A → Type 0) (Q : B → Type 0) → IfOk o P
    → ((x : A) → P x → IfOk (next x) Q) → IfOk (chain o next) Q
ok_chain (Ok x) next P Q h k = k x h
ok_chain (Err e) next P Q h k = tt

pub ok_steps : {S X : Type 0} (step : S → X → Computation S) (P : S → Type 0) → ((s : S) (x : X) → P s → IfOk (step s x) P)
    → (xs : List X) (s : S) → P s → IfOk (steps step s xs) P
ok_steps step P h [] s p = p
ok_steps step P h (x ∷ xs) s p = ok_chain (step s x) (λ t. steps step t xs) P P (h s x p) (λ t q. ok_steps step P h xs t q)

-- ---- one more relation

none_first : (a b : Bool) → (a || b) ≡ false → a ≡ false
none_first false b e = refl
none_first true b e = e

none_second : (a b : Bool) → (a || b) ≡ false → b ≡ false
none_second false b e = e
none_second true b e = absurd (cc)

apart_push : (ks : List Row) (r : Row) → AreApart ks → list_any (repeats r) ks ≡ false → AreApart (ks ++ r ∷ [])
apart_push [] r a h = (All-nil (Differs r), tt)
apart_push (k ∷ ks) r a h = (
  All-push (Differs k) ks r a.0 (none_first (repeats r k) (list_any (repeats r) ks) h),
  apart_push ks r a.1 (none_second (repeats r k) (list_any (repeats r) ks) h),
)

admitted_by : (rows : List Row) (r : Row) (b c d e : Bool) → list_any (repeats r) rows ≡ d → AreApart rows
    → IfOk (if b then (if c then Err (Refuted r) else Ok rows)
    else (if d then Ok rows else (if e then Err Many else Ok (rows ++ r ∷ [])))) AreApart
admitted_by rows r true true d e h a = tt
admitted_by rows r true false d e h a = a
admitted_by rows r false c true e h a = a
admitted_by rows r false c false true h a = tt
admitted_by rows r false c false false h a = apart_push rows r a h

admitted_apart : (rows : List Row) (r : Row) → AreApart rows → IfOk (admitted rows r) AreApart
admitted_apart rows r a =
    admitted_by rows r (is_constant r) (is_false r) (list_any (repeats r) rows) (nat_le MOST_RELATIONS (length rows)) refl a

pub system_apart : (rows system : List Row) → steps admitted [] rows ≡ Ok system → AreApart system
system_apart rows system e =
    subst (λ o. IfOk o AreApart) e (ok_steps admitted AreApart (λ s r a. admitted_apart s r a) rows [] tt)

-- ---- by equations

taken_all_by : (P : Row → Type 0) (r : Row) (rs : List Row) (b : Bool) → P r → All P rs → (o : Option (Row × List Row))
    → IfSome o (λ t. All P t.1)
    → IfSome {T = Row × List Row} (if b then Some (r, rs) else option_map (λ t. (t.0, r ∷ t.1)) o) (λ t. All P t.1)
taken_all_by P r rs true p all o h = all
taken_all_by P r rs false p all None h = tt
taken_all_by P r rs false p all (Some t) h = All-cons P r t.1 p h

taken_all : (P : Row → Type 0) (u : ℕ) (rows : List Row) → All P rows → IfSome (taken u rows) (λ t. All P t.1)
taken_all P u [] all = tt
taken_all P u (r ∷ rs) all =
    taken_all_by P r rs (is_equation_with u r) (All-head P r rs all) (All-tail P r rs all) (taken u rs)
    (taken_all P u rs (All-tail P r rs all))

taken_apart_by : (r : Row) (rs : List Row) (b : Bool) → AreApart rs → (o : Option (Row × List Row))
    → IfSome o (λ t. All (Differs r) t.1) → IfSome o (λ t. AreApart t.1)
    → IfSome {T = Row × List Row} (if b then Some (r, rs) else option_map (λ t. (t.0, r ∷ t.1)) o) (λ t. AreApart t.1)
taken_apart_by r rs true a o h g = a
taken_apart_by r rs false a None h g = tt
taken_apart_by r rs false a (Some t) h g = (h, g)

taken_apart : (u : ℕ) (rows : List Row) → AreApart rows → IfSome (taken u rows) (λ t. AreApart t.1)
taken_apart u [] a = tt
taken_apart u (r ∷ rs) a =
    taken_apart_by r rs (is_equation_with u r) a.1 (taken u rs) (taken_all (Differs r) u rs a.0) (taken_apart u rs a.1)

pub rest_apart : (u : ℕ) (rows rest : List Row) (e : Row) → taken u rows ≡ Some (e, rest) → AreApart rows → AreApart rest
rest_apart u rows rest e same a = subst (λ o. IfSome o (λ t. AreApart t.1)) same (taken_apart u rows a)

replaced_apart : (u : ℕ) (e : Row) (rows : List Row) (r : Row) → AreApart rows → IfOk (replaced u e rows r) AreApart
replaced_apart u e rows r a =
    ok_chain (cleared u e r) (admitted rows) (λ _. Unit {0}) AreApart (any_ok (cleared u e r)) (λ x _. admitted_apart rows x a)

aside_by : (s : Reduced) (u : ℕ) → AreApart s.rows → (o : Option (Row × List Row))
    → IfOk {T = Reduced} {E = Stop} (elim o [
      | None ↦ Ok (record { rows = s.rows; aside = s.aside; left = s.left ++ u ∷ [] })
      | Some t ↦ chain
          (steps (replaced u t.0) [] t.1) (λ rows. Ok (record { rows = rows; aside = s.aside ++ (u, t.0) ∷ []; left = s.left }))
    ]) (λ t. AreApart t.rows)
aside_by s u a None = a
aside_by s u a (Some t) =
    ok_chain (steps (replaced u t.0) [] t.1) _ AreApart (λ t. AreApart t.rows)
    (ok_steps (replaced u t.0) AreApart (λ rows r h. replaced_apart u t.0 rows r h) t.1 [] tt) (λ rows h. h)

pub aside_apart : (s t : Reduced) (u : ℕ) → set_aside s u ≡ Ok t → AreApart s.rows → AreApart t.rows
aside_apart s t u same a = subst (λ o. IfOk o (λ t. AreApart t.rows)) same (aside_by s u a (taken u s.rows))

-- ---- what tells of repetitions

any_skip : (p : Row → Bool) (xs : List Row) (x : Row) → p x ≡ false → list_any p (xs ++ x ∷ []) ≡ list_any p xs
any_skip p [] x e = ap (λ b. b || false) e
any_skip p (y ∷ ys) x e = ap (λ b. p y || b) (any_skip p ys x e)

or_false : (b : Bool) → (b || false) ≡ b
or_false true = refl
or_false false = refl

any_both : (p : Row → Bool) (xs ys : List Row) (x y : Row) → list_any p xs ≡ list_any p ys → p x ≡ p y
    → list_any p (xs ++ x ∷ []) ≡ list_any p (ys ++ y ∷ [])
any_both p xs ys x y e f =
    list_any-append p xs (x ∷ []) ∙ ((λ k. e k || (f k || false)) ∙ sym (list_any-append p ys (y ∷ [])))

stays_by : (some rows : List Row) (r : Row) (b c d e : Bool)
    → IfOk (if b then (if c then Err (Refuted r) else Ok rows)
    else (if d then Ok rows else (if e then Err Many else Ok (rows ++ r ∷ [])))) (λ more. StillTellsOf some rows some more r)
stays_by some rows r true true d e = tt
stays_by some rows r true false d e = λ other no t. t
stays_by some rows r false c true e = λ other no t. t
stays_by some rows r false c false true = tt
stays_by some rows r false c false false = λ other no t. t ∙ sym (any_skip (repeats other) rows r no)

-- one that wasn't made is none of those that tell
pub stays_told : (some rows more : List Row) (r : Row) → admitted rows r ≡ Ok more → StillTellsOf some rows some more r
stays_told some rows more r same =
    subst (λ o. IfOk o (λ more. StillTellsOf some rows some more r)) same
    (stays_by some rows r (is_constant r) (is_false r) (list_any (repeats r) rows) (nat_le MOST_RELATIONS (length rows)))

pub kept_told : {B : Type 0} (result : Result B Stop) (some rows more : List Row) (r : Row) → Leaves tells result more (admitted rows r)
    → OnOk result (StillTellsOf some rows some more r)
kept_told (Ok x) some rows more r h = stays_told some rows more r h
kept_told (Err e) some rows more r h = tt

-- relations stay, or one comes behind them
pub record Grows (rows : List Row) (r : Row) (more : List Row) : Type 0 where
  pub stayed : length more ≤ length rows → more ≡ rows
  pub grown : length rows < length more → more ≡ rows ++ r ∷ []

same_rows : (rows : List Row) (r : Row) → Grows rows r rows
same_rows rows r = record { stayed = λ l. refl; grown = λ l. absurd (omega (arith, l)) }

more_rows : (rows : List Row) (r : Row) → Grows rows r (rows ++ r ∷ [])
more_rows rows r = record { stayed = λ l. absurd (omega (arith, l, length-append rows (r ∷ []))); grown = λ l. refl }

grows_by : (rows : List Row) (r : Row) (b c d e : Bool)
    → IfOk (if b then (if c then Err (Refuted r) else Ok rows)
    else (if d then Ok rows else (if e then Err Many else Ok (rows ++ r ∷ [])))) (Grows rows r)
grows_by rows r true true d e = tt
grows_by rows r true false d e = same_rows rows r
grows_by rows r false c true e = same_rows rows r
grows_by rows r false c false true = tt
grows_by rows r false c false false = more_rows rows r

pub admitted_grows : (rows more : List Row) (r : Row) → admitted rows r ≡ Ok more → Grows rows r more
admitted_grows rows more r same =
    subst (λ o. IfOk o (Grows rows r)) same
    (grows_by rows r (is_constant r) (is_false r) (list_any (repeats r) rows) (nat_le MOST_RELATIONS (length rows)))

pub told_stayed : (some rows more : List Row) → more ≡ rows → GrowTogether some rows some more
told_stayed some rows more same = λ other. (
  false,
  sym (or_false (list_any (repeats other) some)),
  ap (list_any (repeats other)) same
      ∙ sym (or_false (list_any (repeats other) rows)),
)

-- one that was made is told of by its form
pub told_grown : (some rows some' more : List Row) (r : Row) → some' ≡ some ++ (record r { by = [] }) ∷ [] → more ≡ rows ++ r ∷ []
    → GrowTogether some rows some' more
told_grown some rows some' more r made same = λ other. (
  repeats other r || false,
  ap (list_any (repeats other)) made
      ∙ list_any-append (repeats other) some ((record r { by = [] }) ∷ []),
  ap (list_any (repeats other)) same ∙ list_any-append (repeats other) rows (r ∷ []),
)

-- where the same is added to both, a relation that was told of still is
pub together_told : (some rows some' rows' : List Row) (r : Row) → GrowTogether some rows some' rows' → StillTellsOf some rows some' rows' r
together_told some rows some' rows' r grown other differs told =
    let both = grown other in
    both.1 ∙ (ap (λ b. b || both.0) told ∙ sym both.2)

pub on_ok : {B : Type 0} (r : Result B Stop) (P Q : Type 0) → OnOk r P → (P → Q) → OnOk r Q
on_ok (Ok x) P Q h k = k h
on_ok (Err e) P Q h k = tt

-- ---- over all relations

pub step_taken : {S X : Type 0} (step : S → X → Computation S) (s t : S) (x : X) (all xs : List X) → all ≡ x ∷ xs → step s x ≡ Ok t
    → steps step t xs ≡ steps step s all
step_taken step s t x all xs same done = ap (λ r. chain r (λ u. steps step u xs)) (sym done) ∙ ap (steps step s) (sym same)

pub tells_nothing : (rows : List Row) → All (TellsOf [] []) rows
tells_nothing [] = All-nil (TellsOf [] [])
tells_nothing (r ∷ rows) = All-cons (TellsOf [] []) r rows refl (tells_nothing rows)

pub tells_on : (some rows some' rows' : List Row) (r : Row) → StillTellsOf some rows some' rows' r → (rest : List Row)
    → All (Differs r) rest → All (TellsOf some rows) rest → All (TellsOf some' rows') rest
tells_on some rows some' rows' r on [] apart told = All-nil (TellsOf some' rows')
tells_on some rows some' rows' r on (x ∷ xs) apart told =
    All-cons (TellsOf some' rows') x xs (on x (All-head (Differs r) x xs apart) (All-head (TellsOf some rows) x xs told))
    (tells_on some rows some' rows' r on xs (All-tail (Differs r) x xs apart) (All-tail (TellsOf some rows) x xs told))
