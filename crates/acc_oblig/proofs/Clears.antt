-- Where the obligations on ends are true, what has ended leaves no private row that its type puts.
use Rattle.std.proofs.Common.{◌≡◌, ℕ, zero, suc, ◌+◌, ◌-◌, ◌≤◌, Bool, true, false, if◌then◌else◌, List, [], ◌∷◌, ◌++◌, map, take, length}
use Rattle.std.proofs.Common.{get_or, refl, ap, sym, ◌∙◌, subst, arith, Option, Some, None, ℤ, pos, ◌+ℤ◌, ◌*ℤ◌}
use Rattle.std.specs.Prelude.{slice_get, All, codes, ◌&&◌, ◌||◌}
use Rattle.std.specs.List.{list_any, AllByRecursion}
use Rattle.std.proofs.lemmas.Int.{ints}
use Rattle.std.proofs.lemmas.Bool.{false≢true}
use Rattle.std.proofs.Math.Seq.{get_or-append_seam}
use Rattle.std.proofs.lemmas.List.{length-map, length-replicate, length-append, length-take, map-append, append-nil, get_or_append_left}
use Rattle.std.proofs.lemmas.List.Elements.{recursion_from_All, All-from_recursion}
use Rattle.std.specs.Ordering.{is_eq, ordering_reverse}
use Rattle.std.specs.declared.cmp.Ordering.{Ordering}
use Rattle.std.specs.declared.cmp.Ordering.TheVariants.{Less, Equal, Greater}
use Rattle.acc_base.specs.declared.tables.Table.{Table}
use Rattle.acc_base.specs.declared.tables.Row.{Row}
use Rattle.acc_base.specs.declared.steps.Action.{Action}
use Rattle.acc_base.specs.declared.steps.Target.{Target}
use Rattle.acc_base.specs.declared.steps.Target.TheVariants.{Point as ToPoint, Commit, Undone, Refuse}
use Rattle.acc_base.specs.declared.steps.Step.{Step}
use Rattle.acc_base.specs.declared.designs.Design.{Design}
use Rattle.acc_base.specs.declared.designs.Side.{Side}
use Rattle.acc_base.specs.declared.machines.Frame.{Frame}
use Rattle.acc_base.specs.declared.sequents.Rule.TheVariants as rule
use Rattle.acc_base.specs.Tables.{place_of, place_cmp, is_at, has_row}
use Rattle.acc_base.specs.Linear.{var, variables, lin_value, lin_values}
use Rattle.acc_base.specs.Reads.{Reading, unread}
use Rattle.acc_base.specs.Actions.{after_action}
use Rattle.acc_base.specs.Truth.{ClauseTrue}
use Rattle.acc_base.specs.Effects.{step_at}
use Rattle.acc_base.proofs.Places.{place_total}
use Rattle.acc_base.specs.Shapes.{IsFullKey, ActionFits, RowFits}
use Rattle.acc_base.specs.RowsAfter.{rows_after, AreThere}
use Rattle.acc_preconditions.proofs.PartValues.{one_times}
use Rattle.acc_preconditions.proofs.RowShapes.{rows_fit}
use Rattle.acc_formed.specs.WellFormed.{IsWellFormed}
use Rattle.acc_base.specs.Fits.{IsReady}
use Rattle.acc_base.specs.PrivateRows.{HasNoneOf, is_own_table, last_is, type_puts}
use Rattle.acc_base.specs.Soundness.{ClearsAt}
use Rattle.acc_base.specs.Items.{numbers_from}
use Rattle.acc_oblig.specs.Relations.{alone}
use Rattle.acc_oblig.specs.Settings.{Setting, last_now}
use Rattle.acc_oblig.specs.Drafts.{Place, path_drafts, each_path}
use Rattle.acc_oblig.specs.PointRules.{is_end, none_of, clear_at, clear_drafts}
use Rattle.acc_oblig.proofs.FormValues.{meets_zero}
use Rattle.acc_oblig.proofs.Judged.{DraftTrue}
use Rattle.acc_preconditions.proofs.PathRows.{leaves_rows_after}
use Rattle.acc_oblig.proofs.Taken.{names_worth, last_worth, here}
use Rattle.acc_oblig.proofs.Listed.{each_at, path_at}
use Rattle.acc_oblig.proofs.PathClauses.{path_clause}
use Rattle.acc_oblig.proofs.OnPath.{OnPath}
use Rattle.acc_oblig.proofs.Carries.{in_between, carried}
use Rattle.acc_oblig.proofs.Reading.{read_values}
use Rattle.acc_oblig.proofs.Entries.{numbers_long, now_long}

-- ---- rows after actions keep the tables' shapes

pub shapes_after :
    (tables : List Table) (env : List ℤ) (acts : List Action) (db : List Row) → AllByRecursion (ActionFits tables) acts
    → AllByRecursion (RowFits tables) db → AllByRecursion (RowFits tables) (rows_after env acts db)
shapes_after tables env [] db h g = g
shapes_after tables env (a ∷ rest) db h g = shapes_after tables env rest (after_action env a db) h.1 (rows_fit tables env a db h.0 g)

-- ---- a key that ends in a number

last_at : (xs : List ℤ) (k : ℕ) (n : ℤ) → length xs ≡ suc k → last_is n (slice_get xs k) → xs ≡ take k xs ++ n ∷ []
last_at [] k n l h = absurd h
last_at (x ∷ []) zero n l h = ap (λ z. z ∷ []) h
last_at (x ∷ y ∷ rest) zero n l h = absurd (omega (arith, l))
last_at (x ∷ xs) (suc k) n l h = ap (λ z. x ∷ z) (last_at xs k n (omega (arith, l)) h)

last_of : (xs : List ℤ) (n : ℤ) → last_is n (slice_get xs (length xs - 1)) → xs ≡ take (length xs - 1) xs ++ n ∷ []
last_of [] n h = absurd h
last_of (x ∷ xs) n h = last_at (x ∷ xs) (length (x ∷ xs) - 1) n (omega arith) h

some_last : (xs : List ℤ) (n : ℤ) → last_is n (slice_get xs (length xs - 1)) → 1 ≤ length xs
some_last [] n h = absurd h
some_last (x ∷ xs) n h = omega arith

-- the key of `none_of` at values of its own variables
lone : (v : ℤ) → (pos 1 *ℤ v +ℤ pos 0) +ℤ pos 0 ≡ v
lone v = let e = one_times v in omega (arith, ints, e)

lones : (env : List ℤ) (xs : List ℕ) → lin_values env (map alone xs) ≡ map (var env) xs
lones env [] = refl
lones env (x ∷ xs) = λ i. lone (var env x) i ∷ lones env xs i

-- ---- no row is there where none is counted

none_at : (test : Row → Bool) (db : List Row) → list_any test db ≡ false → AllByRecursion (λ r. test r ≡ false) db
none_at test [] h = tt
none_at test (r ∷ db) h = by (test r) refl h (none_at test db)
  where
    by :
        (b : Bool) → test r ≡ b → (b || list_any test db) ≡ false → (list_any test db ≡ false → AllByRecursion (λ z. test z ≡ false) db)
        → AllByRecursion (λ z. test z ≡ false) (r ∷ db)
    by true e g ih = absurd (false≢true (sym g))
    by false e g ih = (e, ih g)

here_at : (r : Row) → is_at r.table r.key.parts r ≡ true
here_at r = by (place_cmp (place_of r) (place_of r)) (place_total.antisymm (place_of r) (place_of r))
  where
    by : (o : Ordering) → o ≡ ordering_reverse o → is_eq o ≡ true
    by Less e = absurd (cc)
    by Equal e = refl
    by Greater e = absurd (cc)

has_none : (b : Bool) → (pos 1 *ℤ (if b then pos 1 else pos 0) +ℤ pos 0) +ℤ pos 0 ≡ pos 0 → b ≡ false
has_none true h = absurd (omega (arith, ints, h))
has_none false h = refl

module _ (after : List Row) (t : ℕ) (width me : ℕ) (number : ℕ) (locals : List ℤ) (long : length locals ≡ me)
    (holds : ClauseTrue after (variables number locals) (none_of me t width)) where
  abbrev env : List ℤ
  env = variables number locals

  module _ (r : Row) (at : r.table ≡ t) (wide : length r.key.parts ≡ width)
      (ends : last_is (pos number) (slice_get r.key.parts (length r.key.parts - 1))) where
    abbrev own : List ℤ
    own = take (length r.key.parts - 1) r.key.parts

    own_long : length own ≡ width - 1
    own_long =
        let t = length-take (length r.key.parts - 1) r.key.parts in
        omega (arith, t, wide)

    env_long : length env ≡ me + 1
    env_long = length-append locals (pos number ∷ []) ∙ ap (λ n. n + 1) long

    own_names : map (var (env ++ own)) (numbers_from (me + 1) (width - 1)) ≡ own
    own_names =
        subst (λ n. map (var (env ++ own)) (numbers_from n (width - 1)) ≡ own) env_long
        (subst (λ n. map (var (env ++ own)) (numbers_from (length env) n) ≡ own) own_long
        (subst (λ z. map (var (env ++ z)) (numbers_from (length env) (length own)) ≡ own) (append-nil own) (in_between env own [])))

    me_is : var (env ++ own) me ≡ pos number
    me_is =
        let l = env_long in
        get_or_append_left env own (pos 0) me (omega (arith, l))
        ∙ subst (λ n. var env n ≡ pos number) long (get_or-append_seam locals (pos number) [] (pos 0))

    key_is : lin_values (env ++ own) (map alone (numbers_from (me + 1) (width - 1)) ++ alone me ∷ []) ≡ r.key.parts
    key_is =
        map-append (lin_value (env ++ own)) (map alone (numbers_from (me + 1) (width - 1))) (alone me ∷ [])
        ∙ ((λ i. (lones (env ++ own) (numbers_from (me + 1) (width - 1)) ∙ own_names) i ++ (lone (var (env ++ own) me) ∙ me_is) i ∷ [])
        ∙ sym (last_of r.key.parts (pos number) ends))

    none_here : list_any (is_at t r.key.parts) after ≡ false
    none_here =
        let g = holds own (own_long ∙ sym (length-replicate (width - 1) (codes "k"))) refl in
        has_none (list_any (is_at t r.key.parts) after)
        (subst (λ z. (pos 1 *ℤ has_row after t z +ℤ pos 0) +ℤ pos 0 ≡ pos 0) key_is (meets_zero _ g))

    pub absent : AllByRecursion (λ z. is_at r.table r.key.parts z ≡ false) after
    absent = subst (λ n. AllByRecursion (λ z. is_at n r.key.parts z ≡ false) after) (sym at) (none_at (is_at t r.key.parts) after none_here)

module _ (d : Design) (wf : IsWellFormed d) (db : List Row) (f : Frame) (ready : IsReady d db f) (side : Side) (after : List Row)
    (last : Reading) (j : ℕ) (to : Target) (o : OnPath d db f side after last j to)
    (there : AreThere (variables f.t last.locals) o.path.actions db) (all : AllByRecursion (DraftTrue d) (clear_drafts d)) where
  abbrev step : Step
  step = step_at side o.p

  abbrev env' : List ℤ
  env' = variables f.t last.locals

  abbrev place : Place
  place = record { at = record { ty = f.ty; point = f.point }; side = side; path = j }

  left : rows_after env' o.path.actions db ≡ after
  left = leaves_rows_after side env' o.path.actions db after o.actions

  shapes : All (RowFits d.tables) after
  shapes =
      All-from_recursion (RowFits d.tables) after
      (subst (AllByRecursion (RowFits d.tables)) left
      (shapes_after d.tables env' o.path.actions db o.acts_fit (recursion_from_All (RowFits d.tables) db ready.rows.shapes)))

  abbrev with_locals : ℕ → Setting
  with_locals n = record {
    always = d.always;
    clauses = o.p.clauses;
    locals = n;
    reads = step.reads;
    earlier = take j step.paths;
    guard = o.path.guard;
    actions = o.path.actions;
  }

  clause_true :
      (t : ℕ) (table : Table) → slice_get d.tables t ≡ Some table → table.own ≡ true → type_puts t (Some o.x) ≡ true
      → is_end o.path.target ≡ true → 1 ≤ table.width → ClauseTrue after env' (none_of (length f.locals) t table.width)
  clause_true t table e own puts ends wide =
      let tables = each_at (DraftTrue d) (λ n z. each_path d (clear_at d n z)) d.tables t table all e in
      let made = path_at (DraftTrue d) d (clear_at d t table) tables f.ty f.point o.x o.p side j o.path o.is_type o.is_point o.is_path in
      let all_three : (table.own && type_puts t (Some o.x) && is_end o.path.target) ≡ true = (λ i. own i && puts i && ends i) in
      let mine = subst (λ b. AllByRecursion (DraftTrue d)
      (if b then path_drafts rule.Clears (with_locals (length o.x.locals)) t place
      (last_now (with_locals (length o.x.locals)) ++ length o.x.locals ∷ []) (none_of (length o.x.locals) t table.width) else [])) all_three
      made in
      let here_now = subst (λ n. AllByRecursion (DraftTrue d)
      (path_drafts rule.Clears (with_locals n) t place (last_now (with_locals n) ++ n ∷ []) (none_of n t table.width))) (sym o.each) mine in
      path_clause d db ready.rows f o.p step last j o.path o.on o.path.actions o.acts_fit there after left rule.Clears t (λ q. cc)
      (λ q. cc) place (last_now (with_locals (length f.locals)) ++ length f.locals ∷ []) env'
      (λ own_values. names_worth d db f o.p step last j o.path o.on own_values) (none_of (length f.locals) t table.width)
      (record {
        guards = tt;
        rel = (
          subst (λ z. IsFullKey z (length (map alone (numbers_from (length f.locals + 1) (table.width - 1)) ++ alone
              (length f.locals) ∷ [])))
              (sym e) key_long,
          tt,
        );
      }) here_now
    where
      key_long : length (map alone (numbers_from (length f.locals + 1) (table.width - 1)) ++ alone (length f.locals) ∷ []) ≡ table.width
      key_long =
          let a = length-append (map alone (numbers_from (length f.locals + 1) (table.width - 1))) (alone (length f.locals) ∷ []) in
          let b = length-map (numbers_from (length f.locals + 1) (table.width - 1)) alone in
          let c = numbers_long (length f.locals + 1) (table.width - 1) in
          omega (arith, a, b, c, wide)

  locals_long : length last.locals ≡ length f.locals
  locals_long =
      let worth = last_worth d db f o.p step last j o.path o.on [] _ _ (here d db f o.p step last j o.path o.on []) in
      let now = last_now (with_locals (length f.locals)) in
      let a = length-map now (var (carried f (read_values db f (unread f) step.reads) [])) in
      let b = now_long (numbers_from 0 (length f.locals)) (length f.locals + 1) step.reads in
      let c = numbers_long 0 (length f.locals) in
      sym (ap (λ (z : List ℤ). length z) worth) ∙ (a ∙ (b ∙ c))

  cleared : is_end o.path.target ≡ true → HasNoneOf d f.ty (pos f.t) after
  cleared ends k r l puts private = by (slice_get d.tables (get_or after k r).table) refl private.own (shapes k r l).0
    where
      puts_here : type_puts (get_or after k r).table (Some o.x) ≡ true
      puts_here = subst (λ z. type_puts (get_or after k r).table z ≡ true) o.is_type puts

      by :
          (z : Option Table) → slice_get d.tables (get_or after k r).table ≡ z → is_own_table z ≡ true
          → IsFullKey z (length (get_or after k r).key.parts) → ⊥
      by None e g w = absurd w
      by (Some table) e g w =
          let some = some_last (get_or after k r).key.parts (pos f.t) private.ends in
          let none = absent after (get_or after k r).table table.width (length f.locals) f.t last.locals locals_long
          (clause_true (get_or after k r).table table e g puts_here ends (omega (arith, some, w))) (get_or after k r) refl w private.ends in
          false≢true (sym (All-from_recursion (λ z. is_at (get_or after k r).table (get_or after k r).key.parts z ≡ false) after none k r l)
          ∙ here_at (get_or after k r))

  pub clears : ClearsAt d f after to
  clears = subst (λ t. ClearsAt d f after t) o.target (by o.path.target refl)
    where
      by : (t : Target) → o.path.target ≡ t → ClearsAt d f after t
      by (ToPoint q) e = tt
      by Commit e = cleared (ap is_end e)
      by Undone e = cleared (ap is_end e)
      by (Refuse n) e = tt
