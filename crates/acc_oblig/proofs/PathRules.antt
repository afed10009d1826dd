-- Where a design's obligations on paths are true, each path keeps what it should: the rows that it changes are there, what its
-- target promises holds afterwards, and what holds always.
use Rattle.std.proofs.Common.{◌≡◌, ℕ, zero, suc, ◌+◌, ◌<◌, Bool, true, false, if◌then◌else◌, List, [], ◌∷◌, ◌++◌, take, length, refl, ap}
use Rattle.std.proofs.Common.{sym, subst, arith, Option, Some, None, ℤ}
use Rattle.std.specs.Prelude.{slice_get, All, IsTrue, option_and_then}
use Rattle.std.specs.List.{AllByRecursion}
use Rattle.std.proofs.lemmas.Option.{same_Some, none-some}
use Rattle.std.proofs.lemmas.List.Elements.{recursion_from_All, All-from_recursion}
use Rattle.acc_base.specs.declared.tables.Row.{Row}
use Rattle.acc_base.specs.declared.forms.Lin.{Lin}
use Rattle.acc_base.specs.declared.forms.Clause.{Clause}
use Rattle.acc_base.specs.declared.steps.Action.{Action}
use Rattle.acc_base.specs.declared.steps.Action.TheVariants as action
use Rattle.acc_base.specs.declared.steps.Target.{Target}
use Rattle.acc_base.specs.declared.steps.Target.TheVariants.{Point as ToPoint, Commit, Undone, Refuse}
use Rattle.acc_base.specs.declared.steps.Step.{Step}
use Rattle.acc_base.specs.declared.designs.Point.{Point}
use Rattle.acc_base.specs.declared.designs.TxType.{TxType}
use Rattle.acc_base.specs.declared.designs.Design.{Design}
use Rattle.acc_base.specs.declared.designs.Side.{Side}
use Rattle.acc_base.specs.declared.designs.Side.TheVariants.{Next, Undo}
use Rattle.acc_base.specs.declared.machines.Frame.{Frame}
use Rattle.acc_base.specs.declared.sequents.Rule.{Rule}
use Rattle.acc_base.specs.declared.sequents.Rule.TheVariants as rule
use Rattle.acc_base.specs.Linear.{variables}
use Rattle.acc_base.specs.Reads.{Reading}
use Rattle.acc_base.specs.Truth.{ClauseTrue}
use Rattle.acc_base.specs.Assertions.{AllTrue, Holds, Always, clauses_of}
use Rattle.acc_base.specs.Effects.{point_of, step_at}
use Rattle.acc_base.specs.Machine.{moved}
use Rattle.acc_base.specs.Shapes.{ActionFits, RowFits, IsFullKey}
use Rattle.acc_base.specs.RowsAfter.{rows_after, IsThere, AreThere}
use Rattle.acc_formed.specs.Ranges.{clause_in}
use Rattle.acc_formed.specs.WellFormed.{AreClausesFormed, IsWellFormed}
use Rattle.acc_formed.proofs.InRange.{design_range}
use Rattle.acc_base.specs.Fits.{IsReady}
use Rattle.acc_base.specs.Soundness.{MeetsAt, posts_of, repairs_of}
use Rattle.acc_oblig.specs.Settings.{last_now}
use Rattle.acc_oblig.specs.Drafts.{Place, setting_of, path_drafts, of_some, each_path}
use Rattle.acc_oblig.specs.PathPromises.{promised, point_clauses, promise_at, promise_drafts, clause_names, always_at, always_drafts}
use Rattle.acc_oblig.specs.PathPromises.{changed_row, row_there, there_at, there_drafts}
use Rattle.acc_preconditions.proofs.PathRows.{leaves_rows_after}
use Rattle.acc_oblig.proofs.Taken.{names_worth}
use Rattle.acc_oblig.proofs.Judged.{DraftTrue, ClauseFits}
use Rattle.acc_oblig.proofs.Listed.{each_at, number_at, some_at, path_at}
use Rattle.acc_oblig.proofs.PathClauses.{path_clause}
use Rattle.acc_oblig.proofs.RowThere.{all_there, is_there}
use Rattle.acc_oblig.proofs.Others.{clause_same}
use Rattle.acc_oblig.proofs.OnPath.{at_some, OnPath, clauses_fit, formed_point}

few_taken : {X : Type 0} (P : X → Type 0) (k : ℕ) (xs : List X) → AllByRecursion P xs → AllByRecursion P (take k xs)
few_taken P zero xs h = tt
few_taken P (suc k) [] h = tt
few_taken P (suc k) (x ∷ xs) h = (h.0, few_taken P k xs h.1)

pub within : {X : Type 0} (xs : List X) (k : ℕ) (x : X) → slice_get xs k ≡ Some x → k < length xs
within [] k x e = absurd (none-some x e)
within (y ∷ ys) zero x e = omega arith
within (y ∷ ys) (suc k) x e = let h = within ys k x e in omega (arith, h)

module _ (d : Design) (wf : IsWellFormed d) (db : List Row) (f : Frame) (ready : IsReady d db f) (side : Side) (after : List Row)
    (last : Reading) (j : ℕ) (to : Target) (o : OnPath d db f side after last j to) where
  abbrev step : Step
  step = step_at side o.p

  abbrev env : List ℤ
  env = variables f.t last.locals

  abbrev place : Place
  place = record { at = record { ty = f.ty; point = f.point }; side = side; path = j }

  -- a frame has as many locals as its type, so names count the same
  abbrev names_of : ℕ → List ℕ
  names_of n =
      last_now
      (record {
        always = d.always;
        clauses = o.p.clauses;
        locals = n;
        reads = step.reads;
        earlier = take j step.paths;
        guard = o.path.guard;
        actions = o.path.actions;
      }) ++ n ∷ []

  -- ---- the row of each `set` and `add` is there

  there_drafts_at :
      (n : ℕ) → length o.x.locals ≡ n → (k : ℕ) (r : ℕ × List Lin)
      → AllByRecursion (DraftTrue d) (path_drafts rule.There
      (record (setting_of d o.x o.p step j o.path) { actions = take k o.path.actions }) k
      place (names_of (length o.x.locals)) (row_there r))
      → AllByRecursion (DraftTrue d) (path_drafts rule.There
      (record {
        always = d.always;
        clauses = o.p.clauses;
        locals = n;
        reads = step.reads;
        earlier = take j step.paths;
        guard = o.path.guard;
        actions = take k o.path.actions;
      }) k place (names_of n) (row_there r))
  there_drafts_at n e k r h =
      subst
      (λ m. AllByRecursion (DraftTrue d) (path_drafts rule.There
      (record {
        always = d.always;
        clauses = o.p.clauses;
        locals = m;
        reads = step.reads;
        earlier = take j step.paths;
        guard = o.path.guard;
        actions = take k o.path.actions;
      }) k place (names_of m) (row_there r))) e h

  row_fits : (a : Action) (r : ℕ × List Lin) → changed_row a ≡ Some r → ActionFits d.tables a → ClauseFits d.tables (row_there r)
  row_fits a r e fits = record { guards = tt; rel = (key a e fits, tt) }
    where
      key : (b : Action) → changed_row b ≡ Some r → ActionFits d.tables b → IsFullKey (slice_get d.tables r.0) (length r.1)
      key (action.Put t k vs) g h = absurd (none-some r g)
      key (action.Del t k) g h = absurd (none-some r g)
      key (action.Set t k c v) g h =
          subst (λ (q : ℕ × List Lin). IsFullKey (slice_get d.tables q.0) (length q.1)) (same_Some (t, k) r g) h.0
      key (action.Add t k c v) g h =
          subst (λ (q : ℕ × List Lin). IsFullKey (slice_get d.tables q.0) (length q.1)) (same_Some (t, k) r g) h.0

  pub paths_there : AllByRecursion (DraftTrue d) (there_drafts d) → AreThere env o.path.actions db
  paths_there h = all_there env o.path.actions db at
    where
      at :
          (k : ℕ) (a : Action) → slice_get o.path.actions k ≡ Some a → AreThere env (take k o.path.actions) db
          → IsThere env a (rows_after env (take k o.path.actions) db)
      at k a e there =
          is_there (rows_after env (take k o.path.actions) db) env a (λ r g.
          let walk = number_at (DraftTrue d) (λ n. each_path d (there_at d n)) 16 k
          (let l = within o.path.actions k a e in let m = o.few in omega (arith, l, m)) h in
          let mine = path_at (DraftTrue d) d (there_at d k) walk f.ty f.point o.x o.p side j o.path o.is_type o.is_point o.is_path in
          let action = some_at (DraftTrue d) (λ b. of_some
          (λ q. path_drafts rule.There (record (setting_of d o.x o.p step j o.path) { actions = take k o.path.actions }) k place
          (names_of (length o.x.locals)) (row_there q)) (changed_row b)) (slice_get o.path.actions k) a e mine in
          let row = some_at (DraftTrue d) (λ q. path_drafts rule.There
          (record (setting_of d o.x o.p step j o.path) { actions = take k o.path.actions }) k place (names_of (length o.x.locals))
          (row_there q)) (changed_row a) r g action in
          path_clause d db ready.rows f o.p step last j o.path o.on (take k o.path.actions)
          (few_taken (ActionFits d.tables) k o.path.actions o.acts_fit) there (rows_after env (take k o.path.actions) db) refl rule.There k
          (λ q. cc) (λ q. cc) place (names_of (length f.locals)) env
          (λ own. names_worth d db f o.p step last j o.path o.on own) (row_there r)
          (row_fits a r g (at_some (ActionFits d.tables) o.path.actions k a o.acts_fit e))
          (there_drafts_at (length f.locals) (sym o.each) k r row))

  -- ---- what the target promises

  pub record Promise (k : ℕ) (c : Clause) : Type 0 where
    pub fits : ClauseFits d.tables c
    pub few : k < 64

  promise_by :
      (names : List (List ℕ)) (vars : ℕ) (cs : List Clause) → AreClausesFormed d.tables names 64 cs
      → All (λ c. IsTrue (clause_in d.tables vars c)) cs → (k : ℕ) (c : Clause) → slice_get cs k ≡ Some c → Promise k c
  promise_by names vars cs formed range k c e =
      let l = within cs k c e in
      let m = formed.few in
      record { fits = clauses_fit d names 64 vars cs formed range k c e; few = omega (arith, l, m) }

  promise : (t : Target) (k : ℕ) (c : Clause) → slice_get (promised o.x t) k ≡ Some c → Promise k c
  promise (ToPoint q) k c e = by (slice_get o.x.points q) refl e
    where
      by : (z : Option Point) → slice_get o.x.points q ≡ z → slice_get (point_clauses z) k ≡ Some c → Promise k c
      by None a g = absurd (none-some c g)
      by (Some y) a g =
          let fp = formed_point d wf f.ty q o.x y o.is_type a in
          promise_by o.x.locals (length o.x.locals + 1) y.clauses fp.formed.clauses fp.range.clauses k c g
  promise Commit k c e = promise_by o.x.locals (length o.x.locals + 1) o.x.posts o.formed.type.posts o.formed.type_range.posts k c e
  promise Undone k c e = promise_by o.x.locals (length o.x.locals + 1) o.x.repairs o.formed.type.repairs o.formed.type_range.repairs k c e
  promise (Refuse n) k c e = absurd (none-some c e)

  drafts_at :
      (r : Rule) (names : ℕ → List ℕ) (n : ℕ) → length o.x.locals ≡ n → (k : ℕ) (c : Clause)
      → AllByRecursion (DraftTrue d) (path_drafts r (setting_of d o.x o.p step j o.path) k place (names (length o.x.locals)) c)
      → AllByRecursion (DraftTrue d) (path_drafts r
      (record {
        always = d.always;
        clauses = o.p.clauses;
        locals = n;
        reads = step.reads;
        earlier = take j step.paths;
        guard = o.path.guard;
        actions = o.path.actions;
      }) k place (names n) c)
  drafts_at r names n e k c h =
      subst
      (λ m. AllByRecursion (DraftTrue d) (path_drafts r
      (record {
        always = d.always;
        clauses = o.p.clauses;
        locals = m;
        reads = step.reads;
        earlier = take j step.paths;
        guard = o.path.guard;
        actions = o.path.actions;
      }) k place (names m) c)) e h

  left : rows_after env o.path.actions db ≡ after
  left = leaves_rows_after side env o.path.actions db after o.actions

  by_places : {X : Type 0} (P : X → Type 0) (xs : List X) → ((k : ℕ) (x : X) → slice_get xs k ≡ Some x → P x) → AllByRecursion P xs
  by_places P [] h = tt
  by_places P (x ∷ xs) h = (h zero x refl, by_places P xs (λ k y e. h (suc k) y e))

  module _ (there : AreThere env o.path.actions db) where
    promise_true : AllByRecursion (DraftTrue d) (promise_drafts d) → AllByRecursion (ClauseTrue after env) (promised o.x o.path.target)
    promise_true h = by_places (ClauseTrue after env) (promised o.x o.path.target) at
      where
        at : (k : ℕ) (c : Clause) → slice_get (promised o.x o.path.target) k ≡ Some c → ClauseTrue after env c
        at k c e =
            let mine = promise o.path.target k c e in
            let walk = number_at (DraftTrue d) (λ n. each_path d (promise_at d n)) 64 k mine.few h in
            let made = path_at (DraftTrue d) d (promise_at d k) walk f.ty f.point o.x o.p side j o.path o.is_type o.is_point o.is_path in
            let drafts = some_at (DraftTrue d) (path_drafts rule.Promises (setting_of d o.x o.p step j o.path) k place
            (names_of (length o.x.locals)))
            (slice_get (promised o.x o.path.target) k) c e made in
            path_clause d db ready.rows f o.p step last j o.path o.on o.path.actions o.acts_fit there after left rule.Promises k (λ q. cc)
            (λ q. cc) place (names_of (length f.locals)) env (λ own. names_worth d db f o.p step last j o.path o.on own) c
            mine.fits (drafts_at rule.Promises names_of (length f.locals) (sym o.each) k c drafts)

    -- what holds always
    pub always_after : AllByRecursion (DraftTrue d) (always_drafts d) → Always d after
    always_after h = All-from_recursion (ClauseTrue after []) d.always (by_places (ClauseTrue after []) d.always at)
      where
        at : (k : ℕ) (c : Clause) → slice_get d.always k ≡ Some c → ClauseTrue after [] c
        at k c e =
            let walk = each_at (DraftTrue d) (λ n z. each_path d (always_at d n z)) d.always k c h e in
            let made = path_at (DraftTrue d) d (always_at d k c) walk f.ty f.point o.x o.p side j o.path o.is_type o.is_point o.is_path in
            by (clause_names o.path.actions c) refl made
          where
            fits : ClauseFits d.tables c
            fits = clauses_fit d [] 128 0 d.always wf.always (design_range d wf.in_range).always k c e

            by :
                (b : Bool) → clause_names o.path.actions c ≡ b
                → AllByRecursion (DraftTrue d) (if b then path_drafts rule.Always (setting_of d o.x o.p step j o.path) k place [] c else [])
                → ClauseTrue after [] c
            by true n m =
                path_clause d db ready.rows f o.p step last j o.path o.on o.path.actions o.acts_fit there after left rule.Always k (λ q. cc)
                (λ q. cc) place [] [] (λ own. refl) c fits (drafts_at rule.Always (λ z. []) (length f.locals) (sym o.each) k c m)
            by false n m =
                subst (λ rows. ClauseTrue rows [] c) left
                (clause_same d.tables env o.path.actions db o.acts_fit (recursion_from_All (RowFits d.tables) db ready.rows.shapes)
                ready.rows.order there [] c n (at_some (ClauseTrue db []) d.always k c o.on.always e))

    -- what is promised where the path leads
    pub meets : AllByRecursion (DraftTrue d) (promise_drafts d) → MeetsAt d f side after last to
    meets h = subst (λ t. MeetsAt d f side after last t) o.target (by o.path.target (promise_true h))
      where
        point_is : (q : ℕ) → point_of d f.ty q ≡ slice_get o.x.points q
        point_is q = ap (λ z. option_and_then (λ (y : TxType). slice_get y.points q) z) o.is_type

        clauses_are :
            (z : Option Point) → AllByRecursion (ClauseTrue after env) (point_clauses z) → AllTrue (clauses_of z) after f.t last.locals
        clauses_are None g = All-from_recursion (ClauseTrue after env) [] g
        clauses_are (Some y) g = All-from_recursion (ClauseTrue after env) y.clauses g

        holds : (s : Side) (q : ℕ) → AllTrue (clauses_of (point_of d f.ty q)) after f.t last.locals → Holds d after (moved s f last q)
        holds Next q g = g
        holds Undo q g = g

        by : (t : Target) → AllByRecursion (ClauseTrue after env) (promised o.x t) → MeetsAt d f side after last t
        by (ToPoint q) g =
            holds side q (subst (λ z. AllTrue (clauses_of z) after f.t last.locals) (sym (point_is q))
            (clauses_are (slice_get o.x.points q) g))
        by Commit g =
            subst (λ z. AllTrue (posts_of z) after f.t last.locals) (sym o.is_type) (All-from_recursion (ClauseTrue after env) o.x.posts g)
        by Undone g =
            subst (λ z. AllTrue (repairs_of z) after f.t last.locals) (sym o.is_type)
            (All-from_recursion (ClauseTrue after env) o.x.repairs g)
        by (Refuse n) g = tt
