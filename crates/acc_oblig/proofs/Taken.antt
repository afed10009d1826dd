-- What is assumed where a path is taken is true when it is taken.
use Rattle.std.proofs.Common.{◌≡◌, ℕ, ◌+◌, ◌^◌, ◌≤◌, true, List, [], ◌∷◌, ◌++◌, map, take, length, refl, sym, ◌∙◌, subst, arith, Some, ℤ}
use Rattle.std.proofs.Common.{pos}
use Rattle.std.specs.Prelude.{IsTrue}
use Rattle.std.specs.List.{list_all, list_any, AllByRecursion}
use Rattle.std.proofs.Math.Seq.{get_or-append_seam}
use Rattle.std.proofs.lemmas.List.{get_or-append-add}
use Rattle.acc_base.specs.declared.tables.Row.{Row}
use Rattle.acc_base.specs.declared.forms.Clause.{Clause}
use Rattle.acc_base.specs.declared.steps.Action.{Action}
use Rattle.acc_base.specs.declared.steps.Action.TheVariants as action
use Rattle.acc_base.specs.declared.steps.Path.{Path}
use Rattle.acc_base.specs.declared.steps.Step.{Step}
use Rattle.acc_base.specs.declared.designs.Point.{Point}
use Rattle.acc_base.specs.declared.designs.Design.{Design}
use Rattle.acc_base.specs.declared.machines.Frame.{Frame}
use Rattle.acc_base.specs.Numbers.{IsSmall}
use Rattle.acc_base.specs.Tables.{is_at}
use Rattle.acc_base.specs.Linear.{var, variables}
use Rattle.acc_base.specs.Reads.{Reading, unread, after_reads}
use Rattle.acc_base.specs.Actions.{after_action}
use Rattle.acc_base.specs.Truth.{rel_true, ClauseTrue}
use Rattle.acc_base.specs.RowsAfter.{IsThere, AreThere}
use Rattle.acc_base.specs.Items.{numbers_from}
use Rattle.acc_preconditions.proofs.Alls.{all-append}
use Rattle.acc_oblig.specs.declared.naming.Naming.{Naming}
use Rattle.acc_oblig.specs.Naming.{own_naming, own_clauses, named_action}
use Rattle.acc_oblig.specs.Relations.{guard_rel}
use Rattle.acc_oblig.specs.Settings.{Setting, first_now, last_now, after_naming, all_read_rels, step_bounds, step_rels, step_hyps}
use Rattle.acc_oblig.specs.Drafts.{path_rels}
use Rattle.acc_oblig.proofs.Names.{Agrees, AgreesNear, AgreesBehind, agrees_by, clause_named, lins_named, action_named}
use Rattle.acc_oblig.proofs.Reading.{read_values, now_worth}
use Rattle.acc_oblig.proofs.ReadRels.{HasDivisor}
use Rattle.acc_oblig.proofs.FormValues.{guards_true, is_at_most_bound_true, is_number_true}
use Rattle.acc_oblig.proofs.Guards.{IsTaken, all_untaken_true}
use Rattle.acc_oblig.proofs.Carries.{Carries, carried, carries, carries_near, carries_more, with_number}
use Rattle.acc_oblig.proofs.Walks.{LooksBelow, TrueRel, bounds_true, ReadsTrue, near_agrees, here_agrees, reads_true, values_small}
use Rattle.acc_oblig.proofs.Walks.{values_long}
use Rattle.acc_oblig.proofs.Judged.{passes, passes_append}

-- ---- actions under their names

module _ (n : Naming) (E e : List ℤ) (agree : Agrees n E e) where
  is_there_named : (a : Action) (db : List Row) → IsThere e a db → IsThere E (named_action n a) db
  is_there_named (action.Put t k vs) db h = tt
  is_there_named (action.Del t k) db h = tt
  is_there_named (action.Set t k c v) db h = subst (λ z. IsTrue (list_any (is_at t z) db)) (sym (lins_named n E e agree k)) h
  is_there_named (action.Add t k c v) db h = subst (λ z. IsTrue (list_any (is_at t z) db)) (sym (lins_named n E e agree k)) h

  pub there_named : (acts : List Action) (db : List Row) → AreThere e acts db → AreThere E (map (named_action n) acts) db
  there_named [] db h = tt
  there_named (a ∷ rest) db h = (
    is_there_named a db h.0,
    subst (AreThere E (map (named_action n) rest)) (sym (action_named n E e agree a db))
        (there_named rest (after_action e a db) h.1),
  )

-- ---- clauses under their names

pub all_named :
    (names : List ℕ) (own : ℕ) (E e : List ℤ) → AgreesBehind names own E e → (db : List Row) (cs : List Clause)
    → AllByRecursion (ClauseTrue db e) cs → AllByRecursion (ClauseTrue db E) (own_clauses names own cs)
all_named names own E e h db [] g = tt
all_named names own E e h db (c ∷ cs) g = (clause_named names own E e h db c g.0, all_named names own E e h db cs g.1)

-- own values stand behind all others
pub behind_all :
    (names : List ℕ) (E first own : List ℤ) → map (var (E ++ own)) names ≡ first
    → Agrees (own_naming names (length E) (length own)) (E ++ own) (first ++ own)
behind_all names E first own h = agrees_by names (length E) (E ++ own) first own h (λ j. get_or-append-add E own j (pos 0))

-- ---- a taken path

pub record IsOn (d : Design) (db : List Row) (f : Frame) (p : Point) (step : Step) (last : Reading) (j : ℕ) (path : Path) : Type 0 where
  pub always : AllByRecursion (ClauseTrue db []) d.always
  pub holds : AllByRecursion (ClauseTrue db (variables f.t f.locals)) p.clauses
  pub small : AllByRecursion IsSmall f.locals
  pub first : 1 ≤ f.t
  pub number : f.t ≤ 2 ^ 45
  pub divisors : AllByRecursion HasDivisor step.reads
  pub looks : AllByRecursion (LooksBelow db) step.reads
  pub reads : after_reads db f step.reads (unread f) ≡ Some last
  pub taken : IsTaken (variables f.t last.locals) step.paths j path

module _ (d : Design) (db : List Row) (f : Frame) (p : Point) (step : Step) (last : Reading) (j : ℕ) (path : Path)
    (on : IsOn d db f p step last j path) where
  abbrev pub vs : List ℤ
  vs = read_values db f (unread f) step.reads

  -- the setting, where the frame has as many locals as its type
  abbrev pub setting : Setting
  setting = record {
    always = d.always;
    clauses = p.clauses;
    locals = length f.locals;
    reads = step.reads;
    earlier = take j step.paths;
    guard = path.guard;
    actions = path.actions;
  }

  abbrev pub e : List ℤ
  e = variables f.t last.locals

  module _ (more : List ℤ) where
    abbrev pub E : List ℤ
    E = carried f vs more

    near : (own : List ℤ) → length own ≤ 1 → Carries f vs (E ++ own) (length E + 1)
    near own few = carries_near f vs more own few

    pub here : Carries f vs E (length E + 1)
    here = carries f vs more (length E + 1) (omega arith)

    values : (F : List ℤ) (past : ℕ) → Carries f vs F past → map (var F) (numbers_from (length f.locals + 1) (length step.reads)) ≡ vs
    values F past c = subst (λ m. map (var F) (numbers_from (length f.locals + 1) m) ≡ vs) (values_long db f step.reads (unread f)) c.values

    pub last_worth : (F : List ℤ) (past : ℕ) → Carries f vs F past → map (var F) (last_now setting) ≡ last.locals
    last_worth F past c =
        now_worth db f F (first_now setting) (length f.locals + 1) step.reads (unread f) last on.reads c.locals (values F past c)

    own_worth : (m : ℤ) → var (E ++ m ∷ []) (length E) ≡ m
    own_worth m = get_or-append_seam E m [] (pos 0)

    after_near : AgreesNear (after_naming setting (length E)) E e
    after_near =
        near_agrees db f vs E near own_worth (last_now setting) last.locals (λ own few. last_worth (E ++ own) (length E + 1) (near own few))

    pub after_agrees : Agrees (after_naming setting (length E)) E e
    after_agrees = here_agrees db f vs E near own_worth (after_naming setting (length E)) e after_near

    -- the names of the locals after the reads and of the number are worth these
    pub names_worth : map (var E) (last_now setting ++ length f.locals ∷ []) ≡ e
    names_worth = with_number f vs E (length E + 1) here (last_now setting) last.locals (last_worth E (length E + 1) here)

    along : ReadsTrue db E (length f.locals) (length E) (first_now setting) (length f.locals + 1) step.reads
    along =
        reads_true db f vs E near own_worth (first_now setting) (length f.locals + 1) step.reads (unread f)
        (λ own few. (near own few).locals) (λ own few. values (E ++ own) (length E + 1) (near own few)) on.divisors on.looks

    -- the clauses of the point speak of the locals and the number before the reads
    before_behind : AgreesBehind (first_now setting ++ length f.locals ∷ []) (length E) E (variables f.t f.locals)
    before_behind own =
        let c = carries_more f vs more own in
        behind_all (first_now setting ++ length f.locals ∷ []) E (variables f.t f.locals) own
        (with_number f vs (E ++ own) _ c (first_now setting) f.locals c.locals)

    always_behind : AgreesBehind [] (length E) E []
    always_behind own = behind_all [] E [] own refl

    pub hyps_true : AllByRecursion (ClauseTrue db E) (step_hyps setting (length E))
    hyps_true =
        all-append (ClauseTrue db E) _ _ (all_named [] (length E) E [] always_behind db d.always on.always)
        (all-append (ClauseTrue db E) _ _ (all_named (first_now setting ++ length f.locals ∷ []) (length E) E (variables f.t f.locals)
        before_behind db p.clauses on.holds) (all-append (ClauseTrue db E) _ _ along.hyps
        (all_untaken_true db E (after_naming setting (length E)) e after_near (take j step.paths) on.taken.before)))

    me_small : IsSmall (var E (length f.locals))
    me_small = subst IsSmall (sym here.me) on.number

    bounds : AllByRecursion (TrueRel db E) (step_bounds setting (length step.reads))
    bounds =
        all-append (TrueRel db E) _ _ (all-append (TrueRel db E) _ _
        (bounds_true db E (first_now setting) (subst (AllByRecursion IsSmall) (sym here.locals) on.small))
        (is_at_most_bound_true db E (length f.locals) me_small, (is_number_true db E (length f.locals) f.t here.me on.first, tt)))
        (bounds_true db E (numbers_from (length f.locals + 1) (length step.reads))
        (subst (AllByRecursion IsSmall) (sym (values E (length E + 1) here)) (values_small db f step.reads (unread f) last on.reads)))

    pub rels_true : list_all (rel_true db E) (path_rels setting (length E)) ≡ true
    rels_true =
        passes_append (rel_true db E) (step_bounds setting (length step.reads)) (step_rels setting (length E))
        (passes (rel_true db E) _ bounds) (passes_append (rel_true db E)
        (all_read_rels (length f.locals) (length E) (first_now setting) (length f.locals + 1) step.reads)
        (map (guard_rel (after_naming setting (length E))) path.guard) (passes (rel_true db E) _ along.rels)
        (guards_true db E (after_naming setting (length E)) e after_agrees path.guard ∙ on.taken.here))
