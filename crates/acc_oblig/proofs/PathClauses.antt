-- What true obligations say of a clause after a taken path.
use Rattle.std.proofs.Common.{◌≡◌, ◌≢◌, ℕ, ◌+◌, List, [], map, length, refl, ap, ◌∙◌, subst, arith, None, ℤ, pos}
use Rattle.std.specs.List.{AllByRecursion}
use Rattle.std.proofs.lemmas.List.{get_or-append-add}
use Rattle.acc_base.specs.declared.tables.Row.{Row}
use Rattle.acc_base.specs.declared.forms.Clause.{Clause}
use Rattle.acc_base.specs.declared.steps.Action.{Action}
use Rattle.acc_base.specs.declared.steps.Path.{Path}
use Rattle.acc_base.specs.declared.steps.Step.{Step}
use Rattle.acc_base.specs.declared.designs.Point.{Point}
use Rattle.acc_base.specs.declared.designs.Design.{Design}
use Rattle.acc_base.specs.declared.machines.Frame.{Frame}
use Rattle.acc_base.specs.declared.sequents.Rule.{Rule}
use Rattle.acc_base.specs.declared.sequents.Rule.TheVariants.{Begins, Empty}
use Rattle.acc_base.specs.Linear.{var, variables}
use Rattle.acc_base.specs.Reads.{Reading, unread}
use Rattle.acc_base.specs.Truth.{ClauseTrue}
use Rattle.acc_base.specs.Shapes.{ActionFits}
use Rattle.acc_base.specs.RowsAfter.{rows_after, AreThere}
use Rattle.acc_base.specs.Fits.{RowsFit}
use Rattle.acc_oblig.specs.Settings.{Setting, step_vars, after_naming, step_hyps, path_actions}
use Rattle.acc_oblig.specs.Drafts.{Place, path_origin, path_rels, path_drafts}
use Rattle.acc_oblig.proofs.Names.{agrees_by, actions_named}
use Rattle.acc_oblig.proofs.Carries.{carried, carried_long, carried_more}
use Rattle.acc_oblig.proofs.Walks.{values_long}
use Rattle.acc_oblig.proofs.Shapes.{actions_fit}
use Rattle.acc_oblig.proofs.Judged.{DraftTrue, ClauseFits, Stands, clause_after}
use Rattle.acc_oblig.proofs.Taken.{IsOn, vs, setting, after_agrees, hyps_true, rels_true, there_named}

-- own values stand behind a step's variables
pub own_behind :
    (f : Frame) (ws own : List ℤ) (base : ℕ) → length f.locals + 1 + length ws ≡ base → (j : ℕ)
    → var (carried f ws own) (base + j) ≡ var own j
own_behind f ws own base long j =
    let all = carried_long f ws [] in
    let n : length (carried f ws []) ≡ base = omega (arith, all, long) in
    subst (λ m. var (carried f ws own) (m + j) ≡ var own j) n
    (subst (λ z. var z (length (carried f ws []) + j) ≡ var own j) (carried_more f ws [] own)
    (get_or-append-add (carried f ws []) own j (pos 0)))

module _ (d : Design) (db : List Row) (fit : RowsFit d db) (f : Frame) (p : Point) (step : Step) (last : Reading) (j : ℕ) (path : Path)
    (on : IsOn d db f p step last j path) where
  abbrev pub ws : List ℤ
  ws = vs d db f p step last j path on

  -- the setting with some actions
  abbrev pub acting : List Action → Setting
  acting acts = record (setting d db f p step last j path on) { actions = acts }

  pub vars_long : length f.locals + 1 + length ws ≡ step_vars (acting [])
  vars_long = ap (λ n. length f.locals + 1 + n) (values_long db f step.reads (unread f))

  module _ (acts : List Action) (acts_fit : AllByRecursion (ActionFits d.tables) acts)
      (there : AreThere (variables f.t last.locals) acts db) (after : List Row)
      (leaves : rows_after (variables f.t last.locals) acts db ≡ after) (rule : Rule) (k : ℕ)
      (not_empty : rule ≢ Empty) (not_begins : rule ≢ Begins) (w : Place) where
    stands :
        (names : List ℕ) (first own : List ℤ) → map (var (carried f ws own)) names ≡ first
        → Stands d db fit (path_origin rule None k w) (step_hyps (acting acts)) (path_rels (acting acts)) (path_actions (acting acts)) names
        (step_vars (acting acts)) first after (length (carried f ws own)) own (carried f ws own)
    stands names first own worth =
        let F = carried f ws own in
        let n = after_naming (setting d db f p step last j path on) (length F) in
        let agree = after_agrees d db f p step last j path on own in
        record {
          long = refl;
          asks = λ case. record { empty = λ h. absurd (not_empty h); fresh = λ h. absurd (not_begins h) };
          hyps_true = hyps_true d db f p step last j path on own;
          rels_true = rels_true d db f p step last j path on own;
          acts_fit = actions_fit d.tables n acts acts_fit;
          there = there_named n F (variables f.t last.locals) agree acts db there;
          leaves = actions_named n F (variables f.t last.locals) agree acts db ∙ leaves;
          agree = agrees_by names (step_vars (acting acts)) F first own worth (own_behind f ws own (step_vars (acting acts)) vars_long);
        }

    -- a clause whose first variables have these names is true after the path
    pub path_clause :
        (names : List ℕ) (first : List ℤ) → ((own : List ℤ) → map (var (carried f ws own)) names ≡ first) → (c : Clause)
        → ClauseFits d.tables c → AllByRecursion (DraftTrue d) (path_drafts rule (acting acts) k w names c) → ClauseTrue after first c
    path_clause names first worth c fits drafts =
        clause_after d db fit (path_origin rule None k w) (step_hyps (acting acts)) (path_rels (acting acts)) (path_actions (acting acts))
        names (step_vars (acting acts)) first after c drafts fits
        (λ
        own
        long. (
          carried f ws own,
          subst (λ vars. Stands d db fit (path_origin rule None k w) (step_hyps (acting acts))
              (path_rels (acting acts)) (path_actions (acting acts)) names (step_vars (acting acts)) first after vars own
              (carried f ws own))
              (all_long own long) (stands names first own (worth own)),
        ))
      where
        all_long : (own : List ℤ) → length own ≡ length c.vars → length (carried f ws own) ≡ step_vars (acting acts) + length c.vars
        all_long own long =
            let all = carried_long f ws own in
            let mine = vars_long in
            omega (arith, all, mine, long)
