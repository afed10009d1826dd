-- The obligations on the assertions of others: a path keeps the clauses of a held point, where no entry forbids its step.
use Rattle.std.specs.Prelude.{ℕ, ◌+◌, Bool, true, ◌&&◌, if◌then◌else◌, List, [], ◌∷◌, ◌++◌, length, map, find, Option, Some, None}
use Rattle.std.specs.Prelude.{slice_index_or, pos, negsuc}
use Rattle.std.specs.List.{list_any}
use Rattle.acc_base.specs.declared.forms.Lin.{Lin}
use Rattle.acc_base.specs.declared.forms.Form.{Form}
use Rattle.acc_base.specs.declared.forms.Rel.{Rel}
use Rattle.acc_base.specs.declared.forms.Clause.{Clause}
use Rattle.acc_base.specs.declared.steps.Path.{Path}
use Rattle.acc_base.specs.declared.steps.Step.{Step}
use Rattle.acc_base.specs.declared.designs.At.{At}
use Rattle.acc_base.specs.declared.designs.Side.{Side}
use Rattle.acc_base.specs.declared.designs.Side.TheVariants.{Next, Undo}
use Rattle.acc_base.specs.declared.designs.Entry.{Entry}
use Rattle.acc_base.specs.declared.designs.Point.{Point}
use Rattle.acc_base.specs.declared.designs.TxType.{TxType}
use Rattle.acc_base.specs.declared.designs.Design.{Design}
use Rattle.acc_base.specs.declared.sequents.Origin.{Origin}
use Rattle.acc_base.specs.declared.sequents.Rule.TheVariants.{Spares}
use Rattle.acc_base.specs.Items.{numbers_from}
use Rattle.acc_preconditions.specs.Preconditions.{wp_of}
use Rattle.acc_formed.specs.Entries.{same_point, same_side}
use Rattle.acc_oblig.specs.Naming.{own_naming, own_clauses, named_rel}
use Rattle.acc_oblig.specs.Relations.{is_less, not_all_none}
use Rattle.acc_oblig.specs.Settings.{Setting, last_now, step_vars, frame_bounds, step_bounds, step_rels, step_hyps, path_actions}
use Rattle.acc_oblig.specs.Drafts.{is_clause_wide, Draft, Place, each, goals_of, each_path, path_origin, setting_of}
use Rattle.acc_oblig.specs.PathPromises.{clause_names}

-- ---- entries

-- the entry for a held point and a step, if there is one
abbrev pub is_for : At → At → Side → Entry → Bool
is_for held step side e = same_point e.held held && same_point e.step step && same_side e.side side

abbrev pub entry_for : List Entry → At → At → Side → Option Entry
entry_for entries held step side = find (is_for held step side) entries

-- the variable by which an entry judges a local of the step: forward as it is after the reads
abbrev pub judged_var : Setting → Side → ℕ → ℕ
judged_var s Next y = slice_index_or (last_now s) y 0
judged_var s Undo y = y

-- the difference of a pair, the held local minus that of the step
abbrev pub pair_lin : Setting → Side → ℕ × ℕ → Lin
pair_lin s side p =
    record { coeffs = (step_vars s + p.0, pos 1) ∷ (judged_var s side p.1, negsuc 0) ∷ []; constant = pos 0 }

-- a pair differs
abbrev pub pairs_differ : Setting → Side → List (ℕ × ℕ) → Rel
pairs_differ s side pairs = not_all_none (map (pair_lin s side) pairs)

-- ---- goals

-- two obligations a goal: where the held number is lower, and where it is higher
abbrev pub ordered_drafts : (ℕ → Origin) → ℕ → List Clause → List Rel → Rel → Rel → List Rel → Bool → ℕ → List Form → List Draft
ordered_drafts origin vars hyps first lower higher rest wide case [] = []
ordered_drafts origin vars hyps first lower higher rest wide case (g ∷ gs) =
    record {
      sequent = record { origin = origin case; vars = vars; hyps = hyps; rels = first ++ lower ∷ rest; goal = g };
      wide = wide;
    } ∷ record {
      sequent =
          record { origin = origin (case + 1); vars = vars; hyps = hyps; rels = first ++ higher ∷ rest; goal = g };
      wide = wide;
    }
    ∷ ordered_drafts origin vars hyps first lower higher rest wide (case + 2) gs

-- the variables of the held locals and number, which stand behind those of the step
abbrev pub held_names : Setting → ℕ → List ℕ
held_names s held = numbers_from (step_vars s) (held + 1)

-- the held type has so many locals; in obligations of so many variables
abbrev pub spare_in : (ℕ → Origin) → Setting → List Clause → ℕ → List Rel → Clause → ℕ → List Draft
spare_in origin s clauses held pairs c vars =
    let n = own_naming (held_names s held) (step_vars s + (held + 1)) (length c.vars) in
    let actions = path_actions s vars in
    let guards = map (named_rel n) c.guards in
    let r = named_rel n c.rel in
    let hyps = step_hyps s vars ++ own_clauses (held_names s held) vars clauses in
    let bounds = step_bounds s (length s.reads) ++ frame_bounds (step_vars s) held (step_vars s + held) in
    let lower = is_less (step_vars s + held) s.locals in
    let higher = is_less s.locals (step_vars s + held) in
    let rest = pairs ++ map (wp_of actions) guards in
    let wide = is_clause_wide actions guards r in
    ordered_drafts origin vars hyps (bounds ++ step_rels s vars) lower higher rest wide 1 (goals_of (wp_of actions r))

abbrev pub spare_drafts : (ℕ → Origin) → Setting → List Clause → ℕ → List Rel → Clause → List Draft
spare_drafts origin s clauses held pairs c =
    spare_in origin s clauses held pairs c (step_vars s + (held + 1) + length c.vars)

-- ---- spares: what others assert

-- a step that a held point doesn't forbid, or forbids where all pairs of the entry are equal; where it has no pairs it always does
abbrev pub by_entry : (ℕ → Origin) → Setting → Side → List Clause → ℕ → Clause → Option Entry → List Draft
by_entry origin s side clauses held c None = spare_drafts origin s clauses held [] c
by_entry origin s side clauses held c (Some e) =
    if list_any (λ p. true) e.pairs then spare_drafts origin s clauses held (pairs_differ s side e.pairs ∷ []) c
    else []

abbrev pub spare_at : Design → At → TxType → Point → ℕ → Clause → Place → TxType → Point → Step → Path → List Draft
spare_at d held x h k c w y p step path =
    let s : Setting = setting_of d y p step w.path path in
    let entry = entry_for d.entries held w.at w.side in
    if clause_names path.actions c then by_entry (path_origin Spares (Some held) k w) s w.side h.clauses (length x.locals) c entry
    else []

-- the obligations on the clauses of one held point
abbrev pub held_drafts : Design → ℕ → TxType → ℕ → Point → List Draft
held_drafts d ty x i h = each (λ k c. each_path d (spare_at d (record { ty = ty; point = i }) x h k c)) h.clauses

abbrev pub all_spare_drafts : Design → List Draft
all_spare_drafts d = each (λ ty x. each (held_drafts d ty x) x.points) d.types
