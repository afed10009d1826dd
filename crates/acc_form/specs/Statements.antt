-- The marks on a design's statements in print, part by part.
use Rattle.std.specs.Prelude.{ℕ, ◌+◌, Bool, false, not, ◌&&◌, ◌||◌, ◌==◌, nat_le, nat_lt, List, [], ◌++◌, length, take, drop, pos}
use Rattle.std.specs.Prelude.{if◌then◌else◌}
use Rattle.std.specs.List.{list_all, list_any}
use Rattle.std.specs.Ordering.{int_eq}
use Rattle.acc_base.specs.declared.rules.FormRule.TheVariants as rules
use Rattle.acc_base.specs.declared.bounds.TheConstants.{MOST_ACTIONS, MOST_ALWAYS, MOST_CLAUSES, MOST_ENTRIES, MOST_HINTS}
use Rattle.acc_base.specs.declared.bounds.TheConstants.{MOST_LOCALS, MOST_PATHS, MOST_POINTS, MOST_READS, MOST_TABLES, MOST_TYPES}
use Rattle.acc_base.specs.declared.forms.Lin.{Lin}
use Rattle.acc_base.specs.declared.forms.Clause.{Clause}
use Rattle.acc_base.specs.declared.tables.Table.{Table}
use Rattle.acc_base.specs.declared.steps.Read.{Read}
use Rattle.acc_base.specs.declared.steps.Action.{Action}
use Rattle.acc_base.specs.declared.steps.Path.{Path}
use Rattle.acc_base.specs.declared.steps.Step.{Step}
use Rattle.acc_base.specs.declared.designs.Side.{Side}
use Rattle.acc_base.specs.declared.designs.Side.TheVariants.{Next, Undo}
use Rattle.acc_base.specs.declared.designs.Point.{Point}
use Rattle.acc_base.specs.declared.designs.TxType.{TxType}
use Rattle.acc_base.specs.declared.designs.Entry.{Entry}
use Rattle.acc_base.specs.declared.designs.Hint.{Hint}
use Rattle.acc_base.specs.declared.designs.Design.{Design}
use Rattle.acc_form.specs.Marks.{Mark, ending, asked, numbered}
use Rattle.acc_formed.specs.Widths.{clause_fits, read_fits, action_fits, read_leaves_a_component, action_is_own}
use Rattle.acc_formed.specs.Sizes.{is_short, lin_small, clause_small, table_small, read_small, action_small, guard_small, target_small}
use Rattle.acc_formed.specs.Sizes.{returns_small}
use Rattle.acc_formed.specs.Names.{are_distinct, are_new, names_table, names_point, names_type}
use Rattle.acc_formed.specs.Ends.{is_limit, refuses_by_number, divides, may_end, refuses_plainly, assigns_local, may_read, is_undone}
use Rattle.acc_formed.specs.Entries.{leaves_starts, same_entry, pairs_stay}

-- ---- tables and clauses

-- at most 64 tables
abbrev pub table_marks : List Table → ℕ → Table → List Mark
table_marks tables i t =
    asked rules.Limits (not (i == MOST_TABLES) && table_small t) ++ (
    asked rules.Names (not (names_table (take i tables) t.name) && are_distinct t.cols) ++ ending)

-- `always`, `ensures`, `repairs` or `holds`: so many clauses, each behind names that its own variables don't repeat
abbrev pub clause_marks : List Table → List (List ℕ) → ℕ → ℕ → Clause → List Mark
clause_marks tables names most i c =
    asked rules.Widths (clause_fits tables c) ++ (
    asked rules.Limits (not (i == most) && clause_small c) ++ (asked rules.Names (are_new names c.vars) ++ ending))

-- ---- steps, on a side; the undo of a start point is bare

-- at most 32 reads
abbrev pub read_marks : List Table → TxType → Side → ℕ → Read → List Mark
read_marks tables t side i r =
    asked rules.Widths (read_fits tables r) ++ (
    asked rules.ShortPrefixes (read_leaves_a_component tables r) ++ (
    asked rules.Limits (not (i == MOST_READS) && read_small r) ++ (
    asked rules.Numbers (divides r) ++ (asked rules.Assigned (assigns_local t r) ++ (asked rules.UndoReads (may_read side r) ++ ending)))))

-- at most 16 actions
abbrev pub action_marks : List Table → TxType → Bool → ℕ → Action → List Mark
action_marks tables t is_bare i a =
    asked rules.Widths (action_fits tables a) ++ (
    asked rules.Limits (not (i == MOST_ACTIONS) && action_small a) ++ (
    asked rules.PrivateKeys (action_is_own tables (length t.locals) a) ++ (asked rules.StartUndos (not is_bare) ++ ending)))

-- where a path ends
abbrev pub target_marks : TxType → Side → Bool → Path → List Mark
target_marks t side is_bare p =
    asked rules.Limits (target_small t.points p.target) ++ (
    asked rules.Numbers (refuses_by_number p.target) ++ (
    asked rules.Ends (may_end side p.target) ++ (
    asked rules.Refusals (refuses_plainly p.actions p.target) ++ (asked rules.StartUndos (not is_bare || is_undone p.target) ++ ending))))

-- `path` with its guard, one of at most 16 and of so many; its actions; its end
abbrev pub path_marks : List Table → TxType → Side → Bool → ℕ → ℕ → Path → List Mark
path_marks tables t side is_bare count i p =
    asked rules.Limits (not (i == MOST_PATHS) && guard_small p.guard) ++ (
    asked rules.LastPaths (nat_lt (i + 1) count || (length p.guard == 0)) ++ (
    ending ++ (numbered (action_marks tables t is_bare) p.actions ++ target_marks t side is_bare p)))

-- `next` or `undo`, its reads, its paths
abbrev pub step_marks : List Table → TxType → Side → Bool → Step → List Mark
step_marks tables t side is_bare s =
    ending ++ (numbered (read_marks tables t side) s.reads ++ numbered (path_marks tables t side is_bare (length s.paths)) s.paths)

-- ---- points

-- a variant is printed where it isn't 0
abbrev pub is_zero : Lin → Bool
is_zero l = (length l.coeffs == 0) && int_eq l.constant (pos 0)

abbrev pub variant_marks : Lin → List Mark
variant_marks l = if is_zero l then [] else (asked rules.Limits (lin_small l) ++ ending)

-- `point` with its name, one of at most 32; the variant; at most 64 clauses that hold; the two steps
abbrev pub point_marks : List Table → TxType → ℕ → Point → List Mark
point_marks tables t i p =
    asked rules.Limits (not (i == MOST_POINTS) && is_short p.name) ++ (
    asked rules.Names (not (names_point (take i t.points) p.name)) ++ (
    ending ++ (
    variant_marks p.variant ++ (
    numbered (clause_marks tables t.locals MOST_CLAUSES) p.clauses ++ (
    step_marks tables t Next false p.next ++ step_marks tables t Undo (i == 0) p.undo)))))

-- ---- types

-- `type` with its name and parameters, one of at most 64 and with at most 48 parameters; `limit`
abbrev pub head_marks : List TxType → ℕ → TxType → List Mark
head_marks types i t =
    asked rules.Limits (not (i == MOST_TYPES) && is_short t.name && nat_le t.params MOST_LOCALS
    && list_all is_short (take t.params t.locals)) ++ (
    asked rules.Names (not (names_type (take i types) t.name) && are_distinct (take t.params t.locals)) ++ (
    ending ++ (asked rules.Numbers (is_limit t.limit) ++ ending)))

-- `returns`, where something is returned
abbrev pub returns_marks : TxType → List Mark
returns_marks t = if length t.returns == 0 then [] else (asked rules.Limits (returns_small t.locals t.returns) ++ ending)

-- `local`, where there are locals that are no parameters; at most 48 locals, the parameters among them
abbrev pub locals_marks : TxType → List Mark
locals_marks t =
    if nat_le (length t.locals) t.params then [] else (
    asked rules.Limits (nat_le (length t.locals) MOST_LOCALS && list_all is_short (drop t.params t.locals)) ++ (
    asked rules.Names (are_new (take t.params t.locals) (drop t.params t.locals)) ++ ending))

-- a type: at most 64 clauses that it ensures, and 64 that it repairs
abbrev pub type_marks : List Table → List TxType → ℕ → TxType → List Mark
type_marks tables types i t =
    head_marks types i t ++ (
    returns_marks t ++ (
    locals_marks t ++ (
    numbered (clause_marks tables t.locals MOST_CLAUSES) t.posts ++ (
    numbered (clause_marks tables t.locals MOST_CLAUSES) t.repairs ++ numbered (point_marks tables t) t.points))))

-- ---- entries, hints, and the whole

-- at most 1,024 entries
abbrev pub entry_marks : List TxType → List Entry → ℕ → Entry → List Mark
entry_marks types entries i e =
    asked rules.Limits (not (i == MOST_ENTRIES)) ++ (
    asked rules.Starts (leaves_starts e) ++ (
    asked rules.Entries (not (list_any (same_entry e) (take i entries))) ++ (asked rules.Pairs (pairs_stay types e) ++ ending)))

-- at most 1,024 hints
abbrev pub hint_marks : ℕ → Hint → List Mark
hint_marks i h = asked rules.Limits (not (i == MOST_HINTS) && lin_small h.lin) ++ ending

-- at most 128 clauses that hold always; they have their own variables alone
abbrev pub design_marks : Design → List Mark
design_marks d =
    numbered (table_marks d.tables) d.tables ++ (
    numbered (clause_marks d.tables [] MOST_ALWAYS) d.always ++ (
    numbered (type_marks d.tables d.types) d.types ++ (
    numbered (entry_marks d.types d.entries) d.entries ++ numbered hint_marks d.hints)))
