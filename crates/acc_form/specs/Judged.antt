-- The statements of a design in print, each beside the marks of the form rules on it; and a fault as the statement that breaks its rule.
use Rattle.std.specs.Prelude.{◌≡◌, ◌⊎◌, ℕ, zero, suc, ◌+◌, Bool, false, not, ◌&&◌, ◌||◌, ◌==◌, nat_le, nat_lt, List, [], ◌∷◌, ◌++◌}
use Rattle.std.specs.Prelude.{length, map, take, drop, Contains, if◌then◌else◌, codes}
use Rattle.std.specs.List.{flat_map, list_all}
use Rattle.std.specs.Fmt.{decimal}
use Rattle.acc_base.specs.declared.rules.FormRule.{FormRule}
use Rattle.acc_base.specs.declared.rules.FormRule.TheVariants as rules
use Rattle.acc_base.specs.declared.bounds.TheConstants.{MOST_ALWAYS, MOST_CLAUSES, MOST_LOCALS, MOST_PATHS, MOST_POINTS, MOST_TYPES}
use Rattle.acc_base.specs.Lines.{line}
use Rattle.acc_base.specs.declared.forms.Lin.{Lin}
use Rattle.acc_base.specs.declared.forms.Clause.{Clause}
use Rattle.acc_base.specs.declared.tables.Table.{Table}
use Rattle.acc_base.specs.declared.steps.Read.{Read}
use Rattle.acc_base.specs.declared.steps.Action.{Action}
use Rattle.acc_base.specs.declared.steps.Path.{Path}
use Rattle.acc_base.specs.declared.steps.Step.{Step}
use Rattle.acc_base.specs.declared.designs.Side.{Side}
use Rattle.acc_base.specs.declared.designs.Side.TheVariants.{Next, Undo}
use Rattle.acc_base.specs.declared.designs.Point.{Point}
use Rattle.acc_base.specs.declared.designs.TxType.{TxType}
use Rattle.acc_base.specs.declared.designs.Entry.{Entry}
use Rattle.acc_base.specs.declared.designs.Hint.{Hint}
use Rattle.acc_base.specs.declared.designs.Design.{Design}
use Rattle.acc_form.specs.declared.rules.FormError.{FormError}
use Rattle.acc_form.specs.declared.rules.FormError.TheVariants.{Bad, Memory}
use Rattle.acc_form.specs.Marks.{Mark, Broken, ending, asked}
use Rattle.acc_formed.specs.Ranges.{design_in}
use Rattle.acc_formed.specs.Sizes.{is_short, guard_small}
use Rattle.acc_formed.specs.Names.{are_distinct, names_point, names_type}
use Rattle.acc_formed.specs.Ends.{is_limit}
use Rattle.acc_form.specs.Statements.{table_marks, clause_marks, read_marks, action_marks, target_marks, is_zero, variant_marks}
use Rattle.acc_form.specs.Statements.{returns_marks, locals_marks, entry_marks, hint_marks}
use Rattle.acc_form.specs.Faults.{next_line}
use Rattle.acc_print.specs.Lists.{spaced, listed}
use Rattle.acc_print.specs.Names.{name_at, outside, within}
use Rattle.acc_print.specs.Values.{lin_rel_text}
use Rattle.acc_print.specs.Clauses.{clause_line}
use Rattle.acc_print.specs.Steps.{read_line, action_line, target_text}
use Rattle.acc_print.specs.Types.{variant_lines, names_lines}
use Rattle.acc_print.specs.Designs.{table_line, entry_line, hint_line, printed}

-- a statement in print, and the marks of the form rules on it
pub record Judged : Type 0 where
  pub text : List ℕ
  pub marks : List Mark

-- one statement
abbrev pub judge : List ℕ → List Mark → List Judged
judge text marks = record { text = text; marks = marks } ∷ []

-- the statements of items, one after another, the first of them with the number i
abbrev pub each_from : {T : Type 0} → ℕ → (ℕ → T → List Judged) → List T → List Judged
each_from i judged [] = []
each_from i judged (x ∷ xs) = judged i x ++ each_from (i + 1) judged xs

-- the statements of items, which may depend on an item's number, from 0
abbrev pub each : {T : Type 0} → (ℕ → T → List Judged) → List T → List Judged
each judged xs = each_from 0 judged xs

-- ---- tables and clauses

-- a statement a table, with its number
abbrev pub judged_table : List Table → ℕ → Table → List Judged
judged_table tables i t = judge (table_line t) (table_marks tables i t)

-- `always`: one of at most 128, outside types
abbrev pub judged_always : List Table → ℕ → Clause → List Judged
judged_always tables i c = judge (clause_line (outside tables) (codes "always ") c) (clause_marks tables [] MOST_ALWAYS i c)

-- `ensures`, `repairs` or `holds`, within a type
abbrev pub judged_clause : List Table → TxType → List ℕ → ℕ → Clause → List Judged
judged_clause tables t word i c = judge (clause_line (within tables t) word c) (clause_marks tables t.locals MOST_CLAUSES i c)

-- ---- steps, on a side; the undo of a start point is bare

abbrev pub judged_read : List Table → TxType → Side → ℕ → Read → List Judged
judged_read tables t side i r = judge (read_line (within tables t) r) (read_marks tables t side i r)

abbrev pub judged_action : List Table → TxType → Bool → ℕ → Action → List Judged
judged_action tables t is_bare i a = judge (action_line (within tables t) a) (action_marks tables t is_bare i a)

-- where a path ends
abbrev pub judged_target : TxType → Side → Bool → Path → List Judged
judged_target t side is_bare p = judge (line (target_text t.points p.target)) (target_marks t side is_bare p)

-- what is asked of `path` with its guard, one of at most 16 and of so many
abbrev pub guard_marks : ℕ → ℕ → Path → List Mark
guard_marks count i p =
    asked rules.Limits (not (i == MOST_PATHS) && guard_small p.guard) ++ (
    asked rules.LastPaths (nat_lt (i + 1) count || (length p.guard == 0)) ++ ending)

-- `path` with its guard, its actions, its end
abbrev pub judged_path : List Table → TxType → Side → Bool → ℕ → ℕ → Path → List Judged
judged_path tables t side is_bare count i p =
    judge (line (codes "path" ++ listed (lin_rel_text (within tables t).names) (codes " ") p.guard)) (guard_marks count i p) ++ (
    each (judged_action tables t is_bare) p.actions ++ judged_target t side is_bare p)

-- the word of a side
abbrev pub side_word : Side → List ℕ
side_word Next = codes "next"
side_word Undo = codes "undo"

-- `next` or `undo`, of which nothing is asked; its reads, its paths
abbrev pub judged_step : List Table → TxType → Side → Bool → Step → List Judged
judged_step tables t side is_bare s =
    judge (line (side_word side)) ending ++ (
    each (judged_read tables t side) s.reads ++ each (judged_path tables t side is_bare (length s.paths)) s.paths)

-- ---- points

-- a variant is printed where it isn't 0
abbrev pub judged_variant : List Table → TxType → Lin → List Judged
judged_variant tables t l = if is_zero l then [] else judge (variant_lines (within tables t).names l) (variant_marks l)

-- what is asked of `point` with its name, one of at most 32
abbrev pub point_name_marks : TxType → ℕ → Point → List Mark
point_name_marks t i p =
    asked rules.Limits (not (i == MOST_POINTS) && is_short p.name) ++ (
    asked rules.Names (not (names_point (take i t.points) p.name)) ++ ending)

-- `point` with its name; the variant; what holds; the two steps
abbrev pub judged_point : List Table → TxType → ℕ → Point → List Judged
judged_point tables t i p =
    judge (line (codes "point " ++ p.name)) (point_name_marks t i p) ++ (
    judged_variant tables t p.variant ++ (
    each (judged_clause tables t (codes "holds ")) p.clauses ++ (
    judged_step tables t Next false p.next ++ judged_step tables t Undo (i == 0) p.undo)))

-- ---- types

-- what is asked of `type` with its name and parameters, one of at most 64 and with at most 48 parameters
abbrev pub type_name_marks : List TxType → ℕ → TxType → List Mark
type_name_marks types i t =
    asked rules.Limits (not (i == MOST_TYPES) && is_short t.name && nat_le t.params MOST_LOCALS
    && list_all is_short (take t.params t.locals)) ++ (
    asked rules.Names (not (names_type (take i types) t.name) && are_distinct (take t.params t.locals)) ++ ending)

-- `type` with its name and parameters; `limit`
abbrev pub judged_head : List TxType → ℕ → TxType → List Judged
judged_head types i t =
    judge (line (codes "type " ++ (t.name ++ flat_map spaced (take t.params t.locals)))) (type_name_marks types i t) ++
    judge (line (codes "limit " ++ decimal t.limit)) (asked rules.Numbers (is_limit t.limit) ++ ending)

-- `returns`, where something is returned
abbrev pub judged_returns : TxType → List Judged
judged_returns t =
    if length t.returns == 0 then [] else judge (names_lines (codes "returns") (map (name_at t.locals) t.returns)) (returns_marks t)

-- `local`, where there are locals that are no parameters
abbrev pub judged_locals : TxType → List Judged
judged_locals t =
    if nat_le (length t.locals) t.params then [] else judge (names_lines (codes "local") (drop t.params t.locals)) (locals_marks t)

-- what the type begins with, what it returns, its locals, what it ensures and repairs, its points
abbrev pub judged_type : List Table → List TxType → ℕ → TxType → List Judged
judged_type tables types i t =
    judged_head types i t ++ (
    judged_returns t ++ (
    judged_locals t ++ (
    each (judged_clause tables t (codes "ensures ")) t.posts ++ (
    each (judged_clause tables t (codes "repairs ")) t.repairs ++ each (judged_point tables t) t.points))))

-- ---- entries, hints, and the whole

abbrev pub judged_entry : Design → ℕ → Entry → List Judged
judged_entry d i e = judge (entry_line d e) (entry_marks d.types d.entries i e)

abbrev pub judged_hint : Design → ℕ → Hint → List Judged
judged_hint d i h = judge (hint_line d h) (hint_marks i h)

-- the statements in print, in their order
abbrev pub judged : Design → List Judged
judged d =
    each (judged_table d.tables) d.tables ++ (
    each (judged_always d.tables) d.always ++ (
    each (judged_type d.tables d.types) d.types ++ (
    each (judged_entry d) d.entries ++ each (judged_hint d) d.hints)))

-- the statement of this number, from 0, breaks the rule by its own marks
pub record IsBroken (js : List Judged) (rule : FormRule) (n : ℕ) : Type 0 where
  pub before : List Judged
  pub statement : Judged
  pub after : List Judged
  pub place : js ≡ before ++ statement ∷ after
  pub number : length before ≡ n
  pub breaks : Contains statement.marks (Broken rule)

-- the line of the statement of this number, from 0
abbrev pub line_of : ℕ → ℕ
line_of zero = 1
line_of (suc n) = next_line (line_of n)

abbrev pub texts_of : List Judged → List ℕ
texts_of js = flat_map (λ j. j.text) js

-- In print the statement on this line breaks the rule: its text follows those of the statements before it, each a line.
pub record IsJudgedOn (d : Design) (rule : FormRule) (at : ℕ) : Type 0 where
  pub number : ℕ
  pub broken : IsBroken (judged d) rule number
  pub on_line : at ≡ line_of number
  pub text : printed d ≡ texts_of broken.before ++ (broken.statement.text ++ texts_of broken.after)

-- a number is out of range, which breaks the rule of ranges on no line; or the statement on the line breaks the rule
abbrev pub IsFaultInPrint : Design → FormError → Type 0
IsFaultInPrint d (Bad rule at) = ((design_in d ≡ false) × (rule ≡ rules.Ranges) × (at ≡ 0)) ⊎ IsJudgedOn d rule at
IsFaultInPrint d Memory = ⊥
