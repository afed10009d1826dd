-- Each statement by itself: its marks are those of one statement.
use Rattle.std.proofs.Common.{◌≡◌, ℕ, zero, suc, Bool, true, false, List, [], ◌∷◌, length, take, refl, arith, ℤ, pos, negsuc}
use Rattle.std.specs.Prelude.{◌==◌, ◌&&◌, ◌||◌, not}
use Rattle.std.specs.List.{list_any}
use Rattle.std.specs.Ordering.{int_eq}
use Rattle.std.proofs.lemmas.Bool.{ne_eqb}
use Rattle.std.proofs.lemmas.Bool.Decides.{Decides-int_eq}
use Rattle.acc_base.specs.declared.rules.FormRule.TheVariants as rules
use Rattle.acc_base.specs.declared.forms.Lin.{Lin}
use Rattle.acc_base.specs.declared.forms.Clause.{Clause}
use Rattle.acc_base.specs.declared.tables.Table.{Table}
use Rattle.acc_base.specs.declared.steps.Read.{Read}
use Rattle.acc_base.specs.declared.steps.Action.{Action}
use Rattle.acc_base.specs.declared.steps.Path.{Path}
use Rattle.acc_base.specs.declared.designs.Side.{Side}
use Rattle.acc_base.specs.declared.designs.TxType.{TxType}
use Rattle.acc_base.specs.declared.designs.Entry.{Entry}
use Rattle.acc_base.specs.declared.designs.Hint.{Hint}
use Rattle.acc_formed.specs.Widths.{clause_fits, read_fits, action_fits, read_leaves_a_component, action_is_own}
use Rattle.acc_formed.specs.Sizes.{lin_small, clause_small, table_small, read_small, action_small, target_small}
use Rattle.acc_formed.specs.Names.{are_distinct, are_new, names_table}
use Rattle.acc_formed.specs.Ends.{refuses_by_number, divides, may_end, refuses_plainly, assigns_local, may_read, is_undone}
use Rattle.acc_formed.specs.Entries.{leaves_starts, same_entry, pairs_stay}
use Rattle.acc_form.specs.Statements.{table_marks, clause_marks, read_marks, action_marks, target_marks, is_zero, entry_marks, hint_marks}
use Rattle.acc_print.specs.Types.{is_zero as is_left_out}
use Rattle.acc_form.proofs.StatementEnds.{Counts, one_statement, asks}

-- ---- clauses and steps

pub clause_counts : (tables : List Table) (names : List (List ℕ)) (most i : ℕ) (c : Clause) → Counts (clause_marks tables names most i c) 1
clause_counts tables names most i c =
    asks rules.Widths (clause_fits tables c) (asks rules.Limits (not (i == most) && clause_small c)
    (asks rules.Names (are_new names c.vars) one_statement))

pub read_counts : (tables : List Table) (t : TxType) (side : Side) (i : ℕ) (r : Read) → Counts (read_marks tables t side i r) 1
read_counts tables t side i r =
    asks rules.Widths (read_fits tables r) (asks rules.ShortPrefixes (read_leaves_a_component tables r)
    (asks rules.Limits (not (i == 32) && read_small r) (asks rules.Numbers (divides r)
    (asks rules.Assigned (assigns_local t r) (asks rules.UndoReads (may_read side r) one_statement)))))

pub action_counts : (tables : List Table) (t : TxType) (is_bare : Bool) (i : ℕ) (a : Action)
    → Counts (action_marks tables t is_bare i a) 1
action_counts tables t is_bare i a =
    asks rules.Widths (action_fits tables a) (asks rules.Limits (not (i == 16) && action_small a)
    (asks rules.PrivateKeys (action_is_own tables (length t.locals) a) (asks rules.StartUndos (not is_bare) one_statement)))

pub target_counts : (t : TxType) (side : Side) (is_bare : Bool) (p : Path) → Counts (target_marks t side is_bare p) 1
target_counts t side is_bare p =
    asks rules.Limits (target_small t.points p.target) (asks rules.Numbers (refuses_by_number p.target)
    (asks rules.Ends (may_end side p.target) (asks rules.Refusals (refuses_plainly p.actions p.target)
    (asks rules.StartUndos (not is_bare || is_undone p.target) one_statement))))

-- ---- tables, entries and hints

pub table_counts : (tables : List Table) (i : ℕ) (t : Table) → Counts (table_marks tables i t) 1
table_counts tables i t =
    asks rules.Limits (not (i == 64) && table_small t)
    (asks rules.Names (not (names_table (take i tables) t.name) && are_distinct t.cols) one_statement)

pub entry_counts : (types : List TxType) (entries : List Entry) (i : ℕ) (e : Entry) → Counts (entry_marks types entries i e) 1
entry_counts types entries i e =
    asks rules.Limits (not (i == 1024)) (asks rules.Starts (leaves_starts e)
    (asks rules.Entries (not (list_any (same_entry e) (take i entries))) (asks rules.Pairs (pairs_stay types e) one_statement)))

pub hint_counts : (i : ℕ) (h : Hint) → Counts (hint_marks i h) 1
hint_counts i h = asks rules.Limits (not (i == 1024) && lin_small h.lin) one_statement

-- ---- variants

-- a variant is left out in print where no rule is asked of it
pub same_zero : (l : Lin) → is_zero l ≡ is_left_out l.coeffs l.constant
same_zero l = by_parts l.coeffs l.constant
  where
    by_parts : (ts : List (ℕ × ℤ)) (n : ℤ) → ((length ts == 0) && int_eq n (pos 0)) ≡ is_left_out ts n
    by_parts [] (pos zero) = refl
    by_parts [] (pos (suc n)) =
        elim (int_eq (pos (suc n)) (pos 0)) as (λ b. int_eq (pos (suc n)) (pos 0) ≡ b → b ≡ false) [
          | true ↦ λ e. absurd (let wrong = (Decides-int_eq (pos (suc n)) (pos 0)).0 e in cc)
          | false ↦ λ e. refl
        ] refl
    by_parts [] (negsuc n) = refl
    by_parts (t ∷ ts) n = rw (ne_eqb (length (t ∷ ts)) 0 (λ e. absurd (omega (arith, e)))) refl
