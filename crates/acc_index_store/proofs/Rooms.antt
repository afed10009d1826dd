-- Room that stays, and totals of no row.
use Rattle.std.proofs.Common.{◌≡◌, ℕ, ◌+◌, ◌<◌, inl, inr, true, List, [], ◌∷◌, length, take, get_or, map, refl, sym, ap, ◌∙◌, subst}
use Rattle.std.proofs.Common.{Option, Some, None, arith, ℤ}
use Rattle.std.specs.Prelude.{filter, count_by}
use Rattle.std.specs.List.{list_all}
use Rattle.std.proofs.lemmas.Bool.{and_parts, and_from}
use Rattle.std.proofs.lemmas.List.Folds.{list_all_more}
use Rattle.std.proofs.lemmas.List.Sums.{length-filter}
use Rattle.acc_base.specs.declared.tables.Row.{Row}
use Rattle.acc_base.specs.Numbers.{total}
use Rattle.acc_base.specs.Tables.{is_under, cell}
use Rattle.acc_store.specs.declared.writes.Write.{Write}
use Rattle.acc_index_store.specs.declared.prefixes.Prefixes.{Prefixes}
use Rattle.acc_index_store.specs.Totals.{Counts, Entries, found, IsSame, KeepsRoom}
use Rattle.acc_index_store.specs.Indexes.{AreTotals, AreNone, has_prefix, prefix_at, place_written, has_room, HaveRoom, IsTotal}

prefix_kept : (es fs : Entries) → KeepsRoom es fs → (o : Option (List ℤ)) → has_prefix es o ≡ true → has_prefix fs o ≡ true
prefix_kept es fs kept None h = refl
prefix_kept es fs kept (Some p) h = kept p h

pub room_kept : (k : Prefixes) (es fs : Entries) → KeepsRoom es fs → (w : Write) → has_room k es w ≡ true → has_room k fs w ≡ true
room_kept k es fs kept w h = prefix_kept es fs kept (prefix_at k (place_written w)) h

pub rooms_kept : (k : Prefixes) (es fs : Entries) → KeepsRoom es fs → (ws : List Write) → HaveRoom k ws es → HaveRoom k ws fs
rooms_kept k es fs kept [] h = refl
rooms_kept k es fs kept (w ∷ ws) h =
    let both = and_parts (has_room k es w) (list_all (has_room k es) ws) h in
    and_from (has_room k fs w) (list_all (has_room k fs) ws) (room_kept k es fs kept w both.0) (rooms_kept k es fs kept ws both.1)

-- one more write has room
pub rooms_more : (k : Prefixes) (es : Entries) (ws : List Write) (i : ℕ) (w : Write) → i < length ws → w ≡ get_or ws i w →
    HaveRoom k (take i ws) es → has_room k es w ≡ true → HaveRoom k (take (i + 1) ws) es
rooms_more k es ws i w within here h room =
    list_all_more (has_room k es) ws i w within ∙
    and_from (list_all (has_room k es) (take i ws)) (has_room k es (get_or ws i w)) h (ap (has_room k es) (sym here) ∙ room)

-- ---- the same totals

pub totals_same : (k : Prefixes) (es fs : Entries) → IsSame es fs → (rows : List Row) → AreTotals k rows es → AreTotals k rows fs
totals_same k es fs same rows h p long = subst (IsTotal k p rows) (sym (same p)) (h p long)

pub none_same : (k : Prefixes) (es fs : Entries) → IsSame es fs → AreNone k es → AreNone k fs
none_same k es fs same h p long e = ap (λ v. v.sum) (same p) ∙ h p long (sym (ap (λ v. v.rows) (same p)) ∙ e)

-- where no row counts, nothing adds up
pub totals_none : (k : Prefixes) (rows : List Row) (es : Entries) → AreTotals k rows es → AreNone k es
totals_none k rows es h p long e = (h p long).sum ∙ ap (λ xs. total (map (cell k.col) xs)) (empty (filter (is_under k.table p) rows) none)
  where
    by : Counts (found p es).rows (count_by (is_under k.table p) rows) → count_by (is_under k.table p) rows ≡ 0
    by (inl f) = sym f ∙ e
    by (inr f) = absurd (omega arith)

    none : length (filter (is_under k.table p) rows) ≡ 0
    none = length-filter (is_under k.table p) rows ∙ by (h p long).number

    empty : (xs : List Row) → length xs ≡ 0 → xs ≡ []
    empty [] f = refl
    empty (x ∷ xs) f = absurd (omega arith)
