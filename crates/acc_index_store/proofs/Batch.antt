-- The rows that are counted as the writes of a batch are gone through.
use Rattle.std.proofs.Common.{◌≡◌, ℕ, ◌+◌, ◌<◌, Bool, true, false, not, ◌||◌, cond, List, [], ◌∷◌, length, take, get_or, refl, sym, ap, ◌∙◌}
use Rattle.std.specs.Prelude.{filter}
use Rattle.std.proofs.lemmas.Bool.{or_right}
use Rattle.std.proofs.lemmas.List.Elements.{filter_agree}
use Rattle.std.proofs.lemmas.List.Folds.{list_any_more, list_any_at}
use Rattle.acc_base.specs.declared.tables.Row.{Row}
use Rattle.acc_base.specs.Tables.{Place, place_of, is_at, IsInOrder}
use Rattle.acc_store.specs.declared.writes.Write.{Write}
use Rattle.acc_store.specs.Rows.{SumsFit}
use Rattle.acc_index_store.specs.declared.prefixes.Prefixes.{Prefixes}
use Rattle.acc_index_store.specs.declared.totals.Way.{Way}
use Rattle.acc_index_store.specs.declared.totals.Way.TheVariants.{In, Out}
use Rattle.acc_index_store.specs.Totals.{Entries}
use Rattle.acc_index_store.specs.Indexes.{place_written, names, are_naming, row_named, AreTotals, Moves, CanMove, is_counted}
use Rattle.acc_index_store.specs.Indexes.{before, behind}
use Rattle.acc_index_store.proofs.Naming.{place_is, place_flip}
use Rattle.acc_index_store.proofs.Sharing.{Differ, comes_in, goes_out, can_come, can_go}

or_false : (b : Bool) → (b || false) ≡ b
or_false true = refl
or_false false = refl

module _ (ws : List Write) (i : ℕ) (w : Write) (within : i < length ws) (here : w ≡ get_or ws i w) where
  abbrev done : List Write
  done = take i ws

  abbrev next : List Write
  next = take (i + 1) ws

  naming_more : (p : Place) → are_naming next p ≡ (are_naming done p || names p w)
  naming_more p = list_any_more (names p) ws i w within ∙ ap (λ x. are_naming done p || names p x) (sym here)

  naming_other : (p : Place) → names p w ≡ false → are_naming next p ≡ are_naming done p
  naming_other p h = naming_more p ∙ ap (λ b. are_naming done p || b) h ∙ or_false (are_naming done p)

  naming_named : (p : Place) → names p w ≡ true → are_naming next p ≡ true
  naming_named p h = naming_more p ∙ or_right (are_naming done p) (names p w) h

  naming_all : (p : Place) → names p w ≡ true → are_naming ws p ≡ true
  naming_all p h = list_any_at (names p) ws i w within (ap (names p) (sym here) ∙ h)

  -- ---- a write whose place an earlier one names

  module _ (again : are_naming done (place_written w) ≡ true) where
    naming_same : (p : Place) → are_naming next p ≡ are_naming done p
    naming_same p = by (names p w) refl
      where
        by : (b : Bool) → names p w ≡ b → are_naming next p ≡ are_naming done p
        by false e = naming_other p e
        by true e =
            naming_named p e ∙ sym (ap (are_naming done) (place_is p (place_written w) e) ∙ again)

    pub counted_same : (way : Way) (rows : List Row) → filter (is_counted way ws next) rows ≡ filter (is_counted way ws done) rows
    counted_same Out rows =
        filter_agree (is_counted Out ws next) (is_counted Out ws done) (λ r. ap not (naming_same (place_of r))) rows
    counted_same In rows =
        filter_agree (is_counted In ws next) (is_counted In ws done)
        (λ r. ap (λ b. not (are_naming ws (place_of r)) || b) (naming_same (place_of r))) rows

  -- ---- the first that names its place

  module _ (first : are_naming done (place_written w) ≡ false) where
    abbrev at : Row → Bool
    at r = is_at (place_written w).0 (place_written w).1 r

    named_at : (r : Row) (b : Bool) → at r ≡ b → names (place_of r) w ≡ b
    named_at r b h = place_flip (place_of r) (place_written w) ∙ h

    done_at : (r : Row) → at r ≡ true → are_naming done (place_of r) ≡ false
    done_at r h = ap (are_naming done) (sym (place_is (place_written w) (place_of r) h)) ∙ first

    differ_out : Differ (is_counted Out ws done) (is_counted Out ws next) (place_written w)
    differ_out = record {
      same = λ r h. ap not (naming_other (place_of r) (named_at r false h));
      comes = λ r h. ap not (done_at r h);
      goes = λ r h. ap not (naming_named (place_of r) (named_at r true h));
    }

    differ_in : Differ (is_counted In ws next) (is_counted In ws done) (place_written w)
    differ_in = record {
      same = λ r h. ap (λ b. not (are_naming ws (place_of r)) || b) (sym (naming_other (place_of r) (named_at r false h)));
      comes = λ r h. or_right (not (are_naming ws (place_of r))) (are_naming next (place_of r)) (naming_named (place_of r)
          (named_at r true h));
      goes = λ r h. ap (λ b. not b || are_naming done (place_of r)) (naming_all (place_of r) (named_at r true h)) ∙ done_at r h;
    }

    module _ (k : Prefixes) (rows : List Row) (order : IsInOrder rows) where
      pub counted_next : (way : Way) (es fs : Entries) → AreTotals k (filter (is_counted way ws done) rows) es →
          Moves k way (row_named w rows) es fs → AreTotals k (filter (is_counted way ws next) rows) fs
      counted_next Out es fs h moves =
          goes_out k (is_counted Out ws done) (is_counted Out ws next) (place_written w) differ_out rows order es fs h moves
      counted_next In es fs h moves =
          comes_in k (is_counted In ws next) (is_counted In ws done) (place_written w) differ_in rows order es fs h moves

      pub can_count : (way : Way) (es : Entries) → AreTotals k (filter (is_counted way ws done) rows) es → SumsFit rows →
          CanMove k way (row_named w rows) es
      can_count Out es h fit = can_go k (is_counted Out ws done) (is_counted Out ws next) (place_written w) differ_out rows order es h fit
      can_count In es h fit = can_come k (is_counted In ws next) (is_counted In ws done) (place_written w) differ_in rows order es h fit

-- ---- the beginning and the end of a batch

all_pass : (test : Row → Bool) → ((r : Row) → test r ≡ true) → (rows : List Row) → filter test rows ≡ rows
all_pass test h [] = refl
all_pass test h (r ∷ rows) = ap (λ b. cond b (r ∷ filter test rows) (filter test rows)) (h r) ∙ ap (λ xs. r ∷ xs) (all_pass test h rows)

pub counted_first : (way : Way) (ws : List Write) (rows : List Row) → filter (is_counted way ws []) rows ≡ before way ws rows
counted_first Out ws rows = all_pass (is_counted Out ws []) (λ r. refl) rows
counted_first In ws rows =
    filter_agree (is_counted In ws []) (λ r. not (are_naming ws (place_of r))) (λ r. or_false (not (are_naming ws (place_of r)))) rows

pub counted_last : (way : Way) (ws : List Write) (rows : List Row) → filter (is_counted way ws ws) rows ≡ behind way ws rows
counted_last Out ws rows = refl
counted_last In ws rows = all_pass (is_counted In ws ws) (λ r. either (are_naming ws (place_of r))) rows
  where
    either : (b : Bool) → (not b || b) ≡ true
    either true = refl
    either false = refl
