-- What is told of the first row that is oversold tells whether one is.
use Rattle.std.proofs.Common.{◌≡◌, ℕ, Bool, false, List, Option, Some, None, All, find, refl, sym, ◌∙◌}
use Rattle.std.proofs.lemmas.Option.{none-some}
use Rattle.acc_base.specs.declared.tables.Key.{Key}
use Rattle.acc_base.specs.declared.tables.Row.{Row}
use Rattle.tpcc_tables.proofs.RowFacts.{none_passes, one_passes}
use Rattle.acc_booking.specs.Seats.{first_there, keyed, is_oversold, first_oversold, NothingOversold, TellsWhether}

-- none is found where none passes
none_found : {X : Type 0} (p : X → Bool) (xs : List X) → All (λ x. p x ≡ false) xs → find p xs ≡ None
none_found p xs all = by (find p xs) refl
  where
    by : (o : Option _) → find p xs ≡ o → find p xs ≡ None
    by None e = e
    by (Some x) e = absurd (one_passes p xs (λ none. none-some x (sym none ∙ e)) all)

neither : (a b : Option (ℕ × Key)) → first_there a b ≡ None → (a ≡ None) × (b ≡ None)
neither None b e = (refl, e)
neither (Some x) b e = absurd (none-some x (sym e))

no_row : (n : ℕ) (o : Option Row) → keyed n o ≡ None → o ≡ None
no_row n None e = refl
no_row n (Some r) e = absurd (none-some (n, r.key) (sym e))

module _ (db : List Row) where
  pub tells_whether : (found : Option (ℕ × Key)) → found ≡ first_oversold db → TellsWhether db found
  tells_whether found is = record {
    none =
        λ e. let both = neither (keyed 1 (find (is_oversold db 0 2) db)) (keyed 2 (find (is_oversold db 1 3) db)) (sym is ∙ e) in
        record {
          seats = none_passes (is_oversold db 0 2) db (no_row 1 (find (is_oversold db 0 2) db) both.0);
          rooms = none_passes (is_oversold db 1 3) db (no_row 2 (find (is_oversold db 1 3) db) both.1);
        };
    some =
        λ all. is
        ∙ (λ i. first_there (keyed 1 (none_found (is_oversold db 0 2) db all.seats i))
        (keyed 2 (none_found (is_oversold db 1 3) db all.rooms i)));
  }
