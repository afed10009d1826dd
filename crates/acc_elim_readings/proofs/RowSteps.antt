-- Relations that are read one by one.
use Rattle.std.proofs.Common.{◌≡◌, ℕ, ◌+◌, ◌<◌, ◌≤◌, List, [], ◌∷◌, ◌++◌, length, get_or, drop, Ok, Err, refl, ap, sym, ◌∙◌, append_assoc}
use Rattle.std.proofs.Common.{append-nil, add-one, subst}
use Rattle.std.specs.Prelude.{Result, MatchResult, IsErrAnd}
use Rattle.std.proofs.lemmas.Result.{err_from_is_err_and}
use Rattle.std.proofs.lemmas.List.{drop_all}
use Rattle.acc_base.specs.declared.forms.Unknown.{Unknown}
use Rattle.acc_base.specs.declared.forms.Rel.{Rel}
use Rattle.acc_rows.specs.declared.stops.Stop.{Stop}
use Rattle.acc_rows.specs.declared.stops.Stop.TheVariants.{Refuted, Wide, Many, Memory}
use Rattle.acc_rows.specs.declared.rows.Row.{Row}
use Rattle.acc_base.specs.Computing.{chain}
use Rattle.acc_rows.specs.Answers.{Computation, behind, StoppedBy}
use Rattle.acc_elim_readings.specs.Readings.{row_of, row_alone, rows_from}
use Rattle.acc_rows.proofs.Chains.{drop_more, stopped_along}

module _ {X : Type 0} where
  abbrev ok : List X → Computation (List X)
  ok xs = Ok xs

  ok_same : (xs ys : List X) → ok xs ≡ Ok ys → xs ≡ ys
  ok_same xs ys h = cc

  behind_one : (xs ys : List X) (x : X) (r : Computation (List X)) → xs ++ x ∷ [] ≡ ys
      → behind ys r ≡ behind xs (chain r (λ rest. Ok (x ∷ rest)))
  behind_one xs ys x (Ok rest) e = ap (λ zs. ok (zs ++ rest)) (sym e) ∙ ap ok (append_assoc xs (x ∷ []) rest)
  behind_one xs ys x (Err d) e = refl

  pub behind_push : (xs ys : List X) (o : Computation X) (r : Computation (List X)) → behind xs (chain o (λ x. Ok (x ∷ []))) ≡ Ok ys
      → behind ys r ≡ behind xs (chain o (λ x. chain r (λ rest. Ok (x ∷ rest))))
  behind_push xs ys (Ok x) r h = behind_one xs ys x r (ok_same _ _ h)
  behind_push xs ys (Err e) r h = absurd (cc)

  pub stopped_push : (e : Stop) (xs : List X) (o : Computation X) (r : Computation (List X)) →
      StoppedBy e (behind xs (chain o (λ x. Ok (x ∷ []))))
      → StoppedBy e (behind xs (chain o (λ x. chain r (λ rest. Ok (x ∷ rest)))))
  stopped_push (Refuted y) xs (Ok x) r h = absurd (cc)
  stopped_push Wide xs (Ok x) r h = absurd (cc)
  stopped_push Many xs (Ok x) r h = absurd (cc)
  stopped_push Memory xs (Ok x) r h = tt
  stopped_push e xs (Err d) r h = h

module _ (names : List Unknown) (rels : List Rel) (i : ℕ) (r : Rel) (place : ℕ) (place_is : place ≡ i) (within : i < length rels)
    (here : r ≡ get_or rels i r) (rows : List Row) where
  opened : rows_from names i (drop i rels) ≡ chain (row_of names place r)
      (λ row. chain (rows_from names (i + 1) (drop (i + 1) rels)) (λ rest. Ok (row ∷ rest)))
  opened =
      ap (rows_from names i) (drop_more rels i r r within here)
      ∙ (λ k. chain (row_of names (sym place_is k) r)
      (λ row. chain (rows_from names (sym (add-one i) k) (drop (i + 1) rels)) (λ rest. Ok (row ∷ rest))))

  pub row_step : (new : List Row) (whole : Computation (List Row)) → behind rows (rows_from names i (drop i rels)) ≡ whole
      → behind rows (row_alone names place r) ≡ Ok new → behind new (rows_from names (i + 1) (drop (i + 1) rels)) ≡ whole
  row_step new whole so_far done =
      behind_push rows new (row_of names place r) (rows_from names (i + 1) (drop (i + 1) rels)) done
      ∙ (ap (behind rows) (sym opened) ∙ so_far)

  pub row_stopped : (e : Stop) (whole : Computation (List Row)) → behind rows (rows_from names i (drop i rels)) ≡ whole
      → StoppedBy e (behind rows (row_alone names place r)) → StoppedBy e whole
  row_stopped e whole so_far h =
      stopped_along e _ _ (ap (behind rows) (sym opened) ∙ so_far)
      (stopped_push e rows (row_of names place r) (rows_from names (i + 1) (drop (i + 1) rels)) h)

-- a call that hands on what stopped a callee
pub match_handed : {T : Type 0} (r : Result T Stop) (e : Stop) (P : T → Type 0) (Q : Stop → Type 0) → IsErrAnd r (λ y. y ≡ e) → Q e
    → MatchResult r P Q
match_handed r e P Q h q =
    let p = err_from_is_err_and r h in
    let same : r ≡ Err e = p.1 ∙ ap Err p.2 in
    subst (λ y. MatchResult y P Q) (sym same) q

pub rows_over : (names : List Unknown) (rels : List Rel) (i : ℕ) (rows : List Row) (whole : Computation (List Row)) → length rels ≤ i
    → behind rows (rows_from names i (drop i rels)) ≡ whole → whole ≡ Ok rows
rows_over names rels i rows whole past so_far =
    sym so_far ∙ (ap (λ rs. behind rows (rows_from names i rs)) (drop_all i rels past) ∙ ap Ok (append-nil rows))
