-- Reading relations one after the other is reading them all.
use Rattle.std.proofs.Common.{◌≡◌, ℕ, Bool, true, false, List, [], ◌∷◌, ◌++◌, length, take, drop, Ok, Err}
use Rattle.std.proofs.Common.{refl, ap, sym, ◌∙◌}
use Rattle.std.proofs.Common.{Result, ℤ, if◌then◌else◌, append_assoc, append-nil, take-append-drop, length-append, length-drop, ◌-◌, arith}
use Rattle.std.specs.Option.{is_some}
use Rattle.std.specs.List.{fold}
use Rattle.std.proofs.lemmas.List.{take-append-le, take_all}
use Rattle.std.proofs.lemmas.List.Sums.{fold-append}
use Rattle.acc_base.specs.declared.forms.Unknown.{Unknown}
use Rattle.acc_base.specs.declared.forms.Rel.{Rel}
use Rattle.acc_base.specs.UnknownEquality.{is_bare_one}
use Rattle.acc_rows.specs.declared.stops.Stop.{Stop}
use Rattle.acc_rows.specs.declared.rows.Row.{Row}
use Rattle.acc_base.specs.Computing.{chain, steps, Leaves}
use Rattle.acc_rows.specs.Answers.{tells, Computation, StoppedBy}
use Rattle.acc_rows.proofs.Chains.{stopped_chain, stopped_along, steps_append}
use Rattle.acc_elim_readings.specs.Readings.{place_of, with_term, with_rel, unknowns_of, row_of, rows_from, Read, read_next}
use Rattle.acc_elim_points.specs.Searches.{found_by, searched}
use Rattle.acc_elim_solved.proofs.RowsStay.{rows_stay}
use Rattle.acc_elim_decisions.specs.Readings.{unread, found_in}

abbrev whole : List Rel → Computation Read
whole rels = chain (rows_from (unknowns_of rels) 0 rels) (λ rows. Ok (unknowns_of rels, rows))

module _ (xs : List Rel) (y : Rel) where
  abbrev more : List Unknown
  more = unknowns_of (xs ++ y ∷ [])

  first : (rows : List Row) → rows_from (unknowns_of xs) 0 xs ≡ Ok rows → length rows ≡ length xs
      → rows_from more 0 (xs ++ y ∷ []) ≡ chain (row_of more (length rows) y) (λ row. Ok (rows ++ row ∷ []))
  first rows e l =
      rows_stay xs (y ∷ [])
      ∙ (ap (λ o. chain o (λ rows. chain (rows_from more (length xs) (y ∷ [])) (λ rest. Ok (rows ++ rest)))) e
      ∙ (ap (λ n. chain (rows_from more n (y ∷ [])) (λ rest. Ok (rows ++ rest))) (sym l) ∙ under (row_of more (length rows) y)))
    where
      under : (o : Computation Row)
          → chain (chain o (λ row. chain (Ok []) (λ rest. Ok (row ∷ rest)))) (λ rest. Ok (rows ++ rest))
          ≡ chain o (λ row. Ok (rows ++ row ∷ []))
      under (Ok row) = refl
      under (Err d) = refl

  step : (ys : List Rel) (rows : List Row) → rows_from (unknowns_of xs) 0 xs ≡ Ok rows → length rows ≡ length xs
      → ((zs : List Row) → rows_from more 0 (xs ++ y ∷ []) ≡ Ok zs → length zs ≡ length (xs ++ y ∷ [])
      → steps read_next (more, zs) ys ≡ whole ((xs ++ y ∷ []) ++ ys)) → (o : Computation Row) → row_of more (length rows) y ≡ o
      → chain (chain o (λ row. Ok (more, rows ++ row ∷ []))) (λ t. steps read_next t ys) ≡ whole ((xs ++ y ∷ []) ++ ys)
  step ys rows e l again (Ok row) here =
      again (rows ++ row ∷ []) (first rows e l ∙ ap (λ o. chain o (λ row. Ok (rows ++ row ∷ []))) here)
      (let a = length-append rows (row ∷ []) in let b = length-append xs (y ∷ []) in omega (arith, a, b, l))
  step ys rows e l again (Err d) here =
      sym (ap (λ o. chain o (λ rows. Ok (unknowns_of ((xs ++ y ∷ []) ++ ys), rows))) (rows_stay (xs ++ y ∷ []) ys
      ∙ ap (λ o. chain o (λ rows. chain (rows_from (unknowns_of ((xs ++ y ∷ []) ++ ys)) (length (xs ++ y ∷ [])) ys)
      (λ rest. Ok (rows ++ rest)))) (first rows e l ∙ ap (λ o. chain o (λ row. Ok (rows ++ row ∷ []))) here)))

read_on : (ys xs : List Rel) (rows : List Row) → rows_from (unknowns_of xs) 0 xs ≡ Ok rows → length rows ≡ length xs
    → steps read_next (unknowns_of xs, rows) ys ≡ whole (xs ++ ys)
read_on [] xs rows e l = sym (ap whole (append-nil xs) ∙ ap (λ o. chain o (λ rows. Ok (unknowns_of xs, rows))) e)
read_on (y ∷ ys) xs rows e l =
    ap (λ us. chain (chain (row_of us (length rows) y) (λ row. Ok (us, rows ++ row ∷ []))) (λ t. steps read_next t ys))
    (sym (fold-append with_rel [] xs (y ∷ [])))
    ∙ (step xs y ys rows e l (λ zs p q. read_on ys (xs ++ y ∷ []) zs p q) (row_of (unknowns_of (xs ++ y ∷ [])) (length rows) y) refl
    ∙ ap whole (append_assoc xs (y ∷ []) ys))

all_read : (rels : List Rel) → steps read_next unread rels ≡ whole rels
all_read rels = read_on rels [] [] refl refl

-- the search goes on from what was read
pub searched_by : (rels : List Rel) → chain (steps read_next unread rels) found_in ≡ searched rels
searched_by rels = ap (λ o. chain o found_in) (all_read rels) ∙ under (rows_from (unknowns_of rels) 0 rels)
  where
    under : (o : Computation (List Row)) → chain (chain o (λ rows. Ok (unknowns_of rels, rows))) found_in
        ≡ chain o (λ rows. found_by (length (unknowns_of rels)) rows)
    under (Ok rows) = refl
    under (Err d) = refl

pub searched_read : (rels : List Rel) (s : Read) → steps read_next unread rels ≡ Ok s → found_in s ≡ searched rels
searched_read rels s e = sym (ap (λ o. chain o found_in) e) ∙ searched_by rels

pub searched_stopped : (rels : List Rel) (e : Stop) → StoppedBy e (steps read_next unread rels) → StoppedBy e (searched rels)
searched_stopped rels e h =
    stopped_along e _ _ (searched_by rels) (stopped_chain e (steps read_next unread rels) found_in h)

-- the unknowns that were read are those of the relations
pub names_read : (rels : List Rel) (s : Read) → steps read_next unread rels ≡ Ok s → s.0 ≡ unknowns_of rels
names_read rels s e = by (rows_from (unknowns_of rels) 0 rels) (sym (all_read rels) ∙ e)
  where
    by : (o : Computation (List Row)) → chain o (λ rows. Ok (unknowns_of rels, rows)) ≡ Ok s → s.0 ≡ unknowns_of rels
    by (Ok rows) h = cc
    by (Err d) h = absurd (cc)

-- ---- what is read later

-- a slice from a place to the end
pub rest_is : {X : Type 0} (xs : List X) (n : ℕ) → take (length xs - n) (drop n xs) ≡ drop n xs
rest_is xs n = take_all (length xs - n) (drop n xs) (let l = length-drop n xs in omega (arith, l))

pub read_rest : (rels : List Rel) (n : ℕ) (s : Read) → steps read_next unread (take n rels) ≡ Ok s
    → steps read_next s (drop n rels) ≡ steps read_next unread rels
read_rest rels n s e =
    sym (ap (λ o. chain o (λ t. steps read_next t (drop n rels))) e)
    ∙ (sym (steps_append read_next (take n rels) (drop n rels) unread) ∙ ap (steps read_next unread) (take-append-drop n rels))

pub read_last : (rels : List Rel) (r : Rel) (s : Read) → steps read_next unread rels ≡ Ok s
    → read_next s r ≡ steps read_next unread (rels ++ r ∷ [])
read_last rels r s e =
    sym (steps_append read_next rels (r ∷ []) unread ∙ (ap (λ o. chain o (λ t. steps read_next t (r ∷ []))) e ∙ under (read_next s r)))
  where
    under : (o : Computation Read) → chain o (λ t. Ok t) ≡ o
    under (Ok t) = refl
    under (Err d) = refl

pub last_stopped : (rels : List Rel) (r : Rel) (s : Read) (place : ℕ) (e : Stop) → steps read_next unread rels ≡ Ok s
    → place ≡ length s.1 → StoppedBy e (row_of (with_rel s.0 r) place r) → StoppedBy e (searched (rels ++ r ∷ []))
last_stopped rels r s place e h at stopped =
    searched_stopped (rels ++ r ∷ []) e (stopped_along e _ _ (read_last rels r s h)
    (stopped_chain e (row_of (with_rel s.0 r) (length s.1) r) (λ row. Ok (with_rel s.0 r, s.1 ++ row ∷ []))
    (stopped_along e _ _ (ap (λ n. row_of (with_rel s.0 r) n r) at) stopped)))

pub first_stopped : (rels : List Rel) (r : Rel) (e : Stop) → StoppedBy e (steps read_next unread rels)
    → StoppedBy e (searched (rels ++ r ∷ []))
first_stopped rels r e h =
    searched_stopped (rels ++ r ∷ []) e (stopped_along e _ _ (sym (steps_append read_next rels (r ∷ []) unread))
    (stopped_chain e (steps read_next unread rels) (λ t. steps read_next t (r ∷ [])) h))

pub last_found : (rels : List Rel) (r : Rel) (s : Read) (place : ℕ) (row : Row) → steps read_next unread rels ≡ Ok s
    → place ≡ length s.1 → row_of (with_rel s.0 r) place r ≡ Ok row
    → found_in (with_rel s.0 r, s.1 ++ row ∷ []) ≡ searched (rels ++ r ∷ [])
last_found rels r s place row h at read =
    searched_read (rels ++ r ∷ []) (with_rel s.0 r, s.1 ++ row ∷ []) (sym (read_last rels r s h)
    ∙ ap (λ o. chain o (λ row. Ok (with_rel s.0 r, s.1 ++ row ∷ []))) (ap (λ n. row_of (with_rel s.0 r) n r) (sym at) ∙ read))

-- the unknowns of the rest come behind those that were read
pub names_rest : (rels : List Rel) (n : ℕ) (s : Read) → steps read_next unread (take n rels) ≡ Ok s
    → fold with_rel s.0 (drop n rels) ≡ unknowns_of rels
names_rest rels n s e =
    ap (λ us. fold with_rel us (drop n rels)) (names_read (take n rels) s e)
    ∙ (sym (fold-append with_rel [] (take n rels) (drop n rels)) ∙ ap unknowns_of (take-append-drop n rels))

pub leaves_other : {A B : Type 0} (r : Result B Stop) (x y : A) (e : Stop) (o : Computation A) → r ≡ Err e → Leaves tells r x o
    → Leaves tells r y o
leaves_other (Ok b) x y e o h l = absurd (cc)
leaves_other (Err d) x y e o h l = l

-- ---- names that come behind others

name_grown : (us : List Unknown) (t : Unknown × ℤ) (b c : Bool)
    → (more : List Unknown) × ((if b then us else (if c then us else us ++ t.0 ∷ [])) ≡ us ++ more)
name_grown us t true c = ([], sym (append-nil us))
name_grown us t false true = ([], sym (append-nil us))
name_grown us t false false = (t.0 ∷ [], refl)

pub names_grown : (ts : List (Unknown × ℤ)) (us : List Unknown) → (more : List Unknown) × (fold with_term us ts ≡ us ++ more)
names_grown [] us = ([], sym (append-nil us))
names_grown (t ∷ ts) us =
    let here = name_grown us t (is_bare_one t.0) (is_some (place_of us t.0)) in
    let rest = names_grown ts (with_term us t) in
    (here.0 ++ rest.0, rest.1 ∙ (ap (λ vs. vs ++ rest.0) here.1 ∙ append_assoc us here.0 rest.0))

pub names_kept : (us : List Unknown) (r : Rel) → take (length us) (with_rel us r) ≡ us
names_kept us r =
    let grown = names_grown r.form.terms us in
    ap (take (length us)) grown.1 ∙ (take-append-le (length us) us grown.0 (omega arith) ∙ take_all (length us) us (omega arith))
