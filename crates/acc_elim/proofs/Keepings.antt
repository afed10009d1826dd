-- What is kept of relations that were read answers for them.
use Rattle.std.proofs.Common.{◌≡◌, ◌≤◌, ℕ, List, [], ◌∷◌, ◌++◌, length, length-append, take, drop, Option, Ok, ap, sym, ◌∙◌, subst, arith}
use Rattle.std.proofs.Common.{append-nil, append_assoc, take-append-drop}
use Rattle.std.specs.Prelude.{IfSome}
use Rattle.std.proofs.lemmas.List.{take-append-le, take_all}
use Rattle.std.proofs.lemmas.Option.{IfSome_then}
use Rattle.acc_base.specs.declared.forms.Unknown.{Unknown}
use Rattle.acc_base.specs.declared.forms.Rel.{Rel}
use Rattle.acc_rows.specs.declared.rows.Row.{Row}
use Rattle.acc_base.specs.Computing.{steps}
use Rattle.acc_elim_readings.specs.Readings.{Read, with_rel, row_of, read_next}
use Rattle.acc_elim_known.specs.declared.known.Known.{Known}
use Rattle.acc_elim_known.specs.Ends.{IsKnown, IsCarriedOn}
use Rattle.acc_elim_stages.proofs.Carried.{before, ok_same}
use Rattle.acc_elim_decisions.specs.declared.reading.Reading.{Reading}
use Rattle.acc_elim_decisions.specs.Readings.{unread, read_of, AreRead}
use Rattle.acc_elim.specs.Keepings.{IsKept, IsCarriedTo}
use Rattle.acc_elim_decisions.proofs.ReadOn.{names_grown, read_rest}

-- one more relation's unknowns come behind the others
pub names_longer : (us : List Unknown) (r : Rel) → length us ≤ length (with_rel us r)
names_longer us r =
    let grown = names_grown r.form.terms us in
    let long = ap length grown.1 in
    let both = length-append us grown.0 in
    omega (arith, long, both)

-- ---- what is read behind others

pub record Grows (s t : Read) : Type 0 where
  pub more : List Row
  pub rows : t.1 ≡ s.1 ++ more
  pub names : length s.0 ≤ length t.0

once_grown : (s t u : Read) (r : Rel) (row : Row) → (with_rel s.0 r, s.1 ++ row ∷ []) ≡ u → Grows u t → Grows s t
once_grown s t u r row same g =
    let names = names_longer s.0 r in
    let first : with_rel s.0 r ≡ u.0 = ap (λ u. u.0) same in
    let long = ap length first in
    record {
      more = row ∷ g.more;
      rows = g.rows ∙ (ap (λ rows. rows ++ g.more) (sym (ap (λ u. u.1) same)) ∙ append_assoc s.1 (row ∷ []) g.more);
      names = omega (arith, names, long, g.names);
    }

read_grows : (rels : List Rel) (s t : Read) → steps read_next s rels ≡ Ok t → Grows s t
read_grows [] s t e =
    let same : s ≡ t = ok_same s t e in
    let long = ap (λ u. length u.0) same in
    record { more = []; rows = sym (append-nil s.1 ∙ ap (λ u. u.1) same); names = omega (arith, long) }
read_grows (r ∷ rels) s t e =
    let here = before (read_next s r) (λ u. steps read_next u rels) t e in
    let row = before (row_of (with_rel s.0 r) (length s.1) r) (λ row. Ok (with_rel s.0 r, s.1 ++ row ∷ [])) here.0 here.1 in
    once_grown s t here.0 r row.0 (ok_same (with_rel s.0 r, s.1 ++ row.0 ∷ []) here.0 row.2) (read_grows rels here.0 t here.2)

read_on : (rels : List Rel) (old new : Reading) → AreRead rels old → steps read_next unread rels ≡ Ok (read_of new)
    → Grows (read_of old) (read_of new)
read_on rels old new read all =
    read_grows (drop old.count rels) (read_of old) (read_of new) (read_rest rels old.count (read_of old) read.first ∙ all)

pub place_within : (rels : List Rel) (old new : Reading) (place : ℕ) → AreRead rels old → steps read_next unread rels ≡ Ok (read_of new)
    → place ≡ length old.rows.items → place ≤ length new.rows.items
place_within rels old new place read all at =
    let grown = read_on rels old new read all in
    let long = ap length grown.rows in
    let both = length-append old.rows.items grown.more in
    omega (arith, at, long, both)

-- what is carried along to the end is kept of all that was read
pub kept_on : (rels : List Rel) (old new : Reading) (place : ℕ) (k : Known) (slot : Option Known) → AreRead rels old
    → steps read_next unread rels ≡ Ok (read_of new) → place ≡ length old.rows.items → IsKept old k
    → IfSome slot (IsCarriedTo new place k) → IfSome slot (IsKept new)
kept_on rels old new place k slot read all at is carried =
    let grown = read_on rels old new read all in
    let first : take place new.rows.items ≡ old.rows.items =
    (λ i. take (at i) (grown.rows i))
    ∙ (take-append-le (length old.rows.items) old.rows.items grown.more (omega arith)
    ∙ take_all (length old.rows.items) old.rows.items (omega arith)) in
    IfSome_then slot carried
    (λ l h. h (length old.names.items) grown.names (subst (λ rows. IsKnown rows (length old.names.items) k) (sym first) is))

pub carried_rest : (r : Reading) (place unknowns : ℕ) (k : Known) (rest : List Row) (slot : Option Known)
    → unknowns ≡ length r.names.items → rest ≡ drop place r.rows.items → IfSome slot (IsCarriedOn k unknowns rest)
    → IfSome slot (IsCarriedTo r place k)
carried_rest r place unknowns k rest slot count same h =
    IfSome_then slot h
    (λ l on n within is. subst (λ rows. IsKnown rows (length r.names.items) l)
    (ap (λ rest. take place r.rows.items ++ rest) same ∙ take-append-drop place r.rows.items)
    (subst (λ m. IsKnown (take place r.rows.items ++ rest) m l) count
    (on (take place r.rows.items) n (subst (λ m. n ≤ m) (sym count) within) is)))

-- what came back is kept
pub came_back : (rows : List Row) (n m : ℕ) (known : Known) (slot : Option Known) → n ≡ m → IsKnown rows n known
    → IfSome slot (λ k. (n : ℕ) → IsKnown rows n known → IsKnown rows n k) → IfSome slot (λ k. IsKnown rows m k)
came_back rows n m known slot same is h =
    IfSome_then slot h (λ k g. subst (λ i. IsKnown rows i k) same (g n is))
