-- The variables of a step's reads: what the reads make true of them.
use Rattle.std.proofs.Common.{◌≡◌, ℕ, ◌+◌, true, List, [], ◌∷◌, length, map, set, refl, ap, ◌∙◌, Option, Some, None, ℤ, pos}
use Rattle.std.specs.Prelude.{option_and_then}
use Rattle.std.specs.List.{list_all}
use Rattle.std.proofs.lemmas.Option.{same_Some, none-some, cond_some}
use Rattle.std.proofs.lemmas.List.{map-set}
use Rattle.acc_base.specs.declared.tables.Row.{Row}
use Rattle.acc_base.specs.declared.steps.Read.{Read}
use Rattle.acc_base.specs.declared.machines.Frame.{Frame}
use Rattle.acc_base.specs.Numbers.{is_small}
use Rattle.acc_base.specs.Linear.{var, variables, lin_values}
use Rattle.acc_base.specs.Reads.{Reading, assigned, read_key, read_value, at_after, after_read, after_reads}
use Rattle.acc_base.specs.Items.{numbers_from}
use Rattle.acc_oblig.specs.Settings.{now_after}

-- the reading after a read that is in range
abbrev pub read_on : List Row → Frame → Reading → Read → Reading
read_on db f s r =
    record {
      locals = set s.locals (assigned r) (read_value db f.tape s.at (variables f.t s.locals) r);
      at = at_after (length f.tape) s.at r;
    }

-- the values that the reads assign, one after the other
abbrev pub read_values : List Row → Frame → Reading → List Read → List ℤ
read_values db f s [] = []
read_values db f s (r ∷ rs) = read_value db f.tape s.at (variables f.t s.locals) r ∷ read_values db f (read_on db f s r) rs

-- reads that are in range: the first one's numbers are small, and the others go on from there
pub record ReadsOn (db : List Row) (f : Frame) (s last : Reading) (r : Read) (rs : List Read) : Type 0 where
  pub small :
      list_all is_small (read_value db f.tape s.at (variables f.t s.locals) r ∷ lin_values (variables f.t s.locals) (read_key r)) ≡ true
  pub rest : after_reads db f rs (read_on db f s r) ≡ Some last

pub reads_on :
    (db : List Row) (f : Frame) (s last : Reading) (r : Read) (rs : List Read) → after_reads db f (r ∷ rs) s ≡ Some last
    → ReadsOn db f s last r rs
reads_on db f s last r rs e = by (after_read db f s r) refl e
  where
    by : (o : Option Reading) → after_read db f s r ≡ o → option_and_then (after_reads db f rs) o ≡ Some last → ReadsOn db f s last r rs
    by None k g = absurd (none-some last g)
    by (Some x) k g =
        let c =
        cond_some
        (list_all is_small (read_value db f.tape s.at (variables f.t s.locals) r ∷ lin_values (variables f.t s.locals) (read_key r)))
        (read_on db f s r) x k in
        record { small = c.0; rest = ap (after_reads db f rs) c.1 ∙ g }

-- ---- the locals under their names

-- after the reads each local is worth, under its name, what it is
pub now_worth :
    (db : List Row) (f : Frame) (E : List ℤ) (now : List ℕ) (x : ℕ) (rs : List Read) (s last : Reading) → after_reads db f rs s ≡ Some last
    → map (var E) now ≡ s.locals → map (var E) (numbers_from x (length rs)) ≡ read_values db f s rs
    → map (var E) (now_after now x rs) ≡ last.locals
now_worth db f E now x [] s last e h g = h ∙ ap (λ z. z.locals) (same_Some s last e)
now_worth db f E now x (r ∷ rs) s last e h g =
    now_worth db f E (set now (assigned r) x) (x + 1) rs (read_on db f s r) last (reads_on db f s last r rs e).rest
    (set_worth r s h (ap head g)) (ap tail g)
  where
    head : List ℤ → ℤ
    head [] = pos 0
    head (y ∷ ys) = y

    tail : List ℤ → List ℤ
    tail [] = []
    tail (y ∷ ys) = ys

    set_worth :
        (q : Read) (z : Reading) → map (var E) now ≡ z.locals → var E x ≡ read_value db f.tape z.at (variables f.t z.locals) q
        → map (var E) (set now (assigned q) x) ≡ (read_on db f z q).locals
    set_worth q z a b = map-set (var E) now (assigned q) x ∙ (λ i. set (a i) (assigned q) (b i))
