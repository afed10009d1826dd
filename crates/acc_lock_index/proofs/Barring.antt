-- What is found under keys is who bars a step, over the whole list of transactions.
use Rattle.std.proofs.Common.{◌≡◌, ℕ, ◌-◌, ◌⊎◌, inl, inr, Bool, true, false, List, ◌++◌, sym, ap, subst, ◌∙◌}
use Rattle.std.proofs.Common.{arith, Option, Some, None, Contains, ℤ}
use Rattle.std.specs.Prelude.{slice_get, ◌&&◌}
use Rattle.std.proofs.lemmas.List.Elements.{Contains-append_left, Contains-append_right, Contains-append_cases}
use Rattle.acc_base.specs.declared.designs.At.{At}
use Rattle.acc_base.specs.declared.designs.Entry.{Entry}
use Rattle.acc_base.specs.declared.designs.Design.{Design}
use Rattle.acc_base.specs.declared.machines.Frame.{Frame}
use Rattle.acc_base.specs.Entries.{at_of}
use Rattle.acc_table.specs.Closures.{is_set}
use Rattle.acc_lock_holders.specs.Keys.{Key}
use Rattle.acc_lock_holders.specs.Entries.{Entries}
use Rattle.acc_lock_index.specs.Roles.{standing_key, coming_key, undoing_key, held_values, step_values, may_stand, may_undo, one_if}
use Rattle.acc_lock_index.specs.Roles.{keys_from}
use Rattle.acc_lock_index.specs.Asks.{Asked, is_of, asks, first_from, TellsFirst}
use Rattle.acc_lock_index.specs.Indexed.{Standing, IsReached, AreUnder, StandsFor, BarsStep, Bars, AreReached, asked_of}
use Rattle.acc_lock_index.proofs.Members.{in_one_if}
use Rattle.acc_lock_index.proofs.Clashing.{Shares, forbids_shares, shares_forbids, clash_shares, coming_clash, undoing_clash}
use Rattle.acc_lock_index.proofs.Firsts.{IsFound, first_alike, tells_first}

module _ (d : Design) (t : ℕ) (at : At) (locals : List ℤ) where
  -- what is asked, for a step that leads there
  abbrev pub asked : ℕ → List Bool → List ℤ → Asked
  asked ty points to_locals = record { at = at; locals = locals; ty = ty; points = points; to_locals = to_locals }

  module _ (f : Frame) (n : ℕ) (ty : ℕ) (points : List Bool) (to_locals : List ℤ) where
    abbrev pub a : Asked
    a = asked ty points to_locals

    abbrev pub step_part : ℕ → Entry → List Key
    step_part m e = one_if (is_of at e) (standing_key m (step_values e locals))

    abbrev pub coming_part : ℕ → Entry → List Key
    coming_part m e = one_if (may_undo ty points e) (coming_key m (step_values e to_locals))

    abbrev pub undoing_part : ℕ → Entry → List Key
    undoing_part m e = one_if (may_stand ty points e) (undoing_key m (held_values e to_locals))

    pub all_of_step : (keys : List Key) → Shares step_part d keys n → Shares (asks a) d keys n
    all_of_step keys s = record {
      entry = s.entry;
      first = s.first;
      is_entry = s.is_entry;
      shared = s.shared;
      had = s.had;
      asked_for = Contains-append_left (step_part n s.entry ++ coming_part n s.entry) (undoing_part n s.entry) s.shared
          (Contains-append_left (step_part n s.entry) (coming_part n s.entry) s.shared s.asked_for);
    }

    pub all_of_coming : (keys : List Key) → Shares coming_part d keys n → Shares (asks a) d keys n
    all_of_coming keys s = record {
      entry = s.entry;
      first = s.first;
      is_entry = s.is_entry;
      shared = s.shared;
      had = s.had;
      asked_for = Contains-append_left (step_part n s.entry ++ coming_part n s.entry) (undoing_part n s.entry) s.shared
          (Contains-append_right (step_part n s.entry) (coming_part n s.entry) s.shared s.asked_for);
    }

    pub all_of_undoing : (keys : List Key) → Shares undoing_part d keys n → Shares (asks a) d keys n
    all_of_undoing keys s = record {
      entry = s.entry;
      first = s.first;
      is_entry = s.is_entry;
      shared = s.shared;
      had = s.had;
      asked_for = Contains-append_right (step_part n s.entry ++ coming_part n s.entry) (undoing_part n s.entry) s.shared s.asked_for;
    }

    pub parts_of_all : (keys : List Key) → Shares (asks a) d keys n
        → Shares step_part d keys n ⊎ (Shares coming_part d keys n ⊎ Shares undoing_part d keys n)
    parts_of_all keys s =
        by (Contains-append_cases (step_part n s.entry ++ coming_part n s.entry) (undoing_part n s.entry) s.shared s.asked_for)
      where
        sooner : Contains (step_part n s.entry) s.shared ⊎ Contains (coming_part n s.entry) s.shared
            → Shares step_part d keys n ⊎ (Shares coming_part d keys n ⊎ Shares undoing_part d keys n)
        sooner (inl c) =
            inl (record { entry = s.entry; first = s.first; is_entry = s.is_entry; shared = s.shared; had = s.had; asked_for = c })
        sooner (inr c) =
            inr (inl (record { entry = s.entry; first = s.first; is_entry = s.is_entry; shared = s.shared; had = s.had; asked_for = c }))

        by : Contains (step_part n s.entry ++ coming_part n s.entry) s.shared ⊎ Contains (undoing_part n s.entry) s.shared
            → Shares step_part d keys n ⊎ (Shares coming_part d keys n ⊎ Shares undoing_part d keys n)
        by (inl c) = sooner (Contains-append_cases (step_part n s.entry) (coming_part n s.entry) s.shared c)
        by (inr c) =
            inr (inr (record { entry = s.entry; first = s.first; is_entry = s.is_entry; shared = s.shared; had = s.had; asked_for = c }))

  module _ (f : Frame) (held : List Bool) (closed : IsReached d (at_of f) held) (n : ℕ) (points : List Bool) (to_locals : List ℤ) where
    abbrev pub keys : List Key
    keys = keys_from (at_of f) f.locals held 1 d.entries

    unset : (b : Bool) → b ≡ true → b ≡ false → ⊥
    unset true e g = cc
    unset false e g = cc

    and_last : (x y : Bool) → (x && y) ≡ true → y ≡ true
    and_last true y e = e
    and_last false y e = cc

    -- where no flag is set, no key of these kinds is asked for
    none_coming : ((q : ℕ) → is_set points q ≡ false) → Shares (coming_part f n 0 points to_locals) d keys n → ⊥
    none_coming none s = by (in_one_if (may_undo 0 points s.entry) (coming_key n (step_values s.entry to_locals)) s.shared s.asked_for).0
      where
        by : may_undo 0 points s.entry ≡ true → ⊥
        by h =
            let p = and_last _ (is_set points s.entry.step.point) h in
            unset (is_set points s.entry.step.point) p (none s.entry.step.point)

    none_undoing : ((q : ℕ) → is_set points q ≡ false) → Shares (undoing_part f n 0 points to_locals) d keys n → ⊥
    none_undoing none s = by (in_one_if (may_stand 0 points s.entry) (undoing_key n (held_values s.entry to_locals)) s.shared s.asked_for).0
      where
        by : may_stand 0 points s.entry ≡ true → ⊥
        by h =
            let p = and_last _ (is_set points s.entry.held.point) h in
            unset (is_set points s.entry.held.point) p (none s.entry.held.point)

    pub bars_shares : (to : Option At) → AreReached d to points → BarsStep d at locals to to_locals f n
        → Shares (asks (asked_of at locals to to_locals points)) d keys n
    bars_shares None r (inl b) =
        all_of_step f n 0 points to_locals keys (forbids_shares d (at_of f) f.locals held at locals n b)
    bars_shares None r (inr b) = absurd b
    bars_shares (Some g) r (inl b) =
        all_of_step f n g.ty points to_locals keys (forbids_shares d (at_of f) f.locals held at locals n b)
    bars_shares (Some g) r (inr b) = by (clash_shares d (at_of f) f.locals held closed g points to_locals r n b)
      where
        by : Shares (coming_part f n g.ty points to_locals) d keys n ⊎ Shares (undoing_part f n g.ty points to_locals) d keys n
            → Shares (asks (asked g.ty points to_locals)) d keys n
        by (inl s) = all_of_coming f n g.ty points to_locals keys s
        by (inr s) = all_of_undoing f n g.ty points to_locals keys s

    pub shares_bars : (to : Option At) → AreReached d to points → Shares (asks (asked_of at locals to to_locals points)) d keys n
        → BarsStep d at locals to to_locals f n
    shares_bars None r s = by (parts_of_all f n 0 points to_locals keys s)
      where
        by : Shares (step_part f n 0 points to_locals) d keys n
            ⊎ (Shares (coming_part f n 0 points to_locals) d keys n ⊎ Shares (undoing_part f n 0 points to_locals) d keys n)
            → BarsStep d at locals None to_locals f n
        by (inl p) = inl (shares_forbids d (at_of f) f.locals held at locals n p)
        by (inr (inl p)) = absurd (none_coming r p)
        by (inr (inr p)) = absurd (none_undoing r p)
    shares_bars (Some g) r s = by (parts_of_all f n g.ty points to_locals keys s)
      where
        by : Shares (step_part f n g.ty points to_locals) d keys n
            ⊎ (Shares (coming_part f n g.ty points to_locals) d keys n ⊎ Shares (undoing_part f n g.ty points to_locals) d keys n)
            → BarsStep d at locals (Some g) to_locals f n
        by (inl p) = inl (shares_forbids d (at_of f) f.locals held at locals n p)
        by (inr (inl p)) = inr (coming_clash d (at_of f) f.locals held closed g points to_locals r n p)
        by (inr (inr p)) = inr (undoing_clash d (at_of f) f.locals held closed g points to_locals r n p)

  -- over the list of transactions
  module _ (frames : List Frame) (standings : List Standing) (es : Entries) (stand : StandsFor d frames standings)
      (are : AreUnder standings es) (to : Option At) (to_locals : List ℤ) (points : List Bool) (reached : AreReached d to points) where
    abbrev asks_for : Asked
    asks_for = asked_of at locals to to_locals points

    found_bars : (h n : ℕ) → IsFound es t asks_for 1 d.entries h n → Bars d frames t at locals to to_locals h n
    found_bars h n q =
        let u = q.under_one in
        let k = (are u.key h).0 u.other.0 in
        let z = stand.only k.standing k.there in
        let f = z.0 in
        let is = z.2 in
        let same = is.keys.keys_are in
        let j : q.j ≡ n - 1 = let e = q.number in omega (arith, e) in
        record {
          holder = f;
          among = z.1;
          number = sym is.number ∙ k.number;
          other = u.other.1;
          bars = shares_bars f is.keys.points is.keys.closure n points to_locals to reached (record {
            entry = q.entry;
            first = (let e = q.number in omega (arith, e));
            is_entry = ap (slice_get d.entries) (sym j) ∙ q.is_entry;
            shared = u.key;
            asked_for = u.among;
            had = subst (λ ks. Contains ks u.key) same k.key;
          });
        }

    bars_found : (h n : ℕ) → Bars d frames t at locals to to_locals h n → IsFound es t asks_for 1 d.entries h n
    bars_found h n b =
        let z = stand.each b.holder b.among in
        let is = z.2 in
        let s = bars_shares b.holder is.keys.points is.keys.closure n points to_locals to reached b.bars in
        let first = s.first in
        record {
          j = n - 1;
          number = omega (arith, first);
          entry = s.entry;
          is_entry = s.is_entry;
          under_one = record {
            key = s.shared;
            among = s.asked_for;
            other = (
              (are s.shared h).1 (record {
                standing = z.0;
                there = z.1;
                number = is.number ∙ b.number;
                key = subst (λ ks. Contains ks s.shared) (sym is.keys.keys_are) s.had;
              }),
              b.other,
            );
          };
        }

    pub first_bars : TellsFirst (Bars d frames t at locals to to_locals) (first_from es t asks_for None 1 d.entries)
    first_bars =
        first_alike (IsFound es t asks_for 1 d.entries) (Bars d frames t at locals to to_locals) found_bars bars_found
        (first_from es t asks_for None 1 d.entries) (tells_first es t asks_for d.entries)
