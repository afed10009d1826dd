-- Entries forbid and points clash exactly where keys are alike.
use Rattle.std.proofs.Common.{◌≡◌, ℕ, zero, suc, ◌-◌, ◌≤◌, ◌⊎◌, inl, inr, Bool, true, false, ◌||◌, List, [], ◌∷◌, sym, ap, subst, refl, ◌∙◌}
use Rattle.std.proofs.Common.{Some, Contains, map, drop, ℤ, pos, arith}
use Rattle.std.specs.Prelude.{◌==◌, ◌&&◌, slice_get, slice_index_or, IsTrue}
use Rattle.std.specs.Cmp.Derive.{both_true}
use Rattle.std.specs.Cmp.{first_so, second_so}
use Rattle.std.proofs.lemmas.Bool.{and_parts}
use Rattle.std.proofs.lemmas.Bool.Decides.{Decides-int_eq, nat_tests}
use Rattle.std.proofs.lemmas.Option.{same_Some, none-some}
use Rattle.std.specs.List.{list_any}
use Rattle.acc_base.specs.declared.designs.At.{At}
use Rattle.acc_base.specs.declared.designs.Side.TheVariants.{Next, Undo}
use Rattle.acc_base.specs.declared.designs.Entry.{Entry}
use Rattle.acc_base.specs.declared.designs.Design.{Design}
use Rattle.acc_base.specs.Linear.{var}
use Rattle.acc_base.specs.PointEquality.{at_eq, side_eq}
use Rattle.acc_base.specs.Entries.{Forbids}
use Rattle.acc_base.specs.Locks.{Clashes, ClashesEither}
use Rattle.acc_table.specs.Closures.{is_set}
use Rattle.acc_table.specs.Entries.{pair_agrees, pairs_agree, entry_clashes, either_clashes, entry_may_clash}
use Rattle.acc_table.proofs.Telling.{Passing, forbids_to, forbids_from, either_to, either_from}
use Rattle.acc_lock_holders.specs.declared.keys.Role.{Role}
use Rattle.acc_lock_holders.specs.declared.keys.Role.TheVariants.{Standing, Coming, Undoing}
use Rattle.acc_lock_holders.specs.Keys.{Key}
use Rattle.acc_lock_index.specs.Roles.{standing_key, coming_key, undoing_key, held_values, step_values, stands, may_stand, may_undo}
use Rattle.acc_lock_index.specs.Roles.{names_undo, one_if, keys_at, keys_from}
use Rattle.acc_lock_index.specs.Asks.{is_of}
use Rattle.acc_lock_index.specs.Indexed.{IsReached}
use Rattle.acc_lock_index.proofs.Members.{in_one_if, one_if_in, KeyIs, standing, coming, undoing, key_is, at_number, put_at}
use Rattle.acc_lock_index.proofs.Members.{has_standing, has_coming, has_undoing}

-- ---- values that are alike

alike_to : (held locals : List ℤ) (pairs : List (ℕ × ℕ)) → pairs_agree held locals pairs ≡ true
    → map (λ p. var held p.0) pairs ≡ map (λ p. var locals p.1) pairs
alike_to held locals [] h = refl
alike_to held locals (p ∷ pairs) h =
    let agrees = first_so (pair_agrees held locals p) (pairs_agree held locals pairs) h in
    let first = (Decides-int_eq (var held p.0) (var locals p.1)).0 agrees in
    let rest = alike_to held locals pairs (second_so (pair_agrees held locals p) (pairs_agree held locals pairs) h) in
    λ i. first i ∷ rest i

alike_from : (held locals : List ℤ) (pairs : List (ℕ × ℕ)) → map (λ p. var held p.0) pairs ≡ map (λ p. var locals p.1) pairs
    → pairs_agree held locals pairs ≡ true
alike_from held locals [] h = refl
alike_from held locals (p ∷ pairs) h =
    both_true ((Decides-int_eq (var held p.0) (var locals p.1)).1 (ap (λ xs. slice_index_or xs 0 (pos 0)) h))
    (alike_from held locals pairs (ap (drop 1) h))

pub values_to : (held locals : List ℤ) (e : Entry) → pairs_agree held locals e.pairs ≡ true → held_values e held ≡ step_values e locals
values_to held locals e h = alike_to held locals e.pairs h

pub values_from : (held locals : List ℤ) (e : Entry) → held_values e held ≡ step_values e locals → pairs_agree held locals e.pairs ≡ true
values_from held locals e h = alike_from held locals e.pairs h

abbrev role_number : Role → ℕ
role_number Standing = 0
role_number Coming = 1
role_number Undoing = 2

-- ---- the tests by parts

module _ (a : ℕ) (a_points : List Bool) (a_locals : List ℤ) (b : ℕ) (b_points : List Bool) (b_locals : List ℤ) (e : Entry) where
  pub record ClashParts : Type 0 where
    pub undoes : may_undo a a_points e ≡ true
    pub held : may_stand b b_points e ≡ true
    pub values : held_values e b_locals ≡ step_values e a_locals

  abbrev side_is : Bool
  side_is = side_eq e.side Undo

  pub clash_parts : entry_clashes a a_points a_locals b b_points b_locals e ≡ true → ClashParts
  clash_parts h =
      let may = entry_may_clash a a_locals b b_locals e in
      let k = and_parts (may && is_set a_points e.step.point) (is_set b_points e.held.point) h in
      let l = and_parts may (is_set a_points e.step.point) k.0 in
      let m = and_parts (side_is && (e.step.ty == a) && (e.held.ty == b)) (pairs_agree b_locals a_locals e.pairs) l.0 in
      let q = and_parts (side_is && (e.step.ty == a)) (e.held.ty == b) m.0 in
      let r = and_parts side_is (e.step.ty == a) q.0 in
      record {
        undoes = both_true (both_true r.0 r.1) l.1;
        held = both_true (both_true r.0 q.1) k.1;
        values = values_to b_locals a_locals e m.1;
      }

  pub parts_clash : ClashParts → entry_clashes a a_points a_locals b b_points b_locals e ≡ true
  parts_clash p =
      let u = and_parts (side_is && (e.step.ty == a)) (is_set a_points e.step.point) p.undoes in
      let v = and_parts side_is (e.step.ty == a) u.0 in
      let s = and_parts (side_is && (e.held.ty == b)) (is_set b_points e.held.point) p.held in
      let w = and_parts side_is (e.held.ty == b) s.0 in
      both_true (both_true (both_true (both_true (both_true v.0 v.1) w.1) (values_from b_locals a_locals e p.values)) u.1) s.1

-- ---- entries of undo steps that name a type

either_left : (x y : Bool) → x ≡ true → (x || y) ≡ true
either_left true y e = refl
either_left false y e = cc

either_right : (x y : Bool) → y ≡ true → (x || y) ≡ true
either_right true y e = refl
either_right false y e = e

some_names : (ty : ℕ) (entries : List Entry) (i : ℕ) (e : Entry) → slice_get entries i ≡ Some e → names_undo ty e ≡ true
    → list_any (names_undo ty) entries ≡ true
some_names ty [] i e at h = absurd (none-some e at)
some_names ty (x ∷ entries) zero e at h =
    either_left (names_undo ty x) (list_any (names_undo ty) entries) (ap (names_undo ty) (same_Some x e at) ∙ h)
some_names ty (x ∷ entries) (suc i) e at h =
    either_right (names_undo ty x) (list_any (names_undo ty) entries) (some_names ty entries i e at h)

undo_names : (ty : ℕ) (points : List Bool) (e : Entry) → may_undo ty points e ≡ true → names_undo ty e ≡ true
undo_names ty points e h =
    let k = and_parts (side_eq e.side Undo && (e.step.ty == ty)) (is_set points e.step.point) h in
    let l = and_parts (side_eq e.side Undo) (e.step.ty == ty) k.0 in
    both_true l.0 (either_right (e.held.ty == ty) (e.step.ty == ty) l.1)

stand_names : (ty : ℕ) (points : List Bool) (e : Entry) → may_stand ty points e ≡ true → names_undo ty e ≡ true
stand_names ty points e h =
    let k = and_parts (side_eq e.side Undo && (e.held.ty == ty)) (is_set points e.held.point) h in
    let l = and_parts (side_eq e.side Undo) (e.held.ty == ty) k.0 in
    both_true l.0 (either_left (e.held.ty == ty) (e.step.ty == ty) l.1)

number_itself : (n : ℕ) → (n == n) ≡ true
number_itself n = grind (arith, nat_tests)

-- the entry of a clash names both types
clash_named : (d : Design) (a : At) (a_locals : List ℤ) (b : At) (b_locals : List ℤ) (n : ℕ) → Clashes d a a_locals b b_locals n
    → IsTrue (list_any (names_undo a.ty) d.entries) × IsTrue (list_any (names_undo b.ty) d.entries)
clash_named d a a_locals b b_locals n c =
    let f = c.forbids in
    let e = f.entry in
    let side : side_eq e.side Undo ≡ true = ap (λ s. side_eq s Undo) f.side_is in
    let step : (e.step.ty == a.ty) ≡ true = ap (λ (p : At). p.ty == a.ty) f.step_is ∙ number_itself a.ty in
    let held : (e.held.ty == b.ty) ≡ true = ap (λ (p : At). p.ty == b.ty) f.held_is ∙ number_itself b.ty in (
      some_names a.ty d.entries (n - 1) e f.is_entry (both_true side (either_right (e.held.ty == a.ty) (e.step.ty == a.ty) step)),
      some_names b.ty d.entries (n - 1) e f.is_entry (both_true side (either_left (e.held.ty == b.ty) (e.step.ty == b.ty) held)),
    )

clash_names : (d : Design) (a : At) (a_locals : List ℤ) (b : At) (b_locals : List ℤ) (n : ℕ) → ClashesEither d a a_locals b b_locals n
    → IsTrue (list_any (names_undo a.ty) d.entries) × IsTrue (list_any (names_undo b.ty) d.entries)
clash_names d a a_locals b b_locals n (inl c) = clash_named d a a_locals b b_locals n c
clash_names d a a_locals b b_locals n (inr c) = let k = clash_named d b b_locals a a_locals n c in (k.1, k.0)

-- ---- a key in common, under the entry with number n

pub record Shares (asked : ℕ → Entry → List Key) (d : Design) (keys : List Key) (n : ℕ) : Type 0 where
  pub entry : Entry
  pub first : 1 ≤ n
  pub is_entry : slice_get d.entries (n - 1) ≡ Some entry
  pub shared : Key
  pub asked_for : Contains (asked n entry) shared
  pub had : Contains keys shared

module _ (d : Design) (held : At) (held_locals : List ℤ) (points : List Bool) where
  abbrev keys : List Key
  keys = keys_from held held_locals points 1 d.entries

  -- ---- forward steps

  module _ (at : At) (locals : List ℤ) (n : ℕ) where
    abbrev pub step_asks : ℕ → Entry → List Key
    step_asks m e = one_if (is_of at e) (standing_key m (step_values e locals))

    pub forbids_shares : Forbids d held held_locals at Next locals n → Shares step_asks d keys n
    forbids_shares f =
        let p = forbids_to d held held_locals at Next locals n f in
        let e = p.entry in
        let k = and_parts (at_eq e.held held && at_eq e.step at && side_eq e.side Next) (pairs_agree held_locals locals e.pairs) p.passes in
        let l = and_parts (at_eq e.held held && at_eq e.step at) (side_eq e.side Next) k.0 in
        let m = and_parts (at_eq e.held held) (at_eq e.step at) l.0 in
        let mine : is_of at p.entry ≡ true = both_true l.1 m.1 in
        let here : stands held p.entry ≡ true = both_true l.1 m.0 in
        let agree = k.1 in
        let values : held_values p.entry held_locals ≡ step_values p.entry locals = values_to held_locals locals p.entry agree in
        record {
          entry = p.entry;
          first = p.first;
          is_entry = p.is_entry;
          shared = standing_key n (step_values p.entry locals);
          asked_for = one_if_in (is_of at p.entry) (standing_key n (step_values p.entry locals)) mine;
          had = put_at held held_locals points d.entries n p.entry (standing_key n (step_values p.entry locals)) p.first p.is_entry
              (subst (λ v. Contains (keys_at held held_locals points n p.entry) (standing_key n v)) values
              (has_standing held held_locals points n p.entry here));
        }

    pub shares_forbids : Shares step_asks d keys n → Forbids d held held_locals at Next locals n
    shares_forbids s =
        let a = in_one_if (is_of at s.entry) (standing_key n (step_values s.entry locals)) s.shared s.asked_for in
        by a.0 a.1 (key_is held held_locals points n s.entry s.shared
        (at_number held held_locals points d.entries n s.entry s.shared s.first s.is_entry (ap (λ (z : Key). z.entry) (sym a.1)) s.had))
      where
        by : is_of at s.entry ≡ true → standing_key n (step_values s.entry locals) ≡ s.shared
            → KeyIs held held_locals points n s.entry s.shared
            → Forbids d held held_locals at Next locals n
        by mine e (standing h f) =
            let o = and_parts (side_eq s.entry.side Next) (at_eq s.entry.step at) mine in
            let g = and_parts (side_eq s.entry.side Next) (at_eq s.entry.held held) h in
            let values : held_values s.entry held_locals ≡ step_values s.entry locals = ap (λ (z : Key). z.values) (f ∙ sym e) in
            forbids_from d held held_locals at Next locals n (record {
              entry = s.entry;
              first = s.first;
              is_entry = s.is_entry;
              passes = both_true (both_true (both_true g.1 o.1) o.0) (values_from held_locals locals s.entry values);
            })
        by mine e (coming h f) = let r : 1 ≡ 0 = ap (λ (z : Key). role_number z.role) (f ∙ sym e) in absurd (omega (arith, r))
        by mine e (undoing h f) = let r : 2 ≡ 0 = ap (λ (z : Key). role_number z.role) (f ∙ sym e) in absurd (omega (arith, r))

  -- ---- where a step leads

  module _ (closed : IsReached d held points) (to : At) (to_points : List Bool) (to_locals : List ℤ)
      (to_closed : IsReached d to to_points) (n : ℕ) where
    abbrev pub coming_asks : ℕ → Entry → List Key
    coming_asks m e = one_if (may_undo to.ty to_points e) (coming_key m (step_values e to_locals))

    abbrev pub undoing_asks : ℕ → Entry → List Key
    undoing_asks m e = one_if (may_stand to.ty to_points e) (undoing_key m (held_values e to_locals))

    pub clash_shares : ClashesEither d to to_locals held held_locals n → Shares coming_asks d keys n ⊎ Shares undoing_asks d keys n
    clash_shares c =
        let names = clash_names d to to_locals held held_locals n c in
        let p = either_to d to to_points to_locals held points held_locals (to_closed names.0) (closed names.1) n c in
        by p (entry_clashes to.ty to_points to_locals held.ty points held_locals p.entry) refl p.passes
      where
        by : (p : Passing d.entries (either_clashes to.ty to_points to_locals held.ty points held_locals) n) (b : Bool)
            → entry_clashes to.ty to_points to_locals held.ty points held_locals p.entry ≡ b
            → (b || entry_clashes held.ty points held_locals to.ty to_points to_locals p.entry) ≡ true
            → Shares coming_asks d keys n ⊎ Shares undoing_asks d keys n
        by p true e h =
            let q = clash_parts to.ty to_points to_locals held.ty points held_locals p.entry e in
            let k = coming_key n (step_values p.entry to_locals) in
            inl (record {
              entry = p.entry;
              first = p.first;
              is_entry = p.is_entry;
              shared = k;
              asked_for = one_if_in (may_undo to.ty to_points p.entry) k q.undoes;
              had = put_at held held_locals points d.entries n p.entry k p.first p.is_entry
                  (subst (λ v. Contains (keys_at held held_locals points n p.entry) (coming_key n v)) q.values
                  (has_coming held held_locals points n p.entry q.held));
            })
        by p false e h =
            let q = clash_parts held.ty points held_locals to.ty to_points to_locals p.entry h in
            let k = undoing_key n (held_values p.entry to_locals) in
            inr (record {
              entry = p.entry;
              first = p.first;
              is_entry = p.is_entry;
              shared = k;
              asked_for = one_if_in (may_stand to.ty to_points p.entry) k q.held;
              had = put_at held held_locals points d.entries n p.entry k p.first p.is_entry
                  (subst (λ v. Contains (keys_at held held_locals points n p.entry) (undoing_key n v)) (sym q.values)
                  (has_undoing held held_locals points n p.entry q.undoes));
            })

    pub coming_clash : Shares coming_asks d keys n → ClashesEither d to to_locals held held_locals n
    coming_clash s =
        let a = in_one_if (may_undo to.ty to_points s.entry) (coming_key n (step_values s.entry to_locals)) s.shared s.asked_for in
        by a.0 a.1 (key_is held held_locals points n s.entry s.shared
        (at_number held held_locals points d.entries n s.entry s.shared s.first s.is_entry (ap (λ (z : Key). z.entry) (sym a.1)) s.had))
      where
        by : may_undo to.ty to_points s.entry ≡ true → coming_key n (step_values s.entry to_locals) ≡ s.shared
            → KeyIs held held_locals points n s.entry s.shared → ClashesEither d to to_locals held held_locals n
        by u e (standing h f) = let r : 0 ≡ 1 = ap (λ (z : Key). role_number z.role) (f ∙ sym e) in absurd (omega (arith, r))
        by u e (undoing h f) = let r : 2 ≡ 1 = ap (λ (z : Key). role_number z.role) (f ∙ sym e) in absurd (omega (arith, r))
        by u e (coming h f) =
            let passes : entry_clashes to.ty to_points to_locals held.ty points held_locals s.entry ≡ true =
            parts_clash to.ty to_points to_locals held.ty points held_locals s.entry
            (record { undoes = u; held = h; values = ap (λ (z : Key). z.values) (f ∙ sym e) }) in
            either_from d to to_points to_locals held points held_locals
            (to_closed (some_names to.ty d.entries (n - 1) s.entry s.is_entry (undo_names to.ty to_points s.entry u)))
            (closed (some_names held.ty d.entries (n - 1) s.entry s.is_entry (stand_names held.ty points s.entry h))) n (record {
              entry = s.entry;
              first = s.first;
              is_entry = s.is_entry;
              passes = ap (λ b. b || entry_clashes held.ty points held_locals to.ty to_points to_locals s.entry) passes;
            })

    pub undoing_clash : Shares undoing_asks d keys n → ClashesEither d to to_locals held held_locals n
    undoing_clash s =
        let a = in_one_if (may_stand to.ty to_points s.entry) (undoing_key n (held_values s.entry to_locals)) s.shared s.asked_for in
        by a.0 a.1 (key_is held held_locals points n s.entry s.shared
        (at_number held held_locals points d.entries n s.entry s.shared s.first s.is_entry (ap (λ (z : Key). z.entry) (sym a.1)) s.had))
      where
        by : may_stand to.ty to_points s.entry ≡ true → undoing_key n (held_values s.entry to_locals) ≡ s.shared
            → KeyIs held held_locals points n s.entry s.shared → ClashesEither d to to_locals held held_locals n
        by u e (standing h f) = let r : 0 ≡ 2 = ap (λ (z : Key). role_number z.role) (f ∙ sym e) in absurd (omega (arith, r))
        by u e (coming h f) = let r : 1 ≡ 2 = ap (λ (z : Key). role_number z.role) (f ∙ sym e) in absurd (omega (arith, r))
        by u e (undoing h f) =
            let passes : entry_clashes held.ty points held_locals to.ty to_points to_locals s.entry ≡ true =
            parts_clash held.ty points held_locals to.ty to_points to_locals s.entry
            (record { undoes = h; held = u; values = sym (ap (λ (z : Key). z.values) (f ∙ sym e)) }) in
            either_from d to to_points to_locals held points held_locals
            (to_closed (some_names to.ty d.entries (n - 1) s.entry s.is_entry (stand_names to.ty to_points s.entry u)))
            (closed (some_names held.ty d.entries (n - 1) s.entry s.is_entry (undo_names held.ty points s.entry h))) n (record {
              entry = s.entry;
              first = s.first;
              is_entry = s.is_entry;
              passes = either_right (entry_clashes to.ty to_points to_locals held.ty points held_locals s.entry)
                  (entry_clashes held.ty points held_locals to.ty to_points to_locals s.entry) passes;
            })
