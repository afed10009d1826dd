-- What axioms add is true, where what must be shown for them is.
use Rattle.std.proofs.Common.{◌≡◌, ℕ, zero, suc, Bool, true, false, List, [], ◌∷◌, length, map, take, refl, ap, sym, ◌∙◌}
use Rattle.std.proofs.Common.{subst, arith, ℤ, pos, negsuc, if◌then◌else◌, Option, Some, None, ◌==◌}
use Rattle.std.specs.Prelude.{◌≤ℤ◌, ◌&&◌, slice_get, find, ◌-◌}
use Rattle.std.specs.List.{list_all, AllByRecursion}
use Rattle.std.specs.Cmp.{first_so, second_so}
use Rattle.std.proofs.lemmas.Int.{ints}
use Rattle.std.proofs.lemmas.Bool.Decides.{Decides-int_eq, Decides-eqb}
use Rattle.std.specs.Option.{option_map}
use Rattle.std.proofs.lemmas.Option.{slice_get-map}
use Rattle.std.proofs.lemmas.List.{length-map, take-map}
use Rattle.std.proofs.lemmas.List.Elements.{recursion_from_All}
use Rattle.acc_base.specs.declared.tables.Table.{Table}
use Rattle.acc_base.specs.declared.tables.Row.{Row}
use Rattle.acc_base.specs.declared.forms.Lin.{Lin}
use Rattle.acc_base.specs.declared.forms.Atom.{Atom}
use Rattle.acc_base.specs.declared.forms.Atom.TheVariants as atom
use Rattle.acc_base.specs.declared.forms.Unknown.{Unknown}
use Rattle.acc_base.specs.declared.forms.Form.{Form}
use Rattle.acc_base.specs.declared.forms.Rel.{Rel}
use Rattle.acc_base.specs.declared.designs.At.{At}
use Rattle.acc_base.specs.declared.designs.Design.{Design}
use Rattle.acc_base.specs.declared.designs.TxType.{TxType}
use Rattle.acc_base.specs.declared.sequents.Sequent.{Sequent}
use Rattle.acc_base.specs.declared.sequents.Rule.TheVariants.{Begins, Empty}
use Rattle.acc_base.specs.Atoms.{key_of, with_key, alike}
use Rattle.acc_base.specs.Forms.{form, at_most, is_zero}
use Rattle.acc_base.specs.SequentEquality.{rule_eq, rule_decides}
use Rattle.acc_base.specs.FormEquality.{lin_decides}
use Rattle.acc_base.specs.Linear.{var, lin_value, lin_values}
use Rattle.acc_base.specs.Tables.{Place, is_at, has_row, column_of, count_of, sum_of}
use Rattle.acc_base.specs.Truth.{atom_value, is_lin_zero, form_value, rel_true}
use Rattle.acc_base.specs.Shapes.{IsFullKey, RowFits}
use Rattle.acc_base.specs.PrivateRows.{is_own_table, last_is, IsPrivateOf, HasNoPrivate}
use Rattle.acc_base.specs.TrueSequents.{NoneOwnedBy, NoneOwned, IsAskedOf}
use Rattle.acc_base.proofs.RowOrder.{order_from}
use Rattle.acc_base.proofs.Lookups.{any_none, found_at}
use Rattle.acc_instanced.proofs.RowPlaces.{found_holds}
use Rattle.acc_instanced.proofs.PartValues.{one_times}
use Rattle.acc_axioms.specs.declared.nodes.Schema.{Schema}
use Rattle.acc_axioms.specs.declared.nodes.Schema.TheVariants as schema
use Rattle.acc_axioms.specs.declared.nodes.TheConstants.{BELOW, ABOVE}
use Rattle.acc_axioms.specs.Axioms.{Demand, demand, axiom_of, has, col, count, sum, plain, plus, minus, less, alone, less_atom, lin_form}
use Rattle.acc_axioms.specs.Axioms.{lin_above, lin_below, lin_difference, differences, is_width, is_whole, is_table_atom}
use Rattle.acc_axioms.specs.Axioms.{is_plain, own_number, own_at, locals_of, variable, is_value, ends_in, ends_in_own}
use Rattle.acc_axioms.specs.Axioms.{off}
use Rattle.acc_axioms.proofs.Alike.{one_length, with_key-alike}
use Rattle.acc_axioms.proofs.Tests.{le_yes, le_from, both_true, and_true, off_true}
use Rattle.acc_axioms.specs.Truths.{all_true}
use Rattle.acc_axioms.proofs.FormValues.{worth, minus_worth, plus_worth, less_worth, lin_worth, above_worth, below_worth, difference_worth}
use Rattle.acc_axioms.proofs.RowFacts.{has_least, has_most, no_column, no_sum, front, HasLength, whole_count, whole_sum_is}

module _ (db : List Row) (env : List ℤ) where
  -- ---- relations from values

  abbrev value : Form → ℤ
  value f = form_value db env f

  least_true : (f : Form) → value f ≤ℤ pos 0 → rel_true db env (at_most f) ≡ true
  least_true f h = le_yes (value f) (pos 0) h

  least_from : (f : Form) → rel_true db env (at_most f) ≡ true → value f ≤ℤ pos 0
  least_from f h = le_from (value f) (pos 0) h

  zero_true : (f : Form) → value f ≡ pos 0 → rel_true db env (is_zero f) ≡ true
  zero_true f h = (Decides-int_eq (value f) (pos 0)).1 h

  zero_from : (f : Form) → rel_true db env (is_zero f) ≡ true → value f ≡ pos 0
  zero_from f h = (Decides-int_eq (value f) (pos 0)).0 h

  alone_zero : (u : Unknown) → worth db env u ≡ pos 0 → rel_true db env (is_zero (alone u)) ≡ true
  alone_zero u h = let v = plus_worth db env u (pos 0) in zero_true (alone u) (omega (arith, ints, v, h))

  alone_least : (u : Unknown) → rel_true db env (at_most (alone u)) ≡ true → worth db env u ≤ℤ pos 0
  alone_least u h =
      let v = plus_worth db env u (pos 0) in
      let l = least_from (alone u) h in
      omega (arith, ints, v, l)

  less_zero : (u v : Unknown) → worth db env u ≡ worth db env v → rel_true db env (is_zero (less u v)) ≡ true
  less_zero u v h = let w = less_worth db env u v in zero_true (less u v) (omega (arith, ints, w, h))

  only : (r : Rel) → rel_true db env r ≡ true → all_true db env (r ∷ []) ≡ true
  only r h = both_true (rel_true db env r) true h refl

  first : (r : Rel) (rs : List Rel) → all_true db env (r ∷ rs) ≡ true → rel_true db env r ≡ true
  first r rs h = first_so (rel_true db env r) (all_true db env rs) h

  -- ---- keys

  same_values : (ps ks : List Lin) → length ps ≡ length ks → all_true db env (differences ps ks) ≡ true → lin_values env ps
      ≡ lin_values env ks
  same_values [] [] e h = refl
  same_values [] (k ∷ ks) e h = absurd (omega (arith, e))
  same_values (p ∷ ps) [] e h = absurd (omega (arith, e))
  same_values (p ∷ ps) (k ∷ ks) e h =
      let d = difference_worth db env p k in
      let z = zero_from (lin_difference p k) (first (is_zero (lin_difference p k)) (differences ps ks) h) in
      let here : lin_value env p ≡ lin_value env k = omega (arith, ints, d, z) in
      let rest = same_values ps ks (omega (arith, e))
      (second_so (rel_true db env (is_zero (lin_difference p k))) (all_true db env (differences ps ks)) h) in
      λ i. here i ∷ rest i

  -- an atom at an equal key
  at_key : (a : Atom) (k : List Lin) → lin_values env (key_of a) ≡ lin_values env k → atom_value db env a
      ≡ atom_value db env (with_key a k)
  at_key atom.One k e = refl
  at_key (atom.Var x) k e = refl
  at_key (atom.Has t l) k e = ap (has_row db t) e
  at_key (atom.Col t l c) k e = ap (λ p. column_of db t p c) e
  at_key (atom.Count t l) k e = ap (count_of db t) e
  at_key (atom.Sum t l c) k e = ap (λ p. sum_of db t p c) e

  -- atoms that differ in their keys alone, at equal keys
  same_atoms : (a b : Atom) → alike a b ≡ true → lin_values env (key_of a) ≡ lin_values env (key_of b) → atom_value db env a
      ≡ atom_value db env b
  same_atoms a b h e = at_key a (key_of b) e ∙ ap (atom_value db env) (with_key-alike a b h)

  plain_is : (u : Unknown) → is_plain u ≡ true → worth db env u ≡ atom_value db env u.atom
  plain_is u h = by u.under h
    where
      by : (under : List Lin) → (length under == 0) ≡ true → (if list_all (is_lin_zero env) under then atom_value db env u.atom else pos 0)
          ≡ atom_value db env u.atom
      by [] e = refl
      by (l ∷ ls) e = let z = (Decides-eqb (length (l ∷ ls)) 0).0 e in absurd (omega (arith, z))

  -- ---- what an unknown stands under

  under_zero : (ls : List Lin) → all_true db env (map (λ l. is_zero (lin_form l)) ls) ≡ true → list_all (is_lin_zero env) ls ≡ true
  under_zero [] h = refl
  under_zero (l ∷ ls) h =
      let z = zero_from (lin_form l) (first (is_zero (lin_form l)) (map (λ x. is_zero (lin_form x)) ls) h) in
      both_true (is_lin_zero env l) (list_all (is_lin_zero env) ls)
      ((Decides-int_eq (lin_value env l) (pos 0)).1 (sym (lin_worth db env l) ∙ z))
      (under_zero ls (second_so (rel_true db env (is_zero (lin_form l))) (all_true db env (map (λ x. is_zero (lin_form x)) ls)) h))

  one_off : (ls : List Lin) (n : ℕ) (l : Lin) → slice_get ls n ≡ Some l → is_lin_zero env l ≡ false → list_all (is_lin_zero env) ls ≡ false
  one_off [] n l e h = absurd (cc)
  one_off (x ∷ ls) zero l e h =
      let s : x ≡ l = cc in
      ap (λ b. b && list_all (is_lin_zero env) ls) (ap (is_lin_zero env) s ∙ h)
  one_off (x ∷ ls) (suc n) l e h = by (is_lin_zero env x) (one_off ls n l e h)
    where
      by : (b : Bool) → list_all (is_lin_zero env) ls ≡ false → (b && list_all (is_lin_zero env) ls) ≡ false
      by true ih = ih
      by false ih = refl

  shut : (u : Unknown) (n : ℕ) (l : Lin) → slice_get u.under n ≡ Some l → (lin_value env l ≡ pos 0 → ⊥)
      → rel_true db env (is_zero (alone u)) ≡ true
  shut u n l e h =
      alone_zero u (ap (λ b. if b then atom_value db env u.atom else pos 0)
      (one_off u.under n l e (off_true (is_lin_zero env l) (λ z. h ((Decides-int_eq (lin_value env l) (pos 0)).0 z)))))

  opened : (u : Unknown) → worth db env u ≡ atom_value db env u.atom → rel_true db env (is_zero (less_atom u u.atom)) ≡ true
  opened u h = by u.atom h
    where
      by : (a : Atom) → worth db env u ≡ atom_value db env a → rel_true db env (is_zero (less_atom u a)) ≡ true
      by atom.One e = let v = plus_worth db env u (negsuc 0) in zero_true (less_atom u atom.One) (omega (arith, ints, v, e))
      by (atom.Var x) e = less_zero u (plain (atom.Var x)) e
      by (atom.Has t k) e = less_zero u (plain (atom.Has t k)) e
      by (atom.Col t k c) e = less_zero u (plain (atom.Col t k c)) e
      by (atom.Count t p) e = less_zero u (plain (atom.Count t p)) e
      by (atom.Sum t p c) e = less_zero u (plain (atom.Sum t p c)) e

  -- ---- no rows at all

  nothing_there : (d : Design) (a : Atom) → is_table_atom d a ≡ true → db ≡ [] → atom_value db env a ≡ pos 0
  nothing_there d atom.One h e = absurd (cc)
  nothing_there d (atom.Var x) h e = absurd (cc)
  nothing_there d (atom.Has t k) h e = ap (λ rows. has_row rows t (lin_values env k)) e
  nothing_there d (atom.Col t k c) h e = ap (λ rows. column_of rows t (lin_values env k) c) e
  nothing_there d (atom.Count t p) h e = ap (λ rows. count_of rows t (lin_values env p)) e
  nothing_there d (atom.Sum t p c) h e = ap (λ rows. sum_of rows t (lin_values env p) c) e

  unknown_nothing : (u : Unknown) → atom_value db env u.atom ≡ pos 0 → worth db env u ≡ pos 0
  unknown_nothing u h = by (list_all (is_lin_zero env) u.under)
    where
      by : (b : Bool) → (if b then atom_value db env u.atom else pos 0) ≡ pos 0
      by true = h
      by false = refl

  -- ---- own rows

  own_end : (x : ℕ) (k : List Lin) → ends_in (variable x) k ≡ true
      → last_is (var env x) (slice_get (lin_values env k) (length (lin_values env k) - 1))
  own_end x k h = subst (last_is (var env x)) (sym same) (by (slice_get k (length k - 1)) h)
    where
      same : slice_get (lin_values env k) (length (lin_values env k) - 1) ≡ option_map (lin_value env) (slice_get k (length k - 1))
      same =
          ap (λ (n : ℕ). slice_get (lin_values env k) (n - 1)) (length-map k (lin_value env))
          ∙ slice_get-map (lin_value env) k (length k - 1)

      by : (o : Option Lin) → is_value (variable x) o ≡ true → last_is (var env x) (option_map (lin_value env) o)
      by None e = absurd (cc)
      by (Some l) e =
          let o = one_times (var env x) in
          let v : lin_value env (variable x) ≡ var env x = omega (arith, ints, o) in
          ap (lin_value env) ((lin_decides l (variable x)).0 e) ∙ v

-- ---- keys as long as their table's

same_width : (o : Option Table) (n m : ℕ) → is_width o n ≡ true → IsFullKey o m → n ≡ m
same_width None n m h g = absurd g
same_width (Some t) n m h g = (Decides-eqb n t.width).0 h ∙ sym g

lengths : (tables : List Table) (t n : ℕ) → is_width (slice_get tables t) n ≡ true → (db : List Row) → AllByRecursion (RowFits tables) db
    → AllByRecursion (HasLength t n) db
lengths tables t n h [] g = tt
lengths tables t n h (r ∷ db) g = (
  (λ e. same_width (slice_get tables t) n (length r.key.parts) h
      (subst (λ (x : ℕ). IsFullKey (slice_get tables x) (length r.key.parts)) (sym e) g.0.0)),
  lengths tables t n h db g.1,
)

module _ (d : Design) (q : Sequent) (db : List Row) (env : List ℤ) (asked : IsAskedOf d q db env) where
  rows_fit : AllByRecursion (RowFits d.tables) db
  rows_fit = recursion_from_All (RowFits d.tables) db asked.fit.shapes

  has_length : (t : ℕ) (k : List Lin) → is_whole d t k ≡ true → AllByRecursion (HasLength t (length (lin_values env k))) db
  has_length t k h =
      lengths d.tables t (length (lin_values env k)) (ap (is_width (slice_get d.tables t)) (length-map k (lin_value env)) ∙ h) db rows_fit

  none_found : (n : ℤ) → HasNoPrivate d n db → (t : ℕ) (key : List ℤ) → is_own_table (slice_get d.tables t) ≡ true
      → last_is n (slice_get key (length key - 1)) → has_row db t key ≡ pos 0
  none_found n h t key own ends = by (find (is_at t key) db) refl
    where
      by : (o : Option Row) → find (is_at t key) db ≡ o → has_row db t key ≡ pos 0
      by None e = ap (λ b. if b then pos 1 else pos 0) (any_none (is_at t key) db e)
      by (Some r) e =
          let at = found_at (t, key) db r e in
          let none =
          found_holds (λ y. ¬ IsPrivateOf d n y) (is_at t key) db r e
          (recursion_from_All (λ y. ¬ IsPrivateOf d n y) db h) in
          let there : is_own_table (slice_get d.tables r.table) ≡ true =
          ap (λ (p : Place). is_own_table (slice_get d.tables p.0)) (sym at) ∙ own in
          let last = subst (λ (p : Place). last_is n (slice_get p.1 (length p.1 - 1))) at ends in
          absurd (none (record { own = there; ends = last }))

  none_owned : (at : Option At) → NoneOwned d db env at → (t : ℕ) (k : List Lin) → is_own_table (slice_get d.tables t) ≡ true
      → ends_in_own (own_at d at) k ≡ true → has_row db t (lin_values env k) ≡ pos 0
  none_owned None h t k own ends = absurd (cc)
  none_owned (Some at) h t k own ends = by (slice_get d.types at.ty) h ends
    where
      by : (o : Option TxType) → NoneOwnedBy d db env o → ends_in_own (locals_of o) k ≡ true
          → has_row db t (lin_values env k) ≡ pos 0
      by None g e = absurd (cc)
      by (Some x) g e =
          none_found (var env (length x.locals)) g t (lin_values env k) own (own_end db env (length x.locals) k e)

  -- what a demand adds is true where its facts are
  abbrev AddsTruth : Demand → Type 0
  AddsTruth x = x.may ≡ true → all_true db env x.facts ≡ true → all_true db env x.added ≡ true

  off_below : (u : Unknown) (n : ℕ) (l : Lin) → slice_get u.under n ≡ Some l
      → AddsTruth (demand true (at_most (lin_above l) ∷ []) (is_zero (alone u) ∷ []))
  off_below u n l e may facts =
      let below = least_from db env (lin_above l) (first db env (at_most (lin_above l)) [] facts) in
      let w = above_worth db env l in
      only db env (is_zero (alone u)) (shut db env u n l e (λ z. omega (arith, ints, below, w, z)))

  off_above : (u : Unknown) (n : ℕ) (l : Lin) → slice_get u.under n ≡ Some l
      → AddsTruth (demand true (at_most (lin_below l) ∷ []) (is_zero (alone u) ∷ []))
  off_above u n l e may facts =
      let above = least_from db env (lin_below l) (first db env (at_most (lin_below l)) [] facts) in
      let w = below_worth db env l in
      only db env (is_zero (alone u)) (shut db env u n l e (λ z. omega (arith, ints, above, w, z)))

  off_true_of : (u : Unknown) (n side : ℕ) (o : Option Lin) → slice_get u.under n ≡ o → AddsTruth (off o side u)
  off_true_of u n side None e = λ may facts. absurd (cc)
  off_true_of u n side (Some l) e = by (side == BELOW) (side == ABOVE)
    where
      by : (b c : Bool)
          → AddsTruth (if b then demand true (at_most (lin_above l) ∷ []) (is_zero (alone u) ∷ [])
          else (if c then demand true (at_most (lin_below l) ∷ []) (is_zero (alone u) ∷ []) else demand false [] []))
      by true c = off_below u n l e
      by false true = off_above u n l e
      by false false = λ may facts. absurd (cc)

  pub axiom_true : (x : Schema) → (axiom_of d q x).may ≡ true → all_true db env (axiom_of d q x).facts ≡ true
      → all_true db env (axiom_of d q x).added ≡ true
  axiom_true (schema.Has t k) may facts =
      let least = has_least db t (lin_values env k) in
      let most = has_most db t (lin_values env k) in
      let m = minus_worth db env (has t k) (pos 0) in
      let p = plus_worth db env (has t k) (negsuc 0) in
      both_true (rel_true db env (at_most (form (minus (has t k) ∷ []) (pos 0))))
      (all_true db env (at_most (form (plus (has t k) ∷ []) (negsuc 0)) ∷ []))
      (least_true db env (form (minus (has t k) ∷ []) (pos 0)) (omega (arith, ints, least, m)))
      (only db env (at_most (form (plus (has t k) ∷ []) (negsuc 0)))
      (least_true db env (form (plus (has t k) ∷ []) (negsuc 0)) (omega (arith, ints, most, p))))
  axiom_true (schema.Count t p) may facts =
      let m = minus_worth db env (count t p) (pos 0) in
      only db env (at_most (form (minus (count t p) ∷ []) (pos 0)))
      (least_true db env (form (minus (count t p) ∷ []) (pos 0)) (omega (arith, ints, m)))
  axiom_true (schema.Front t k n) may facts =
      let f = front db t n (lin_values env k) in
      let s = ap (count_of db t) (take-map (lin_value env) n k) in
      let w = less_worth db env (has t k) (count t (take n k)) in
      only db env (at_most (less (has t k) (count t (take n k))))
      (least_true db env (less (has t k) (count t (take n k))) (omega (arith, ints, f, s, w)))
  axiom_true (schema.Same u v) may facts =
      let p = and_true (is_table_atom d u.atom) (alike u.atom v.atom && (is_plain u && is_plain v)) may in
      let a = and_true (alike u.atom v.atom) (is_plain u && is_plain v) p.1 in
      let b = and_true (is_plain u) (is_plain v) a.1 in
      let keys = same_values db env (key_of u.atom) (key_of v.atom) (one_length u.atom v.atom a.0) facts in
      only db env (is_zero (less u v)) (less_zero db env u v
      (plain_is db env u b.0 ∙ (same_atoms db env u.atom v.atom a.0 keys ∙ sym (plain_is db env v b.1))))
  axiom_true (schema.NoCol t k c) may facts =
      let h = alone_least db env (has t k) (first db env (at_most (alone (has t k))) [] facts) in
      only db env (is_zero (alone (col t k c))) (alone_zero db env (col t k c) (no_column db t (lin_values env k) c h))
  axiom_true (schema.NoSum t p c) may facts =
      let h = alone_least db env (count t p) (first db env (at_most (alone (count t p))) [] facts) in
      only db env (is_zero (alone (sum t p c))) (alone_zero db env (sum t p c) (no_sum db t (lin_values env p) c h))
  axiom_true (schema.OneCount t k) may facts =
      only db env (is_zero (less (count t k) (has t k)))
      (less_zero db env (count t k) (has t k)
      (whole_count db t (lin_values env k) (order_from db asked.fit.order) (has_length t k may)))
  axiom_true (schema.OneSum t k c) may facts =
      only db env (is_zero (less (sum t k c) (col t k c)))
      (less_zero db env (sum t k c) (col t k c)
      (whole_sum_is db t (lin_values env k) c (order_from db asked.fit.order) (has_length t k may)))
  axiom_true (schema.Opened u) may facts =
      only db env (is_zero (less_atom u u.atom))
      (opened db env u (ap (λ b. if b then atom_value db env u.atom else pos 0) (under_zero db env u.under facts)))
  axiom_true (schema.Shut u n side) may facts = off_true_of u n side (slice_get u.under n) refl may facts
  axiom_true (schema.Empty u) may facts =
      let p = and_true (rule_eq q.origin.rule Empty) (is_table_atom d u.atom) may in
      let none = asked.empty ((rule_decides q.origin.rule Empty).0 p.0) in
      only db env (is_zero (alone u)) (alone_zero db env u (unknown_nothing db env u (nothing_there db env d u.atom p.1 none)))
  axiom_true (schema.Fresh t k) may facts =
      let p = and_true (rule_eq q.origin.rule Begins)
      (is_own_table (slice_get d.tables t) && (is_whole d t k && ends_in_own (own_number d q) k)) may in
      let private = and_true (is_own_table (slice_get d.tables t)) (is_whole d t k && ends_in_own (own_number d q) k) p.1 in
      let ends = second_so (is_whole d t k) (ends_in_own (own_number d q) k) private.1 in
      let none = asked.fresh ((rule_decides q.origin.rule Begins).0 p.0) in
      only db env (is_zero (alone (has t k))) (alone_zero db env (has t k) (none_owned q.origin.at none t k private.0 ends))
