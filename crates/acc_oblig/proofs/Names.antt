-- What a value is worth under the names of a sequent.
use Rattle.std.proofs.Common.{◌≡◌, ℕ, zero, suc, ◌+◌, ◌≤◌, Bool, true, false, if◌then◌else◌, List, [], ◌∷◌, ◌++◌, length, map, get_or, refl}
use Rattle.std.proofs.Common.{ap, sym, ◌∙◌, subst, arith, nat_lt, ℤ, pos, ◌+ℤ◌, ◌*ℤ◌}
use Rattle.std.specs.Prelude.{◌&&◌}
use Rattle.std.specs.List.{list_all}
use Rattle.std.specs.Ordering.{int_eq}
use Rattle.std.proofs.lemmas.Bool.{ltb-true, ltb-false}
use Rattle.std.proofs.lemmas.List.{get_or-map, get_or_past, length-map, map-append}
use Rattle.acc_base.specs.declared.tables.Row.{Row}
use Rattle.acc_base.specs.declared.forms.Lin.{Lin}
use Rattle.acc_base.specs.declared.forms.Atom.{Atom}
use Rattle.acc_base.specs.declared.forms.Atom.TheVariants.{One, Var, Has, Col, Count, Sum}
use Rattle.acc_base.specs.declared.forms.Unknown.{Unknown}
use Rattle.acc_base.specs.declared.forms.Form.{Form}
use Rattle.acc_base.specs.declared.forms.Rel.{Rel}
use Rattle.acc_base.specs.declared.forms.Clause.{Clause}
use Rattle.acc_base.specs.declared.steps.Action.{Action}
use Rattle.acc_base.specs.declared.steps.Action.TheVariants as action
use Rattle.acc_base.specs.Numbers.{total}
use Rattle.acc_base.specs.Tables.{has_row, column_of, count_of, sum_of, put, drop_row, change_row, set_cell, cell}
use Rattle.acc_base.specs.Linear.{var, term_value, lin_value, lin_values, meets}
use Rattle.acc_base.specs.Actions.{after_action}
use Rattle.acc_base.specs.Truth.{atom_value, is_lin_zero, unknown_value, product_value, form_value, rel_true, ClauseTrue}
use Rattle.acc_base.specs.Sums.{Term}
use Rattle.acc_base.specs.RowsAfter.{rows_after}
use Rattle.acc_base.specs.Items.{numbers_from}
use Rattle.acc_oblig.specs.declared.naming.Naming.{Naming}
use Rattle.acc_oblig.specs.Naming.{own_naming, own_clause, named, named_lin, named_lins, named_atom, named_unknown, named_form}
use Rattle.acc_oblig.specs.Naming.{named_rel, named_action}

-- each variable is worth under its name what it is worth
abbrev pub Agrees : Naming → List ℤ → List ℤ → Type 0
Agrees n E e = (v : ℕ) → var E (named n v) ≡ var e v

-- names that are worth what the variables are, and none behind them
pub agrees_at :
    (names : List ℕ) (past : ℕ) (E e : List ℤ) → map (var E) names ≡ e → var E past ≡ pos 0
    → Agrees (record { names = names; past = past }) E e
agrees_at names past E e h none v =
    subst (λ z. var E (named (record { names = names; past = past }) v) ≡ var z v) h (by (nat_lt v (length names)) refl)
  where
    long : length (map (var E) names) ≡ length names
    long = length-map names (var E)

    by : (b : Bool) → nat_lt v (length names) ≡ b → var E (get_or names v past) ≡ var (map (var E) names) v
    by true e = sym (get_or-map (var E) names v past (pos 0) (ltb-true v (length names) e))
    by false e =
        let l = ltb-false v (length names) e in
        let w : length (map (var E) names) ≤ v = omega (arith, l, long) in
        ap (var E) (get_or_past names v past l) ∙ (none ∙ sym (get_or_past (map (var E) names) v (pos 0) w))

-- variables that stand one after the other
own_listed : (own : ℕ) (E o : List ℤ) → ((j : ℕ) → var E (own + j) ≡ var o j) → map (var E) (numbers_from own (length o)) ≡ o
own_listed own E [] g = refl
own_listed own E (x ∷ xs) g =
    let first : own + zero ≡ own = omega arith in
    let here : var E own ≡ x = subst (λ n. var E n ≡ x) first (g zero) in
    let rest = own_listed (own + 1) E xs (λ j. let n : own + suc j ≡ own + 1 + j = omega arith in
    subst (λ k. var E k ≡ var xs j) n (g (suc j))) in
    λ i. here i ∷ rest i

-- the names of the first variables are worth what these are, and the variables from `own` on what the others are
pub agrees_by :
    (names : List ℕ) (own : ℕ) (E first o : List ℤ) → map (var E) names ≡ first → ((j : ℕ) → var E (own + j) ≡ var o j)
    → Agrees (own_naming names own (length o)) E (first ++ o)
agrees_by names own E first o h g =
    agrees_at (names ++ numbers_from own (length o)) (own + length o) E (first ++ o)
    (map-append (var E) names (numbers_from own (length o)) ∙ (λ i. h i ++ own_listed own E o g i))
    (g (length o) ∙ get_or_past o (length o) (pos 0) (omega arith))

module _ (n : Naming) (E e : List ℤ) (h : Agrees n E e) where
  terms_named : (cs : List (ℕ × ℤ)) → total (map (term_value E) (map (λ c. (named n c.0, c.1)) cs)) ≡ total (map (term_value e) cs)
  terms_named [] = refl
  terms_named (c ∷ cs) = λ i. (c.1 *ℤ h c.0 i) +ℤ terms_named cs i

  pub lin_named : (l : Lin) → lin_value E (named_lin n l) ≡ lin_value e l
  lin_named l = ap (λ z. z +ℤ l.constant) (terms_named l.coeffs)

  pub lins_named : (ls : List Lin) → lin_values E (named_lins n ls) ≡ lin_values e ls
  lins_named [] = refl
  lins_named (l ∷ ls) = λ i. lin_named l i ∷ lins_named ls i

  zeros_named : (ls : List Lin) → list_all (is_lin_zero E) (named_lins n ls) ≡ list_all (is_lin_zero e) ls
  zeros_named [] = refl
  zeros_named (l ∷ ls) = λ i. int_eq (lin_named l i) (pos 0) && zeros_named ls i

  module _ (db : List Row) where
    atom_named : (a : Atom) → atom_value db E (named_atom n a) ≡ atom_value db e a
    atom_named One = refl
    atom_named (Var x) = h x
    atom_named (Has t k) = ap (has_row db t) (lins_named k)
    atom_named (Col t k c) = ap (λ z. column_of db t z c) (lins_named k)
    atom_named (Count t p) = ap (count_of db t) (lins_named p)
    atom_named (Sum t p c) = ap (λ z. sum_of db t z c) (lins_named p)

    unknown_named : (u : Unknown) → unknown_value db E (named_unknown n u) ≡ unknown_value db e u
    unknown_named u =
        ap (λ b. if b then atom_value db E (named_atom n u.atom) else pos 0) (zeros_named u.under)
        ∙ ap (λ z. if list_all (is_lin_zero e) u.under then z else pos 0) (atom_named u.atom)

    products_named :
        (ts : List Term) → total (map (product_value db E) (map (λ t. (named_unknown n t.0, t.1)) ts)) ≡ total (map (product_value db e) ts)
    products_named [] = refl
    products_named (t ∷ ts) = λ i. (t.1 *ℤ unknown_named t.0 i) +ℤ products_named ts i

    pub form_named : (f : Form) → form_value db E (named_form n f) ≡ form_value db e f
    form_named f = ap (λ z. z +ℤ f.constant) (products_named f.terms)

    pub rel_named : (r : Rel) → rel_true db E (named_rel n r) ≡ rel_true db e r
    rel_named r = ap (meets r.equal) (form_named r.form)

    pub rels_named : (rs : List Rel) → list_all (rel_true db E) (map (named_rel n) rs) ≡ list_all (rel_true db e) rs
    rels_named [] = refl
    rels_named (r ∷ rs) = λ i. rel_named r i && rels_named rs i

  -- ---- actions

  pub action_named : (a : Action) (db : List Row) → after_action E (named_action n a) db ≡ after_action e a db
  action_named (action.Put t k vs) db = λ i. put (record { table = t; key = record { parts = lins_named k i }; cols = lins_named vs i }) db
  action_named (action.Del t k) db = ap (λ z. drop_row t z db) (lins_named k)
  action_named (action.Set t k c v) db = λ i. change_row t (lins_named k i) (set_cell c (lin_named v i)) db
  action_named (action.Add t k c v) db = λ i. change_row t (lins_named k i) (λ r. set_cell c (cell c r +ℤ lin_named v i) r) db

  pub actions_named : (acts : List Action) (db : List Row) → rows_after E (map (named_action n) acts) db ≡ rows_after e acts db
  actions_named [] db = refl
  actions_named (a ∷ rest) db = actions_named rest (after_action E (named_action n a) db) ∙ ap (rows_after e rest) (action_named a db)

-- ---- clauses

-- also with the values of a clause's own variables behind them
abbrev pub AgreesBehind : List ℕ → ℕ → List ℤ → List ℤ → Type 0
AgreesBehind names own E e = (o : List ℤ) → Agrees (own_naming names own (length o)) (E ++ o) (e ++ o)

pub clause_named :
    (names : List ℕ) (own : ℕ) (E e : List ℤ) → AgreesBehind names own E e → (db : List Row) (c : Clause) → ClauseTrue db e c
    → ClauseTrue db E (own_clause names own c)
clause_named names own E e h db c holds o long guards =
    let n = own_naming names own (length c.vars) in
    let agree = subst (λ k. Agrees (own_naming names own k) (E ++ o) (e ++ o)) long (h o) in
    rel_named n (E ++ o) (e ++ o) agree db c.rel ∙ holds o long (sym (rels_named n (E ++ o) (e ++ o) agree db c.guards) ∙ guards)

-- the same with at most one more value behind them
abbrev pub AgreesNear : Naming → List ℤ → List ℤ → Type 0
AgreesNear n E e = (own : List ℤ) → length own ≤ 1 → Agrees n (E ++ own) e
