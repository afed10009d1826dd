-- Forms keep the shapes of tables before an action.
use Rattle.std.proofs.Common.{◌≡◌, ◌≤◌, ℕ, Bool, true, false, List, [], ◌∷◌, ◌++◌, length, map, refl, sym, ◌∙◌, subst, arith, Option, Some}
use Rattle.std.proofs.Common.{None, ℤ, pos, ◌+ℤ◌, if◌then◌else◌, ◌==◌}
use Rattle.std.specs.Prelude.{slice_get}
use Rattle.std.specs.List.{AllByRecursion, list_any}
use Rattle.std.proofs.lemmas.Bool.Decides.{Decides-eqb}
use Rattle.acc_base.specs.declared.tables.Table.{Table}
use Rattle.acc_base.specs.declared.tables.Row.{Row}
use Rattle.acc_base.specs.declared.forms.Lin.{Lin}
use Rattle.acc_base.specs.declared.forms.Atom.{Atom}
use Rattle.acc_base.specs.declared.forms.Atom.TheVariants.{One, Var, Has, Col, Count, Sum}
use Rattle.acc_base.specs.declared.forms.Form.{Form}
use Rattle.acc_base.specs.declared.steps.Action.{Action}
use Rattle.acc_base.specs.declared.steps.Action.TheVariants as action
use Rattle.acc_base.specs.Atoms.{key_of as atom_key}
use Rattle.acc_base.specs.Tables.{IsInOrder}
use Rattle.acc_base.specs.UnknownEquality.{unknown_eq, is_bare_one}
use Rattle.acc_base.specs.Sums.{Term, with_term, with_terms, multiple, is_left}
use Rattle.acc_preconditions.specs.Unders.{differences, is_false, lengthened}
use Rattle.acc_instanced.specs.Summands.{Part, variable_parts, lin_parts, part_summand, with_summand, with_summands}
use Rattle.acc_base.specs.Actions.{acted_table}
use Rattle.acc_preconditions.specs.Changes.{key_of, value_parts, minus, presence_change, column_change, presence_of, column_of, change}
use Rattle.acc_preconditions.specs.Gains.{changed_summands, term_summands, summands, gained}
use Rattle.acc_preconditions.specs.Preconditions.{before_action}
use Rattle.acc_base.specs.Shapes.{IsFullKey, IsPrefix, IsColumn, AtomFits, ActionFits}
use Rattle.acc_preconditions.proofs.AtomTurns.{IsLong}
use Rattle.acc_preconditions.proofs.Alls.{all-append, all-filter}

module _ (tables : List Table) where
  abbrev pub TermFits : Term → Type 0
  TermFits t = AtomFits tables t.0.atom

  abbrev pub PartFits : Part → Type 0
  PartFits p = AtomFits tables p.0

  -- ---- keys and prefixes

  pub action_key : (a : Action) → ActionFits tables a → IsFullKey (slice_get tables (acted_table a)) (length (key_of a))
  action_key (action.Put t k vs) h = h.0
  action_key (action.Del t k) h = h
  action_key (action.Set t k c v) h = h.0
  action_key (action.Add t k c v) h = h.0

  same_width : (o : Option Table) (n m : ℕ) → IsFullKey o n → IsFullKey o m → m ≡ n
  same_width None n m h g = absurd h
  same_width (Some t) n m h g = g ∙ sym h

  in_width : (o : Option Table) (n m : ℕ) → IsFullKey o n → IsPrefix o m → m ≤ n
  in_width None n m h g = absurd h
  in_width (Some t) n m h g = let w = g.1 in omega (arith, h, w)

  key_at : (t u n : ℕ) → t ≡ u → IsFullKey (slice_get tables t) n → IsFullKey (slice_get tables u) n
  key_at t u n e h = subst (λ (z : ℕ). IsFullKey (slice_get tables z) n) e h

  module _ (env : List ℤ) (a : Action) (db : List Row) (order : IsInOrder db) (fits : ActionFits tables a) where
    pub long_enough : (A : Atom) → AtomFits tables A → IsLong env a db order A
    long_enough One h = tt
    long_enough (Var x) h = tt
    long_enough (Has u q) h = λ e. same_width (slice_get tables u) (length (key_of a)) (length q)
        (key_at (acted_table a) u (length (key_of a)) e (action_key a fits)) h
    long_enough (Col u q c) h = λ e. same_width (slice_get tables u) (length (key_of a)) (length q)
        (key_at (acted_table a) u (length (key_of a)) e (action_key a fits)) h.0
    long_enough (Count u q) h = λ e. in_width (slice_get tables u) (length (key_of a)) (length q)
        (key_at (acted_table a) u (length (key_of a)) e (action_key a fits)) h
    long_enough (Sum u q c) h = λ e. in_width (slice_get tables u) (length (key_of a)) (length q)
        (key_at (acted_table a) u (length (key_of a)) e (action_key a fits)) h.0

    pub all_long : (ts : List Term) → AllByRecursion TermFits ts → AllByRecursion (λ t. IsLong env a db order t.0.atom) ts
    all_long [] h = tt
    all_long (t ∷ ts) h = (long_enough t.0.atom h.0, all_long ts h.1)

  -- ---- the form before an action

  variables_fit : (cs : List (ℕ × ℤ)) → AllByRecursion PartFits (map (λ x. (Var x.0, x.1)) cs)
  variables_fit [] = tt
  variables_fit (c ∷ cs) = (tt, variables_fit cs)

  lin_fits : (v : Lin) → AllByRecursion PartFits (lin_parts v)
  lin_fits v = all-append PartFits (variable_parts v) ((One, v.constant) ∷ []) (variables_fit v.coeffs) (tt, tt)

  value_fits : (o : Option Lin) → AllByRecursion PartFits (value_parts o)
  value_fits None = tt
  value_fits (Some v) = lin_fits v

  presence_fits : (a : Action) (A : Atom) → AtomFits tables A → AllByRecursion PartFits (presence_change a A)
  presence_fits (action.Put t k vs) A h = (tt, (h, tt))
  presence_fits (action.Del t k) A h = (h, tt)
  presence_fits (action.Set t k c v) A h = tt
  presence_fits (action.Add t k c v) A h = tt

  column_fits : (a : Action) (c : ℕ) (A : Atom) → AtomFits tables A → AllByRecursion PartFits (column_change a c A)
  column_fits (action.Put t k vs) c A h = all-append PartFits (value_parts (slice_get vs c)) (minus A) (value_fits (slice_get vs c)) (h, tt)
  column_fits (action.Del t k) c A h = (h, tt)
  column_fits (action.Set t k d v) c A h = by (d == c)
    where
      by : (b : Bool) → AllByRecursion PartFits (if b then lin_parts v ++ minus A else [])
      by true = all-append PartFits (lin_parts v) (minus A) (lin_fits v) (h, tt)
      by false = tt
  column_fits (action.Add t k d v) c A h = by (d == c)
    where
      by : (b : Bool) → AllByRecursion PartFits (if b then lin_parts v else [])
      by true = lin_fits v
      by false = tt

  presence_of_fits : (a : Action) (u : ℕ) (q : List Lin) → (acted_table a ≡ u → IsFullKey (slice_get tables u) (length q)) →
      AllByRecursion PartFits (presence_of a u q)
  presence_of_fits a u q h = by (acted_table a == u) refl
    where
      by : (b : Bool) → (acted_table a == u) ≡ b → AllByRecursion PartFits (if b then presence_change a (Has u q) else [])
      by true e = presence_fits a (Has u q) (h ((Decides-eqb (acted_table a) u).0 e))
      by false e = tt

  column_of_fits : (a : Action) (u : ℕ) (q : List Lin) (c : ℕ) → (acted_table a ≡ u → IsFullKey (slice_get tables u) (length q)) →
      IsColumn (slice_get tables u) c → AllByRecursion PartFits (column_of a u q c)
  column_of_fits a u q c h g = by (acted_table a == u) refl
    where
      by : (b : Bool) → (acted_table a == u) ≡ b → AllByRecursion PartFits (if b then column_change a c (Col u q c) else [])
      by true e = column_fits a c (Col u q c) (h ((Decides-eqb (acted_table a) u).0 e), g)
      by false e = tt

  module _ (a : Action) (fits : ActionFits tables a) where
    own_key : (u : ℕ) → acted_table a ≡ u → IsFullKey (slice_get tables u) (length (key_of a))
    own_key u e = key_at (acted_table a) u (length (key_of a)) e (action_key a fits)

    change_fits : (A : Atom) → AtomFits tables A → AllByRecursion PartFits (change a A)
    change_fits One h = tt
    change_fits (Var x) h = tt
    change_fits (Has u q) h = presence_of_fits a u q (λ e. h)
    change_fits (Col u q c) h = column_of_fits a u q c (λ e. h.0) h.1
    change_fits (Count u q) h = presence_of_fits a u (key_of a) (own_key u)
    change_fits (Sum u q c) h = column_of_fits a u (key_of a) c (own_key u) h.1

    parts_fit : (under : List Lin) (m : ℤ) (ps : List Part) → AllByRecursion PartFits ps →
        AllByRecursion TermFits (map (part_summand under m) ps)
    parts_fit under m [] h = tt
    parts_fit under m (p ∷ ps) h = (h.0, parts_fit under m ps h.1)

    changed_fit : (t : Term) (ps : List Part) → AllByRecursion PartFits ps → AllByRecursion TermFits (changed_summands (key_of a) t ps)
    changed_fit t [] h = tt
    changed_fit t (p ∷ ps) h = by (list_any is_false (lengthened t.0.under (differences (atom_key t.0.atom) (key_of a))))
      where
        by : (b : Bool) → AllByRecursion TermFits (if b then [] else map
            (part_summand (lengthened t.0.under (differences (atom_key t.0.atom) (key_of a))) t.1) (p ∷ ps))
        by true = tt
        by false = parts_fit (lengthened t.0.under (differences (atom_key t.0.atom) (key_of a))) t.1 (p ∷ ps) h

    summands_fit : (ts : List Term) → AllByRecursion TermFits ts → AllByRecursion TermFits (summands a ts)
    summands_fit [] h = tt
    summands_fit (t ∷ ts) h =
        all-append TermFits (term_summands a t) (summands a ts) (changed_fit t (change a t.0.atom) (change_fits t.0.atom h.0))
        (summands_fit ts h.1)

    summand_fits : (s : Term) (g : Form) → TermFits s → AllByRecursion TermFits g.terms → AllByRecursion TermFits (with_summand s g).terms
    summand_fits s g h rest = by (is_bare_one s.0)
      where
        by : (b : Bool) → AllByRecursion TermFits (if b then record g { constant = g.constant +ℤ s.1 } else record g {
          terms =
              g.terms ++ s ∷ [];
        }).terms
        by true = rest
        by false = all-append TermFits g.terms (s ∷ []) rest (h, tt)

    with_summands_fit : (ss : List Term) (g : Form) → AllByRecursion TermFits ss → AllByRecursion TermFits g.terms →
        AllByRecursion TermFits (with_summands ss g).terms
    with_summands_fit [] g h rest = rest
    with_summands_fit (s ∷ ss) g h rest = with_summands_fit ss (with_summand s g) h.1 (summand_fits s g h.0 rest)

    with_term_fits : (t : Term) (ts : List Term) → TermFits t → AllByRecursion TermFits ts → AllByRecursion TermFits (with_term t ts)
    with_term_fits t [] h rest = (h, tt)
    with_term_fits t (s ∷ ts) h rest = by (unknown_eq s.0 t.0) (with_term_fits t ts h rest.1)
      where
        by : (b : Bool) → AllByRecursion TermFits (with_term t ts) →
            AllByRecursion TermFits (if b then ((s.0, s.1 +ℤ t.1) ∷ ts) else (s ∷ with_term t ts))
        by true ih = rest
        by false ih = (rest.0, ih)

    with_terms_fit : (sums ts : List Term) → AllByRecursion TermFits sums → AllByRecursion TermFits ts →
        AllByRecursion TermFits (with_terms sums ts)
    with_terms_fit sums [] h g = h
    with_terms_fit sums (t ∷ ts) h g = with_terms_fit (with_term t sums) ts (with_term_fits t sums g.0 h) g.1

    multiples_fit : (by : ℤ) (ts : List Term) → AllByRecursion TermFits ts → AllByRecursion TermFits (map (multiple by) ts)
    multiples_fit by [] h = tt
    multiples_fit by (t ∷ ts) h = (h.0, multiples_fit by ts h.1)

    pub form_fits : (f : Form) → AllByRecursion TermFits f.terms → AllByRecursion TermFits (before_action a f).terms
    form_fits f h =
        let gains = with_summands_fit (summands a f.terms) (record { terms = []; constant = f.constant }) (summands_fit f.terms h) tt in
        all-filter TermFits is_left _ (with_terms_fit [] (f.terms ++ map (multiple (pos 1)) (gained a f).terms) tt
        (all-append TermFits f.terms (map (multiple (pos 1)) (gained a f).terms) h (multiples_fit (pos 1) (gained a f).terms gains)))
