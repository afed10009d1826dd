-- What a complaint in a state, or that there is none, tells of the truth of what is asserted there.
use Rattle.std.proofs.Common.{◌≡◌, ℕ, zero, suc, ◌+◌, ◌-◌, ◌<◌, ◌≤◌, List, [], ◌∷◌, ◌++◌, length, take, Option, Some, None, All, refl, sym, ap, ◌∙◌}
use Rattle.std.proofs.Common.{ℤ, subst, arith, slice_get, true, length-append, inl, inr}
use Rattle.std.specs.Prelude.{option_and_then}
use Rattle.std.proofs.lemmas.Bool.{false≢true}
use Rattle.std.proofs.lemmas.Option.{none-some, same_Some}
use Rattle.acc_base.specs.declared.tables.Row.{Row}
use Rattle.acc_base.specs.declared.forms.Clause.{Clause}
use Rattle.acc_base.specs.declared.designs.Design.{Design}
use Rattle.acc_base.specs.declared.machines.Event.{Event}
use Rattle.acc_base.specs.Assertions.{clauses_of}
use Rattle.acc_base.specs.Effects.{point_of}
use Rattle.acc_base.specs.Linear.{variables}
use Rattle.acc_base.specs.Machine.{World, unfinished, world, start, after_events, after_event}
use Rattle.acc_base.specs.Truth.{ClauseTrue}
use Rattle.acc_base.proofs.Items.{at_slice_get}
use Rattle.acc_audit_trial.specs.Trials.{FailsAt, HoldsAt}
use Rattle.acc_audit_complaints.specs.declared.searches.Complaint.{Complaint}
use Rattle.acc_audit_complaints.specs.declared.searches.Complaint.TheVariants.{False}
use Rattle.acc_audit_complaints.specs.Complaints.{Judges, IsFirstAt}
use Rattle.acc_audit_complaints.proofs.Judging.{false_shown, none_false}
use Rattle.acc_audit.specs.Audits.{IsFirstOf, IsClear, IsFirstAlways, IsFirstBehind, Complains, IsClearTo}
use Rattle.acc_audit.specs.Audits.{IsFoundAt, IsAsserted, ShowsFalse, AreInRanges, NeverFalse}
use Rattle.acc_audit.specs.Audits.IsAsserted.{always, of_frame}

-- the item between two parts of a list
between : {X : Type 0} (xs before behind : List X) (x : X) → xs ≡ before ++ x ∷ behind → slice_get xs (length before) ≡ Some x
between xs before behind x parts = ap (λ ys. slice_get ys (length before)) parts ∙ here before
  where
    here : (front : List _) → slice_get (front ++ x ∷ behind) (length front) ≡ Some x
    here [] = refl
    here (y ∷ front) = here front

-- ---- a clause that is told to be false

-- it is false
contradicts : (db : List Row) (env own : List ℤ) (c : Clause) → length own ≡ length c.vars → FailsAt db (env ++ own) c →
    ¬ ClauseTrue db env c
contradicts db env own c long fails holds = false≢true (sym fails.rel ∙ holds own long fails.guards)

-- the first clause of some with which something is wrong
record IsAmong (db : List Row) (env : List ℤ) (clauses : List Clause) (n : ℕ) (k : Complaint) : Type 0 where
  place : ℕ
  clause : Clause
  at : slice_get clauses place ≡ Some clause
  number : place + 1 ≡ n
  tells : Judges db env clause (Some k)

among : (db : List Row) (env : List ℤ) (clauses : List Clause) (n : ℕ) (k : Complaint) → IsFirstAt db env clauses n k →
    IsAmong db env clauses n k
among db env clauses n k f = record {
  place = length f.before;
  clause = f.clause;
  at = between clauses f.before f.behind f.clause f.parts;
  number = sym f.number;
  tells = f.tells;
}

module _ (d : Design) (events : List Event) (place t n : ℕ) (own : List ℤ) (w : World) (is : world d (take place events) ≡ Some w) where
  shown : (env : List ℤ) (c : Clause) → IsAsserted d w t n env c → Judges w.rows env c (Some (False own)) →
      ShowsFalse d events place t n own
  shown env c asserted judges =
      let f = false_shown w.rows env c own judges in
      record {
        state = w;
        is_state = is;
        env = env;
        clause = c;
        is_asserted = asserted;
        each_has = f.is;
        fails = f.fails;
        false = contradicts w.rows env own c f.is f.fails;
      }

  of_always : IsFirstAlways d w.rows (t, n, False own) → ShowsFalse d events place t n own
  of_always a =
      let m = among w.rows [] d.always n (False own) a.tells in
      shown [] m.clause
      (subst (λ (u : ℕ). IsAsserted d w u n [] m.clause) (sym a.number)
      (subst (λ (u : ℕ). IsAsserted d w 0 u [] m.clause) m.number (always m.place m.clause m.at))) m.tells

  of_behind : IsFirstBehind d w.rows (unfinished w) (t, n, False own) → ShowsFalse d events place t n own
  of_behind b =
      let f = b.frame.frame in
      let env = variables f.t f.locals in
      let m = among w.rows env (clauses_of (point_of d f.ty f.point)) n (False own) b.frame.tells in
      shown env m.clause
      (subst (λ (u : ℕ). IsAsserted d w u n env m.clause) (sym b.frame.number)
      (subst (λ (u : ℕ). IsAsserted d w f.t u env m.clause) m.number
      (of_frame (length b.frame.before) m.place f m.clause
      (between (unfinished w) b.frame.before b.frame.behind f b.frame.parts) m.at))) m.tells

  pub shows : Complains d w.rows (unfinished w) (t, n, False own) → ShowsFalse d events place t n own
  shows (inl a) = of_always a
  shows (inr b) = of_behind b

pub found_shows : (d : Design) (events : List Event) (place t n : ℕ) (own : List ℤ) → IsFoundAt d events place (t, n, False own) →
    ShowsFalse d events place t n own
found_shows d events place t n own f = shows d events place t n own f.state f.is_state f.complains

-- ---- no complaint

clear_holds : (d : Design) (w : World) → IsClear d w.rows (unfinished w) → (t n : ℕ) (env : List ℤ) (c : Clause) (own : List ℤ) →
    IsAsserted d w t n env c → length own ≡ length c.vars → AreInRanges w.rows env c own → HoldsAt w.rows (env ++ own) c
clear_holds d w clear t n env c own (always i b at) long ranges =
    none_false w.rows [] c (at_slice_get (λ x. Judges w.rows [] x None) d.always i c clear.always at) own long ranges
clear_holds d w clear t n env c own (of_frame j i f b is at) long ranges =
    let first = at_slice_get (λ g. IsFirstOf d w.rows g None) (unfinished w) j f clear.each is in
    none_false w.rows (variables f.t f.locals) c
    (at_slice_get (λ x. Judges w.rows (variables f.t f.locals) x None) (clauses_of (point_of d f.ty f.point)) i c first at) own long ranges

pub clear_never : (d : Design) (events : List Event) → IsClearTo d events (length events) → NeverFalse d events
clear_never d events clear k w t n env c own from within is asserted long ranges =
    let at = clear k from within in
    let same : at.state ≡ w = same_Some at.state w (sym at.is_state ∙ is) in
    clear_holds d w (subst (λ (x : World). IsClear d x.rows (unfinished x)) same at.clear) t n env c own asserted long ranges

-- ---- no run

after_both : (d : Design) (w : World) (xs ys : List Event) → after_events d w xs ≡ None → after_events d w (xs ++ ys) ≡ None
after_both d w [] ys h = absurd (none-some w (sym h))
after_both d w (x ∷ xs) ys h = by (after_event d w x) h (λ v g. after_both d v xs ys g)
  where
    by : (o : Option World) → option_and_then (λ v. after_events d v xs) o ≡ None →
        ((v : World) → after_events d v xs ≡ None → after_events d v (xs ++ ys) ≡ None) →
        option_and_then (λ v. after_events d v (xs ++ ys)) o ≡ None
    by None h ih = refl
    by (Some v) h ih = ih v h

take_drop : {X : Type 0} (n : ℕ) (xs : List X) → xs ≡ take n xs ++ Rattle.std.proofs.Common.drop n xs
take_drop zero xs = refl
take_drop (suc n) [] = refl
take_drop (suc n) (x ∷ xs) = ap (λ ys. x ∷ ys) (take_drop n xs)

pub no_run : (d : Design) (events : List Event) (n : ℕ) → world d (take n events) ≡ None → world d events ≡ None
no_run d events n h =
    ap (world d) (take_drop n events) ∙ after_both d start (take n events) (Rattle.std.proofs.Common.drop n events) h

pub parted : {X : Type 0} (n : ℕ) (xs : List X) → xs ≡ take n xs ++ Rattle.std.proofs.Common.drop n xs
parted n xs = take_drop n xs
