-- One thing comes of a load and a mix behind it.
use Rattle.std.proofs.Common.{◌≡◌, ◌≢◌, ◌<◌, ◌≤◌, ◌+◌, ◌-◌, ℕ, Bool, true, false, List, [], length, Option, None, Some, refl, sym, ap, subst, ◌∙◌}
use Rattle.std.proofs.Common.{inl, inr, arith}
use Rattle.std.specs.Prelude.{IsSome, count_by}
use Rattle.std.proofs.lemmas.Option.{same_Some, none-some}
use Rattle.acc_base.proofs.Items.{at_slice_get}
use Rattle.acc_base.specs.declared.designs.Design.{Design}
use Rattle.acc_base.specs.declared.machines.Call.{Call}
use Rattle.acc_base.specs.declared.machines.Event.{Event}
use Rattle.acc_base.specs.declared.tables.Row.{Row}
use Rattle.acc_base.specs.Machine.{World}
use Rattle.acc_base.specs.Plays.{Play, Told, opening}
use Rattle.acc_bench.specs.Answers.{bench_text, bench_ending}
use Rattle.acc_bench.specs.Benches.{ComesTo, Benches}
use Rattle.acc_bench.specs.Conditions.{IsLowestFalse, IsLowest}
use Rattle.acc_bench.specs.Counts.{commits, compensates, is_blocked, turns_victim}
use Rattle.acc_bench.specs.Runs.{behind}
use Rattle.acc_bench.specs.declared.results.Benched.{Benched}
use Rattle.acc_bench.specs.declared.results.FalseCondition.{FalseCondition}
use Rattle.acc_bench.specs.declared.results.Loaded.{Loaded}
use Rattle.acc_bench.specs.declared.results.Mixed.{Mixed}
use Rattle.acc_commands_inputs.specs.Text.{Said}
use Rattle.acc_commands_inputs.specs.declared.scales.Mix.{Mix}
use Rattle.acc_journalled.specs.Conditions.{false_key, AreConsistent, EndsByRows, ending_by}
use Rattle.acc_journalled.proofs.Verdicts.{ends_by_rows}
use Rattle.acc_lock_rules.specs.LockRules.{with_locks}
use Rattle.acc_lock_rules.proofs.Orderly.{locks_are_orderly}
use Rattle.acc_player.specs.Schedules.{Schedules}
use Rattle.acc_player.proofs.Wholes.{one_schedule}
use Rattle.acc_schedule.specs.Schedules.{TellsBegun}
use Rattle.tpcc_tables.specs.declared.tables.TableSet.{TableSet}
use Rattle.acc_commands_files.specs.BenchFiles.{SaysBench, order_of}

-- ---- the lowest condition that is false

module _ (s : TableSet) (db : List Row) where
  -- where one is false, not all are true
  pub not_consistent : (f : FalseCondition) → IsLowestFalse s db f → ¬ AreConsistent s db
  not_consistent f h = by (ends_by_rows s db false (f.number - 1, few, some))
    where
      place : f.number - 1 + 1 ≡ f.number
      place = let from = h.from in omega (arith, from)

      few : f.number - 1 < 9
      few = let from = h.from in let to : f.number ≤ 9 = h.to in omega (arith, from, to)

      some : false_key s db (f.number - 1 + 1) ≢ None
      some none = none-some f.key (sym none ∙ ap (false_key s db) place ∙ h.here)

      by : EndsByRows s db (ending_by false) → ¬ AreConsistent s db
      by (inl e) = let h = e.0 in absurd cc
      by (inr e) = e.1

  -- and none below the lowest is false
  not_below : (f g : FalseCondition) → IsLowestFalse s db f → IsLowestFalse s db g → ¬ (f.number < g.number)
  not_below f g h k less =
      let from = h.from in
      let place : f.number - 1 + 1 ≡ f.number = omega (arith, from) in
      let none : false_key s db f.number ≡ None =
      subst (λ (n : ℕ). false_key s db n ≡ None) place (k.lower (f.number - 1) (omega (arith, from, less))) in
      none-some f.key (sym none ∙ h.here)

  lowest_once : (f g : Option FalseCondition) → IsLowest s db f → IsLowest s db g → f ≡ g
  lowest_once None None h k = refl
  lowest_once None (Some g) h k = absurd (not_consistent g k h)
  lowest_once (Some f) None h k = absurd (not_consistent f h k)
  lowest_once (Some f) (Some g) h k =
      let below = not_below f g h k in
      let above = not_below g f k h in
      let number : f.number ≡ g.number = omega (arith, below, above) in
      let key = same_Some f.key g.key (sym h.here ∙ ap (false_key s db) number ∙ k.here) in
      λ i. Some (record { number = number i; key = key i })

-- ---- what is told of a load and a mix

begun_once : (numbers : List (Option ℕ)) (history : List Event) (a b : Bool) → TellsBegun a numbers history → TellsBegun b numbers history
    → a ≡ b
begun_once numbers history true true h k = refl
begun_once numbers history true false h k = let some = at_slice_get IsSome numbers k.0.0 None h k.0.1 in absurd cc
begun_once numbers history false true h k = let some = at_slice_get IsSome numbers h.0.0 None k h.0.1 in absurd cc
begun_once numbers history false false h k = refl

module _ (d : Design) (load calls : List Call) (order : List ℕ) where
  comes_once : (l k : Loaded) (m n : Mixed) (w v : World) → ComesTo d load calls order l m w → ComesTo d load calls order k n v
      → (l ≡ k) × (m ≡ n) × (w ≡ v)
  comes_once l k m n w v x y =
      let first : x.loaded ≡ y.loaded =
      (one_schedule (with_locks d) (locks_are_orderly d) load (opening load) [] x.loads.mentions y.loads.mentions x.loaded y.loaded
      x.loads.schedules y.loads.schedules).1 in
      let mixes : Schedules (with_locks d) calls (behind y.loaded calls) order x.mentions x.ended =
      subst (λ (p : Play). Schedules (with_locks d) calls (behind p calls) order x.mentions x.ended) first x.mixes in
      let same =
      one_schedule (with_locks d) (locks_are_orderly d) calls (behind y.loaded calls) order x.mentions y.mentions x.ended y.ended mixes
      y.mixes in
      let world : w ≡ v = x.at ∙ ap (λ (p : Play). p.world) same.1 ∙ sym y.at in
      let places : l.places ≡ k.places = x.load_is.places ∙ sym y.load_is.places in
      let events : l.events ≡ k.events =
      x.load_is.events ∙ ap (λ (p : Play). length p.world.events) first ∙ sym y.load_is.events in
      let all_loaded =
      begun_once y.loaded.numbers y.loaded.world.events l.all_begun k.all_begun
      (subst (λ (p : Play). TellsBegun l.all_begun p.numbers p.world.events) first x.load_is.begun) y.load_is.begun in
      let committed : m.committed ≡ n.committed =
      x.committed ∙ (λ i. count_by (commits (world i)) (same.1 i).numbers) ∙ sym y.committed in
      let compensated : m.compensated ≡ n.compensated =
      x.compensated ∙ (λ i. count_by (compensates (world i)) (same.1 i).numbers) ∙ sym y.compensated in
      let blocked : m.blocked ≡ n.blocked = x.blocked ∙ ap (count_by is_blocked) same.0 ∙ sym y.blocked in
      let victims : m.victims ≡ n.victims = x.victims ∙ ap (count_by turns_victim) same.0 ∙ sym y.victims in
      let begun : TellsBegun m.all_begun y.ended.numbers v.events =
      subst (λ (u : World). TellsBegun m.all_begun y.ended.numbers u.events) world
      (subst (λ (p : Play). TellsBegun m.all_begun p.numbers w.events) same.1 x.begun) in
      let all_mixed = begun_once y.ended.numbers v.events m.all_begun n.all_begun begun y.begun in (
        λ i. record { places = places i; events = events i; all_begun = all_loaded i },
        λ i. record {
          committed = committed i;
          compensated = compensated i;
          blocked = blocked i;
          victims = victims i;
          all_begun = all_mixed i;
        },
        world,
      )

  bench_once : (s : TableSet) (a b : Benched) → Benches s d load calls order a → Benches s d load calls order b → a ≡ b
  bench_once s a b x y =
      let same = comes_once a.loaded b.loaded a.mixed b.mixed x.world y.world x.comes y.comes in
      let history : a.history ≡ b.history = x.history ∙ ap (λ (w : World). w.events) same.2 ∙ sym y.history in
      let against =
      lowest_once s y.world.rows a.against b.against (subst (λ (w : World). IsLowest s w.rows a.against) same.2 x.against) y.against in
      λ i. record { loaded = same.0 i; mixed = same.1 i; history = history i; against = against i }

-- and so one thing is said of them
pub one_bench : (d : Design) (s : TableSet) (m : Mix) (load calls : List Call) (a b : Said) → SaysBench d s m load calls a
    → SaysBench d s m load calls b → a ≡ b
one_bench d s m load calls a b h k =
    let same = bench_once d load calls (order_of m) s h.benched k.benched h.comes k.comes in
    λ i. record {
      ending = (h.ending ∙ ap bench_ending same ∙ sym k.ending) i;
      text = (h.text ∙ ap bench_text same ∙ sym k.text) i;
      history = (h.history ∙ ap (λ (x : Benched). x.history) same ∙ sym k.history) i;
    }
