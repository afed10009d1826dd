-- How `bench` ends, where nothing is refused.
use Rattle.std.proofs.Common.{◌≡◌, ◌≢◌, ◌≤◌, ℕ, Bool, true, false, List, ◌++◌, length, Option, None, Some, inl, inr, refl, sym, ap, subst, ◌∙◌, arith}
use Rattle.std.specs.Prelude.{◌&&◌}
use Rattle.std.proofs.lemmas.List.{length-append}
use Rattle.acc_base.specs.declared.bounds.TheConstants.{MOST_EVENTS}
use Rattle.acc_base.specs.declared.designs.Design.{Design}
use Rattle.acc_base.specs.declared.machines.Call.{Call}
use Rattle.acc_base.specs.declared.machines.Event.{Event}
use Rattle.acc_base.specs.Machine.{World}
use Rattle.acc_commands_files.specs.BenchFiles.{order_of, SaysOfMix, SaysOfLoad, SaysOfTables, BenchesCertified, BenchesFiles}
use Rattle.acc_bench.specs.Answers.{ending_by, bench_ending}
use Rattle.acc_bench.specs.Benches.{ComesTo, Benches}
use Rattle.acc_bench.specs.Conditions.{IsLowest, IsLowestFalse}
use Rattle.acc_bench.specs.declared.results.Benched.{Benched}
use Rattle.acc_bench.specs.declared.results.FalseCondition.{FalseCondition}
use Rattle.acc_bench.specs.declared.results.Loaded.{Loaded}
use Rattle.acc_bench.specs.declared.results.Mixed.{Mixed}
use Rattle.acc_commands_files.specs.Mix.{Mix}
use Rattle.acc_commands_files.specs.Schedules.{TellsBegun}
use Rattle.acc_commands_files.specs.Workloads.{load_said}
use Rattle.acc_commands_files.proofs.OneBench.{not_consistent}
use Rattle.acc_journalled.specs.Conditions.{AreConsistent}
use Rattle.acc_journalled.specs.declared.answers.Ending.{Ending}
use Rattle.acc_journalled.specs.declared.answers.Ending.TheVariants.{Done, DesignRefused, ScriptRefused, Unbegun, ConditionFalse}
use Rattle.acc_journalled.specs.Tellings.{Telling}
use Rattle.acc_commands_journals.specs.Command.{Command}
use Rattle.acc_commands_journals.specs.Command.TheVariants as command
use Rattle.acc_commands_journals.specs.Text.{Said, said_in}
use Rattle.acc_commands_journals.proofs.JournalEndings.{refusal_ends}
use Rattle.acc_script.specs.CallLines.{IsScript}
use Rattle.tpcc_tables.specs.Schema.{IsSchemaOf}
use Rattle.tpcc_tables.specs.declared.tables.TableSet.{TableSet}
use Rattle.acc_commands.specs.Overs.{IsRunOf, RunsBench, LeavesBench, BenchFindsFalse}

-- ---- what ends otherwise than by a refusal ran

module _ (other : Ending) (design_other : DesignRefused ≢ other) (script_other : ScriptRefused ≢ other) (m : Mix) (said : Said)
    (so : said.ending ≡ other) where
  module _ (d : Design) where
    of_mix : (s : TableSet) → IsSchemaOf s d → (load : List Call) → IsScript d (load_said m.scale) load → SaysOfMix d s m load said
        → IsRunOf m d said
    of_mix s schema load is_load (inl h) = absurd (script_other (sym h.says.0 ∙ so))
    of_mix s schema load is_load (inr h) = record {
      tables = s;
      schema = schema;
      load = load;
      is_load = is_load;
      calls = h.calls;
      is_mix = h.is_script;
      says = h.says;
    }

    of_load : (s : TableSet) → IsSchemaOf s d → SaysOfLoad d s m said → IsRunOf m d said
    of_load s schema (inl h) = absurd (script_other (sym h.says.0 ∙ so))
    of_load s schema (inr h) = of_mix s schema h.calls h.is_script h.says

    of_tables : SaysOfTables d m said → IsRunOf m d said
    of_tables (inl h) = absurd (design_other (sym h.says.0 ∙ so))
    of_tables (inr h) = of_load h.tables h.schema h.says

    pub certified_run : (certificate : List ℕ) → BenchesCertified d certificate m said → IsRunOf m d said
    certified_run certificate (inl h) = absurd (design_other (sym h.ending ∙ so))
    certified_run certificate (inr h) = of_tables h.says

  pub runs_bench : (design certificate : List ℕ) → BenchesFiles m design certificate said → RunsBench (command.Bench m) said
  runs_bench design certificate (inl h) = absurd (design_other (sym (refusal_ends design said h) ∙ so))
  runs_bench design certificate (inr h) =
      record { mix = m; is_bench = refl; d = h.d; run = certified_run h.d certificate h.says }

-- ---- how it ends

left_by : (against : Option FalseCondition) (all : Bool) → ending_by against all ≡ Unbegun → (against ≡ None) × (all ≡ false)
left_by (Some f) all e = absurd cc
left_by None true e = absurd cc
left_by None false e = (refl, refl)

false_by : (against : Option FalseCondition) (all : Bool) → ending_by against all ≡ ConditionFalse
    → (f : FalseCondition) × (against ≡ Some f)
false_by (Some f) all e = (f, refl)
false_by None true e = absurd cc
false_by None false e = absurd cc

not_by : (other : Ending) → Done ≢ other → Unbegun ≢ other → ConditionFalse ≢ other → (against : Option FalseCondition) (all : Bool)
    → ending_by against all ≢ other
not_by other done unbegun judged (Some f) all e = judged e
not_by other done unbegun judged None true e = done e
not_by other done unbegun judged None false e = unbegun e

-- where one couldn't begin, the history is full
full_by : (a b : Bool) (one other : List (Option ℕ)) (early more all : List Event) → (a && b) ≡ false → TellsBegun a one early
    → TellsBegun b other all → all ≡ early ++ more → MOST_EVENTS ≤ length all
full_by true true one other early more all e h k on = absurd cc
full_by true false one other early more all e h k on = k.1
full_by false b one other early more all e h k on =
    let full = h.1 in
    let whole : length all ≡ length (early ++ more) = ap length on in
    omega (arith, full, whole, length-append early more)

full_when : (d : Design) (load calls : List Call) (order : List ℕ) (l : Loaded) (m : Mixed) (w : World)
    → ComesTo d load calls order l m w → (l.all_begun && m.all_begun) ≡ false → MOST_EVENTS ≤ length w.events
full_when d load calls order l m w h e =
    full_by l.all_begun m.all_begun h.loaded.numbers h.ended.numbers h.loaded.world.events h.goes_on.0 w.events e h.load_is.begun h.begun
    h.goes_on.1

pub finds_lowest : (s : TableSet) (d : Design) (load calls : List Call) (order : List ℕ) (b : Benched)
    (h : Benches s d load calls order b) → bench_ending b ≡ ConditionFalse
    → (f : FalseCondition) × IsLowestFalse s h.world.rows f × ¬ AreConsistent s h.world.rows
finds_lowest s d load calls order b h so =
    let found = false_by b.against (b.loaded.all_begun && b.mixed.all_begun) so in
    let lowest : IsLowestFalse s h.world.rows found.0 = subst (IsLowest s h.world.rows) found.1 h.against in
    (found.0, lowest, not_consistent s h.world.rows found.0 lowest)

module _ (c : Command) (t : Telling) (runs : RunsBench c (said_in t)) where
  pub never_bench : (other : Ending) → Done ≢ other → Unbegun ≢ other → ConditionFalse ≢ other → t.ending ≡ other → ⊥
  never_bench other done unbegun judged so =
      let b = runs.run.says.benched in
      not_by other done unbegun judged b.against (b.loaded.all_begun && b.mixed.all_begun) (sym runs.run.says.ending ∙ so)

  pub leaves_bench : t.ending ≡ Unbegun → LeavesBench c t
  leaves_bench so =
      let run = runs.run in
      let says = run.says in
      let b = says.benched in
      let left = left_by b.against (b.loaded.all_begun && b.mixed.all_begun) (sym says.ending ∙ so) in
      let w = says.comes.world in
      let full = full_when runs.d run.load run.calls (order_of runs.mix) b.loaded b.mixed w says.comes.comes left.1 in
      record {
        runs = runs;
        not_all = left.1;
        full = subst (λ (h : List Event). MOST_EVENTS ≤ length h) (sym says.comes.history ∙ sym says.history) full;
        all_true = subst (IsLowest run.tables w.rows) left.0 says.comes.against;
      }

  pub bench_finds_false : t.ending ≡ ConditionFalse → BenchFindsFalse c t
  bench_finds_false so =
      let run = runs.run in
      let says = run.says in
      let found =
      finds_lowest run.tables runs.d run.load run.calls (order_of runs.mix) says.benched says.comes (sym says.ending ∙ so) in
      record { runs = runs; found = found.0; is_lowest = found.1; not_all = found.2 }
