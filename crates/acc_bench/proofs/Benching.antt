-- What a load and a mix come to, from what each of them was.
use Rattle.std.proofs.Common.{◌≡◌, ℕ, List, refl, sym, ap, subst, ◌∙◌}
use Rattle.std.specs.Prelude.{◌==◌}
use Rattle.std.specs.List.{count_by}
use Rattle.acc_base.specs.declared.designs.Design.{Design}
use Rattle.acc_base.specs.declared.machines.Call.{Call}
use Rattle.acc_player.specs.declared.details.TheConstants.{BLOCKED, VICTIM}
use Rattle.acc_player.specs.Boards.{play_of}
use Rattle.acc_player.proofs.Wholes.{before_schedule}
use Rattle.acc_lock_rules.specs.LockRules.{with_locks}
use Rattle.acc_lock_rules.proofs.Orderly.{locks_are_orderly}
use Rattle.acc_schedule.specs.Schedules.{EndsWell}
use Rattle.acc_bench.specs.declared.results.Loaded.{Loaded}
use Rattle.acc_bench.specs.declared.results.Ran.{Ran}
use Rattle.acc_bench.specs.declared.runs.Played.{Played}
use Rattle.acc_bench.specs.Benches.{TellsLoad, ComesTo}
use Rattle.acc_bench.specs.Closings.{IsClosed}
use Rattle.acc_bench.specs.Runs.{IsLoad, IsMix, behind}
use Rattle.acc_bench.proofs.Counting.{blocked_marks, victim_marks}

pub comes_to : (d : Design) (load mix : List Call) (order : List ℕ) (loaded mixed : Played) (l : Loaded) (r : Ran)
    → IsLoad d load loaded → TellsLoad load (play_of loaded.player.world loaded.board) l
    → IsMix d mix order (play_of loaded.player.world loaded.board) mixed → IsClosed l mixed.player mixed.board r
    → ComesTo d load mix order r.loaded r.mixed r.state.world
comes_to d load mix order loaded mixed l r is_load told is_mix closed =
    let first = play_of loaded.player.world loaded.board in
    let w = mixed.player.world in
    let ended = play_of w mixed.board in
    let run = is_mix.run in
    let on =
    (before_schedule (with_locks d) (locks_are_orderly d) mix order (behind first mix) ended
    (record { mentions = run.mentions; schedules = run.schedules })).world in
    subst (ComesTo d load mix order r.loaded r.mixed) (sym closed.world)
    (record {
      loaded = first;
      mentions = run.mentions;
      ended = ended;
      loads = is_load.schedule;
      mixes = run.schedules;
      at = refl;
      load_is = subst (TellsLoad load first) (sym closed.loaded) told;
      committed = closed.mixed.committed;
      compensated = closed.mixed.compensated;
      blocked = closed.mixed.blocked ∙ ap (count_by (λ c. c == BLOCKED)) run.text_is ∙ blocked_marks d run.mentions;
      victims = closed.mixed.victims ∙ ap (count_by (λ c. c == VICTIM)) run.text_is ∙ victim_marks d run.mentions;
      begun = closed.mixed.begun;
      goes_on = (on.more, on.history);
      ends_well = subst (λ (x : Design). EndsWell x w.events w) is_mix.design closed.ends_well;
    })
