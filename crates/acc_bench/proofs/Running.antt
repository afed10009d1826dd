-- A load and a mix that have run.
use Rattle.std.proofs.Common.{◌≡◌, ℕ, List, [], refl, subst, ◌∙◌}
use Rattle.acc_base.specs.declared.designs.Design.{Design}
use Rattle.acc_base.specs.declared.machines.Call.{Call}
use Rattle.acc_base.specs.Machine.{unfinished}
use Rattle.acc_base.specs.Plays.{Play}
use Rattle.acc_player.specs.declared.details.Detail.TheVariants.{Marks}
use Rattle.acc_player.specs.Boards.{play_of}
use Rattle.acc_player.specs.Details.{mention_text}
use Rattle.acc_player.specs.Schedules.{IsRun}
use Rattle.acc_lock_rules.specs.LockRules.{with_locks}
use Rattle.acc_bench.specs.declared.runs.Played.{Played}
use Rattle.acc_bench.specs.Runs.{behind, IsOpened, IsBehind, LeavesIfFull, IsLoad, IsMix}

-- calls have run in an order, from the one play to the other
abbrev pub HaveRun : Design → List Call → Play → List ℕ → Played → Type 0
HaveRun d calls first order p =
    IsRun (with_locks d) (mention_text Marks d) calls first order p.board.text.items (play_of p.player.world p.board)

runs_from : (d x : Design) (calls others : List Call) (first start : Play) (order : List ℕ) (p : Played) → x ≡ d → others ≡ calls
    → start ≡ first → HaveRun x others start order p → HaveRun d calls first order p
runs_from d x calls others first start order p design same opens run =
    subst (λ (q : Play). HaveRun d calls q order p) opens
    (subst (λ (cs : List Call). HaveRun d cs start order p) same (subst (λ (y : Design). HaveRun y others start order p) design run))

pub loads_so : (d x : Design) (load : List Call) (opened p : Played) → IsOpened d load opened → x ≡ d
    → HaveRun x opened.player.calls (play_of opened.player.world opened.board) [] p → p.player.design ≡ opened.player.design
    → LeavesIfFull p.player.world p.board → IsLoad d load p
loads_so d x load opened p opens same run design full =
    let ran = runs_from d x load opened.player.calls _ (play_of opened.player.world opened.board) [] p same opens.calls opens.opens run in
    record {
      design = design ∙ opens.design;
      schedule = record { mentions = ran.mentions; schedules = ran.schedules };
      full = full;
    }

pub mixes_so : (d : Design) (mix : List Call) (order : List ℕ) (loaded opened p : Played) → loaded.player.design ≡ d
    → IsBehind loaded.player loaded.board mix opened → HaveRun d opened.player.calls (play_of opened.player.world opened.board) order p
    → p.player.design ≡ opened.player.design → unfinished p.player.world ≡ [] → LeavesIfFull p.player.world p.board
    → IsMix d mix order (play_of loaded.player.world loaded.board) p
mixes_so d mix order loaded opened p was opens run design over full = record {
  design = design ∙ opens.design ∙ was;
  run = runs_from d d mix opened.player.calls _ (play_of opened.player.world opened.board) order p refl opens.calls opens.opens run;
  over = over;
  full = full;
}
