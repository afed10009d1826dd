-- What a step that goes on or ends leaves: rows in order, few and near 0, and the locals of a frame.
use Rattle.std.proofs.Common.{◌≡◌, ℕ, ◌+◌, ◌*◌, ◌≤◌, ◌^◌, List, [], ◌∷◌, length, arith, Some, ℤ, subst, refl}
use Rattle.std.specs.Prelude.{All}
use Rattle.std.proofs.lemmas.Option.{same_Some}
use Rattle.acc_base.specs.declared.tables.Row.{Row}
use Rattle.acc_base.specs.declared.steps.Action.{Action}
use Rattle.acc_base.specs.declared.steps.Target.{Target}
use Rattle.acc_base.specs.declared.designs.Design.{Design}
use Rattle.acc_base.specs.declared.designs.Side.{Side}
use Rattle.acc_base.specs.declared.machines.Frame.{Frame}
use Rattle.acc_base.specs.Numbers.{IsSmall}
use Rattle.acc_base.specs.Tables.{IsInOrder}
use Rattle.acc_base.specs.Linear.{variables}
use Rattle.acc_base.specs.Reads.{Reading, unread}
use Rattle.acc_base.specs.Actions.{after_action, after_actions}
use Rattle.acc_base.specs.Effects.{Goes, effect_of}
use Rattle.acc_base.specs.Runnable.{CanGo, IsRunnable, IsSmallFrame}
use Rattle.acc_base.proofs.Items.{at_slice_get}
use Rattle.acc_base.proofs.ActionRuns.{goes_on, actions_in_order, length-actions}
use Rattle.acc_base.proofs.ReadRuns.{reads_leave}
use Rattle.acc_base.proofs.EffectParts.{parts}
use Rattle.acc_base.proofs.Runnables.{step_can}
use Rattle.acc_store.specs.Bounds.{AreWithin}
use Rattle.acc_step.proofs.Bounds.{within_weaker, action_within}

-- each action takes the values at most 2^45 farther from 0
pub actions_within : (side : Side) (env : List ℤ) (acts : List Action) (m : ℕ) (db after : List Row) → 2 ^ 45 ≤ m →
    after_actions side env acts db ≡ Some after → AreWithin m db → AreWithin (m + length acts * 2 ^ 45) after
actions_within side env [] m db after large e h =
    within_weaker m (m + 0 * 2 ^ 45) (omega arith) after (subst (AreWithin m) (same_Some db after e) h)
actions_within side env (a ∷ rest) m db after large e h =
    let g = goes_on side env a rest db after e in
    within_weaker ((m + 2 ^ 45) + length rest * 2 ^ 45) (m + length (a ∷ rest) * 2 ^ 45) (omega arith) after
    (actions_within side env rest (m + 2 ^ 45) (after_action env a db) after (omega arith) g.rest_goes
    (action_within env m large a db g.small h))

-- from at most n rows, each of whose values is within m of 0
pub record StepLeaves (n m : ℕ) (f : Frame) (after : List Row) (s : Reading) : Type 0 where
  pub order : IsInOrder after
  pub few : length after ≤ n + 16
  pub within : AreWithin (m + 16 * 2 ^ 45) after
  pub small : All IsSmall s.locals
  pub kept : length s.locals ≡ length f.locals
  pub at : f.pos ≤ length f.tape → s.at ≤ length f.tape

pub goes_leaves : (d : Design) (db : List Row) (f : Frame) (side : Side) (after : List Row) (s : Reading) (i : ℕ) (to : Target) (n m : ℕ) →
    effect_of d db f side ≡ Goes after s i to → IsRunnable d → IsSmallFrame f → IsInOrder db → length db ≤ n → AreWithin m db → 2 ^ 45 ≤ m →
    StepLeaves n m f after s
goes_leaves d db f side after s i to n m e runnable fits order few within large =
    let by = parts after s i to d db f side e in
    let env = variables f.t s.locals in
    let can = step_can d f.ty f.point side by.step runnable by.is_step in
    let path = at_slice_get (CanGo side) by.step.paths i by.path can.paths by.is_path in
    let short = path.few in
    let long = length-actions side env by.path.actions db after by.actions in
    let read = reads_leave db f by.step.reads (unread f) s by.reads (record { kept = refl; small = fits.locals; at = λ q. q }) in
    record {
      order = actions_in_order side env by.path.actions db after by.actions order;
      few = omega arith;
      within = within_weaker (m + length by.path.actions * 2 ^ 45) (m + 16 * 2 ^ 45) (omega arith) after
          (actions_within side env by.path.actions m db after large by.actions within);
      small = read.small;
      kept = read.kept;
      at = read.at;
    }
