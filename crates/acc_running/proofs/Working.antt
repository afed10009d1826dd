-- Where workers left off, behind a recovered state.
use Rattle.std.proofs.Common.{◌≡◌, ◌≤◌, ◌∙◌, ℕ, List, length, Option, refl, ap, subst}
use Rattle.std.specs.Prelude.{take}
use Rattle.acc_base.specs.declared.designs.Design.{Design}
use Rattle.acc_base.specs.declared.machines.Call.{Call}
use Rattle.acc_base.specs.Machine.{World}
use Rattle.acc_base.specs.Plays.{Play}
use Rattle.acc_crew.specs.Works.{BeginsFirst}
use Rattle.acc_engine.specs.Keeping.{Journalled}
use Rattle.acc_engine.specs.Standing.{IsSound}
use Rattle.acc_engine.specs.Surviving.{Survives}
use Rattle.acc_settling.specs.Workers.{worked, HasBegunFirst, IsWorked}
use Rattle.acc_running.specs.Running.{WorkersLeave}
use Rattle.acc_running.proofs.Recording.{Begins, calls_are, history_is, run}
use Rattle.acc_running.proofs.OverJournals.{ends_so}

module _ {D : Type 0} (clock : D → ℕ) (left_since : D → ℕ → List ℕ → Type 0) (told : D → Option (List ℕ)) (may_leave : D → List ℕ → Type 0)
    (count : D → ℕ) (old new : Journalled D) (s : Survives clock left_since told may_leave count old new)
    (first_begun : BeginsFirst new.calls new.begun s.goes_on.more) (before : ℕ) where
  -- the play that they left
  abbrev pub opened_of : Play
  opened_of = worked before first_begun.count new.state new.calls

  pub has_begun : HasBegunFirst new
  has_begun = record { count = first_begun.count; within = first_begun.within; marked = first_begun.marked }

  pub is_worked : IsWorked before new opened_of
  unfolding has_begun
  is_worked = record { begun = has_begun; is = refl }

  pub left_so : (d : Design) (calls : List Call) (first : World) → Begins d calls first old → IsSound told new
      → before ≡ length old.state.transactions → WorkersLeave d calls first opened_of
  left_so d calls first b sound is =
      let ends = ends_so told new sound in
      let are = calls_are d calls first old new b s.goes_on s.settled ends in
      record {
        more = s.goes_on.more;
        history = history_is d calls first old new b s.goes_on s.settled ends;
        run = run d calls first old new b s.goes_on s.settled ends;
        count = first_begun.count;
        within = subst (λ (cs : List Call). first_begun.count ≤ length cs) are first_begun.within;
        begun = first_begun.begun ∙ ap (take first_begun.count) are;
        is =
            ap (λ (n : ℕ). worked n first_begun.count new.state new.calls) (is ∙ ap (λ (w : World). length w.transactions) b.state)
            ∙ ap (worked (length first.transactions) first_begun.count new.state) are;
      }
