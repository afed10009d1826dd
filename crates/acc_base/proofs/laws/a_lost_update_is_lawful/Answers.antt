use Rattle.std.proofs.Common.{refl, arith}
use Rattle.std.specs.Prelude.{pos}
use Rattle.acc_base.specs.declared.machines.Event.TheVariants.{Begin, Step}
use Rattle.acc_base.specs.Machine.{World, start, after_event}
use Rattle.acc_base.specs.Cells.{cells, call_of}
use Rattle.acc_base.proofs.LawfulRuns.{left, free_cells}
use Rattle.acc_base.proofs.laws.a_lost_update_is_lawful.Goals as goal

abbrev w1 : World
w1 = left (after_event cells start (Begin (call_of 0 (pos 1))))

abbrev w2 : World
w2 = left (after_event cells w1 (Step 1))

abbrev w3 : World
w3 = left (after_event cells w2 (Begin (call_of 1 (pos 1))))

abbrev w4 : World
w4 = left (after_event cells w3 (Step 2))

abbrev w5 : World
w5 = left (after_event cells w4 (Begin (call_of 1 (pos 1))))

abbrev w6 : World
w6 = left (after_event cells w5 (Step 3))

abbrev w7 : World
w7 = left (after_event cells w6 (Step 2))

abbrev w8 : World
w8 = left (after_event cells w7 (Step 3))

pub returns : goal.returns
returns c = (
  w8,
  (
    w1,
    record { leave = (omega arith, omega arith); event = refl },
    (
      w2,
      record { leave = λ f is. free_cells w1 f; event = refl },
      (
        w3,
        record { leave = (omega arith, omega arith); event = refl },
        (
          w4,
          record { leave = λ f is. free_cells w3 f; event = refl },
          (
            w5,
            record { leave = (omega arith, omega arith); event = refl },
            (
              w6,
              record { leave = λ f is. free_cells w5 f; event = refl },
              (
                w7,
                record { leave = λ f is. free_cells w6 f; event = refl },
                (w8, record { leave = λ f is. free_cells w7 f; event = refl }, refl),
              ),
            ),
          ),
        ),
      ),
    ),
  ),
)
