-- Whether there is room for one more call.
use Rattle.std.proofs.Common.{Result, Ok, Err, refl, arith}
use Rattle.std.specs.Prelude.{◌↔◌, IsTrue}
use Rattle.std.specs.Result.{is_ok}
use Rattle.acc_base.specs.Machine.{World}
use Rattle.acc_machine.specs.declared.errors.BeginError.{BeginError}
use Rattle.acc_machine.specs.declared.errors.BeginError.TheVariants.{Full, Crowd, Memory}
use Rattle.acc_machine.specs.Begun.{HasRoom, TellsRoom}

-- there is none where a cause against it is told
pub room_told : {A : Type 0} (w : World) (r : Result A BeginError) → TellsRoom w r → IsTrue (is_ok r) ↔ HasRoom w
room_told w (Ok done) room = (λ yes. room, λ again. refl)
room_told w (Err Full) full = (λ yes. absurd (cc), λ room. let few = room.0 in absurd (omega arith))
room_told w (Err Crowd) crowd = (λ yes. absurd (cc), λ room. let few = room.1 in absurd (omega arith))
room_told w (Err Memory) none = absurd none
