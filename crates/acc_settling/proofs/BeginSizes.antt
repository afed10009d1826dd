-- The events Begin of calls take as many bytes in a journal as a script's reading says.
use Rattle.std.proofs.Common.{◌≡◌, List, [], ◌∷◌, length, refl, arith, length-append}
use Rattle.std.specs.Prelude.{map}
use Rattle.std.proofs.lemmas.List.Sums.{sum_by-cons}
use Rattle.acc_base.specs.declared.machines.Call.{Call}
use Rattle.acc_base.specs.declared.machines.Event.TheVariants.{Begin}
use Rattle.acc_wal.specs.Spellings.{body, event_bytes}
use Rattle.acc_wal.proofs.Lengths.{length_of_call}
use Rattle.acc_script.specs.BeginSizes.{begin_size, begins_size}
use Rattle.acc_engine.specs.Keeping.{begin_of}

size_of_begin : (call : Call) → length (event_bytes (Begin call)) ≡ begin_size call
unfolding event_bytes
size_of_begin call = omega (arith, length_of_call call)

pub begins_take : (calls : List Call) → length (body (map begin_of calls)) ≡ begins_size calls
unfolding body
begins_take [] = refl
begins_take (call ∷ calls) =
    omega (
      arith,
      begins_take calls,
      size_of_begin call,
      sum_by-cons begin_size call calls,
      length-append (event_bytes (Begin call)) (body (map begin_of calls)),
    )
