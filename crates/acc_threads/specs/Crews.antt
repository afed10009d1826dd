-- What an engine was before its workers began.
use Rattle.acc_engine.specs.Keeping.{Journalled}
use Rattle.acc_beside.specs.Serving.{Script}

-- its design and its calls, of which none is begun
abbrev pub script_of : {D : Type 0} → Journalled D → Script
script_of e = record { design = e.design; calls = e.calls; places = 0 }
