use Rattle.std.proofs.Common.{◌≡◌, length, take, map, string_bytes}
use Rattle.acc_io.specs.Counted.{after_files}
use Rattle.acc_commands_inputs.specs.Files.{AreFiles, AllGiven}
use Rattle.acc_commands_inputs.proofs.files.read_all.Given as goal
use Rattle.acc_commands_inputs.proofs.FilesLemmas.{SoFar}

abbrev pub invariant-loop-name : goal.invariant-loop-name
invariant-loop-name g l = SoFar (length l.files.items ≡ l.name-index)
    (g.H.Shelf.held l.shelf ≡ g.H.Shelf.held l.initial.shelf)
    (g.H.Shelf.counts l.shelf ≡ after_files l.name-index (g.H.Shelf.counts l.initial.shelf))
    (AllGiven (g.H.Shelf.counts l.initial.shelf) (g.H.Shelf.counts l.shelf))
    (AreFiles (g.H.Shelf.held l.initial.shelf) (map string_bytes (take l.name-index l.names)) (map (λ v. v.items) l.files.items))
