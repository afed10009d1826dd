-- What stands behind the answer `created`.
use Rattle.std.specs.Prelude.{◌≡◌, ◌∷◌, ℕ, List, [], Option, IfSome, codes}
use Rattle.std.specs.Io.KnownBytes.{Appends}
use Rattle.acc_base.specs.declared.designs.Design.{Design}
use Rattle.acc_base.specs.Lines.{line}
use Rattle.acc_io.specs.Shelves.{Told}
use Rattle.acc_formed.specs.WellFormed.{IsWellFormed}
use Rattle.acc_commands.specs.Texts.{IsDesignText}
use Rattle.acc_print.specs.Designs.{printed}
use Rattle.acc_wal.specs.Creating.{rest_of, IsThere}
use Rattle.acc_wal.specs.Journals.{Counts}
use Rattle.acc_commands.specs.Command.TheVariants as command
use Rattle.acc_commands.specs.Words.{files_of}
use Rattle.acc_commands.specs.Files.{AreFiles}

-- The file spells this design, which is well-formed. There was no journal, and now the disk holds one of the printed design without an
-- event, byte for byte; and that is what was said.
pub record IsCreated (held : List ℕ → Told) (words : List (List ℕ)) (told told' : Option (List ℕ)) (old new : Option (List ℕ)) : Type 0
  where
    pub design : List ℕ
    pub given : AreFiles held (files_of command.Init words) (design ∷ [])
    pub d : Design
    pub is_text : IsDesignText design d
    pub formed : IsWellFormed d
    pub fresh : IfSome told (λ file. ¬ IsThere file)
    pub made : IfSome told' (λ file. file ≡ 0xA5 ∷ rest_of (printed d))
    pub counts : IfSome told' (λ file. Counts file (printed d) [])
    pub says : Appends old new (line (codes "created"))
