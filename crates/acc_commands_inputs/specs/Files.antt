-- Files that are read in order, up to the first that is refused.
use Rattle.std.specs.Prelude.{◌≡◌, ℕ, List, [], ◌∷◌, ◌++◌, length, codes}
use Rattle.acc_io.specs.Counted.{after_files, after_refusal}
use Rattle.acc_io.specs.Shelves.{Told, IsFile, IsRefused}
use Rattle.acc_io.specs.declared.counts.Counts.{Counts}
use Rattle.acc_io.specs.declared.shelf.ShelfError.{ShelfError}
use Rattle.acc_io.specs.declared.shelf.ShelfError.TheVariants.{Failed, Absent, Long, Memory}
use Rattle.acc_base.specs.Lines.{line}

-- each name has its file, as far as that is told
abbrev pub AreFiles : (List ℕ → Told) → List (List ℕ) → List (List ℕ) → Type 0
AreFiles held [] [] = Unit {0}
AreFiles held [] (file ∷ files) = ⊥
AreFiles held (name ∷ names) [] = ⊥
AreFiles held (name ∷ names) (file ∷ files) = IsFile (held name) file × AreFiles held names files

-- no read failed, and no file was missed: these counts are as before
abbrev pub AllGiven : Counts → Counts → Type 0
AllGiven counts counts' = (counts'.faults ≡ counts.faults) × (counts'.absences ≡ counts.absences)

-- The name is the first of the names whose file is refused, and why. The reads were one for each name before it, which gave
-- its file, and then the one that was refused.
pub record IsFirstRefused (held : List ℕ → Told) (counts counts' : Counts) (names : List (List ℕ)) (name : List ℕ)
    (error : ShelfError) : Type 0 where
  pub before : List (List ℕ)
  pub files : List (List ℕ)
  pub after : List (List ℕ)
  pub place : names ≡ before ++ name ∷ after
  pub read : AreFiles held before files
  pub counted : counts' ≡ after_refusal (after_files (length before) counts) error
  pub refused : IsRefused (held name) error

-- what is printed of a file that isn't given
abbrev pub SaysRefused : List ℕ → ShelfError → List ℕ → Type 0
SaysRefused name Failed text = text ≡ line (codes "fault read " ++ name)
SaysRefused name Absent text = text ≡ line (codes "absent " ++ name)
SaysRefused name (Long n) text = text ≡ line (codes "long " ++ name)
SaysRefused name Memory text = ⊥
