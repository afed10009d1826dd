-- Recovering a design's journal, and telling which consistency conditions of TPC-C are true of the recovered rows.
use Rattle.std.specs.Prelude.{◌≡◌, ◌⊎◌, ℕ, List, Option, Some}
use Rattle.acc_base.specs.Machine.{World}
use Rattle.acc_base.specs.declared.designs.Design.{Design}
use Rattle.acc_io.specs.Causes.{Rose}
use Rattle.tpcc_tables.specs.declared.tables.TableSet.{TableSet}
use Rattle.acc_journalled.specs.Conditions.{conditions_text, EndsByRows}
use Rattle.acc_journalled.specs.Recovering.{Recovers, EndsUntold, done_with}
use Rattle.acc_journalled.specs.Tellings.{Telling}

-- what is told of a recovered state: a line for each condition
abbrev pub verdicts_text : TableSet → World → ℕ → List ℕ
verdicts_text s w compensated = conditions_text s w.rows

-- The journal is recovered, and a line for each condition tells whether it is true of the recovered rows. It ends as done where each is,
-- and else so that one is false.
pub record Verifies (s : TableSet) (d : Design) (told told' : Option (List ℕ)) (t : Telling) : Type 0 where
  pub recovers : Recovers (verdicts_text s) d told told' (done_with t.text t.history t.settled)
  pub ending : EndsByRows s recovers.last.rows t.ending

-- or it isn't recovered, for some cause, or the disk failed behind the recovery
abbrev pub VerifiesJournal : TableSet → Design → Option (List ℕ) → Option (List ℕ) → Type 0 → Telling → Type 0
VerifiesJournal s d told told' fault t = Verifies s d told told' t ⊎ EndsUntold d told told' fault t

-- of a disk that tells its bytes this says one thing, where none of its calls fails
abbrev pub VerifyingSaysOne : Type 0
VerifyingSaysOne = (s : TableSet) (d : Design) (file : List ℕ) (one other : Option (List ℕ)) (p q r u : ℕ) (a b : Telling)
    → ¬ Rose p q → ¬ Rose r u
    → VerifiesJournal s d (Some file) one (Rose p q) a → VerifiesJournal s d (Some file) other (Rose r u) b → a ≡ b
