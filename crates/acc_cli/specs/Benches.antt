-- What stands behind the answers of `bench`.
use Rattle.std.specs.Prelude.{◌≡◌, ◌≢◌, ◌⊎◌, ℕ, List, [], ◌∷◌, Option}
use Rattle.std.specs.Io.KnownBytes.{Appends}
use Rattle.acc_base.specs.declared.designs.Design.{Design}
use Rattle.acc_base.specs.declared.machines.Call.{Call}
use Rattle.acc_base.specs.declared.machines.Event.{Event}
use Rattle.acc_bench.specs.Answers.{bench_text, bench_ending}
use Rattle.acc_bench.specs.Benches.{Benches}
use Rattle.acc_bench.specs.declared.results.Benched.{Benched}
use Rattle.acc_io.specs.Shelves.{Told}
use Rattle.acc_io.specs.Sinks.{WritesFront}
use Rattle.acc_script.specs.CallLines.{IsScript}
use Rattle.tpcc_tables.specs.Schema.{IsSchemaOf}
use Rattle.tpcc_tables.specs.declared.tables.TableSet.{TableSet}
use Rattle.acc_journalled.specs.declared.answers.Ending.TheVariants.{Done}
use Rattle.acc_commands.specs.Admissions.{IsAcceptedWith}
use Rattle.acc_commands.specs.BenchFiles.{order_of}
use Rattle.acc_commands.specs.Command.TheVariants as command
use Rattle.acc_commands.specs.Files.{AreFiles}
use Rattle.acc_commands.specs.Mix.{Mix}
use Rattle.acc_commands.specs.Texts.{IsDesignText}
use Rattle.acc_commands.specs.Words.{files_of}
use Rattle.acc_commands.specs.Workloads.{load_said, mix_said}
use Rattle.acc_cli.specs.Status.{code_of}
use Rattle.acc_cli.specs.declared.status.Status.TheVariants.{Ran}

-- The files spell this design, which is accepted with its certificate and has TPC-C's tables, and the scripts of the load and of the mix
-- have these calls over it. The load ran from the start, and the mix behind it in its order, and this came of them: the history is theirs.
-- The status is that by which they end, or 7 where all was done; the three lines were said, or a front of them, and with 0 the whole.
pub record IsBenched (held : List ℕ → Told) (words : List (List ℕ)) (m : Mix) (old new : Option (List ℕ)) (code : ℕ)
    (history : List Event) : Type 0 where
  pub design : List ℕ
  pub certificate : List ℕ
  pub given : AreFiles held (files_of (command.Bench m) words) (design ∷ certificate ∷ [])
  pub d : Design
  pub is_text : IsDesignText design d
  pub accepted : IsAcceptedWith d certificate
  pub tables : TableSet
  pub schema : IsSchemaOf tables d
  pub load : List Call
  pub is_load : IsScript d (load_said m.scale) load
  pub calls : List Call
  pub is_mix : IsScript d (mix_said m) calls
  pub benched : Benched
  pub comes : Benches tables d load calls (order_of m) benched
  pub history_is : history ≡ benched.history
  pub coded : (code ≡ code_of (Ran (bench_ending benched))) ⊎ ((code ≡ 7) × (bench_ending benched ≡ Done))
  pub says : code ≡ 0 → Appends old new (bench_text benched)
  pub front : WritesFront old new (bench_text benched)

-- nothing ran, and so no history is told; or these ran
abbrev pub TellsBench : (List ℕ → Told) → List (List ℕ) → Mix → Option (List ℕ) → Option (List ℕ) → ℕ → List Event → Type 0
TellsBench held words m old new code history =
    ((code ≢ 0) × (code ≢ 7) × (code ≢ 8) × (code ≢ 10) × (history ≡ [])) ⊎ IsBenched held words m old new code history
