-- The command bench: a load of TPC-C from the start and a mix behind it, in memory, by the rules of locks, for a design that is accepted
-- with its certificate and has TPC-C's tables.
use Rattle.std.specs.Prelude.{◌≡◌, ◌⊎◌, ℕ, List, [], if◌then◌else◌}
use Rattle.acc_base.specs.declared.designs.Design.{Design}
use Rattle.acc_base.specs.declared.machines.Call.{Call}
use Rattle.acc_bench.specs.Answers.{bench_text, bench_ending}
use Rattle.acc_bench.specs.Benches.{Benches}
use Rattle.acc_bench.specs.declared.results.Benched.{Benched}
use Rattle.acc_formed.specs.WellFormed.{IsWellFormed}
use Rattle.acc_commands_inputs.specs.Admissions.{IsAcceptedWith}
use Rattle.acc_commands_inputs.specs.declared.scales.Mix.{Mix}
use Rattle.acc_commands_inputs.specs.Refusals.{RefusesDesign, RefusesCertificate}
use Rattle.acc_commands_inputs.specs.Scales.{is_mix}
use Rattle.acc_commands_inputs.specs.Schemas.{RefusesSchema}
use Rattle.acc_commands_inputs.specs.Scripts.{RefusesScript}
use Rattle.acc_commands_inputs.specs.Text.{Said}
use Rattle.acc_commands_inputs.specs.Texts.{IsDesignText}
use Rattle.acc_script.specs.CallLines.{IsScript}
use Rattle.tpcc_gen.specs.Orders.{order_list}
use Rattle.tpcc_tables.specs.declared.tables.TableSet.{TableSet}
use Rattle.tpcc_tables.specs.Schema.{IsSchemaOf}
use Rattle.acc_commands_files.specs.Workloads.{load_said, mix_said}

-- the order in which the mix's calls take their turns, where there may be such a mix, and else none
abbrev pub order_of : Mix → List ℕ
order_of m = if is_mix m then order_list m.scale.warehouses m.scale.items m.scale.customers m.count m.start else []

-- What comes of the load and the mix in their order is told: what is counted, how it ends, and all events.
pub record SaysBench (d : Design) (s : TableSet) (m : Mix) (load calls : List Call) (said : Said) : Type 0 where
  pub benched : Benched
  pub comes : Benches s d load calls (order_of m) benched
  pub text : said.text ≡ bench_text benched
  pub ending : said.ending ≡ bench_ending benched
  pub history : said.history ≡ benched.history

-- the text is a script of these calls, and this is said of them
pub record RunsCalls (SaysRun : List Call → Said → Type 0) (d : Design) (script : List ℕ) (said : Said) : Type 0 where
  pub calls : List Call
  pub is_script : IsScript d script calls
  pub says : SaysRun calls said

abbrev pub SaysOfCalls : (List Call → Said → Type 0) → Design → List ℕ → Said → Type 0
SaysOfCalls SaysRun d script said = RefusesScript d script said ⊎ RunsCalls SaysRun d script said

-- the load's calls are given, and then the lines of the mix decide
abbrev pub SaysOfMix : Design → TableSet → Mix → List Call → Said → Type 0
SaysOfMix d s m load = SaysOfCalls (SaysBench d s m load) d (mix_said m)

-- the order of the refusals: the lines of the load, the lines of the mix
abbrev pub SaysOfLoad : Design → TableSet → Mix → Said → Type 0
SaysOfLoad d s m = SaysOfCalls (SaysOfMix d s m) d (load_said m.scale)

-- these are TPC-C's tables in the design, and then the scripts decide
pub record BenchesTables (d : Design) (m : Mix) (said : Said) : Type 0 where
  pub tables : TableSet
  pub schema : IsSchemaOf tables d
  pub says : SaysOfLoad d tables m said

abbrev pub SaysOfTables : Design → Mix → Said → Type 0
SaysOfTables d m said = RefusesSchema d said ⊎ BenchesTables d m said

-- the design is accepted with the certificate, and so it is sound, and then its tables decide
pub record BenchesAccepted (d : Design) (certificate : List ℕ) (m : Mix) (said : Said) : Type 0 where
  pub accepted : IsAcceptedWith d certificate
  pub says : SaysOfTables d m said

abbrev pub BenchesCertified : Design → List ℕ → Mix → Said → Type 0
BenchesCertified d certificate m said = RefusesCertificate d certificate said ⊎ BenchesAccepted d certificate m said

-- the text is that of this design, which is well-formed, and then the certificate decides
pub record BenchesDesign (design certificate : List ℕ) (m : Mix) (said : Said) : Type 0 where
  pub d : Design
  pub is_text : IsDesignText design d
  pub formed : IsWellFormed d
  pub says : BenchesCertified d certificate m said

-- the order of the refusals: the design, the certificate, the tables, the lines of the load, those of the mix
abbrev pub BenchesFiles : Mix → List ℕ → List ℕ → Said → Type 0
BenchesFiles m design certificate said = RefusesDesign design said ⊎ BenchesDesign design certificate m said
