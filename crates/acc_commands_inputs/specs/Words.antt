-- The forms of the command line.
use Rattle.std.specs.Prelude.{◌≡◌, ⊤, ℕ, ◌+◌, List, [], ◌∷◌, length, take, drop, Bool, true, false, ◌==◌, if◌then◌else◌}
use Rattle.std.specs.Prelude.{◌&&◌, Option, Some, None, option_map, codes, decimal}
use Rattle.std.specs.Str.{bytes_eq}
use Rattle.std.specs.Str.Parse.{digits_value}
use Rattle.acc_base.specs.declared.designs.Side.{Side}
use Rattle.acc_base.specs.declared.designs.Side.TheVariants.{Next, Undo}
use Rattle.tpcc_gen.specs.declared.bounds.TheConstants.{MOST_WAREHOUSES, MOST_ITEMS, MOST_CUSTOMERS, MOST_TRANSACTIONS, LARGEST_START}
use Rattle.acc_commands_inputs.specs.declared.words.TheConstants.{MOST_WORKERS, MOST_PIECE}
use Rattle.acc_commands_inputs.specs.declared.scales.AskedScale.{AskedScale}
use Rattle.acc_commands_inputs.specs.declared.scales.Mix.{Mix}
use Rattle.acc_commands_inputs.specs.declared.usage.Usage.{Usage}
use Rattle.acc_commands_inputs.specs.declared.words.Workload.{Workload}
use Rattle.acc_commands_inputs.specs.declared.words.Workload.TheVariants.{Design, Load, Mix as MixOf}
use Rattle.acc_commands_inputs.specs.Scales.{IsWithin, is_within}
use Rattle.acc_commands_inputs.specs.declared.words.Operands.{Operands}
use Rattle.acc_commands_inputs.specs.declared.words.Operands.TheVariants.{Files, Workers, Pieces, Tpcc, Booking, Bench, Advice}
use Rattle.acc_commands_inputs.specs.declared.words.Command.{Command}
use Rattle.acc_commands_inputs.specs.declared.words.Command.TheVariants as command

-- what stands behind this verb: the names of the command's files alone; those of the files of `run` and then the number of workers,
-- or of the files of `follow` and then that of a piece's bytes;
-- behind `tpcc` or `booking`, what is wanted of it, with its files and numbers; those of the files of `bench` and then the numbers of its
-- mix; or those of the design and of two points of it, and then a side
unfoldable pub form_of : List ℕ → Option Operands
form_of verb =
    if bytes_eq verb (codes "play") then Some (Files command.Play) else
    (if bytes_eq verb (codes "rehearse") then Some (Files command.Rehearse) else
    (if bytes_eq verb (codes "print") then Some (Files command.Print) else
    (if bytes_eq verb (codes "draw") then Some (Files command.Draw) else
    (if bytes_eq verb (codes "check") then Some (Files command.Check) else
    (if bytes_eq verb (codes "prove") then Some (Files command.Prove) else
    (if bytes_eq verb (codes "advise") then Some Advice else
    (if bytes_eq verb (codes "audit") then Some (Files command.Audit) else
    (if bytes_eq verb (codes "follow") then Some Pieces else
    (if bytes_eq verb (codes "init") then Some (Files command.Init) else
    (if bytes_eq verb (codes "sched") then Some (Files command.Sched) else
    (if bytes_eq verb (codes "run") then Some Workers else
    (if bytes_eq verb (codes "recover") then Some (Files command.Recover) else
    (if bytes_eq verb (codes "dump") then Some (Files command.Dump) else
    (if bytes_eq verb (codes "replies") then Some (Files command.Replies) else
    (if bytes_eq verb (codes "verify") then Some (Files command.Verify) else
    (if bytes_eq verb (codes "migrate") then Some (Files command.Migrate) else
    (if bytes_eq verb (codes "tpcc") then Some Tpcc else
    (if bytes_eq verb (codes "booking") then Some Booking else
    (if bytes_eq verb (codes "bench") then Some Bench else
    (if bytes_eq verb (codes "--help") then Some (Files command.Help) else
    (if bytes_eq verb (codes "--version") then Some (Files command.Version) else
    None)))))))))))))))))))))

-- what this word wants of TPC-C
unfoldable pub workload_of : List ℕ → Option Workload
workload_of word =
    if bytes_eq word (codes "design") then Some Design else
    (if bytes_eq word (codes "load") then Some Load else
    (if bytes_eq word (codes "mix") then Some MixOf else
    None))

-- what this word wants of the booking design
unfoldable pub booking_of : List ℕ → Option Command
booking_of word =
    if bytes_eq word (codes "design") then Some command.BookingDesign else
    (if bytes_eq word (codes "verify") then Some command.BookingVerify else
    None)

-- the side of a point that a word names
unfoldable pub side_of : List ℕ → Option Side
side_of word =
    if bytes_eq word (codes "next") then Some Next else
    (if bytes_eq word (codes "undo") then Some Undo else
    None)

-- how a command is asked for: by the words of its verb, one or two; behind them so many words name its files, and then so many points of
-- the design; and whether it goes over a journal
pub record UsageLine : Type 0 where
  pub verb : List (List ℕ)
  pub files : ℕ
  pub points : ℕ
  pub over_journal : Bool

-- the table of commands
abbrev pub usage_line : Command → UsageLine
usage_line command.Play = record { verb = codes "play" ∷ []; files = 3; points = 0; over_journal = false }
usage_line command.Rehearse = record { verb = codes "rehearse" ∷ []; files = 4; points = 0; over_journal = false }
usage_line command.Print = record { verb = codes "print" ∷ []; files = 1; points = 0; over_journal = false }
usage_line command.Draw = record { verb = codes "draw" ∷ []; files = 1; points = 0; over_journal = false }
usage_line command.Check = record { verb = codes "check" ∷ []; files = 2; points = 0; over_journal = false }
usage_line command.Prove = record { verb = codes "prove" ∷ []; files = 1; points = 0; over_journal = false }
usage_line (command.Advise side) = record { verb = codes "advise" ∷ []; files = 1; points = 2; over_journal = false }
usage_line command.Audit = record { verb = codes "audit" ∷ []; files = 2; points = 0; over_journal = false }
usage_line (command.Follow size) = record { verb = codes "follow" ∷ []; files = 3; points = 0; over_journal = false }
usage_line command.Init = record { verb = codes "init" ∷ []; files = 1; points = 0; over_journal = true }
usage_line command.Sched = record { verb = codes "sched" ∷ []; files = 4; points = 0; over_journal = true }
usage_line (command.Run workers) = record { verb = codes "run" ∷ []; files = 3; points = 0; over_journal = true }
usage_line command.Recover = record { verb = codes "recover" ∷ []; files = 2; points = 0; over_journal = true }
usage_line command.Dump = record { verb = codes "dump" ∷ []; files = 2; points = 0; over_journal = true }
usage_line command.Replies = record { verb = codes "replies" ∷ []; files = 2; points = 0; over_journal = true }
usage_line command.Verify = record { verb = codes "verify" ∷ []; files = 2; points = 0; over_journal = true }
usage_line command.Migrate = record { verb = codes "migrate" ∷ []; files = 3; points = 0; over_journal = true }
usage_line command.TpccDesign = record { verb = codes "tpcc" ∷ codes "design" ∷ []; files = 0; points = 0; over_journal = false }
usage_line (command.TpccLoad scale) = record { verb = codes "tpcc" ∷ codes "load" ∷ []; files = 0; points = 0; over_journal = false }
usage_line (command.TpccMix mix) = record { verb = codes "tpcc" ∷ codes "mix" ∷ []; files = 0; points = 0; over_journal = false }
usage_line command.BookingDesign = record { verb = codes "booking" ∷ codes "design" ∷ []; files = 0; points = 0; over_journal = false }
usage_line command.BookingVerify = record { verb = codes "booking" ∷ codes "verify" ∷ []; files = 2; points = 0; over_journal = true }
usage_line (command.Bench mix) = record { verb = codes "bench" ∷ []; files = 2; points = 0; over_journal = false }
usage_line command.Help = record { verb = codes "--help" ∷ []; files = 0; points = 0; over_journal = false }
usage_line command.Version = record { verb = codes "--version" ∷ []; files = 0; points = 0; over_journal = false }

-- what a line says in numbers
abbrev pub usage_in : UsageLine → Usage
usage_in l = record { verb = length l.verb; files = l.files; points = l.points; over_journal = l.over_journal }

-- the words that ask for a command
abbrev pub verb_of : Command → List (List ℕ)
verb_of c = (usage_line c).verb

-- how many files a command reads: the first words behind the verb name them
unfoldable pub file_count : Command → ℕ
file_count c = (usage_line c).files

-- how many points of the design a command names: the words behind those of its files do
unfoldable pub point_count : Command → ℕ
point_count c = (usage_line c).points

-- whether a command goes over a journal
abbrev pub is_journalled : Command → Bool
is_journalled c = (usage_line c).over_journal

-- the words that name the files of a command, and those that name points
abbrev pub files_of : Command → List (List ℕ) → List (List ℕ)
files_of c words = take (file_count c) (drop (length (verb_of c)) words)

abbrev pub points_of : Command → List (List ℕ) → List (List ℕ)
points_of c words = take (point_count c) (drop (length (verb_of c) + file_count c) words)

-- how many words ask for a command and name its files and points
abbrev pub word_count : Command → ℕ
word_count c = length (verb_of c) + file_count c + point_count c

-- the number that a word tells: the one of which it is the decimal numeral, if that is within bounds
abbrev pub number_of : ℕ → ℕ → List ℕ → Option ℕ
number_of least most word =
    let n = digits_value 10 word in if is_within least most n && bytes_eq (decimal n) word then Some n else None

-- there may be so many workers
abbrev pub IsCrew : ℕ → Type 0
IsCrew n = IsWithin 1 MOST_WORKERS n

-- a piece may have so many bytes
abbrev pub IsPiece : ℕ → Type 0
IsPiece n = IsWithin 1 MOST_PIECE n

-- the command, if so many words name its files
abbrev pub with_files : Command → List (List ℕ) → Option Command
with_files c names = if length names == file_count c then Some c else None

-- the number that the words tell: there is one word, and it tells that
abbrev pub number_in : ℕ → ℕ → List (List ℕ) → Option ℕ
number_in least most [] = None
number_in least most (word ∷ []) = number_of least most word
number_in least most (word ∷ other ∷ more) = None

-- `run`, if three words name its files, and those behind them say how many workers there are
abbrev pub with_workers : List (List ℕ) → Option Command
with_workers words = option_map command.Run (number_in 1 MOST_WORKERS (drop 3 words))

-- `follow`, if three words name its files, and those behind them say how many bytes a piece has
abbrev pub with_pieces : List (List ℕ) → Option Command
with_pieces words = option_map command.Follow (number_in 1 MOST_PIECE (drop 3 words))

-- the scale of these numbers, if each of them is told
abbrev pub scale_from : Option ℕ → Option ℕ → Option ℕ → Option AskedScale
scale_from None items customers = None
scale_from (Some w) None customers = None
scale_from (Some w) (Some i) None = None
scale_from (Some w) (Some i) (Some c) = Some (record { warehouses = w; items = i; customers = c })

abbrev pub scale_of : List ℕ → List ℕ → List ℕ → Option AskedScale
scale_of w i c = scale_from (number_of 1 MOST_WAREHOUSES w) (number_of 1 MOST_ITEMS i) (number_of 1 MOST_CUSTOMERS c)

-- the mix of these, likewise
abbrev pub mix_from : Option AskedScale → Option ℕ → Option ℕ → Option Mix
mix_from None count start = None
mix_from (Some s) None start = None
mix_from (Some s) (Some n) None = None
mix_from (Some s) (Some n) (Some from) = Some (record { scale = s; count = n; start = from })

-- `tpcc design`, if nothing stands behind it
abbrev pub with_design : List (List ℕ) → Option Command
with_design [] = Some command.TpccDesign
with_design (more ∷ rest) = None

-- `tpcc load`, if its scale stands behind it
abbrev pub with_load : List (List ℕ) → Option Command
with_load [] = None
with_load (w ∷ []) = None
with_load (w ∷ i ∷ []) = None
with_load (w ∷ i ∷ c ∷ []) = option_map command.TpccLoad (scale_of w i c)
with_load (w ∷ i ∷ c ∷ more ∷ rest) = None

-- the mix of five words: its scale, how many transactions it has, and the number that they are drawn from
abbrev pub mix_of : List (List ℕ) → Option Mix
mix_of [] = None
mix_of (w ∷ []) = None
mix_of (w ∷ i ∷ []) = None
mix_of (w ∷ i ∷ c ∷ []) = None
mix_of (w ∷ i ∷ c ∷ count ∷ []) = None
mix_of (w ∷ i ∷ c ∷ count ∷ start ∷ []) =
    mix_from (scale_of w i c) (number_of 0 MOST_TRANSACTIONS count) (number_of 0 LARGEST_START start)
mix_of (w ∷ i ∷ c ∷ count ∷ start ∷ more ∷ rest) = None

-- `tpcc mix`, if the words behind it tell a mix
abbrev pub with_mix : List (List ℕ) → Option Command
with_mix words = option_map command.TpccMix (mix_of words)

abbrev pub with_workload : Option Workload → List (List ℕ) → Option Command
with_workload None words = None
with_workload (Some Design) words = with_design words
with_workload (Some Load) words = with_load words
with_workload (Some MixOf) words = with_mix words

-- the command of which the words behind `tpcc` say what is wanted
abbrev pub with_tpcc : List (List ℕ) → Option Command
with_tpcc [] = None
with_tpcc (wanted ∷ words) = with_workload (workload_of wanted) words

-- what is wanted of the booking design, by the word behind `booking`
abbrev pub wanted_of : List (List ℕ) → Option Command
wanted_of [] = None
wanted_of (wanted ∷ words) = booking_of wanted

-- that, if the words behind name its files
abbrev pub given_files : Option Command → List (List ℕ) → Option Command
given_files None names = None
given_files (Some c) names = with_files c names

-- the command of which the words behind `booking` say what is wanted
abbrev pub with_booking : List (List ℕ) → Option Command
with_booking [] = None
with_booking (wanted ∷ words) = given_files (booking_of wanted) words

-- `advise`, if a word names its file, two name points, and one a side
abbrev pub with_advice : List (List ℕ) → Option Command
with_advice [] = None
with_advice (design ∷ []) = None
with_advice (design ∷ held ∷ []) = None
with_advice (design ∷ held ∷ step ∷ []) = None
with_advice (design ∷ held ∷ step ∷ side ∷ []) = option_map command.Advise (side_of side)
with_advice (design ∷ held ∷ step ∷ side ∷ more ∷ rest) = None

-- `bench`, if two words name its files, and those behind them tell its mix
abbrev pub with_bench : List (List ℕ) → Option Command
with_bench words = option_map command.Bench (mix_of (drop 2 words))

-- the command, if such words stand behind its verb
abbrev pub with_form : Option Operands → List (List ℕ) → Option Command
with_form None words = None
with_form (Some (Files c)) words = with_files c words
with_form (Some Workers) words = with_workers words
with_form (Some Pieces) words = with_pieces words
with_form (Some Tpcc) words = with_tpcc words
with_form (Some Booking) words = with_booking words
with_form (Some Bench) words = with_bench words
with_form (Some Advice) words = with_advice words

-- the command that the words ask for: its verb, and what stands behind that
abbrev pub command_of : List (List ℕ) → Option Command
command_of [] = None
command_of (verb ∷ words) = with_form (form_of verb) words

-- the words that name the files of a command, if it is one
abbrev pub names_of : Option Command → List (List ℕ) → List (List ℕ)
names_of None words = []
names_of (Some c) words = files_of c words

abbrev pub file_names : List (List ℕ) → List (List ℕ)
file_names words = names_of (command_of words) words

-- whether it is a command, and one over a journal
abbrev pub is_over_journal : Option Command → Bool
is_over_journal None = false
is_over_journal (Some c) = is_journalled c

-- whether such words behind its verb ask for a command over a journal
abbrev pub is_journal_form : Option Operands → List (List ℕ) → Bool
is_journal_form None words = false
is_journal_form (Some (Files c)) words = is_journalled c
is_journal_form (Some Workers) words = true
is_journal_form (Some Pieces) words = false
is_journal_form (Some Tpcc) words = false
is_journal_form (Some Booking) words = is_over_journal (wanted_of words)
is_journal_form (Some Bench) words = false
is_journal_form (Some Advice) words = false

-- Whether the first words are the verb of a command over a journal. Then the program's own last word names the journal's file, and isn't
-- one of the words of a form.
abbrev pub asks_journal : List (List ℕ) → Bool
asks_journal [] = false
asks_journal (verb ∷ words) = is_journal_form (form_of verb) words

-- ---- verbs of one word and of two

-- the command has a verb of so many words, and names no points
abbrev pub HasVerb : ℕ → Command → Type 0
HasVerb n c = (length (verb_of c) ≡ n) × (point_count c ≡ 0)

-- where names of files alone stand behind it, the verb is one word
abbrev pub IsOneWord : Operands → Type 0
IsOneWord (Files c) = HasVerb 1 c
IsOneWord Workers = ⊤
IsOneWord Pieces = ⊤
IsOneWord Tpcc = ⊤
IsOneWord Booking = ⊤
IsOneWord Bench = ⊤
IsOneWord Advice = ⊤
