-- That no command is without a verb, or without a line of the help.
use Rattle.std.specs.Prelude.{◌≡◌, ⊤, true, ℕ, ◌+◌, List, [], ◌∷◌, ◌++◌, length, map, Some, Contains, codes, decimal}
use Rattle.std.specs.List.{flat_map}
use Rattle.acc_commands_inputs.specs.declared.words.Command.{Command}
use Rattle.acc_commands_inputs.specs.declared.words.Command.TheVariants as command
use Rattle.acc_commands_inputs.specs.declared.scales.Mix.{Mix}
use Rattle.acc_commands_inputs.specs.Scales.{is_scale, is_mix}
use Rattle.acc_form.specs.Judged.{side_word}
use Rattle.acc_commands_inputs.specs.Words.{verb_of, file_count, point_count, IsCrew, IsPiece, command_of}
use Rattle.acc_commands_inputs.specs.Notes.{help_lines}

-- the numbers of a mix, in the order of the words that tell them
abbrev pub mix_numbers : Mix → List ℕ
mix_numbers mix = mix.scale.warehouses ∷ mix.scale.items ∷ mix.scale.customers ∷ mix.count ∷ mix.start ∷ []

-- the numbers that a command has, in the order of the words that tell them
abbrev pub numbers_of : Command → List ℕ
numbers_of command.Play = []
numbers_of command.Rehearse = []
numbers_of command.Print = []
numbers_of command.Draw = []
numbers_of command.Check = []
numbers_of command.Prove = []
numbers_of (command.Advise side) = []
numbers_of command.Audit = []
numbers_of (command.Follow size) = size ∷ []
numbers_of command.Init = []
numbers_of command.Sched = []
numbers_of (command.Run workers) = workers ∷ []
numbers_of command.Recover = []
numbers_of command.Dump = []
numbers_of command.Replies = []
numbers_of command.Verify = []
numbers_of command.Migrate = []
numbers_of command.TpccDesign = []
numbers_of command.BookingDesign = []
numbers_of command.BookingVerify = []
numbers_of (command.TpccLoad scale) = scale.warehouses ∷ scale.items ∷ scale.customers ∷ []
numbers_of (command.TpccMix mix) = mix_numbers mix
numbers_of (command.Bench mix) = mix_numbers mix
numbers_of command.Help = []
numbers_of command.Version = []

-- they are within their bounds
abbrev pub HasFit : Command → Type 0
HasFit command.Play = ⊤
HasFit command.Rehearse = ⊤
HasFit command.Print = ⊤
HasFit command.Draw = ⊤
HasFit command.Check = ⊤
HasFit command.Prove = ⊤
HasFit (command.Advise side) = ⊤
HasFit command.Audit = ⊤
HasFit (command.Follow size) = IsPiece size
HasFit command.Init = ⊤
HasFit command.Sched = ⊤
HasFit (command.Run workers) = IsCrew workers
HasFit command.Recover = ⊤
HasFit command.Dump = ⊤
HasFit command.Replies = ⊤
HasFit command.Verify = ⊤
HasFit command.Migrate = ⊤
HasFit command.TpccDesign = ⊤
HasFit command.BookingDesign = ⊤
HasFit command.BookingVerify = ⊤
HasFit (command.TpccLoad scale) = is_scale scale ≡ true
HasFit (command.TpccMix mix) = is_mix mix ≡ true
HasFit (command.Bench mix) = is_mix mix ≡ true
HasFit command.Help = ⊤
HasFit command.Version = ⊤

-- the word of the side that a command has
abbrev pub sides_of : Command → List (List ℕ)
sides_of command.Play = []
sides_of command.Rehearse = []
sides_of command.Print = []
sides_of command.Draw = []
sides_of command.Check = []
sides_of command.Prove = []
sides_of (command.Advise side) = side_word side ∷ []
sides_of command.Audit = []
sides_of (command.Follow size) = []
sides_of command.Init = []
sides_of command.Sched = []
sides_of (command.Run workers) = []
sides_of command.Recover = []
sides_of command.Dump = []
sides_of command.Replies = []
sides_of command.Verify = []
sides_of command.Migrate = []
sides_of command.TpccDesign = []
sides_of command.BookingDesign = []
sides_of command.BookingVerify = []
sides_of (command.TpccLoad scale) = []
sides_of (command.TpccMix mix) = []
sides_of (command.Bench mix) = []
sides_of command.Help = []
sides_of command.Version = []

-- each command is what its verb asks for, with as many words behind it as it has files and points, and then its side, if it has one, and
-- its numbers
abbrev pub EachHasVerb : Type 0
EachHasVerb =
    (c : Command) (names : List (List ℕ)) → HasFit c → length names ≡ file_count c + point_count c
    → command_of (verb_of c ++ (names ++ (sides_of c ++ map decimal (numbers_of c)))) ≡ Some c

-- words, each with a space behind it
abbrev pub words_text : List (List ℕ) → List ℕ
words_text words = flat_map (λ word. word ++ 32 ∷ []) words

-- each command has a line of the help, which begins with the program's name and the command's verb
abbrev pub EachHasHelp : Type 0
EachHasHelp = (c : Command) → (rest : List ℕ) × Contains help_lines (codes "acc " ++ words_text (verb_of c) ++ rest)
