-- Each command has a verb and a line of the help.
use Rattle.std.proofs.Common.{◌≡◌, ◌<◌, ℕ, Bool, true, List, [], ◌∷◌, ◌++◌, length, get_or, take, drop, refl, sym, ap, ◌∙◌, arith}
use Rattle.std.proofs.Common.{eq-eqb, map}
use Rattle.std.proofs.Common.{None, Some, append-nil, take-append-drop}
use Rattle.std.specs.Prelude.{option_map, codes, decimal, Contains, ◌==◌, if◌then◌else◌}
use Rattle.std.proofs.lemmas.Bool.Decides.{nat_tests}
use Rattle.std.proofs.lemmas.List.{drop_at, get_or_default}
use Rattle.acc_base.specs.declared.designs.Side.{Side}
use Rattle.acc_base.specs.declared.designs.Side.TheVariants.{Next, Undo}
use Rattle.acc_commands_inputs.specs.declared.words.Command.{Command}
use Rattle.acc_commands_inputs.specs.declared.words.Command.TheVariants as command
use Rattle.acc_commands_inputs.specs.declared.words.Operands.TheVariants.{Files}
use Rattle.acc_commands_inputs.specs.declared.scales.AskedScale.{AskedScale}
use Rattle.acc_commands_inputs.specs.declared.scales.Mix.{Mix}
use Rattle.tpcc_gen.specs.declared.bounds.TheConstants.{MOST_WAREHOUSES, MOST_ITEMS, MOST_CUSTOMERS, MOST_TRANSACTIONS, LARGEST_START}
use Rattle.acc_commands_inputs.specs.declared.words.TheConstants.{MOST_WORKERS, MOST_PIECE}
use Rattle.acc_commands_inputs.specs.Scales.{IsWithin, is_scale, is_mix}
use Rattle.acc_form.specs.Judged.{side_word}
use Rattle.acc_commands_inputs.specs.Words.{form_of, workload_of, booking_of, side_of, file_count, point_count, IsCrew, IsPiece, number_in}
use Rattle.acc_commands_inputs.specs.Words.{scale_of, mix_of}
use Rattle.acc_commands_inputs.specs.Words.{with_files, with_workers, with_pieces, with_bench, with_advice, given_files, with_form, command_of}
use Rattle.acc_commands_inputs.specs.Notes.{help_lines}
use Rattle.acc_commands_inputs.specs.Verbs.{mix_numbers, EachHasVerb, EachHasHelp}
use Rattle.acc_commands_inputs.proofs.Workers.{number_of_numeral}

-- the names of a command's files behind its verb
files_given : (c : Command) (names : List (List ℕ)) → length names ≡ file_count c → with_files c (names ++ []) ≡ Some c
files_given c names count =
    let same : (length (names ++ []) == file_count c) ≡ true = eq-eqb (length (names ++ [])) (file_count c) (ap length (append-nil names) ∙ count) in
    ap (λ (b : Bool). if b then Some c else None) same

verb_given : (c : Command) (verb : List ℕ) (names : List (List ℕ)) → form_of verb ≡ Some (Files c) → length names ≡ file_count c
    → command_of (verb ∷ (names ++ [])) ≡ Some c
verb_given c verb names form count = ap (λ o. with_form o (names ++ [])) form ∙ files_given c names count

run_given : (n : ℕ) (names : List (List ℕ)) → IsCrew n → length names ≡ 3
    → with_workers (names ++ decimal n ∷ []) ≡ Some (command.Run n)
run_given n names few count =
    ap (λ words. option_map command.Run (number_in 1 MOST_WORKERS words)) (drop_at names (decimal n ∷ []) 3 count)
    ∙ ap (option_map command.Run) (number_of_numeral 1 MOST_WORKERS n (omega arith) few)

follow_given : (n : ℕ) (names : List (List ℕ)) → IsPiece n → length names ≡ 3
    → with_pieces (names ++ decimal n ∷ []) ≡ Some (command.Follow n)
follow_given n names few count =
    ap (λ words. option_map command.Follow (number_in 1 MOST_PIECE words)) (drop_at names (decimal n ∷ []) 3 count)
    ∙ ap (option_map command.Follow) (number_of_numeral 1 MOST_PIECE n (omega arith) few)

-- `tpcc design` names no file
design_given : (names : List (List ℕ)) → length names ≡ 0 → command_of (codes "tpcc" ∷ codes "design" ∷ (names ++ [])) ≡ Some command.TpccDesign
unfolding form_of workload_of
design_given [] none = refl
design_given (name ∷ names) none = absurd (omega (arith, none))

-- nor does `booking design`; `booking verify` names two
booking_given : (c : Command) (wanted : List ℕ) (names : List (List ℕ)) → booking_of wanted ≡ Some c → length names ≡ file_count c
    → command_of (codes "booking" ∷ wanted ∷ (names ++ [])) ≡ Some c
unfolding form_of
booking_given c wanted names is count = ap (λ o. given_files o (names ++ [])) is ∙ files_given c names count

-- a side is told by its word, behind the names of a design and of two points
side_told : (side : Side) → side_of (side_word side) ≡ Some side
unfolding side_of
side_told Next = refl
side_told Undo = refl

advice_given : (side : Side) (names : List (List ℕ)) → length names ≡ 3
    → with_advice (names ++ side_word side ∷ []) ≡ Some (command.Advise side)
advice_given side (design ∷ held ∷ step ∷ []) three = ap (option_map command.Advise) (side_told side)
advice_given side [] three = absurd (omega (arith, three))
advice_given side (a ∷ []) three = absurd (omega (arith, three))
advice_given side (a ∷ b ∷ []) three = absurd (omega (arith, three))
advice_given side (a ∷ b ∷ c ∷ d ∷ more) three = absurd (omega (arith, three))

-- a scale is told by the numerals of its numbers
scale_given : (s : AskedScale) → is_scale s ≡ true
    → scale_of (decimal s.warehouses) (decimal s.items) (decimal s.customers) ≡ Some s
scale_given s fit =
    let w : IsWithin 1 MOST_WAREHOUSES s.warehouses = grind (arith, nat_tests, fit) in
    let i : IsWithin 1 MOST_ITEMS s.items = grind (arith, nat_tests, fit) in
    let c : IsWithin 1 MOST_CUSTOMERS s.customers = grind (arith, nat_tests, fit) in
    rw (
      number_of_numeral 1 MOST_WAREHOUSES s.warehouses (omega arith) w,
      number_of_numeral 1 MOST_ITEMS s.items (omega arith) i,
      number_of_numeral 1 MOST_CUSTOMERS s.customers (omega arith) c,
    ) refl

load_given : (s : AskedScale) (names : List (List ℕ)) → is_scale s ≡ true → length names ≡ 0
    → command_of (codes "tpcc" ∷ codes "load" ∷ (names ++ decimal s.warehouses ∷ decimal s.items ∷ decimal s.customers ∷ []))
    ≡ Some (command.TpccLoad s)
unfolding form_of workload_of
load_given s [] fit none = ap (option_map command.TpccLoad) (scale_given s fit)
load_given s (name ∷ names) fit none = absurd (omega (arith, none))

-- and a mix by those of its numbers
mix_told : (m : Mix) → is_mix m ≡ true → mix_of (map decimal (mix_numbers m)) ≡ Some m
mix_told m fit =
    let s : is_scale m.scale ≡ true = grind (arith, nat_tests, fit) in
    let n : IsWithin 0 MOST_TRANSACTIONS m.count = grind (arith, nat_tests, fit) in
    let from : IsWithin 0 LARGEST_START m.start = grind (arith, nat_tests, fit) in
    rw (
      scale_given m.scale s,
      number_of_numeral 0 MOST_TRANSACTIONS m.count (omega arith) n,
      number_of_numeral 0 LARGEST_START m.start (omega arith) from,
    ) refl

mix_given : (m : Mix) (names : List (List ℕ)) → is_mix m ≡ true → length names ≡ 0
    → command_of (codes "tpcc" ∷ codes "mix" ∷ (names ++ map decimal (mix_numbers m))) ≡ Some (command.TpccMix m)
unfolding form_of workload_of
mix_given m [] fit none = ap (option_map command.TpccMix) (mix_told m fit)
mix_given m (name ∷ names) fit none = absurd (omega (arith, none))

bench_given : (m : Mix) (names : List (List ℕ)) → is_mix m ≡ true → length names ≡ 2
    → with_bench (names ++ map decimal (mix_numbers m)) ≡ Some (command.Bench m)
bench_given m names fit count =
    ap (λ words. option_map command.Bench (mix_of words)) (drop_at names (map decimal (mix_numbers m)) 2 count)
    ∙ ap (option_map command.Bench) (mix_told m fit)

pub verbs : EachHasVerb
unfolding form_of booking_of file_count point_count
verbs command.Play names few count = verb_given command.Play (codes "play") names refl count
verbs command.Rehearse names few count = verb_given command.Rehearse (codes "rehearse") names refl count
verbs command.Print names few count = verb_given command.Print (codes "print") names refl count
verbs command.Draw names few count = verb_given command.Draw (codes "draw") names refl count
verbs command.Check names few count = verb_given command.Check (codes "check") names refl count
verbs command.Prove names few count = verb_given command.Prove (codes "prove") names refl count
verbs (command.Advise side) names few count = advice_given side names count
verbs command.Audit names few count = verb_given command.Audit (codes "audit") names refl count
verbs (command.Follow n) names few count = follow_given n names few count
verbs command.Init names few count = verb_given command.Init (codes "init") names refl count
verbs command.Sched names few count = verb_given command.Sched (codes "sched") names refl count
verbs (command.Run n) names few count = run_given n names few count
verbs command.Recover names few count = verb_given command.Recover (codes "recover") names refl count
verbs command.Dump names few count = verb_given command.Dump (codes "dump") names refl count
verbs command.Replies names few count = verb_given command.Replies (codes "replies") names refl count
verbs command.Verify names few count = verb_given command.Verify (codes "verify") names refl count
verbs command.Migrate names few count = verb_given command.Migrate (codes "migrate") names refl count
verbs command.TpccDesign names few count = design_given names count
verbs command.BookingDesign names few count = booking_given command.BookingDesign (codes "design") names refl count
verbs command.BookingVerify names few count = booking_given command.BookingVerify (codes "verify") names refl count
verbs (command.TpccLoad s) names few count = load_given s names few count
verbs (command.TpccMix m) names few count = mix_given m names few count
verbs (command.Bench m) names few count = bench_given m names few count
verbs command.Help names few count = verb_given command.Help (codes "--help") names refl count
verbs command.Version names few count = verb_given command.Version (codes "--version") names refl count

-- the line of the help with this number, if it begins so
line_at : (k : ℕ) (front : List ℕ) → k < length help_lines → take (length front) (get_or help_lines k []) ≡ front
    → (rest : List ℕ) × Contains help_lines (front ++ rest)
line_at k front few begins =
    let line = get_or help_lines k [] in
    let rest = drop (length front) line in
    let whole : line ≡ front ++ rest = sym (take-append-drop (length front) line) ∙ ap (λ x. x ++ rest) begins in
    (rest, (k, few, get_or_default help_lines k (front ++ rest) [] few ∙ whole))

pub help : EachHasHelp
unfolding help_lines
help command.Play = line_at 0 (codes "acc play ") (omega arith) refl
help command.Rehearse = line_at 1 (codes "acc rehearse ") (omega arith) refl
help command.Print = line_at 2 (codes "acc print ") (omega arith) refl
help command.Draw = line_at 3 (codes "acc draw ") (omega arith) refl
help command.Check = line_at 4 (codes "acc check ") (omega arith) refl
help command.Prove = line_at 5 (codes "acc prove ") (omega arith) refl
help (command.Advise side) = line_at 6 (codes "acc advise ") (omega arith) refl
help command.Audit = line_at 7 (codes "acc audit ") (omega arith) refl
help (command.Follow size) = line_at 8 (codes "acc follow ") (omega arith) refl
help command.Init = line_at 9 (codes "acc init ") (omega arith) refl
help command.Sched = line_at 10 (codes "acc sched ") (omega arith) refl
help (command.Run workers) = line_at 11 (codes "acc run ") (omega arith) refl
help command.Recover = line_at 12 (codes "acc recover ") (omega arith) refl
help command.Dump = line_at 13 (codes "acc dump ") (omega arith) refl
help command.Replies = line_at 14 (codes "acc replies ") (omega arith) refl
help command.Verify = line_at 15 (codes "acc verify ") (omega arith) refl
help command.Migrate = line_at 16 (codes "acc migrate ") (omega arith) refl
help command.TpccDesign = line_at 17 (codes "acc tpcc design ") (omega arith) refl
help (command.TpccLoad scale) = line_at 18 (codes "acc tpcc load ") (omega arith) refl
help (command.TpccMix mix) = line_at 19 (codes "acc tpcc mix ") (omega arith) refl
help command.BookingDesign = line_at 20 (codes "acc booking design ") (omega arith) refl
help command.BookingVerify = line_at 21 (codes "acc booking verify ") (omega arith) refl
help (command.Bench mix) = line_at 22 (codes "acc bench ") (omega arith) refl
help command.Help = line_at 23 (codes "acc --help ") (omega arith) refl
help command.Version = line_at 24 (codes "acc --version ") (omega arith) refl
