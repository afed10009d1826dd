-- What is answered to a command line, from what is answered to its words, its files and its command.
use Rattle.std.proofs.Common.{◌≡◌, ◌≤◌, ℕ, Bool, List, [], length, map, drop, Option, None, Some, Result, Ok, Err, Vec, Global}
use Rattle.std.proofs.Common.{inl, inr, refl, sym, ap, subst, ◌∙◌, arith}
use Rattle.std.specs.Prelude.{◌≢◌, ◌⊎◌, false, IfOk, IfErr, codes}
use Rattle.std.specs.declared.alloc.AllocError.{AllocError}
use Rattle.std.specs.Io.KnownBytes.{Keeps, Appends}
use Rattle.std.proofs.lemmas.List.{length-map, length-drop, length-take-le}
use Rattle.std.proofs.lemmas.Result.{IfOk-weaker}
use Rattle.acc_base.specs.declared.machines.Event.{Event}
use Rattle.acc_base.specs.Lines.{line}
use Rattle.acc_io.specs.Counted.{after_files}
use Rattle.acc_io.specs.Shelves.{Told}
use Rattle.acc_io.specs.Sinks.{WritesFront}
use Rattle.acc_io.specs.declared.counts.Counts.{Counts}
use Rattle.acc_io.specs.declared.shelf.ShelfError.{ShelfError}
use Rattle.acc_commands.specs.Command.{Command}
use Rattle.acc_commands.specs.Words.{verb_of, command_of, file_count, word_count, files_of, points_of, is_journalled, is_over_journal}
use Rattle.acc_commands.specs.Files.{AreFiles, IsFirstRefused, SaysRefused}
use Rattle.acc_commands.specs.Requests.{command_in, texts_in}
use Rattle.acc_commands.specs.Text.{IsEarly}
use Rattle.acc_commands.specs.Request.{Request}
use Rattle.acc_commands.specs.Request.TheVariants.{Play, Rehearse, Print, Draw, Check, Prove, Advise, Audit, Follow, Init, Sched, Run}
use Rattle.acc_commands.specs.Request.TheVariants.{Recover, Dump, Replies, Verify, Migrate, TpccDesign, TpccLoad, TpccMix, BookingDesign}
use Rattle.acc_commands.specs.Request.TheVariants.{BookingVerify, Bench, Help, Version}
use Rattle.acc_journalled.specs.declared.answers.Answer.{Answer}
use Rattle.acc_journalled.specs.declared.answers.Ending.{Ending}
use Rattle.acc_journalled.specs.declared.answers.Ending.TheVariants.{Done, DiskFailed}
use Rattle.acc_journalled.specs.Tellings.{telling_of}
use Rattle.acc_commands.specs.Disks.{Seen}
use Rattle.acc_commands.specs.Means.{Means}
use Rattle.acc_cli.specs.declared.status.Status.{Status}
use Rattle.acc_cli.specs.declared.status.Status.TheVariants.{Usage, File, Sink, Memory, Ran}
use Rattle.acc_cli.specs.Replies.{Reply}
use Rattle.acc_cli.specs.Answered.{Ends, Answered}
use Rattle.acc_cli.specs.Meant.{RunsSo, MeansForm, Meant}
use Rattle.acc_cli.specs.Status.{code_of, IsBeforeJournal}
use Rattle.acc_cli.proofs.DiskLemmas.{early, not_failed}

-- a refusal with this text
abbrev pub refusal : Status → List ℕ → Reply
refusal status text = record { status = status; text = text; history = []; settled = 0 }

module _ (old new : Option (List ℕ)) (fault : Type 0) (given : Status) (history : List Event) (settled : ℕ) where
  -- it is printed, or memory ran out
  pub refusal_answered : (over : Bool) (M : Reply → Type 0) (status : Status) (text : Result (Vec ℕ Global) AllocError)
      → (history ≡ []) × (settled ≡ 0) → IfErr text (λ e. (given ≡ Memory) × Keeps old new)
      → IfOk text (λ t. Ends (refusal status t.items) old new fault given history settled) → IfOk text (λ t. M (refusal status t.items))
      → Answered over M old new fault given history settled
  refusal_answered over M status (Ok t) none lacks ends means = inr (refusal status t.items, means, ends)
  refusal_answered over M status (Err e) none lacks ends means = inl (lacks.0, lacks.1, λ without. none)

  pub answered_weaker : (a b : Bool) (M N : Reply → Type 0) → a ≡ b → ((reply : Reply) → M reply → N reply)
      → Answered a M old new fault given history settled → Answered b N old new fault given history settled
  answered_weaker a b M N same so (inl lacks) = inl (lacks.0, lacks.1, λ without. lacks.2 (same ∙ without))
  answered_weaker a b M N same so (inr (meant, means, ends)) = inr (meant, so meant means, ends)

module _ (held : List ℕ → Told) (counts counts' : Counts) (disk disk' : Seen) (words : List (List ℕ)) where
  -- no form, of which the words are none
  pub usage_means : (text : Result (Vec ℕ Global) AllocError) → command_of words ≡ None → counts' ≡ counts → disk' ≡ disk
      → IfOk text (λ t. t.items ≡ line (codes "usage"))
      → IfOk text (λ t. Meant held counts counts' disk disk' words (refusal Usage t.items))
  usage_means text none same untouched says =
      IfOk-weaker text _ _
      (λ t says. subst (λ (o : Option Command). MeansForm held counts counts' disk disk' words o (refusal Usage t.items)) (sym none)
      (refl, same, says, (refl, refl, untouched))) says

  -- a file that isn't given
  pub file_means : (command : Command) (name : List ℕ) (error : ShelfError) (text : Result (Vec ℕ Global) AllocError)
      → command_of words ≡ Some command → disk' ≡ disk → IsFirstRefused held counts counts' (files_of command words) name error
      → IfOk text (λ t. SaysRefused name error t.items) → IfOk text (λ t. Meant held counts counts' disk disk' words (refusal File t.items))
  file_means command name error text is untouched first says =
      IfOk-weaker text _ _
      (λ t says. subst (λ (o : Option Command). MeansForm held counts counts' disk disk' words o (refusal File t.items)) (sym is)
      (inl (refl, (refl, refl, untouched), (name, error, first, says)))) says

  -- a command whose files are given
  pub command_means : (command : Command) (points files : List (List ℕ)) → command_of words ≡ Some command
      → points ≡ points_of command words → AreFiles held (files_of command words) files
      → counts' ≡ after_files (length (files_of command words)) counts → (reply : Reply) → RunsSo command points files disk disk' reply
      → Meant held counts counts' disk disk' words reply
  command_means command points files is named given counted reply runs =
      subst (λ (o : Option Command). MeansForm held counts counts' disk disk' words o reply) (sym is)
      (inr (files, given, counted, subst (λ (ps : List (List ℕ)). RunsSo command ps files disk disk' reply) named runs))

-- whether it goes over a journal
pub over_same : (words : List (List ℕ)) (command : Command) → command_of words ≡ Some command
    → is_journalled command ≡ is_over_journal (command_of words)
over_same words command is = ap is_over_journal (sym is)

-- ---- the files

-- as many words name the files of a command as it has
pub files_count : {X : Type 0} (f : X → List ℕ) (names words : List X) (command : Command) → map f names ≡ files_of command (map f words)
    → word_count command ≤ length words → length names ≡ file_count command
files_count f names words command is few =
    let behind = drop (length (verb_of command)) (map f words) in
    let enough : file_count command ≤ length behind =
    omega (arith, length-drop (length (verb_of command)) (map f words), length-map words f, few) in
    sym (length-map names f) ∙ ap length is ∙ length-take-le (file_count command) behind enough

-- a request has as many files as its command
pub texts_count : (r : Request) → length (texts_in r) ≡ file_count (command_in r)
unfolding file_count
texts_count (Play files) = refl
texts_count (Rehearse files) = refl
texts_count (Print design) = refl
texts_count (Draw design) = refl
texts_count (Check files) = refl
texts_count (Prove design) = refl
texts_count (Advise files side) = refl
texts_count (Audit files) = refl
texts_count (Follow files size) = refl
texts_count (Init design) = refl
texts_count (Sched files) = refl
texts_count (Run files workers) = refl
texts_count (Recover files) = refl
texts_count (Dump files) = refl
texts_count (Replies files) = refl
texts_count (Verify files) = refl
texts_count (Migrate files) = refl
texts_count TpccDesign = refl
texts_count BookingDesign = refl
texts_count (BookingVerify files) = refl
texts_count (TpccLoad scale) = refl
texts_count (TpccMix mix) = refl
texts_count (Bench files mix) = refl
texts_count Help = refl
texts_count Version = refl

-- ---- a command

keeps_same : (bytes : Option (List ℕ)) → Keeps bytes bytes
keeps_same None = tt
keeps_same (Some bytes) = refl

-- a text is printed, or a front of it
pub ends_printed : (old new : Option (List ℕ)) (fault : Type 0) (status given : Status) (history : List Event) (settled : ℕ)
    (text shown : List ℕ) → shown ≡ text → (given ≡ status) ⊎ ((status ≡ Ran Done) × (given ≡ Sink) × fault) → WritesFront old new shown
    → Appends old new shown ⊎ fault → (given ≡ Ran Done → Appends old new shown)
    → Ends (record { status = status; text = text; history = history; settled = settled }) old new fault given history settled
ends_printed old new fault status given history settled text shown same is front whole done =
    subst (λ (t : List ℕ). Ends (record { status = status; text = t; history = history; settled = settled }) old new fault given history
    settled) same
    (record { given_is = is; history_is = refl; settled_is = refl; front = front; whole = whole; done = done })

module _ (over : Bool) (command : Command) (points files : List (List ℕ)) (disk disk' : Seen) (answer : Result Answer AllocError)
    (history : List Event) (settled : ℕ) (old : Option (List ℕ)) (fault : Type 0) where
  -- what is said is printed
  pub command_answered : (new : Option (List ℕ)) (given : Status) (a : Answer) → answer ≡ Ok a
      → IfOk answer (λ a. Means command points files disk disk' (telling_of a history settled))
      → Ends (record { status = Ran a.ending; text = a.text.items; history = history; settled = settled }) old new fault given history
      settled
      → Answered over (RunsSo command points files disk disk') old new fault given history settled
  command_answered new given a is means ends =
      let says : Means command points files disk disk' (telling_of a history settled) =
      subst (λ (r : Result Answer AllocError). IfOk r (λ a. Means command points files disk disk' (telling_of a history settled))) is means in
      inr (
        record { status = Ran a.ending; text = a.text.items; history = history; settled = settled },
        (a.ending, refl, says),
        ends,
      )

  -- memory ran out
  pub command_lacking : (e : AllocError) → answer ≡ Err e → (over ≡ false → IfErr answer (λ e. (history ≡ []) × (settled ≡ 0)))
      → Answered over (RunsSo command points files disk disk') old old fault Memory history settled
  command_lacking e is lacks = inl (
    refl,
    keeps_same old,
    λ without. subst (λ (r : Result Answer AllocError). IfErr r (λ e. (history ≡ []) × (settled ≡ 0))) is (lacks without),
  )

-- ---- the disk

-- a refusal before the journal is the command's own
pub refused_by : (status given : Status) (fault same : Type 0) (ending : Ending) → status ≡ Ran ending
    → (given ≡ status) ⊎ ((status ≡ Ran Done) × (given ≡ Sink) × fault) → (IsEarly ending → same) → IsBeforeJournal (code_of given) → same
refused_by status given fault same ending is (inl stays) so h =
    so (early ending (subst (λ (s : Status). IsBeforeJournal (code_of s)) (stays ∙ is) h))
refused_by status given fault same ending is (inr sunk) so h =
    let k = subst (λ (s : Status). IsBeforeJournal (code_of s)) sunk.1 h in absurd (omega (arith, k))

-- the disk failed only where the status says so
pub unfailed_by : (status given : Status) (fault : Type 0) (ending : Ending) → status ≡ Ran ending
    → (given ≡ status) ⊎ ((status ≡ Ran Done) × (given ≡ Sink) × fault) → code_of given ≢ 5 → ending ≢ DiskFailed
unfailed_by status given fault ending is (inl stays) other =
    not_failed ending (subst (λ (s : Status). code_of s ≢ 5) (stays ∙ is) other)
unfailed_by status given fault ending is (inr sunk) other =
    λ e. (let s : Ran DiskFailed ≡ Ran Done = ap Ran (sym e) ∙ sym is ∙ sunk.0 in absurd cc)
