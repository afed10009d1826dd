use Rattle.std.proofs.Common.{rules, refl, inr, ◌≡◌, ◌∙◌, List, ℕ, length, map, Some, string_bytes, sym, ap, subst, Vec, Global}
use Rattle.std.proofs.lemmas.List.{length-map}
use Rattle.acc_io.specs.Counted.{after_files}
use Rattle.acc_commands.specs.Requests.{command_in, points_in, texts_in}
use Rattle.acc_commands.specs.Words.{command_of, files_of, points_of, is_journalled, is_over_journal}
use Rattle.acc_commands.specs.Command.{Command}
use Rattle.acc_commands.specs.Files.{AreFiles, IsFirstRefused}
use Rattle.acc_commands.specs.Disks.{Seen, seen}
use Rattle.acc_cli.specs.declared.status.Status.TheVariants.{Usage, File}
use Rattle.acc_cli.specs.Meant.{Meant}
use Rattle.acc_cli.proofs.AnswerLemmas.{refusal_answered, answered_weaker, usage_means, file_means, command_means, over_same}
use Rattle.acc_cli.proofs.AnswerLemmas.{files_count, texts_count}
use Rattle.acc_cli.proofs.DiskLemmas.{short_files}
use Rattle.acc_cli.proofs.top.answer_line.Goals as goal

pub new-request-requires-clause-files : goal.new-request-requires-clause-files
new-request-requires-clause-files g c =
    ap length c.deref.ensures.value ∙ c.in-Ok.ensures.count
    ∙ files_count string_bytes c.files_in.result.now c.args.words.now c.in-Some.command c.files_in.ensures (search rules)

pub answer_command-requires : goal.answer_command-requires
answer_command-requires g c =
    let read : AreFiles (g.H.Shelf.held c.args.shelf.now) _ (texts_in c.new-request.result) =
    subst (AreFiles (g.H.Shelf.held c.args.shelf.now) _)
    (sym (c.new-request.ensures.texts ∙ ap (map (λ (v : Vec ℕ Global). v.items)) c.deref.ensures.value)) c.in-Ok.ensures.read in
    let short = short_files (g.H.Shelf.held c.args.shelf.now) _ (texts_in c.new-request.result) read in
    λ lifetimes. ((refl, tt), (short, (c.requires.ready, c.requires.searching)))

pub returns-in_default-clause-answered : goal.returns-in_default-clause-answered
returns-in_default-clause-answered g c =
    let held = g.H.Shelf.held c.args.shelf.now in
    let counts = g.H.Shelf.counts c.args.shelf.now in
    let words : List (List ℕ) = map string_bytes c.args.words.now in
    let seen_of : g.row.D.Denot → Seen = λ x. seen (g.D.Disk.told x) (g.D.Disk.faults x) in
    let before = seen_of c.args.disk in
    let after = seen_of c.refuse.result.disk in
    let r = c.refuse.ensures in
    refusal_answered _ _ _ _ _ _ (is_over_journal (command_of words)) (Meant held counts counts before after words) Usage c.usage.result
    (r.untouched.1, r.untouched.2) r.lacking r.printed
    (usage_means held counts counts before after words c.usage.result (search rules) refl (ap seen_of r.untouched.0) c.usage.ensures)

pub returns-in-Err-clause-answered : goal.returns-in-Err-clause-answered
returns-in-Err-clause-answered g c =
    let held = g.H.Shelf.held c.args.shelf.now in
    let counts = g.H.Shelf.counts c.args.shelf.now in
    let later = g.H.Shelf.counts c.read_all.new.shelf in
    let words : List (List ℕ) = map string_bytes c.args.words.now in
    let seen_of : g.row.D.Denot → Seen = λ x. seen (g.D.Disk.told x) (g.D.Disk.faults x) in
    let before = seen_of c.args.disk in
    let after = seen_of c.refuse-in-Err.result.disk in
    let command = c.in-Some.command in
    let name = c.in-Err.refusal.name.now in
    let error = c.in-Err.refusal.error in
    let form : command_of words ≡ Some command = search rules in
    let first : IsFirstRefused held counts later (files_of command words) name error =
    subst (λ (ns : List (List ℕ)). IsFirstRefused held counts later ns name error) c.files_in.ensures c.in-Err.ensures.refused in
    let r = c.refuse-in-Err.ensures in
    refusal_answered _ _ _ _ _ _ (is_over_journal (command_of words)) (Meant held counts later before after words) File
    c.refusal_text-text.result (r.untouched.1, r.untouched.2) r.lacking r.printed
    (file_means held counts later before after words command name error c.refusal_text-text.result form (ap seen_of r.untouched.0) first
    c.refusal_text-text.ensures)

pub returns-in-Ok-clause-answered : goal.returns-in-Ok-clause-answered
returns-in-Ok-clause-answered g c =
    let held = g.H.Shelf.held c.args.shelf.now in
    let words : List (List ℕ) = map string_bytes c.args.words.now in
    let request = c.new-request.result in
    let form : command_of words ≡ Some c.in-Some.command = search rules in
    let same : command_in request ≡ c.in-Some.command = c.new-request.ensures.command in
    let names = c.files_in.ensures ∙ ap (λ (command : Command). files_of command words) (sym same) in
    let given : AreFiles held (files_of (command_in request) words) (texts_in request) =
    subst (AreFiles held (files_of (command_in request) words))
    (sym (c.new-request.ensures.texts ∙ ap (map (λ (v : Vec ℕ Global). v.items)) c.deref.ensures.value))
    (subst (λ (ns : List (List ℕ)). AreFiles held ns (map (λ (v : Vec ℕ Global). v.items) c.in-Ok.files.items))
    names c.in-Ok.ensures.read) in
    answered_weaker _ _ _ _ _ _ (is_journalled (command_in request)) (is_over_journal (command_of words)) _ _
    (over_same words (command_in request) (form ∙ ap Some (sym same)))
    (command_means held _ _ _ _ words (command_in request) (points_in request) (texts_in request) (form ∙ ap Some (sym same))
    (c.new-request.ensures.points ∙ c.points_in.ensures.names ∙ ap (λ (command : Command). points_of command words) (sym same)) given
    (c.in-Ok.ensures.counted ∙ ap (λ (n : ℕ). after_files n (g.H.Shelf.counts c.args.shelf.now))
    (sym (length-map c.files_in.result.now string_bytes) ∙ ap length names))) c.answer_command.ensures.answered

pub returns-in-Ok-clause-leaves : goal.returns-in-Ok-clause-leaves
returns-in-Ok-clause-leaves g c =
    let held = g.H.Shelf.held c.args.shelf.now in
    let words : List (List ℕ) = map string_bytes c.args.words.now in
    let request = c.new-request.result in
    let form : command_of words ≡ Some c.in-Some.command = search rules in
    let same : command_in request ≡ c.in-Some.command = c.new-request.ensures.command in
    let names = c.files_in.ensures ∙ ap (λ (command : Command). files_of command words) (sym same) in
    let given : AreFiles held (files_of (command_in request) words) (texts_in request) =
    subst (AreFiles held (files_of (command_in request) words))
    (sym (c.new-request.ensures.texts ∙ ap (map (λ (v : Vec ℕ Global). v.items)) c.deref.ensures.value))
    (subst (λ (ns : List (List ℕ)). AreFiles held ns (map (λ (v : Vec ℕ Global). v.items) c.in-Ok.files.items))
    names c.in-Ok.ensures.read) in
    inr (record {
      command = command_in request;
      form = form ∙ ap Some (sym same);
      files = texts_in request;
      count = texts_count request;
      given = given;
      left = c.answer_command.ensures.leaves;
    })
