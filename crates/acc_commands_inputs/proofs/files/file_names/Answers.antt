use Rattle.std.proofs.Common.{List, ℕ, sym, ap, ◌∙◌, map, string_bytes}
use Rattle.acc_commands_inputs.specs.Words.{names_of}
use Rattle.acc_commands_inputs.proofs.files.file_names.Goals as goal

pub returns-in-Some : goal.returns-in-Some
returns-in-Some c =
    let words : List (List ℕ) = map string_bytes c.args.words.now in
    c.files_in.ensures ∙ sym (ap (λ o. names_of o words) (sym c.command_of.ensures.command ∙ c.in-Some.is))
