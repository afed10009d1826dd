use Rattle.std.proofs.Common.{length, string_bytes}
use Rattle.acc_commands_inputs.specs.Words.{verb_of, file_count}
use Rattle.acc_commands_inputs.proofs.FileNames.{slice_is}
use Rattle.acc_commands_inputs.proofs.files.files_in.Goals as goal

pub returns : goal.returns
returns c =
    let command = c.args.command in
    slice_is string_bytes c.args.words.now (length (verb_of command)) (file_count command) c.verb_count-first.result c.file_count.result
    c.verb_count-first.ensures c.file_count.ensures
